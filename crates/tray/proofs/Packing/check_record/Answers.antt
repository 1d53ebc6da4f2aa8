-- 21 first, then the pass that puts nothing.
use Rattle.std.proofs.Common.{sym, ap, ◌∙◌}
use Rattle.write_pass.specs.Walks.{summed}
use Rattle.tray.proofs.Records.{alone, malformed}
use Rattle.tray.proofs.Packing.check_record.Goals as goal

pub returns-then-not-is_list-clause-total : goal.returns-then-not-is_list-clause-total
returns-then-not-is_list-clause-total c = malformed _ _ _ c.args.self.sound (sym c.is_list.ensures ∙ c.if-not-is_list.true)

pub returns-clause-total : goal.returns-clause-total
returns-clause-total c = c.pass.ensures.total ∙ ap summed (alone _ _ _ c.args.self.is_options c.args.self.sound (sym c.is_list.ensures ∙ c.if-not-is_list.false))
