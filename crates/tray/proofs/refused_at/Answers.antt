-- Whether the rest is a run decides.
use Rattle.std.proofs.Common.{sym, ap, ◌∙◌}
use Rattle.tray.specs.Walks.{placed_of}
use Rattle.tray.proofs.Walking.{refused_false}
use Rattle.tray.proofs.refused_at.Goals as goal

pub returns-else-is_run : goal.returns-else-is_run
returns-else-is_run c =
    ap placed_of c.from.ensures ∙ sym (refused_false _ c.args.place c.args.rest.now (sym c.is_run.ensures ∙ c.if-is_run.false))
