-- The settings at the format's front, the first walk, 22, and the second walk.
use Rattle.std.proofs.Common.{◌≡◌, ◌-◌, arith, subst, length, take, drop}
use Rattle.laws.proofs.Exits.{exit_is}
use Rattle.definition.specs.Options.{Table, options}
use Rattle.definition.specs.Trays.{records_of}
use Rattle.front.specs.Leading.{Leads}
use Rattle.tray.specs.Walks.{tray_from}
use Rattle.tray.proofs.Led.{led}
use Rattle.tray.proofs.Calls.{refused_call, short_call, filled_call}
use Rattle.tray.proofs.pack_tray.Goals as goal
use Rattle.tray.proofs.pack_tray.Goals.{After-settings-front}

-- where the settings lead to
leads : (s : After-settings-front) → Leads options s.args.format.now s.settings-front.result.at s.settings-front.result.state
leads s = subst (λ (t : Table). Leads t s.args.format.now s.settings-front.result.at s.settings-front.result.state) s.table-options.ensures s.settings-front.ensures

-- the records are those of the whole format
are : (s : After-settings-front) → let f = s.args.format.now in
    tray_from s.settings-front.result.state (take (length f - s.settings-front.result.at) (drop s.settings-front.result.at f)) s.args.run.now ≡ records_of f s.args.run.now
are s = led (leads s) s.args.run.now

pub returns-in_err-n : goal.returns-in_err-n
returns-in_err-n c =
    rw (exit_is c.from_residual.ensures.1) (refused_call _ _ _ (are (goal.at.returns-in_err-n c).After-settings-front) c.check_tray.ensures.bytes c.in_err-n.was c.check_tray.ensures.tray)

pub returns-then-out-n : goal.returns-then-out-n
returns-then-out-n c =
    rw c.from.ensures
    (short_call _ _ _ (are (goal.at.returns-then-out-n c).After-settings-front) c.check_tray.ensures.bytes c.in_ok-n.was c.check_tray.ensures.tray (omega arith) c.if-out-n.true)

pub returns : goal.returns
returns c =
    filled_call _ _ _ (are (goal.at.returns c).After-settings-front) c.check_tray.ensures.bytes c.in_ok-n.was c.check_tray.ensures.tray (omega arith) c.if-out-n.false c.put_tray.ensures
