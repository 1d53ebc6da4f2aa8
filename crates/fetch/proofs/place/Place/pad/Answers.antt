-- `pad` meets its contract: the sum that is counted says the same of the data as the sum.
use Prim.Native.Nat.{◌+◌}
use native.Mathlib.Omega.{arith}
use mathlib.Core.Path.{◌≡◌, ◌∙◌}
use Rattle.decode.proofs.Rests.{past_capped}
use Rattle.fetch.proofs.Places.{skips}
use Rattle.fetch.proofs.place.Place.pad.Goals as goal

pub returns-then-p-eq0 : goal.returns-then-p-eq0
returns-then-p-eq0 c =
    let none : c.args.k ≡ c.in_ok-p.p + c.args.k = omega (arith, c.if-p-eq0.true) in
    skips c.in_ok-p.ensures c.args.self.within c.past.result (rw (c.offset_in.ensures, none) at c.past.ensures)

pub returns : goal.returns
returns c =
    let e = rw (c.offset_in.ensures, c.saturating_add.ensures) at c.past-2.ensures in
    skips c.in_ok-p.ensures c.args.self.within c.past-2.result (e ∙ past_capped _ _ _ (omega arith))
