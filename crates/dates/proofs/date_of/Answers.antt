-- `date_of` meets its contract: the tests are the definition's.
use Prim.Native.Nat.{ℕ}
use native.Mathlib.Omega.{arith}
use mathlib.Core.Path.{◌≡◌, refl, sym, ap, ◌∙◌}
use lib.IntN.{ℤ, pos, negsuc, nat_abs}
use mir.Syntax.{w64}
use mir.Val.{SFits}
use mir.Facts.{to_z-of_z}
use Rattle.std.specs.Int.{FitsUnsignedBits}
use Rattle.laws.proofs.Exits.{exit_is}
use Rattle.definition.specs.Answers.{refused, accepted}
use Rattle.calendar.specs.Calendar.{in_two_bytes, date_after, date_of}
use Rattle.calendar.proofs.Calls.{fits, date_of_lem}
use Rattle.dates.proofs.date_of.Goals as goal

-- what two bytes don't hold
late : (n : ℕ) {k : ℕ} → refused k ≡ in_two_bytes n → refused k ≡ date_of (pos n)
unfolding date_of
late n e = rw (← e)

-- what is no number from 0 on
none : (x : ℤ) → SFits w64 x → (FitsUnsignedBits 64 x → ⊥) → refused 24 ≡ date_of x
unfolding date_of
none (pos n) f h = absurd (h (omega (arith, f)))
none (negsuc n) f h = refl

-- what is one
whole : (x : ℤ) (n : ℕ) → FitsUnsignedBits 64 x × (n ≡ nat_abs x) → pos n ≡ x
whole (pos m) n e = ap pos e.1
whole (negsuc m) n e = absurd e.0

pub returns-in_default : goal.returns-in_default
returns-in_default c = none c.args.day c.ranges.day (rw (to_z-of_z c.ranges.day) at c.in_default.ensures)

pub returns-in_err-n : goal.returns-in_err-n
returns-in_err-n c =
    rw (exit_is c.from_residual.ensures.1) (late _ c.in_err-n.ensures ∙ ap date_of (whole _ _ (rw (to_z-of_z c.ranges.day) at c.in-Ok.ensures)))

pub date_after-requires : goal.date_after-requires
date_after-requires c = let f = fits c.in-Ok.day (sym c.in_ok-n.ensures) in omega (arith, f.0, f.1)

pub returns : goal.returns
returns c =
    let f = fits c.in-Ok.day (sym c.in_ok-n.ensures) in
    ap accepted (c.date_after.ensures ∙ ap date_after (sym f.1)) ∙ sym (date_of_lem _ f.0) ∙ ap date_of (whole _ _ (rw (to_z-of_z c.ranges.day) at c.in-Ok.ensures))
