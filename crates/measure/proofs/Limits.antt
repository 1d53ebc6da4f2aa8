-- Measuring keeps the limit a power of two of 1 to 16: only ! sets it, and to no other number.
use Prim.Native.Nat.{ℕ, ◌+◌, ◌-◌, ◌^◌}
use mathlib.Core.Path.{◌≡◌, subst}
use lib.Dec.{T, leb}
use Rattle.definition.specs.Answers.{accepted}
use Rattle.definition.specs.States.{natural, further, longer, padding}
use Rattle.definition.specs.Measuring.{size_of, measure_pad, measure_op}
use Rattle.definition.specs.declared.State.{State}
use Rattle.definition.specs.declared.Op.{Op}
use Rattle.laws.proofs.Answers.{same, bound, passed}
use Rattle.laws.proofs.Ops.{Limited, set_limited, valid_op}

pad_limited : (s t : State) (n k : ℕ) → measure_pad s n k ≡ accepted t → Limited s → Limited t
unfolding longer
pad_limited s t n k e h =
    let b = bound (padding s n) (λ p. longer s (p + k)) e in
    let m = b.val + k in
    subst Limited (same (passed (leb (s.length + m) (2 ^ 63 - 1)) 9 (accepted (further s m)) b.rest).1) h

pub op_limited : (s t : State) (o : Op) → measure_op s o ≡ accepted t → T (valid_op o) → Limited s → Limited t
unfolding measure_op
op_limited s t Op.Blank e ok h = subst Limited (same e) h
op_limited s t (Op.Set x) e ok h = subst Limited (same e) (set_limited x s ok h)
op_limited s t (Op.Pad n k) e ok h = pad_limited s t n k e h
op_limited s t (Op.Put f) e ok h = let b = bound (size_of f) (measure_pad s (natural f)) e in pad_limited s t (natural f) b.val b.rest h
