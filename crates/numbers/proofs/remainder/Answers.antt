-- `remainder` meets its contract: from 2 ^ 64 on the low 64 bits are left, with the sign.
use Rattle.std.proofs.Common.{◌≡◌, ℕ, ◌+◌, ◌-◌, ◌*◌, ◌/◌, ◌%◌, ◌^◌, pos, T, rules, ap, ◌∙◌}
use lib.Ieee.{binary64, fits, of_int, to_bits}
use Rattle.numbers.proofs.LowBits.{shifted, positive, negative}
use Rattle.numbers.proofs.remainder.Goals as goal
use Rattle.numbers.proofs.remainder.Goals.{Start, After-nearest_u64_to_f64-r}

held : (c : Start) → T (fits binary64 c.args.x)
held c = search rules

rounded : (c : After-nearest_u64_to_f64-r) → c.nearest_u64_to_f64-r.result ≡ of_int binary64 (pos ((2 ^ 52 + to_bits binary64 c.args.x % 2 ^ 52) * 2 ^ (to_bits binary64 c.args.x % 2 ^ 63 / 2 ^ 52 - 1075) % 2 ^ 64))
rounded c = c.nearest_u64_to_f64-r.ensures ∙ ap (λ (n : ℕ). of_int binary64 (pos n)) (c.unbounded_shl.ensures ∙ shifted _ _)

pub returns-then-bits-ge-SIGN : goal.returns-then-bits-ge-SIGN
returns-then-bits-ge-SIGN c =
    negative c.args.x (held (goal.at.returns-then-bits-ge-SIGN c).Start) c.if-exponent-le-EXPONENT_OF_TOP.false c.if-exponent-eq-EXPONENT_OF_INFINITY.false
    c.nearest_u64_to_f64-r.result (rounded (goal.at.returns-then-bits-ge-SIGN c).After-nearest_u64_to_f64-r) c.if-bits-ge-SIGN.true

pub returns-else-bits-ge-SIGN : goal.returns-else-bits-ge-SIGN
returns-else-bits-ge-SIGN c =
    positive c.args.x (held (goal.at.returns-else-bits-ge-SIGN c).Start) c.if-exponent-le-EXPONENT_OF_TOP.false c.if-exponent-eq-EXPONENT_OF_INFINITY.false
    c.nearest_u64_to_f64-r.result (rounded (goal.at.returns-else-bits-ge-SIGN c).After-nearest_u64_to_f64-r) c.if-bits-ge-SIGN.false
