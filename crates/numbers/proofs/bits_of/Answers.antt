-- `bits_of` meets its contract: the sign goes apart, and the sum is below 2 ^ 64 as what it is equal to.
use Rattle.std.proofs.Common.{◌≡◌, ℕ, suc, ◌+◌, ◌^◌, pos, sym, ap, ◌∙◌, add-one, to_z-of_z}
use mathlib.Core.Option.{some}
use Rattle.words.proofs.Twos.{negative}
use Rattle.definition.specs.Bytes.{extent}
use Rattle.numbers.proofs.Nearest.{bits, bits_lt, bits_negative}
use Rattle.numbers.proofs.bits_of.Goals as goal
use Rattle.numbers.proofs.bits_of.Goals.{After-rounded}

sum : (c : After-rounded) → 2 ^ 63 + c.rounded.result ≡ bits c.args.n
sum c =
    let e = extent c.args.n in
    -- a signed number that goes to a call is read back from its bits
    let got : c.extent.result ≡ e = c.extent.ensures ∙ ap extent (to_z-of_z c.ranges.n) in
    let m : c.extent.result + 1 ≡ suc e = ap (λ (n : ℕ). n + 1) got ∙ add-one e in
    let r : c.rounded.result ≡ bits (pos (suc e)) = c.rounded.ensures ∙ ap (λ (n : ℕ). bits (pos n)) m in
    ap (λ (b : ℕ). 2 ^ 63 + b) r ∙ bits_negative e ∙ sym (ap bits (negative c.args.n c.ranges.n c.if-n-lt0.true))

pub overflow_add-result : goal.overflow_add-result
overflow_add-result c = record { fits = rw (sum c) (bits_lt c.args.n) }

pub returns-then-n-lt0 : goal.returns-then-n-lt0
returns-then-n-lt0 c = ap some (sum c)
