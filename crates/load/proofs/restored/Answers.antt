-- `restored` meets its contract: half of 256 ^ size is added and, wrapping, subtracted.
use Rattle.std.proofs.Common.{◌≡◌, ℕ, ◌+◌, ◌-◌, ◌/◌, ◌%◌, ◌^◌, ◌<◌, ◌≤◌, ◌∙◌, arith, lit<, mod-lt, to_z-of_z, w64}
use native.Mathlib.Nat.{pow-le-pow_right}
use Rattle.definition.specs.Bytes.{low}
use Rattle.laws.proofs.Bytes.{pow_pos}
use Rattle.words.proofs.Placing.{shifted_one}
use Rattle.words.proofs.Twos.{restored_is}
use borrow.Author.Rules.{sfits_of}
use Rattle.load.proofs.restored.Goals as goal

count_most : (n : ℕ) → n < 8 → 256 ^ n ≤ 2 ^ 56
count_most n h = pow-le-pow_right (lit< tt) {i = n} {j = 7} (omega arith)

-- what is taken away wrapping, and added again
added_back : (x h : ℕ) → x < 2 ^ 64 → h ≤ 2 ^ 64 → ((x + (2 ^ 64 - h)) % 2 ^ 64 + h) % 2 ^ 64 ≡ x
added_back x h k l = omega arith

pub overflow_add-word : goal.overflow_add-word
overflow_add-word c =
    let n = c.args.size in
    let h = count_most n c.if-size-lt8.true in
    let q : low n ≡ n = omega arith in
    let l : c.args.word < 256 ^ n = rw q at c.requires in
    rw (shifted_one n c.if-size-lt8.true) (omega arith)

pub nonzero_rem-word : goal.nonzero_rem-word
nonzero_rem-word c =
    rw (shifted_one c.args.size c.if-size-lt8.true) (pow_pos c.args.size)

pub returns-then-size-lt8 : goal.returns-then-size-lt8
returns-then-size-lt8 c =
    let a = c.args in
    let h = c.if-size-lt8.true in
    let most = count_most a.size h in
    to_z-of_z (sfits_of {w = w64} c.to_signed.type_inv)
    ∙ c.to_signed.ensures
    ∙ rw (shifted_one a.size h) (restored_is a.size a.word _ h c.requires (omega arith) (added_back _ _ (omega (arith, most, mod-lt (a.word + 256 ^ a.size / 2) (pow_pos a.size))) (omega (arith, most))))

pub returns-else-size-lt8 : goal.returns-else-size-lt8
returns-else-size-lt8 c =
    let q : low c.args.size ≡ 8 = omega arith in
    rw q (to_z-of_z (sfits_of {w = w64} c.to_signed-else-size-lt8.type_inv) ∙ c.to_signed-else-size-lt8.ensures)
