-- The next digit decides: stop, too large, or the digits after it, with one byte less left.
use Rattle.std.proofs.Common.{◌≡◌, ℕ, ◌+◌, ◌-◌, ◌^◌, ◌<◌, List, length, take, drop, sym, ap, ◌∙◌, arith}
use Rattle.std.specs.Prelude.{Option, Some, None, Result, Ok, Err}
use Rattle.definition.specs.Items.{digits}
use Rattle.definition.specs.declared.Refusal.{Refusal}
use Rattle.numeral.specs.Numerals.{digit_on, read_on}
use Rattle.numeral.proofs.Digits.{read_on_lem, onward, more_inside, left_behind, too_large}
use Rattle.numeral.proofs.+read_digits.Goals as goal

-- the digits of the bytes left, by the first of them
decided : (n at : ℕ) (s : List ℕ) (x : Result (Option ℕ) Refusal) → n < 2 ^ 64 → x ≡ digit_on n s → onward n at s x ≡ read_on n at (digits s)
decided n at s x h e = ap (onward n at s) e ∙ sym (read_on_lem n at s h)

-- a further digit stands inside the text, among the bytes left
inside : (n m at left : ℕ) (s : List ℕ) → Ok (Some m) ≡ digit_on n (take left (drop at s)) → (at < length s) × (0 < left)
inside n m at left s e = more_inside n s at left m (sym e)

-- past a further digit, those after it
past : (n m at left : ℕ) (s : List ℕ) → n < 2 ^ 64 → Ok (Some m) ≡ digit_on n (take left (drop at s))
    → read_on m (at + 1) (digits (take (left - 1) (drop (at + 1) s))) ≡ read_on n at (digits (take left (drop at s)))
past n m at left s h e =
    let i = inside n m at left s e in
    ap (λ (l : List ℕ). read_on m (at + 1) (digits l)) (sym (left_behind s at left i.0 i.1)) ∙ decided n at (take left (drop at s)) (Ok (Some m)) h e

pub overflow_add-at : goal.overflow_add-at
overflow_add-at t c = let a = c.args in omega (arith, inside a.n.now _ a.at.now a.left a.text.now.now (rw c.in-Ok-Some.field-0-is at c.in-Ok-Some.ensures))

pub overflow_sub-left : goal.overflow_sub-left
overflow_sub-left t c = let a = c.args in omega (arith, inside a.n.now _ a.at.now a.left a.text.now.now (rw c.in-Ok-Some.field-0-is at c.in-Ok-Some.ensures))

pub read_digits-requires : goal.read_digits-requires
read_digits-requires t c =
    let a = c.args in
    let i = inside a.n.now _ a.at.now a.left a.text.now.now (rw c.in-Ok-Some.field-0-is at c.in-Ok-Some.ensures) in
    (omega arith, c.requires)

pub returns-in-Ok-None : goal.returns-in-Ok-None
returns-in-Ok-None t c =
    let a = c.args in
    decided a.n.now a.at.now (take a.left (drop a.at.now a.text.now.now)) (Ok None) (omega arith) (rw c.in-Ok-None.field-0-is at c.in-Ok-None.ensures)

pub returns-in-Err : goal.returns-in-Err
returns-in-Err t c =
    let a = c.args in
    let s = take a.left (drop a.at.now a.text.now.now) in
    too_large a.n.now a.at.now (digits s) c.in-Err.field-0 (decided a.n.now a.at.now s (Err c.in-Err.field-0) (omega arith) c.in-Err.ensures)

pub returns-in-Ok-Some : goal.returns-in-Ok-Some
returns-in-Ok-Some t c =
    let a = c.args in
    c.read_digits.ensures ∙ past a.n.now c.in-Ok-Some.m a.at.now a.left a.text.now.now (omega arith) (rw c.in-Ok-Some.field-0-is at c.in-Ok-Some.ensures)
