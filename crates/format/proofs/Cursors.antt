-- What an item does is its option's class with its operand; and what the cursor reads.
use Prim.Native.Nat.{ℕ, ◌+◌, ◌≤◌, ◌<◌}
use mathlib.Core.Path.{◌≡◌, refl, sym, ap, ◌∙◌}
use mathlib.Core.Bool.{Bool, true, false, cond}
use mathlib.Core.List.{List, ◌∷◌}
use mathlib.Core.Option.{Option, none, some}
use native.Mathlib.Omega.{arith}
use lib.Dec.{T, eqb}
use mir.Facts.{and_yes}
use lib.ListN.{length, drop, drop_of_length-le}
use Rattle.std.specs.List.{HoldsAt}
use Rattle.definition.specs.Answers.{Checked, refused, accepted, ◌>>=◌}
use Rattle.definition.specs.Options.{Table, Class, NumeralRule, Nothing, Digits, DigitsBehindX, NextByte, Entry}
use Rattle.definition.specs.Items.{taken, taken_by, numeral_of, Numeral, Missing}
use Rattle.definition.specs.Ops.{within16, op_by, op_with, op_of}
use Rattle.laws.proofs.Ops.{entry_ok, Sizes}
use Rattle.definition.specs.declared.Op.{Op}
use Rattle.options.specs.Packed.{plain_at, entry_at}
use Rattle.operand.specs.Operands.{operand_by, operand_with, taking, operand_at}
use Rattle.format.specs.Ops.{op_for, op_at}
use Rattle.format.specs.Steps.{next_at}
use Rattle.numeral.proofs.Digits.{got}
use Rattle.operand.proofs.Entries.{cut, at_fixed, at_plain, at_align, at_none, digits_rule, own_size, plain_all}

-- ---- the operation by the operand

-- what an option of a class does with a checked operand
abbrev does : Class → Checked ℕ → Checked Op
does c x = x >>= λ k. accepted (op_for c k)

-- where an option's own size is one of 1 to 16, its operand is checked with any numeral
op_by_lem : (c : Class) (r : NumeralRule) (n : ℕ) → T (entry_ok c r n) → (m : Numeral) → op_by c n m ≡ does c (operand_by c n m)
op_by_lem Class.NoOption r n h m = refl
op_by_lem Class.Blank r n h m = refl
op_by_lem (Class.Order o) r n h m = refl
op_by_lem Class.Limit r n h m = refl
op_by_lem (Class.Number k) r n h m = rw (own_size n (and_yes (within16 n) _ h).0 m)
op_by_lem Class.Chars r n h m = refl
op_by_lem Class.ZeroEnded r n h m = refl
op_by_lem Class.Counted r n h m = rw (own_size n h m)
op_by_lem Class.Fill r n h m = refl
op_by_lem Class.Align r n h m = refl

op_with_lem : (t : Table) (r : NumeralRule) (e : Entry) (s : List ℕ) → (r ≡ NextByte → e.class ≡ Class.Align) → T (entry_ok e.class r e.size) → op_with t r e s ≡ does e.class (operand_with t r e s)
op_with_lem t Nothing e s x h = op_by_lem e.class Nothing e.size h Missing
op_with_lem t Digits e s x h = op_by_lem e.class Digits e.size h (numeral_of s)
op_with_lem t DigitsBehindX e s x h = op_by_lem e.class DigitsBehindX e.size h Missing
op_with_lem t NextByte e s x h = rw (x refl)

-- only X takes the next byte
next_align : (e : ℕ) → (entry_at e).rule ≡ NextByte → (entry_at e).class ≡ Class.Align
next_align e q =
    cut e 112 (λ h. by84 (eqb e 84) (rw (at_fixed e h) at q)) λ l.
    cut e 192 (λ h. by84 false (rw (at_plain e l h) at q)) λ l.
    cut e 248 (λ h. digits (rw (digits_rule e l h) at q)) λ l.
    cut e 252 (λ h. rw (at_align e l h)) λ l.
    by84 false (rw (at_none e l) at q)
  where
    by84 : (t : Bool) → cond t DigitsBehindX Nothing ≡ NextByte → (entry_at e).class ≡ Class.Align
    by84 true p = let z : ◌≡◌ {A = ℕ} 0 1 = cc in absurd (omega arith)
    by84 false p = let z : ◌≡◌ {A = ℕ} 0 1 = cc in absurd (omega arith)

    digits : Digits ≡ NextByte → (entry_at e).class ≡ Class.Align
    digits p = let z : ◌≡◌ {A = ℕ} 0 1 = cc in absurd (omega arith)

-- ---- the item at a place, by its operand
abbrev pub step_of : ℕ → ℕ → Checked (ℕ × ℕ) → Checked (Option (Op × ℕ))
step_of at e x = x >>= λ r. accepted (some (op_at e r.0, at + 1 + r.1))

step_of_lem : (at e n : ℕ) (c : Checked ℕ) → (does (entry_at e).class c >>= λ o. accepted (some (o, at + 1 + n))) ≡ step_of at e (taking n c)
step_of_lem at e n (refused k) = refl
step_of_lem at e n (accepted k) = refl

next_cons : (t : Table) → Sizes t → (at b : ℕ) (s : List ℕ) (e : ℕ) → entry_at e ≡ t b → next_at t at (b ∷ s) ≡ step_of at e (operand_at t (entry_at e) s)
unfolding next_at taken op_of operand_at
next_cons t h at b s e q =
    let l = taken_by t (entry_at e).rule s in
    rw (← q, op_with_lem t (entry_at e).rule (entry_at e) l (next_align e) (rw q (h b))) (step_of_lem at e (length l) (operand_with t (entry_at e).rule (entry_at e) l))

pub next_end : (t : Table) (s : List ℕ) (at : ℕ) → length s ≤ at → accepted none ≡ next_at t at (drop at s)
unfolding next_at
next_end t s at h = rw (drop_of_length-le s h)

-- inside the format, with the byte b there, its entry e, and the operand x of what follows
pub next_step : (t : Table) → Sizes t → (s : List ℕ) (at b : ℕ) → (at < length s) × HoldsAt (λ y. b ≡ y) s at → (e : ℕ) → entry_at e ≡ t b → (x : Checked (ℕ × ℕ))
    → x ≡ operand_at t (entry_at e) (drop (at + 1) s) → step_of at e x ≡ next_at t at (drop at s)
next_step t d s at b h e q x p = ap (step_of at e) p ∙ sym (ap (next_at t at) (got s at b h) ∙ next_cons t d at b (drop (at + 1) s) e q)

-- what has no operand does the same with any
pub plain_op : (e n : ℕ) → op_for (plain_at e) 0 ≡ op_for (plain_at e) n
plain_op e n = plain_all e (λ c. op_for c 0 ≡ op_for c n) refl (λ o. refl) refl refl

-- X, and what is no option
pub align_op : (e n : ℕ) → 248 ≤ e → Op.Pad n 0 ≡ op_at e n
align_op e n l = cut e 252 (λ h. rw (at_align e l h)) λ k. rw (at_none e k)
