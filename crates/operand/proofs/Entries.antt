-- Laws of the entries that packed numbers stand for, by their ranges.
use Prim.Native.Nat.{ℕ, ◌≤◌, ◌<◌}
use mathlib.Core.Path.{◌≡◌, refl}
use mathlib.Core.Bool.{Bool, true, false, cond}
use native.Mathlib.Omega.{arith}
use lib.Dec.{T, ltb, eqb}
use lib.Ieee.Bits.{is_true}
use borrow.Table.Steps.{cases}
use borrow.Author.Tests.{lt-ltb, le-ltb, ltb-true, ltb-false}
use Rattle.definition.specs.Options.{entry, Class, NoOption, Blank, Order, Limit, Number, Chars, ZeroEnded, Counted, Fill, Align, Nothing, Digits, DigitsBehindX, NextByte}
use Rattle.definition.specs.Ops.{within16, size_or, limit_or, needed}
use Rattle.definition.specs.declared.Kind.TheVariants.{Signed, Unsigned}
use Rattle.definition.specs.Items.{Numeral}
use Rattle.options.specs.Packed.{kind_at, size_at, plain_at, entry_at}
use Rattle.operand.specs.Operands.{size_by, operand_by}

-- by whether e is below n
pub cut : {P : Type 0} (e n : ℕ) → (e < n → P) → (n ≤ e → P) → P
cut e n low high = cases (ltb e n) (λ q. low (ltb-true e n q)) (λ q. high (ltb-false e n q))

-- an own size of 1 to 16 needs no check
pub own_size : (n : ℕ) → T (within16 n) → (m : Numeral) → size_or n m ≡ size_by n m
own_size n q Numeral.Missing = rw (is_true (within16 n) q)
own_size n q Numeral.TooLarge = refl
own_size n q (Numeral.Value v) = refl

module _ (e : ℕ) where
  pub at_fixed : e < 112 → entry_at e ≡ entry (Number (kind_at e)) (size_at e) (cond (eqb e 84) DigitsBehindX Nothing)
  unfolding entry_at
  at_fixed h = rw (lt-ltb e 112 h)

  pub at_plain : 112 ≤ e → e < 192 → entry_at e ≡ entry (plain_at e) (size_at e) Nothing
  unfolding entry_at
  at_plain l h = rw (le-ltb e 112 l, lt-ltb e 192 h)

  pub at_signed : 192 ≤ e → e < 208 → entry_at e ≡ entry (Number Signed) (size_at e) Digits
  unfolding entry_at
  at_signed l h = rw (le-ltb e 112 (omega arith), le-ltb e 192 l, lt-ltb e 208 h)

  pub at_unsigned : 208 ≤ e → e < 224 → entry_at e ≡ entry (Number Unsigned) (size_at e) Digits
  unfolding entry_at
  at_unsigned l h = rw (le-ltb e 112 (omega arith), le-ltb e 192 (omega arith), le-ltb e 208 l, lt-ltb e 224 h)

  pub at_counted : 224 ≤ e → e < 240 → entry_at e ≡ entry Counted (size_at e) Digits
  unfolding entry_at
  at_counted l h = rw (le-ltb e 112 (omega arith), le-ltb e 192 (omega arith), le-ltb e 208 (omega arith), le-ltb e 224 l, lt-ltb e 240 h)

  pub at_chars : 240 ≤ e → e < 244 → entry_at e ≡ entry Chars 0 Digits
  unfolding entry_at
  at_chars l h = rw (le-ltb e 112 (omega arith), le-ltb e 192 (omega arith), le-ltb e 208 (omega arith), le-ltb e 224 (omega arith), le-ltb e 240 l, lt-ltb e 244 h)

  pub at_limit : 244 ≤ e → e < 248 → entry_at e ≡ entry Limit 8 Digits
  unfolding entry_at
  at_limit l h = rw (le-ltb e 112 (omega arith), le-ltb e 192 (omega arith), le-ltb e 208 (omega arith), le-ltb e 224 (omega arith), le-ltb e 240 (omega arith), le-ltb e 244 l, lt-ltb e 248 h)

  pub at_align : 248 ≤ e → e < 252 → entry_at e ≡ entry Align 0 NextByte
  unfolding entry_at
  at_align l h = rw (le-ltb e 112 (omega arith), le-ltb e 192 (omega arith), le-ltb e 208 (omega arith), le-ltb e 224 (omega arith), le-ltb e 240 (omega arith), le-ltb e 244 (omega arith), le-ltb e 248 l, lt-ltb e 252 h)

  pub at_none : 252 ≤ e → entry_at e ≡ entry NoOption 0 Nothing
  unfolding entry_at
  at_none l = rw (le-ltb e 112 (omega arith), le-ltb e 192 (omega arith), le-ltb e 208 (omega arith), le-ltb e 224 (omega arith), le-ltb e 240 (omega arith), le-ltb e 244 (omega arith), le-ltb e 248 (omega arith), le-ltb e 252 l)

  -- an option that may have a numeral takes digits
  pub digits_rule : 192 ≤ e → e < 248 → (entry_at e).rule ≡ Digits
  digits_rule l h =
      cut e 208 (λ k. rw (at_signed l k)) λ l.
      cut e 224 (λ k. rw (at_unsigned l k)) λ l.
      cut e 240 (λ k. rw (at_counted l k)) λ l.
      cut e 244 (λ k. rw (at_chars l k)) λ l.
      rw (at_limit l h)

  -- i I l L s
  pub sized_by : 192 ≤ e → e < 240 → (m : Numeral) → operand_by (entry_at e).class (entry_at e).size m ≡ size_by (size_at e) m
  sized_by l h m =
      cut e 208 (λ k. rw (at_signed l k)) λ l.
      cut e 224 (λ k. rw (at_unsigned l k)) λ l.
      rw (at_counted l h)

  -- c, and !
  pub chars_by : 240 ≤ e → e < 244 → (m : Numeral) → operand_by (entry_at e).class (entry_at e).size m ≡ needed m
  chars_by l h m = rw (at_chars l h)

  pub limit_by : 244 ≤ e → e < 248 → (m : Numeral) → operand_by (entry_at e).class (entry_at e).size m ≡ limit_or 8 m
  limit_by l h m = rw (at_limit l h)

  -- a statement about what has no operand, class by class
  pub plain_all : (P : Class → Type 0) → P Blank → ((o : Bool) → P (Order o)) → P Fill → P ZeroEnded → P (plain_at e)
  unfolding plain_at
  plain_all P blank order fill ended = go (eqb e 112) (eqb e 128) (eqb e 144) (eqb e 160)
    where
      go : (a b c d : Bool) → P (cond a Blank (cond b (Order false) (cond c (Order true) (cond d Fill ZeroEnded))))
      go true b c d = blank
      go false true c d = order false
      go false false true d = order true
      go false false false true = fill
      go false false false false = ended
