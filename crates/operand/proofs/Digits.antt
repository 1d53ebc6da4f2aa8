-- What the numeral of an option shows at once, and what that says of its operand.
use Prim.Native.Nat.{ℕ, ◌+◌, ◌*◌, ◌-◌, ◌^◌, ◌≤◌, ◌<◌}
use mathlib.Core.Path.{◌≡◌, refl, sym, ◌∙◌}
use mathlib.Core.Bool.{Bool, true, false, cond}
use mathlib.Core.List.{List, [], ◌∷◌}
use native.Mathlib.Omega.{arith}
use lib.Dec.{leb, ltb, eqb}
use borrow.Table.Steps.{cases}
use borrow.Author.Tests.{lt-ltb, le-leb, leb-true, leb-false, ltb-true, ltb-false, eqb-false}
use Rattle.definition.specs.Answers.{accepted}
use Rattle.definition.specs.Options.{Table}
use Rattle.definition.specs.Items.{is_digit, digits, value, numeral_of}
use Rattle.definition.specs.Ops.{is_power}
use Rattle.definition.specs.Items as Numeral
use Rattle.numeral.specs.Numerals.{short_of}
use Rattle.numeral.specs.declared.Short.{Short}
use Rattle.laws.proofs.Answers.{both_parts}
use Rattle.options.specs.Packed.{size_at, entry_at}
use Rattle.operand.specs.Operands.{operand_by, operand_at, shown_at}
use Rattle.operand.proofs.Entries.{cut, sized_by, chars_by, limit_by}
use Rattle.operand.proofs.Numerals.{by_digits}
use Rattle.operand.proofs.Operands.{operand_bare}

-- the first of the digits is one
digits_digit : (s : List ℕ) (d : ℕ) (ds : List ℕ) → digits s ≡ d ∷ ds → is_digit d ≡ true
unfolding digits
digits_digit [] d ds q = let z : ◌≡◌ {A = ℕ} 0 1 = cc in absurd (omega arith)
digits_digit (b ∷ s) d ds q =
    cases (is_digit b)
    (λ r. let p = rw r at q in let f : b ≡ d = cc in rw (← f) r)
    (λ r. let p = rw r at q in let z : ◌≡◌ {A = ℕ} 0 1 = cc in absurd (omega arith))

module _ (t : Table) (e : ℕ) (s : List ℕ) where
  -- what is shown says of the operand: an option's own size, where it has no numeral; a digit of 1 to 9, where it is accepted; else that the option takes something
  abbrev pub Shows : Short → Type 0
  Shows Short.Missing = e < 240 → accepted (size_at e, 0) ≡ operand_at t (entry_at e) s
  Shows (Short.Digit n) = (244 ≤ e → is_power n ≡ true) → accepted (n, 1) ≡ operand_at t (entry_at e) s
  Shows Short.Long = 192 ≤ e

  -- one digit of 1 to 9
  one_digit : (d : ℕ) → 192 ≤ e → e < 248 → digits s ≡ d ∷ [] → (d ≡ 48 → ⊥) → Shows (Short.Digit (d - 48))
  unfolding numeral_of value
  one_digit d l h q n p =
      let b = both_parts (leb 48 d) (leb d 57) (digits_digit s d [] q) in
      let low : 1 ≤ d - 48 = least (leb-true 48 d b.0) in
      let high : d ≤ 57 = leb-true d 57 b.1 in
      let v : 0 * 10 + (d - 48) ≡ d - 48 = omega arith in
      sym (by_digits t e l h s ∙ rw (q, v, lt-ltb (d - 48) (2 ^ 64) (omega arith), checked low (omega arith)))
    where
      least : 48 ≤ d → 1 ≤ d - 48
      least k = omega arith

      checked : 1 ≤ d - 48 → d - 48 ≤ 9 → operand_by (entry_at e).class (entry_at e).size (Numeral.Value (d - 48)) ≡ accepted (d - 48)
      checked i j =
          cut e 240 (λ k. sized_by e l k _ ∙ rw (le-leb 1 (d - 48) i, le-leb (d - 48) 16 (omega arith))) λ m.
          cut e 244 (λ k. chars_by e m k _) λ m.
          limit_by e m h _ ∙ rw (le-leb 1 (d - 48) i, le-leb (d - 48) 16 (omega arith), p m)

  by_short : 192 ≤ e → e < 248 → (ds : List ℕ) → digits s ≡ ds → Shows (short_of ds)
  unfolding numeral_of
  by_short l h [] q = λ k. sym (by_digits t e l h s ∙ rw (q, sized_by e l k Numeral.Missing))
  by_short l h (d ∷ []) q = go (eqb d 48) refl
    where
      go : (b : Bool) → eqb d 48 ≡ b → Shows (cond b Short.Long (Short.Digit (d - 48)))
      go true r = l
      go false r = one_digit d l h q (eqb-false d 48 r)
  by_short l h (d ∷ c ∷ ds) q = l

  pub shows : Shows (shown_at e s)
  shows = go (ltb e 192) (leb 248 e) refl refl
    where
      go : (x u : Bool) → ltb e 192 ≡ x → leb 248 e ≡ u → Shows (cond x Short.Missing (cond u Short.Long (short_of (digits s))))
      go true u r k = λ h. operand_bare t e (ltb-true e 192 r) s
      go false true r k = ltb-false e 192 r
      go false false r k = by_short (ltb-false e 192 r) (leb-false 248 e k) (digits s) refl
