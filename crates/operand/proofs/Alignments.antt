-- What X takes and aligns by, by the entry of the byte behind it.
use Rattle.std.specs.Prelude.{slice_get, Some, None}
use Prim.Native.Nat.{ℕ, suc, ◌+◌, ◌≤◌, ◌<◌}
use mathlib.Core.Path.{◌≡◌, refl, sym, ap, ◌∙◌}
use mathlib.Core.Bool.{true, ◌&&◌, cond}
use mathlib.Core.List.{List, [], ◌∷◌}
use native.Mathlib.Numerals.{add-one, one-add}
use native.Mathlib.Omega.{arith}
use lib.Dec.{T}
use mir.Facts.{and_yes}
use lib.ListN.{length, drop}
use borrow.Author.Tests.{lt-ltb, le-ltb, ne_eqb}
use Rattle.definition.specs.Answers.{Checked, refused, accepted}
use Rattle.definition.specs.Options.{entry, Table, Nothing, Entry}
use Rattle.definition.specs.Items.{digits, is_number, behind_x, next_byte, numeral_of}
use Rattle.definition.specs.Ops.{within16, size_or, natural_by}
use Rattle.options.specs.Packed.{size_at, entry_at}
use Rattle.operand.specs.Operands.{taking, operand_at, natural_at, one_more}
use Rattle.laws.proofs.Ops.{ok}
use Rattle.operand.proofs.Entries.{cut, at_fixed, at_plain, at_signed, at_unsigned, at_counted, at_chars, at_limit, at_align, at_none, own_size, sized_by, plain_all}
use Rattle.operand.proofs.Numerals.{by_digits}

pub natural_nil : (t : Table) (s : List ℕ) → None ≡ slice_get s 0 → refused 7 ≡ natural_at t s
unfolding natural_at next_byte
natural_nil t [] q = refl
natural_nil t (b ∷ s) q = let z : ◌≡◌ {A = ℕ} 0 1 = cc in absurd (omega arith)

pub natural_high : (t : Table) (s : List ℕ) (b : ℕ) → Some b ≡ slice_get s 0 → 128 ≤ b → refused 1 ≡ natural_at t s
unfolding natural_at next_byte
natural_high t [] b q h = let z : ◌≡◌ {A = ℕ} 0 1 = cc in absurd (omega arith)
natural_high t (c ∷ s) b q h = let e : b ≡ c = cc in rw (le-ltb c 128 (omega arith))

-- the digits that X takes behind a byte with the entry e, of s
abbrev pub taken_of : Entry → List ℕ → List ℕ
taken_of e s = cond (is_number e.class && behind_x e.rule) (digits s) []

-- what X takes and aligns by, before a byte with the entry e and s
abbrev pub natural : Entry → List ℕ → Checked (ℕ × ℕ)
natural e s = taking (suc (length (taken_of e s))) (natural_by e.class e.rule e.size (numeral_of (taken_of e s)))

-- with the entry e of the first byte
pub front : (t : Table) (s : List ℕ) (b : ℕ) → Some b ≡ slice_get s 0 → b < 128 → (e : ℕ) → entry_at e ≡ t b → natural (entry_at e) (drop 1 s) ≡ natural_at t s
unfolding natural_at next_byte
front t [] b q h e p = let z : ◌≡◌ {A = ℕ} 0 1 = cc in absurd (omega arith)
front t (c ∷ s) b q h e p = let i : b ≡ c = cc in rw (lt-ltb c 128 (omega arith), p ∙ ap t i)

-- what is not empty has a first byte
pub inside : (s : List ℕ) → (length s ≡ 0 → ⊥) → 0 < length s
inside [] n = absurd (n refl)
inside (b ∷ s) n = omega arith

-- ---- by the packed number of the byte
module _ (e : ℕ) (s : List ℕ) where
  pub single : e ≡ 84 → (p : ℕ) → p ≡ 1 + length (digits s) → accepted (4, p) ≡ natural (entry_at e) s
  unfolding entry_at
  single q p r = rw (q, r, one-add)

  pub fixed : e < 112 → (e ≡ 84 → ⊥) → accepted (size_at e, 1) ≡ natural (entry_at e) s
  fixed h n = rw (at_fixed e h, ne_eqb e 84 n)

  pub plain : 112 ≤ e → e < 192 → refused 7 ≡ natural (entry_at e) s
  plain l h = rw (at_plain e l h) (plain_all e (λ c. refused 7 ≡ natural (entry c (size_at e) Nothing) s) refl (λ o. refl) refl refl)

  -- i I l L: one byte more than by themselves
  one_more_lem : (c : Checked ℕ) (i : ℕ) → one_more (taking i c) ≡ taking (suc i) c
  one_more_lem (refused k) i = refl
  one_more_lem (accepted n) i = rw add-one

  integer : T (ok (entry_at e)) → 192 ≤ e → e < 224 → T (within16 (size_at e)) × (taking (suc (length (digits s))) (size_or (size_at e) (numeral_of (digits s))) ≡ natural (entry_at e) s)
  integer d l h =
      cut e 208 (λ k. ((and_yes (within16 (size_at e)) true (rw (at_signed e l k) at d)).0, rw (at_signed e l k))) λ k.
      ((and_yes (within16 (size_at e)) true (rw (at_unsigned e k h) at d)).0, rw (at_unsigned e k h))

  pub numeral : (t : Table) → T (ok (entry_at e)) → 192 ≤ e → e < 224 → one_more (operand_at t (entry_at e) s) ≡ natural (entry_at e) s
  numeral t d l h =
      let i = integer d l h in
      ap one_more (by_digits t e l (omega arith) s ∙ ap (taking (length (digits s))) (sized_by e l (omega arith) (numeral_of (digits s)) ∙ sym (own_size (size_at e) i.0 (numeral_of (digits s)))))
      ∙ one_more_lem (size_or (size_at e) (numeral_of (digits s))) (length (digits s))
      ∙ i.1

  pub other : 224 ≤ e → e < 252 → refused 7 ≡ natural (entry_at e) s
  other l h =
      cut e 240 (λ k. rw (at_counted e l k)) λ l.
      cut e 244 (λ k. rw (at_chars e l k)) λ l.
      cut e 248 (λ k. rw (at_limit e l k)) λ l.
      rw (at_align e l h)

  pub none : 252 ≤ e → accepted (1, 1) ≡ natural (entry_at e) s
  none l = rw (at_none e l)
