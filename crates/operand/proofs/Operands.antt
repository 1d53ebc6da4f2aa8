-- The operand of X and of a byte that is no option, and how many bytes an option takes.
use Rattle.std.specs.Prelude.{Result}
use Prim.Native.Nat.{ℕ, ◌≤◌, ◌<◌}
use mathlib.Core.Path.{◌≡◌, refl, sym, ap, ◌∙◌}
use mathlib.Core.Bool.{Bool, true, false, cond}
use mathlib.Core.List.{List}
use native.Mathlib.Omega.{arith}
use lib.Dec.{eqb}
use lib.ListN.{length}
use Rattle.definition.specs.Answers.{Checked, refused, accepted}
use Rattle.definition.specs.Options.{Table, entry, Nothing, DigitsBehindX, Number, Entry}
use Rattle.definition.specs.Items.{taken_by}
use Rattle.definition.specs.Items as Numeral
use Rattle.definition.specs.declared.Refusal.{Refusal}
use Rattle.options.specs.Packed.{kind_at, size_at, plain_at, entry_at}
use Rattle.operand.specs.Operands.{operand_by, operand_with, taking, operand_at, natural_at, behind_of}
use Rattle.operand.specs.declared.Behind.{Behind}
use Rattle.operand.proofs.Taken.{taken_length}
use Rattle.operand.proofs.Entries.{cut, at_fixed, at_plain, at_align, at_none, plain_all}

-- ---- how many bytes are taken
taking_count : (c : Checked ℕ) (i n j : ℕ) → taking i c ≡ accepted (n, j) → j ≡ i
taking_count (refused k) i n j q = let z : ◌≡◌ {A = ℕ} 0 1 = cc in absurd (omega arith)
taking_count (accepted m) i n j q = let p : ◌≡◌ {A = ℕ × ℕ} (m, i) (n, j) = cc in ap (λ (x : ℕ × ℕ). x.1) (sym p)

pub operand_count : (t : Table) (e : Entry) (s : List ℕ) (n i : ℕ) → operand_at t e s ≡ accepted (n, i) → i ≤ length s
unfolding operand_at
operand_count t e s n i q = rw (taking_count (operand_with t e.rule e (taken_by t e.rule s)) (length (taken_by t e.rule s)) n i q) (taken_length t e.rule s)

-- ---- X, and a byte that is no option
pub operand_x : (t : Table) (e : ℕ) → 248 ≤ e → e < 252 → (s : List ℕ) → natural_at t s ≡ operand_at t (entry_at e) s
unfolding operand_at natural_at
operand_x t e l h s = rw (at_align e l h)

-- what the answer y says of s, which follows X
pub behind_is : (t : Table) (e : ℕ) → 248 ≤ e → e < 252 → (s : List ℕ) (y : Result Behind Refusal) → behind_of t y s ≡ natural_at t s → behind_of t y s ≡ operand_at t (entry_at e) s
behind_is t e l h s y p = p ∙ operand_x t e l h s

pub operand_none : (t : Table) (e : ℕ) → 252 ≤ e → (s : List ℕ) → refused 1 ≡ operand_at t (entry_at e) s
unfolding operand_at
operand_none t e l s = rw (at_none e l)

-- ---- options that take nothing
fixed_with : (t : Table) (e : Entry) (s : List ℕ) (x : Bool) → operand_by e.class e.size Numeral.Missing ≡ accepted e.size → e.rule ≡ cond x DigitsBehindX Nothing → accepted (e.size, 0) ≡ operand_at t e s
unfolding operand_at
fixed_with t e s true q r = rw (r, q)
fixed_with t e s false q r = rw (r, q)

pub operand_bare : (t : Table) (e : ℕ) → e < 192 → (s : List ℕ) → accepted (size_at e, 0) ≡ operand_at t (entry_at e) s
operand_bare t e h s =
    cut e 112 (λ k. rw (at_fixed e k) (fixed_with t (entry (Number (kind_at e)) (size_at e) (cond (eqb e 84) DigitsBehindX Nothing)) s (eqb e 84) refl refl)) λ l.
    rw (at_plain e l h) (fixed_with t (entry (plain_at e) (size_at e) Nothing) s false (plain_all e (λ c. operand_by c (size_at e) Numeral.Missing ≡ accepted (size_at e)) refl (λ o. refl) refl refl) refl)
