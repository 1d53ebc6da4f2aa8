-- The operand of an option that may have a numeral, by what its numeral is.
use Rattle.std.specs.Prelude.{Option, Some, None, Result, Ok, Err}
use Prim.Native.Nat.{ℕ, ◌^◌, ◌≤◌, ◌<◌}
use mathlib.Core.Path.{◌≡◌, refl, sym, ap, ◌∙◌}
use mathlib.Core.Bool.{Bool, true, false, cond}
use mathlib.Core.List.{List, [], ◌∷◌}
use lib.Dec.{ltb}
use lib.ListN.{length}
use Rattle.definition.specs.Answers.{Checked, refused}
use Rattle.definition.specs.Options.{Table, Class}
use Rattle.definition.specs.Items.{digits, value, numeral_of}
use Rattle.definition.specs.Items as Numeral
use Rattle.definition.specs.Refusals.{refusal_number}
use Rattle.definition.specs.declared.Refusal.{Refusal}
use Rattle.options.specs.Packed.{entry_at}
use Rattle.numeral.specs.Numerals.{read_of}
use Rattle.numeral.specs.declared.Numeral as read
use Rattle.operand.specs.Operands.{operand_by, taking, operand_at}
use Rattle.operand.proofs.Entries.{cut, digits_rule, sized_by, chars_by, limit_by}

-- the operand by class and size, and by what the digits that follow are read as
abbrev pub by_read : Class → ℕ → Result (Option read.Numeral) Refusal → Checked (ℕ × ℕ)
by_read c n (Ok None) = taking 0 (operand_by c n Numeral.Missing)
by_read c n (Ok (Some m)) = taking m.end (operand_by c n (Numeral.Value m.value))
by_read c n (Err r) = refused (refusal_number r)

module _ (t : Table) (e : ℕ) (l : 192 ≤ e) (h : e < 248) (s : List ℕ) where
  -- the operand, by the digits that follow
  pub by_digits : operand_at t (entry_at e) s ≡ taking (length (digits s)) (operand_by (entry_at e).class (entry_at e).size (numeral_of (digits s)))
  unfolding operand_at
  by_digits = rw (digits_rule e l h)

  large_by : operand_by (entry_at e).class (entry_at e).size Numeral.TooLarge ≡ refused 2
  large_by =
      cut e 240 (λ k. sized_by e l k Numeral.TooLarge) λ m.
      cut e 244 (λ k. chars_by e m k Numeral.TooLarge) λ m.
      limit_by e m h Numeral.TooLarge

  -- the operand, by the answer r of reading them
  pub by_read_is : (r : Result (Option read.Numeral) Refusal) → r ≡ read_of (numeral_of (digits s)) (length (digits s)) → by_read (entry_at e).class (entry_at e).size r ≡ operand_at t (entry_at e) s
  unfolding numeral_of
  by_read_is r q = ap (by_read (entry_at e).class (entry_at e).size) q ∙ sym (by_digits ∙ go (digits s))
    where
      go : (ds : List ℕ) → taking (length ds) (operand_by (entry_at e).class (entry_at e).size (numeral_of ds)) ≡ by_read (entry_at e).class (entry_at e).size (read_of (numeral_of ds) (length ds))
      go [] = refl
      go (d ∷ ds) = fits (ltb (value 0 (d ∷ ds)) (2 ^ 64))
        where
          fits : (b : Bool) → taking (length (d ∷ ds)) (operand_by (entry_at e).class (entry_at e).size (cond b (Numeral.Value (value 0 (d ∷ ds))) Numeral.TooLarge))
              ≡ by_read (entry_at e).class (entry_at e).size (read_of (cond b (Numeral.Value (value 0 (d ∷ ds))) Numeral.TooLarge) (length (d ∷ ds)))
          fits true = refl
          fits false = rw large_by

  -- a numeral that is refused is the operand's refusal
  pub refused_read : (x : Result (Option read.Numeral) Refusal) (r : Refusal) → x ≡ Err r → x ≡ read_of (numeral_of (digits s)) (length (digits s)) → refused (refusal_number r) ≡ operand_at t (entry_at e) s
  refused_read x r q p = by_read_is (Err r) (sym q ∙ p)
