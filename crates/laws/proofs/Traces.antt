-- The values alone of what reading puts out: a run whose outputs are mapped is the run of the mapped steps.
use Prim.Native.Nat.{ℕ}
use mathlib.Core.Path.{◌≡◌, refl, ap, ◌∙◌}
use mathlib.Core.List.{List, [], ◌∷◌, ◌++◌, map-append}
use lib.IntN.{ℤ}
use lib.ListN.{length, drop}
use Rattle.definition.specs.Answers.{Checked, refused, accepted, ◌>>=◌, ◌>>◌, require, after, run}
use Rattle.definition.specs.Options.{options}
use Rattle.definition.specs.Ops.{ops}
use Rattle.definition.specs.Values.{Value}
use Rattle.definition.specs.Lists.{list_of}
use Rattle.definition.specs.States.{start}
use Rattle.definition.specs.Writing.{Place, place}
use Rattle.definition.specs.Reading.{Read, offset_in, at_offset, position_of, offset_of, read_op, reading, read_from, read, values_of}
use Rattle.definition.specs.Calls.{into, at_most_63, unpack, list_read, unpacked_of, string_unpack}
use Rattle.definition.specs.declared.Op.{Op}
use Rattle.definition.specs.declared.Offset.{Offset}
use Rattle.definition.specs.declared.Position.{Position}
use Rattle.definition.specs.declared.Unpacked.{Unpacked}

-- an answer whose output is mapped
abbrev pub map_out : {S O P : Type 0} → (O → P) → Checked (S × O) → Checked (S × P)
map_out g c = c >>= λ r. accepted (r.0, g r.1)

module _ {S I O P : Type 0} (step : S → I → Checked (S × O)) (nothing : O) (◌⊕◌ : O → O → O) (none : P) (◌⊗◌ : P → P → P)
    (g : O → P) (empty : g nothing ≡ none) (joins : (a b : O) → g (a ⊕ b) ≡ g a ⊗ g b) where
  infixl 60 ◌⊕◌
  infixl 60 ◌⊗◌
  abbrev mapped : S → I → Checked (S × P)
  mapped s i = map_out g (step s i)

  map_after : (o : O) (c : Checked (S × O)) → map_out g (after step nothing ◌⊕◌ o c) ≡ after mapped none ◌⊗◌ (g o) (map_out g c)
  map_after o (refused k) = refl
  map_after o (accepted r) = ap (λ (p : P). accepted (r.0, p)) (joins o r.1)

  pub map_run : (s : S) (is : List (Checked I)) → map_out g (run step nothing ◌⊕◌ s is) ≡ run mapped none ◌⊗◌ s is
  map_run s [] = ap (λ (p : P). accepted (s, p)) empty
  map_run s (refused k ∷ is) = refl
  map_run s (accepted i ∷ is) = go (step s i) (λ t. map_run t is)
    where
      go : (c : Checked (S × O)) → ((t : S) → map_out g (run step nothing ◌⊕◌ t is) ≡ run mapped none ◌⊗◌ t is)
          → map_out g (c >>= λ r. after step nothing ◌⊕◌ r.1 (run step nothing ◌⊕◌ r.0 is)) ≡ (map_out g c >>= λ r. after mapped none ◌⊗◌ r.1 (run mapped none ◌⊗◌ r.0 is))
      go (refused k) ih = refl
      go (accepted r) ih = map_after r.1 (run step nothing ◌⊕◌ r.0 is) ∙ ap (after mapped none ◌⊗◌ (g r.1)) (ih r.0)

-- ---- of reading

-- an item, with its value alone
abbrev pub read_value : Place ℕ → Op → Checked (Place ℕ × List Value)
read_value r o = map_out values_of (read_op r o)

abbrev pub reading_values : Place ℕ → List (Checked Op) → Checked (Place ℕ × List Value)
reading_values r is = run read_value [] ◌++◌ r is

pub reading_values_lem : (r : Place ℕ) (is : List (Checked Op)) → map_out values_of (reading r is) ≡ reading_values r is
reading_values_lem = map_run read_op [] ◌++◌ [] ◌++◌ values_of refl (map-append (λ r. r.value))

-- of a call, but for the result buffer
abbrev pub unpack_values : List ℕ → List ℕ → ℤ → Checked (List Value × Position)
unpack_values f d p = do
  require (at_most_63 (length d)) 21
  o ← offset_of p (length d)
  r ← reading_values (place (at_offset start o) (drop o.0 d)) (ops options f)
  accepted (r.1, position_of (offset_in r.0.state))

-- the list and the next position, of values
abbrev pub listed : List Value × Position → Unpacked × List ℕ
listed r = (record { length = length (list_of r.0); next = r.1 }, list_of r.0)

pub unpack_values_lem : (f d : List ℕ) (p : ℤ) (b : List ℕ) → string_unpack f d p b ≡ into b (unpack_values f d p >>= λ r. accepted (listed r))
unfolding string_unpack unpack read
unpack_values_lem f d p b = ap (into b) (go (require (at_most_63 (length d)) 21) (offset_of p (length d)))
  where
    from : Offset → Place ℕ
    from o = place (at_offset start o) (drop o.0 d)

    end : Place ℕ → Position
    end r = position_of (offset_in r.state)

    last : (c : Checked (Place ℕ × List Read)) → (c >>= (λ r. accepted (r.1, end r.0)) >>= λ r. accepted (unpacked_of r, list_read r.0))
        ≡ (map_out values_of c >>= (λ r. accepted (r.1, end r.0)) >>= λ r. accepted (listed r))
    last (refused k) = refl
    last (accepted r) = refl

    go : (c : Checked (Unit {0})) (o : Checked Offset)
        → (c >> (o >>= λ o. read_from options f d o >>= λ r. accepted (r.1, end r.0)) >>= λ r. accepted (unpacked_of r, list_read r.0))
        ≡ (c >> (o >>= λ o. reading_values (from o) (ops options f) >>= λ r. accepted (r.1, end r.0)) >>= λ r. accepted (listed r))
    go (refused k) o = refl
    go (accepted u) (refused k) = refl
    go (accepted u) (accepted o) = last (read_from options f d o) ∙ ap (λ (c : Checked (Place ℕ × List Value)). c >>= (λ r. accepted (r.1, end r.0)) >>= λ r. accepted (listed r)) (reading_values_lem (from o) (ops options f))
