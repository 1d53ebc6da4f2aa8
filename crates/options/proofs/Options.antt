-- The packed table is the option table: at all 256 bytes by one equation that antt computes, and above them there is no option.
use Prim.Native.Nat.{ℕ, ◌≤◌}
use mathlib.Core.Path.{◌≡◌, refl, sym, ap, ◌∙◌}
use mathlib.Core.Bool.{Bool, true, false, cond}
use mathlib.Core.List.{List, [], ◌∷◌, map}
use native.Mathlib.Nat.{zero-add}
use native.Mathlib.Omega.{arith}
use lib.Dec.{T, ltb}
use lib.ListN.{get_or, get_or-map}
use borrow.Table.Steps.{cases}
use borrow.Author.Tests.{ltb-true, ltb-false, ne_eqb}
use Rattle.definition.specs.Options.{Entry, entry_list, find, options}
use Rattle.options.specs.Packed.{packed, kind_at, plain_at, entry_at, table_at}
use Rattle.align.proofs.Powers.{each, get_each}

-- the bytes of a list of entries are below 256
abbrev low : List (ℕ × Entry) → Bool
low [] = true
low (e ∷ es) = cond (ltb e.0 256) (low es) false

find_high : (b : ℕ) → 256 ≤ b → (es : List (ℕ × Entry)) → T (low es) → find b es ≡ find b []
find_high b h [] l = refl
find_high b h (e ∷ es) l =
    cases (ltb e.0 256)
    (λ q. let m = ltb-true e.0 256 q in rw (ne_eqb b e.0 (λ i. omega arith)) (find_high b h es (rw q at l)))
    (λ q. absurd (rw q at l))

at : (b : ℕ) → table_at packed b ≡ options b
unfolding packed kind_at plain_at entry_at entry_list options
at b = go (ltb b 256) refl
  where
    go : (x : Bool) → ltb b 256 ≡ x → cond x (entry_at (get_or packed b 0)) (find b []) ≡ options b
    go true q =
        let all : map entry_at packed ≡ each options 0 256 = refl in
        sym (get_or-map entry_at packed b 0) ∙ ap (λ (l : List Entry). get_or l b (entry_at 0)) all ∙ get_each options 0 256 b (entry_at 0) (ltb-true b 256 q) ∙ ap options (zero-add b)
    go false q = sym (find_high b (ltb-false b 256 q) entry_list tt)

pub packed_options : table_at packed ≡ options
packed_options = λ i b. at b i
