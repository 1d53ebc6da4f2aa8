-- What a format wrote is read back, and written again: over its items, from any state and at any offset that is its length modulo 16.
use Prim.Native.Nat.{ℕ, ◌+◌}
use native.Mathlib.Nat.{add-zero}
use native.Mathlib.Omega.{arith}
use mathlib.Core.Path.{◌≡◌, refl}
use mathlib.Core.Bool.{true}
use mathlib.Core.List.{List, [], ◌∷◌, ◌++◌, map, map-append, append_assoc}
use lib.Dec.{T}
use lib.ListN.{length, length-append}
use Rattle.definition.specs.Answers.{Checked, accepted}
use Rattle.definition.specs.Values.{Value, Held}
use Rattle.definition.specs.Writing.{Output, output, nothing, ◌⊕◌, Place, place, write_op, writing}
use Rattle.definition.specs.Kept.{keep}
use Rattle.laws.specs.Claims.{Holds, All, is_short, of_field, integer_for_j}
use Rattle.definition.specs.declared.Field.{Field}
use Rattle.definition.specs.declared.Op.{Op}
use Rattle.laws.proofs.Answers.{on, by_steps}
use Rattle.laws.proofs.Cells.{split, holds_length, holds_none, all_left, all_right, all_append}
use Rattle.laws.proofs.Ops.{Valid}
use Rattle.laws.proofs.Traces.{read_value, reading_values}
use Rattle.laws.proofs.Steps.{Step, step_of_lem, placed, Near, Premises, reads_step, again_step, kept_step, held_step, length_step}

abbrev IntegersOf : List (Field × Value) → Type 0
IntegersOf ts = All (λ t. T (integer_for_j t.0 t.1)) ts

-- the premises of demand 3, of a run
pub record Given (r : Place Value) (is : List (Checked Op)) (o : Output) : Type 0 where
  pub valid : All Valid is
  pub short : All (λ i. T (of_field is_short true i)) is
  pub held : All Held r.left
  pub integers : IntegersOf o.took

-- they hold of the first item, and of the items after it
module _ (r : Place Value) (i : Op) (t : Place Value) (a : Output) (is : List (Checked Op)) (o : Output) (w : Step r i t a) (g : Given r (accepted i ∷ is) (a ⊕ o)) where
  here : Premises r i a
  here = record { valid = g.valid.0 i refl; short = g.short.0; held = g.held; integers = all_left _ a.took o.took g.integers }

  later : Given t is o
  later = record { valid = g.valid.1; short = g.short.1; held = held_step r i t a w g.held; integers = all_right _ a.took o.took g.integers }

-- ---- read back
abbrev RunBack : Place Value → List (Checked Op) → Place Value → Output → Type 0
RunBack r is u o = Given r is o → (m : ℕ) (d rest : List ℕ) → Near m r.state.length → Holds o.cells d
    → reading_values (place (placed m r.state) (d ++ rest)) is ≡ accepted (place (placed (m + length d) u.state) rest, map keep o.took)

back_item : (r : Place Value) (i : Op) (t : Place Value) (a : Output) (is : List (Checked Op)) (u : Place Value) (o : Output) → write_op r i ≡ accepted (t, a) → RunBack t is u o → RunBack r (accepted i ∷ is) u (a ⊕ o)
back_item r i t a is u o e ih g m d rest h c =
    let w = step_of_lem r i (t, a) e in
    let s = split a.cells o.cells d c in
    let k : ℕ = m + length s.front in
    let first : read_value (place (placed m r.state) (s.front ++ (s.back ++ rest))) i ≡ accepted (place (placed k t.state) (s.back ++ rest), map keep a.took)
    = reads_step r i t a w (here r i t a is o w g) m s.front (s.back ++ rest) h s.left in
    let near : Near k t.state.length = omega (arith, length_step r i t a w, holds_length a.cells s.front s.left) in
    let more = ih (later r i t a is o w g) k s.back rest near s.right in
    let end : m + length (s.front ++ s.back) ≡ k + length s.back = omega (arith, length-append s.front s.back) in
    rw (s.whole, append_assoc s.front s.back rest, map-append keep a.took o.took, end)
    (on read_value [] ◌++◌ (place (placed m r.state) (s.front ++ (s.back ++ rest))) (place (placed k t.state) (s.back ++ rest)) i is (map keep a.took) (place (placed (k + length s.back) u.state) rest, map keep o.took) first more)

pub read_back : (r : Place Value) (is : List (Checked Op)) (u : Place Value) (o : Output) → writing r is ≡ accepted (u, o) → RunBack r is u o
read_back = by_steps write_op nothing ◌⊕◌ RunBack (λ r g m d rest h c. rw (holds_none d c, add-zero m)) back_item

-- ---- written again
abbrev pub kept_took : Field × Value → Field × Value
kept_took t = (t.0, keep t)

abbrev RunAgain : Place Value → List (Checked Op) → Place Value → Output → Type 0
RunAgain r is u o = Given r is o → (ws : List Value) → writing (place r.state (map keep o.took ++ ws)) is ≡ accepted (place u.state ws, output o.cells (map kept_took o.took) o.items)

again_item : (r : Place Value) (i : Op) (t : Place Value) (a : Output) (is : List (Checked Op)) (u : Place Value) (o : Output) → write_op r i ≡ accepted (t, a) → RunAgain t is u o → RunAgain r (accepted i ∷ is) u (a ⊕ o)
again_item r i t a is u o e ih g ws =
    let w = step_of_lem r i (t, a) e in
    let first : write_op (place r.state (map keep a.took ++ (map keep o.took ++ ws))) i ≡ accepted (place t.state (map keep o.took ++ ws), output a.cells (map kept_took a.took) a.items)
    = again_step r i t a w (here r i t a is o w g) (map keep o.took ++ ws) in
    let more = ih (later r i t a is o w g) ws in
    rw (map-append keep a.took o.took, map-append kept_took a.took o.took, append_assoc (map keep a.took) (map keep o.took) ws)
    (on write_op nothing ◌⊕◌ (place r.state (map keep a.took ++ (map keep o.took ++ ws))) (place t.state (map keep o.took ++ ws)) i is (output a.cells (map kept_took a.took) a.items) (place u.state ws, output o.cells (map kept_took o.took) o.items) first more)

pub write_again : (r : Place Value) (is : List (Checked Op)) (u : Place Value) (o : Output) → writing r is ≡ accepted (u, o) → RunAgain r is u o
write_again = by_steps write_op nothing ◌⊕◌ RunAgain (λ r g ws. refl) again_item

-- ---- what is kept can stand in a list
abbrev RunKept : Place Value → List (Checked Op) → Place Value → Output → Type 0
RunKept r is u o = Given r is o → All Held (map keep o.took)

kept_item : (r : Place Value) (i : Op) (t : Place Value) (a : Output) (is : List (Checked Op)) (u : Place Value) (o : Output) → write_op r i ≡ accepted (t, a) → RunKept t is u o → RunKept r (accepted i ∷ is) u (a ⊕ o)
kept_item r i t a is u o e ih g =
    let w = step_of_lem r i (t, a) e in
    rw (map-append keep a.took o.took) (all_append Held (map keep a.took) (map keep o.took) (kept_step r i t a w (here r i t a is o w g)) (ih (later r i t a is o w g)))

pub kept_held : (r : Place Value) (is : List (Checked Op)) (u : Place Value) (o : Output) → writing r is ≡ accepted (u, o) → RunKept r is u o
kept_held = by_steps write_op nothing ◌⊕◌ RunKept (λ r g. tt) kept_item

-- ---- the state's length grows by the bytes written
abbrev RunLength : Place Value → List (Checked Op) → Place Value → Output → Type 0
RunLength r is u o = r.state.length + length o.cells ≡ u.state.length

length_item : (r : Place Value) (i : Op) (t : Place Value) (a : Output) (is : List (Checked Op)) (u : Place Value) (o : Output) → write_op r i ≡ accepted (t, a) → RunLength t is u o → RunLength r (accepted i ∷ is) u (a ⊕ o)
length_item r i t a is u o e ih = let w = step_of_lem r i (t, a) e in omega (arith, length-append a.cells o.cells, length_step r i t a w)

pub length_written : (r : Place Value) (is : List (Checked Op)) (u : Place Value) (o : Output) → writing r is ≡ accepted (u, o) → RunLength r is u o
length_written = by_steps write_op nothing ◌⊕◌ RunLength (λ r. add-zero r.state.length) length_item
