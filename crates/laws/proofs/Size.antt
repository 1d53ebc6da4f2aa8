-- The length of what is written is the measure of the format, which is refused 10 where the format has z or s.
use Prim.Native.Nat.{ℕ, ◌+◌}
use native.Mathlib.Nat.{zero-add}
use mathlib.Core.Path.{◌≡◌, refl, sym, ap, ◌∙◌, subst}
use mathlib.Core.Bool.{Bool, true, false, ◌||◌, cond}
use mathlib.Core.List.{List, ◌∷◌}
use lib.Dec.{leb}
use lib.ListN.{length}
use borrow.Author.Tests.{leb-true}
use Rattle.definition.specs.Answers.{Checked, refused, accepted, ◌>>=◌, or_else}
use Rattle.definition.specs.Options.{Table}
use Rattle.definition.specs.Ops.{ops}
use Rattle.definition.specs.Bytes.{coded}
use Rattle.definition.specs.Values.{Value, as_bytes}
use Rattle.definition.specs.States.{start, further, padding}
use Rattle.definition.specs.Fields.{word, encode, filled}
use Rattle.definition.specs.Measuring.{measure_pad, measure_op, measuring, measure}
use Rattle.definition.specs.Writing.{Output, nothing, ◌⊕◌, Place, place, write_op, writing, write}
use Rattle.laws.specs.Claims.{is_open, of_field, has_open}
use Rattle.definition.specs.declared.State.{State}
use Rattle.definition.specs.declared.Kind.{Kind}
use Rattle.definition.specs.declared.Field.TheVariants.{Number, Chars, ZeroEnded, Counted}
use Rattle.definition.specs.declared.Op.{Op}
use Rattle.laws.proofs.Answers.{same, bound, passed, by_steps, silent_on}
use Rattle.laws.proofs.Bytes.{length_coded}
use Rattle.laws.proofs.Texts.{length_filled}
use Rattle.laws.proofs.Steps.{Roomy, room_longer, Step, blank, sets, pads_out, puts, step_of_lem}
use Rattle.laws.proofs.ReadBack.{length_written}

pub number_size : (o : Bool) (k : Kind) (n : ℕ) (v : Value) (bs : List ℕ) → encode o (Number k n) v ≡ accepted bs → length bs ≡ n
unfolding encode
number_size o k n v bs e = let b = bound (word k n v) (λ z. accepted (coded o n z)) e in subst (λ (l : List ℕ). length l ≡ n) (same b.rest) (length_coded o n b.val)

pub chars_size : (o : Bool) (n : ℕ) (v : Value) (bs : List ℕ) → encode o (Chars n) v ≡ accepted bs → length bs ≡ n
unfolding encode
chars_size o n v bs e =
    let b = bound (or_else (as_bytes v) (refused 12)) _ e in
    let p = passed (leb (length b.val) n) 15 (accepted (filled n b.val)) b.rest in
    subst (λ (l : List ℕ). length l ≡ n) (same p.1) (length_filled n b.val (leb-true (length b.val) n p.0))

pad_size : (s : State) (n k p m : ℕ) → m ≡ k → padding s n ≡ accepted p → Roomy s (p + m) → measure_pad s n k ≡ accepted (further s (p + m))
pad_size s n k p m q e w = subst (λ (x : ℕ). measure_pad s n x ≡ accepted (further s (p + m))) q (rw (e, room_longer s (p + m) w))

-- where an item that wrote has z or s, measuring refuses it, and else comes to the same state
size_step : (r : Place Value) (o : Op) (t : Place Value) (a : Output) → Step r o t a → measure_op r.state o ≡ cond (of_field is_open false (accepted o)) (refused 10) (accepted t.state)
unfolding measure_op
size_step r o t a blank = refl
size_step r o t a (sets x) = refl
size_step r o t a (pads_out n k p e w) = pad_size r.state n k p k refl e w
size_step r o t a (puts (Number k n) p s v vs bs e g l c w) = pad_size r.state n n p (length bs) (number_size r.state.big k n v bs c) e w
size_step r o t a (puts (Chars n) p s v vs bs e g l c w) = pad_size r.state 1 n p (length bs) (chars_size r.state.big n v bs c) e w
size_step r o t a (puts ZeroEnded p s v vs bs e g l c w) = refl
size_step r o t a (puts (Counted n) p s v vs bs e g l c w) = refl

abbrev RunSize : Place Value → List (Checked Op) → Place Value → Output → Type 0
RunSize r is u o = measuring r.state is ≡ cond (has_open is) (refused 10) (accepted u.state)

size_item : (r : Place Value) (i : Op) (t : Place Value) (a : Output) (is : List (Checked Op)) (u : Place Value) (o : Output) → write_op r i ≡ accepted (t, a) → RunSize t is u o → RunSize r (accepted i ∷ is) u (a ⊕ o)
size_item r i t a is u o e ih =
    silent_on measure_op r.state i is ∙ rw (size_step r i t a (step_of_lem r i (t, a) e)) (go (of_field is_open false (accepted i)))
  where
    go : (x : Bool) → (cond x (refused 10) (accepted t.state) >>= λ s. measuring s is) ≡ cond (x || has_open is) (refused 10) (accepted u.state)
    go true = refl
    go false = ih

-- from any state
pub size_run : (r : Place Value) (is : List (Checked Op)) (u : Place Value) (o : Output) → writing r is ≡ accepted (u, o) → RunSize r is u o
size_run = by_steps write_op nothing ◌⊕◌ RunSize (λ r. refl) size_item

pub size_measured : (t : Table) (f : List ℕ) (vs : List Value) (u : Place Value) (o : Output) → write t start vs f ≡ accepted (u, o)
    → measure t f ≡ cond (has_open (ops t f)) (refused 10) (accepted (length o.cells))
unfolding measure
size_measured t f vs u o e = rw (size_run (place start vs) (ops t f) u o e) (go (has_open (ops t f)))
  where
    l : u.state.length ≡ length o.cells
    l = sym (length_written (place start vs) (ops t f) u o e) ∙ zero-add (length o.cells)

    go : (x : Bool) → ◌>>=◌ {B = ℕ} (cond x (refused 10) (accepted u.state)) (λ s. accepted s.length) ≡ cond x (refused 10) (accepted (length o.cells))
    go true = refl
    go false = ap accepted l
