-- Without z or s both lengths go the way of measuring, with its refusals: one state serves for both.
use Prim.Native.Nat.{ℕ, ◌+◌, ◌-◌, ◌%◌, ◌^◌}
use mathlib.Core.Path.{◌≡◌, refl, sym, ap, ◌∙◌}
use mathlib.Core.Bool.{Bool, true, false, ◌||◌}
use mathlib.Core.List.{List, [], ◌∷◌}
use lib.Dec.{leb}
use lib.ListN.{length}
use borrow.Author.Tests.{eq-eqb}
use Rattle.definition.specs.Answers.{Checked, refused, accepted, ◌>>=◌, ◌>>◌, require}
use Rattle.definition.specs.Options.{options}
use Rattle.definition.specs.Ops.{ops}
use Rattle.definition.specs.States.{start, further, longer, padding}
use Rattle.definition.specs.Measuring.{measure_pad, measure_op, measuring, measure}
use Rattle.definition.specs.Calls.{string_packsize}
use Rattle.definition.specs.declared.State.{State}
use Rattle.definition.specs.declared.Field.TheVariants.{Number, Chars, ZeroEnded, Counted}
use Rattle.definition.specs.declared.Op.{Op}
use Rattle.laws.specs.Claims.{is_open, of_field, has_open}
use Rattle.laws.proofs.Answers.{silent_on, true_not_false}
use Rattle.lengths.specs.Lengths.{range, extents, Places, places, onward, range_op, ranging, range_of, range_by, packsize_range}
use Rattle.lengths.specs.declared.Range.{Range}

abbrev both : List ℕ → State → Places
both p s = places s s p

abbrev both_of : List ℕ → Checked State → Checked Places
both_of p c = c >>= λ s. accepted (both p s)

longer_both : (p : List ℕ) (s : State) (m : ℕ) → (longer s m >>= λ t. accepted (places (further s m) t p)) ≡ both_of p (longer s m)
unfolding longer
longer_both p s m = go (leb (s.length + m) (2 ^ 63 - 1))
  where
    go : (b : Bool) → (◌>>=◌ {B = Places} (require b 9 >> accepted (further s m)) (λ t. accepted (places (further s m) t p))) ≡ both_of p (require b 9 >> accepted (further s m))
    go true = refl
    go false = refl

pad_both : (p : List ℕ) (s : State) (n k : ℕ) → range_op (both p s) (Op.Pad n k) ≡ both_of p (measure_pad s n k)
unfolding range_op
pad_both p s n k = go (padding s n)
  where
    go : (c : Checked ℕ) → (◌>>=◌ {A = Range} {B = Places} (c >>= λ a. c >>= λ b. accepted (range a b)) (λ z. onward (both p s) z (range k k, p))) ≡ both_of p (c >>= λ q. longer s (q + k))
    go (refused j) = refl
    go (accepted a) = longer_both p s (a + k)

item_both : (p : List ℕ) (s : State) (o : Op) → of_field is_open false (accepted o) ≡ false → range_op (both p s) o ≡ both_of p (measure_op s o)
unfolding range_op measure_op extents
item_both p s Op.Blank h = refl
item_both p s (Op.Set x) h = refl
item_both p s (Op.Pad n k) h = pad_both p s n k
item_both p s (Op.Put (Number k n)) h = pad_both p s n n
item_both p s (Op.Put (Chars n)) h = pad_both p s 1 n
item_both p s (Op.Put ZeroEnded) h = absurd (true_not_false h)
item_both p s (Op.Put (Counted n)) h = absurd (true_not_false h)

neither : (a b : Bool) → (a || b) ≡ false → (a ≡ false) × (b ≡ false)
neither true b h = absurd (true_not_false h)
neither false b h = (refl, h)

run_both : (p : List ℕ) (is : List (Checked Op)) (s : State) → has_open is ≡ false → ranging (both p s) is ≡ both_of p (measuring s is)
run_both p [] s h = refl
run_both p (refused k ∷ is) s h = refl
run_both p (accepted o ∷ is) s h =
    let n = neither (of_field is_open false (accepted o)) (has_open is) h in
    silent_on range_op (both p s) o is ∙ rw (item_both p s o n.0) (go (measure_op s o) (λ t. run_both p is t n.1)) ∙ ap (both_of p) (sym (silent_on measure_op s o is))
  where
    go : (c : Checked State) → ((t : State) → ranging (both p t) is ≡ both_of p (measuring t is)) → (both_of p c >>= λ t. ranging t is) ≡ both_of p (c >>= λ t. measuring t is)
    go (refused k) ih = refl
    go (accepted t) ih = ih t

pub fixed : (f p : List ℕ) → length p % 4 ≡ 0 → has_open (ops options f) ≡ false → packsize_range f p ≡ (string_packsize f >>= λ n. accepted (range n n))
unfolding range_by packsize_range measure
fixed f p w h = rw (eq-eqb (length p % 4) 0 w, run_both p (ops options f) start h) (go (measuring start (ops options f)))
  where
    go : (c : Checked State) → (◌>>=◌ {B = Range} (both_of p c) (λ r. accepted (range_of r))) ≡ ((c >>= λ s. accepted s.length) >>= λ n. accepted (range n n))
    go (refused k) = refl
    go (accepted s) = refl
