-- Pairs left over are ignored: an item takes the same pair whatever stands behind it.
use Prim.Native.Nat.{ℕ, ◌+◌, ◌%◌, ◌^◌}
use native.Mathlib.Omega.{arith}
use mathlib.Core.Path.{◌≡◌, refl, ap, ◌∙◌}
use mathlib.Core.Bool.{Bool, true}
use mathlib.Core.List.{List, [], ◌∷◌, ◌++◌}
use lib.Dec.{leb, ltb}
use lib.ListN.{length, drop, length-append}
use borrow.Author.Tests.{le-leb, eqb-true, eq-eqb}
use Rattle.definition.specs.Answers.{Checked, accepted, ◌>>=◌, ◌>>◌, require}
use Rattle.definition.specs.Options.{options}
use Rattle.definition.specs.Ops.{ops}
use Rattle.definition.specs.States.{start, further, longer, natural}
use Rattle.definition.specs.declared.Field.{Field}
use Rattle.definition.specs.declared.Field.TheVariants.{Number, Chars, ZeroEnded, Counted}
use Rattle.definition.specs.declared.Op.{Op}
use Rattle.laws.proofs.Answers.{never, same, bound, passed, silent_on}
use Rattle.lengths.specs.Lengths.{range, pair_of, pair_for, extents, Places, places, paddings, onward, range_op, ranging, range_by, packsize_range}
use Rattle.lengths.specs.declared.Range.{Range}
use Rattle.lengths.proofs.Steps.{by_items}
use Rattle.lengths.proofs.Calls.{ranged}

-- the same places, with pairs behind those left
abbrev more : List ℕ → Places → Places
more q r = places r.least r.greatest (r.left ++ q)

record SamePair (holds : ℕ → Bool) (p q : List ℕ) (x : Range) : Type 0 where
  pair : pair_for holds (p ++ q) ≡ accepted x
  rest : drop 4 (p ++ q) ≡ drop 4 p ++ q

same_pair : (holds : ℕ → Bool) (p q : List ℕ) (x : Range) → pair_for holds p ≡ accepted x → SamePair holds p q x
same_pair holds [] q x e = absurd (never e)
same_pair holds (a ∷ []) q x e = absurd (never e)
same_pair holds (a ∷ b ∷ []) q x e = absurd (never e)
same_pair holds (a ∷ b ∷ c ∷ []) q x e = absurd (never e)
same_pair holds (a ∷ b ∷ c ∷ d ∷ p) q x e =
    let y = pair_of (a ∷ b ∷ c ∷ d ∷ p) in
    let checks : Checked Range = require (leb y.least y.greatest) 27 >> (require (holds y.greatest) 15 >> accepted y) in
    record { pair = rw (le-leb 4 (length (a ∷ b ∷ c ∷ d ∷ (p ++ q))) (omega arith)) (passed (leb 4 (length (a ∷ b ∷ c ∷ d ∷ p))) 11 checks e).1; rest = refl }

-- the field of a text, whose bytes are g of its pair
text_more : (holds : ℕ → Bool) (g : Range → Range) (p q : List ℕ) (e : Range × List ℕ) → ◌>>=◌ {B = Range × List ℕ} (pair_for holds p) (λ x. accepted (g x, drop 4 p)) ≡ accepted e
    → ◌>>=◌ {B = Range × List ℕ} (pair_for holds (p ++ q)) (λ x. accepted (g x, drop 4 (p ++ q))) ≡ accepted (e.0, e.1 ++ q)
text_more holds g p q e h =
    let b = bound (pair_for holds p) (λ x. accepted (g x, drop 4 p)) h in
    let s = same_pair holds p q b.val b.is in
    rw (s.pair, s.rest) (ap (λ (x : Range × List ℕ). accepted (x.0, x.1 ++ q)) (same b.rest))

extents_more : (q : List ℕ) (f : Field) (p : List ℕ) (e : Range × List ℕ) → extents f p ≡ accepted e → extents f (p ++ q) ≡ accepted (e.0, e.1 ++ q)
unfolding extents
extents_more q (Number k n) p e h = ap (λ (x : Range × List ℕ). accepted (x.0, x.1 ++ q)) (same h)
extents_more q (Chars n) p e h = ap (λ (x : Range × List ℕ). accepted (x.0, x.1 ++ q)) (same h)
extents_more q ZeroEnded p e h = text_more (λ m. true) (λ x. range (x.least + 1) (x.greatest + 1)) p q e h
extents_more q (Counted n) p e h = text_more (λ m. ltb m (256 ^ n)) (λ x. range (n + x.least) (n + x.greatest)) p q e h

onward_more : (q : List ℕ) (r : Places) (z : Range) (e : Range × List ℕ) (t : Places) → onward r z e ≡ accepted t → onward (more q r) z (e.0, e.1 ++ q) ≡ accepted (more q t)
onward_more q r z e t h =
    let b = bound (longer r.greatest (z.greatest + e.0.greatest)) (λ u. accepted (places (further r.least (z.least + e.0.least)) u e.1)) h in
    rw b.is (ap (λ (x : Places). accepted (more q x)) (same b.rest))

item_more : (q : List ℕ) (r : Places) (o : Op) (t : Places) → range_op r o ≡ accepted t → range_op (more q r) o ≡ accepted (more q t)
unfolding range_op
item_more q r Op.Blank t e = ap (λ (x : Places). accepted (more q x)) (same e)
item_more q r (Op.Set x) t e = ap (λ (x : Places). accepted (more q x)) (same e)
item_more q r (Op.Pad n k) t e =
    let z = bound (paddings r n) (λ z. onward r z (range k k, r.left)) e in
    rw z.is (onward_more q r z.val (range k k, r.left) t z.rest)
item_more q r (Op.Put f) t e =
    let z = bound (paddings r (natural f)) (λ z. extents f r.left >>= onward r z) e in
    let x = bound (extents f r.left) (onward r z.val) z.rest in
    rw (z.is, extents_more q f r.left x.val x.is) (onward_more q r z.val x.val t x.rest)

abbrev More : List ℕ → Places → List (Checked Op) → Places → Type 0
More q r is u = ranging (more q r) is ≡ accepted (more q u)

run_more : (q : List ℕ) (r : Places) (is : List (Checked Op)) (u : Places) → ranging r is ≡ accepted u → More q r is u
run_more q = by_items (More q) (λ r. refl) (λ r o t is u e ih. silent_on range_op (more q r) o is ∙ rw (item_more q r o t e) ih)

whole_more : (p q : List ℕ) → length p % 4 ≡ 0 → length q % 4 ≡ 0 → length (p ++ q) % 4 ≡ 0
whole_more p q g h = rw (length-append p q) (omega (arith, g, h))

pub over : (f p q : List ℕ) (r : Range) → length q % 4 ≡ 0 → packsize_range f p ≡ accepted r → packsize_range f (p ++ q) ≡ accepted r
unfolding range_by packsize_range
over f p q r w e =
    let x = ranged f p r e in
    rw (eq-eqb (length (p ++ q) % 4) 0 (whole_more p q (eqb-true (length p % 4) 0 x.whole) w), run_more q (places start start p) (ops options f) x.last x.run)
    (ap accepted x.is)
