-- What a turn read stands behind what was read before.
use Rattle.std.proofs.Common.{◌≡◌, ℕ, ◌+◌, ◌-◌, ◌≤◌, List, ◌++◌, rules, arith, length, take, drop, slice_range, sym, ap, ◌∙◌, subst, le_refl, drop_at, length-take-le}
use Rattle.std.proofs.lemmas.Slice.{take-put_mid_below}
use Rattle.std.specs.Io.KnownBytes.{Consumes}
use Rattle.std.proofs.KnownBytes.{Consumes-nil, Consumes-trans}
use borrow.Rule.Slice.PartMut.{put_mid, post_of}
use lib.Seq.{take-add, take-append-le}
use Rattle.conformance.proofs.input.read_full.Goals as goal

-- what stands before a place and what stands behind it, up to another, is what stands before that
take_split : (a n : ℕ) (old new : List ℕ) → take a new ≡ take a old → take a old ++ slice_range new a (a + n) ≡ take (a + n) new
take_split a n old new front =
    let same : (a + n) - a ≡ n = omega arith in
    ap (λ l. l ++ slice_range new a (a + n)) (sym front) ∙ ap (λ k. take a new ++ take k (drop a new)) same ∙ sym (take-add a n new)

-- the front of a part that was put back stands at its place
slice_range_put_mid : (a k n : ℕ) (xs ys : List ℕ) → a ≤ length xs → n ≤ length ys → slice_range (put_mid a k xs ys) a (a + n) ≡ take n ys
slice_range_put_mid a k n xs ys within fits =
    let same : (a + n) - a ≡ n = omega arith in
    let after = post_of a k xs in
    ap (take ((a + n) - a)) (drop_at (take a xs) (ys ++ after) a (length-take-le a xs within)) ∙ ap (λ m. take m (ys ++ after)) same ∙ take-append-le n ys after fits

pub loop-n-init : goal.loop-n-init
loop-n-init g c = record { inside = search rules; bytes = Consumes-nil _ }

pub loop-n-preserved : goal.loop-n-preserved
loop-n-preserved g c =
    let at = c.loop-n.n in
    let out = c.loop-n.out in
    let more = c.in_ok-more.more in
    let part = slice_range_put_mid at (length out - at) more out c.read.new.buf c.loop-n.invariant.inside c.in_ok-more.ensures.bound.0 in
    let joined = take_split at more out (put_mid at (length out - at) out c.read.new.buf) (take-put_mid_below _ _ _ _ _ (le_refl _) c.loop-n.invariant.inside) in
    record {
      inside = search rules;
      bytes = subst (Consumes _ _) (ap (λ l. take at out ++ l) (sym part) ∙ joined) (Consumes-trans _ _ _ _ _ c.loop-n.invariant.bytes c.in_ok-more.ensures.bytes.0);
    }
