-- Each check refuses by a number of the list.
use Prim.Native.Nat.{ℕ, ◌+◌, ◌%◌, ◌^◌}
use mathlib.Core.Bool.{Bool, true}
use mathlib.Core.List.{List, [], ◌∷◌}
use lib.Dec.{leb, ltb, eqb}
use lib.ListN.{length}
use Rattle.definition.specs.Answers.{Checked, accepted}
use Rattle.definition.specs.Options.{options}
use Rattle.definition.specs.Ops.{ops}
use Rattle.definition.specs.Refusals.{refusals, among}
use Rattle.definition.specs.States.{start, natural, longer, padding}
use Rattle.definition.specs.declared.Field.{Field}
use Rattle.definition.specs.declared.Field.TheVariants.{Number, Chars, ZeroEnded, Counted}
use Rattle.definition.specs.declared.Op.{Op}
use Rattle.laws.specs.Claims.{All, Listed}
use Rattle.laws.proofs.Refusals.{Refuses, items_give, ByItem, fine, low_bind, low_check, low_up, among_all, low_silent, low_ops, low_padding, low_longer}
use Rattle.laws.proofs.Numbered.{listed}
use Rattle.lengths.specs.Lengths.{range, pair_of, pair_for, extents, Places, places, paddings, onward, range_op, ranging, range_by, packsize_range}
use Rattle.lengths.specs.declared.Range.{Range}

abbrev InList : {A : Type 0} → Checked A → Type 0
InList c = Refuses (among refusals) c

of_item : {A : Type 0} (c : Checked A) → ByItem c → InList c
of_item c h = low_up c (among_all refusals items_give tt) h

by_pair : (holds : ℕ → Bool) (p : List ℕ) → InList (pair_for holds p)
by_pair holds p =
    low_check (leb 4 (length p)) 11 _ tt
    (low_check (leb (pair_of p).least (pair_of p).greatest) 27 _ tt
    (low_check (holds (pair_of p).greatest) 15 (accepted (pair_of p)) tt fine))

by_field : (f : Field) (p : List ℕ) → InList (extents f p)
unfolding extents
by_field (Number k n) p = fine
by_field (Chars n) p = fine
by_field ZeroEnded p = low_bind (pair_for (λ m. true) p) _ (by_pair (λ m. true) p) (λ q. fine)
by_field (Counted n) p = low_bind (pair_for (λ m. ltb m (256 ^ n)) p) _ (by_pair (λ m. ltb m (256 ^ n)) p) (λ q. fine)

by_padding : (r : Places) (n : ℕ) → InList (paddings r n)
by_padding r n =
    low_bind (padding r.least n) _ (of_item (padding r.least n) (low_padding r.least n)) (λ a.
    low_bind (padding r.greatest n) _ (of_item (padding r.greatest n) (low_padding r.greatest n)) (λ b. fine))

by_length : (r : Places) (z : Range) (e : Range × List ℕ) → InList (onward r z e)
by_length r z e = let m = z.greatest + e.0.greatest in low_bind (longer r.greatest m) _ (of_item (longer r.greatest m) (low_longer r.greatest m)) (λ t. fine)

by_op : (r : Places) (o : Op) → InList (range_op r o)
unfolding range_op
by_op r Op.Blank = fine
by_op r (Op.Set x) = fine
by_op r (Op.Pad n k) = low_bind (paddings r n) _ (by_padding r n) (λ z. by_length r z (range k k, r.left))
by_op r (Op.Put f) = low_bind (paddings r (natural f)) _ (by_padding r (natural f)) (λ z. low_bind (extents f r.left) (onward r z) (by_field f r.left) (by_length r z))

by_items : (is : List (Checked Op)) → All ByItem is → All InList is
by_items [] h = tt
by_items (i ∷ is) h = (of_item i h.0, by_items is h.1)

pub numbers : (f p : List ℕ) → Listed (packsize_range f p)
unfolding range_by packsize_range
numbers f p =
    listed _ (low_check (eqb (length p % 4) 0) 21 _ tt
    (low_bind (ranging (places start start p) (ops options f)) _ (low_silent range_op by_op (places start start p) (ops options f) (by_items (ops options f) (low_ops options f))) (λ r. fine)))
