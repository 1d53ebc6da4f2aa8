-- What an accepted item of a range was, by cases; that it keeps the least before the greatest; and one induction over accepted ranges.
use Prim.Native.Nat.{ℕ, ◌+◌, ◌^◌, ◌≤◌}
use native.Mathlib.Omega.{arith}
use mathlib.Core.Path.{◌≡◌, refl, sym, ap, ◌∙◌, subst}
use mathlib.Core.Bool.{Bool, true, false}
use mathlib.Core.List.{List, [], ◌∷◌}
use lib.Dec.{leb, ltb}
use lib.ListN.{length, drop}
use borrow.Author.Tests.{leb-true}
use Rattle.definition.specs.Answers.{Checked, refused, accepted, ◌>>=◌, ◌>>◌, require}
use Rattle.definition.specs.States.{set, further, longer, natural, padding}
use Rattle.definition.specs.declared.State.{State}
use Rattle.definition.specs.declared.Setting.{Setting}
use Rattle.definition.specs.declared.Kind.{Kind}
use Rattle.definition.specs.declared.Field.{Field}
use Rattle.definition.specs.declared.Field.TheVariants.{Number, Chars, ZeroEnded, Counted}
use Rattle.definition.specs.declared.Op.{Op}
use Rattle.laws.proofs.Answers.{never, same, Bound, bound, passed, silent_on}
use Rattle.laws.proofs.Steps.{Roomy, longer_room}
use Rattle.lengths.specs.Lengths.{range, pair_of, pair_for, extents, Places, places, paddings, onward, range_op, ranging}
use Rattle.lengths.specs.declared.Range.{Range}
use Rattle.lengths.proofs.Orders.{Before, set_before, item_before}

-- ---- the pair that a text takes
pub record Paired (holds : ℕ → Bool) (p : List ℕ) (q : Range) : Type 0 where
  pub there : 4 ≤ length p
  pub rising : (pair_of p).least ≤ (pair_of p).greatest
  pub held : holds (pair_of p).greatest ≡ true
  pub is : pair_of p ≡ q

pub paired : (holds : ℕ → Bool) (p : List ℕ) (q : Range) → pair_for holds p ≡ accepted q → Paired holds p q
paired holds p q e =
    let rest : Checked Range = require (holds (pair_of p).greatest) 15 >> accepted (pair_of p) in
    let a = passed (leb 4 (length p)) 11 (require (leb (pair_of p).least (pair_of p).greatest) 27 >> rest) e in
    let b = passed (leb (pair_of p).least (pair_of p).greatest) 27 rest a.1 in
    let c = passed (holds (pair_of p).greatest) 15 (accepted (pair_of p)) b.1 in
    record { there = leb-true 4 (length p) a.0; rising = leb-true (pair_of p).least (pair_of p).greatest b.0; held = c.0; is = same c.1 }

-- what a field takes that is accepted: as many bytes each time, or a pair
pub data Taken (p : List ℕ) : Field → Range × List ℕ → Type 0 where
  number : (k : Kind) (n : ℕ) → Taken p (Number k n) (range n n, p)
  chars : (n : ℕ) → Taken p (Chars n) (range n n, p)
  zero_ended : (q : Range) → Paired (λ m. true) p q → Taken p ZeroEnded (range (q.least + 1) (q.greatest + 1), drop 4 p)
  counted : (n : ℕ) (q : Range) → Paired (λ m. ltb m (256 ^ n)) p q → Taken p (Counted n) (range (n + q.least) (n + q.greatest), drop 4 p)

-- the field of a text, whose bytes are g of its pair
text_taken : (holds : ℕ → Bool) (g : Range → Range) (p : List ℕ) (e : Range × List ℕ) → ◌>>=◌ {B = Range × List ℕ} (pair_for holds p) (λ q. accepted (g q, drop 4 p)) ≡ accepted e
    → (q : Range) × Paired holds p q × ((g q, drop 4 p) ≡ e)
text_taken holds g p e h = let b = bound (pair_for holds p) (λ q. accepted (g q, drop 4 p)) h in (b.val, paired holds p b.val b.is, same b.rest)

pub taken_of : (f : Field) (p : List ℕ) (e : Range × List ℕ) → extents f p ≡ accepted e → Taken p f e
unfolding extents
taken_of (Number k n) p e h = subst (Taken p (Number k n)) (same h) (number k n)
taken_of (Chars n) p e h = subst (Taken p (Chars n)) (same h) (chars n)
taken_of ZeroEnded p e h = let t = text_taken (λ m. true) (λ q. range (q.least + 1) (q.greatest + 1)) p e h in subst (Taken p ZeroEnded) t.2 (zero_ended t.0 t.1)
taken_of (Counted n) p e h =
    let t = text_taken (λ m. ltb m (256 ^ n)) (λ q. range (n + q.least) (n + q.greatest)) p e h in
    subst (Taken p (Counted n)) t.2 (counted n t.0 t.1)

paired_order : {holds : ℕ → Bool} {p : List ℕ} {q : Range} → Paired holds p q → q.least ≤ q.greatest
paired_order h = subst (λ (q : Range). q.least ≤ q.greatest) h.is h.rising

-- the greatest text of a field has no fewer bytes than the least
pub extents_order : (f : Field) (p : List ℕ) (e : Range × List ℕ) → Taken p f e → e.0.least ≤ e.0.greatest
extents_order f p e (number k n) = omega arith
extents_order f p e (chars n) = omega arith
extents_order f p e (zero_ended q h) = omega (arith, paired_order h)
extents_order f p e (counted n q h) = omega (arith, paired_order h)

-- ---- an accepted item

-- zeros and bytes on, of both lengths
pub record Onward (r : Places) (n : ℕ) (e : Range × List ℕ) (t : Places) : Type 0 where
  pub a : ℕ
  pub b : ℕ
  pub least_zeros : padding r.least n ≡ accepted a
  pub greatest_zeros : padding r.greatest n ≡ accepted b
  pub room : Roomy r.greatest (b + e.0.greatest)
  pub is : places (further r.least (a + e.0.least)) (further r.greatest (b + e.0.greatest)) e.1 ≡ t

went : (r : Places) (n : ℕ) (z : Range) (e : Range × List ℕ) (t : Places) → paddings r n ≡ accepted z → onward r z e ≡ accepted t → Onward r n e t
went r n z e t g h =
    let x = bound (padding r.least n) _ g in
    let y = bound (padding r.greatest n) (λ b. accepted (range x.val b)) x.rest in
    let zeros : range x.val y.val ≡ z = same y.rest in
    let h' : onward r (range x.val y.val) e ≡ accepted t = subst (λ (w : Range). onward r w e ≡ accepted t) (sym zeros) h in
    let l = bound (longer r.greatest (y.val + e.0.greatest)) (λ u. accepted (places (further r.least (x.val + e.0.least)) u e.1)) h' in
    let w = longer_room r.greatest l.val (y.val + e.0.greatest) l.is in
    record { a = x.val; b = y.val; least_zeros = x.is; greatest_zeros = y.is; room = w.0; is = rw w.1 (same l.rest) }

pub pad_went : (r : Places) (n k : ℕ) (t : Places) → range_op r (Op.Pad n k) ≡ accepted t → Onward r n (range k k, r.left) t
unfolding range_op
pad_went r n k t e =
    let z = bound (paddings r n) (λ z. onward r z (range k k, r.left)) e in
    went r n z.val (range k k, r.left) t z.is z.rest

pub record Put (r : Places) (f : Field) (t : Places) : Type 0 where
  pub e : Range × List ℕ
  pub taken : Taken r.left f e
  pub went : Onward r (natural f) e t

pub put_went : (r : Places) (f : Field) (t : Places) → range_op r (Op.Put f) ≡ accepted t → Put r f t
unfolding range_op
put_went r f t e =
    let z = bound (paddings r (natural f)) (λ z. extents f r.left >>= onward r z) e in
    let x = bound (extents f r.left) (onward r z.val) z.rest in
    record { e = x.val; taken = taken_of f r.left x.val x.is; went = went r (natural f) z.val x.val t z.is x.rest }

-- the least stays before the greatest
pub onward_before : (r : Places) (n : ℕ) (e : Range × List ℕ) (t : Places) → e.0.least ≤ e.0.greatest → Onward r n e t → Before r.least r.greatest → Before t.least t.greatest
onward_before r n e t l w h =
    subst (λ (u : Places). Before u.least u.greatest) w.is
    (item_before r.least r.greatest n w.a w.b e.0.least e.0.greatest h w.least_zeros w.greatest_zeros l)

pub step_before : (r : Places) (o : Op) (t : Places) → range_op r o ≡ accepted t → Before r.least r.greatest → Before t.least t.greatest
unfolding range_op
step_before r Op.Blank t e h = subst (λ (u : Places). Before u.least u.greatest) (same e) h
step_before r (Op.Set x) t e h = subst (λ (u : Places). Before u.least u.greatest) (same e) (set_before x r.least r.greatest h)
step_before r (Op.Pad n k) t e h = onward_before r n (range k k, r.left) t (omega arith) (pad_went r n k t e) h
step_before r (Op.Put f) t e h = let p = put_went r f t e in onward_before r (natural f) p.e t (extents_order f r.left p.e p.taken) p.went h

-- ---- one of the two lengths: the greatest (true) or the least

abbrev pub pick : Bool → Range → ℕ
pick true q = q.greatest
pick false q = q.least

pub pick_same : (g : Bool) (n : ℕ) → n ≡ pick g (range n n)
pick_same true n = refl
pick_same false n = refl

-- with the zero of z, and with the length of s
pub pick_zero : (g : Bool) (q : Range) → pick g q + 1 ≡ pick g (range (q.least + 1) (q.greatest + 1))
pick_zero true q = refl
pick_zero false q = refl

pub pick_length : (g : Bool) (n : ℕ) (q : Range) → n + pick g q ≡ pick g (range (n + q.least) (n + q.greatest))
pick_length true n q = refl
pick_length false n q = refl

abbrev pub side : Bool → Places → State
side true r = r.greatest
side false r = r.least

pub set_side : (g : Bool) (x : Setting) (r : Places) → set x (side g r) ≡ side g (places (set x r.least) (set x r.greatest) r.left)
set_side true x r = refl
set_side false x r = refl

-- the way of that length over an item
pub record Way (g : Bool) (r : Places) (n : ℕ) (e : Range × List ℕ) (t : Places) : Type 0 where
  pub zeros : ℕ
  pub padded : padding (side g r) n ≡ accepted zeros
  pub is : further (side g r) (zeros + pick g e.0) ≡ side g t

unfoldable pub way : (g : Bool) (r : Places) (n : ℕ) (e : Range × List ℕ) (t : Places) → Onward r n e t → Way g r n e t
way true r n e t w = record { zeros = w.b; padded = w.greatest_zeros; is = ap (λ (x : Places). x.greatest) w.is }
way false r n e t w = record { zeros = w.a; padded = w.least_zeros; is = ap (λ (x : Places). x.least) w.is }

-- ---- an accepted range, by its first item
pub on_item : (r : Places) (o : Op) (is : List (Checked Op)) (u : Places) → ranging r (accepted o ∷ is) ≡ accepted u → Bound (range_op r o) (λ t. ranging t is) u
on_item r o is u e = bound (range_op r o) (λ t. ranging t is) (sym (silent_on range_op r o is) ∙ e)

-- what holds of it, by its items
pub by_items : (P : Places → List (Checked Op) → Places → Type 0)
    → ((r : Places) → P r [] r)
    → ((r : Places) (o : Op) (t : Places) (is : List (Checked Op)) (u : Places) → range_op r o ≡ accepted t → P t is u → P r (accepted o ∷ is) u)
    → (r : Places) (is : List (Checked Op)) (u : Places) → ranging r is ≡ accepted u → P r is u
by_items P z n r [] u e = subst (P r []) (same e) (z r)
by_items P z n r (refused k ∷ is) u e = absurd (never e)
by_items P z n r (accepted o ∷ is) u e = let b = on_item r o is u e in n r o b.val is u b.is (by_items P z n b.val is u b.rest)
