-- An accepted reading's value list is at most as long as the list bound, which is accepted, or refused 9.
use Prim.Native.Nat.{ℕ, suc, ◌+◌, ◌-◌, ◌^◌, ◌≤◌, min}
use mathlib.Core.Path.{◌≡◌, refl, sym, ap, ◌∙◌, subst}
use mathlib.Core.Bool.{Bool, true, false, cond}
use mathlib.Core.List.{List, [], ◌∷◌, ◌++◌, map-append}
use mathlib.Core.Logic.{◌⊎◌, inl, inr}
use native.Mathlib.Omega.{arith}
use lib.Dec.{leb, eqb}
use lib.ListN.{length, take, drop, length-drop}
use lib.Seq.{length-take-le}
use borrow.Author.Tests.{leb-true}
use Rattle.definition.specs.Answers.{Checked, refused, accepted, ◌>>=◌}
use Rattle.definition.specs.Options.{options}
use Rattle.definition.specs.Ops.{ops, is_power}
use Rattle.definition.specs.Bytes.{sign, signed, low}
use Rattle.definition.specs.Values.{Value, integer, text}
use Rattle.definition.specs.Lists.{content, list_of}
use Rattle.definition.specs.States.{start, set, further, longer, natural, alignment, fill, padding}
use Rattle.definition.specs.Fields.{first, short, up_to_zero, all, number, signed_value, unsigned, unsigned_value, value_by, decode}
use Rattle.definition.specs.Writing.{Place, place}
use Rattle.definition.specs.Reading.{Read, offset, offset_of, values_of, skipped, read_pad, read_field, read_op, reading, read_from, read}
use Rattle.definition.specs.Bound.{most, bound_op, bounding}
use Rattle.definition.specs.Bound as List-bound
use Rattle.definition.specs.Calls.{at_most_63, list_bound, unpack, unpacked_of, list_read, string_unpack}
use Rattle.laws.specs.Claims.{Bounded}
use Rattle.definition.specs.declared.State.{State}
use Rattle.definition.specs.declared.Setting.{Setting}
use Rattle.definition.specs.declared.Kind.{Kind}
use Rattle.definition.specs.declared.Kind.TheVariants.{SmallSigned, SmallUnsigned, Signed, Unsigned, LuaInteger, LuaUnsigned, Size, Single, Double}
use Rattle.definition.specs.declared.Field.{Field}
use Rattle.definition.specs.declared.Field.TheVariants.{Number, Chars, ZeroEnded, Counted}
use Rattle.definition.specs.declared.Op.{Op}
use Rattle.definition.specs.declared.Position.{Position}
use Rattle.definition.specs.declared.Unpacked.{Unpacked}
use Rattle.laws.proofs.Answers.{never, same, bound, passed, by_steps, silent_on}
use Rattle.laws.proofs.Lists.{length_big, length_list, list_append}
use Rattle.laws.proofs.Steps.{set_length}
use Rattle.laws.proofs.Calls.{into_accepted}

-- ---- the length of a value that is read

abbrev Eight : Value → Type 0
Eight v = length (content v) ≡ 8

signed_eight : (n u : ℕ) (h : List ℕ) (v : Value) → signed_value n u h ≡ accepted v → Eight v
signed_eight n u h v e = subst Eight (same (passed (all (sign (signed (low n) u)) h) 18 (accepted (integer (signed (low n) u))) e).1) (length_big 8 _)

unsigned_eight : (u : ℕ) (h : List ℕ) (v : Value) → unsigned_value u h ≡ accepted v → Eight v
unsigned_eight u h v e = let b = bound (unsigned u h) (λ w. accepted (integer (signed 8 w))) e in subst Eight (same b.rest) (length_big 8 _)

number_eight : (k : Kind) (n u : ℕ) (h : List ℕ) (v : Value) → value_by k n u h ≡ accepted v → Eight v
number_eight SmallSigned n u h v e = signed_eight n u h v e
number_eight SmallUnsigned n u h v e = unsigned_eight u h v e
number_eight Signed n u h v e = signed_eight n u h v e
number_eight Unsigned n u h v e = unsigned_eight u h v e
number_eight LuaInteger n u h v e = signed_eight n u h v e
number_eight LuaUnsigned n u h v e = unsigned_eight u h v e
number_eight Size n u h v e = unsigned_eight u h v e
number_eight Single n u h v e = subst Eight (same e) (length_big 8 _)
number_eight Double n u h v e = subst Eight (same e) (length_big 8 _)

-- a text of the first n bytes of s
first_length : (n : ℕ) (s t : List ℕ) → first n s ≡ accepted t → (length t ≡ n) × (n ≤ length s)
first_length n s t e =
    let p = passed (leb n (length s)) 17 (accepted (take n s)) e in
    let l = leb-true n (length s) p.0 in
    (ap length (sym (same p.1)) ∙ length-take-le n s l, l)

short_length : (s t : List ℕ) → short s ≡ accepted t → (length t ≡ length s) × (length s ≤ 65535)
short_length s t e = let p = passed (leb (length s) 65535) 20 (accepted s) e in (ap length (sym (same p.1)), leb-true (length s) 65535 p.0)

up_to_length : (s t : List ℕ) → up_to_zero s ≡ accepted t → length t ≤ length s
up_to_length [] t e = absurd (never e)
up_to_length (b ∷ s) t e = go (eqb b 0) e (up_to_length s)
  where
    go : (x : Bool) → cond x (accepted []) (up_to_zero s >>= λ u. accepted (b ∷ u)) ≡ accepted t → ((u : List ℕ) → up_to_zero s ≡ accepted u → length u ≤ length s) → length t ≤ suc (length s)
    go true e f = subst (λ (x : List ℕ). length x ≤ suc (length s)) (same e) (omega arith)
    go false e f = let c = bound (up_to_zero s) (λ u. accepted (b ∷ u)) e in subst (λ (x : List ℕ). length x ≤ suc (length s)) (same c.rest) (omega (arith, f c.val c.is))

decode_most : (o : Bool) (f : Field) (s : List ℕ) (d : ℕ) (r : Value × ℕ) → length s ≤ d → decode o f s ≡ accepted r → 3 + length (content r.0) ≤ most d f
unfolding decode
decode_most o (Number k n) s d r h e =
    let a = bound (number o n s) _ e in
    let b = bound (value_by k n a.val.0 a.val.1) (λ v. accepted (v, n)) a.rest in
    subst (λ (x : Value × ℕ). 3 + length (content x.0) ≤ 11) (same b.rest) (omega (arith, number_eight k n a.val.0 a.val.1 b.val b.is))
decode_most o (Chars n) s d r h e =
    let a = bound (first n s) _ e in
    let b = bound (short a.val) (λ u. accepted (text u, n)) a.rest in
    subst (λ (x : Value × ℕ). 3 + length (content x.0) ≤ 3 + min n 65535) (same b.rest) (omega (arith, first_length n s a.val a.is, short_length a.val b.val b.is))
decode_most o ZeroEnded s d r h e =
    let a = bound (up_to_zero s) _ e in
    let b = bound (short a.val) (λ u. accepted (text u, length u + 1)) a.rest in
    subst (λ (x : Value × ℕ). 3 + length (content x.0) ≤ 3 + min d 65535) (same b.rest) (omega (arith, up_to_length s a.val a.is, short_length a.val b.val b.is))
decode_most o (Counted n) s d r h e =
    let a = bound (number o n s) _ e in
    let b = bound (unsigned a.val.0 a.val.1) _ a.rest in
    let c = bound (first b.val (drop n s)) _ b.rest in
    let t = bound (short c.val) (λ v. accepted (text v, n + b.val)) c.rest in
    subst (λ (x : Value × ℕ). 3 + length (content x.0) ≤ 3 + min d 65535) (same t.rest)
    (omega (arith, first_length b.val (drop n s) c.val c.is, short_length c.val t.val t.is, length-drop n s))

-- ---- an item that is read: the bound meets no refusal but 9 at it

-- what the bound of an item comes to, from any state with the limit of the reading
data Bounds (d : ℕ) (s : State) (o : Op) (q : Place ℕ × List Read) : Type 0 where
  within : (t : State) → bound_op d s o ≡ accepted t → t.limit ≡ q.0.state.limit → s.length + length (list_read q.1) ≤ t.length → Bounds d s o q
  over : bound_op d s o ≡ refused 9 → Bounds d s o q

record ItemBound (d : ℕ) (s : State) (o : Op) (q : Place ℕ × List Read) : Type 0 where
  less : length q.0.left ≤ d
  bounds : Bounds d s o q

same_alignment : (s t : State) (n p : ℕ) → s.limit ≡ t.limit → padding t n ≡ accepted p → alignment s n ≡ accepted (min n t.limit)
unfolding alignment padding
same_alignment s t n p l e =
    let b = bound (alignment t n) (λ a. accepted (fill a t.length)) e in
    let c = passed (is_power (min n t.limit)) 6 (accepted (min n t.limit)) b.is in
    rw (l, c.0)

pad_left : (d : ℕ) (r t : Place ℕ) (n k : ℕ) → length r.left ≤ d → read_pad r n k ≡ accepted t → (length t.left ≤ d) × (t.state.limit ≡ r.state.limit) × ((p : ℕ) × (padding r.state n ≡ accepted p))
pad_left d r t n k h e =
    let a = bound (padding r.state n) _ e in
    let b = bound (first (a.val + k) r.left) (λ b. accepted (skipped r (a.val + k))) a.rest in
    (subst (λ (x : Place ℕ). length x.left ≤ d) (same b.rest) (omega (arith, length-drop (a.val + k) r.left)), ap (λ (x : Place ℕ). x.state.limit) (sym (same b.rest)), (a.val, a.is))

-- an item that reads no value
silent_item : (d : ℕ) (s t : State) (o : Op) (r : Place ℕ) → length r.left ≤ d → bound_op d s o ≡ accepted t → t.limit ≡ r.state.limit → s.length ≡ t.length → ItemBound d s o (r, [])
unfolding list_of
silent_item d s t o r h e l n = record { less = h; bounds = within t e l (omega arith) }

sum : (d : ℕ) (s : State) (f : Field) (q : Place ℕ × List Read) → alignment s (natural f) ≡ accepted (min (natural f) s.limit) → s.limit ≡ q.0.state.limit → length (list_read q.1) ≤ most d f → Bounds d s (Op.Put f) q
unfolding bound_op longer
sum d s f q e l n = go (leb (s.length + most d f) (2 ^ 63 - 1)) refl
  where
    go : (t : Bool) → leb (s.length + most d f) (2 ^ 63 - 1) ≡ t → Bounds d s (Op.Put f) q
    go true h = within (further s (most d f)) (rw (e, h)) l (omega arith)
    go false h = over (rw (e, h))

set_limits : (x : Setting) (s t : State) → s.limit ≡ t.limit → (set x s).limit ≡ (set x t).limit
set_limits (Setting.Order o) s t l = l
set_limits (Setting.Limit n) s t l = refl

length_none : length (list_of []) ≡ 0
unfolding list_of
length_none = refl

item_bound : (d : ℕ) (s : State) (r : Place ℕ) (o : Op) (q : Place ℕ × List Read) → length r.left ≤ d → s.limit ≡ r.state.limit → read_op r o ≡ accepted q → ItemBound d s o q
unfolding read_op read_field bound_op
item_bound d s r Op.Blank q h l e = subst (ItemBound d s Op.Blank) (same e) (silent_item d s s Op.Blank r h refl l refl)
item_bound d s r (Op.Set x) q h l e = subst (ItemBound d s (Op.Set x)) (same e) (silent_item d s (set x s) (Op.Set x) (place (set x r.state) r.left) h refl (set_limits x s r.state l) (set_length x s))
item_bound d s r (Op.Pad n k) q h l e =
    let a = bound (read_pad r n k) (λ t. accepted (t, [])) e in
    let p = pad_left d r a.val n k h a.is in
    subst (ItemBound d s (Op.Pad n k)) (same a.rest) (silent_item d s s (Op.Pad n k) a.val p.0 (rw (same_alignment s r.state n p.2.0 l p.2.1)) (l ∙ sym p.1) refl)
item_bound d s r (Op.Put f) q h l e =
    let a = bound (read_pad r (natural f) 0) _ e in
    let p = pad_left d r a.val (natural f) 0 h a.is in
    let b = bound (decode r.state.big f a.val.left) _ a.rest in
    let x : Read = record { field = f; start = offset a.val.state.length; bytes = take b.val.1 a.val.left; value = b.val.0 } in
    let m : length (list_of (b.val.0 ∷ [])) ≤ most d f = omega (arith, length_list b.val.0 [], length_none, decode_most r.state.big f a.val.left d b.val p.0 b.is) in
    let c : alignment s (natural f) ≡ accepted (min (natural f) s.limit) = same_alignment s r.state (natural f) p.2.0 l p.2.1 ∙ ap (λ (x : ℕ). accepted (min (natural f) x)) (sym l) in
    subst (ItemBound d s (Op.Put f)) (same b.rest) (record {
      less = omega (arith, length-drop b.val.1 a.val.left);
      bounds = sum d s f (skipped a.val b.val.1, x ∷ []) c (l ∙ sym p.1) m;
    })

-- ---- the items
abbrev Ends : ℕ → State → List (Checked Op) → List Read → Type 0
Ends d s is vs = ((u : State) × (bounding d s is ≡ accepted u) × (s.length + length (list_read vs) ≤ u.length)) ⊎ (bounding d s is ≡ refused 9)

abbrev Within : ℕ → Place ℕ → List (Checked Op) → Place ℕ → List Read → Type 0
Within d r is t vs = length r.left ≤ d → (s : State) → s.limit ≡ r.state.limit → Ends d s is vs

within_none : (d : ℕ) (r : Place ℕ) → Within d r [] r []
unfolding list_of
within_none d r h s l = inl (s, refl, omega arith)

list_joined : (a b : List Read) → length (list_read (a ++ b)) ≡ length (list_read a) + length (list_read b)
list_joined a b = ap (λ (vs : List Value). length (list_of vs)) (map-append (λ x. x.value) a b) ∙ list_append (values_of a) (values_of b)

within_item : (d : ℕ) (r : Place ℕ) (i : Op) (t : Place ℕ) (a : List Read) (is : List (Checked Op)) (w : Place ℕ) (vs : List Read) → read_op r i ≡ accepted (t, a) → Within d t is w vs → Within d r (accepted i ∷ is) w (a ++ vs)
within_item d r i t a is w vs e ih h s l =
    let c = item_bound d s r i (t, a) h l e in
    go c.bounds (ih c.less)
  where
    go : Bounds d s i (t, a) → ((s : State) → s.limit ≡ t.state.limit → Ends d s is vs) → Ends d s (accepted i ∷ is) (a ++ vs)
    go (over g) ih = inr (silent_on (bound_op d) s i is ∙ rw g)
    go (within u g m n) ih = rest (ih u m)
      where
        rest : Ends d u is vs → Ends d s (accepted i ∷ is) (a ++ vs)
        rest (inl x) = inl (x.0, silent_on (bound_op d) s i is ∙ rw (g, x.1), omega (arith, list_joined a vs, x.2, n))
        rest (inr x) = inr (silent_on (bound_op d) s i is ∙ rw (g, x))

run_within : (d : ℕ) (r : Place ℕ) (is : List (Checked Op)) (t : Place ℕ) (vs : List Read) → reading r is ≡ accepted (t, vs) → Within d r is t vs
run_within d = by_steps read_op [] ◌++◌ (Within d) (within_none d) (within_item d)

pub bounded : Bounded
unfolding string_unpack unpack read list_bound List-bound.bound
bounded f d p b u e =
    let i = into_accepted b (unpack f d p >>= λ r. accepted (unpacked_of r, list_read r.0)) u e in
    let q = bound (unpack f d p) (λ r. accepted (unpacked_of r, list_read r.0)) i.1 in
    let c = passed (at_most_63 (length d)) 21 (read options f d p) q.is in
    let o = bound (offset_of p (length d)) _ c.1 in
    let r = bound (read_from options f d o.val) _ o.rest in
    let vs : r.val.1 ≡ q.val.0 = ap (λ (x : List Read × Position). x.0) (same r.rest) in
    let n : u.length ≡ length (list_read r.val.1) = sym (ap (λ (x : Unpacked × List ℕ). x.0.length) (same q.rest)) ∙ ap (λ (x : List Read). length (list_read x)) (sym vs) in
    go c.0 r.val.1 n (run_within (length d) _ (ops options f) r.val.0 r.val.1 r.is (omega (arith, length-drop o.val.0 d)) start refl)
  where
    go : at_most_63 (length d) ≡ true → (vs : List Read) → u.length ≡ length (list_read vs) → Ends (length d) start (ops options f) vs → ((n : ℕ) × (list_bound f (length d) ≡ accepted n) × (u.length ≤ n)) ⊎ (list_bound f (length d) ≡ refused 9)
    go h vs n (inl x) = inl (x.0.length, rw (h, x.1), omega (arith, x.2, n))
    go h vs n (inr x) = inr (rw (h, x))
