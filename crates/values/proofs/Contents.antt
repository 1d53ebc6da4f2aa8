-- The first field of a list, by its tag and its content: it is refused where it is cut short, or by its content, and else the list behind it goes on.
-- And the field at an offset of a list that is well formed from there on: its content suits its tag, and so it is a value.
use Prim.Native.Nat.{ℕ, suc, ◌+◌, ◌≤◌, ◌<◌}
use mathlib.Core.Path.{◌≡◌, refl, sym, ap, ◌∙◌, subst}
use mathlib.Core.Bool.{Bool, true, false, cond, ◌||◌, ◌&&◌}
use mathlib.Core.List.{List, [], ◌∷◌}
use mathlib.Core.Option.{some}
use native.Mathlib.Omega.{arith}
use lib.Dec.{leb, eqb}
use lib.ListN.{length, take, drop, length-drop, drop_of_length-le, get_or}
use borrow.Author.Tests.{le-leb, lt-leb, ne_eqb, leb-true, eq-eqb, eqb-true}
use Rattle.definition.specs.Answers.{Checked, refused, accepted, ◌>>=◌, ◌>>◌, require}
use Rattle.definition.specs.Bytes.{signed}
use Rattle.definition.specs.Values as definition
use Rattle.definition.specs.Values.{integer, float, text, other}
use Rattle.definition.specs.Lists.{big_total, value_of, field_of, values_past, values, fields_after}
use Rattle.laws.proofs.Lists.{none_after, after_first}
use Rattle.values.proofs.Fields.{beginning, continued, values_by, accepted_beginning}
use Rattle.values.specs.Meaning.{is_accepted, placed, first_field, field_at, size_of, First, suits, meaning, Proper, Inside, FloatRead, numeric, FieldRead}
use Rattle.std.specs.Prelude.{Some, None}
use native.Mathlib.Nat.{add_assoc}
use lib.Seq.{drop-cons, drop-drop, length-take-le}
use Rattle.laws.proofs.Answers.{true_not_false, both_parts}
use Rattle.values.specs.Loading.{Loaded}
use Rattle.values.specs.declared.Value.{Value}
use Rattle.values.specs.declared.Value.TheVariants.{Integer, Text, Other}

-- a value, and a number after it
abbrev followed : ℕ → Checked definition.Value → Checked (definition.Value × ℕ)
followed n c = c >>= λ v. accepted (v, n)

-- it is the value of its tag and its content
first_value : (q : List ℕ) (at t : ℕ) (c r : List ℕ) → First q t c r → first_field at q ≡ some (followed (at + 3 + size_of q) (value_of t c))
unfolding field_of
first_value [] at t c r f = absurd (omega (arith, f.within))
first_value (b ∷ s) at t c r f =
    let n : ℕ = size_of (b ∷ s) in
    let enough = le-leb n (length (drop 2 s)) (omega (arith, f.within, length-drop 2 s)) in
    rw (f.tag, f.content, le-leb 2 (length s) (omega (arith, f.within)), enough) (go (value_of b (take n (drop 2 s))))
  where
    go : (x : Checked definition.Value) → some (placed at (followed (2 + size_of (b ∷ s)) x)) ≡ some (followed (at + 3 + size_of (b ∷ s)) x)
    go (refused k) = refl
    go (accepted v) = ap (λ (k : ℕ). some (accepted (v, k))) (omega arith)

-- it stands before the values of the list behind it
values_first : (q : List ℕ) (t : ℕ) (c r : List ℕ) → First q t c r → values q ≡ (value_of t c >>= λ v. beginning v (values r))
unfolding field_at
values_first q t c r f = values_by q 0 (sym (first_value q 0 t c r f)) ∙ rw f.behind (go (value_of t c))
  where
    go : (x : Checked definition.Value) → continued q (some (followed (3 + size_of q) x)) ≡ (x >>= λ v. beginning v (values (drop (3 + size_of q) q)))
    go (refused k) = refl
    go (accepted v) = refl

-- but for one that is cut short
short : (t : ℕ) (s : List ℕ) → length s < 2 + big_total (take 2 s) → field_of t s ≡ refused 21
unfolding field_of
short t s h = go (leb 2 (length s)) refl
  where
    go : (p : Bool) → leb 2 (length s) ≡ p → field_of t s ≡ refused 21
    go false e = rw e
    go true e = rw (e, lt-leb (big_total (take 2 s)) (length (drop 2 s)) (omega (arith, h, leb-true 2 (length s) e, length-drop 2 s)))

cut_short : (l : List ℕ) → 0 < length l → length l < 3 + size_of l → values l ≡ refused 21
unfolding values_past
cut_short [] p h = absurd (omega arith)
cut_short (t ∷ s) p h = rw (short t s (omega (arith, h)))

-- it is accepted just where its content suits its tag
pub accepted_first : (l : List ℕ) (t : ℕ) (c r : List ℕ) → First l t c r → is_accepted (values l) ≡ (suits t (length c) && is_accepted (values r))
accepted_first l t c r f = rw (values_first l t c r f) (go (eqb t 0) (eqb t 1) (eqb t 2) (eqb t 3) (eqb (length c) 0) (eqb (length c) 8))
  where
    decided : Bool → Bool → Bool → Bool → Bool → Bool → Checked definition.Value
    decided t0 t1 t2 t3 n0 n8 =
        cond t0 (require n0 21 >> accepted other)
        (cond t1 (require n8 21 >> accepted (integer (signed 8 (big_total c))))
        (cond t2 (require n8 21 >> accepted (float (big_total c)))
        (cond t3 (accepted (text c)) (refused 21))))

    go : (t0 t1 t2 t3 n0 n8 : Bool) → is_accepted (decided t0 t1 t2 t3 n0 n8 >>= λ v. beginning v (values r)) ≡ (cond t0 n0 (cond (t1 || t2) n8 t3) && is_accepted (values r))
    go true t1 t2 t3 true n8 = accepted_beginning other (values r)
    go true t1 t2 t3 false n8 = refl
    go false true t2 t3 n0 true = accepted_beginning (integer (signed 8 (big_total c))) (values r)
    go false true t2 t3 n0 false = refl
    go false false true t3 n0 true = accepted_beginning (float (big_total c)) (values r)
    go false false true t3 n0 false = refl
    go false false false true n0 n8 = accepted_beginning (text c) (values r)
    go false false false false n0 n8 = refl

-- ---- a list that ends before the first field does
module _ (l : List ℕ) (h : length l < 3 + size_of l) where
  -- of more fields than there are nothing is left
  pub after_short : (k : ℕ) → fields_after (suc k) l ≡ []
  after_short k =
      let past : length l ≤ 3 + size_of l = omega arith in
      after_first k l ∙ rw (drop_of_length-le l past) (none_after k)

-- only the end of a list is accepted
pub end_accepted : (l : List ℕ) → length l < 3 + size_of l → eqb (length l) 0 ≡ is_accepted (values l)
unfolding values_past
end_accepted [] h = refl
end_accepted (t ∷ s) h = rw (cut_short (t ∷ s) (omega arith) h, ne_eqb (length (t ∷ s)) 0 (omega arith))

-- ---- the field at an offset

pub at_end : (l : List ℕ) (at : ℕ) → length l ≤ at → FieldRead l at None
unfolding field_at
at_end l at h = record { says = rw (drop_of_length-le l h); sound = tt }

module _ (l : List ℕ) (at : ℕ) (known : is_accepted (values (drop at l)) ≡ true) (h : at < length l) where
  abbrev tag : ℕ
  tag = get_or l at 0

  abbrev n : ℕ
  n = big_total (take 2 (drop (at + 1) l))

  abbrev content : List ℕ
  content = take n (drop (at + 3) l)

  size : size_of (drop at l) ≡ n
  size = ap (λ (s : List ℕ). big_total (take 2 s)) (drop-drop 1 at l)

  there : 3 + size_of (drop at l) ≤ length (drop at l)
  there =
      let whole : length (drop at l) < 3 + size_of (drop at l) → ⊥ = λ s. true_not_false (sym known ∙ ap is_accepted (cut_short (drop at l) (omega (arith, length-drop at l)) s)) in
      omega (arith, whole)

  pub within : at + 3 + n ≤ length l
  within = omega (arith, there, size, length-drop at l)

  first : First (drop at l) tag content (drop (at + 3 + n) l)
  first = record {
    within = there;
    tag = rw (drop-cons l at 0 h);
    content = rw (size, drop-drop 3 at l);
    behind = rw (size, drop-drop (3 + n) at l, add_assoc at 3 n);
  }

  length_content : length content ≡ n
  length_content = length-take-le n (drop (at + 3) l) (omega (arith, within, length-drop (at + 3) l))

  suited : suits tag n ≡ true
  suited = rw length_content at (both_parts (suits tag (length content)) _ (sym (accepted_first (drop at l) tag content (drop (at + 3 + n) l) first) ∙ known)).0

  is_field : field_at l at ≡ some (followed (at + 3 + n) (value_of tag content))
  unfolding field_at
  is_field = first_value (drop at l) at tag content _ first ∙ ap (λ (k : ℕ). some (followed (at + 3 + k) (value_of tag content))) size

  -- the field of a value v
  is : (v : Value) (next : ℕ) → at + 3 + n ≡ next → Proper v → Inside l v → value_of tag content ≡ accepted (meaning l v) → FieldRead l at (Some (v, next))
  is v next e p i m = subst (λ (k : ℕ). FieldRead l at (Some (v, k))) e (record { says = sym (is_field ∙ rw m); sound = record { behind = omega arith; within = within; proper = p; inside = i } })

  pub text_field : numeric tag ≡ false → (tag ≡ 0 → ⊥) → (r : ℕ) → Loaded l (at + 1) 2 r → FieldRead l at (Some (Text (at + 3) r, at + 3 + r))
  text_field e none r word =
      let three : tag ≡ 3 = eqb-true tag 3 (rw (ne_eqb tag 0 none, e) at suited) in
      is (Text (at + 3) r) (at + 3 + r) (omega (arith, word.is)) tt (omega (arith, word.is, within), omega (arith, word.below)) (rw (three, word.is))

  pub other_field : tag ≡ 0 → FieldRead l at (Some (Other, at + 3))
  other_field e =
      let none : n ≡ 0 = eqb-true n 0 (rw e at suited) in
      is Other (at + 3) (omega (arith, none)) tt tt (rw (e, length_content, none))

  module _ (e : numeric tag ≡ true) where
    eight : n ≡ 8
    eight = eqb-true n 8 (rw (ne_eqb tag 0 (λ (z : tag ≡ 0). true_not_false (sym e ∙ rw z)), e) at suited)

    pub eight_there : at + 3 + 8 ≤ length l
    eight_there = omega (arith, eight, within)

    module _ (b : ℕ) (word : Loaded l (at + 3) 8 b) where
      number : (v : Value) → Proper v → Inside l v → value_of tag (take 8 (drop (at + 3) l)) ≡ accepted (meaning l v) → FieldRead l at (Some (v, at + 3 + 8))
      number v p i m = is v (at + 3 + 8) (omega (arith, eight)) p i (rw eight m)

      length_eight : eqb (length (take 8 (drop (at + 3) l))) 8 ≡ true
      length_eight = eq-eqb _ 8 (length-take-le 8 (drop (at + 3) l) (omega (arith, eight_there, length-drop (at + 3) l)))

      pub integer_field : tag ≡ 1 → FieldRead l at (Some (Integer (signed 8 b), at + 3 + 8))
      integer_field one = number (Integer (signed 8 b)) tt tt (rw (one, length_eight, ← word.is))

      pub float_field : (tag ≡ 1 → ⊥) → (v : Value) → FloatRead b v → FieldRead l at (Some (v, at + 3 + 8))
      float_field one v f =
          let two = eqb-true tag 2 (rw (ne_eqb tag 1 one) at e) in
          number v f.proper (f.inside l) (rw (two, length_eight, f.says l, ← word.is))
