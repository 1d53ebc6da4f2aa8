-- Laws of the value list: the list of values is read as these values; what a list holds; the values after some fields.
use Prim.Native.Nat.{ℕ, zero, suc, ◌+◌, ◌-◌, ◌/◌, ◌^◌, ◌≤◌, ◌<◌}
use mathlib.Core.Path.{◌≡◌, refl, sym, ap, ◌∙◌, subst}
use mathlib.Core.Bool.{Bool, true, false, cond}
use mathlib.Core.List.{List, [], ◌∷◌, ◌++◌, reverse, reverse-reverse, reverse-cons, append_assoc, append-nil}
use native.Mathlib.Nat.{mod-lt, mod-eq_of_lt, pow-suc}
use native.Mathlib.Omega.{arith}
use lib.Dec.{leb, eqb, lit<, lit≤}
use lib.Arith.{digits_mod, digits_div}
use lib.IntN.{ℤ}
use lib.ListN.{length, take, drop, length-reverse, length-append, take-append-drop}
use lib.Seq.{drop_at, drop-nil, length-take-le}
use borrow.Author.Tests.{leb-true, eqb-true}
use Rattle.definition.specs.Answers.{refused, accepted, ◌>>◌, require}
use Rattle.definition.specs.Bytes.{IsByte, little, total, bits, signed, low, laid}
use Rattle.definition.specs.Values.{Value, integer, float, text, other, Held}
use Rattle.definition.specs.Lists.{big, big_total, tag, content, list_of, value_of, front, field_of, values_past, values, fields_after}
use Rattle.laws.specs.Claims.{All}
use Rattle.laws.proofs.Answers.{never, same, bound, passed}
use Rattle.laws.proofs.Cells.{all_left, all_right, all_append}
use Rattle.laws.proofs.Bytes.{length_little, total_little, front_of, bits_lt, extent_signed, signed_eight}

pub past_drop : (k : ℕ) (s : List ℕ) → values_past k s ≡ values (drop k s)
unfolding values_past
past_drop zero s = refl
past_drop (suc k) [] = refl
past_drop (suc k) (b ∷ s) = past_drop k s

pub big_total_lem : (n v : ℕ) → v < 256 ^ n → big_total (big n v) ≡ v
big_total_lem n v h = ap total (reverse-reverse (little n v)) ∙ total_little n v ∙ mod-eq_of_lt h

pub length_big : (n v : ℕ) → length (big n v) ≡ n
length_big n v = length-reverse (little n v) ∙ length_little n v

-- up to eight bytes an integer, the highest byte first, is the bytes of a number
pub laid_big : (n w b : ℕ) → n ≤ 8 → laid true n w b ≡ big n w
unfolding laid
laid_big n w b h =
    let l : low n ≡ n = omega arith in
    let k : n - 8 ≡ 0 = omega arith in
    rw (l, k, append-nil (little n w))

value_of_lem : (v : Value) → Held v → value_of (tag v) (content v) ≡ accepted v
value_of_lem (integer z) h = rw (length_big 8 (bits z), big_total_lem 8 (bits z) (bits_lt z h)) (ap (λ (y : ℤ). accepted (integer y)) (signed_eight z h))
value_of_lem (float b) h = rw (length_big 8 b, big_total_lem 8 b h)
value_of_lem (text s) h = refl
value_of_lem other h = refl

pub short : (v : Value) → Held v → length (content v) < 256 ^ 2
short (integer z) h = rw (length_big 8 (bits z)) (lit< tt)
short (float b) h = rw (length_big 8 b) (lit< tt)
short (text s) h = omega arith
short other h = lit< tt

field_of_lem : (v : Value) (rest : List ℕ) → Held v → field_of (tag v) (big 2 (length (content v)) ++ (content v ++ rest)) ≡ accepted (v, 2 + length (content v))
unfolding field_of
field_of_lem v rest h =
    let n : ℕ = length (content v) in
    rw (front_of 21 (big 2 n) (content v ++ rest) 2 (length_big 2 n), big_total_lem 2 n (short v h), drop_at (big 2 n) (content v ++ rest) 2 (length_big 2 n), front_of 21 (content v) rest n refl, value_of_lem v h)

-- what stands behind a length t and as many bytes c
pub rest_of : (t c rest : List ℕ) → length t ≡ 2 → drop (2 + length c) (t ++ (c ++ rest)) ≡ rest
rest_of t c rest two = ap (drop (2 + length c)) (sym (append_assoc t c rest)) ∙ drop_at (t ++ c) rest (2 + length c) (length-append t c ∙ ap (λ (x : ℕ). x + length c) two)

-- the values of a list that was made of values
pub values_of : (vs : List Value) → All Held vs → values (list_of vs) ≡ accepted vs
unfolding values_past list_of
values_of [] h = refl
values_of (v ∷ vs) h =
    let n : ℕ = length (content v) in
    rw (field_of_lem v (list_of vs) h.0, past_drop (2 + n) (big 2 n ++ (content v ++ list_of vs)), rest_of (big 2 n) (content v) (list_of vs) (length_big 2 n), values_of vs h.1)

-- ---- the values of any list of bytes are fine
total_lt : (s : List ℕ) → All IsByte s → total s < 256 ^ length s
unfolding total
total_lt [] h = lit< tt
total_lt (b ∷ s) h = rw (pow-suc 256 (length s)) (omega (arith, total_lt s h.1))

all_reverse : (s : List ℕ) → All IsByte s → All IsByte (reverse s)
all_reverse [] h = tt
all_reverse (b ∷ s) h = rw (reverse-cons b s) (all_append IsByte (reverse s) (b ∷ []) (all_reverse s h.1) (h.0, tt))

all_little : (n v : ℕ) → All IsByte (little n v)
unfolding little
all_little zero v = tt
all_little (suc n) v = (mod-lt v (lit< tt), all_little n (v / 256))

pub all_big : (n v : ℕ) → All IsByte (big n v)
all_big n v = all_reverse (little n v) (all_little n v)

-- bytes are those of the number that they write
little_total : (s : List ℕ) → All IsByte s → little (length s) (total s) ≡ s
unfolding little total
little_total [] h = refl
little_total (b ∷ s) h = rw (digits_mod (total s) h.0, digits_div (total s) h.0, little_total s h.1)

pub big_of : (s : List ℕ) (n : ℕ) → All IsByte s → length s ≡ n → big n (big_total s) ≡ s
big_of s n h e = rw (← e, ← length-reverse s, little_total (reverse s) (all_reverse s h), reverse-reverse s)

pub big_lt : (s : List ℕ) (n : ℕ) → All IsByte s → length s ≡ n → big_total s < 256 ^ n
big_lt s n h e = subst (λ (k : ℕ). big_total s < 256 ^ k) (length-reverse s ∙ e) (total_lt (reverse s) (all_reverse s h))

pub all_take : (n : ℕ) (s : List ℕ) → All IsByte s → All IsByte (take n s)
all_take n s h = all_left IsByte (take n s) (drop n s) (rw (take-append-drop n s) h)

pub all_drop : (n : ℕ) (s : List ℕ) → All IsByte s → All IsByte (drop n s)
all_drop n s h = all_right IsByte (take n s) (drop n s) (rw (take-append-drop n s) h)

value_held : (t : ℕ) (c : List ℕ) (v : Value) → All IsByte c → length c ≤ 65535 → value_of t c ≡ accepted v → Held v
value_held t c v h l e = go (eqb t 0) (eqb t 1) (eqb t 2) (eqb t 3) e
  where
    eight : eqb (length c) 8 ≡ true → big_total c < 256 ^ 8
    eight q = big_lt c 8 h (eqb-true (length c) 8 q)

    go : (t0 t1 t2 t3 : Bool)
        → cond t0 (require (eqb (length c) 0) 21 >> accepted other)
        (cond t1 (require (eqb (length c) 8) 21 >> accepted (integer (signed 8 (big_total c))))
        (cond t2 (require (eqb (length c) 8) 21 >> accepted (float (big_total c)))
        (cond t3 (accepted (text c)) (refused 21)))) ≡ accepted v
        → Held v
    go true t1 t2 t3 e = subst Held (same (passed (eqb (length c) 0) 21 (accepted other) e).1) tt
    go false true t2 t3 e = let p = passed (eqb (length c) 8) 21 (accepted (integer (signed 8 (big_total c)))) e in subst Held (same p.1) (extent_signed 8 (big_total c) (lit≤ tt) (eight p.0))
    go false false true t3 e = let p = passed (eqb (length c) 8) 21 (accepted (float (big_total c))) e in subst Held (same p.1) (eight p.0)
    go false false false true e = subst Held (same e) l
    go false false false false e = absurd (never e)

-- what an accepted field went through: its length's bytes l, its content c, and its value
record Parsed (t : ℕ) (s : List ℕ) (r : Value × ℕ) : Type 0 where
  count : ℕ
  body : List ℕ
  val : Value
  head : 2 ≤ length s
  counted : count ≡ big_total (take 2 s)
  inside : count ≤ length (drop 2 s)
  content_is : body ≡ take count (drop 2 s)
  value_is : value_of t body ≡ accepted val
  result : (val, 2 + count) ≡ r

parsed : (t : ℕ) (s : List ℕ) (r : Value × ℕ) → field_of t s ≡ accepted r → Parsed t s r
unfolding field_of
parsed t s r e =
    let a = bound (front 21 2 s) _ e in
    let p = passed (leb 2 (length s)) 21 (accepted (take 2 s)) a.is in
    let b = bound (front 21 (big_total a.val) (drop 2 s)) _ a.rest in
    let q = passed (leb (big_total a.val) (length (drop 2 s))) 21 (accepted (take (big_total a.val) (drop 2 s))) b.is in
    let c = bound (value_of t b.val) (λ v. accepted (v, 2 + big_total a.val)) b.rest in
    record {
      count = big_total a.val;
      body = b.val;
      val = c.val;
      head = leb-true 2 (length s) p.0;
      counted = ap big_total (sym (same p.1));
      inside = leb-true (big_total a.val) (length (drop 2 s)) q.0;
      content_is = sym (same q.1);
      value_is = c.is;
      result = same c.rest;
    }

field_held : (t : ℕ) (s : List ℕ) (r : Value × ℕ) → All IsByte s → field_of t s ≡ accepted r → Held r.0
field_held t s r h e =
    let p = parsed t s r e in
    let n : p.count < 256 ^ 2 = rw p.counted (big_lt (take 2 s) 2 (all_take 2 s h) (length-take-le 2 s p.head)) in
    let l : length p.body ≡ p.count = ap length p.content_is ∙ length-take-le p.count (drop 2 s) p.inside in
    let bytes : All IsByte p.body = subst (All IsByte) (sym p.content_is) (all_take p.count (drop 2 s) (all_drop 2 s h)) in
    subst Held (ap (λ (x : Value × ℕ). x.0) p.result) (value_held t p.body p.val bytes (omega arith) p.value_is)

-- ---- the first value of a list, and the rest of it
record First (t : ℕ) (s : List ℕ) (vs : List Value) : Type 0 where
  val : Value
  more : List Value
  count : ℕ
  field : field_of t s ≡ accepted (val, count)
  rest : values (drop count s) ≡ accepted more
  whole : val ∷ more ≡ vs

first_value : (t : ℕ) (s : List ℕ) (vs : List Value) → values (t ∷ s) ≡ accepted vs → First t s vs
unfolding values_past
first_value t s vs e =
    let a = bound (field_of t s) _ e in
    let b = bound (values_past a.val.1 s) (λ ws. accepted (a.val.0 ∷ ws)) a.rest in
    record { val = a.val.0; more = b.val; count = a.val.1; field = a.is; rest = sym (past_drop a.val.1 s) ∙ b.is; whole = same b.rest }

no_values : (vs : List Value) → values [] ≡ accepted vs → [] ≡ vs
unfolding values_past
no_values vs e = same e

values_held_past : (k : ℕ) (s : List ℕ) (vs : List Value) → All IsByte s → values_past k s ≡ accepted vs → All Held vs
unfolding values_past
values_held_past zero [] vs h e = subst (All Held) (same e) tt
values_held_past zero (t ∷ s) vs h e =
    let a = bound (field_of t s) _ e in
    let b = bound (values_past a.val.1 s) (λ ws. accepted (a.val.0 ∷ ws)) a.rest in
    subst (All Held) (same b.rest) (field_held t s a.val h.1 a.is, values_held_past a.val.1 s b.val h.1 b.is)
values_held_past (suc k) [] vs h e = subst (All Held) (same e) tt
values_held_past (suc k) (b ∷ s) vs h e = values_held_past k s vs h.1 e

-- the values of a list of bytes can stand in a list
pub values_held : (l : List ℕ) (vs : List Value) → All IsByte l → values l ≡ accepted vs → All Held vs
values_held l vs h e = values_held_past 0 l vs h e

-- the values after the first k fields
pub values_after : (k : ℕ) (l : List ℕ) (vs : List Value) → values l ≡ accepted vs → values (fields_after k l) ≡ accepted (drop k vs)
unfolding fields_after
values_after zero l vs e = e
values_after (suc k) [] vs e = e ∙ ap accepted (sym (no_values vs e) ∙ ap (drop (suc k)) (no_values vs e))
values_after (suc k) (t ∷ s) vs e =
    let f = first_value t s vs e in
    let p = parsed t s (f.val, f.count) f.field in
    let n : 2 + big_total (take 2 s) ≡ f.count = ap (λ (x : ℕ). 2 + x) (sym p.counted) ∙ ap (λ (x : Value × ℕ). x.1) p.result in
    let rest : values (drop (2 + big_total (take 2 s)) s) ≡ accepted f.more = ap (λ (x : ℕ). values (drop x s)) n ∙ f.rest in
    values_after k (drop (2 + big_total (take 2 s)) s) f.more rest ∙ ap (λ (x : List Value). accepted (drop (suc k) x)) f.whole

-- ---- the list after some fields
pub none_after : (k : ℕ) → fields_after k [] ≡ []
unfolding fields_after
none_after zero = refl
none_after (suc k) = refl

pub after_first : (k : ℕ) (s : List ℕ) → fields_after (suc k) s ≡ fields_after k (drop (3 + big_total (take 2 (drop 1 s))) s)
unfolding fields_after
after_first k [] = sym (ap (fields_after k) (drop-nil (3 + big_total [])) ∙ none_after k)
after_first k (t ∷ s) = let e : 3 + big_total (take 2 s) ≡ suc (2 + big_total (take 2 s)) = omega arith in rw e

-- ---- lengths
pub length_list : (v : Value) (vs : List Value) → length (list_of (v ∷ vs)) ≡ 3 + length (content v) + length (list_of vs)
unfolding list_of
length_list v vs =
    let n : ℕ = length (content v) in
    omega (arith, length-append (big 2 n) (content v ++ list_of vs), length-append (content v) (list_of vs), length_big 2 n)

pub list_append : (x y : List Value) → length (list_of (x ++ y)) ≡ length (list_of x) + length (list_of y)
unfolding list_of
list_append [] y = omega arith
list_append (v ∷ x) y = omega (arith, length_list v (x ++ y), length_list v x, list_append x y)
