-- Laws of reading: the loop that gathers the low bytes, the loop that passes the bytes above eight, and the answers.
use Rattle.std.proofs.Common.{◌≡◌, ℕ, ◌+◌, ◌*◌, ◌%◌, ◌^◌, ◌<◌, ◌≤◌, Bool, true, false, eqb, List, [], ◌∷◌, length, get_or, take, length-drop, get_or-drop, zero, suc, ◌-◌, ℤ, sym, refl, ap, ◌∙◌, lt_of_lt_of_le, add-one, arith, lit<, eq-eqb, ne_eqb}
use Rattle.std.specs.Prelude.{MatchBool}
use Rattle.std.specs.List.{AllWithin, HoldsAt, range_with_len}
use Rattle.std.proofs.lemmas.List.FromFn.{length-range_with_len, get_or-range_with_len}
use borrow.Table.Steps.{cases}
use native.Mathlib.Nat.{pow-le-pow_right}
use Rattle.definition.specs.Answers.{refused, accepted, require, ◌>>◌}
use Rattle.definition.specs.Bytes.{total, ordered, sign, signed, low}
use Rattle.definition.specs.Values.{integer}
use Rattle.definition.specs.Fields.{all, number}
use Rattle.std.proofs.Math.Seq.{take-length}
use Rattle.laws.proofs.Bytes.{total_more, length_ordered, number_is}
use Rattle.words.specs.Digits.{place_of, lowest_first, low_bytes, high_bytes}
use Rattle.load.specs.Numbers.{unsigned_at, signed_at}
use Rattle.words.proofs.Placing.{ordered_at, shifted, above_lt}

-- the bytes of d, lowest first, in the order o
abbrev digits : Bool → List ℕ → List ℕ
digits o d = lowest_first o (length d) d

-- v is the number of its k lowest bytes
pub record Gathered (o : Bool) (d : List ℕ) (v k : ℕ) : Type 0 where
  pub sum : v ≡ total (take k (digits o d))
  pub below : v < 256 ^ k
  pub within : k ≤ low (length d)

module _ (o : Bool) (d : List ℕ) where
  whole : digits o d ≡ ordered o d
  whole = ap (ordered o) (take-length d)

  length_all : length (digits o d) ≡ length d
  length_all = ap length whole ∙ length_ordered o d

  byte_at : (k : ℕ) → k < length d → get_or (digits o d) k 0 ≡ get_or d (place_of o (length d) k) 0
  byte_at k l = ap (λ (s : List ℕ). get_or s k 0) whole ∙ ordered_at o d (length d) k refl l

  pub gathered_none : Gathered o d 0 0
  unfolding total
  gathered_none = record { sum = refl; below = lit< tt; within = omega arith }

module _ {o : Bool} {d : List ℕ} {v k : ℕ} (g : Gathered o d v k) where
  -- the byte k, which stands at p, is added
  pub gathered_more : {n p b : ℕ} → n ≡ length d → k < low n → p ≡ place_of o n k → b ≡ get_or d p 0 → b < 256 → Gathered o d (v + (b * 2 ^ (8 * k)) % 2 ^ 64) (k + 1)
  gathered_more {n} {p} {b} q l e f u =
      let s : List ℕ = digits o d in
      let x : get_or s k 0 ≡ b = byte_at o d k (omega (arith, q)) ∙ sym (f ∙ ap (λ (j : ℕ). get_or d j 0) (rw q at e)) in
      rw (shifted b k u (omega arith))
      (record {
        sum =
            ap (λ (j : ℕ). j + b * 256 ^ k) g.sum
            ∙ ap (λ (j : ℕ). total (take k s) + j * 256 ^ k) (sym x)
            ∙ sym (total_more s k (omega (arith, length_all o d, q)))
            ∙ ap (λ (j : ℕ). total (take j s)) (sym (add-one k));
        below = above_lt v b k g.below u;
        within = omega (arith, q);
      })

  -- at most eight bytes fit 64 bits
  pub gathered_fits : v < 2 ^ 64
  gathered_fits = lt_of_lt_of_le g.below (pow-le-pow_right (lit< tt) {i = k} {j = 8} (omega arith))

  pub gathered_all : low (length d) ≤ k → (v ≡ total (low_bytes o (length d) d)) × (v < 256 ^ low (length d))
  gathered_all h = let e : k ≡ low (length d) = omega arith in (g.sum ∙ ap (λ (i : ℕ). total (take i (digits o d))) e, rw e at g.below)

-- ---- whether each byte of a list is f
all_true : (f : ℕ) (l : List ℕ) → ((j : ℕ) → j < length l → get_or l j 0 ≡ f) → all f l ≡ true
all_true f [] h = refl
all_true f (b ∷ l) h = rw (eq-eqb b f (h 0 (omega arith))) (all_true f l (λ j k. h (suc j) (omega (arith, k))))

all_false : (f : ℕ) (l : List ℕ) (j : ℕ) → j < length l → (get_or l j 0 ≡ f → ⊥) → all f l ≡ false
all_false f [] j k h = absurd (omega (arith, k))
all_false f (b ∷ l) zero k h = rw (ne_eqb b f h)
all_false f (b ∷ l) (suc j) k h = rw (all_false f l j (omega (arith, k)) h) (cases (eqb b f) (λ q. rw q) (λ q. rw q))

-- the bytes above eight, by the places from the eighth on
module _ (o : Bool) (d : List ℕ) (f : ℕ) where
  abbrev n : ℕ
  n = length d

  high_length : length (high_bytes o n d) ≡ n - 8
  high_length = length-drop (low n) (digits o d) ∙ omega (arith, length_all o d)

  high_at : (j : ℕ) → j < n - 8 → get_or (high_bytes o n d) j 0 ≡ get_or d (place_of o n (8 + j)) 0
  high_at j l =
      let e : low n ≡ 8 = omega arith in
      rw e (get_or-drop 8 (digits o d) j 0 ∙ byte_at o d (8 + j) (omega arith))

  pub filled : (r : Bool)
      → MatchBool r
      (AllWithin (λ k. get_or d (place_of o n k) 0 ≡ f) (range_with_len 8 (n - 8)) 0 (length (range_with_len 8 (n - 8))))
      ((k : ℕ) × (k < length (range_with_len 8 (n - 8))) × HoldsAt (λ k. get_or d (place_of o n k) 0 ≡ f → ⊥) (range_with_len 8 (n - 8)) k)
      → r ≡ all f (high_bytes o n d)
  filled true y =
      sym (all_true f (high_bytes o n d) (λ j h.
      let l : j < n - 8 = omega (arith, high_length) in
      high_at j l ∙ (rw (get_or-range_with_len 8 (n - 8) j 0 l) at (y j 0 (omega arith) (omega (arith, length-range_with_len 8 (n - 8)))))))
  filled false y =
      let l : y.0 < n - 8 = omega (arith, y.1, length-range_with_len 8 (n - 8)) in
      sym (all_false f (high_bytes o n d) y.0 (omega (arith, high_length)) (λ e. (rw (get_or-range_with_len 8 (n - 8) y.0 0 l) at (y.2 0)) (sym (high_at y.0 l) ∙ e)))

-- ---- the answers: v is the number of the low bytes, and t says whether those above are the fill
module _ (o : Bool) (d : List ℕ) where
  pub number_all : number o (length d) d ≡ accepted (total (low_bytes o (length d) d), high_bytes o (length d) d)
  number_all = number_is o (length d) 0 d (omega arith)

  pub unsigned_fits : {v : ℕ} {t : Bool} → v ≡ total (low_bytes o (length d) d) → t ≡ all 0 (high_bytes o (length d) d) → t ≡ true → accepted v ≡ unsigned_at o (length d) d
  unsigned_fits e f y = rw (number_all, ← f, y, e)

  pub unsigned_too_wide : {t : Bool} → t ≡ all 0 (high_bytes o (length d) d) → t ≡ false → refused 18 ≡ unsigned_at o (length d) d
  unsigned_too_wide f y = rw (number_all, ← f, y)

  -- z is the integer of v, and b its fill
  module _ {v b : ℕ} {z : ℤ} {t : Bool} (e : v ≡ total (low_bytes o (length d) d)) (r : z ≡ signed (low (length d)) v) (g : b ≡ sign z) (f : t ≡ all b (high_bytes o (length d) d)) where
    answer : signed_at o (length d) d ≡ (require t 18 >> accepted (integer z))
    answer = rw (number_all, ← e, ← r, ← g, ← f)

    pub signed_fits : t ≡ true → accepted (integer z) ≡ signed_at o (length d) d
    signed_fits y = sym (answer ∙ rw y)

    pub signed_too_wide : t ≡ false → refused 18 ≡ signed_at o (length d) d
    signed_too_wide y = sym (answer ∙ rw y)
