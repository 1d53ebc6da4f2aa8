-- Laws of the single bytes of an integer: where the byte k stands, and what it is.
use Rattle.std.proofs.Common.{◌≡◌, ℕ, zero, suc, ◌+◌, ◌-◌, ◌*◌, ◌/◌, ◌%◌, ◌^◌, ◌<◌, ◌≤◌, Bool, true, false, cond, ltb}
use Rattle.std.proofs.Common.{List, [], ◌∷◌, ◌++◌, reverse, length, get_or, replicate, sym, refl, ap, ◌∙◌, not-suc-le-zero, mul-le-mul_right, one-mul, pow-suc, add-one, arith, lit<, get_or-append-add, pow-add, shl_exact, ltb-false, ltb-true}
use mathlib.Core.List.{reverse-cons}
use native.Mathlib.Decide.{dec_lt}
use lib.ListN.{length-reverse, get_or-replicate, get_or-append}
use lib.Seq.{get_or_at}
use Rattle.definition.specs.Bytes.{little, ordered, low, laid}
use Rattle.laws.proofs.Bytes.{length_little, little_at, length_ordered, length_laid}
use Rattle.words.specs.Digits.{byte_of, place_of}

-- ---- where

get_d_reverse : (l : List ℕ) (j : ℕ) → j < length l → get_or (reverse l) j 0 ≡ get_or l (length l - 1 - j) 0
get_d_reverse [] j h = absurd (not-suc-le-zero h)
get_d_reverse (x ∷ l) j h = ap (λ (r : List ℕ). get_or r j 0) (reverse-cons x l) ∙ go (dec_lt j (length l)) (get_d_reverse l j)
  where
    go : Dec (j < length l) → (j < length l → get_or (reverse l) j 0 ≡ get_or l (length l - 1 - j) 0) → get_or (reverse l ++ (x ∷ [])) j 0 ≡ get_or (x ∷ l) (suc (length l) - 1 - j) 0
    go (yes k) ih =
        let q : suc (length l) - 1 - j ≡ suc (length l - 1 - j) = omega arith in
        get_or-append (reverse l) (x ∷ []) 0 j (omega (arith, length-reverse l)) ∙ ih k ∙ sym (ap (λ (i : ℕ). get_or (x ∷ l) i 0) q)
    go (no k) ih =
        let q : suc (length l) - 1 - j ≡ 0 = omega arith in
        get_or_at (reverse l) x [] 0 j (omega (arith, length-reverse l)) ∙ sym (ap (λ (i : ℕ). get_or (x ∷ l) i 0) q)

pub ordered_at : (o : Bool) (s : List ℕ) (n k : ℕ) → length s ≡ n → k < n → get_or (ordered o s) k 0 ≡ get_or s (place_of o n k) 0
ordered_at false s n k e h = refl
ordered_at true s n k e h = get_d_reverse s k (omega arith) ∙ ap (λ (i : ℕ). get_or s (i - 1 - k) 0) e

pub place_lt : (o : Bool) (n k : ℕ) → k < n → place_of o n k < n
place_lt false n k h = h
place_lt true n k h = omega arith

-- ---- what: the digit k of the 64 bits, and above eight the fill

digits_at : (n w f k : ℕ) → k < n → get_or (little (low n) w ++ replicate (n - 8) f) k 0 ≡ byte_of w f k
digits_at n w f k h = go (ltb k 8) refl
  where
    go : (t : Bool) → ltb k 8 ≡ t → get_or (little (low n) w ++ replicate (n - 8) f) k 0 ≡ cond t (w / 256 ^ k % 256) f
    go true e =
        let l : k < low n = omega (arith, ltb-true k 8 e) in
        get_or-append (little (low n) w) (replicate (n - 8) f) 0 k (omega (arith, length_little (low n) w))
        ∙ little_at (low n) w k l
    go false e =
        let l : 8 ≤ k = ltb-false k 8 e in
        let q : k ≡ length (little (low n) w) + (k - 8) = omega (arith, length_little (low n) w) in
        ap (λ (i : ℕ). get_or (little (low n) w ++ replicate (n - 8) f) i 0) q
        ∙ get_or-append-add (little (low n) w) (replicate (n - 8) f) (k - 8) 0
        ∙ get_or-replicate (n - 8) (k - 8) f 0 (omega arith)

pub laid_at : (o : Bool) (n w f j : ℕ) → j < n → get_or (laid o n w f) j 0 ≡ byte_of w f (place_of o n j)
unfolding laid
laid_at o n w f j h =
    ordered_at o _ n j (sym (length_ordered o _) ∙ length_laid o n w f) h
    ∙ digits_at n w f (place_of o n j) (place_lt o n j h)

-- ---- shifts

pub bits_of_bytes : (k : ℕ) → 2 ^ (8 * k) ≡ 256 ^ k
bits_of_bytes zero = refl
bits_of_bytes (suc k) =
    let e : 8 * suc k ≡ 8 * k + 8 = omega arith in
    ap (λ (n : ℕ). 2 ^ n) e ∙ pow-add 2 (8 * k) 8 ∙ ap (λ (n : ℕ). n * 256) (bits_of_bytes k) ∙ sym (pow-suc 256 k)

pub shifted : (b k : ℕ) → b < 256 → k < 8 → (b * 2 ^ (8 * k)) % 2 ^ 64 ≡ b * 256 ^ k
shifted b k h l = shl_exact 8 (8 * k) 64 h (omega arith) ∙ ap (λ (x : ℕ). b * x) (bits_of_bytes k)

pub shifted_one : (k : ℕ) → k < 8 → (1 * 2 ^ (8 * k)) % 2 ^ 64 ≡ 256 ^ k
shifted_one k h = shifted 1 k (lit< tt) h ∙ one-mul (256 ^ k)

-- a byte shifted above a number of k bytes
pub above_lt : (v b k : ℕ) → v < 256 ^ k → b < 256 → v + b * 256 ^ k < 256 ^ (k + 1)
above_lt v b k h l =
    rw (add-one k, pow-suc 256 k) (omega (arith, mul-le-mul_right {m = b} {n = 255} (256 ^ k) (omega arith)))
