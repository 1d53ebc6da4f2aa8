-- Laws of the bytes of an integer, for every size together.
use Prim.Native.Nat.{ℕ, zero, suc, ◌+◌, ◌*◌, ◌-◌, ◌/◌, ◌%◌, ◌^◌, ◌≤◌, ◌<◌}
use mathlib.Core.Path.{◌≡◌, refl, sym, ap, ◌∙◌, subst}
use mathlib.Core.Bool.{Bool, true, false, cond}
use mathlib.Core.List.{List, [], ◌∷◌, ◌++◌, reverse-reverse}
use native.Mathlib.Nat.{add-zero, add-suc, le_refl, le_of_suc-le-suc, mod-one, pow-suc, pow-succ', suc-mul, mul_assoc, mod-eq_of_lt, mod-lt, div-one, div-div-eq-div-mul, not-suc-le-zero}
use native.Mathlib.Omega.{arith}
use lib.Dec.{leb, ltb, lit<, lit≤}
use lib.Arith.{mod-mul, digits_mod, digits_div}
use lib.Pow.{pow-add}
use lib.IntN.{ℤ, pos, negsuc}
use lib.ListN.{length, get_or, take, drop, replicate, length-append, length-drop, length-replicate, length-reverse}
use lib.Seq.{take_at, drop_at, length-take-le}
use borrow.Author.Tests.{ltb-true, ltb-false, lt-ltb, le-ltb, le-leb, eq-eqb}
use Rattle.definition.specs.Answers.{accepted}
use Rattle.definition.specs.Bytes.{little, total, ordered, bits, sign, extent, signed, low, laid, coded}
use Rattle.definition.specs.Lists.{front}
use Rattle.definition.specs.Fields.{first, number, all}

pub pow_pos : (n : ℕ) → 0 < 256 ^ n
pow_pos zero = lit< tt
pow_pos (suc n) = rw (pow-suc 256 n) (omega (arith, pow_pos n))

pub length_little : (n v : ℕ) → length (little n v) ≡ n
unfolding little
length_little zero v = refl
length_little (suc n) v = ap suc (length_little n (v / 256))

tail_mod : (n v : ℕ) → v % 256 ^ suc n ≡ v / 256 % 256 ^ n * 256 + v % 256
tail_mod n v = ap (λ (x : ℕ). v % x) (pow-suc 256 n) ∙ mod-mul v {m = 256 ^ n} {c = 256} (pow_pos n) (lit< tt)

-- what the bytes write
pub total_little : (n v : ℕ) → total (little n v) ≡ v % 256 ^ n
unfolding little total
total_little zero v = sym (mod-one v)
total_little (suc n) v = ap (λ (x : ℕ). x * 256 + v % 256) (total_little n (v / 256)) ∙ sym (tail_mod n v)

-- only the low bytes count
little_mod : (n v : ℕ) → little n (v % 256 ^ n) ≡ little n v
unfolding little
little_mod zero v = refl
little_mod (suc n) v =
    let h : v % 256 < 256 = mod-lt v (lit< tt) in
    rw (tail_mod n v, digits_mod (v / 256 % 256 ^ n) h, digits_div (v / 256 % 256 ^ n) h, little_mod n (v / 256))

pub little_same : (n v w : ℕ) → v % 256 ^ n ≡ w % 256 ^ n → little n v ≡ little n w
little_same n v w e = sym (little_mod n v) ∙ ap (little n) e ∙ little_mod n w

-- the byte k
pub little_at : (n v k : ℕ) → k < n → get_or (little n v) k 0 ≡ v / 256 ^ k % 256
unfolding little
little_at zero v k h = absurd (not-suc-le-zero h)
little_at (suc n) v zero h = ap (λ (x : ℕ). x % 256) (sym (div-one v))
little_at (suc n) v (suc k) h =
    little_at n (v / 256) k (le_of_suc-le-suc h)
    ∙ ap (λ (x : ℕ). x % 256) (div-div-eq-div-mul v 256 (256 ^ k) ∙ ap (λ (x : ℕ). v / x) (sym (pow-succ' 256 k)))

-- one byte more, which counts 256 ^ k
pub total_more : (s : List ℕ) (k : ℕ) → k < length s → total (take (suc k) s) ≡ total (take k s) + get_or s k 0 * 256 ^ k
unfolding total
total_more [] k h = absurd (not-suc-le-zero h)
total_more (b ∷ s) zero h = omega arith
total_more (b ∷ s) (suc k) h =
    let x : ℕ = get_or s k 0 in
    let p : x * 256 ^ suc k ≡ x * 256 ^ k * 256 = ap (λ (y : ℕ). x * y) (pow-suc 256 k) ∙ sym (mul_assoc x (256 ^ k) 256) in
    omega (arith, total_more s k (le_of_suc-le-suc h), p)

ordered_twice : (o : Bool) (l : List ℕ) → ordered o (ordered o l) ≡ l
ordered_twice false l = refl
ordered_twice true l = reverse-reverse l

pub length_ordered : (o : Bool) (l : List ℕ) → length (ordered o l) ≡ length l
length_ordered false l = refl
length_ordered true l = length-reverse l

pub length_laid : (o : Bool) (n w b : ℕ) → length (laid o n w b) ≡ n
unfolding laid
length_laid o n w b = length_ordered o _ ∙ length-append (little (low n) w) (replicate (n - 8) b) ∙ simp (length_little, length-replicate) (omega arith)

pub length_coded : (o : Bool) (n : ℕ) (z : ℤ) → length (coded o n z) ≡ n
length_coded o n z = length_laid o n (bits z) (sign z)

pub front_of : (k : ℕ) (x rest : List ℕ) (n : ℕ) → length x ≡ n → front k n (x ++ rest) ≡ accepted x
front_of k x rest n e =
    let h : leb n (length (x ++ rest)) ≡ true = le-leb n (length (x ++ rest)) (omega (arith, length-append x rest)) in
    rw (h, take_at x rest n e)

pub first_of : (x rest : List ℕ) (n : ℕ) → length x ≡ n → first n (x ++ rest) ≡ accepted x
first_of = front_of 17

in_order : (o : Bool) (n : ℕ) (z : ℤ) → ordered o (coded o n z) ≡ little (low n) (bits z) ++ replicate (n - 8) (sign z)
unfolding laid
in_order o n z = ordered_twice o _

-- an integer's bytes, read: its low bits and its fill
pub number_coded : (o : Bool) (n : ℕ) (z : ℤ) (post : List ℕ) → number o n (coded o n z ++ post) ≡ accepted (bits z % 256 ^ low n, replicate (n - 8) (sign z))
unfolding number
number_coded o n z post =
    let l = length_little (low n) (bits z) in
    rw (first_of (coded o n z) post n (length_coded o n z), in_order o n z, take_at (little (low n) (bits z)) (replicate (n - 8) (sign z)) (low n) l, drop_at (little (low n) (bits z)) (replicate (n - 8) (sign z)) (low n) l, total_little (low n) (bits z))

-- n bytes of d from `at` on
pub length_part : (n at : ℕ) (d : List ℕ) → at + n ≤ length d → length (take n (drop at d)) ≡ n
length_part n at d h = length-take-le n (drop at d) (rw (length-drop at d) (omega arith))

-- what is read of them, where the data don't end
pub number_is : (o : Bool) (n at : ℕ) (d : List ℕ) → at + n ≤ length d → number o n (drop at d) ≡ accepted (total (take (low n) (ordered o (take n (drop at d)))), drop (low n) (ordered o (take n (drop at d))))
unfolding number
number_is o n at d h = rw (le-leb n (length (drop at d)) (rw (length-drop at d) (omega arith)))

pub all_replicate : (n f : ℕ) → all f (replicate n f) ≡ true
all_replicate zero f = refl
all_replicate (suc n) f = rw (eq-eqb f f refl, all_replicate n f)

-- ---- two's complement in m bytes of eight
record Above (m : ℕ) : Type 0 where
  times : ℕ
  whole : 2 ^ 64 ≡ times * 256 ^ m + 256 ^ m

above : (m : ℕ) → m ≤ 8 → Above m
above m h = go (256 ^ (8 - m)) (pow_pos (8 - m)) (ap (λ (k : ℕ). 256 ^ k) eight ∙ pow-add 256 (8 - m) m)
  where
    eight : 8 ≡ 8 - m + m
    eight = omega arith

    go : (c : ℕ) → 0 < c → 2 ^ 64 ≡ c * 256 ^ m → Above m
    go zero p e = absurd (not-suc-le-zero p)
    go (suc j) p e = record { times = j; whole = e ∙ suc-mul j (256 ^ m) }

-- the bits of a number that was brought into the signed range
pub bits_signed : (m u : ℕ) → m ≤ 8 → u < 256 ^ m → bits (signed m u) % 256 ^ m ≡ u
unfolding signed
bits_signed m u h k = go (ltb (u * 2) (256 ^ m)) refl
  where
    go : (t : Bool) → ltb (u * 2) (256 ^ m) ≡ t → bits (cond t (pos u) (negsuc (256 ^ m - 1 - u))) % 256 ^ m ≡ u
    go true e = mod-eq_of_lt k
    go false e =
        let a = above m h in
        let w : 2 ^ 64 - 1 - (256 ^ m - 1 - u) ≡ a.times * 256 ^ m + u = omega (arith, a.whole) in
        ap (λ (x : ℕ). x % 256 ^ m) w ∙ digits_mod a.times k

pub bits_eight : (u : ℕ) → u < 2 ^ 64 → bits (signed 8 u) ≡ u
unfolding signed
bits_eight u h = go (ltb (u * 2) (256 ^ 8))
  where
    go : (t : Bool) → bits (cond t (pos u) (negsuc (256 ^ 8 - 1 - u))) ≡ u
    go true = refl
    go false = omega arith

pub signed_low : (m u : ℕ) → u * 2 < 256 ^ m → signed m u ≡ pos u
unfolding signed
signed_low m u h = rw (lt-ltb (u * 2) (256 ^ m) h)

pub signed_high : (m u : ℕ) → 256 ^ m ≤ u * 2 → signed m u ≡ negsuc (256 ^ m - 1 - u)
unfolding signed
signed_high m u h = rw (le-ltb (u * 2) (256 ^ m) h)

-- an integer in the range of m bytes, from its bits there
pub signed_bits : (m : ℕ) (z : ℤ) → 1 ≤ m → m ≤ 8 → extent z * 2 < 256 ^ m → signed m (bits z % 256 ^ m) ≡ z
unfolding signed
signed_bits zero z l h k = absurd (not-suc-le-zero l)
signed_bits (suc m) (pos u) l h k =
    let b : u < 256 ^ suc m = omega arith in
    ap (signed (suc m)) (mod-eq_of_lt b) ∙ signed_low (suc m) u k
signed_bits (suc m) (negsuc u) l h k =
    let a = above (suc m) h in
    let y : ℕ = 256 ^ suc m - 1 - u in
    let even : 256 ^ suc m ≡ 256 ^ m * 256 = pow-suc 256 m in
    let b : y < 256 ^ suc m = omega (arith, pow_pos (suc m)) in
    let w : 2 ^ 64 - 1 - u ≡ a.times * 256 ^ suc m + y = omega (arith, a.whole) in
    let c : (2 ^ 64 - 1 - u) % 256 ^ suc m ≡ y = ap (λ (x : ℕ). x % 256 ^ suc m) w ∙ digits_mod a.times b in
    let d : 256 ^ suc m - 1 - y ≡ u = omega arith in
    rw (c, le-ltb (y * 2) (256 ^ suc m) (omega arith), d)

pub pow_up : (i d : ℕ) → 256 ^ i ≤ 256 ^ (i + d)
pow_up i zero = rw (add-zero i) (le_refl (256 ^ i))
pow_up i (suc d) = rw (add-suc i d, pow-suc 256 (i + d)) (omega (arith, pow_up i d))

pub pow_le : (i j : ℕ) → i ≤ j → 256 ^ i ≤ 256 ^ j
pow_le i j h = let e : i + (j - i) ≡ j = omega arith in subst (λ (k : ℕ). 256 ^ i ≤ 256 ^ k) e (pow_up i (j - i))

-- up to eight bytes only the low bits count
pub coded_same : (o : Bool) (n : ℕ) (y z : ℤ) → n ≤ 8 → bits y % 256 ^ n ≡ bits z % 256 ^ n → coded o n y ≡ coded o n z
unfolding laid
coded_same o n y z h e =
    let l : low n ≡ n = omega arith in
    let k : n - 8 ≡ 0 = omega arith in
    rw (l, k, little_same n (bits y) (bits z) e)

pub bits_lt : (z : ℤ) → extent z < 2 ^ 63 → bits z < 2 ^ 64
bits_lt (pos u) h = omega arith
bits_lt (negsuc u) h = omega arith

pub extent_signed : (m u : ℕ) → m ≤ 8 → u < 256 ^ m → extent (signed m u) < 2 ^ 63
unfolding signed
extent_signed m u h k = go (ltb (u * 2) (256 ^ m)) refl
  where
    top : 256 ^ m ≤ 256 ^ 8
    top = pow_le m 8 h

    go : (t : Bool) → ltb (u * 2) (256 ^ m) ≡ t → extent (cond t (pos u) (negsuc (256 ^ m - 1 - u))) < 2 ^ 63
    go true e = omega (arith, top, ltb-true (u * 2) (256 ^ m) e)
    go false e = omega (arith, top, ltb-false (u * 2) (256 ^ m) e)

-- an integer of 64 bits, from them: so j and J keep it, and T too
pub signed_eight : (z : ℤ) → extent z < 2 ^ 63 → signed 8 (bits z) ≡ z
signed_eight z h = ap (signed 8) (sym (mod-eq_of_lt (bits_lt z h))) ∙ signed_bits 8 z (lit≤ tt) (lit≤ tt) (omega arith)
