-- Laws of the digits at the front, and of what the readers of a numeral answer.
use Prim.Native.Nat.{ℕ, zero, suc, ◌+◌, ◌*◌, ◌-◌, ◌^◌, ◌≤◌, ◌<◌}
use mathlib.Core.Path.{◌≡◌, refl, sym, ap, ◌∙◌}
use mathlib.Core.Bool.{Bool, true, false, cond, not}
use mathlib.Core.List.{List, [], ◌∷◌}
use native.Mathlib.Nat.{add-zero, zero-add, le_refl, le_trans}
use native.Mathlib.Numerals.{add-one, one-add}
use native.Mathlib.Omega.{arith}
use lib.Dec.{ltb, leb, eqb}
use lib.ListN.{length, get_or, take, drop, length-take, length-drop, drop_of_length-le}
use lib.Seq.{drop-cons, take_all}
use borrow.Author.Tests.{lt-ltb, le-ltb, ltb-false, leb-true, eqb-true, ne_eqb}
use borrow.Table.Steps.{cases}
use Rattle.definition.specs.Items.{is_digit, digits, value, numeral_of}
use Rattle.laws.proofs.Answers.{both_parts}
use Rattle.std.specs.Prelude.{Option, Some, None, Result, Ok, Err, MatchOption, unwrap_or}
use Rattle.std.proofs.Common.{true≢false}
use Rattle.std.specs.List.{AllWithin, HoldsAt, position_or_len}
use Rattle.std.proofs.lemmas.List.Sums.{position_or_len_is}
use Rattle.std.proofs.lemmas.List.Recursion.{is_position_or_len}
use Rattle.definition.specs.declared.Refusal.{Refusal}
use Rattle.definition.specs.declared.Refusal.TheVariants.{NumeralTooLarge}
use Rattle.numeral.specs.Numerals.{digit_first, grown, digit_on, read_on, numeral, reached, read_of, short_of}
use Rattle.numeral.specs.declared.Numeral.{Numeral}
use Rattle.numeral.specs.declared.Short.TheVariants as Short

-- the bytes from a place on: the byte there, and those from the next place on
pub drop_at : (s : List ℕ) (at : ℕ) → at < length s → drop at s ≡ get_or s at 0 ∷ drop (at + 1) s
drop_at s at h = rw (add-one, drop-cons s at 0)

-- all that is left from a place on
pub part_rest : (a : ℕ) (s : List ℕ) → take (length s - a) (drop a s) ≡ drop a s
part_rest a s = take_all (length s - a) (drop a s) (rw length-drop (le_refl (length s - a)))

-- the byte that is got at a place, and those behind it
pub got : (s : List ℕ) (at b : ℕ) → (at < length s) × HoldsAt (λ y. b ≡ y) s at → drop at s ≡ b ∷ drop (at + 1) s
got s at b h = drop_at s at h.0 ∙ ap (λ (c : ℕ). c ∷ drop (at + 1) s) (sym (h.1 0))

-- ---- the digits at the front
pub digits_none : (s : List ℕ) → digit_first s ≡ false → digits s ≡ []
unfolding digits
digits_none [] e = refl
digits_none (b ∷ s) e = rw e

pub digits_length : (s : List ℕ) → length (digits s) ≤ length s
unfolding digits
digits_length [] = omega arith
digits_length (b ∷ s) = cases (is_digit b) (λ q. rw q (omega (arith, digits_length s))) (λ q. rw q (omega arith))

-- where position and unwrap_or come to: the first byte that passes a test, or the end
pub first_or_end : (test : ℕ → Bool) (s : List ℕ) (r : Option ℕ)
    → MatchOption r (AllWithin (λ b. false ≡ test b) s 0 (length s)) (λ i. (i < length s) × HoldsAt (λ b. true ≡ test b) s i × AllWithin (λ b. false ≡ test b) s 0 i)
    → position_or_len test s ≡ unwrap_or r (length s)
first_or_end test s None z = position_or_len_is test s (length s) 0 (le_refl (length s)) (λ k l. sym (z k 0 (omega arith) l)) (λ l. absurd (omega arith))
first_or_end test s (Some i) z = position_or_len_is test s i 0 (omega (arith, z.0)) (λ k l. sym (z.2 k 0 (omega arith) l)) (λ l. sym (z.1 0))

-- the digits end at the first byte that is none
pub digits_end : (s : List ℕ) → length (digits s) ≡ position_or_len (λ b. not (is_digit b)) s
unfolding digits
digits_end = is_position_or_len (λ s. length (digits s)) (λ b. not (is_digit b)) refl (λ b s. cases (is_digit b) (λ q. rw q (omega arith)) (λ q. rw q))

-- zeros at the front change no value, and no end
pub zeros_passed : (s : List ℕ) → let k = position_or_len (λ b. not (eqb b 48)) s in
    (value 0 (digits (drop k s)) ≡ value 0 (digits s)) × (k + length (digits (drop k s)) ≡ length (digits s))
unfolding digits value
zeros_passed [] = (refl, refl)
zeros_passed (b ∷ s) =
    cases (eqb b 48)
    (λ q. let r = zeros_passed s in rw (q, eqb-true b 48 q, one-add) (r.0, omega (arith, r.1)))
    (λ q. rw q (refl, zero-add (length (digits (b ∷ s)))))

-- ---- the next digit
pub on_end : (n : ℕ) (s : List ℕ) (left : ℕ) → left ≡ 0 → Ok None ≡ digit_on n (take left s)
unfolding digit_on
on_end n s left e = rw e

pub on_past : (n : ℕ) (s : List ℕ) (at left : ℕ) → length s ≤ at → Ok None ≡ digit_on n (take left (drop at s))
unfolding digit_on
on_past n s at zero h = refl
on_past n s at (suc left) h = rw (drop_of_length-le s h)

pub on_byte : (n b : ℕ) (s : List ℕ) (left : ℕ) → (left ≡ 0 → ⊥) → digit_on n (take left (b ∷ s)) ≡ cond (is_digit b) (grown (n * 10 + (b - 48))) (Ok None)
unfolding digit_on
on_byte n b s zero h = absurd (h refl)
on_byte n b s (suc left) h = refl

-- a further digit has a byte
pub more_inside : (n : ℕ) (s : List ℕ) (at left m : ℕ) → digit_on n (take left (drop at s)) ≡ Ok (Some m) → (at < length s) × (0 < left)
unfolding digit_on
more_inside n s at left m e =
    let h = rw (length-take, length-drop) at (some (take left (drop at s)) e) in
    (omega arith, omega arith)
  where
    some : (l : List ℕ) → digit_on n l ≡ Ok (Some m) → 0 < length l
    some [] e = let z : ◌≡◌ {A = ℕ} 0 1 = cc in omega arith
    some (b ∷ l) e = omega arith

-- ---- the digits from a place on

-- what the next digit decides
abbrev pub onward : ℕ → ℕ → List ℕ → Result (Option ℕ) Refusal → Result Numeral Refusal
onward n at s (Ok None) = Ok (numeral n at)
onward n at s (Ok (Some m)) = read_on m (at + 1) (digits (drop 1 s))
onward n at s (Err r) = Err r

le_value : (n : ℕ) (ds : List ℕ) → n ≤ value n ds
unfolding value
le_value n [] = le_refl n
le_value n (d ∷ ds) = omega (arith, le_value (n * 10 + (d - 48)) ds)

read_none : (n at : ℕ) → n < 2 ^ 64 → read_on n at [] ≡ Ok (numeral n at)
unfolding read_on value
read_none n at h = rw (lt-ltb n (2 ^ 64) h, add-zero)

read_digit : (n at b : ℕ) (s : List ℕ) → read_on n at (b ∷ digits s) ≡ onward n at (b ∷ s) (grown (n * 10 + (b - 48)))
unfolding read_on value
read_digit n at b s =
    let m = n * 10 + (b - 48) in
    let v = value m (digits s) in
    let q : at + suc (length (digits s)) ≡ at + 1 + length (digits s) = omega arith in
    cases (ltb m (2 ^ 64)) (λ h. rw (h, q)) (λ h. rw (h, le-ltb v (2 ^ 64) (le_trans (ltb-false m (2 ^ 64) h) (le_value m (digits s)))))

pub read_on_lem : (n at : ℕ) (s : List ℕ) → n < 2 ^ 64 → read_on n at (digits s) ≡ onward n at s (digit_on n s)
unfolding digits digit_on
read_on_lem n at [] h = read_none n at h
read_on_lem n at (b ∷ s) h = cases (is_digit b) (λ q. rw q (read_digit n at b s)) (λ q. rw q (read_none n at h))

-- what is refused is too large
pub too_large : (n at : ℕ) (ds : List ℕ) (r : Refusal) → Err r ≡ read_on n at ds → Err NumeralTooLarge ≡ read_on n at ds
unfolding read_on
too_large n at ds r e = cases (ltb (value n ds) (2 ^ 64)) (λ q. let x = rw q at e in let z : ◌≡◌ {A = ℕ} 0 1 = cc in absurd (omega arith)) (λ q. rw q)

-- what a digit leaves: one byte less
pub left_behind : (s : List ℕ) (at left : ℕ) → at < length s → 0 < left → drop 1 (take left (drop at s)) ≡ take (left - 1) (drop (at + 1) s)
left_behind s at zero h l = absurd (omega arith)
left_behind s at (suc left) h l = let q : suc left - 1 ≡ left = omega arith in rw (drop_at s at h, q)

-- ---- the numeral at the front
abbrev pub front_of : List ℕ → Result (Option Numeral) Refusal
front_of s = read_of (numeral_of (digits s)) (length (digits s))

-- what is read where a digit stands at the front
abbrev pub found : Result Numeral Refusal → Result (Option Numeral) Refusal
found (Ok n) = Ok (Some n)
found (Err r) = Err r

pub front_none : (s : List ℕ) → digit_first s ≡ false → Ok None ≡ front_of s
unfolding numeral_of
front_none s e = rw (digits_none s e)

front_some : (s : List ℕ) → digit_first s ≡ true → front_of s ≡ found (read_on 0 0 (digits s))
unfolding numeral_of read_on digits
front_some [] e = absurd (true≢false (sym e))
front_some (b ∷ s) e = cases (ltb (value 0 (b ∷ digits s)) (2 ^ 64)) (λ q. rw (e, q, zero-add)) (λ q. rw (e, q))

read_same : (i at : ℕ) (s t : List ℕ) → value 0 s ≡ value 0 t → i + length s ≡ at + length t → read_on 0 i s ≡ read_on 0 at t
unfolding read_on
read_same i at s t e f = rw (e, f)

-- the rest of a numeral, past its zeros, with all bytes left
pub front_rest : (s : List ℕ) (i : ℕ) → digit_first s ≡ true
    → value 0 (digits (drop i s)) ≡ value 0 (digits s)
    → i + length (digits (drop i s)) ≡ length (digits s)
    → found (read_on 0 i (digits (take (length s - i) (drop i s)))) ≡ front_of s
front_rest s i e ev el =
    ap (λ (l : List ℕ). found (read_on 0 i (digits l))) (part_rest i s)
    ∙ ap found (read_same i 0 (digits (drop i s)) (digits s) ev (el ∙ sym (zero-add (length (digits s))))) ∙ sym (front_some s e)

-- ---- what a numeral shows at once
pub short_past : (s : List ℕ) (at : ℕ) → length s ≤ at → Short.Missing ≡ short_of (digits (drop at s))
unfolding digits
short_past s at h = rw (drop_of_length-le s h)

abbrev value_of : Result Numeral Refusal → ℕ
value_of (Ok m) = m.value
value_of (Err r) = 0

-- the number that one digit makes
digit_made : {A : Type 0} (d at : ℕ) (t : Option A) (n i : ℕ) → is_digit d ≡ true → d ≤ 57 → reached t n i ≡ read_on 0 at (digits (d ∷ [])) → n ≡ d - 48
unfolding digits read_on value
digit_made d at (Some u) n i e h q =
    let r = rw (e, lt-ltb (0 * 10 + (d - 48)) (2 ^ 64) (omega arith)) at q in
    let v : n ≡ 0 * 10 + (d - 48) = ap value_of r in
    omega arith
digit_made d at None n i e h q =
    let r = rw (e, lt-ltb (0 * 10 + (d - 48)) (2 ^ 64) (omega arith)) at q in
    let z : ◌≡◌ {A = ℕ} 0 1 = cc in
    absurd (omega arith)

-- of what begins with b
module _ (b : ℕ) (s : List ℕ) where
  pub short_none : is_digit b ≡ false → Short.Missing ≡ short_of (digits (b ∷ s))
  unfolding digits
  short_none d = rw d

  module _ (d : is_digit b ≡ true) where
    pub short_long : digit_first s ≡ true → Short.Long ≡ short_of (digits (b ∷ s))
    unfolding digits
    short_long f = rw d (go s f)
      where
        go : (l : List ℕ) → digit_first l ≡ true → Short.Long ≡ short_of (b ∷ digits l)
        go [] f = absurd (true≢false (sym f))
        go (e ∷ l) f = rw f

    -- no digit follows, and n was read with one byte left
    module _ (f : digit_first s ≡ false) {A : Type 0} (at : ℕ) (t : Option A) (n i : ℕ) (q : reached t n i ≡ read_on 0 at (digits (take 1 (b ∷ s)))) where
      low : (48 ≤ b) × (b ≤ 57)
      low = let p = both_parts (leb 48 b) (leb b 57) d in (leb-true 48 b p.0, leb-true b 57 p.1)

      made : n ≡ b - 48
      made = digit_made b at t n i d low.1 q

      pub short_zero : n ≡ 0 → Short.Long ≡ short_of (digits (b ∷ s))
      unfolding digits
      short_zero z = let p : b ≡ 48 = omega (arith, low, made) in rw (d, digits_none s f, p)

      pub short_one : (n ≡ 0 → ⊥) → Short.Digit n ≡ short_of (digits (b ∷ s))
      unfolding digits
      short_one z = rw (d, digits_none s f, ne_eqb b 48 (λ q. z (omega (arith, made))), made)
