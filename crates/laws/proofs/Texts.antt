-- The text of c, z and s is read back, and written again.
use Prim.Native.Nat.{ℕ, ◌+◌, ◌-◌, ◌^◌, ◌≤◌, ◌<◌}
use mathlib.Core.Path.{◌≡◌, refl, sym, ap, ◌∙◌, subst}
use mathlib.Core.Bool.{Bool, true, false, not, cond}
use mathlib.Core.List.{List, [], ◌∷◌, ◌++◌, append_assoc, append-nil}
use native.Mathlib.Nat.{mod-eq_of_lt}
use native.Mathlib.Omega.{arith}
use native.Mathlib.Decide.{dec_le}
use lib.Dec.{T, leb, ltb, eqb, leb→le}
use lib.IntN.{pos}
use lib.ListN.{length, replicate, length-append, length-replicate}
use lib.Seq.{drop_at}
use borrow.Author.Tests.{ltb-true, leb-true, lt-ltb, le-leb}
use Rattle.definition.specs.Answers.{accepted, ◌>>=◌}
use Rattle.definition.specs.Bytes.{low, coded}
use Rattle.definition.specs.Values.{Value, integer, float, text, other, Held}
use Rattle.definition.specs.Fields.{encode, decode, kept, filled, has_zero, up_to_zero}
use Rattle.definition.specs.declared.Field.{Field}
use Rattle.definition.specs.declared.Field.TheVariants.{Chars, ZeroEnded, Counted}
use Rattle.laws.proofs.Answers.{never, same, passed, true_not_false}
use Rattle.laws.proofs.Bytes.{length_coded, first_of, number_coded, all_replicate}

-- A value that a field wrote as bs is read back as what is kept of it, and this is written as bs again.
pub record Returns (o : Bool) (f : Field) (v : Value) (bs : List ℕ) : Type 0 where
  pub reads : (rest : List ℕ) → decode o f (bs ++ rest) ≡ accepted (kept f v, length bs)
  pub again : encode o f (kept f v) ≡ accepted bs
  pub held : Held (kept f v)

pub length_filled : (n : ℕ) (s : List ℕ) → length s ≤ n → length (filled n s) ≡ n
length_filled n s h = length-append s (replicate (n - length s) 0) ∙ ap (λ (k : ℕ). length s + k) (length-replicate (n - length s) 0) ∙ omega arith

filled_full : (n : ℕ) (s : List ℕ) → length s ≡ n → filled n s ≡ s
filled_full n s e = let k : n - length s ≡ 0 = omega arith in rw k (append-nil s)

chars : (o : Bool) (n : ℕ) (s : List ℕ) → length s ≤ n → n ≤ 65535 → Returns o (Chars n) (text s) (filled n s)
unfolding encode decode kept
chars o n s h k =
    let l = length_filled n s h in
    let short-enough : leb (length (filled n s)) 65535 ≡ true = le-leb (length (filled n s)) 65535 (omega arith) in
    record {
      reads = λ rest. rw (first_of (filled n s) rest n l, short-enough) (ap (λ (x : ℕ). accepted (text (filled n s), x)) (sym l));
      again = rw (le-leb (length (filled n s)) n (omega arith), filled_full n (filled n s) l);
      held = omega arith;
    }

up_to : (s rest : List ℕ) → not (has_zero s) ≡ true → up_to_zero ((s ++ (0 ∷ [])) ++ rest) ≡ accepted s
up_to [] rest e = refl
up_to (b ∷ s) rest e = go (eqb b 0) e (up_to s rest)
  where
    go : (t : Bool) → not (cond t true (has_zero s)) ≡ true → (not (has_zero s) ≡ true → up_to_zero ((s ++ (0 ∷ [])) ++ rest) ≡ accepted s) → cond t (accepted []) (up_to_zero ((s ++ (0 ∷ [])) ++ rest) >>= λ u. accepted (b ∷ u)) ≡ accepted (b ∷ s)
    go true e ih = absurd (true_not_false (sym e))
    go false e ih = rw (ih e)

zero_ended : (o : Bool) (s : List ℕ) → not (has_zero s) ≡ true → length s ≤ 65535 → Returns o ZeroEnded (text s) (s ++ (0 ∷ []))
unfolding encode decode kept
zero_ended o s e h = record {
  reads = λ rest. rw (up_to s rest e, le-leb (length s) 65535 h) (ap (λ (x : ℕ). accepted (text s, x)) (sym (length-append s (0 ∷ []))));
  again = rw e;
  held = h;
}

-- what n bytes hold, and eight do, the low bytes hold
pub low_lt : (n l : ℕ) → l < 256 ^ n → l < 2 ^ 64 → l < 256 ^ low n
low_lt n l h k = go (dec_le n 8)
  where
    go : Dec (n ≤ 8) → l < 256 ^ low n
    go (yes q) = let e : low n ≡ n = omega arith in rw e h
    go (no q) = let e : low n ≡ 8 = omega arith in rw e (omega arith)

counted : (o : Bool) (n : ℕ) (s : List ℕ) → length s < 256 ^ n → length s ≤ 65535 → Returns o (Counted n) (text s) (coded o n (pos (length s)) ++ s)
unfolding encode decode kept
counted o n s h k =
    let c : List ℕ = coded o n (pos (length s)) in
    let l = length_coded o n (pos (length s)) in
    record {
      reads = λ rest. rw (append_assoc c s rest, number_coded o n (pos (length s)) (s ++ rest), all_replicate (n - 8) 0, mod-eq_of_lt (low_lt n (length s) h (omega arith)), drop_at c (s ++ rest) n l, first_of s rest (length s) refl, le-leb (length s) 65535 k)
          (ap (λ (x : ℕ). accepted (text s, x)) (sym (length-append c s ∙ ap (λ (x : ℕ). x + length s) l)));
      again = rw (lt-ltb (length s) (256 ^ n) h);
      held = k;
    }

-- ---- c, z and s of any value

pub chars_back : (o : Bool) (n : ℕ) (v : Value) (bs : List ℕ) → Held v → T (leb n 65535) → encode o (Chars n) v ≡ accepted bs → Returns o (Chars n) v bs
unfolding encode
chars_back o n (integer z) bs held ok e = absurd (never e)
chars_back o n (float b) bs held ok e = absurd (never e)
chars_back o n (text s) bs held ok e =
    let p = passed (leb (length s) n) 15 (accepted (filled n s)) e in
    subst (Returns o (Chars n) (text s)) (same p.1) (chars o n s (leb-true (length s) n p.0) (leb→le n 65535 ok))
chars_back o n other bs held ok e = absurd (never e)

pub zero_ended_back : (o : Bool) (v : Value) (bs : List ℕ) → Held v → encode o ZeroEnded v ≡ accepted bs → Returns o ZeroEnded v bs
unfolding encode
zero_ended_back o (integer z) bs held e = absurd (never e)
zero_ended_back o (float b) bs held e = absurd (never e)
zero_ended_back o (text s) bs held e =
    let p = passed (not (has_zero s)) 14 (accepted (s ++ (0 ∷ []))) e in
    subst (Returns o ZeroEnded (text s)) (same p.1) (zero_ended o s p.0 held)
zero_ended_back o other bs held e = absurd (never e)

pub counted_back : (o : Bool) (n : ℕ) (v : Value) (bs : List ℕ) → Held v → encode o (Counted n) v ≡ accepted bs → Returns o (Counted n) v bs
unfolding encode
counted_back o n (integer z) bs held e = absurd (never e)
counted_back o n (float b) bs held e = absurd (never e)
counted_back o n (text s) bs held e =
    let p = passed (ltb (length s) (256 ^ n)) 15 (accepted (coded o n (pos (length s)) ++ s)) e in
    subst (Returns o (Counted n) (text s)) (same p.1) (counted o n s (ltb-true (length s) (256 ^ n) p.0) held)
counted_back o n other bs held e = absurd (never e)
