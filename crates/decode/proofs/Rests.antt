-- What of the data is read: the next bytes, and the rest behind them.
use Prim.Native.Nat.{ℕ, ◌+◌, ◌-◌, ◌^◌, ◌≤◌, ◌<◌}
use native.Mathlib.Omega.{arith}
use mathlib.Core.Path.{◌≡◌, sym, ap, ◌∙◌}
use mathlib.Core.List.{List}
use lib.Dec.{leb}
use lib.ListN.{length, take, length-drop}
use borrow.Table.Steps.{cases}
use borrow.Author.Tests.{leb-true, leb-false, le-leb, lt-leb}
use Rattle.std.specs.Prelude.{min}
use Rattle.definition.specs.Answers.{Checked, refused, accepted, ◌>>=◌}
use Rattle.definition.specs.Fields.{first}
use Rattle.definition.specs.Reading.{offset}
use Rattle.definition.specs.declared.Offset.{Offset}
use Rattle.laws.proofs.Bytes.{length_part}
use Rattle.laws.proofs.Answers.{never, same, same_number, bound, passed}
use Rattle.decode.specs.Readings.{from}
use Rattle.decode.specs.Rests.{split, past}

-- the check that refused
refused_by : {A B : Type 0} (c : Checked A) (f : A → B) {k : ℕ} → refused k ≡ (c >>= λ a. accepted (f a)) → c ≡ refused k
refused_by (refused j) f e = ap refused (sym (same_number e))
refused_by (accepted a) f e = absurd (never e)

-- from an offset of the data d on, b are the next n bytes, and r is the rest behind them
pub record Taken (d : List ℕ) (at : Offset) (n : ℕ) (b : List ℕ) (r : List ℕ × Offset) : Type 0 where
  pub fits : at.0 + n ≤ length d
  pub bytes : b ≡ take n (from d at)
  pub kept : r.0 ≡ d
  pub behind : r.1 ≡ offset (at.0 + n)

module _ (d : List ℕ) (at : Offset) (n : ℕ) where
  pub split_refused : {k : ℕ} → refused k ≡ split d at n → first n (from d at) ≡ refused k
  unfolding split
  split_refused = refused_by (first n (from d at)) (λ b. (b, (d, offset (at.0 + n))))

  pub past_refused : {k : ℕ} → refused k ≡ past d at n → first n (from d at) ≡ refused k
  unfolding past
  past_refused = refused_by (first n (from d at)) (λ b. (d, offset (at.0 + n)))

module _ {d : List ℕ} {at : Offset} {n : ℕ} where
  taken : at.0 ≤ length d → {b : List ℕ} → first n (from d at) ≡ accepted b → {c : List ℕ} {r : List ℕ × Offset} → b ≡ c → r ≡ (d, offset (at.0 + n)) → Taken d at n c r
  taken h {b} e q i =
      let p = passed (leb n (length (from d at))) 17 (accepted (take n (from d at))) e in
      record { fits = omega (arith, h, leb-true n (length (from d at)) p.0, length-drop at.0 d); bytes = sym (same p.1 ∙ q); kept = ap (λ x. x.0) i; behind = ap (λ x. x.1) i }

  pub split_taken : at.0 ≤ length d → {b : List ℕ} {r : List ℕ × Offset} → accepted (b, r) ≡ split d at n → Taken d at n b r
  unfolding split
  split_taken h e =
      let f = bound (first n (from d at)) (λ b. accepted (b, (d, offset (at.0 + n)))) (sym e) in
      let p = same f.rest in
      taken h f.is (ap (λ x. x.0) p) (sym (ap (λ x. x.1) p))

  pub past_taken : at.0 ≤ length d → {r : List ℕ × Offset} → accepted r ≡ past d at n → Taken d at n (take n (from d at)) r
  unfolding past
  past_taken h e =
      let f = bound (first n (from d at)) (λ b. accepted (d, offset (at.0 + n))) (sym e) in
      let p = passed (leb n (length (from d at))) 17 (accepted (take n (from d at))) f.is in
      taken h f.is (sym (same p.1)) (sym (same f.rest))

-- the bytes that are passed over
pub past_first : (d : List ℕ) (at : Offset) (n : ℕ) → at.0 ≤ length d → {r : List ℕ × Offset} → accepted r ≡ past d at n → first n (from d at) ≡ accepted (take n (from d at))
past_first d at n h e = rw (le-leb n (length (from d at)) (omega (arith, (past_taken h e).fits, length-drop at.0 d)))

-- they are n
pub taken_size : {d : List ℕ} {at : Offset} {n : ℕ} {b : List ℕ} {r : List ℕ × Offset} → Taken d at n b r → length b ≡ n
taken_size {d} {at} {n} g = rw g.bytes (length_part n at.0 d g.fits)

-- no data have more bytes than 64 bits count
pub past_capped : (d : List ℕ) (at : Offset) (n : ℕ) → length d < 2 ^ 63 → past d at (min n (2 ^ 64 - 1)) ≡ past d at n
unfolding past
past_capped d at n h =
    let l : length (from d at) < 2 ^ 63 = omega (arith, length-drop at.0 d) in
    cases (leb n (2 ^ 64 - 1))
    (λ e. let same_n : min n (2 ^ 64 - 1) ≡ n = omega (arith, leb-true n (2 ^ 64 - 1) e) in rw same_n)
    (λ e. let over = leb-false n (2 ^ 64 - 1) e in
    rw (lt-leb (min n (2 ^ 64 - 1)) (length (from d at)) (omega (arith, l, over)), lt-leb n (length (from d at)) (omega (arith, l, over))))
