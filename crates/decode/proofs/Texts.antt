-- What a text reads is what the definition decodes.
use Prim.Native.Nat.{ℕ, suc, ◌+◌, ◌-◌, ◌≤◌, ◌<◌}
use native.Mathlib.Omega.{arith}
use mathlib.Core.Path.{◌≡◌, refl, sym, ap, ◌∙◌}
use mathlib.Core.Bool.{Bool, true, false, not, cond}
use mathlib.Core.List.{List, [], ◌∷◌}
use lib.Dec.{eqb, ltb, leb-suc-suc}
use lib.ListN.{length, take, drop, length-drop}
use lib.Seq.{length-take-le, take_all, drop-drop}
use borrow.Author.Tests.{le-leb, lt-leb, lt-ltb}
use Rattle.std.specs.Prelude.{Option, Some, None, Result, Ok, Err, ◌==◌, position}
use Rattle.std.specs.List.{position_or_len}
use Rattle.std.proofs.lemmas.List.Quantifiers.{position-Some}
use Rattle.definition.specs.Answers.{Checked, refused, accepted, ◌>>=◌}
use Rattle.definition.specs.Values.{Value, text}
use Rattle.definition.specs.Fields.{first, short, up_to_zero, number, unsigned, decode}
use Rattle.definition.specs.Reading.{offset}
use Rattle.definition.specs.declared.Offset.{Offset}
use Rattle.definition.specs.declared.Refusal.{Refusal}
use Rattle.definition.specs.Refusals.{refusal_number}
use Rattle.definition.specs.declared.Field.TheVariants as Field
use Rattle.load.specs.Numbers.{unsigned_at}
use Rattle.load.proofs.Parts.{unsigned_part}
use Rattle.decode.specs.Readings.{from, Decodes, TextOf}
use Rattle.decode.specs.declared.Reading.TheVariants.{Text}
use Rattle.decode.specs.declared.Decoded.{Decoded}
use Rattle.decode.specs.Rests.{split, past}
use Rattle.decode.proofs.Rests.{Taken, split_refused, past_refused}
use Rattle.decode.proofs.Numbers.{bind_bind}

-- the n bytes at an offset
module _ (n at : ℕ) (d : List ℕ) (h : at + n ≤ length d) where
  part_length : length (take n (drop at d)) ≡ n
  part_length = length-take-le n (drop at d) (omega (arith, length-drop at d))

  first_is : first n (drop at d) ≡ accepted (take n (drop at d))
  first_is = rw (le-leb n (length (drop at d)) (omega (arith, length-drop at d)))

  short_is : n ≤ 65535 → short (take n (drop at d)) ≡ accepted (take n (drop at d))
  short_is l = rw (le-leb (length (take n (drop at d))) 65535 (rw part_length l))

  long_is : 65535 < n → short (take n (drop at d)) ≡ refused 20
  long_is l = rw (lt-leb (length (take n (drop at d))) 65535 (rw part_length l))

-- ---- c
module _ (d : List ℕ) (at : Offset) (n : ℕ) (o : Bool) where
  pub chars_ended : {r : Refusal} → refused (refusal_number r) ≡ past d at n → Decodes d at o (Field.Chars n) (Err r)
  unfolding decode
  chars_ended e = record { says = rw (past_refused d at n e); inside = tt }

  chars_long : at.0 + n ≤ length d → 65535 < n → Decodes d at o (Field.Chars n) (Err Refusal.TextAbove65535)
  unfolding decode
  chars_long h l = record { says = rw (first_is n at.0 d h, long_is n at.0 d h l); inside = tt }

  chars_read : at.0 + n ≤ length d → (l : n ≤ 65535) → Decodes d at o (Field.Chars n) (Ok (record { reading = Text (record { start = at; size = n; short = l }); size = n }))
  unfolding decode
  chars_read h l = record { says = rw (first_is n at.0 d h, short_is n at.0 d h l); inside = (h, h) }

  pub chars_by : at.0 + n ≤ length d → {r : Result Decoded Refusal} → TextOf at n n r → Decodes d at o (Field.Chars n) r
  chars_by h {r = Ok x} t = rw t.is (chars_read h t.fits)
  chars_by h {r = Err e} t = rw t.1 (chars_long h t.0)

-- ---- z

abbrev is_zero : ℕ → Bool
is_zero b = b == 0

-- the bytes before the first zero, by its index
abbrev up_to : List ℕ → Option ℕ → Checked (List ℕ)
up_to s None = refused 19
up_to s (Some n) = accepted (take n s)

zero_is : (s : List ℕ) → up_to_zero s ≡ up_to s (position is_zero s)
zero_is [] = refl
zero_is (b ∷ s) = rw (told (eqb b 0)) (go (eqb b 0) (ltb n (length s)) (zero_is s))
  where
    n : ℕ
    n = position_or_len is_zero s

    one_more : 1 + n ≡ suc n
    one_more = omega arith

    -- z: whether b is a zero, h: whether one stands behind it
    go : (z h : Bool) → up_to_zero s ≡ up_to s (cond h (Some n) None)
        → cond z (accepted []) (up_to_zero s >>= λ t. accepted (b ∷ t)) ≡ up_to (b ∷ s) (cond (cond z true h) (Some (cond (not z) (1 + n) 0)) None)
    go true h q = refl
    go false true q = rw (q, one_more) refl
    go false false q = rw q refl

    told : (z : Bool) → ltb (cond (not z) (1 + n) 0) (suc (length s)) ≡ cond z true (ltb n (length s))
    told true = lt-ltb 0 (suc (length s)) (omega arith)
    told false = rw one_more (leb-suc-suc (suc n) (length s))

module _ (d : List ℕ) (at : Offset) (o : Bool) where
  -- the part of the data that is searched
  abbrev rest : List ℕ
  rest = take (length d - at.0) (from d at)

  rest_is : rest ≡ from d at
  rest_is = take_all (length d - at.0) (from d at) (omega (arith, length-drop at.0 d))

  pub zero_missing : position is_zero rest ≡ None → Decodes d at o Field.ZeroEnded (Err Refusal.MissingZero)
  unfolding decode
  zero_missing e = record { says = rw (zero_is (from d at), rw rest_is at e); inside = tt }

  -- the bytes before the zero
  module _ (n : ℕ) (e : position is_zero rest ≡ Some n) where
    below : at.0 + n + 1 ≤ length d
    below = omega (arith, (position-Some is_zero (from d at) n 0 (rw rest_is at e)).0, length-drop at.0 d)

    before_zero : up_to_zero (from d at) ≡ accepted (take n (from d at))
    before_zero = zero_is (from d at) ∙ ap (up_to (from d at)) (rw rest_is at e)

    zero_long : 65535 < n → Decodes d at o Field.ZeroEnded (Err Refusal.TextAbove65535)
    unfolding decode
    zero_long l = record { says = rw (before_zero, long_is n at.0 d (omega (arith, below)) l); inside = tt }

    zero_read : (l : n ≤ 65535) → Decodes d at o Field.ZeroEnded (Ok (record { reading = Text (record { start = at; size = n; short = l }); size = n + 1 }))
    unfolding decode
    zero_read l =
        let h : at.0 + n ≤ length d = omega (arith, below) in
        record { says = rw (before_zero, short_is n at.0 d h l, part_length n at.0 d h); inside = (h, omega (arith, below)) }

    pub zero_by : {r : Result Decoded Refusal} → TextOf at n (n + 1) r → Decodes d at o Field.ZeroEnded r
    zero_by {r = Ok x} t = rw t.is (zero_read t.fits)
    zero_by {r = Err e} t = rw t.1 (zero_long t.0)

-- ---- s: a length of n bytes, and the text of k bytes behind it

-- the text c, where m bytes are read in all
abbrev counting : ℕ → Checked (List ℕ) → Checked (Value × ℕ)
counting m c = c >>= λ t. short t >>= λ u. accepted (text u, m)

-- n bytes more are read, and all else is the same
abbrev more : ℕ → Checked (Value × ℕ) → Checked (Value × ℕ)
more n c = c >>= λ r. accepted (r.0, n + r.1)

counting_more : (n k : ℕ) (c : Checked (List ℕ)) → counting (n + k) c ≡ more n (counting k c)
counting_more n k (refused j) = refl
counting_more n k (accepted t) = go (short t)
  where
    go : (c : Checked (List ℕ)) → (c >>= λ u. accepted (text u, n + k)) ≡ more n (c >>= λ u. accepted (text u, k))
    go (refused j) = refl
    go (accepted u) = refl

module _ (o : Bool) {d : List ℕ} {at : Offset} {n : ℕ} where
  pub counted_ended : {r : Refusal} → refused (refusal_number r) ≡ split d at n → Decodes d at o (Field.Counted n) (Err r)
  unfolding decode number
  counted_ended e = record { says = rw (split_refused d at n e); inside = tt }

  -- b are the bytes of the length, and r is the rest behind them
  module _ {b : List ℕ} {r : List ℕ × Offset} (g : Taken d at n b r) where
    decode_counted : decode o (Field.Counted n) (from d at) ≡ (unsigned_at o (length b) b >>= λ k. counting (n + k) (first k (drop n (from d at))))
    unfolding decode
    decode_counted =
        rw g.bytes
        (sym (ap (λ (c : Checked ℕ). c >>= λ k. counting (n + k) (first k (drop n (from d at)))) (unsigned_part o n at.0 n d refl g.fits)
        ∙ bind_bind (number o n (from d at)) (λ r. unsigned r.0 r.1) (λ k. counting (n + k) (first k (drop n (from d at))))))

    pub counted_wide : refused 18 ≡ unsigned_at o (length b) b → Decodes d at o (Field.Counted n) (Err Refusal.IntegerTooWide)
    counted_wide e = record { says = rw (decode_counted, ← e); inside = tt }

    -- the text has k bytes
    module _ {k : ℕ} (e : accepted k ≡ unsigned_at o (length b) b) where
      behind : more n (decode o (Field.Chars k) (from d (offset (at.0 + n)))) ≡ decode o (Field.Counted n) (from d at)
      unfolding decode
      behind = rw (decode_counted, ← e, drop-drop n at.0 d) (sym (counting_more n k (first k (drop (at.0 + n) d))))

      pub counted_refused : {x : Refusal} → Decodes r.0 r.1 o (Field.Chars k) (Err x) → Decodes d at o (Field.Counted n) (Err x)
      counted_refused s =
          let t = rw (g.kept, g.behind) at s in
          record { says = ap (more n) t.says ∙ behind; inside = tt }

      pub counted_read : {x : Decoded} → Decodes r.0 r.1 o (Field.Chars k) (Ok x) → Decodes d at o (Field.Counted n) (Ok (record { reading = x.reading; size = n + x.size }))
      counted_read s =
          let t = rw (g.kept, g.behind) at s in
          record { says = ap (more n) t.says ∙ behind; inside = (t.inside.0, omega (arith, t.inside.1)) }
