-- The plan of an item is what writing does: one law for each way through its checks.
use Prim.Native.Nat.{ℕ, ◌+◌, ◌-◌, ◌^◌, ◌<◌, ◌≤◌, min}
use native.Mathlib.Omega.{arith}
use mathlib.Core.Path.{◌≡◌, refl, sym, ap, subst}
use mathlib.Core.Bool.{true, false}
use mathlib.Core.List.{List, [], ◌∷◌}
use Rattle.std.specs.Prelude.{Result, Ok, Err, Some, None, IsErrAnd}
use lib.Dec.{T, leb, ltb, leb→le}
use mir.Facts.{and_yes}
use lib.ListN.{length, take, drop}
use borrow.Author.Tests.{leb-true}
use Rattle.definition.specs.Answers.{refused, accepted, ◌>>=◌}
use Rattle.definition.specs.Refusals.{refusal_number}
use Rattle.definition.specs.Bytes.{laid}
use Rattle.definition.specs.Ops.{is_power}
use Rattle.definition.specs.Values as definition
use Rattle.definition.specs.States.{longer, natural, alignment, fill, padding}
use Rattle.definition.specs.Fields.{has_zero, word, encode}
use Rattle.definition.specs.Writing.{place, taking, write_field, write_op}
use Rattle.definition.specs.declared.State.{State}
use Rattle.definition.specs.declared.Setting.{Setting}
use Rattle.definition.specs.declared.Kind.{Kind}
use Rattle.definition.specs.declared.Field.{Field}
use Rattle.definition.specs.declared.Op.{Op}
use Rattle.definition.specs.declared.Refusal.{Refusal}
use Rattle.laws.proofs.Answers.{same, same_number, bound, passed}
use Rattle.laws.proofs.Exits.{exit_is}
use Rattle.laws.proofs.Bytes.{length_laid}
use Rattle.laws.proofs.Fields.{valid_field, number_size}
use Rattle.laws.proofs.Numbers.{valid_size}
use Rattle.laws.proofs.Fills.{fill_of_lem}
use Rattle.laws.proofs.Ops.{power_least, power_most}
use Rattle.laws.proofs.Steps.{room_longer}
use Rattle.values.specs.Meaning.{meaning, FieldRead}
use Rattle.values.specs.declared.Value.{Value}
use Rattle.store.specs.Texts.{text_bytes, counted_bytes}
use Rattle.word.specs.Words.{fill_of, Says}
use Rattle.plan.specs.Places.{left_of, list_of}
use Rattle.plan.specs.Texts.{first_text, TextRead}
use Rattle.plan.specs.Plans.{Wrote, ItemAt, Begun, Encoded, TextPlan}
use Rattle.plan.specs.declared.item.Plan.{Plan}
use Rattle.plan.specs.declared.text.Text.{Text}
use Rattle.plan.specs.declared.place.Place.{Place}
use Rattle.plan.specs.declared.place.Padded.{Padded}
use Rattle.plan.proofs.Places.{none_left, first}
use Rattle.plan.proofs.Texts.{TextField, no_text, text_length, chars_long, chars_bytes, zero_ended_zero, zero_ended_bytes, counted_long, counted_bytes_lem, counted_length}

-- ---- padding is below 16

pub padding_lt : (s : State) (n p : ℕ) → padding s n ≡ accepted p → p < 16
unfolding alignment padding
padding_lt s n p e =
    let b = bound (alignment s n) (λ a. accepted (fill a s.length)) e in
    let c = passed (is_power (min n s.limit)) 6 (accepted (min n s.limit)) b.is in
    subst (λ (x : ℕ). x < 16) (same b.rest) (below b.val (subst (λ (x : ℕ). is_power x ≡ true) (same c.1) c.0))
  where
    below : (a : ℕ) → is_power a ≡ true → fill a s.length < 16
    below a h = omega (arith, (fill_of_lem a s.length (power_least a h)).below, power_most a h)

-- ---- 9
no_room : (s : State) (n : ℕ) → leb (s.length + n) (2 ^ 63 - 1) ≡ false → longer s n ≡ refused 9
unfolding longer
no_room s n e = rw e

-- ---- a refusal is passed on
pub passed_on : {at : Place} {op : Op} {r : Result Plan Refusal} {e : Refusal} → IsErrAnd r (λ x. x ≡ e) → ItemAt at op (Err e) → ItemAt at op r
passed_on h q = rw (exit_is h) q

-- ---- x and X
module _ (at : Place) (n k : ℕ) where
  pub pad_unaligned : {r : Result Plan Refusal} (e : Refusal) → IsErrAnd r (λ x. x ≡ e) → refused (refusal_number e) ≡ padding at.state n → ItemAt at (Op.Pad n k) r
  unfolding write_op
  pad_unaligned e h told = passed_on h (record { says = rw (← told) })

  module _ (p : ℕ) (e : padding at.state n ≡ accepted p) where
    pub pad_long : leb (at.state.length + (p + k)) (2 ^ 63 - 1) ≡ false → ItemAt at (Op.Pad n k) (Err Refusal.LengthTooLarge)
    unfolding write_op
    pad_long h = record { says = rw (e, no_room at.state (p + k) h) }

    pub pad_zeros : leb (at.state.length + (p + k)) (2 ^ 63 - 1) ≡ true → ItemAt at (Op.Pad n k) (Ok (Plan.Zeros (p + k)))
    unfolding write_op
    pad_zeros h = record { says = record { is = rw (e, room_longer at.state (p + k) h); room = leb-true (at.state.length + (p + k)) (2 ^ 63 - 1) h } }

-- ---- fields
pub unaligned : {at : Place} {f : Field} {r : Result Plan Refusal} (e : Refusal) → IsErrAnd r (λ x. x ≡ e) → refused (refusal_number e) ≡ padding at.state (natural f) → ItemAt at (Op.Put f) r
unfolding write_op write_field
unaligned e h told = passed_on h (record { says = rw (← told) })

-- the zeros before a field and the early check are passed
module _ {x : Padded} {f : Field} (b : Begun x f) where
  -- there is no first value, or it is refused
  first_refused : (r : Refusal) → (taking (left_of x.place.reader) >>= λ t. encode x.place.state.big f t.0) ≡ refused (refusal_number r) → ItemAt x.place (Op.Put f) (Err r)
  unfolding write_op write_field
  first_refused r e = record { says = go (left_of x.place.reader) e }
    where
      go : (vs : List definition.Value) → (taking vs >>= λ t. encode x.place.state.big f t.0) ≡ refused (refusal_number r) → write_op (place x.place.state vs) (Op.Put f) ≡ refused (refusal_number r)
      go [] e = rw (b.padded, b.early_is) (ap refused (same_number e))
      go (v ∷ vs) e = rw (b.padded, b.early_is, e)

  value_missing : FieldRead (list_of x.place) x.place.reader.at None → ItemAt x.place (Op.Put f) (Err Refusal.NoValueLeft)
  value_missing h = first_refused Refusal.NoValueLeft (rw (none_left x.place.reader h))

  pub value_refused : {v : Value} {next : ℕ} → FieldRead (list_of x.place) x.place.reader.at (Some (v, next)) → (r : Refusal)
      → encode x.place.state.big f (meaning (list_of x.place) v) ≡ refused (refusal_number r) → ItemAt x.place (Op.Put f) (Err r)
  value_refused h r e = first_refused r (rw (first x.place.reader h).is e)

  pub text_missing : TextField f → (r : Refusal) → TextRead x.place.reader (Err r) → ItemAt x.place (Op.Put f) (Err r)
  text_missing t r h = first_refused r (go (left_of x.place.reader) h)
    where
      go : (vs : List definition.Value) → first_text vs ≡ refused (refusal_number r) → (taking vs >>= λ t. encode x.place.state.big f t.0) ≡ refused (refusal_number r)
      go [] e = ap refused (same_number e)
      go (v ∷ vs) e = no_text x.place.state.big f v _ t e

-- only 9 is left, of `size` bytes with the zeros
module _ {x : Padded} {f : Field} {v : Value} {next : ℕ} {bytes : List ℕ} (e : Encoded x f v next bytes) {size : ℕ} (long : x.pads + length bytes ≡ size) where
  pub too_long : leb (x.place.state.length + size) (2 ^ 63 - 1) ≡ false → ItemAt x.place (Op.Put f) (Err Refusal.LengthTooLarge)
  unfolding write_op write_field
  too_long h = record { says = rw ((first x.place.reader e.found).is, e.begun.padded, e.begun.early_is, e.is, long, no_room x.place.state size h) }

  pub put : leb (x.place.state.length + size) (2 ^ 63 - 1) ≡ true → Wrote x.place (Op.Put f) x.pads bytes size next
  unfolding write_op write_field
  put h =
      let here = first x.place.reader e.found in
      record {
        field = f;
        val = meaning (list_of x.place) v;
        is = rw (here.is, e.begun.padded, e.begun.early_is, e.is, long, room_longer x.place.state size h);
        long = long;
        room = leb-true (x.place.state.length + size) (2 ^ 63 - 1) h;
        known = here.known;
        behind = e.found.sound.behind;
      }

-- ---- a text with zeros behind it
module _ (x : Padded) (t : Text) (zeros : ℕ) where
  text_size : {f : Field} → Encoded x f (Value.Text t.start t.length) t.next (text_bytes (list_of x.place) t.start t.length zeros) → x.pads + length (text_bytes (list_of x.place) t.start t.length zeros) ≡ x.pads + (t.length + zeros)
  text_size e = ap (λ (n : ℕ). x.pads + n) (text_length e.found zeros)

  pub text_too_long : leb (x.place.state.length + (x.pads + (t.length + zeros))) (2 ^ 63 - 1) ≡ false → TextPlan x t zeros (Err Refusal.LengthTooLarge)
  text_too_long h f e = too_long e (text_size e) h

  pub text_put : leb (x.place.state.length + (x.pads + (t.length + zeros))) (2 ^ 63 - 1) ≡ true → TextPlan x t zeros (Ok (Plan.Text x.pads t zeros))
  text_put h f e = record { says = record { wrote = put e (text_size e) h; within = e.found.sound.inside.0 } }

-- ---- numbers
begun_number : (x : Padded) (k : Kind) (n : ℕ) → padding x.place.state n ≡ accepted x.pads → Begun x (Field.Number k n)
begun_number x k n padded = record { padded = padded; state = x.place.state; early_is = refl }

module _ (x : Padded) (k : Kind) (n : ℕ) (padded : padding x.place.state n ≡ accepted x.pads) where
  pub number_missing : {r : Result Plan Refusal} (e : Refusal) → IsErrAnd r (λ y. y ≡ e) → FieldRead (list_of x.place) x.place.reader.at None → ◌≡◌ {A = Result (Value × ℕ) Refusal} (Err e) (Err Refusal.NoValueLeft)
      → ItemAt x.place (Op.Put (Field.Number k n)) r
  number_missing e err h q =
      let is : e ≡ Refusal.NoValueLeft = cc in
      passed_on err (rw is (value_missing (begun_number x k n padded) h))

  module _ {v : Value} {next : ℕ} (found : FieldRead (list_of x.place) x.place.reader.at (Some (v, next))) where
    pub number_refused : {r : Result Plan Refusal} (e : Refusal) → IsErrAnd r (λ y. y ≡ e) → ((l : List ℕ) → Says n (word k n (meaning l v)) (Err e)) → ItemAt x.place (Op.Put (Field.Number k n)) r
    unfolding encode
    number_refused e err h = passed_on err (value_refused (begun_number x k n padded) found _ (sym (h (list_of x.place) x.place.state.big)))

    module _ (w : ℕ) (says : (l : List ℕ) → Says n (word k n (meaning l v)) (Ok w)) where
      number_encoded : Encoded x (Field.Number k n) v next (laid x.place.state.big n w (fill_of w))
      unfolding encode
      number_encoded = record { begun = begun_number x k n padded; found = found; is = sym (says (list_of x.place) x.place.state.big) }

      number_length : x.pads + length (laid x.place.state.big n w (fill_of w)) ≡ x.pads + n
      number_length = ap (λ (m : ℕ). x.pads + m) (length_laid x.place.state.big n w (fill_of w))

      pub number_long : leb (x.place.state.length + (x.pads + n)) (2 ^ 63 - 1) ≡ false → ItemAt x.place (Op.Put (Field.Number k n)) (Err Refusal.LengthTooLarge)
      number_long h = too_long number_encoded number_length h

      pub number_put : leb (x.place.state.length + (x.pads + n)) (2 ^ 63 - 1) ≡ true → ItemAt x.place (Op.Put (Field.Number k n)) (Ok (Plan.Number x.pads n w next))
      number_put h = record { says = put number_encoded number_length h }

-- ---- c, which checks 9 early
module _ (x : Padded) (n : ℕ) (padded : padding x.place.state 1 ≡ accepted x.pads) where
  pub chars_early : leb (x.place.state.length + n) (2 ^ 63 - 1) ≡ false → ItemAt x.place (Op.Put (Field.Chars n)) (Err Refusal.LengthTooLarge)
  unfolding write_op write_field
  chars_early h = record { says = rw (padded, no_room x.place.state n h) }

  module _ (room : leb (x.place.state.length + n) (2 ^ 63 - 1) ≡ true) where
    begun_c : Begun x (Field.Chars n)
    begun_c = record { padded = padded; state = _; early_is = room_longer x.place.state n room }

    pub chars_missing : {r : Result Plan Refusal} (e : Refusal) → IsErrAnd r (λ y. y ≡ e) → TextRead x.place.reader (Err e) → ItemAt x.place (Op.Put (Field.Chars n)) r
    chars_missing e err h = passed_on err (text_missing begun_c tt e h)

    module _ (t : Text) (found : TextRead x.place.reader (Ok t)) where
      pub chars_too_long : n < t.length → ItemAt x.place (Op.Put (Field.Chars n)) (Err Refusal.TextDoesNotFit)
      chars_too_long h = value_refused begun_c found Refusal.TextDoesNotFit (chars_long found x.place.state.big n h)

      pub chars_put : {r : Result Plan Refusal} → t.length ≤ n → TextPlan x t (n - t.length) r → ItemAt x.place (Op.Put (Field.Chars n)) r
      chars_put h plan = plan (Field.Chars n) (record { begun = begun_c; found = found; is = chars_bytes found x.place.state.big n h })

-- ---- z
begun_z : (x : Padded) → padding x.place.state 1 ≡ accepted x.pads → Begun x Field.ZeroEnded
begun_z x padded = record { padded = padded; state = x.place.state; early_is = refl }

module _ (x : Padded) (padded : padding x.place.state 1 ≡ accepted x.pads) where
  pub z_missing : {r : Result Plan Refusal} (e : Refusal) → IsErrAnd r (λ y. y ≡ e) → TextRead x.place.reader (Err e) → ItemAt x.place (Op.Put Field.ZeroEnded) r
  z_missing e err h = passed_on err (text_missing (begun_z x padded) tt e h)

  module _ (t : Text) (found : TextRead x.place.reader (Ok t)) where
    pub z_zero : has_zero (take t.length (drop t.start (list_of x.place))) ≡ true → ItemAt x.place (Op.Put Field.ZeroEnded) (Err Refusal.ZeroInText)
    z_zero h = value_refused (begun_z x padded) found Refusal.ZeroInText (zero_ended_zero found x.place.state.big h)

    pub z_put : {r : Result Plan Refusal} → has_zero (take t.length (drop t.start (list_of x.place))) ≡ false → TextPlan x t 1 r → ItemAt x.place (Op.Put Field.ZeroEnded) r
    z_put h plan = plan Field.ZeroEnded (record { begun = begun_z x padded; found = found; is = zero_ended_bytes found x.place.state.big h })

-- ---- s
module _ (x : Padded) (n : ℕ) (padded : padding x.place.state n ≡ accepted x.pads) where
  begun_s : Begun x (Field.Counted n)
  begun_s = record { padded = padded; state = x.place.state; early_is = refl }

  pub counted_missing : {r : Result Plan Refusal} (e : Refusal) → IsErrAnd r (λ y. y ≡ e) → TextRead x.place.reader (Err e) → ItemAt x.place (Op.Put (Field.Counted n)) r
  counted_missing e err h = passed_on err (text_missing begun_s tt e h)

  module _ (t : Text) (found : TextRead x.place.reader (Ok t)) where
    pub counted_refused : ltb t.length (256 ^ n) ≡ false → ItemAt x.place (Op.Put (Field.Counted n)) (Err Refusal.TextDoesNotFit)
    counted_refused h = value_refused begun_s found Refusal.TextDoesNotFit (counted_long found x.place.state.big n h)

    module _ (fits : ltb t.length (256 ^ n) ≡ true) where
      counted_encoded : Encoded x (Field.Counted n) (Value.Text t.start t.length) t.next (counted_bytes x.place.state.big (list_of x.place) n t.start t.length)
      counted_encoded = record { begun = begun_s; found = found; is = counted_bytes_lem found x.place.state.big n fits }

      counted_size : x.pads + length (counted_bytes x.place.state.big (list_of x.place) n t.start t.length) ≡ x.pads + (n + t.length)
      counted_size = ap (λ (k : ℕ). x.pads + k) (counted_length found x.place.state.big n)

      pub counted_too_long : leb (x.place.state.length + (x.pads + (n + t.length))) (2 ^ 63 - 1) ≡ false → ItemAt x.place (Op.Put (Field.Counted n)) (Err Refusal.LengthTooLarge)
      counted_too_long h = too_long counted_encoded counted_size h

      pub counted_put : leb (x.place.state.length + (x.pads + (n + t.length))) (2 ^ 63 - 1) ≡ true → ItemAt x.place (Op.Put (Field.Counted n)) (Ok (Plan.Counted x.pads n t))
      counted_put h = record { says = record { wrote = put counted_encoded counted_size h; within = found.sound.inside.0 } }

-- the size before a text is one of 1 to 16
pub size_within : {f : Field} {n : ℕ} → T (valid_field f) → f ≡ Field.Counted n → (1 ≤ n) × (n ≤ 16)
size_within {f} {n} h e =
    let b = and_yes (leb 1 n) (leb n 16) (subst (λ (x : Field). T (valid_field x)) e h) in
    (leb→le 1 n b.0, leb→le n 16 b.1)

pub number_valid : {f : Field} {k : Kind} {n : ℕ} → T (valid_field f) → f ≡ Field.Number k n → T (valid_size k n)
number_valid {f} {k} {n} h e = number_size k n (subst (λ (x : Field). T (valid_field x)) e h)

-- ---- an item without a field
pub skips : (at : Place) (o : Op) → o ≡ Op.Blank → ItemAt at o (Ok Plan.Skip)
unfolding write_op
skips at o e = record { says = rw e }

pub sets_state : (at : Place) (o : Op) (x : Setting) → o ≡ Op.Set x → ItemAt at o (Ok (Plan.Set x))
unfolding write_op
sets_state at o x e = record { says = rw e }
