-- The place after a field and after an item.
use Prim.Native.Nat.{ℕ}
use mathlib.Core.Path.{◌≡◌, refl, sym, ap, ◌∙◌}
use mathlib.Core.Bool.{Bool, true, false}
use mathlib.Core.List.{List, [], ◌∷◌}
use lib.Dec.{T}
use lib.ListN.{take, drop}
use lib.Seq.{drop-drop}
use Rattle.std.specs.Prelude.{◌+◌, ◌≤◌, length, Result, Ok, Err}
use Rattle.definition.specs.Answers.{Checked, refused, accepted, ◌>>=◌}
use Rattle.definition.specs.Values.{Value}
use Rattle.definition.specs.Refusals.{answer_by}
use Rattle.definition.specs.States.{set, further, natural, padding}
use Rattle.definition.specs.Writing.{Place, place}
use Rattle.definition.specs.Reading.{values_of, offset_in, at_offset, skipped, read_field, read_op}
use Rattle.laws.proofs.Ops.{Limited, set_limited, valid_setting}
use Rattle.laws.proofs.Traces.{map_out, read_value}
use Rattle.definition.specs.declared.State.{State}
use Rattle.definition.specs.declared.Field.{Field}
use Rattle.definition.specs.declared.Setting.{Setting}
use Rattle.definition.specs.declared.Op.{Op}
use Rattle.definition.specs.declared.Refusal.{Refusal}
use Rattle.definition.specs.Fields.{decode}
use Rattle.decode.specs.Readings.{from, value_of, decoded_in, Decodes}
use Rattle.decode.specs.Rests.{rest_of, past}
use Rattle.decode.proofs.Rests.{past_refused, past_taken, past_first}
use Rattle.decode.specs.declared.rest.Rest.{Rest}
use Rattle.fetch.specs.Fetching.{Stands, place_in, Skips, after_of, fetched_in, Fetches}
use Rattle.decode.specs.declared.Decoded.{Decoded}
use Rattle.fetch.specs.declared.Fetched.{Fetched}

-- the place n bytes on
skipped_is : (d : List ℕ) (s : State) (n : ℕ) → skipped (place_in d s) n ≡ place_in d (further s n)
skipped_is d s n = rw (drop-drop n s.length d)

-- what is decoded at a state, at the place after it
abbrev read_on_lem : List ℕ → State → Checked (Value × ℕ) → Checked (Place ℕ × List Value)
read_on_lem d s c = c >>= λ v. accepted (skipped (place_in d s) v.1, v.0 ∷ [])

-- ---- p zeros, and k bytes
module _ {d : List ℕ} {s : State} {n k p : ℕ} (e : accepted p ≡ padding s n) (h : s.length ≤ length d) where
  pub skips : (r : Result Rest Refusal) → answer_by rest_of r ≡ past d (offset_in s) (p + k) → Skips d s n k r
  skips (Err x) q = record { says = rw (← e, past_refused d (offset_in s) (p + k) q); kept = tt }
  skips (Ok x) q =
      let g = past_taken h q in
      record { says = rw (← e, past_first d (offset_in s) (p + k) h q, g.behind) (ap accepted (sym (skipped_is d s (p + k)))); kept = g.kept }

-- ---- a field: t is the offset after its padding, and x is what its bytes give there
field_is : {d : List ℕ} {s : State} (f : Field) {t : Rest} → Skips d s (natural f) 0 (Ok t)
    → read_on_lem d (at_offset s t.at) (decode s.big f (from d t.at)) ≡ read_value (place_in d s) (Op.Put f)
unfolding read_op read_field
field_is {d} {s} f {t} p = rw (← p.says) (go (decode s.big f (drop t.at.0 d)))
  where
    place_is : Place ℕ
    place_is = place_in d (at_offset s t.at)

    go : (c : Checked (Value × ℕ)) → read_on_lem d (at_offset s t.at) c
        ≡ map_out values_of (c >>= λ v. accepted (skipped place_is v.1, record { field = f; start = t.at; bytes = take v.1 (drop t.at.0 d); value = v.0 } ∷ []))
    go (refused k) = refl
    go (accepted v) = refl

-- f aligns by n
module _ {d : List ℕ} {s : State} {f : Field} {n : ℕ} (q : n ≡ natural f) where
  pub field_pad_refused : {e : Refusal} → Skips d s n 0 (Err e) → Fetches d s (Op.Put f) (Err e)
  unfolding read_op read_field
  field_pad_refused p = let r = rw q at p in record { says = rw (← r.says); stands = tt }

  module _ {t : Rest} (p : Skips d s n 0 (Ok t)) {g : Field} (i : f ≡ g) where
    -- what is decoded there
    decoded_at : {r : Result Decoded Refusal} → Decodes t.data.now t.at s.big g r → Decodes d t.at s.big f r
    decoded_at x = rw (p.kept, ← i) at x

    pub field_refused : {e : Refusal} → Decodes t.data.now t.at s.big g (Err e) → Fetches d s (Op.Put f) (Err e)
    field_refused x = record { says = ap (read_on_lem d (at_offset s t.at)) (decoded_at x).says ∙ field_is f (rw q at p); stands = tt }

    pub field_after : {x : Decoded} {y : Fetched} → Decodes t.data.now t.at s.big g (Ok x) → y ≡ after_of t.at x → Fetches d s (Op.Put f) (Ok y)
    field_after {x} h e =
        let c = decoded_at h in
        rw e (record { says = on ∙ ap (read_on_lem d (at_offset s t.at)) c.says ∙ field_is f (rw q at p); stands = (c.inside.1, c.inside.0) })
      where
        on : accepted (fetched_in d s (after_of t.at x)) ≡ read_on_lem d (at_offset s t.at) (accepted (decoded_in d x))
        on = ap (λ (q : Place ℕ). accepted (q, value_of d x.reading ∷ [])) (sym (skipped_is d (at_offset s t.at) x.size))

-- ---- an item
module _ (d : List ℕ) (s : State) (stands : Stands d s) where
  pub blank_op : Fetches d s Op.Blank (Ok (Fetched.Set s))
  unfolding read_op
  blank_op = record { says = refl; stands = stands }

  set_stands : (x : Setting) → T (valid_setting x) → Stands d (set x s)
  set_stands (Setting.Order o) ok = stands
  set_stands (Setting.Limit n) ok = (stands.0, set_limited (Setting.Limit n) s ok stands.1)

  set_place : (x : Setting) → place_in d (set x s) ≡ place (set x s) (drop s.length d)
  set_place (Setting.Order o) = refl
  set_place (Setting.Limit n) = refl

  pub set_op : (x : Setting) {t : State} → T (valid_setting x) → t ≡ set x s → Fetches d s (Op.Set x) (Ok (Fetched.Set t))
  unfolding read_op
  set_op x ok e = rw e (record { says = ap (λ (q : Place ℕ). accepted (q, [])) (set_place x); stands = set_stands x ok })

module _ {d : List ℕ} {s : State} {n k : ℕ} where
  pub pad_op_refused : {e : Refusal} → Skips d s n k (Err e) → Fetches d s (Op.Pad n k) (Err e)
  unfolding read_op
  pad_op_refused p = record { says = rw (← p.says); stands = tt }

  pub pad_op : {x : Rest} {t : State} → Limited s → Skips d s n k (Ok x) → t ≡ at_offset s x.at → Fetches d s (Op.Pad n k) (Ok (Fetched.Set t))
  unfolding read_op
  pad_op {x} h p e = rw e (record { says = rw (← p.says); stands = (rw p.kept at x.within, h) })

-- ---- fields that don't align
abbrev pub is_unaligned : Field → Bool
is_unaligned (Field.Number k n) = false
is_unaligned (Field.Chars n) = true
is_unaligned Field.ZeroEnded = true
is_unaligned (Field.Counted n) = false

-- one of them that is not c is z
pub zero_ended_left : (f : Field) → T (is_unaligned f) → ((n : ℕ) → f ≡ Field.Chars n → ⊥) → f ≡ Field.ZeroEnded
zero_ended_left (Field.Number k n) h o = absurd h
zero_ended_left (Field.Chars n) h o = absurd (o n refl)
zero_ended_left Field.ZeroEnded h o = refl
zero_ended_left (Field.Counted n) h o = absurd h
