-- A record by itself: writing its list from a state by the table that is lent, which is the option table.
use Prim.Native.Nat.{ℕ, ◌-◌, ◌^◌, ◌≤◌}
use native.Mathlib.Omega.{arith}
use mathlib.Core.Path.{◌≡◌, refl, sym, ap, ◌∙◌}
use mathlib.Core.Bool.{true, false}
use mathlib.Core.List.{List, ◌++◌}
use lib.ListN.{length, drop}
use borrow.Author.Tests.{leb-true}
use Rattle.std.specs.Prelude.{Result, Ok, Err, IsOk}
use borrow.Author.Rules.{rules}
use Rattle.definition.specs.Answers.{Checked, refused, accepted}
use Rattle.definition.specs.Refusals.{answer_of}
use Rattle.definition.specs.Options.{Table, options}
use Rattle.definition.specs.Ops.{ops, is_power}
use Rattle.definition.specs.Values.{Value}
use Rattle.definition.specs.Lists.{values}
use Rattle.definition.specs.Writing.{Output, Place, place, write}
use Rattle.definition.specs.Calls.{pack, at_most_63, record_of, continued_of}
use Rattle.definition.specs.Kept.{output_of}
use Rattle.definition.specs.declared.State.{State}
use Rattle.definition.specs.declared.Continued.{Continued}
use Rattle.definition.specs.declared.Refusal.{Refusal}
use Rattle.laws.proofs.Answers.{Bound, never, same, bound, both_parts, true_not_false}
use Rattle.laws.proofs.Calls.{Sound, pack_run, packed, next_sound, length_record}
use Rattle.laws.proofs.ReadBack.{length_written}
use Rattle.values.specs.Meaning.{is_accepted}
use Rattle.values.proofs.Lists.{refused_list}
use Rattle.emit.proofs.Pasting.{paste_whole}
use Rattle.plan.specs.Places.{values_of}
use Rattle.plan.proofs.Places.{list_known}
use Rattle.write_pass.specs.Walks.{summed, FitsAt, put_at}
use Rattle.tray.specs.Walks.{bytes_from, RecordFits}

-- ---- of a state s, a format f and a list l
module _ (s : State) (f l : List ℕ) where
  -- with a list that is well formed it is the run of its values
  pub alone : {t : Table} → t ≡ options → Sound s → is_accepted (values l) ≡ true → write t s (values_of l) f ≡ pack s f l
  alone is sound h = rw is (sym (pack_run s f l (values_of l) sound (list_known (values l) h)))

  pub malformed : Sound s → is_accepted (values l) ≡ false → refused 21 ≡ summed (pack s f l)
  unfolding pack
  malformed sound h = rw (sound, refused_list l h)

  -- what an accepted record has: its bytes, of which c tells how many
  module _ {c : Continued} (e : accepted c ≡ summed (pack s f l)) where
    made : Bound (pack s f l) (λ r. accepted (continued_of r)) c
    made = bound (pack s f l) (λ r. accepted (continued_of r)) (sym e)

    counted : length made.val.1.cells ≡ c.written
    counted = ap (λ (x : Continued). x.written) (same made.rest)

    pub length_told : length (bytes_from s f l) ≡ c.written
    length_told = ap (λ (x : Checked (Place Value × Output)). length (record_of (output_of x))) made.is ∙ length_record made.val.1 ∙ counted

    -- no record is longer than 2^63-1
    pub at_most : c.written ≤ 2 ^ 63 - 1
    at_most =
        let p = packed s f l made.val made.is in
        let u = made.val.0.state in
        let short = (both_parts (is_power u.limit) (at_most_63 u.length) (next_sound s f l made.val p)).1 in
        omega (arith, leb-true u.length (2 ^ 63 - 1) short, length_written (place s p.vs) (ops options f) made.val.0 made.val.1 p.run, counted)

    pub put_front : (d : List ℕ) → put_at d 0 (pack s f l) ≡ bytes_from s f l ++ drop c.written d
    put_front d =
        let x = made.val.1 in
        ap (put_at d 0) made.is ∙ paste_whole d (record_of x) (length x.cells) (length_record x)
        ∙ ap (λ (m : ℕ). record_of x ++ drop m d) counted
        ∙ ap (λ (y : Checked (Place Value × Output)). record_of (output_of y) ++ drop c.written d) (sym made.is)

-- ---- a record that is accepted and fits
module _ {s : State} {f l : List ℕ} {n : ℕ} (h : RecordFits s f l n) where
  pub well_formed : Sound s → is_accepted (values l) ≡ true
  unfolding pack
  well_formed sound = go (is_accepted (values l)) refl
    where
      go : (b : _) → is_accepted (values l) ≡ b → b ≡ true
      go true e = refl
      go false e = absurd (true_not_false (sym h.accepts ∙ rw (sound, refused_list l e)))

  not_refused : {k : ℕ} → refused k ≡ summed (pack s f l) → ⊥
  not_refused {k} e = go (pack s f l) h.accepts e
    where
      go : (c : Checked (Place Value × Output)) → is_accepted c ≡ true → refused k ≡ summed c → ⊥
      go (refused j) a e = true_not_false (sym a)
      go (accepted r) a e = never e

  pub is_ok : (r : Result Continued Refusal) → answer_of r ≡ summed (pack s f l) → IsOk r
  is_ok (Ok c) e = search rules
  is_ok (Err r) e = absurd (not_refused e)

  pub fits_at : FitsAt n 0 (pack s f l)
  fits_at = go (pack s f l) h.accepts h.room
    where
      go : (c : Checked (Place Value × Output)) → is_accepted c ≡ true → length (record_of (output_of c)) ≤ n → FitsAt n 0 c
      go (refused k) a m = absurd (true_not_false (sym a))
      go (accepted r) a m = omega (arith, length_record r.1)
