-- The calls of writing: 21 first of all, the first pass, 22, and the bytes that the second pass puts.
use Prim.Native.Nat.{ℕ, ◌≤◌, ◌<◌}
use native.Mathlib.Omega.{arith}
use mathlib.Core.Path.{◌≡◌, refl, sym, ap, ◌∙◌}
use mathlib.Core.Bool.{true, false, ◌&&◌}
use mathlib.Core.List.{List, ◌++◌}
use lib.ListN.{length, drop}
use lib.Seq.{paste}
use borrow.Author.Tests.{lt-leb}
use Rattle.definition.specs.Answers.{Checked, refused, accepted, ◌>>=◌}
use Rattle.definition.specs.Options.{Table, options}
use Rattle.definition.specs.Ops.{is_power}
use Rattle.definition.specs.Values.{Value}
use Rattle.definition.specs.Lists.{values}
use Rattle.definition.specs.States.{start}
use Rattle.definition.specs.Writing.{Output, Place, write}
use Rattle.definition.specs.Calls.{Call, call, into, at_most_63, pack, record_of, continued_of, pack_continued, string_pack}
use Rattle.definition.specs.declared.State.{State}
use Rattle.definition.specs.declared.Continued.{Continued}
use Rattle.laws.proofs.Answers.{Bound, never, same, same_number, bound}
use Rattle.laws.proofs.Calls.{Sound, pack_run, length_record, into_fits}
use Rattle.laws.proofs.Cutting.{plain_is}
use Rattle.values.specs.Meaning.{is_accepted}
use Rattle.values.proofs.Lists.{refused_list}
use Rattle.plan.specs.Places.{values_of}
use Rattle.plan.proofs.Places.{list_known}
use Rattle.write_pass.specs.Walks.{summed, put_at}
use Rattle.emit.proofs.Pasting.{paste_whole}

-- what the call makes of a writing
abbrev called : List ℕ → Checked (Place Value × Output) → Call Continued
called b c = into b (c >>= λ r. accepted (continued_of r, record_of r.1))

-- by a table t that is the option table
module _ (t : Table) (is : t ≡ options) (s : State) (f l b : List ℕ) where
  pub unsound : (is_power s.limit && at_most_63 s.length) ≡ false → call (refused 21) b ≡ pack_continued s f l b
  unfolding pack pack_continued
  unsound h = rw h

  module _ (sound : Sound s) where
    pub malformed : is_accepted (values l) ≡ false → call (refused 21) b ≡ pack_continued s f l b
    unfolding pack pack_continued
    malformed h = rw (sound, refused_list l h)

    module _ (listed : is_accepted (values l) ≡ true) where
      run_is : pack s f l ≡ write t s (values_of l) f
      run_is = rw is (pack_run s f l (values_of l) sound (list_known (values l) listed))

      call_is : pack_continued s f l b ≡ called b (write t s (values_of l) f)
      unfolding pack_continued
      call_is = ap (called b) run_is

      summed_refused : (c : Checked (Place Value × Output)) (k : ℕ) → refused k ≡ summed c → c ≡ refused k
      summed_refused (refused j) k e = ap refused (sym (same_number e))
      summed_refused (accepted r) k e = absurd (never e)

      refused_call : (k : ℕ) → refused k ≡ summed (write t s (values_of l) f) → call (refused k) b ≡ pack_continued s f l b
      refused_call k e = sym (call_is ∙ ap (called b) (summed_refused (write t s (values_of l) f) k e))

      -- g is the buffer after the first pass, which is as it was
      module _ {g : List ℕ} (kept : g ≡ b) where
        pub total_refused : {k : ℕ} → refused k ≡ summed (write t s (values_of l) f) → call (refused k) g ≡ pack_continued s f l b
        total_refused {k} h = rw kept (refused_call k h)

        module _ {a : Continued} (told : accepted a ≡ summed (write t s (values_of l) f)) where
          -- the writing that is accepted with the totals a
          made : Bound (write t s (values_of l) f) (λ r. accepted (continued_of r)) a
          made = bound (write t s (values_of l) f) _ (sym told)

          size : length made.val.1.cells ≡ a.written
          size = ap (λ (x : Continued). x.written) (same made.rest)

          accepted_is : pack_continued s f l b ≡ called b (accepted made.val)
          accepted_is = call_is ∙ ap (called b) made.is

          pub short_call : length g < a.written → call (refused 22) g ≡ pack_continued s f l b
          short_call h =
              let n : length b < length (record_of made.val.1) = omega (arith, ap length kept, length_record made.val.1, size) in
              ap (call (refused 22)) kept ∙ sym (accepted_is ∙ rw (lt-leb (length (record_of made.val.1)) (length b) n))

          module _ (h : a.written ≤ length g) where
            -- the second pass makes d of it
            pub filled_call : {d : List ℕ} → d ≡ put_at g 0 (write t s (values_of l) f) → call (accepted a) d ≡ pack_continued s f l b
            filled_call {d} q =
                let m = record_of made.val.1 in
                let n : length m ≤ length b = omega (arith, ap length kept, length_record made.val.1, size) in
                let front : d ≡ m ++ drop (length m) b =
                q ∙ ap (λ (x : List ℕ). put_at x 0 (write t s (values_of l) f)) kept ∙ ap (put_at b 0) made.is ∙ ap (paste b 0 m) (sym (length_record made.val.1))
                ∙ paste_whole b m (length m) refl in
                ap (call (accepted a)) front ∙ sym (accepted_is ∙ into_fits b _ m n ∙ ap (λ (x : Continued). call (accepted x) (m ++ drop (length m) b)) (same made.rest))

-- ---- plain writing: continued writing from the start state, and the record's length
pub plain_call : (f l b d : List ℕ) {c : Checked Continued} {s : State} → s ≡ start → call c d ≡ pack_continued s f l b → call (c >>= λ a. accepted a.written) d ≡ string_pack f l b
plain_call f l b d g h =
    let from = ap (λ (x : State). pack_continued x f l b) g in
    ap (λ (c : Call Continued). call (c.answer >>= λ a. accepted a.written) c.buffer) (h ∙ from) ∙ sym (plain_is f l b)
