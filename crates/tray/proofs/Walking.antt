-- The two walks over a run: what the lists so far gave, and what the run behind them does.
use Prim.Native.Nat.{ℕ, ◌+◌, ◌-◌, ◌≤◌}
use native.Mathlib.Omega.{arith}
use mathlib.Core.Path.{◌≡◌, refl, sym, ap, ◌∙◌}
use mathlib.Core.Bool.{true, false}
use mathlib.Core.List.{List, [], ◌++◌, append_assoc, append-nil}
use lib.Dec.{eqb→eq}
use lib.ListN.{length, take, drop, length-append, length-drop, drop_of_length-le}
use lib.Seq.{take_at, take_all, drop_at, drop-drop, length-take-le}
use Rattle.definition.specs.Answers.{Checked, refused, accepted}
use Rattle.definition.specs.Values.{Value}
use Rattle.definition.specs.Writing.{Output, Place}
use Rattle.definition.specs.Calls.{pack, record_of, continued_of}
use Rattle.definition.specs.Trays.{lists, Placed, placed, behind, before, records, records_from}
use Rattle.definition.specs.declared.State.{State}
use Rattle.definition.specs.declared.Continued.{Continued}
use Rattle.laws.proofs.Answers.{never, same, bound, true_not_false}
use Rattle.laws.proofs.Calls.{length_record, refused_bind}
use Rattle.laws.proofs.Refusals.{By23, low, lists_23}
use Rattle.laws.proofs.Runs.{following}
use Rattle.laws.proofs.Trays.{behind_behind}
use Rattle.values.specs.Meaning.{is_accepted}
use Rattle.align.specs.Amounts.{SameTo63}
use Rattle.write_pass.specs.Walks.{summed}
use Rattle.runs.specs.Entries.{Stands}
use Rattle.tray.specs.Walks.{bytes_from, tray_from, refused_at, Counted, put_in, RecordFits}

-- ---- the first walk

-- the records before the rest q, where the place is p, have these bytes, of which `total` is the count
pub record Checking (s : State) (f r q : List ℕ) (p total : ℕ) : Type 0 where
  pub bytes : List ℕ
  pub so_far : tray_from s f r ≡ behind bytes (records_from s p f (lists q))
  pub counts : SameTo63 total (length bytes)
  pub few : p + length q ≤ length r + 1

module _ {s : State} {f r q : List ℕ} {p total : ℕ} (w : Checking s f r q p total) where
  pub checking_end : lists q ≡ accepted [] → Counted (tray_from s f r) total
  unfolding records
  checking_end e = record { bytes = w.bytes; is = w.so_far ∙ rw (e, append-nil w.bytes); counts = w.counts }

  -- the first list of it, and the run behind it
  module _ {l rest : List ℕ} (here : Stands q l rest) where
    pub checking_refused : {k : ℕ} → refused k ≡ summed (pack s f l) → tray_from s f r ≡ refused_at k p (lists rest)
    unfolding records
    checking_refused {k} e = w.so_far ∙ ap (λ (c : Checked (List (List ℕ))). behind w.bytes (records_from s p f c)) here.first ∙ go (lists rest)
      where
        go : (c : Checked (List (List ℕ))) → behind w.bytes (records_from s p f (following l c)) ≡ refused_at k p c
        go (refused j) = refl
        go (accepted ls) = rw (refused_bind (pack s f l) continued_of k (sym e))

    pub checking_on : {c : Continued} {n : ℕ} → accepted c ≡ summed (pack s f l) → ((m : ℕ) → SameTo63 total m → SameTo63 n (m + c.written)) → Checking s f r rest (p + 1) n
    unfolding records
    checking_on {c} {n} e h =
        let b = bound (pack s f l) (λ x. accepted (continued_of x)) (sym e) in
        let x = record_of b.val.1 in
        let long : length (w.bytes ++ x) ≡ length w.bytes + c.written
        = length-append w.bytes x ∙ ap (λ (m : ℕ). length w.bytes + m) (length_record b.val.1 ∙ ap (λ (y : Continued). y.written) (same b.rest)) in
        let go : (c : Checked (List (List ℕ))) → behind w.bytes (records_from s p f (following l c)) ≡ behind (w.bytes ++ x) (records_from s (p + 1) f c) = on b.val b.is in
        record {
          bytes = w.bytes ++ x;
          so_far = w.so_far ∙ ap (λ (c : Checked (List (List ℕ))). behind w.bytes (records_from s p f c)) here.first ∙ go (lists rest);
          counts = rw long (h (length w.bytes) w.counts);
          few = omega (arith, w.few, here.lengths);
        }
      where
        on : (v : Place Value × Output) → pack s f l ≡ accepted v → (c : Checked (List (List ℕ))) → behind w.bytes (records_from s p f (following l c)) ≡ behind (w.bytes ++ record_of v.1) (records_from s (p + 1) f c)
        on v i (refused j) = refl
        on v i (accepted ls) = rw i (let t = records s (p + 1) f ls in ap (placed t.place) (behind_behind w.bytes (record_of v.1) t.answer))

-- ---- a record's refusal, once it is known whether the run behind it is one

module _ (k p : ℕ) (r : List ℕ) where
  pub refused_false : is_accepted (lists r) ≡ false → refused_at k p (lists r) ≡ placed 0 (refused 23)
  refused_false e = go (lists r) (lists_23 r) e
    where
      go : (c : Checked (List (List ℕ))) → By23 c → is_accepted c ≡ false → refused_at k p c ≡ placed 0 (refused 23)
      go (refused j) (low h) e = ap (λ (x : ℕ). placed 0 (refused x)) (eqb→eq j 23 h)
      go (accepted ls) h e = absurd (true_not_false e)

-- ---- the second walk

-- the records before the rest q stand at the front of the buffer, which was d and is b, and the others fit behind them
pub record Putting (s : State) (f r d q : List ℕ) (end : ℕ) (b : List ℕ) : Type 0 where
  pub done : List ℕ
  pub left : List ℕ
  pub place : ℕ
  pub whole : tray_from s f r ≡ placed 0 (accepted (done ++ left))
  pub so_far : records_from s place f (lists q) ≡ placed 0 (accepted left)
  pub ends : end ≡ length done
  pub room : length done + length left ≤ length d
  pub buffer : b ≡ done ++ drop end d

module _ {s : State} {f r d q : List ℕ} {end : ℕ} {b : List ℕ} (w : Putting s f r d q end b) where
  putting_length : length b ≡ length d
  putting_length = ap length w.buffer ∙ length-append w.done (drop end d) ∙ omega (arith, length-drop end d, w.room, w.ends)

  -- nothing is left, and so the buffer has all
  pub putting_end : lists q ≡ accepted [] → b ≡ put_in d (tray_from s f r).answer
  unfolding records
  putting_end e =
      let none : [] ≡ w.left = same (ap (λ (t : Placed (List ℕ)). t.answer) (ap (records_from s w.place f) (sym e) ∙ w.so_far)) in
      w.buffer ∙ rw (w.whole, ← none, append-nil w.done, w.ends)

  -- the first list of it, and the run behind it
  module _ {list rest : List ℕ} (here : Stands q list rest) where
    -- its record is accepted, and the first of those that are left
    record Item : Type 0 where
      accepts : is_accepted (pack s f list) ≡ true
      more : List ℕ
      parts : w.left ≡ bytes_from s f list ++ more
      others : records_from s (w.place + 1) f (lists rest) ≡ placed 0 (accepted more)

    item : Item
    unfolding records
    item = go (lists rest) refl (ap (records_from s w.place f) (sym here.first) ∙ w.so_far)
      where
        answered : (x : List ℕ) (t : Placed (List ℕ)) (c : Checked (List ℕ)) → t.answer ≡ c → behind x t ≡ placed 0 (accepted w.left) → (more : List ℕ) × (w.left ≡ x ++ more) × (t ≡ placed 0 (accepted more))
        answered x t (refused k) i e = absurd (never (ap (λ (y : Placed (List ℕ)). y.answer) (rw i at e)))
        answered x t (accepted more) i e = (more, sym (same (ap (λ (y : Placed (List ℕ)). y.answer) (rw i at e))), ap (λ (n : ℕ). placed n t.answer) (ap (λ (y : Placed (List ℕ)). y.place) e) ∙ ap (placed 0) i)

        written : (ls : List (List ℕ)) → lists rest ≡ accepted ls → (c : Checked (Place Value × Output)) → pack s f list ≡ c → before w.place c (records s (w.place + 1) f ls) ≡ placed 0 (accepted w.left) → Item
        written ls i (refused k) j e = absurd (never (ap (λ (y : Placed (List ℕ)). y.answer) e))
        written ls i (accepted v) j e =
            let t = records s (w.place + 1) f ls in
            let a = answered (record_of v.1) t t.answer refl e in
            record { accepts = rw j; more = a.0; parts = a.1 ∙ rw j; others = rw i a.2 }

        go : (c : Checked (List (List ℕ))) → lists rest ≡ c → records_from s w.place f (following list c) ≡ placed 0 (accepted w.left) → Item
        go (refused k) i e = absurd (never (ap (λ (y : Placed (List ℕ)). y.answer) e))
        go (accepted ls) i e = written ls i (pack s f list) refl e

    lengths : length w.left ≡ length (bytes_from s f list) + length item.more
    lengths = ap length item.parts ∙ length-append (bytes_from s f list) item.more

    putting_room : length (bytes_from s f list) ≤ length b - end
    putting_room = omega (arith, putting_length, lengths, w.room, w.ends)

    -- the record fits into the part of the buffer from `end` on
    pub putting_fits : RecordFits s f list (length (take (length b - end) (drop end b)))
    putting_fits =
        let part : length (take (length b - end) (drop end b)) ≡ length b - end = length-take-le (length b - end) (drop end b) (omega (arith, length-drop end b)) in
        record { accepts = item.accepts; room = omega (arith, part, putting_room) }

    -- the record was put there, which made it `part`
    module _ {n : ℕ} {part : List ℕ} (e : n ≡ length (bytes_from s f list)) (p : part ≡ bytes_from s f list ++ drop n (take (length b - end) (drop end b))) where
      stored : take end b ++ (part ++ drop (length b - end) (drop end b)) ≡ w.done ++ bytes_from s f list ++ drop (end + n) d
      stored =
          let front : take end b ≡ w.done = ap (take end) w.buffer ∙ take_at w.done (drop end d) end (sym w.ends) in
          let back : drop end b ≡ drop end d = ap (drop end) w.buffer ∙ drop_at w.done (drop end d) end (sym w.ends) in
          let no_more : length (drop end b) ≤ length b - end = omega (arith, length-drop end b) in
          let all : take (length b - end) (drop end b) ≡ drop end b = take_all (length b - end) (drop end b) no_more in
          let none : drop (length b - end) (drop end b) ≡ [] = drop_of_length-le (drop end b) no_more in
          rw (none, append-nil part, p, all, front, back, drop-drop n end d) (sym (append_assoc w.done (bytes_from s f list) (drop (end + n) d)))

      pub putting_on : Putting s f r d rest (end + n) (take end b ++ (part ++ drop (length b - end) (drop end b)))
      putting_on =
          let x = bytes_from s f list in
          record {
            done = w.done ++ x;
            left = item.more;
            place = w.place + 1;
            whole = w.whole ∙ ap (λ (y : List ℕ). placed 0 (accepted y)) (ap (λ (y : List ℕ). w.done ++ y) item.parts ∙ sym (append_assoc w.done x item.more));
            so_far = item.others;
            ends = omega (arith, e, w.ends, length-append w.done x);
            room = omega (arith, lengths, w.room, length-append w.done x);
            buffer = stored;
          }
