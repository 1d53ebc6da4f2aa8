-- A tray is the records of a run's lists, one ahead of the others, and a call with a buffer that is long enough gives just what it gives without one. So what is claimed of trays holds by induction over the lists.
use Prim.Native.Nat.{ℕ, zero, suc, ◌+◌, ◌<◌}
use mathlib.Core.Path.{◌≡◌, refl, sym, ap, ◌∙◌}
use mathlib.Core.List.{List, [], ◌∷◌, ◌++◌, map, append_assoc, append-nil}
use native.Mathlib.Nat.{zero-add, add_assoc}
use native.Mathlib.Omega.{arith}
use lib.Dec.{eqb→eq}
use lib.ListN.{length, drop}
use lib.Seq.{take_at}
use borrow.Author.Tests.{ne_eqb}
use Rattle.definition.specs.Answers.{Checked, refused, accepted, ◌>>=◌}
use Rattle.definition.specs.Values.{Value}
use Rattle.definition.specs.States.{start}
use Rattle.definition.specs.Writing.{Output, Place}
use Rattle.definition.specs.Calls.{Call, call, into, pack, record_of, string_pack}
use Rattle.definition.specs.Kept.{output_of}
use Rattle.definition.specs.Trays.{lists_past, lists, Placed, placed, behind, before, records, records_from, records_of, TrayCall, tray_into, pack_tray}
use Rattle.laws.specs.Claims.{All, LongEnough, packed_bytes, joined}
use Rattle.laws.specs.Trays.{tray_gives, bytes_of, tray_of, Writes, ahead, one_by_one, only_place, moved_on, joined_trays, Written, Refused, Trays}
use Rattle.laws.proofs.Answers.{never, same_number}
use Rattle.laws.proofs.Refusals.{By23, ByCall, low, low_pack, lists_23, refuses_not}
use Rattle.laws.proofs.Calls.{into_fits, into_long, long_first, Put, put, no_room, put_into, packed, length_record}
use Rattle.laws.proofs.Demand.{fills}
use Rattle.laws.proofs.Runs.{lists_of, run_is, lists_joined}

-- ---- calls with a buffer that is long enough

-- such a call gives the bytes of its result, which stand in the buffer
bytes_long : {A : Type 0} (b : List ℕ) (c : Checked A) (size : A → ℕ) (bs : A → List ℕ) → ((a : A) → length (bs a) ≡ size a) → LongEnough (into b (c >>= λ a. accepted (size a, bs a))).answer
    → bytes_of (into b (c >>= λ a. accepted (size a, bs a))) ≡ (c >>= λ a. accepted (bs a))
bytes_long b (refused k) size bs e h = refl
bytes_long b (accepted a) size bs e h = ap bytes_of (into_long b (size a) (bs a) h) ∙ ap accepted (take_at (bs a) (drop (length (bs a)) b) (size a) (e a))

-- the record of a list
abbrev alone : List ℕ → List ℕ → Checked (List ℕ)
alone f l = pack start f l >>= λ r. accepted (record_of r.1)

alone_long : (f l b : List ℕ) → LongEnough (string_pack f l b).answer → bytes_of (string_pack f l b) ≡ alone f l
unfolding string_pack
alone_long f l b h = bytes_long b (pack start f l) (λ r. length r.1.cells) (λ r. record_of r.1) (λ r. length_record r.1) h

accepted_again : {A : Type 0} (c : Checked A) → (c >>= λ a. accepted a) ≡ c
accepted_again (refused k) = refl
accepted_again (accepted a) = refl

tray_long : (f r b : List ℕ) (ls : List (List ℕ)) → lists r ≡ accepted ls → LongEnough (pack_tray f r b).call.answer → tray_of (pack_tray f r b) ≡ records start 1 f ls
unfolding pack_tray
tray_long f r b ls e h =
    let t : Placed (List ℕ) = records_of f r in
    ap (placed t.place) (bytes_long b t.answer length (λ bs. bs) (λ bs. refl) h ∙ accepted_again t.answer) ∙ rw e

-- ---- one record ahead of others
before_is : (p : ℕ) (c : Checked (Place Value × Output)) (t : Placed (List ℕ)) → before p c t ≡ ahead p (c >>= λ r. accepted (record_of r.1)) t
before_is p (refused k) t = refl
before_is p (accepted r) t = refl

pub behind_none : (t : Placed (List ℕ)) → behind [] t ≡ t
behind_none t = ap (placed t.place) (accepted_again t.answer)

-- bytes behind bytes are both joined
pub behind_behind : (bs cs : List ℕ) (c : Checked (List ℕ)) → (c >>= (λ ds. accepted (cs ++ ds)) >>= λ ds. accepted (bs ++ ds)) ≡ (c >>= λ ds. accepted (bs ++ cs ++ ds))
behind_behind bs cs (refused k) = refl
behind_behind bs cs (accepted ds) = ap accepted (sym (append_assoc bs cs ds))

-- records ahead of others
abbrev both : Placed (List ℕ) → Placed (List ℕ) → Placed (List ℕ)
both t u = ahead t.place t.answer u

-- which of three stand together makes no difference
ahead_assoc : (p : ℕ) (c : Checked (List ℕ)) (t u : Placed (List ℕ)) → ahead p c (both t u) ≡ both (ahead p c t) u
ahead_assoc p (refused k) t u = refl
ahead_assoc p (accepted bs) t u = go t.answer
  where
    go : (d : Checked (List ℕ)) → behind bs (ahead t.place d u) ≡ ahead t.place (d >>= λ cs. accepted (bs ++ cs)) u
    go (refused k) = refl
    go (accepted cs) = ap (placed u.place) (behind_behind bs cs u.answer)

abbrev moved : ℕ → Placed (List ℕ) → Placed (List ℕ)
moved n t = placed (moved_on n t.place) t.answer

-- places from 1 on are moved
ahead_moved : (n p : ℕ) (c : Checked (List ℕ)) (t : Placed (List ℕ)) → 0 < p → ahead (n + p) c (moved n t) ≡ moved n (ahead p c t)
ahead_moved n zero (refused k) t h = absurd (omega arith)
ahead_moved n (suc p) (refused k) t h = refl
ahead_moved n p (accepted bs) t h = refl

-- only what stands behind accepted bytes counts
ahead_long : (p : ℕ) (c : Checked (List ℕ)) (t u : Placed (List ℕ)) → LongEnough (ahead p c t).answer → (LongEnough t.answer → t ≡ u) → ahead p c t ≡ ahead p c u
ahead_long p (refused k) t u h e = refl
ahead_long p (accepted bs) t u h e = ap (behind bs) (e (long_first t.answer _ h))

first_long : (p : ℕ) (c : Checked (List ℕ)) (t : Placed (List ℕ)) → LongEnough (ahead p c t).answer → LongEnough c
first_long p (refused k) t h e = h e
first_long p (accepted bs) t h e = never (sym e)

-- where records end: all are accepted, or the first refused one decides
data Ended (f : List ℕ) (p : ℕ) : List (List ℕ) → Placed (List ℕ) → Type 0 where
  all : {ls : List (List ℕ)} → All (Writes f) ls → Ended f p ls (placed 0 (accepted (joined (map (packed_bytes f) ls))))
  stopped : {q k : ℕ} (done : List (List ℕ)) (l : List ℕ) (left : List (List ℕ)) → q ≡ length done + p → All (Writes f) done → ((b : List ℕ) → string_pack f l b ≡ call (refused k) b) → Ended f p (done ++ (l ∷ left)) (placed q (refused k))

-- ---- the records of lists, by induction over them
module _ (f : List ℕ) where
  records_on : (p : ℕ) (l : List ℕ) (ls : List (List ℕ)) → records start p f (l ∷ ls) ≡ ahead p (alone f l) (records start (p + 1) f ls)
  unfolding records
  records_on p l ls = before_is p (pack start f l) (records start (p + 1) f ls)

  -- of two lists of lists: the second's places are counted on
  records_joined : (p : ℕ) (ls ms : List (List ℕ)) → records start p f (ls ++ ms) ≡ both (records start p f ls) (records start (length ls + p) f ms)
  unfolding records
  records_joined p [] ms = rw (zero-add p) (sym (behind_none (records start p f ms)))
  records_joined p (l ∷ ls) ms =
      let n : length ls + (p + 1) ≡ suc (length ls) + p = omega arith in
      let left : Placed (List ℕ) = records start (suc (length ls) + p) f ms in
      let rest : records start (p + 1) f (ls ++ ms) ≡ both (records start (p + 1) f ls) left = rw (← n) (records_joined (p + 1) ls ms) in
      records_on p l (ls ++ ms) ∙ ap (ahead p (alone f l)) rest ∙ ahead_assoc p (alone f l) (records start (p + 1) f ls) left ∙ ap (λ (t : Placed (List ℕ)). both t left) (sym (records_on p l ls))

  -- places that are counted from n on are those counted from 0, moved
  records_moved : (n p : ℕ) (ls : List (List ℕ)) → 0 < p → records start (n + p) f ls ≡ moved n (records start p f ls)
  unfolding records
  records_moved n p [] h = refl
  records_moved n p (l ∷ ls) h =
      records_on (n + p) l ls ∙ rw (add_assoc n p 1, records_moved n (p + 1) ls (omega arith)) (ahead_moved n p (alone f l) (records start (p + 1) f ls) h) ∙ ap (moved n) (sym (records_on p l ls))

  records_two : (ls ms : List (List ℕ)) → records start 1 f (ls ++ ms) ≡ joined_trays (length ls) (records start 1 f ls) (records start 1 f ms)
  records_two ls ms = records_joined 1 ls ms ∙ rw (records_moved (length ls) 1 ms (omega arith))

  -- calls with buffers of their own: each gives its record
  records_turns : (p : ℕ) (qs : List (List ℕ × List ℕ)) → LongEnough (one_by_one p f qs).answer → one_by_one p f qs ≡ records start p f (map (λ q. q.0) qs)
  unfolding one_by_one records
  records_turns p [] h = refl
  records_turns p (q ∷ qs) h =
      let c : Call ℕ = string_pack f q.0 q.1 in
      let ls : List (List ℕ) = map (λ q. q.0) qs in
      let first : bytes_of c ≡ alone f q.0 = alone_long f q.0 q.1 (long_first c.answer _ (first_long p (bytes_of c) (one_by_one (p + 1) f qs) h)) in
      ahead_long p (bytes_of c) (one_by_one (p + 1) f qs) (records start (p + 1) f ls) h (records_turns (p + 1) qs) ∙ rw first (sym (records_on p q.0 ls))

  fails : (l : List ℕ) (k : ℕ) → pack start f l ≡ refused k → (b : List ℕ) → string_pack f l b ≡ call (refused k) b
  unfolding string_pack
  fails l k e b = rw e

  ended_on : (p : ℕ) (l : List ℕ) (ls : List (List ℕ)) (t : Placed (List ℕ)) → Writes f l → Ended f (p + 1) ls t → Ended f p (l ∷ ls) (behind (packed_bytes f l) t)
  ended_on p l ls t w (all h) = all {ls = l ∷ ls} (w, h)
  ended_on p l ls t w (stopped {q = q} done m left e h g) = stopped {q = q} (l ∷ done) m left (omega arith) (w, h) g

  records_ended : (p : ℕ) (ls : List (List ℕ)) → Ended f p ls (records start p f ls)
  unfolding records
  records_ended p [] = all tt
  records_ended p (l ∷ ls) = go (pack start f l) refl (records_ended (p + 1) ls)
    where
      go : (c : Checked (Place Value × Output)) → pack start f l ≡ c → Ended f (p + 1) ls (records start (p + 1) f ls) → Ended f p (l ∷ ls) (before p c (records start (p + 1) f ls))
      go (refused k) e ih = stopped [] l ls (sym (zero-add p)) tt (fails l k e)
      go (accepted r) e ih =
          rw (← ap (λ (c : Checked (Place Value × Output)). record_of (output_of c)) e) (ended_on p l ls (records start (p + 1) f ls) (λ b long. fills f l r e (packed start f l r e) l r b e refl long) ih)

-- ---- the tray of a run
abbrev unplaced : Call ℕ → TrayCall
unplaced c = record { place = 0; call = c }

module _ (f r b : List ℕ) where
  -- its lists are there, and none was refused
  written : (n : ℕ) → (pack_tray f r b).call.answer ≡ accepted n → Written f r b
  unfolding pack_tray
  written n e = run (lists r) refl e
    where
      tray : (ls : List (List ℕ)) (t : Placed (List ℕ)) → Ended f 1 ls t → (tray_into b t).call.answer ≡ accepted n → All (Writes f) ls × (tray_into b t ≡ tray_gives (joined (map (packed_bytes f) ls)) b)
      tray ls t (all h) e = let s : List ℕ = joined (map (packed_bytes f) ls) in (h, ap unplaced (into_long b (length s) s (λ x. never (sym x ∙ e))))
      tray ls t (stopped done l left q h g) e = absurd (never e)

      run : (c : Checked (List (List ℕ))) → lists r ≡ c → (tray_into b (records_from start 1 f c)).call.answer ≡ accepted n → Written f r b
      run (refused k) g e = absurd (never e)
      run (accepted ls) g e = let t = tray ls (records start 1 f ls) (records_ended f 1 ls) e in record { ls = ls; run = g; each = t.0; tray = rw g t.1 }

  -- with a place above 0, it is not that of 23 or of all records, so one was refused
  refusal : (k : ℕ) → (pack_tray f r b).call.answer ≡ refused k → 0 < (pack_tray f r b).place → Refused f r k (pack_tray f r b).place
  unfolding pack_tray
  refusal k e h = run (lists r) refl e h
    where
      tray : (ls : List (List ℕ)) (t : Placed (List ℕ)) → Ended f 1 ls t → lists r ≡ accepted ls → (tray_into b t).call.answer ≡ refused k → 0 < t.place → Refused f r k t.place
      tray ls t (all w) g e h = absurd (omega arith)
      tray ls t (stopped done l left q w s) g e h = record { done = done; l = l; left = left; run = g; place = q; each = w; refusal = rw (same_number e) at s }

      run : (c : Checked (List (List ℕ))) → lists r ≡ c → (tray_into b (records_from start 1 f c)).call.answer ≡ refused k → 0 < (records_from start 1 f c).place → Refused f r k (records_from start 1 f c).place
      run (refused k) g e h = absurd (omega arith)
      run (accepted ls) g e h = tray ls (records start 1 f ls) (records_ended f 1 ls) g e h

-- a result that was put into a buffer, or is too long for it, has no place
put_place : (b s : List ℕ) (n : ℕ) (c : Call ℕ) → Put b n s c → only_place c.answer ≡ 0
put_place b s n c (put h) = refl
put_place b s n c (no_room h) = refl

-- of one record, which is not refused by 22
only_one : (b : List ℕ) (c : Checked (Place Value × Output)) → ByCall c
    → let d = into b (c >>= λ r. accepted (length r.1.cells, record_of r.1)) in tray_into b (before 1 c (placed 0 (accepted []))) ≡ record { place = only_place d.answer; call = d }
only_one b (refused k) h = rw (ne_eqb k 22 (λ e. refuses_not _ 22 (refused k) (λ x. x) h (ap refused e)))
only_one b (accepted r) h =
    let s : List ℕ = record_of r.1 in
    let n : ℕ = length r.1.cells in
    let place : 0 ≡ only_place (into b (accepted (n, s))).answer = sym (put_place b s n (into b (accepted (n, s))) (put_into b n s)) in
    let size : length (s ++ []) ≡ n = ap length (append-nil s) ∙ length_record r.1 in
    λ i. record { place = place i; call = into b (accepted (size i, append-nil s i)) }

is_23 : {A : Type 0} (k : ℕ) → By23 {A = A} (refused k) → k ≡ 23
is_23 k (low h) = eqb→eq k 23 h

pub trays : Trays
unfolding pack_tray string_pack records lists_past
trays = record {
  split = lists_of;
  only = run_is;
  damaged = λ f r b k e. rw (e, is_23 k (rw e at (lists_23 r)));
  empty = λ f b. ap unplaced (into_fits b 0 [] (omega arith));
  one_by_one_lem = λ f r b qs e h. rw e (ap (tray_into b) (sym (records_turns f 1 qs h)));
  written = written;
  refusal = refusal;
  single = λ f r l b e. rw e (only_one b (pack start f l) (low_pack start f l));
  two = λ f r s b c d ls ms e g h i.
      let first = sym (tray_long f r c ls e h) in
      let second = sym (tray_long f s d ms g i) in
      rw (lists_joined r s ls ms e g) (ap (tray_into b) (records_two f ls ms ∙ λ x. joined_trays (length ls) (first x) (second x)));
}
