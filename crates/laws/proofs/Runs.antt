-- Laws of a run: its first list and the run behind it decide all of its lists, so a run is its lists, and two runs joined have the lists of both.
use Prim.Native.Nat.{ℕ, zero, suc, ◌+◌, ◌≤◌, ◌<◌}
use mathlib.Core.Path.{◌≡◌, refl, sym, ap, ◌∙◌, subst}
use mathlib.Core.Bool.{Bool, true, false}
use mathlib.Core.List.{List, [], ◌∷◌, ◌++◌, append_assoc}
use native.Mathlib.Nat.{le_of_suc-le-suc}
use native.Mathlib.Omega.{arith}
use lib.Dec.{leb}
use lib.ListN.{length, take, drop, length-append, length-drop, take-append-drop}
use lib.Seq.{drop_at, length-take-le}
use borrow.Author.Tests.{le-leb, lt-leb, leb-true}
use Rattle.definition.specs.Answers.{Checked, refused, accepted, ◌>>=◌}
use Rattle.definition.specs.Bytes.{IsByte}
use Rattle.definition.specs.Lists.{big, big_total, front}
use Rattle.definition.specs.Trays.{run_of, first_list, lists_past, lists}
use Rattle.laws.specs.Claims.{All}
use Rattle.laws.proofs.Answers.{same, bound, passed}
use Rattle.laws.proofs.Cells.{all_left}
use Rattle.laws.proofs.Bytes.{front_of}
use Rattle.laws.proofs.Lists.{length_big, big_total_lem, big_of, rest_of}

-- the lists of a run that begins with l
abbrev pub following : List ℕ → Checked (List (List ℕ)) → Checked (List (List ℕ))
following l c = c >>= λ ls. accepted (l ∷ ls)

past_lists : (k : ℕ) (r : List ℕ) → lists_past k r ≡ lists (drop k r)
unfolding lists_past
past_lists zero r = refl
past_lists (suc k) [] = refl
past_lists (suc k) (b ∷ r) = past_lists k r

pub lists_first : (r l : List ℕ) → 0 < length r → first_list r ≡ accepted l → lists r ≡ following l (lists (drop (2 + length l) r))
unfolding lists_past
lists_first [] l h e = absurd (omega arith)
lists_first (b ∷ r) l h e =
    let n : 2 + length l ≡ suc (1 + length l) = omega arith in
    rw (e, n, past_lists (1 + length l) r)

pub lists_refused : (r : List ℕ) (k : ℕ) → 0 < length r → first_list r ≡ refused k → lists r ≡ refused k
unfolding lists_past
lists_refused [] k h e = absurd (omega arith)
lists_refused (b ∷ r) k h e = rw e

-- ---- the list at the front of a run
module _ (r : List ℕ) where
  -- the length that stands there
  abbrev pub length_at : ℕ
  length_at = big_total (take 2 r)

  pub at_end : length r ≤ 0 → lists r ≡ accepted []
  unfolding lists_past
  at_end = go r
    where
      go : (q : List ℕ) → length q ≤ 0 → lists q ≡ accepted []
      go [] h = refl
      go (b ∷ q) h = absurd (omega arith)

  -- all its bytes are there
  pub at_list : (n : ℕ) → n ≡ length_at → 2 + n ≤ length r → lists r ≡ following (take n (drop 2 r)) (lists (drop (2 + n) r))
  unfolding first_list
  at_list n e h =
      let two : leb 2 (length r) ≡ true = le-leb 2 (length r) (omega arith) in
      let all : leb n (length (drop 2 r)) ≡ true = le-leb n (length (drop 2 r)) (omega (arith, length-drop 2 r)) in
      let long : length (take n (drop 2 r)) ≡ n = length-take-le n (drop 2 r) (omega (arith, length-drop 2 r)) in
      let first : first_list r ≡ accepted (take n (drop 2 r)) = rw (two, ← e, all) in
      lists_first r (take n (drop 2 r)) (omega arith) first ∙ rw long

  -- the run ends before
  pub at_short : 0 < length r → length r < 2 + length_at → lists r ≡ refused 23
  unfolding first_list
  at_short h k = lists_refused r 23 h (go (leb 2 (length r)) refl)
    where
      go : (t : Bool) → leb 2 (length r) ≡ t → first_list r ≡ refused 23
      go false e = rw e
      go true e =
          let short : leb length_at (length (drop 2 r)) ≡ false = lt-leb length_at (length (drop 2 r)) (omega (arith, leb-true 2 (length r) e, length-drop 2 r)) in
          rw (e, short)

-- ---- a run and its lists

-- what r is if it begins with the list l: `head` is the two bytes of its length
record Begins (r l : List ℕ) : Type 0 where
  head : List ℕ
  rest : List ℕ
  whole : r ≡ head ++ (l ++ rest)
  two : length head ≡ 2
  counted : big_total head ≡ length l

begins : (r l : List ℕ) → first_list r ≡ accepted l → Begins r l
unfolding first_list
begins r l e =
    let a = bound (front 23 2 r) _ e in
    let p = passed (leb 2 (length r)) 23 (accepted (take 2 r)) a.is in
    let n : ℕ = big_total (take 2 r) in
    let q = passed (leb n (length (drop 2 r))) 23 (accepted (take n (drop 2 r))) (rw (← same p.1) at a.rest) in
    record {
      head = take 2 r;
      rest = drop n (drop 2 r);
      whole = rw (← same q.1, take-append-drop n (drop 2 r), take-append-drop 2 r);
      two = length-take-le 2 r (leb-true 2 (length r) p.0);
      counted = sym (length-take-le n (drop 2 r) (leb-true n (length (drop 2 r)) q.0)) ∙ ap length (same q.1);
    }

-- and the other way round
pub first_list_lem : (t l rest : List ℕ) → length t ≡ 2 → big_total t ≡ length l → first_list (t ++ (l ++ rest)) ≡ accepted l
unfolding first_list
first_list_lem t l rest two e = rw (front_of 23 t (l ++ rest) 2 two, e, drop_at t (l ++ rest) 2 two, front_of 23 l rest (length l) refl)

-- the lists of a run that was made of lists: each is read in its turn
pub lists_of : (ls : List (List ℕ)) → All (λ l. length l ≤ 65535) ls → lists (run_of ls) ≡ accepted ls
unfolding run_of lists_past
lists_of [] h = refl
lists_of (l ∷ ls) h =
    let n : ℕ = length l in
    let first = first_list_lem (big 2 n) l (run_of ls) (length_big 2 n) (big_total_lem 2 n (omega arith)) in
    lists_first (run_of (l ∷ ls)) l (omega (arith, length-append (big 2 n) (l ++ run_of ls), length_big 2 n)) first ∙ rw (rest_of (big 2 n) l (run_of ls) (length_big 2 n), lists_of ls h.1)

-- the first list of a run and those behind it
record First (b : ℕ) (r : List ℕ) (ls : List (List ℕ)) : Type 0 where
  l : List ℕ
  more : List (List ℕ)
  first : first_list (b ∷ r) ≡ accepted l
  behind : lists_past (1 + length l) r ≡ accepted more
  all : l ∷ more ≡ ls

first_and_rest : (b : ℕ) (r : List ℕ) (ls : List (List ℕ)) → lists (b ∷ r) ≡ accepted ls → First b r ls
unfolding lists_past
first_and_rest b r ls e =
    let a = bound (first_list (b ∷ r)) _ e in
    let c = bound (lists_past (1 + length a.val) r) (λ ms. accepted (a.val ∷ ms)) a.rest in
    record { l = a.val; more = c.val; first = a.is; behind = c.is; all = same c.rest }

-- a run of bytes is made of its lists: what is behind the first one is, and the two bytes before it are those of its length
run_past : (k : ℕ) (r : List ℕ) (ls : List (List ℕ)) → All IsByte r → lists_past k r ≡ accepted ls → drop k r ≡ run_of ls
unfolding lists_past run_of
run_past zero [] ls h e = ap run_of (same e)
run_past zero (b ∷ r) ls h e =
    let a = first_and_rest b r ls e in
    let w = begins (b ∷ r) a.l a.first in
    let head : big 2 (length a.l) ≡ w.head = ap (big 2) (sym w.counted) ∙ big_of w.head 2 (all_left IsByte w.head (a.l ++ w.rest) (subst (All IsByte) w.whole h)) w.two in
    let n : suc (1 + length a.l) ≡ 2 + length a.l = omega arith in
    let rest : w.rest ≡ run_of a.more = sym (ap (λ (k : ℕ). drop k (b ∷ r)) n ∙ ap (drop (2 + length a.l)) w.whole ∙ rest_of w.head a.l w.rest w.two) ∙ run_past (1 + length a.l) r a.more h.1 a.behind in
    rw (← a.all, head, ← rest) w.whole
run_past (suc k) [] ls h e = ap run_of (same e)
run_past (suc k) (b ∷ r) ls h e = run_past k r ls h.1 e

pub run_is : (r : List ℕ) (ls : List (List ℕ)) → All IsByte r → lists r ≡ accepted ls → r ≡ run_of ls
run_is r ls h e = run_past 0 r ls h e

-- the lists of two runs joined, of which the first k bytes belong to a list before: the first one begins as before, and ends with its last list
joined_past : (k : ℕ) (r s : List ℕ) (ls ms : List (List ℕ)) → k ≤ length r → lists_past k r ≡ accepted ls → lists s ≡ accepted ms → lists_past k (r ++ s) ≡ accepted (ls ++ ms)
unfolding lists_past
joined_past zero [] s ls ms h e g = rw (← same e) g
joined_past zero (b ∷ r) s ls ms h e g =
    let a = first_and_rest b r ls e in
    let w = begins (b ∷ r) a.l a.first in
    let whole : (b ∷ r) ++ s ≡ w.head ++ (a.l ++ (w.rest ++ s)) = ap (λ (x : List ℕ). x ++ s) w.whole ∙ simp append_assoc in
    let first : first_list ((b ∷ r) ++ s) ≡ accepted a.l = rw whole (first_list_lem w.head a.l (w.rest ++ s) w.two w.counted) in
    let inside : 1 + length a.l ≤ length r = omega (arith, simp length-append at (ap length w.whole), w.two) in
    rw (← a.all, first, joined_past (1 + length a.l) r s a.more ms inside a.behind g)
joined_past (suc k) [] s ls ms h e g = absurd (omega arith)
joined_past (suc k) (b ∷ r) s ls ms h e g = joined_past k r s ls ms (le_of_suc-le-suc h) e g

pub lists_joined : (r s : List ℕ) (ls ms : List (List ℕ)) → lists r ≡ accepted ls → lists s ≡ accepted ms → lists (r ++ s) ≡ accepted (ls ++ ms)
lists_joined r s ls ms e g = joined_past 0 r s ls ms (omega arith) e g
