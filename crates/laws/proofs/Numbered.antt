-- Every call refuses by a number of the list.
use Prim.Native.Nat.{ℕ}
use mathlib.Core.Path.{sym, subst}
use mathlib.Core.Bool.{Bool, true, false, cond}
use mathlib.Core.List.{List}
use lib.Dec.{T, leb}
use lib.IntN.{ℤ}
use lib.ListN.{length}
use Rattle.definition.specs.Answers.{Checked, refused, accepted}
use Rattle.definition.specs.Refusals.{refusals, among}
use Rattle.definition.specs.Options.{options}
use Rattle.definition.specs.Measuring.{measure}
use Rattle.definition.specs.Bound.{bound}
use Rattle.definition.specs.States.{start}
use Rattle.definition.specs.Calls.{Call, at_most_63, into, string_packsize, list_bound, pack, pack_continued, string_pack, unpack, string_unpack}
use Rattle.definition.specs.Trays.{records_of, pack_tray}
use Rattle.laws.specs.Claims.{Listed, Numbered}
use Rattle.definition.specs.declared.State.{State}
use Rattle.laws.proofs.Answers.{never, same_number}
use Rattle.laws.proofs.Refusals.{Refuses, items_give, calls_give, ByCall, low, fine, low_bind, low_check, low_up, among_all, low_measure, low_bound, low_pack, low_unpack, low_tray}

pub listed : {A : Type 0} (c : Checked A) → Refuses (among refusals) c → Listed c
listed (refused j) (low h) k e = subst (λ (x : ℕ). T (among refusals x)) (same_number e) h
listed (accepted a) h k e = absurd (never (sym e))

-- of a call, but for its result buffer, and of items
of_call : (k : ℕ) → T (among calls_give k) → T (among refusals k)
of_call = among_all refusals calls_give tt

of_item : (k : ℕ) → T (among items_give k) → T (among refusals k)
of_item = among_all refusals items_give tt

either : {A : Type 0} (t : Bool) (x y : Call A) → Listed x.answer → Listed y.answer → Listed (cond t x y).answer
either true x y g h = g
either false x y g h = h

-- of what a call puts into a lent buffer
listed_into : {A : Type 0} (b : List ℕ) (c : Checked (A × List ℕ)) → ByCall c → Listed (into b c).answer
listed_into b (refused j) (low h) = listed (refused j) (low (of_call j h))
listed_into b (accepted r) h = either (leb (length r.1) (length b)) _ _ (listed (accepted r.0) fine) (listed (refused 22) (low tt))

listed_size : (f : List ℕ) → Listed (string_packsize f)
listed_size f = listed (measure options f) (low_up (measure options f) of_item (low_measure options f))

listed_bound : (f : List ℕ) (d : ℕ) → Listed (list_bound f d)
unfolding list_bound
listed_bound f d = listed _ (low_check (at_most_63 d) 21 (bound options f d) tt (low_up (bound options f d) of_item (low_bound options f d)))

listed_pack : (f l b : List ℕ) → Listed (string_pack f l b).answer
unfolding string_pack
listed_pack f l b = listed_into b _ (low_bind (pack start f l) _ (low_pack start f l) (λ r. fine))

listed_continued : (s : State) (f l b : List ℕ) → Listed (pack_continued s f l b).answer
unfolding pack_continued
listed_continued s f l b = listed_into b _ (low_bind (pack s f l) _ (low_pack s f l) (λ r. fine))

listed_unpack : (f d : List ℕ) (p : ℤ) (b : List ℕ) → Listed (string_unpack f d p b).answer
unfolding string_unpack
listed_unpack f d p b = listed_into b _ (low_bind (unpack f d p) _ (low_unpack f d p) (λ r. fine))

listed_tray : (f r b : List ℕ) → Listed (pack_tray f r b).call.answer
unfolding pack_tray
listed_tray f r b = listed_into b _ (low_bind (records_of f r).answer _ (low_tray f r) (λ bs. fine))

pub numbered : Numbered
numbered = record { sizes = listed_size; bounds = listed_bound; packs = listed_pack; continues = listed_continued; reads = listed_unpack; trays = listed_tray }
