-- Continued writing of a format's parts in turn, each with a buffer of its own, is one call on the format.
use Prim.Native.Nat.{ℕ, ◌+◌}
use native.Mathlib.Nat.{zero-add, add-zero, add_assoc}
use mathlib.Core.Path.{◌≡◌, refl, sym, ap, ◌∙◌}
use mathlib.Core.Bool.{Bool, true, false, ◌&&◌, cond}
use mathlib.Core.List.{List, [], ◌∷◌, map, map-append, append_assoc, append-nil}
use lib.Dec.{leb}
use lib.ListN.{length, length-append}
use Rattle.definition.specs.Answers.{Checked, refused, accepted, ◌>>=◌, after}
use Rattle.definition.specs.Options.{options}
use Rattle.definition.specs.Ops.{ops, is_power}
use Rattle.definition.specs.Values.{Value}
use Rattle.definition.specs.Lists.{values, fields_after}
use Rattle.definition.specs.States.{start}
use Rattle.definition.specs.Writing.{zeroed, Output, nothing, ◌⊕◌, Place, place, write_op, write}
use Rattle.definition.specs.Calls.{call, into, at_most_63, pack, record_of, continued_of, pack_continued, string_pack}
use Rattle.laws.specs.Claims.{LongEnough, gives, Divides, Total, total_of, joined_to, in_turn}
use Rattle.definition.specs.declared.State.{State}
use Rattle.laws.proofs.Parts.{runs, cut_anywhere}
use Rattle.laws.proofs.Calls.{Sound, pack_run, Packed, next_sound, next_values, total_of_run, long_first, total_long}

-- ---- outputs, joined
pub nothing_left : (o : Output) → nothing ⊕ o ≡ o
nothing_left o = λ i. record { cells = o.cells; took = o.took; items = zero-add o.items i }

pub nothing_right : (o : Output) → o ⊕ nothing ≡ o
nothing_right o = λ i. record { cells = append-nil o.cells i; took = append-nil o.took i; items = add-zero o.items i }

pub join_assoc : (a b c : Output) → (a ⊕ b) ⊕ c ≡ a ⊕ (b ⊕ c)
join_assoc a b c = λ i. record { cells = append_assoc a.cells b.cells c.cells i; took = append_assoc a.took b.took c.took i; items = add_assoc a.items b.items c.items i }

-- ---- without buffers

-- a call without a buffer, and the parts' calls in turn
abbrev total : State → List ℕ → List ℕ → Checked Total
total s f l = pack s f l >>= λ r. accepted (total_of_run r)

abbrev none : State → Total
none s = record { next = s; bytes = []; used = 0; items = 0 }

abbrev totals : State → List ℕ → List (List ℕ) → Checked Total
totals s l [] = accepted (none s)
totals s l (p ∷ ps) = total s p l >>= λ t. totals t.next (fields_after t.used l) ps >>= λ u. accepted (joined_to t u)

abbrev write_parts : Place Value → List (List ℕ) → Checked (Place Value × Output)
write_parts r ps = runs write_op nothing ◌⊕◌ r (map (ops options) ps)

join : (u w : Place Value) (o q : Output) → total_of_run (w, o ⊕ q) ≡ joined_to (total_of_run (u, o)) (total_of_run (w, q))
join u w o q = λ i. record { next = w.state; bytes = map-append zeroed o.cells q.cells i; used = length-append o.took q.took i; items = o.items + q.items }

-- the runs over the parts are the parts' calls: a returned state and the list's rest lead on
parts_total : (ps : List (List ℕ)) (s : State) (l : List ℕ) (vs : List Value) → Sound s → values l ≡ accepted vs → (write_parts (place s vs) ps >>= λ r. accepted (total_of_run r)) ≡ totals s l ps
parts_total [] s l vs h e = refl
parts_total (p ∷ ps) s l vs h e = rw (pack_run s p l vs h e) (go (write options s vs p) refl (parts_total ps))
  where
    go : (c : Checked (Place Value × Output)) → write options s vs p ≡ c
        → ((s : State) (l : List ℕ) (vs : List Value) → Sound s → values l ≡ accepted vs → (write_parts (place s vs) ps >>= λ r. accepted (total_of_run r)) ≡ totals s l ps)
        → (c >>= (λ r. after write_op nothing ◌⊕◌ r.1 (write_parts r.0 ps)) >>= λ r. accepted (total_of_run r))
        ≡ (c >>= (λ r. accepted (total_of_run r)) >>= λ t. totals t.next (fields_after t.used l) ps >>= λ u. accepted (joined_to t u))
    go (refused k) w ih = refl
    go (accepted r) w ih =
        let q : Packed s p l r = record { vs = vs; sound = h; list = e; run = w } in
        rw (← ih r.0.state (fields_after (length r.1.took) l) r.0.left (next_sound s p l r q) (next_values s p l r q)) (last (write_parts r.0 ps))
      where
        last : (c : Checked (Place Value × Output)) → (after write_op nothing ◌⊕◌ r.1 c >>= λ q. accepted (total_of_run q)) ≡ (c >>= (λ q. accepted (total_of_run q)) >>= λ u. accepted (joined_to (total_of_run r) u))
        last (refused k) = refl
        last (accepted q) = ap accepted (join r.0 q.0 r.1 q.1)

-- one call is the parts' calls, for every state and list: one that 21 refuses is refused by both
total_parts : (s : State) (f l p : List ℕ) (ps : List (List ℕ)) → Divides f (p ∷ ps) → total s f l ≡ totals s l (p ∷ ps)
unfolding pack
total_parts s f l p ps d = state (is_power s.limit && at_most_63 s.length) refl
  where
    list : (c : Checked (List Value)) → Sound s → values l ≡ c → total s f l ≡ totals s l (p ∷ ps)
    list (accepted vs) h e = ap (λ (c : Checked (Place Value × Output)). c >>= λ r. accepted (total_of_run r)) (pack_run s f l vs h e ∙ cut_anywhere write_op nothing ◌⊕◌ nothing_left join_assoc (place s vs) f (p ∷ ps) d) ∙ parts_total (p ∷ ps) s l vs h e
    list (refused k) h e = rw (h, e)

    state : (t : Bool) → (is_power s.limit && at_most_63 s.length) ≡ t → total s f l ≡ totals s l (p ∷ ps)
    state true h = list (values l) h refl
    state false h = rw h

-- ---- with buffers that are long enough

abbrev parts : List (List ℕ × List ℕ) → List (List ℕ)
parts ps = map (λ p. p.0) ps

abbrev on : State → List ℕ → List (List ℕ × List ℕ) → Total → Checked Total
on s l ps t = in_turn t.next (fields_after t.used l) ps >>= λ u. accepted (joined_to t u)

turns_long : (ps : List (List ℕ × List ℕ)) (s : State) (l : List ℕ) → LongEnough (in_turn s l ps) → in_turn s l ps ≡ totals s l (parts ps)
unfolding in_turn
turns_long [] s l h = refl
turns_long (p ∷ ps) s l h =
    let first : total_of (pack_continued s p.0 l p.1) ≡ total s p.0 l = total_long s p.0 l p.1 (long_first (pack_continued s p.0 l p.1).answer _ (long_first (total_of (pack_continued s p.0 l p.1)) (on s l ps) h)) in
    rw first (go (total s p.0 l) (rw first at h) (turns_long ps))
  where
    go : (c : Checked Total) → LongEnough (c >>= on s l ps) → ((s : State) (l : List ℕ) → LongEnough (in_turn s l ps) → in_turn s l ps ≡ totals s l (parts ps)) → (c >>= on s l ps) ≡ (c >>= λ t. totals t.next (fields_after t.used l) (parts ps) >>= λ u. accepted (joined_to t u))
    go (refused k) h ih = refl
    go (accepted t) h ih = rw (ih t.next (fields_after t.used l) (long_first (in_turn t.next (fields_after t.used l) ps) (λ u. accepted (joined_to t u)) h))

pub plain_is : (f l b : List ℕ) → string_pack f l b ≡ call ((pack_continued start f l b).answer >>= λ a. accepted a.written) (pack_continued start f l b).buffer
unfolding string_pack pack_continued
plain_is f l b = go (pack start f l)
  where
    go : (c : Checked (Place Value × Output)) → into b (c >>= λ r. accepted (length r.1.cells, record_of r.1))
        ≡ call ((into b (c >>= λ r. accepted (continued_of r, record_of r.1))).answer >>= λ a. accepted a.written) (into b (c >>= λ r. accepted (continued_of r, record_of r.1))).buffer
    go (refused k) = refl
    go (accepted r) = room (leb (length (record_of r.1)) (length b))
      where
        room : (t : Bool) → cond t (gives (length r.1.cells) (record_of r.1) b) (call (refused 22) b)
            ≡ call ((cond t (gives (continued_of r) (record_of r.1) b) (call (refused 22) b)).answer >>= λ a. accepted a.written) (cond t (gives (continued_of r) (record_of r.1) b) (call (refused 22) b)).buffer
        room true = refl
        room false = refl

pub cuts : (s : State) (f l b : List ℕ) (p : List ℕ × List ℕ) (ps : List (List ℕ × List ℕ)) → Divides f (parts (p ∷ ps)) → LongEnough (pack_continued s f l b).answer → LongEnough (in_turn s l (p ∷ ps))
    → total_of (pack_continued s f l b) ≡ in_turn s l (p ∷ ps)
cuts s f l b p ps d whole turns = total_long s f l b whole ∙ total_parts s f l p.0 (parts ps) d ∙ sym (turns_long (p ∷ ps) s l turns)
