-- A pass: the values that were read so far, the length of their list, and the list at the front of the buffer.
use Prim.Native.Nat.{ℕ, ◌+◌, ◌-◌, ◌^◌, ◌≤◌, ◌<◌}
use native.Mathlib.Omega.{arith}
use mathlib.Core.Path.{◌≡◌, refl, sym, ap, ◌∙◌}
use mathlib.Core.Bool.{Bool, true, false, cond}
use mathlib.Core.List.{List, [], ◌∷◌, ◌++◌}
use mathlib.Core.Option.{none, some}
use borrow.Rule.Slice.PartMut.{put_mid}
use lib.ListN.{length, take, drop, length-append, length-drop, length-take}
use Rattle.std.specs.Prelude.{Ok, Err}
use Rattle.definition.specs.Answers.{Checked, refused, accepted}
use Rattle.definition.specs.Refusals.{refusal_number}
use Rattle.definition.specs.Options.{Table}
use Rattle.definition.specs.Ops.{ops}
use Rattle.definition.specs.Values.{Value}
use Rattle.definition.specs.Lists.{list_of}
use Rattle.definition.specs.Writing.{Place}
use Rattle.definition.specs.Reading.{offset_in, at_offset}
use Rattle.laws.proofs.Traces.{read_value, reading_values}
use Rattle.definition.specs.declared.State.{State}
use Rattle.definition.specs.declared.Offset.{Offset}
use Rattle.definition.specs.declared.Op.{Op}
use Rattle.definition.specs.declared.Refusal.{Refusal}
use Rattle.laws.proofs.Answers.{never, after_accepted}
use Rattle.laws.proofs.Lists.{list_append}
use Rattle.format.specs.Steps.{next_at}
use Rattle.store.proofs.Pasting.{put_behind}
use Rattle.decode.specs.Readings.{value_of, Inside}
use Rattle.fetch.specs.Fetching.{Stands, place_in, Fetches}
use Rattle.decode.specs.declared.Reading.{Reading}
use Rattle.fetch.specs.declared.Fetched.{Fetched}
use Rattle.align.specs.Amounts.{SameTo63}
use Rattle.read_pass.specs.Runs.{read_at, size_of, Reads, Fits, list_into, list_after}
use Rattle.read_pass.proofs.Sizes.{no_values, list_parts, size_is}
use Rattle.read_pass.proofs.Runs.{SoFar, from_start, run_end, run_refusal, item_refused, item_set, item_read}

-- x at the front of b
abbrev fronted : List ℕ → List ℕ → List ℕ
fronted x b = x ++ drop (length x) b

-- what was read so far is at most what is read in all
within : {t : Table} {f d : List ℕ} {w : Checked (Place ℕ × List Value)} {at : ℕ} {s : State} {vs : List Value} → SoFar t f d w at s vs
    → {p : Place ℕ} {all : List Value} → w ≡ accepted (p, all) → length (list_of vs) ≤ length (list_of all)
within {t} {f} {d} {w} {at} {s} {vs} h {p} {all} e =
    let a = after_accepted read_value [] ◌++◌ vs (reading_values (place_in d s) (ops t (drop at f))) (p, all) (sym h.walk.is ∙ e) in
    let q : vs ++ a.0.1 ≡ all = ap (λ (r : Place ℕ × List Value). r.1) a.2 in
    omega (arith, ap (λ (l : List Value). length (list_of l)) q, list_append vs a.0.1)

-- what the buffer b holds after the values vs: with `put` their list at its front, else what it held
abbrev holding : Bool → List ℕ → List Value → List ℕ
holding put b vs = cond put (fronted (list_of vs) b) b

-- from the state s₀ on, the values `done` were read. Their list has the length `total`, and l is the buffer b with it: with `put`, b has room for all.
pub record Passing (t : Table) (f d : List ℕ) (s₀ : State) (b : List ℕ) (put : Bool) (at : ℕ) (s : State) (l : List ℕ) (total : ℕ) : Type 0 where
  pub fits : put ≡ true → Fits t f d s₀ b
  pub done : List Value
  pub so_far : SoFar t f d (read_at t f d s₀) at s done
  pub counted : SameTo63 total (length (list_of done))
  pub holds : l ≡ holding put b done

pub passing_none : {t : Table} {f d : List ℕ} {s : State} {b : List ℕ} {at : ℕ} (put : Bool) → (put ≡ true → Fits t f d s b) → at ≡ 0 → Stands d s → Passing t f d s b put at s b 0
unfolding list_of
passing_none {t} {f} {d} {s} {b} {at} put fits e h = record { fits = fits; done = []; so_far = from_start t f d s at e h; counted = rw no_values; holds = same put }
  where
    same : (x : Bool) → b ≡ holding x b []
    same true = refl
    same false = refl

module _ {t : Table} {f d : List ℕ} {s₀ : State} {b : List ℕ} {put : Bool} {at : ℕ} {s : State} {l : List ℕ} {total : ℕ}
    (h : Passing t f d s₀ b put at s l total) where
  abbrev answer : List ℕ
  answer = cond put (list_after t f d s₀ b) b

  -- the list of what was read so far
  abbrev sofar : List ℕ
  sofar = list_of h.done

  pub passing_length : length l ≡ length b
  passing_length = go put refl h.holds
    where
      go : (x : Bool) → put ≡ x → l ≡ holding x b h.done → length l ≡ length b
      go true e q =
          let a = h.fits e in
          omega (arith, ap length q, length-append sofar (drop (length sofar) b), length-drop (length sofar) b, within h.so_far a.accepts, a.room)
      go false e q = ap length q

  pub passing_end : {o : Offset} → o ≡ offset_in s → next_at t at (drop at f) ≡ accepted none → Reads d (read_at t f d s₀) total o × (l ≡ answer)
  passing_end {o} i q =
      let e = run_end h.so_far q in
      let r : Reads d (read_at t f d s₀) total (offset_in s) = record {
        next = place_in d s;
        values = h.done;
        accepts = e;
        counts = h.counted;
        ends = refl;
        inside = h.so_far.stands.0;
      } in
      (rw i r, h.holds ∙ ap (λ (x : List ℕ). cond put x b) (sym (ap (list_into b) e)))

  -- with `put`, nothing is refused
  refused_list : {k : ℕ} → read_at t f d s₀ ≡ refused k → (read_at t f d s₀ ≡ refused k) × (l ≡ answer)
  refused_list e = (e, go put refl h.holds)
    where
      go : (x : Bool) → put ≡ x → l ≡ holding x b h.done → l ≡ cond x (list_after t f d s₀ b) b
      go true i q = absurd (never (sym e ∙ (h.fits i).accepts))
      go false i q = q

  pub passing_refusal : {k : ℕ} → next_at t at (drop at f) ≡ refused k → (read_at t f d s₀ ≡ refused k) × (l ≡ answer)
  passing_refusal q = refused_list (run_refusal h.so_far q)

  module _ {o : Op} {p : ℕ} (q : next_at t at (drop at f) ≡ accepted (some (o, p))) where
    pub passing_refused : {e : Refusal} → Fetches d s o (Err e) → (read_at t f d s₀ ≡ refused (refusal_number e)) × (l ≡ answer)
    passing_refused g = refused_list (item_refused h.so_far q g)

    pub passing_set : {x u : State} → Fetches d s o (Ok (Fetched.Set x)) → u ≡ x → Passing t f d s₀ b put p u l total
    passing_set g i = rw i (record { fits = h.fits; done = h.done; so_far = item_set h.so_far q g; counted = h.counted; holds = h.holds })

    module _ {v : Reading} {o' : Offset} (g : Fetches d s o (Ok (Fetched.Read v o'))) where
      abbrev one : List ℕ
      one = list_of (value_of d v ∷ [])

      abbrev more : List Value
      more = h.done ++ (value_of d v ∷ [])

      inside : Inside d v
      inside = g.stands.1

      next : SoFar t f d (read_at t f d s₀) p (at_offset s o') more
      next = item_read h.so_far q g

      module _ (i : put ≡ true) (below : length b < 2 ^ 63) where
        exact : total ≡ length sofar
        exact = let a = h.fits i in omega (arith, h.counted, within h.so_far a.accepts, a.room)

        pub passing_room : (k : ℕ) → k ≡ length l - total → (size_of v ≤ length (take k (drop total l))) × Inside d v
        passing_room k e =
            let a = h.fits i in
            let m = list_append h.done (value_of d v ∷ []) in
            (omega (arith, exact, within next a.accepts, m, size_is d v inside, passing_length, a.room, length-drop total l, length-take {A = ℕ}), inside)

        -- the field p at the front of the part behind what was read so far
        pub passing_put : (p : List ℕ) (k : ℕ) → length l ≤ total + k → p ≡ one ++ drop (size_of v) (take k (drop total l)) → put_mid total k l p ≡ holding put b more
        passing_put p k n e =
            let size : length one ≡ size_of v = size_is d v inside in
            let all : total + length one ≡ length (sofar ++ one) = omega (arith, exact, length-append sofar one) in
            let x : l ≡ sofar ++ drop total b = h.holds ∙ ap (λ (x : Bool). holding x b h.done) i ∙ ap (λ (j : ℕ). sofar ++ drop j b) (sym exact) in
            put_behind b l p sofar one total k (sym exact) x n (e ∙ ap (λ (j : ℕ). one ++ drop j (take k (drop total l))) (sym size))
            ∙ ap (λ (j : ℕ). (sofar ++ one) ++ drop j b) all
            ∙ ap (λ (y : List ℕ). fronted y b) (sym (list_parts h.done (value_of d v ∷ [])))
            ∙ sym (ap (λ (x : Bool). holding x b more) i)

      pub passing_kept : put ≡ false → l ≡ holding put b more
      passing_kept i = h.holds ∙ ap (λ (x : Bool). holding x b h.done) i ∙ sym (ap (λ (x : Bool). holding x b more) i)

      -- a field of c bytes more makes the total m
      pub passing_more : {k : List ℕ} {c m : ℕ} {u : State} → k ≡ holding put b more → c ≡ size_of v → ((j : ℕ) → SameTo63 total j → SameTo63 m (j + c))
          → u ≡ at_offset s o' → Passing t f d s₀ b put p u k m
      passing_more {c = c} y z add i =
          let j : length sofar + c ≡ length (list_of more) = omega (arith, list_append h.done (value_of d v ∷ []), size_is d v inside, z) in
          rw i (record { fits = h.fits; done = more; so_far = next; counted = rw (← j) (add (length sofar) h.counted); holds = y })
