-- A pass over a format, item by item: what was written so far, and what the rest of the items does.
use Prim.Native.Nat.{ℕ, ◌+◌, ◌-◌, ◌≤◌, ◌<◌}
use native.Mathlib.Nat.{add-zero}
use native.Mathlib.Omega.{arith}
use mathlib.Core.Path.{◌≡◌, refl, sym, ap, ◌∙◌, subst}
use mathlib.Core.Bool.{Bool, true, false, cond}
use mathlib.Core.List.{List, ◌++◌, map-append}
use mathlib.Core.Option.{none, some}
use lib.ListN.{length, drop, length-append}
use lib.Seq.{paste}
use Rattle.definition.specs.Answers.{Checked, refused, accepted, after}
use Rattle.definition.specs.Options.{Table}
use Rattle.definition.specs.Ops.{ops}
use Rattle.definition.specs.Values.{Value}
use Rattle.definition.specs.Writing.{zeroed, Output, nothing, ◌⊕◌, Place, write_op, writing}
use Rattle.definition.specs.Calls.{record_of}
use Rattle.definition.specs.declared.Continued.{Continued}
use Rattle.definition.specs.declared.Op.{Op}
use Rattle.laws.proofs.Calls.{length_record}
use Rattle.laws.proofs.Cutting.{nothing_left, nothing_right, join_assoc}
use Rattle.laws.proofs.Steps.{length_step, step_of_lem}
use Rattle.format.specs.Steps.{next_at}
use Rattle.format.proofs.Walking.{Walked, ahead, walk_none, walk_end, walk_refusal, walk_refused, walk_on}
use Rattle.write_pass.specs.Walks.{whole, summed, FitsAt, put_at, Moved}
use Rattle.write_pass.specs.declared.progress.Progress.{Progress}
use Rattle.plan.specs.Places.{place_of}
use Rattle.plan.specs.Plans.{wrote}
use Rattle.plan.specs.declared.place.Place as code
use Rattle.store.proofs.Pasting.{paste_front}
use Rattle.emit.proofs.Pasting.{paste_whole}

-- the buffer d with a record at its front
abbrev fronted : Output → List ℕ → List ℕ
fronted o d = record_of o ++ drop (length o.cells) d

-- From the place `from`, writing the format f has come to the place c of f, and to `at` with so many values used and items run: what is
-- written is `out`, and with `put` the buffer, which was d, is b.
pub record Passing (t : Table) (f : List ℕ) (from : code.Place) (put : Bool) (d : List ℕ) (c : ℕ) (at : code.Place) (used items : ℕ) (b : List ℕ) : Type 0 where
  pub out : Output
  pub so_far : Walked write_op nothing ◌⊕◌ t (whole t from f) f c (place_of at) out
  pub length_is : at.state.length ≡ from.state.length + length out.cells
  pub values_used : used ≡ length out.took
  pub few_used : used ≤ at.reader.at
  pub items_run : items ≡ out.items
  pub few : items ≤ c
  pub inside : c ≤ length f
  pub buffer : b ≡ cond put (fronted out d) d

-- what a pass ends with: the answer a, and the buffer g in place of d
abbrev Ends : Checked (Place Value × Output) → Bool → List ℕ → Checked Continued → List ℕ → Type 0
Ends whole put d a g = (a ≡ summed whole) × (g ≡ cond put (put_at d 0 whole) d)

either : (b : Bool) (x : List ℕ) → x ≡ cond b x x
either true x = refl
either false x = refl

pub passing_none : (t : Table) (f : List ℕ) (at : code.Place) (put : Bool) (d : List ℕ) (c : ℕ) → c ≡ 0 → Passing t f at put d c at 0 0 d
passing_none t f at put d c e = record {
  out = nothing;
  so_far = walk_none write_op nothing ◌⊕◌ nothing_left nothing_right join_assoc t f c (place_of at) e;
  length_is = sym (add-zero at.state.length);
  values_used = refl;
  few_used = omega arith;
  items_run = refl;
  few = omega arith;
  inside = omega arith;
  buffer = either put d;
}

module _ {t : Table} {f : List ℕ} {from : code.Place} {put : Bool} {d : List ℕ} {c : ℕ} {at : code.Place} {used items : ℕ} {b : List ℕ} (w : Passing t f from put d c at used items b) where
  pub passing_end : next_at t c (drop c f) ≡ accepted none → Ends (whole t from f) put d (accepted (record { next = at.state; written = at.state.length - from.state.length; used = used; items = items })) b
  passing_end q =
      let all = walk_end write_op nothing ◌⊕◌ nothing_left nothing_right join_assoc w.so_far q in
      let k : at.state.length - from.state.length ≡ length w.out.cells = omega (arith, w.length_is) in
      let put_is = ap (put_at d 0) all ∙ paste_whole d (record_of w.out) (length w.out.cells) (length_record w.out) in
      (sym (ap summed all ∙ rw (k, w.values_used, w.items_run)), w.buffer ∙ ap (λ (x : List ℕ). cond put x d) (sym put_is))

  -- the item at the place does op, and the next one stands at the place n
  module _ {op : Op} {n : ℕ} (q : next_at t c (drop c f) ≡ accepted (some (op, n))) where
    pub item_ahead : (c < n) × (n ≤ length f)
    item_ahead = ahead t f c q

    -- it puts out o, and leads to the place u
    on : {u : code.Place} {more run : ℕ} {g : List ℕ} (o : Output) → wrote at op ≡ accepted (place_of u, o) → more ≡ used + length o.took → more ≤ u.reader.at → run ≡ items + o.items → run ≤ items + 1
        → g ≡ cond put (put_at b (at.state.length - from.state.length) (wrote at op)) b → Passing t f from put d n u more run g
    on {u} o is took few ran one h =
        let step = step_of_lem (place_of at) op (place_of u, o) is in
        record {
          out = w.out ⊕ o;
          so_far = walk_on write_op nothing ◌⊕◌ nothing_left nothing_right join_assoc w.so_far q is;
          length_is = omega (arith, w.length_is, length-append w.out.cells o.cells, length_step (place_of at) op (place_of u) o step);
          values_used = took ∙ ap (λ (n : ℕ). n + length o.took) w.values_used ∙ sym (length-append w.out.took o.took);
          few_used = few;
          items_run = ran ∙ ap (λ (n : ℕ). n + o.items) w.items_run;
          few = omega (arith, one, w.few, item_ahead.0);
          inside = item_ahead.1;
          buffer = h ∙ go put w.buffer (omega (arith, w.length_is));
        }
      where
        x : List ℕ
        x = record_of w.out

        y : List ℕ
        y = record_of o

        i : ℕ
        i = length w.out.cells

        j : ℕ
        j = length o.cells

        go : (v : Bool) → b ≡ cond v (x ++ drop i d) d → at.state.length - from.state.length ≡ i
            → cond v (put_at b (at.state.length - from.state.length) (wrote at op)) b ≡ cond v (fronted (w.out ⊕ o) d) d
        go false g k = g
        go true g k =
            ap (put_at b (at.state.length - from.state.length)) is ∙ ap (λ (v : List ℕ). paste v (at.state.length - from.state.length) y j) g ∙ ap (λ (v : ℕ). paste (x ++ drop i d) v y j) k
            ∙ paste_front d x i (length_record w.out) y j (length_record o)
            ∙ ap (λ (v : List ℕ). v ++ drop (i + j) d) (sym (map-append zeroed w.out.cells o.cells))
            ∙ ap (λ (v : ℕ). record_of (w.out ⊕ o) ++ drop v d) (sym (length-append w.out.cells o.cells))

    -- by what the item's step ensures
    pub passing_skipped : {g : List ℕ} → wrote at op ≡ accepted (place_of at, nothing) → g ≡ cond put (put_at b (at.state.length - from.state.length) (wrote at op)) b → Passing t f from put d n at used items g
    passing_skipped e h = on nothing e (sym (add-zero used)) w.few_used (sym (add-zero items)) (omega arith) h

    pub passing_moved : {p q : Progress} {g : List ℕ} → p.place ≡ at → p.used ≡ used → Moved p op q → g ≡ cond put (put_at b (at.state.length - from.state.length) (wrote at op)) b
        → Passing t f from put d n q.place q.used (items + 1) g
    passing_moved {p} {q} here used_is m h =
        on m.out (rw here at m.is) (m.used ∙ ap (λ (k : ℕ). k + length m.out.took) used_is) q.few (ap (λ (k : ℕ). items + k) (sym m.items)) (omega arith) h

  -- with `put`, the whole is accepted, and its bytes fit
  module _ (fits : put ≡ true → FitsAt (length d) 0 (whole t from f)) where
    ends_refused : {k : ℕ} → whole t from f ≡ refused k → Ends (whole t from f) put d (refused k) b
    ends_refused e = (sym (ap summed e), w.buffer ∙ go put fits)
      where
        go : (x : Bool) → (x ≡ true → FitsAt (length d) 0 (whole t from f)) → cond x (fronted w.out d) d ≡ cond x (put_at d 0 (whole t from f)) d
        go true h = absurd (subst (FitsAt (length d) 0) e (h refl))
        go false h = refl

    pub passing_refusal : {k : ℕ} → next_at t c (drop c f) ≡ refused k → Ends (whole t from f) put d (refused k) b
    passing_refusal q = ends_refused (walk_refusal write_op nothing ◌⊕◌ nothing_left nothing_right join_assoc w.so_far q)

    module _ {op : Op} {n : ℕ} (q : next_at t c (drop c f) ≡ accepted (some (op, n))) where
      pub passing_refused : {k : ℕ} {g : List ℕ} (m : ℕ) → wrote at op ≡ refused k → g ≡ cond put (put_at b m (wrote at op)) b → Ends (whole t from f) put d (refused k) g
      passing_refused m e h =
          let r = ends_refused (walk_refused write_op nothing ◌⊕◌ nothing_left nothing_right join_assoc w.so_far q e) in
          (r.0, h ∙ ap (λ (x : Checked (Place Value × Output)). cond put (put_at b m x) b) e ∙ sym (either put b) ∙ r.1)

      -- the item's bytes fit where those of the whole do
      pub passing_fits : {m : ℕ} → m ≡ length d → put ≡ true → FitsAt m (at.state.length - from.state.length) (wrote at op)
      passing_fits {m} i j = go (wrote at op) refl
        where
          go : (x : Checked (Place Value × Output)) → wrote at op ≡ x → FitsAt m (at.state.length - from.state.length) x
          go (refused k) e = subst (FitsAt (length d) 0) (walk_refused write_op nothing ◌⊕◌ nothing_left nothing_right join_assoc w.so_far q e) (fits j)
          go (accepted (u, a)) e = rest (writing u (ops t (drop n f))) refl
            where
              rest : (y : Checked (Place Value × Output)) → writing u (ops t (drop n f)) ≡ y → (at.state.length - from.state.length) + length a.cells ≤ m
              rest y g =
                  let so = (walk_on write_op nothing ◌⊕◌ nothing_left nothing_right join_assoc w.so_far q e).is ∙ ap (after write_op nothing ◌⊕◌ (w.out ⊕ a)) g in
                  last y (subst (FitsAt (length d) 0) so (fits j))
                where
                  last : (z : Checked (Place Value × Output)) → FitsAt (length d) 0 (after write_op nothing ◌⊕◌ (w.out ⊕ a) z) → (at.state.length - from.state.length) + length a.cells ≤ m
                  last (refused k) z = absurd z
                  last (accepted v) z = omega (arith, w.length_is, length-append (w.out.cells ++ a.cells) v.1.cells, length-append w.out.cells a.cells)
