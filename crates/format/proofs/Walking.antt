-- A run over a format by the cursor, one item at a time, for any step on what an item does and any output.
use Prim.Native.Nat.{ℕ, suc, ◌+◌, ◌-◌, ◌≤◌, ◌<◌}
use mathlib.Core.Path.{◌≡◌, refl, sym, ap, ◌∙◌}
use mathlib.Core.List.{List, [], ◌∷◌, map}
use mathlib.Core.Option.{Option, none, some}
use native.Mathlib.Omega.{arith}
use lib.Dec.{T}
use lib.ListN.{length, drop, length-drop}
use lib.Seq.{drop-drop}
use Rattle.definition.specs.Answers.{Checked, refused, accepted, ◌>>=◌, after, run}
use Rattle.definition.specs.Options.{Table}
use Rattle.definition.specs.Items.{Item, item, taken}
use Rattle.definition.specs.Ops.{op_of, ops}
use Rattle.definition.specs.declared.Op.{Op}
use Rattle.laws.proofs.Answers.{bound}
use Rattle.laws.proofs.Items.{items_nil, items_cons}
use Rattle.laws.proofs.Ops.{valid_op, Sizes, op_valid}
use Rattle.laws.proofs.Parts.{after_nothing, after_after}
use Rattle.format.specs.Steps.{next_at}
use Rattle.operand.proofs.Taken.{taken_length}

-- an item's check refuses as what it makes with a place does
check_refused : (c : Checked Op) (p k : ℕ) → ◌>>=◌ {B = Option (Op × ℕ)} c (λ o. accepted (some (o, p))) ≡ refused k → c ≡ refused k
check_refused (refused j) p k q = let e : j ≡ k = cc in ap refused e
check_refused (accepted o) p k q = let z : ◌≡◌ {A = ℕ} 0 1 = cc in absurd (omega arith)

-- by the table t, the item of the format f at a place does o, and the next one stands at the place p
pub record Step (t : Table) (f : List ℕ) (at : ℕ) (o : Op) (p : ℕ) : Type 0 where
  pub first : Item
  pub does : op_of t first ≡ accepted o
  pub are : ops t (drop at f) ≡ accepted o ∷ ops t (drop p f)
  pub ahead : at < p
  pub inside : p ≤ length f

module _ (t : Table) where
  -- what the items of a format do, one at a time
  ops_cons : (b : ℕ) (s : List ℕ) → ops t (b ∷ s) ≡ op_of t (item b (taken t b s)) ∷ ops t (drop (length (taken t b s)) s)
  ops_cons b s = ap (map (op_of t)) (items_cons t b s)

  module _ (f : List ℕ) (at : ℕ) where
    pub at_end : next_at t at (drop at f) ≡ accepted none → ops t (drop at f) ≡ []
    unfolding next_at
    at_end = go (drop at f)
      where
        go : (l : List ℕ) → next_at t at l ≡ accepted none → ops t l ≡ []
        go [] q = ap (map (op_of t)) (items_nil t)
        go (b ∷ s) q = let x = (bound (op_of t (item b (taken t b s))) _ q).rest in let z : ◌≡◌ {A = ℕ} 0 1 = cc in absurd (omega arith)

    pub at_refusal : (k : ℕ) → next_at t at (drop at f) ≡ refused k → (rest : List (Checked Op)) × (ops t (drop at f) ≡ refused k ∷ rest)
    unfolding next_at
    at_refusal k = go (drop at f) refl
      where
        go : (l : List ℕ) → drop at f ≡ l → next_at t at l ≡ refused k → (rest : List (Checked Op)) × (ops t (drop at f) ≡ refused k ∷ rest)
        go [] e q = let z : ◌≡◌ {A = ℕ} 0 1 = cc in absurd (omega arith)
        go (b ∷ s) e q =
            let rest : List (Checked Op) = ops t (drop (length (taken t b s)) s) in
            (rest, ap (ops t) e ∙ ops_cons b s ∙ ap (λ (c : Checked Op). c ∷ rest) (check_refused (op_of t (item b (taken t b s))) (at + 1 + length (taken t b s)) k q))

    pub at_item : (o : Op) (p : ℕ) → next_at t at (drop at f) ≡ accepted (some (o, p)) → Step t f at o p
    unfolding next_at taken
    at_item o p = go (drop at f) refl (length-drop at f)
      where
        same : (b : ℕ) (s : List ℕ) (n : ℕ) → drop at f ≡ b ∷ s → drop n s ≡ drop (at + 1 + n) f
        same b s n e = ap (drop (suc n)) (sym e) ∙ drop-drop (suc n) at f ∙ (let q : at + suc n ≡ at + 1 + n = omega arith in ap (λ (k : ℕ). drop k f) q)

        go : (l : List ℕ) → drop at f ≡ l → length l ≡ length f - at → next_at t at l ≡ accepted (some (o, p)) → Step t f at o p
        go [] e h q = let z : ◌≡◌ {A = ℕ} 0 1 = cc in absurd (omega arith)
        go (b ∷ s) e h q =
            let n = length (taken t b s) in
            let x = bound (op_of t (item b (taken t b s))) _ q in
            let r = x.rest in
            let w : ◌≡◌ {A = Op × ℕ} (x.val, at + 1 + n) (o, p) = cc in
            let d : op_of t (item b (taken t b s)) ≡ accepted o = x.is ∙ ap (λ (y : Op × ℕ). accepted y.0) w in
            let m : at + 1 + n ≡ p = ap (λ (y : Op × ℕ). y.1) w in
            let i : n ≤ length s = taken_length t (t b).rule s in
            let rest : drop n s ≡ drop p f = same b s n e ∙ ap (λ (k : ℕ). drop k f) m in
            record {
              first = item b (taken t b s);
              does = d;
              are = ap (ops t) e ∙ ops_cons b s ∙ (λ j. d j ∷ ops t (rest j));
              ahead = omega arith;
              inside = omega arith;
            }

    -- a checked item, and a cursor that goes on inside the format
    module _ {o : Op} {p : ℕ} (q : next_at t at (drop at f) ≡ accepted (some (o, p))) where
      pub valid : Sizes t → T (valid_op o)
      valid h = let x = at_item o p q in op_valid t h x.first o x.does

      pub ahead : (at < p) × (p ≤ length f)
      ahead = let x = at_item o p q in (x.ahead, x.inside)

-- ---- a walk over a format, for any step on what an item does, and any output that is joined
module _ {S O : Type 0} (step : S → Op → Checked (S × O)) (nothing : O) (◌⊕◌ : O → O → O) where
  infixl 60 ◌⊕◌
  -- the whole walk w over f, by the table t, has come to a place, with the state s, and has put out o
  pub record Walked (t : Table) (w : Checked (S × O)) (f : List ℕ) (at : ℕ) (s : S) (o : O) : Type 0 where
    pub is : w ≡ after step nothing ◌⊕◌ o (run step nothing ◌⊕◌ s (ops t (drop at f)))

  module _ (left : (o : O) → nothing ⊕ o ≡ o) (right : (o : O) → o ⊕ nothing ≡ o) (assoc : (a b c : O) → (a ⊕ b) ⊕ c ≡ a ⊕ (b ⊕ c)) where
    pub walk_none : (t : Table) (f : List ℕ) (at : ℕ) (s : S) → at ≡ 0 → Walked t (run step nothing ◌⊕◌ s (ops t f)) f at s nothing
    walk_none t f at s e = record { is = rw e (after_nothing step nothing ◌⊕◌ left assoc (run step nothing ◌⊕◌ s (ops t f))) }

    module _ {t : Table} {w : Checked (S × O)} {f : List ℕ} {at : ℕ} {s : S} {o : O} (h : Walked t w f at s o) where
      -- the rest of the items, as they are
      rest_is : (is : List (Checked Op)) → ops t (drop at f) ≡ is → w ≡ after step nothing ◌⊕◌ o (run step nothing ◌⊕◌ s is)
      rest_is is e = h.is ∙ ap (λ (x : List (Checked Op)). after step nothing ◌⊕◌ o (run step nothing ◌⊕◌ s x)) e

      pub walk_end : next_at t at (drop at f) ≡ accepted none → w ≡ accepted (s, o)
      walk_end q = rest_is [] (at_end t f at q) ∙ ap (λ (x : O). accepted (s, x)) (right o)

      pub walk_refusal : {k : ℕ} → next_at t at (drop at f) ≡ refused k → w ≡ refused k
      walk_refusal {k} q = let x = at_refusal t f at k q in rest_is (refused k ∷ x.0) x.1

      -- the item at the place does i, and the next one stands at the place p
      module _ {i : Op} {p : ℕ} (q : next_at t at (drop at f) ≡ accepted (some (i, p))) where
        pub walk_refused : {k : ℕ} → step s i ≡ refused k → w ≡ refused k
        walk_refused e = rest_is _ (at_item t f at i p q).are ∙ rw e

        pub walk_on : {u : S} {a : O} → step s i ≡ accepted (u, a) → Walked t w f p u (o ⊕ a)
        walk_on {u} {a} e = record { is = rest_is _ (at_item t f at i p q).are ∙ rw e (after_after step nothing ◌⊕◌ left assoc o a (run step nothing ◌⊕◌ u (ops t (drop p f)))) }
