-- What both lengths go on by: in order, the greatest by one sum, and with the limit kept.
use Prim.Native.Nat.{ℕ, ◌+◌, ◌-◌, ◌^◌, ◌≤◌, min}
use mathlib.Core.Path.{◌≡◌, sym, ap, ◌∙◌, subst}
use mathlib.Core.List.{List, []}
use borrow.Author.Tests.{leb-true}
use Rattle.definition.specs.Answers.{accepted}
use Rattle.definition.specs.States.{further, longer, padding}
use Rattle.definition.specs.declared.State.{State}
use Rattle.definition.specs.declared.Field.{Field}
use Rattle.laws.proofs.Ops.{Limited}
use Rattle.laws.proofs.Answers.{same, bound}
use Rattle.laws.proofs.Steps.{longer_room}
use Rattle.lengths.specs.Lengths.{range, extents, places, paddings, onward}
use Rattle.lengths.specs.declared.Range.{Range}
use Rattle.lengths.proofs.Orders.{Before, item_before}
use Rattle.lengths.proofs.Steps.{taken_of, extents_order}
use Rattle.laws.proofs.Steps.{longer_capped}
use Rattle.range.specs.Places.{with_length, places_of}
use Rattle.range.specs.declared.Place.{Place}

-- what both lengths have behind them stays in order
pub zeros_order : (u s : State) (n : ℕ) (z : Range) → accepted z ≡ paddings (places u s []) n → u.limit ≡ s.limit → u.length ≤ s.length → (j k : ℕ) → j ≤ k → u.length + (z.least + j) ≤ s.length + (z.greatest + k)
zeros_order u s n z e l h j k i =
    let x = bound (padding u n) _ (sym e) in
    let y = bound (padding s n) (λ b. accepted (range x.val b)) x.rest in
    let before : Before u s = record { limits = l; lengths = h } in
    let o = (item_before u s n x.val y.val j k before x.is y.is i).lengths in
    subst (λ (r : Range). u.length + (r.least + j) ≤ s.length + (r.greatest + k)) (same y.rest) o

-- the greatest text of a field has no fewer bytes than the least
pub bytes_order : (f : Field) (q : List ℕ) (x : Range × List ℕ) → accepted x ≡ extents f q → x.0.least ≤ x.0.greatest
bytes_order f q x e = extents_order f q x (taken_of f q x (sym e))

-- ---- zeros and bytes on: to the state t, by their sum as it is counted
module _ (p : Place) (z m : Range) {k : ℕ} {t : State} (sum : k ≡ min (z.greatest + m.greatest) (2 ^ 64 - 1)) (e : accepted t ≡ longer p.greatest k) where
  last : longer p.greatest (z.greatest + m.greatest) ≡ accepted t
  last = sym (longer_capped p.greatest (z.greatest + m.greatest)) ∙ rw (← sum) (sym e)

  pub room : p.greatest.length + (z.greatest + m.greatest) ≤ 2 ^ 63 - 1
  room = leb-true (p.greatest.length + (z.greatest + m.greatest)) (2 ^ 63 - 1) (longer_room p.greatest t (z.greatest + m.greatest) last).0

  there : further p.greatest (z.greatest + m.greatest) ≡ t
  there = (longer_room p.greatest t (z.greatest + m.greatest) last).1

  pub arrived : (q : List ℕ) → accepted (places (with_length t (p.least + (z.least + m.least))) t q) ≡ onward (places_of p) z (m, q)
  arrived q = rw last (ap (λ (x : State). accepted (places (with_length x (p.least + (z.least + m.least))) t q)) (sym there))

  -- what holds of every place
  pub stays_limited : Limited t
  stays_limited = subst Limited there p.limited

  pub stays_ordered : p.least + (z.least + m.least) ≤ p.greatest.length + (z.greatest + m.greatest) → p.least + (z.least + m.least) ≤ t.length
  stays_ordered h = subst (λ (x : State). p.least + (z.least + m.least) ≤ x.length) there h
