-- The run ends here; before its two bytes of length, or before the list that they announce; or the list is there.
use Rattle.std.proofs.Common.{◌≡◌, ℕ, ◌-◌, ◌≤◌, List, [], ◌∷◌, length, take, drop, slice_index_or, w16, refl, ap, ◌∙◌, arith, length-drop}
use Rattle.std.specs.Int.{from_be_bytes}
use Rattle.std.specs.Prelude.{Option, Some, None, Ok, Err}
use Rattle.std.specs.Option.{ok_or}
use lib.Seq.{take_all, drop-drop}
use borrow.Author.Tests.{true-eqb, false-eqb}
use Rattle.definition.specs.Bytes.{total}
use Rattle.definition.specs.Lists.{big_total}
use Rattle.definition.specs.declared.Refusal.{Refusal}
use Rattle.laws.proofs.Exits.{exit_is}
use Rattle.laws.proofs.Runs.{at_end, at_short}
use Rattle.runs.proofs.Standing.{stands}
use Rattle.runs.proofs.list_at.Goals as goal

-- the two bytes, and the bytes behind them
said : (r : List ℕ) → 2 ≤ length r → from_be_bytes w16 (slice_index_or r 0 0 ∷ slice_index_or r 1 0 ∷ []) ≡ big_total (take 2 r)
unfolding total
said [] p = absurd (omega arith)
said (h ∷ []) p = absurd (omega arith)
said (h ∷ w ∷ r) p = omega arith

behind : (r : List ℕ) → take (length r - 2) (drop 2 r) ≡ drop 2 r
behind r = take_all (length r - 2) (drop 2 r) (omega (arith, length-drop 2 r))

-- `ok_or` refuses as it is told, and then nothing is there
none_of : {A : Type 0} {o : Option A} {e r : Refusal} → Err e ≡ ok_or o r → (o ≡ None) × (e ≡ r)
none_of {o = None} q = (refl, grind arith)
none_of {o = Some x} {e} {r} q = absurd (go q)
  where
    go : Err e ≡ Ok x → ⊥
    go h = grind arith

pub returns-then-is_empty : goal.returns-then-is_empty
returns-then-is_empty c = at_end c.args.run.now (omega (arith, true-eqb _ 0 c.if-is_empty.ensures))

pub returns-in_default : goal.returns-in_default
returns-in_default c = at_short c.args.run.now (omega (arith, false-eqb _ 0 c.if-is_empty.ensures)) (omega (arith, c.in_default.len_below))

pub returns-in_err-ok_or : goal.returns-in_err-ok_or
returns-in_err-ok_or c =
    let r = c.args.run.now in
    let none = none_of c.in_err-ok_or.ensures.value in
    let n : c.from-n.result ≡ big_total (take 2 r) = c.from-n.ensures ∙ c.from_be_bytes.ensures ∙ said r c.in-len2-up.len_at_least in
    let cut = rw none.0 at c.split_at_checked.ensures.cases in
    rw (exit_is c.from_residual.ensures.1, none.1) (at_short r (omega (arith, c.in-len2-up.len_at_least)) (omega (arith, cut, ap length (behind r), length-drop 2 r, n)))

pub returns : goal.returns
returns c =
    let r = c.args.run.now in
    let n : c.from-n.result ≡ big_total (take 2 r) = c.from-n.ensures ∙ c.from_be_bytes.ensures ∙ said r c.in-len2-up.len_at_least in
    let e = rw (c.in_ok-ok_or.ensures.ok_part, behind r) at c.split_at_checked.ensures.cases in
    rw (e.1, e.2 ∙ drop-drop c.from-n.result 2 r) (stands r c.from-n.result n (omega (arith, e.0, length-drop 2 r, c.in-len2-up.len_at_least)))
