-- The call: what the first walk told, 22, and what the second walk put.
use Prim.Native.Nat.{ℕ, ◌^◌, ◌≤◌, ◌<◌}
use native.Mathlib.Omega.{arith}
use mathlib.Core.Path.{◌≡◌, sym, ap, ◌∙◌}
use mathlib.Core.List.{List, ◌++◌}
use lib.ListN.{length, drop}
use borrow.Author.Tests.{lt-leb}
use Rattle.std.specs.Prelude.{Result, Ok, Err}
use Rattle.definition.specs.Trays.{Placed, records_of, tray_into, pack_tray}
use Rattle.laws.proofs.Calls.{into_fits}
use Rattle.definition.specs.declared.Refusal.{Refusal}
use Rattle.tray.specs.Walks.{Counted, unplaced, Told, put_in, tray_call_of}
use Rattle.tray.specs.declared.TrayRefusal.{TrayRefusal}

-- w are the records of a format f and a run r; g is the buffer after the first walk, which is as it was
module _ (f r b : List ℕ) {w : Placed (List ℕ)} (are : w ≡ records_of f r) {g : List ℕ} (kept : g ≡ b) where
  call_is : {v : Placed (List ℕ)} → w ≡ v → tray_into b v ≡ pack_tray f r b
  unfolding pack_tray
  call_is e = ap (tray_into b) (sym e ∙ are)

  pub refused_call : {t : Result ℕ TrayRefusal} {e : TrayRefusal} → t ≡ Err e → Told w t → tray_call_of (Err e) g ≡ pack_tray f r b
  refused_call i h = rw kept (call_is (rw i at h))

  -- the first walk told the length n
  module _ {t : Result ℕ TrayRefusal} {n : ℕ} (told : t ≡ Ok n) (h : Told w t) (small : length b < 2 ^ 63) where
    counted : Counted w n
    counted = rw told at h

    pub short_call : length g < n → tray_call_of (Err (unplaced Refusal.ResultTooLong)) g ≡ pack_tray f r b
    short_call k =
        let m : length b < length counted.bytes = omega (arith, counted.counts, ap length kept) in
        rw kept ((rw (lt-leb (length counted.bytes) (length b) m)) ∙ call_is counted.is)

    module _ (k : n ≤ length g) where
      exact : length counted.bytes ≡ n
      exact = omega (arith, counted.counts, ap length kept)

      -- the second walk makes d of it
      pub filled_call : {d : List ℕ} → d ≡ put_in g w.answer → tray_call_of (Ok n) d ≡ pack_tray f r b
      filled_call {d} q =
          let bs = counted.bytes in
          let m : length bs ≤ length b = omega (arith, exact, ap length kept) in
          let front : d ≡ bs ++ drop (length bs) b = q ∙ ap (λ (x : List ℕ). put_in x w.answer) kept ∙ ap (λ (t : Placed (List ℕ)). put_in b t.answer) counted.is in
          ap (λ (x : List ℕ). tray_call_of (Ok n) x) front ∙ ap (λ (x : ℕ). tray_call_of (Ok x) (bs ++ drop (length bs) b)) (sym exact)
          ∙ sym (sym (call_is counted.is) ∙ rw (into_fits b (length bs) bs m))
