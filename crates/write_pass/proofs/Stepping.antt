-- One item: where it takes the pass, and what it puts.
use Prim.Native.Nat.{ℕ, zero, suc, ◌+◌}
use mathlib.Core.Path.{◌≡◌, refl, sym, ap, ◌∙◌}
use mathlib.Core.Bool.{Bool, true, false, cond}
use mathlib.Core.List.{List, [], ◌∷◌, ◌++◌, map, map-append}
use lib.Dec.{T}
use lib.ListN.{length, replicate, length-append, length-replicate, length-map}
use lib.Seq.{paste, paste-zero}
use Rattle.definition.specs.Answers.{Checked, accepted}
use Rattle.definition.specs.Values.{Value}
use Rattle.definition.specs.Writing.{pad, byte, pads, zeroed, Output, output, Place, place}
use Rattle.definition.specs.declared.State.{State}
use Rattle.definition.specs.declared.Op.{Op}
use Rattle.laws.proofs.Calls.{Sound, step_sound}
use Rattle.laws.proofs.Ops.{valid_op}
use Rattle.laws.proofs.Steps.{step_of_lem}
use Rattle.plan.specs.Places.{place_of}
use Rattle.plan.specs.Plans.{wrote, WroteZeros, Wrote}
use Rattle.plan.specs.declared.place.Place as code
use Rattle.write_pass.specs.Walks.{put_at}

-- ---- the bytes of cells
zeros_bytes : (n : ℕ) → map zeroed (pads n) ≡ replicate n 0
zeros_bytes zero = refl
zeros_bytes (suc n) = ap (λ (s : List ℕ). 0 ∷ s) (zeros_bytes n)

value_bytes : (s : List ℕ) → map zeroed (map byte s) ≡ s
value_bytes [] = refl
value_bytes (b ∷ s) = ap (λ (t : List ℕ). b ∷ t) (value_bytes s)

padded_bytes : (n : ℕ) (s : List ℕ) → map zeroed (pads n ++ map byte s) ≡ replicate n 0 ++ s
padded_bytes n s = map-append zeroed (pads n) (map byte s) ∙ ap (λ (x : List ℕ). x ++ map zeroed (map byte s)) (zeros_bytes n) ∙ ap (λ (x : List ℕ). replicate n 0 ++ x) (value_bytes s)

padded_length : (n : ℕ) (s : List ℕ) → length (pads n ++ map byte s) ≡ n + length s
padded_length n s = length-append (pads n) (map byte s) ∙ ap (λ (x : ℕ). x + length (map byte s)) (length-replicate n pad) ∙ ap (λ (x : ℕ). n + x) (length-map s byte)

-- ---- where an item takes the pass

-- a state that a valid item leads to is sound
pub stays_sound : (at : code.Place) (op : Op) {s : State} {vs : List Value} {o : Output} → T (valid_op op) → wrote at op ≡ accepted (place s vs, o) → Sound s
stays_sound at op {s} {vs} {o} ok e = step_sound (place_of at) op (place s vs) o (step_of_lem (place_of at) op (place s vs, o) e) ok at.sound

-- ---- what it puts into a buffer
module _ {at : code.Place} {op : Op} (put : Bool) (d : List ℕ) (w : ℕ) where
  pub value_put : {n size next : ℕ} {bytes g : List ℕ} → Wrote at op n bytes size next → g ≡ cond put (paste d w (replicate n 0 ++ bytes) size) d → g ≡ cond put (put_at d w (wrote at op)) d
  value_put {n} {size} {next} {bytes} v e =
      let is = ap (put_at d w) v.is ∙ ap (λ (x : List ℕ). paste d w x (length (pads n ++ map byte bytes))) (padded_bytes n bytes) ∙ ap (paste d w (replicate n 0 ++ bytes)) (padded_length n bytes ∙ v.long) in
      e ∙ ap (λ (x : List ℕ). cond put x d) (sym is)

  pub zeros_put : {n : ℕ} {g : List ℕ} → WroteZeros at op n → g ≡ cond put (paste d w (replicate n 0) n) d → g ≡ cond put (put_at d w (wrote at op)) d
  zeros_put {n} v e =
      let is = ap (put_at d w) v.is ∙ ap (λ (x : List ℕ). paste d w x (length (pads n))) (zeros_bytes n) ∙ ap (paste d w (replicate n 0)) (length-replicate n pad) in
      e ∙ ap (λ (x : List ℕ). cond put x d) (sym is)

-- a buffer that what is put leaves as it is stays so, whether it is put or not
pub unchanged_put : (put : Bool) (d : List ℕ) (w : ℕ) (c : Checked (Place Value × Output)) → put_at d w c ≡ d → d ≡ cond put (put_at d w c) d
unchanged_put true d w c e = sym e
unchanged_put false d w c e = refl

-- an item that puts nothing
module _ (at : code.Place) (op : Op) (put : Bool) (d : List ℕ) (w : ℕ) where
  pub nothing_put : {s : Place Value} {n : ℕ} → wrote at op ≡ accepted (s, output [] [] n) → d ≡ cond put (put_at d w (wrote at op)) d
  nothing_put e = unchanged_put put d w (wrote at op) (ap (put_at d w) e ∙ sym (paste-zero d w []))
