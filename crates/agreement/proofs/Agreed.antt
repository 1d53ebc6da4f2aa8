-- What demand 3 says of the answers that the calls give one after the other: f and l were written into b, which is `after` then, and n bytes long.
use Prim.Native.Nat.{ℕ, ◌+◌, ◌-◌, ◌^◌, ◌≤◌}
use native.Mathlib.Nat.{zero-add}
use native.Mathlib.Omega.{arith}
use mathlib.Core.Path.{◌≡◌, refl, sym, ap, ◌∙◌, subst}
use mathlib.Core.Bool.{Bool, true, false, cond}
use mathlib.Core.List.{List, [], ◌∷◌, ◌++◌, map}
use lib.Dec.{eqb}
use lib.IntN.{pos}
use lib.ListN.{length, drop, length-append}
use borrow.Author.Rules.{rules}
use borrow.Author.Tests.{eqb-true, eqb-false}
use Rattle.std.specs.Prelude.{Result, Ok, Err}
use Rattle.definition.specs.Answers.{refused, accepted}
use Rattle.definition.specs.Options.{options}
use Rattle.definition.specs.Ops.{ops}
use Rattle.definition.specs.Writing.{Cell, pad, byte, zeroed}
use Rattle.definition.specs.Reading.{offset, position_of}
use Rattle.definition.specs.Calls.{Call, call, string_packsize, string_pack, string_unpack}
use Rattle.definition.specs.Kept.{written, kept_list}
use Rattle.definition.specs.Refusals.{refusal_number, answer_of}
use Rattle.definition.specs.declared.Refusal.{Refusal}
use Rattle.laws.specs.Claims.{LongEnough, gives, packed_bytes, Holds, has_open, Readable, Agreement}
use Rattle.definition.specs.declared.Unpacked.{Unpacked}
use Rattle.laws.proofs.Answers.{never, same, same_number}
use Rattle.laws.proofs.Demand.{demand}

-- a size, or 10, as the format has z or s
size : (z : Bool) (m n : ℕ) → accepted m ≡ cond z (refused 10) (accepted n) → m ≡ n
size true m n e = absurd (never (sym e))
size false m n e = same e

ten : (z : Bool) (r : Refusal) (n : ℕ) → refused (refusal_number r) ≡ cond z (refused 10) (accepted n) → r ≡ Refusal.NoFixedSize
ten true r n e = let i : refusal_number r ≡ 10 = same_number e in search rules
ten false r n e = absurd (never e)

-- a record's bytes hold it, with zeros for its padding
holds_zeroed : (c : List Cell) → Holds c (map zeroed c)
holds_zeroed [] = tt
holds_zeroed (pad ∷ c) = holds_zeroed c
holds_zeroed (byte y ∷ c) = (refl, holds_zeroed c)

-- a call that is accepted with every buffer that is long enough is refused by 22 only
only_22 : {A : Type 0} (c : Call A) (a : A) (s d : List ℕ) (k : ℕ) → (LongEnough c.answer → c ≡ gives a s d) → c.answer ≡ refused k → k ≡ 22
only_22 c a s d k h e = go (eqb k 22) refl
  where
    go : (t : Bool) → eqb k 22 ≡ t → k ≡ 22
    go true i = eqb-true k 22 i
    go false i = absurd (never (sym e ∙ ap (λ (x : Call _). x.answer) (h (λ j. eqb-false k 22 i (same_number (sym e ∙ j))))))

module _ (f l b after : List ℕ) (r : Result ℕ Refusal) (n : ℕ) (i : r ≡ Ok n) (e : call (answer_of r) after ≡ string_pack f l b) where
  wrote : string_pack f l b ≡ call (accepted n) after
  wrote = sym e ∙ ap (λ (x : Result ℕ Refusal). call (answer_of x) after) i

  agreed : Agreement f l b
  agreed = demand.agreement f l b n (ap (λ (c : Call ℕ). c.answer) wrote)

  length_is : length (packed_bytes f l) ≡ n
  length_is = same (ap (λ (c : Call ℕ). c.answer) (sym agreed.wrote ∙ wrote))

  measured : string_packsize f ≡ cond (has_open (ops options f)) (refused 10) (accepted n)
  measured = agreed.size ∙ ap (λ (m : ℕ). cond (has_open (ops options f)) (refused 10) (accepted m)) length_is

  pub size_is : (m : Result ℕ Refusal) (s : ℕ) → m ≡ Ok s → answer_of m ≡ string_packsize f → s ≡ n
  size_is m s j d = size (has_open (ops options f)) s n (ap answer_of (sym j) ∙ d ∙ measured)

  pub ten_is : (m : Result ℕ Refusal) (k : Refusal) → m ≡ Err k → answer_of m ≡ string_packsize f → k ≡ Refusal.NoFixedSize
  ten_is m k j d = ten (has_open (ops options f)) k n (ap answer_of (sym j) ∙ d ∙ measured)

  after_is : after ≡ packed_bytes f l ++ drop (length (packed_bytes f l)) b
  after_is = ap (λ (c : Call ℕ). c.buffer) (sym wrote ∙ agreed.wrote)

  pub within : n ≤ length after
  within = omega (arith, length_is, ap length after_is, length-append (packed_bytes f l) (drop (length (packed_bytes f l)) b))

  -- what reading answers
  abbrev read_all : Unpacked
  read_all = record { length = length (kept_list f l); next = position_of (offset n) }

  back : Readable f l → (d : List ℕ) → length after ≤ 2 ^ 63 - 1 → LongEnough (string_unpack f after (pos 1) d).answer
      → string_unpack f after (pos 1) d ≡ gives read_all (kept_list f l) d
  back g d = subst
      (λ (x : List ℕ). length x ≤ 2 ^ 63 - 1 → LongEnough (string_unpack f x (pos 1) d).answer → string_unpack f x (pos 1) d ≡ gives read_all (kept_list f l) d)
      (sym after_is)
      (λ short long. agreed.back g [] (packed_bytes f l) (drop (length (packed_bytes f l)) b) d refl (holds_zeroed (written f l).cells) short long
      ∙ ap (λ (m : ℕ). gives (record { length = length (kept_list f l); next = position_of (offset m) }) (kept_list f l) d) (zero-add (length (packed_bytes f l)) ∙ length_is))

  module _ (g : Readable f l) (short : length after ≤ 2 ^ 63 - 1) (d kept : List ℕ) (u : Result Unpacked Refusal) (q : call (answer_of u) kept ≡ string_unpack f after (pos 1) d) where
    answered : {v : Result Unpacked Refusal} → u ≡ v → (string_unpack f after (pos 1) d).answer ≡ answer_of v
    answered j = ap (λ (c : Call Unpacked). c.answer) (sym q ∙ ap (λ (x : Result Unpacked Refusal). call (answer_of x) kept) j)

    pub refused_is : (k : Refusal) → u ≡ Err k → k ≡ Refusal.ResultTooLong
    refused_is k j =
        let i : refusal_number k ≡ 22 = only_22 (string_unpack f after (pos 1) d) read_all (kept_list f l) d (refusal_number k) (back g d short) (answered j) in
        search rules

    pub next_is : (v : Unpacked) → u ≡ Ok v → v.next.0 ≡ n + 1
    next_is v j =
        let is = answered j in
        ap (λ (x : Unpacked). x.next.0) (same (sym is ∙ ap (λ (c : Call Unpacked). c.answer) (back g d short (λ w. never (sym w ∙ is)))))
