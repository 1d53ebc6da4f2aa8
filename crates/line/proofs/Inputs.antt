-- The first line of an input, when what follows it counts no more, and what is printed.
use Rattle.std.specs.Prelude.{Option, MatchOption, unwrap_or}
use Rattle.std.specs.List.{AllWithin, HoldsAt}
use Rattle.std.proofs.lemmas.Iterator.{index_from_first}
use Prim.Native.Nat.{ℕ, ◌+◌, ◌≤◌, ◌<◌}
use mathlib.Core.Path.{◌≡◌, refl, sym, ap, ◌∙◌}
use mathlib.Core.Bool.{Bool, true}
use mathlib.Core.List.{List, [], ◌∷◌, ◌++◌}
use native.Mathlib.Numerals.{add-one}
use native.Mathlib.Omega.{arith}
use lib.Dec.{ltb, eqb}
use lib.ListN.{length, take}
use borrow.Table.Steps.{cases}
use borrow.Author.Tests.{lt-leb, le-leb, ltb-true, ltb-false, ne_eqb}
use Rattle.definition.specs.Answers.{Checked, refused}
use Rattle.definition.specs.Calls.{string_packsize}
use Rattle.definition.specs.Program.{first_line, line, printed}
use Rattle.line.specs.Lines.{settled, Stands}

-- ---- the first line by its length, which is the place of the first line feed
abbrev line_length : List ℕ → ℕ
line_length s = length (first_line s)

line_feed : (b : ℕ) (s : List ℕ) → b ≡ 10 → line_length (b ∷ s) ≡ 0
unfolding first_line
line_feed b s e = rw e

line_more : (b : ℕ) (s : List ℕ) → (b ≡ 10 → ⊥) → line_length (b ∷ s) ≡ line_length s + 1
unfolding first_line
line_more b s n = rw (ne_eqb b 10 n, add-one)

line_none : line_length [] ≡ 0
unfolding first_line
line_none = refl

line_take : (s : List ℕ) → take (line_length s) s ≡ first_line s
unfolding first_line
line_take [] = refl
line_take (b ∷ s) = cases (eqb b 10) (λ q. rw q) (λ q. rw (q, line_take s))

pub line_at : (s : List ℕ) (r : Option ℕ) → MatchOption r (AllWithin (λ b. b ≡ 10 → ⊥) s 0 (length s)) (λ i. (i < length s) × HoldsAt (λ b. b ≡ 10) s i × AllWithin (λ b. b ≡ 10 → ⊥) s 0 i)
    → take (unwrap_or r (length s)) s ≡ first_line s
line_at s r h = ap (λ (n : ℕ). take n s) (sym (index_from_first line_length (λ b. b ≡ 10) (λ b. b ≡ 10 → ⊥) line_none line_feed line_more s r h)) ∙ line_take s

-- ---- "up to a line feed or the end (over 4,096 bytes: 22)": when what follows an input cannot change its answer
-- a line that is complete stays as it is
line_complete : (s t : List ℕ) → length (first_line s) < length s → first_line (s ++ t) ≡ first_line s
unfolding first_line
line_complete [] t h = absurd (omega arith)
line_complete (b ∷ s) t h = cases (eqb b 10) (λ q. rw q) (λ q. let k = rw q at h in rw (q, line_complete s t (omega arith)))

-- and none becomes shorter
line_grows : (s t : List ℕ) → length (first_line s) ≤ length (first_line (s ++ t))
unfolding first_line
line_grows [] t = omega arith
line_grows (b ∷ s) t = cases (eqb b 10) (λ q. rw q (omega arith)) (λ q. rw q (omega (arith, line_grows s t)))

-- ---- what is printed, l being the first line
pub printed_long : (s l : List ℕ) → l ≡ first_line s → 4096 < length l → line (refused 22) ≡ printed s
unfolding printed
printed_long s l e h = rw (← e, lt-leb (length l) 4096 h)

pub printed_short : (s l : List ℕ) (c : Checked ℕ) → l ≡ first_line s → length l ≤ 4096 → c ≡ string_packsize l → line c ≡ printed s
unfolding printed
printed_short s l c e h q = rw (← e, le-leb (length l) 4096 h, q)

printed_line : (s t : List ℕ) → first_line s ≡ first_line t → printed s ≡ printed t
unfolding printed
printed_line s t e = rw e

-- the two tests of is_settled
pub settled_long : (s l : List ℕ) → l ≡ first_line s → 4096 < length l → ltb 4096 (length l) ≡ true → Stands s
settled_long s l e h q t =
    let more : 4096 < length (first_line (s ++ t)) = omega (arith, line_grows s t, ap length e) in
    sym (printed_long (s ++ t) (first_line (s ++ t)) refl more) ∙ printed_long s l e h

pub settled_short : (s l : List ℕ) → l ≡ first_line s → length l ≤ 4096 → ltb (length l) (length s) ≡ true → Stands s
settled_short s l e h q t = printed_line (s ++ t) s (line_complete s t (ltb-true (length (first_line s)) (length s) (rw e at q)))

-- what the two tests tell together
told : (s : List ℕ) (r : Bool) → r ≡ settled s → r ≡ true → Stands s
told s r q t =
    let n = length (first_line s) in
    cases (ltb 4096 n) (λ long. settled_long s (first_line s) refl (ltb-true 4096 n long) long)
    (λ short. settled_short s (first_line s) refl (ltb-false 4096 n short) (rw short at (sym q ∙ t)))
