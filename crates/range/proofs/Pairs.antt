-- The first pair, check by check: its least is above its greatest, its greatest is too long, or it is taken.
use Rattle.std.proofs.Common.{slice_index_or}
use Prim.Native.Nat.{ℕ, ◌+◌, ◌-◌, ◌*◌, ◌≤◌, ◌<◌}
use native.Mathlib.Nat.{add_comm}
use native.Mathlib.Omega.{arith}
use mathlib.Core.Path.{◌≡◌, refl}
use mathlib.Core.Bool.{Bool, true, false}
use mathlib.Core.List.{List, [], ◌∷◌}
use lib.Dec.{leb}
use lib.ListN.{length, take, drop, length-drop}
use lib.Seq.{take_all}
use borrow.Author.Tests.{le-leb, lt-leb}
use Rattle.definition.specs.Answers.{Checked, refused, accepted, ◌>>=◌}
use Rattle.definition.specs.Bytes.{total}
use Rattle.definition.specs.Lists.{big_total}
use Rattle.definition.specs.declared.Field.TheVariants.{ZeroEnded}
use Rattle.lengths.specs.Lengths.{range, pair_for, extents}
use Rattle.lengths.specs.declared.Range.{Range}
use Rattle.range.specs.Extents.{text_extents}

-- the lengths a and b stand there
pub record Pair (p : List ℕ) (a b : ℕ) : Type 0 where
  pub there : leb 4 (length p) ≡ true
  pub least : big_total (take 2 p) ≡ a
  pub greatest : big_total (take 2 (drop 2 p)) ≡ b
  pub below : b < 65536

-- the two bytes from i on, as a length
abbrev pub word_at : List ℕ → ℕ → ℕ
word_at p i = slice_index_or p i 0 * 256 + slice_index_or p (i + 1) 0

pub pair : (p : List ℕ) {a b : ℕ} → 4 ≤ length p → a ≡ word_at p 0 → b ≡ word_at p 2 → b < 65536 → Pair p a b
unfolding total
pair [] h x y l = absurd (omega arith)
pair (a ∷ []) h x y l = absurd (omega arith)
pair (a ∷ b ∷ []) h x y l = absurd (omega arith)
pair (a ∷ b ∷ c ∷ []) h x y l = absurd (omega arith)
pair (a ∷ b ∷ c ∷ d ∷ p) h x y l = record { there = le-leb 4 (length (a ∷ b ∷ c ∷ d ∷ p)) h; least = omega (arith, x); greatest = omega (arith, y); below = l }

module _ {p : List ℕ} {a b : ℕ} (q : Pair p a b) (k : ℕ) (holds : ℕ → Bool) where
  pub falls : b < a → refused 27 ≡ text_extents holds k p
  falls h = rw (q.there, q.least, q.greatest, lt-leb a b h)

  pub too_long : a ≤ b → holds b ≡ false → refused 15 ≡ text_extents holds k p
  too_long h e = rw (q.there, q.least, q.greatest, le-leb a b h, e)

  -- what is left, as it is lent
  pub taken : a ≤ b → holds b ≡ true → accepted (range (k + a) (k + b), take (length p - 4) (drop 4 p)) ≡ text_extents holds k p
  taken h e = rw (q.there, q.least, q.greatest, le-leb a b h, e, take_all (length p - 4) (drop 4 p) (omega (arith, length-drop 4 p)))

-- the zero behind the text of z
pub with_zero : (p : List ℕ) → text_extents (λ m. true) 1 p ≡ extents ZeroEnded p
unfolding extents
with_zero p = go (pair_for (λ m. true) p)
  where
    go : (c : Checked Range) → ◌>>=◌ {B = Range × List ℕ} c (λ q. accepted (range (1 + q.least) (1 + q.greatest), drop 4 p)) ≡ (c >>= λ q. accepted (range (q.least + 1) (q.greatest + 1), drop 4 p))
    go (refused k) = refl
    go (accepted q) = rw (add_comm 1 q.least, add_comm 1 q.greatest)
