-- Document 02, Five: "Record length before the name is known."
use Rattle.std.specs.Prelude.{ℕ, ◌+◌, ◌%◌, ◌^◌, Bool, true, List, leb, ltb, eqb, length, take, drop}
use Rattle.definition.specs.Answers.{Checked, accepted, ◌>>=◌, ◌>>◌, require, run_silent}
use Rattle.definition.specs.Options.{Table, options}
use Rattle.definition.specs.Ops.{ops}
use Rattle.definition.specs.Lists.{big_total}
use Rattle.definition.specs.States.{start, set, further, longer, natural, padding}
use Rattle.definition.specs.declared.State.{State}
use Rattle.definition.specs.declared.Field.{Field}
use Rattle.definition.specs.declared.Field.TheVariants.{Number, Chars, ZeroEnded, Counted}
use Rattle.definition.specs.declared.Op.{Op}
use Rattle.definition.specs.declared.Op.TheVariants.{Blank, Set, Pad, Put}
use Rattle.lengths.specs.declared.Range.{Range}

abbrev pub range : ℕ → ℕ → Range
range a b = record { least = a; greatest = b }

-- ---- "for each z or s in order, the least and greatest text length (two bytes each, big-endian ..)"

-- the pair that bytes begin with
abbrev pub pair_of : List ℕ → Range
pair_of p = range (big_total (take 2 p)) (big_total (take 2 (drop 2 p)))

-- "11 (no pair left): 27 a least above its greatest, then 15 a greatest that s cannot hold"
abbrev pub pair_for : (ℕ → Bool) → List ℕ → Checked Range
pair_for holds p = do
  require (leb 4 (length p)) 11
  require (leb (pair_of p).least (pair_of p).greatest) 27
  require (holds (pair_of p).greatest) 15
  accepted (pair_of p)

-- how many bytes a field has with the least and with the greatest text, and the pairs left
unfoldable pub extents : Field → List ℕ → Checked (Range × List ℕ)
extents (Number k n) p = accepted (range n n, p)
extents (Chars n) p = accepted (range n n, p)
extents ZeroEnded p = pair_for (λ m. true) p >>= λ q. accepted (range (q.least + 1) (q.greatest + 1), drop 4 p)
extents (Counted n) p = pair_for (λ m. ltb m (256 ^ n)) p >>= λ q. accepted (range (n + q.least) (n + q.greatest), drop 4 p)

-- ---- "give the least and greatest record length": the states that the least and the greatest texts lead to, and the pairs left
pub record Places : Type 0 where
  pub least : State
  pub greatest : State
  pub left : List ℕ

abbrev pub places : State → State → List ℕ → Places
places s t p = record { least = s; greatest = t; left = p }

-- the zeros before what has the natural alignment n: 6
abbrev pub paddings : Places → ℕ → Checked Range
paddings r n = do
  a ← padding r.least n
  b ← padding r.greatest n
  accepted (range a b)

-- z zeros and e bytes on: "9 is tested on the greatest record length"
abbrev pub onward : Places → Range → Range × List ℕ → Checked Places
onward r z e = do
  t ← longer r.greatest (z.greatest + e.0.greatest)
  accepted (places (further r.least (z.least + e.0.least)) t e.1)

-- "The format checks are those of measuring without 10."
unfoldable pub range_op : Places → Op → Checked Places
range_op r Blank = accepted r
range_op r (Set x) = accepted (places (set x r.least) (set x r.greatest) r.left)
range_op r (Pad n k) = paddings r n >>= λ z. onward r z (range k k, r.left)
range_op r (Put f) = paddings r (natural f) >>= λ z. extents f r.left >>= onward r z

-- the places after items
abbrev pub ranging : Places → List (Checked Op) → Checked Places
ranging r is = run_silent range_op r is

abbrev pub range_of : Places → Range
range_of r = range r.least.length r.greatest.length

-- of a format and the bytes of the pairs
unfoldable pub range_by : Table → List ℕ → List ℕ → Checked Range
range_by t f p = ranging (places start start p) (ops t f) >>= λ r. accepted (range_of r)

-- "a part of a pair gives 21"
unfoldable pub packsize_range : List ℕ → List ℕ → Checked Range
packsize_range f p = do
  require (eqb (length p % 4) 0) 21
  range_by options f p
