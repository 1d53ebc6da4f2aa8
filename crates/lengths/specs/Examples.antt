-- Worked ranges, which hold by computation: pairs, the order of checks, what z and s count, alignment after texts, both sides of every boundary.
use Rattle.std.specs.Prelude.{ℕ, ◌-◌, ◌^◌, refl, List, [], ◌∷◌, ◌++◌}
use Prim.Native.String.{String}
use Rattle.definition.specs.Answers.{Checked, refused, accepted}
use Rattle.definition.specs.Bytes.{bytes, little, total}
use Rattle.definition.specs.Lists.{big}
use Rattle.definition.specs.Options.{entry_list, options}
use Rattle.definition.specs.Items.{digits, next_byte, taken, items_past, value, numeral_of}
use Rattle.definition.specs.Ops.{op_of}
use Rattle.definition.specs.States.{longer, alignment, padding}
use Rattle.definition.specs.Examples.{Same}
use Rattle.lengths.specs.Lengths.{range, extents, range_op, range_by, packsize_range}
use Rattle.lengths.specs.declared.Range.{Range}

-- the bytes of pairs, each a least and a greatest text length
abbrev pub pairs : List (ℕ × ℕ) → List ℕ
pairs [] = []
pairs (q ∷ qs) = big 2 q.0 ++ (big 2 q.1 ++ pairs qs)

-- a format with pairs gives a least and a greatest length, or a refusal
abbrev gives : String → List (ℕ × ℕ) → ℕ → ℕ → Checked Range × Checked Range
gives f qs a b = (packsize_range (bytes f) (pairs qs), accepted (range a b))

abbrev fails : String → List (ℕ × ℕ) → ℕ → Checked Range × Checked Range
fails f qs k = (packsize_range (bytes f) (pairs qs), refused k)

-- a format with bytes that may end within a pair
abbrev raw : String → List ℕ → Checked Range → Checked Range × Checked Range
raw f p c = (packsize_range (bytes f) p, c)

-- ---- "two bytes each, big-endian"; "a part of a pair gives 21", "pairs left over are ignored"
abbrev of_pairs : List (Checked Range × Checked Range)
of_pairs =
    raw "z" (1 ∷ 2 ∷ 3 ∷ 4 ∷ []) (accepted (range 259 773))
    ∷ raw "z" (255 ∷ 255 ∷ 255 ∷ 255 ∷ []) (accepted (range 65536 65536))
    ∷ raw "" [] (accepted (range 0 0))
    ∷ raw "" (0 ∷ []) (refused 21)
    ∷ raw "" (0 ∷ 0 ∷ []) (refused 21)
    ∷ raw "" (0 ∷ 0 ∷ 0 ∷ []) (refused 21)
    ∷ raw "b" (0 ∷ 0 ∷ 0 ∷ 0 ∷ 0 ∷ []) (refused 21)
    ∷ raw "z" (0 ∷ 0 ∷ 0 ∷ 0 ∷ 0 ∷ 0 ∷ 0 ∷ []) (refused 21)
    ∷ raw "q" (0 ∷ []) (refused 21)
    ∷ gives "b" ((0, 0) ∷ []) 1 1
    ∷ gives "b" ((5, 1) ∷ []) 1 1
    ∷ gives "z" ((0, 0) ∷ (5, 1) ∷ []) 1 1
    ∷ gives "zz" ((1, 2) ∷ (30, 40) ∷ []) 33 44
    ∷ gives "s1z" ((1, 2) ∷ (300, 400) ∷ []) 303 404
    ∷ []

-- ---- what each option counts: "Without z or s both lengths are packsize's."
abbrev of_options : List (Checked Range × Checked Range)
of_options =
    gives "z" ((0, 0) ∷ []) 1 1
    ∷ gives "z" ((3, 7) ∷ []) 4 8
    ∷ gives "s1" ((0, 255) ∷ []) 1 256
    ∷ gives "s2" ((0, 65535) ∷ []) 2 65537
    ∷ gives "s" ((1, 2) ∷ []) 9 10
    ∷ gives "s16" ((1, 2) ∷ []) 17 18
    ∷ gives "s3" ((0, 65535) ∷ []) 3 65538
    ∷ gives "c5" [] 5 5
    ∷ gives "xi3b" [] 5 5
    ∷ gives "<!4 b i" [] 8 8
    ∷ gives "!4bXi" [] 4 4
    -- nothing but z and s takes a pair
    ∷ gives " <bc3xXhz" ((1, 2) ∷ []) 7 8
    -- "s its length and padding", z none
    ∷ gives "!4bs4" ((0, 1) ∷ []) 8 9
    ∷ gives "!2bs4" ((0, 1) ∷ []) 6 7
    ∷ gives "!4bz" ((0, 1) ∷ []) 2 3
    ∷ gives "bs4" ((0, 1) ∷ []) 5 6
    -- an alignment after texts: each length has its own zeros
    ∷ gives "!4zi" ((0, 3) ∷ []) 8 8
    ∷ gives "!4zi" ((0, 4) ∷ []) 8 12
    ∷ gives "!4zi" ((3, 4) ∷ []) 8 12
    ∷ gives "!4zXi" ((3, 4) ∷ []) 4 8
    ∷ gives "!4zs4" ((1, 3) ∷ (2, 2) ∷ []) 10 10
    ∷ gives "!4zs4" ((1, 4) ∷ (2, 2) ∷ []) 10 14
    ∷ gives "!8zs4d" ((0, 8) ∷ (1, 6) ∷ []) 24 32
    -- the limit in force at each item, for both lengths
    ∷ gives "z!2hz!4i" ((0, 2) ∷ (1, 5) ∷ []) 12 16
    ∷ []

-- ---- the order of checks
abbrev of_checks : List (Checked Range × Checked Range)
of_checks =
    -- "The format checks are those of measuring without 10", at each item in turn
    fails "q" [] 1
    ∷ fails "i18446744073709551616" [] 2
    ∷ fails "i17" [] 3
    ∷ fails "s17" [] 3
    ∷ fails "!17" [] 4
    ∷ fails "!3" [] 5
    ∷ fails "!4i3" [] 6
    ∷ fails "Xs" [] 7
    ∷ fails "c" [] 8
    ∷ fails "bq" [] 1
    ∷ fails "zq" [] 11
    ∷ fails "qz" [] 1
    -- 6 before 11, 27 and 15
    ∷ fails "!4s3" [] 6
    ∷ fails "!4s3" ((2, 1) ∷ []) 6
    ∷ gives "!2s3" ((1, 2) ∷ []) 4 5
    -- "11 (no pair left)", of z and of s
    ∷ fails "z" [] 11
    ∷ fails "s1" [] 11
    ∷ fails "zz" ((0, 0) ∷ []) 11
    -- "27 a least above its greatest", at its item
    ∷ fails "z" ((1, 0) ∷ []) 27
    ∷ fails "z" ((256, 255) ∷ []) 27
    ∷ fails "s2" ((2, 1) ∷ []) 27
    ∷ fails "zz" ((0, 0) ∷ (1, 0) ∷ []) 27
    ∷ fails "zq" ((1, 0) ∷ []) 27
    ∷ fails "qz" ((1, 0) ∷ []) 1
    -- "then 15 a greatest that s cannot hold"
    ∷ fails "s1" ((0, 256) ∷ []) 15
    ∷ fails "s1" ((256, 256) ∷ []) 15
    ∷ fails "s1" ((257, 256) ∷ []) 27
    ∷ gives "z" ((256, 256) ∷ []) 257 257
    ∷ gives "s1" ((255, 255) ∷ []) 256 256
    -- "9 is tested on the greatest record length", at its item and last
    ∷ gives "c9223372036854775807" [] (2 ^ 63 - 1) (2 ^ 63 - 1)
    ∷ fails "c9223372036854775807b" [] 9
    ∷ fails "c9223372036854775807bq" [] 9
    ∷ fails "c9223372036854775807q" [] 1
    ∷ gives "c9223372036854775804z" ((0, 2) ∷ []) (2 ^ 63 - 3) (2 ^ 63 - 1)
    ∷ fails "c9223372036854775804z" ((0, 3) ∷ []) 9
    ∷ gives "c9223372036854775804s1" ((0, 2) ∷ []) (2 ^ 63 - 3) (2 ^ 63 - 1)
    ∷ fails "c9223372036854775804s1" ((0, 3) ∷ []) 9
    ∷ fails "c9223372036854775805!4s4" ((0, 0) ∷ []) 9
    ∷ fails "c9223372036854775803z!4Xi" ((2, 3) ∷ []) 9
    ∷ fails "c9223372036854775807z" [] 11
    ∷ fails "c9223372036854775807z" ((1, 0) ∷ []) 27
    ∷ fails "c9223372036854775807s1" ((0, 256) ∷ []) 15
    ∷ fails "c9223372036854775807s1" ((0, 255) ∷ []) 9
    ∷ fails "c18446744073709551615" [] 9
    ∷ []

pub record Examples : Type 0 where
  pub with_pairs : Same of_pairs
  pub with_options : Same of_options
  pub with_checks : Same of_checks

pub examples : Examples
unfolding little total entry_list options digits next_byte taken items_past value numeral_of op_of longer alignment padding extents range_op range_by packsize_range
examples =
    record {
      with_pairs = refl;
      with_options = refl;
      with_checks = refl;
    }
