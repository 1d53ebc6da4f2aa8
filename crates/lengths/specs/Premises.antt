-- Why the claim has each of its premises: an input without it, at which the conclusion fails.
use Rattle.std.specs.Prelude.{ℕ, ◌≡◌, true, List, [], ◌∷◌, ◌++◌}
use Rattle.definition.specs.Answers.{refused, accepted}
use Rattle.definition.specs.Bytes.{bytes}
use Rattle.definition.specs.Values.{text}
use Rattle.definition.specs.Lists.{list_of}
use Rattle.definition.specs.Options.{options}
use Rattle.definition.specs.Ops.{ops}
use Rattle.definition.specs.Calls.{string_packsize, string_pack}
use Rattle.definition.specs.Profiles.{room}
use Rattle.laws.specs.Claims.{has_open}
use Rattle.lengths.specs.Lengths.{range, packsize_range}
use Rattle.lengths.specs.Claims.{Reached}
use Rattle.lengths.specs.declared.Range.{Range}

-- a pair of two lengths of 65,536, which no two bytes say
abbrev pub wide : List ℕ
wide = 0 ∷ 65536 ∷ 0 ∷ 65536 ∷ []

pub record Needed : Type 0 where
  -- of `least` and `greatest`, bytes: no value list of bytes has a text of 65,536
  pub no_bytes : (packsize_range (bytes "z") wide ≡ accepted (range 65537 65537)) × ((pick : Range → ℕ) → Reached pick (bytes "z") wide 65537 → ⊥)
  -- of `between`, texts within the pairs: "AB" has two bytes, and with its zero the record has three
  pub outside : (packsize_range (bytes "z") (0 ∷ 0 ∷ 0 ∷ 1 ∷ []) ≡ accepted (range 1 2)) × ((string_pack (bytes "z") (list_of (text (bytes "AB") ∷ [])) (room 3)).answer ≡ accepted 3)
  -- of `all_least` and `all_greatest`, texts of just these lengths: "A" lies between, and its record has two bytes
  pub neither : (packsize_range (bytes "z") (0 ∷ 0 ∷ 0 ∷ 2 ∷ []) ≡ accepted (range 1 3)) × ((string_pack (bytes "z") (list_of (text (bytes "A") ∷ [])) (room 2)).answer ≡ accepted 2)
  -- of `fixed`, whole pairs, and a format without z and s
  pub part : (string_packsize (bytes "b") ≡ accepted 1) × (packsize_range (bytes "b") (0 ∷ []) ≡ refused 21)
  pub open_size : (has_open (ops options (bytes "z")) ≡ true) × (string_packsize (bytes "z") ≡ refused 10) × (packsize_range (bytes "z") (0 ∷ 0 ∷ 0 ∷ 0 ∷ []) ≡ accepted (range 1 1))
  -- of `over`, whole pairs, and a call that is accepted: without a pair of its own the format takes the first of those behind
  pub behind : (packsize_range (bytes "b") [] ≡ accepted (range 1 1)) × (packsize_range (bytes "b") ([] ++ (0 ∷ [])) ≡ refused 21)
  pub taken : (packsize_range (bytes "z") [] ≡ refused 11) × (packsize_range (bytes "z") ([] ++ (0 ∷ 0 ∷ 0 ∷ 0 ∷ [])) ≡ accepted (range 1 1))
