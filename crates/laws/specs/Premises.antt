-- Why the claims have each of their premises: an input without it, at which the conclusion fails. And a format divided into parts, and a record with padding before the length of s.
use Rattle.std.specs.Prelude.{ℕ, ◌-◌, ◌^◌, ◌<◌, ◌≡◌, false, List, [], ◌∷◌, ℤ, pos, negsuc, length}
use Rattle.definition.specs.Answers.{refused, accepted}
use Rattle.definition.specs.Bytes.{bytes}
use Rattle.definition.specs.Values.{integer, float, text}
use Rattle.definition.specs.Lists.{list_of}
use Rattle.definition.specs.Items.{value}
use Rattle.definition.specs.States.{state, start, fill}
use Rattle.definition.specs.Program.{decimal}
use Rattle.definition.specs.Calls.{string_packsize, pack_continued, string_pack, string_unpack}
use Rattle.definition.specs.Kept.{written, kept_list}
use Rattle.laws.specs.Claims.{packed_bytes, Holds, Divides, Total, total_of, in_turn}
use Rattle.definition.specs.Profiles.{room}

abbrev pub one : ℤ → List ℕ
one z = list_of (integer z ∷ [])

abbrev pub two : ℤ → ℤ → List ℕ
two y z = list_of (integer y ∷ integer z ∷ [])

-- a float whose first byte is 256 more than that of 0.5: no list of bytes
abbrev pub wide : List ℕ
wide = 2 ∷ 0 ∷ 8 ∷ 319 ∷ 224 ∷ 0 ∷ 0 ∷ 0 ∷ 0 ∷ 0 ∷ 0 ∷ []

pub record Needed : Type 0 where
  -- "Writing accepts F with some values": `b` is refused without a value, and its size is not that of no bytes
  pub refused_writing : ((string_pack (bytes "b") [] (room 1)).answer ≡ refused 11) × (packed_bytes (bytes "b") [] ≡ []) × (string_packsize (bytes "b") ≡ accepted 1)
  -- bytes below 256: what is kept of `wide` is -1, and what is read is another integer
  pub no_bytes : (packed_bytes (bytes "<j") wide ≡ 0 ∷ 0 ∷ 0 ∷ 0 ∷ 0 ∷ 0 ∷ 224 ∷ 63 ∷ []) × (kept_list (bytes "<j") wide ≡ one (negsuc 0))
      × ((string_unpack (bytes "<j") (0 ∷ 0 ∷ 0 ∷ 0 ∷ 0 ∷ 0 ∷ 224 ∷ 63 ∷ []) (pos 1) (room 11)).buffer ≡ one (pos 0x3fe0_0000_0000_0000))
  -- "no c numeral is above 65,535": `c65536` writes 65,536 bytes, and reading refuses any
  pub long_chars : (length (packed_bytes (bytes "c65536") (list_of (text [] ∷ []))) ≡ 65536)
      × ((d : List ℕ) → length d ≡ 65536 → (string_unpack (bytes "c65536") d (pos 1) []).answer ≡ refused 20)
  -- "J took integers only": the bits of -0.5 are kept as a negative integer, which J refuses
  pub float_for_j : (string_pack (bytes "J") (kept_list (bytes "J") (list_of (float 0xbfe0_0000_0000_0000 ∷ []))) (room 8)).answer ≡ refused 13
  -- "at an offset that is a multiple of 16": `<!4i` writes 07 00 00 00, which is not read from offset 2
  pub no_multiple : (packed_bytes (bytes "<!4i") (one (pos 7)) ≡ 7 ∷ 0 ∷ 0 ∷ 0 ∷ []) × ((string_unpack (bytes "<!4i") (9 ∷ 9 ∷ 7 ∷ 0 ∷ 0 ∷ 0 ∷ []) (pos 3) (room 11)).answer ≡ refused 17)
  -- "holding B": of 08 00 00 00 another value is read
  pub not_held : (kept_list (bytes "<!4i") (one (pos 7)) ≡ one (pos 7)) × ((string_unpack (bytes "<!4i") (8 ∷ 0 ∷ 0 ∷ 0 ∷ []) (pos 1) (room 11)).buffer ≡ one (pos 8))
  -- "data of at most 2^63-1 bytes": longer data are refused
  pub long_data : (f d : List ℕ) (p : ℤ) (b : List ℕ) → 2 ^ 63 - 1 < length d → (string_unpack f d p b).answer ≡ refused 21
  -- "all buffers being long enough": a list buffer and a record buffer that are too short by one byte
  pub short_list : (string_unpack (bytes "b") (7 ∷ []) (pos 1) (room 10)).answer ≡ refused 22
  pub short_record : (string_pack (bytes "h") (one (pos 7)) (room 1)).answer ≡ refused 22
  -- `i1h` whole, with room, writes three bytes, uses two values and runs two items
  pub whole : total_of (pack_continued start (bytes "i1h") (two (pos 7) (pos 7)) (room 3)) ≡ accepted (record { next = state false 1 3; bytes = 7 ∷ 7 ∷ 0 ∷ []; used = 2; items = 2 })
  -- "no cut lies inside an item": a numeral's digit by itself is no option
  pub cut_inside : in_turn start (two (pos 7) (pos 7)) ((bytes "i", room 4) ∷ (bytes "1h", room 3) ∷ []) ≡ refused 1
  -- a part's buffer, and the whole's, that are not long enough
  pub short_part : in_turn start (two (pos 7) (pos 7)) ((bytes "i1", room 1) ∷ (bytes "h", room 1) ∷ []) ≡ refused 22
  pub short_whole : total_of (pack_continued start (bytes "i1h") (two (pos 7) (pos 7)) (room 2)) ≡ refused 22
  -- "The parts in demand 3 are one or more": no part looks at a malformed list, which the empty format refuses
  pub no_part : (in_turn start (4 ∷ []) [] ≡ accepted (record { next = start; bytes = []; used = 0; items = 0 })) × (total_of (pack_continued start [] (4 ∷ []) []) ≡ refused 21)
  -- of `Returned`, a state that was returned: another one may be refused by 21
  pub not_returned : (pack_continued (state false 3 0) [] [] []).answer ≡ refused 21
  -- of `Rooms`, no refusal but 22: with a byte more, `short_record` is accepted
  pub room_for_record : (string_pack (bytes "h") (one (pos 7)) (room 2)).answer ≡ accepted 2
  -- of `Decimals`, at most twenty digits: of 10^20, twenty zeros are printed
  pub digits_lost : value 0 (decimal (10 ^ 20)) ≡ 0
  -- of `Fills`, an alignment above 0: no number is below 0
  pub no_alignment : fill 0 0 < 0 → ⊥

-- ---- `<!4 b i` in three parts, the second empty: the third goes on from limit 4 and length 1, with the second value

abbrev pub p4 : Total
p4 = record { next = state false 4 8; bytes = 1 ∷ 0 ∷ 0 ∷ 0 ∷ 2 ∷ 0 ∷ 0 ∷ 0 ∷ []; used = 2; items = 4 }

pub record Divided : Type 0 where
  pub parts : Divides (bytes "<!4 b i") (bytes "<!4 b" ∷ [] ∷ bytes " i" ∷ [])
  pub whole : total_of (pack_continued start (bytes "<!4 b i") (two (pos 1) (pos 2)) (room 8)) ≡ accepted p4
  pub in_turn_row : in_turn start (two (pos 1) (pos 2)) ((bytes "<!4 b", room 1) ∷ ([], []) ∷ (bytes " i", room 7) ∷ []) ≡ accepted p4

-- ---- `<!4bs4` with 1 and "A": the three bytes before the length of s are padding, which may be any, and which the part that has the s puts

abbrev pub entry : List ℕ
entry = list_of (integer (pos 1) ∷ text (bytes "A") ∷ [])

pub record Prefixed : Type 0 where
  pub wrote : packed_bytes (bytes "<!4bs4") entry ≡ 1 ∷ 0 ∷ 0 ∷ 0 ∷ 1 ∷ 0 ∷ 0 ∷ 0 ∷ 0x41 ∷ []
  pub held : Holds (written (bytes "<!4bs4") entry).cells (1 ∷ 7 ∷ 8 ∷ 9 ∷ 1 ∷ 0 ∷ 0 ∷ 0 ∷ 0x41 ∷ [])
  pub back : (string_unpack (bytes "<!4bs4") (1 ∷ 7 ∷ 8 ∷ 9 ∷ 1 ∷ 0 ∷ 0 ∷ 0 ∷ 0x41 ∷ []) (pos 1) (room 15)).buffer ≡ entry
  pub in_turn_row : in_turn start entry ((bytes "<!4b", room 1) ∷ (bytes "s4", room 8) ∷ []) ≡ accepted (record { next = state false 4 9; bytes = packed_bytes (bytes "<!4bs4") entry; used = 2; items = 4 })
