-- What P1 to P14 and the tables of Entries leave out: traps, the order of checks, both sides of every boundary. A table for each subject; its answers are the documents', and it holds by computation, of long texts by laws.
use Rattle.std.specs.Prelude.{ℕ, zero, suc, ◌+◌, ◌-◌, ◌^◌, ◌≤◌, ◌<◌, ◌≡◌, refl, true, false, List, [], ◌∷◌, ◌++◌, map, pos, negsuc, length, replicate}
use Rattle.std.proofs.Common.{arith, length-take-le, le-leb}
use Rattle.std.proofs.lemmas.List.{length-replicate}
use Rattle.std.proofs.lemmas.Bool.{lt-leb}
use Rattle.std.specs.Float.Ieee.{of_bits, to_bits, of_int, of_fields, odd, round, nan_bits, size, span, climb, units}
use Rattle.std.specs.Int.Count.{count_trailing_zeros}
use Rattle.single.specs.Single.{to_single, from_single}
use Rattle.definition.specs.Answers.{Checked, refused, accepted}
use Rattle.definition.specs.Bytes.{bytes, little, total, signed, laid}
use Rattle.definition.specs.Values.{Value, float, text, other}
use Rattle.definition.specs.Lists.{list_of, field_of, values_past, fields_after, offset_after}
use Rattle.definition.specs.Options.{entry_list, options}
use Rattle.definition.specs.Items.{digits, next_byte, taken, items_past, value, numeral_of}
use Rattle.definition.specs.Ops.{op_of}
use Rattle.definition.specs.States.{state, start, longer, alignment, fill, padding}
use Rattle.definition.specs.Fields.{word, encode, short, up_to_zero, number, decode, kept}
use Rattle.definition.specs.Measuring.{measure_op, measure}
use Rattle.definition.specs.Writing.{Cell, pad, byte, write_field, write_op}
use Rattle.definition.specs.Reading.{Read, offset, position_of, read_field, read_op, read}
use Rattle.definition.specs.Bound.{bound_op, bound}
use Rattle.definition.specs.Program.{first_line, decimal_in, printed}
use Rattle.definition.specs.Calls.{Call, call, list_bound, pack, pack_continued, string_pack, unpack, string_unpack}
use Rattle.definition.specs.Profiles.{packs, continues, sizes, bounds, keeps, prints, data_number, data_values, data_continued, room, Row, pack_gives, pack_refused, size_gives, size_refused, read_gives, read_refused, Hold, int, neg, str}
use Rattle.definition.specs.Entries.{written}
use Rattle.definition.specs.Kept as Kept
use Rattle.definition.specs.declared.Field.{Field}
use Rattle.definition.specs.declared.Field.TheVariants.{Number, Chars, ZeroEnded, Counted}
use Rattle.definition.specs.declared.Kind.TheVariants.{SmallSigned, Signed, Unsigned, LuaInteger, LuaUnsigned, Size}
use Rattle.definition.specs.declared.Position.{Position}
use Rattle.definition.specs.declared.Unpacked.{Unpacked}

-- ---- formats

-- zeros alone are a numeral; 2 comes before 3 and 4, 3 before 6, 4 before 5
abbrev numerals : List Row
numerals =
    size_gives "c000" 0
    ∷ size_gives "c0000000000000000000000000000012" 12
    ∷ size_gives "i012i10" 22
    ∷ size_refused "i000" 3
    ∷ size_refused "Xi00" 3
    ∷ size_refused "!000" 4
    ∷ size_refused "!18" 4
    ∷ size_refused "!4i17" 3
    ∷ size_refused "!2Xi17" 3
    ∷ size_refused "i18446744073709551615" 3
    ∷ size_refused "i18446744073709551616" 2
    ∷ size_refused "s18446744073709551616" 2
    ∷ size_refused "!18446744073709551615" 4
    ∷ size_refused "!18446744073709551616" 2
    ∷ size_refused "c18446744073709551615" 9
    ∷ size_refused "c18446744073709551616" 2
    ∷ size_refused "c99999999999999999999999999999" 2
    ∷ size_refused "i 4" 1
    ∷ size_refused "cq" 8
    ∷ size_refused "qc" 1
    ∷ []

-- X takes the next byte whatever it is; 7 comes first, then 1, 2, 3, 6, 9
abbrev aligning : List Row
aligning =
    size_gives "X5X\0X\u{b}X\u{c}X\u{7f}Xq" 0
    ∷ size_refused "X55" 1
    ∷ size_refused "X" 7
    ∷ size_refused "X!99999999999999999999" 7
    ∷ size_refused "Xs99999999999999999999" 7
    ∷ size_gives "Xf99999999999999999999999" 0
    ∷ size_refused "Xi18446744073709551615" 3
    ∷ size_refused "Xi18446744073709551616" 2
    ∷ size_refused "X i" 7
    ∷ (sizes (0x58 ∷ 0x80 ∷ bytes "18446744073709551616"), refused 1)
    -- 6: below the limit and no power of two; before 9
    ∷ size_gives "!8i12" 12
    ∷ size_gives "!8xi12" 20
    ∷ size_refused "!16i9" 6
    ∷ size_refused "!16Xi9" 6
    ∷ size_refused "c9223372036854775807!4i3" 6
    -- c and x don't align, nor do b and B
    ∷ size_gives "!4bc2" 3
    ∷ size_gives "!4xxbB" 4
    -- a place that is a multiple is not filled up
    ∷ size_gives "!4ibi" 12
    ∷ size_gives "!4iXi" 4
    ∷ []

-- the fill of an alignment, an offset being a multiple of it or not: also where the alignment is no power of two or the offset above 2^63-1
abbrev fills : List (ℕ × ℕ)
fills =
    (fill 1 7, 0)
    ∷ (fill 2 0, 0)
    ∷ (fill 2 1, 1)
    ∷ (fill 8 8, 0)
    ∷ (fill 8 9, 7)
    ∷ (fill 8 15, 1)
    ∷ (fill 16 17, 15)
    ∷ (fill 16 24, 8)
    ∷ (fill 3 7, 2)
    ∷ (fill 16 (2 ^ 63 + 1), 15)
    ∷ (fill 8 (2 ^ 64 - 1), 1)
    ∷ []

-- lengths up to 2^63-1; padding counts
abbrev measures : List Row
measures =
    size_gives "bhijx" 16
    ∷ size_gives "bi" 5
    ∷ size_gives "c9223372036854775807 <" (2 ^ 63 - 1)
    ∷ size_gives "c9223372036854775806x" (2 ^ 63 - 1)
    ∷ size_gives "c9223372036854775803i" (2 ^ 63 - 1)
    ∷ size_gives "c9223372036854775806!2Xh" (2 ^ 63 - 2)
    ∷ size_gives "c9223372036854775807c0" (2 ^ 63 - 1)
    ∷ size_refused "c9223372036854775807x" 9
    ∷ size_refused "c9223372036854775804i" 9
    ∷ size_refused "c9223372036854775807!2Xh" 9
    ∷ size_refused "c9223372036854775805!2h" 9
    -- z and s: left to right, 10 after 2 and 3
    ∷ size_refused "zq" 10
    ∷ size_refused "qz" 1
    ∷ size_refused "c9223372036854775807xz" 9
    ∷ size_refused "sc9223372036854775808" 10
    ∷ []

-- the list bound: the checks of measuring except 10, and 9 on its sum only
abbrev list_bounds : List Row
list_bounds =
    (bounds (bytes "c18446744073709551615") 0, accepted (data_number 65538))
    ∷ (bounds (bytes "c65536") 0, accepted (data_number 65538))
    ∷ (bounds (bytes "c65535") 0, accepted (data_number 65538))
    ∷ (bounds (bytes "c65534") 0, accepted (data_number 65537))
    ∷ (bounds (bytes "z") 65536, accepted (data_number 65538))
    ∷ (bounds (bytes "z") 65534, accepted (data_number 65537))
    ∷ (bounds (bytes "s") 65536, accepted (data_number 65538))
    ∷ (bounds (bytes "s1") 65534, accepted (data_number 65537))
    ∷ (bounds (bytes "!4bzs2dxXi") 5, accepted (data_number 38))
    ∷ (bounds (bytes "z") (2 ^ 63 - 1), accepted (data_number 65538))
    ∷ (bounds (bytes "q") (2 ^ 63), refused 21)
    ∷ (bounds (bytes "!4i3") 0, refused 6)
    ∷ (bounds (bytes "!4Xi3") 0, refused 6)
    ∷ (bounds (bytes "!4c3") 0, accepted (data_number 6))
    ∷ (bounds (bytes "s17") 0, refused 3)
    ∷ (bounds (bytes "zq") 0, refused 1)
    ∷ []

-- a setting leaves the others alone
abbrev settings : List Row
settings =
    pack_gives ">!4bh" (int 1 ∷ int 258 ∷ []) (1 ∷ 0 ∷ 1 ∷ 2 ∷ [])
    ∷ pack_gives "!4>bh" (int 1 ∷ int 258 ∷ []) (1 ∷ 0 ∷ 1 ∷ 2 ∷ [])
    ∷ pack_gives "!4>b=h" (int 1 ∷ int 258 ∷ []) (1 ∷ 0 ∷ 2 ∷ 1 ∷ [])
    ∷ pack_gives "!4!2bi" (int 1 ∷ int 2 ∷ []) (1 ∷ 0 ∷ 2 ∷ 0 ∷ 0 ∷ 0 ∷ [])
    ∷ (continues (state true 4 5) [] [] 0, accepted (data_continued [] 0 0 (state true 4 5)))
    ∷ (continues (state true 4 5) (bytes "<") [] 0, accepted (data_continued [] 0 1 (state false 4 5)))
    ∷ (continues (state true 4 5) (bytes "=") [] 0, accepted (data_continued [] 0 1 (state false 4 5)))
    ∷ (continues (state false 4 5) (bytes ">") [] 0, accepted (data_continued [] 0 1 (state true 4 5)))
    ∷ (continues (state true 4 5) (bytes "!") [] 0, accepted (data_continued [] 0 1 (state true 8 5)))
    ∷ (continues (state true 4 5) (bytes "!16") [] 0, accepted (data_continued [] 0 1 (state true 16 5)))
    ∷ (continues (state true 4 5) (bytes " \t\n\r") [] 0, accepted (data_continued [] 0 0 (state true 4 5)))
    ∷ (continues (state true 4 5) (bytes "x") [] 1, accepted (data_continued (0 ∷ []) 0 1 (state true 4 6)))
    ∷ (continues (state true 4 5) (bytes "Xi") [] 3, accepted (data_continued (0 ∷ 0 ∷ 0 ∷ []) 0 1 (state true 4 8)))
    ∷ (continues (state true 4 5) (bytes "h") (list_of (int 258 ∷ [])) 3, accepted (data_continued (0 ∷ 1 ∷ 2 ∷ []) 1 1 (state true 4 8)))
    ∷ (continues (state true 4 5) (bytes "c1zs1") (list_of (str "A" ∷ str "B" ∷ str "C" ∷ [])) 5, accepted (data_continued (0x41 ∷ 0x42 ∷ 0 ∷ 1 ∷ 0x43 ∷ []) 3 3 (state true 4 10)))
    ∷ []

-- ---- writing

-- integers: both ends of every range; b B h H j T have none
abbrev integers : List Row
integers =
    pack_gives "bbbB" (int 128 ∷ neg 128 ∷ int 256 ∷ int 456 ∷ []) (0x80 ∷ 0x7f ∷ 0 ∷ 0xc8 ∷ [])
    ∷ pack_gives "hH" (int 65794 ∷ int 40000 ∷ []) (2 ∷ 1 ∷ 0x40 ∷ 0x9c ∷ [])
    ∷ pack_gives ">hH" (neg 1 ∷ neg 1 ∷ []) (0xff ∷ 0xfe ∷ 0xff ∷ 0xfe ∷ [])
    ∷ pack_gives "i1i1" (int 127 ∷ neg 127 ∷ []) (0x7f ∷ 0x80 ∷ [])
    ∷ pack_refused "i1" (int 128 ∷ []) 13
    ∷ pack_refused "i1" (neg 128 ∷ []) 13
    ∷ pack_gives "l2l2" (int 32767 ∷ neg 32767 ∷ []) (0xff ∷ 0x7f ∷ 0 ∷ 0x80 ∷ [])
    ∷ pack_refused "l2" (int 32768 ∷ []) 13
    ∷ pack_refused "l2" (neg 32768 ∷ []) 13
    ∷ pack_gives ">i7i7" (int (2 ^ 55 - 1) ∷ neg (2 ^ 55 - 1) ∷ []) (0x7f ∷ (replicate 6 0xff ++ (0x80 ∷ replicate 6 0)))
    ∷ pack_refused "i7" (int (2 ^ 55) ∷ []) 13
    ∷ pack_refused "i7" (neg (2 ^ 55) ∷ []) 13
    ∷ pack_gives ">i8i8" (int (2 ^ 63 - 1) ∷ neg (2 ^ 63 - 1) ∷ []) (0x7f ∷ (replicate 7 0xff ++ (0x80 ∷ replicate 7 0)))
    ∷ pack_gives ">i9i9" (int (2 ^ 63 - 1) ∷ neg (2 ^ 63 - 1) ∷ []) (0 ∷ 0x7f ∷ (replicate 7 0xff ++ (0xff ∷ 0x80 ∷ replicate 7 0)))
    ∷ pack_gives "I1L2" (int 255 ∷ int 65535 ∷ []) (replicate 3 0xff)
    ∷ pack_refused "I1" (int 256 ∷ []) 13
    ∷ pack_refused "L2" (int 65536 ∷ []) 13
    ∷ pack_refused "I1" (neg 0 ∷ []) 13
    ∷ pack_gives "I7" (int (2 ^ 56 - 1) ∷ []) (replicate 7 0xff)
    ∷ pack_refused "I7" (int (2 ^ 56) ∷ []) 13
    ∷ pack_gives ">I8" (int (2 ^ 63 - 1) ∷ []) (0x7f ∷ replicate 7 0xff)
    ∷ pack_refused "I8" (neg 0 ∷ []) 13
    ∷ pack_refused "I16" (neg 0 ∷ []) 13
    ∷ pack_gives ">I16" (int 258 ∷ []) (replicate 14 0 ++ (1 ∷ 2 ∷ []))
    ∷ pack_gives ">JJ" (int 0 ∷ int (2 ^ 63 - 1) ∷ []) (replicate 8 0 ++ (0x7f ∷ replicate 7 0xff))
    ∷ pack_refused "J" (neg 0 ∷ []) 13
    ∷ pack_refused "J" (neg (2 ^ 63 - 1) ∷ []) 13
    ∷ pack_gives ">jT" (neg (2 ^ 63 - 1) ∷ neg (2 ^ 63 - 1) ∷ []) (0x80 ∷ (replicate 7 0 ++ (0x80 ∷ replicate 7 0)))
    ∷ []

-- as_integer: floats equal to an integer of -2^63..2^63-1, which it decides first for j J T
abbrev integers_of_floats : List Row
integers_of_floats =
    pack_gives "bB" (float 0x4000_0000_0000_0000 ∷ float 0xc000_0000_0000_0000 ∷ []) (2 ∷ 0xfe ∷ [])
    ∷ pack_gives "b" (float 0x8000_0000_0000_0000 ∷ []) (0 ∷ [])
    ∷ pack_refused "b" (float 0x3fe0_0000_0000_0000 ∷ []) 12
    ∷ pack_refused "i" (float 0x7ff0_0000_0000_0000 ∷ []) 12
    ∷ pack_refused "i" (float 0x7ff8_0000_0000_0000 ∷ []) 12
    ∷ pack_refused "I" (float 0xfff0_0000_0000_0000 ∷ []) 12
    ∷ pack_refused "i1" (float 0x4060_0000_0000_0000 ∷ []) 13
    ∷ pack_gives ">i8" (float 0x43df_ffff_ffff_ffff ∷ []) (0x7f ∷ (replicate 5 0xff ++ (0xfc ∷ 0 ∷ [])))
    ∷ pack_gives ">i8" (float 0xc3e0_0000_0000_0000 ∷ []) (0x80 ∷ replicate 7 0)
    ∷ pack_refused "i8" (float 0x43e0_0000_0000_0000 ∷ []) 12
    ∷ pack_refused "i8" (float 0xc3e0_0000_0000_0001 ∷ []) 12
    ∷ pack_gives ">j" (float 0xc3e0_0000_0000_0000 ∷ []) (0x80 ∷ replicate 7 0)
    ∷ pack_gives ">j" (float 0x43e0_0000_0000_0000 ∷ []) (0x43 ∷ 0xe0 ∷ replicate 6 0)
    ∷ pack_gives "<j" (float 0x8000_0000_0000_0000 ∷ []) (replicate 8 0)
    ∷ pack_refused "J" (float 0xc000_0000_0000_0000 ∷ []) 13
    ∷ pack_gives ">J" (float 0x43e0_0000_0000_0000 ∷ []) (0x43 ∷ 0xe0 ∷ replicate 6 0)
    ∷ pack_gives ">J" (float 0xbfe0_0000_0000_0000 ∷ []) (0xbf ∷ 0xe0 ∷ replicate 6 0)
    ∷ pack_gives ">jJ" (float 0x7ff0_0000_0000_0000 ∷ float 0xfff0_0000_0000_0001 ∷ []) (0x7f ∷ 0xf0 ∷ 0 ∷ 0 ∷ 0 ∷ 0 ∷ 0 ∷ 0 ∷ 0xff ∷ 0xf0 ∷ 0 ∷ 0 ∷ 0 ∷ 0 ∷ 0 ∷ 1 ∷ [])
    ∷ []

-- T of a float
abbrev wrapped_floats : List Row
wrapped_floats =
    -- with an integer
    pack_gives "T" (float 0xc000_0000_0000_0000 ∷ []) (0xfe ∷ replicate 7 0xff)
    ∷ pack_gives ">T" (float 0xc3e0_0000_0000_0000 ∷ []) (0x80 ∷ replicate 7 0)
    -- "cut towards zero, 2^64 becoming 2^64-1": 0.5, 1.75; -2.5, -1023.5; -1024.5
    ∷ pack_gives ">T" (float 0x3fe0_0000_0000_0000 ∷ []) (replicate 8 0)
    ∷ pack_gives ">T" (float 0x3ffc_0000_0000_0000 ∷ []) (replicate 7 0 ++ (1 ∷ []))
    ∷ pack_gives ">T" (float 0xc004_0000_0000_0000 ∷ []) (replicate 8 0xff)
    ∷ pack_gives ">T" (float 0xc08f_fc00_0000_0000 ∷ []) (replicate 8 0xff)
    ∷ pack_gives ">T" (float 0xc090_0200_0000_0000 ∷ []) (replicate 6 0xff ++ (0xf8 ∷ 0 ∷ []))
    -- 2^63, 2^64 - 2048, 2^64, 2^64 + 4096, 1e300
    ∷ pack_gives ">T" (float 0x43e0_0000_0000_0000 ∷ []) (0x80 ∷ replicate 7 0)
    ∷ pack_gives ">T" (float 0x43ef_ffff_ffff_ffff ∷ []) (replicate 6 0xff ++ (0xf8 ∷ 0 ∷ []))
    ∷ pack_gives ">T" (float 0x43f0_0000_0000_0000 ∷ []) (replicate 8 0)
    ∷ pack_gives ">T" (float 0x43f0_0000_0000_0001 ∷ []) (replicate 6 0 ++ (0x10 ∷ 0 ∷ []))
    ∷ pack_gives ">T" (float 0x7e37_e43c_8800_759c ∷ []) (replicate 8 0)
    -- the same below zero, and -2^63 - 2048
    ∷ pack_gives ">T" (float 0xc3e0_0000_0000_0001 ∷ []) (0x7f ∷ (replicate 5 0xff ++ (0xf8 ∷ 0 ∷ [])))
    ∷ pack_gives ">T" (float 0xc3ef_ffff_ffff_ffff ∷ []) (replicate 6 0 ++ (8 ∷ 0 ∷ []))
    ∷ pack_gives ">T" (float 0xc3f0_0000_0000_0000 ∷ []) (replicate 8 0)
    ∷ pack_gives ">T" (float 0xc3f0_0000_0000_0001 ∷ []) (replicate 6 0xff ++ (0xf0 ∷ 0 ∷ []))
    ∷ pack_gives ">T" (float 0xfe37_e43c_8800_759c ∷ []) (replicate 8 0)
    -- NaN and infinities
    ∷ pack_gives ">T" (float 0x7ff8_0000_0000_0000 ∷ []) (replicate 8 0)
    ∷ pack_gives ">T" (float 0xfff0_0000_0000_0001 ∷ []) (replicate 8 0)
    ∷ pack_gives ">T" (float 0x7ff0_0000_0000_0000 ∷ []) (replicate 8 0)
    ∷ pack_gives ">T" (float 0xfff0_0000_0000_0000 ∷ []) (replicate 8 0)
    ∷ []

-- d n: as_number, nearest, ties to even; a NaN as it is. f: that rounded once more, a NaN quiet
abbrev floats : List Row
floats =
    pack_gives ">d" (int (2 ^ 53 - 1) ∷ []) (0x43 ∷ 0x3f ∷ replicate 6 0xff)
    ∷ pack_gives ">d" (int 9007199254740993 ∷ []) (0x43 ∷ 0x40 ∷ replicate 6 0)
    ∷ pack_gives ">n" (int 9007199254740995 ∷ []) (0x43 ∷ 0x40 ∷ 0 ∷ 0 ∷ 0 ∷ 0 ∷ 0 ∷ 2 ∷ [])
    ∷ pack_gives ">n" (neg 9007199254740992 ∷ []) (0xc3 ∷ 0x40 ∷ replicate 6 0)
    ∷ pack_gives ">d" (int (2 ^ 63 - 1) ∷ []) (0x43 ∷ 0xe0 ∷ replicate 6 0)
    ∷ pack_gives ">dn" (float 0x7ff0_0000_0000_0001 ∷ float 0xfff0_0000_0000_0001 ∷ []) (0x7f ∷ 0xf0 ∷ 0 ∷ 0 ∷ 0 ∷ 0 ∷ 0 ∷ 1 ∷ 0xff ∷ 0xf0 ∷ 0 ∷ 0 ∷ 0 ∷ 0 ∷ 0 ∷ 1 ∷ [])
    ∷ pack_gives ">dn" (float 0x8000_0000_0000_0000 ∷ int 0 ∷ []) (0x80 ∷ replicate 15 0)
    -- f: ties, the greatest and the least, zeros, infinities
    ∷ pack_gives ">fff" (float 0x3ff0_0000_1000_0000 ∷ float 0x3ff0_0000_1000_0001 ∷ float 0x3ff0_0000_3000_0000 ∷ []) (0x3f ∷ 0x80 ∷ 0 ∷ 0 ∷ 0x3f ∷ 0x80 ∷ 0 ∷ 1 ∷ 0x3f ∷ 0x80 ∷ 0 ∷ 2 ∷ [])
    ∷ pack_gives ">ff" (float 0x47ef_ffff_efff_ffff ∷ float 0x47ef_ffff_f000_0000 ∷ []) (0x7f ∷ 0x7f ∷ 0xff ∷ 0xff ∷ 0x7f ∷ 0x80 ∷ 0 ∷ 0 ∷ [])
    ∷ pack_gives ">ff" (float 0x3690_0000_0000_0000 ∷ float 0x3690_0000_0000_0001 ∷ []) (0 ∷ 0 ∷ 0 ∷ 0 ∷ 0 ∷ 0 ∷ 0 ∷ 1 ∷ [])
    ∷ pack_gives ">fff" (float 0x8000_0000_0000_0000 ∷ float 0x7ff0_0000_0000_0000 ∷ float 0xfff0_0000_0000_0000 ∷ []) (0x80 ∷ 0 ∷ 0 ∷ 0 ∷ 0x7f ∷ 0x80 ∷ 0 ∷ 0 ∷ 0xff ∷ 0x80 ∷ 0 ∷ 0 ∷ [])
    ∷ pack_gives ">ff" (int 16777217 ∷ int 16777219 ∷ []) (0x4b ∷ 0x80 ∷ 0 ∷ 0 ∷ 0x4b ∷ 0x80 ∷ 0 ∷ 2 ∷ [])
    -- NaNs: sign and top 23 fraction bits
    ∷ pack_gives ">ff" (float 0x7ff0_0000_2000_0000 ∷ float 0x7ff0_0000_1fff_ffff ∷ []) (0x7f ∷ 0xc0 ∷ 0 ∷ 1 ∷ 0x7f ∷ 0xc0 ∷ 0 ∷ 0 ∷ [])
    ∷ pack_gives ">ff" (float 0xfff0_0000_0000_0001 ∷ float 0xfff4_0000_0000_0000 ∷ []) (0xff ∷ 0xc0 ∷ 0 ∷ 0 ∷ 0xff ∷ 0xe0 ∷ 0 ∷ 0 ∷ [])
    ∷ []

-- c z s: 12, then 14 or 15; c and z are not aligned
abbrev texts : List Row
texts =
    pack_gives "c0c2c3" (str "" ∷ str "AB" ∷ text (0 ∷ 0x41 ∷ []) ∷ []) (0x41 ∷ 0x42 ∷ 0 ∷ 0x41 ∷ 0 ∷ [])
    ∷ pack_gives "c2" (str "" ∷ []) (0 ∷ 0 ∷ [])
    ∷ pack_refused "c0" (str "A" ∷ []) 15
    ∷ pack_refused "c1" (str "AB" ∷ []) 15
    ∷ pack_refused "c1" (int 1 ∷ []) 12
    ∷ pack_refused "c1" (float 0 ∷ []) 12
    ∷ pack_refused "c1" (other ∷ []) 12
    ∷ pack_refused "c1" [] 11
    ∷ pack_gives "zz" (str "" ∷ str "AB" ∷ []) (0 ∷ 0x41 ∷ 0x42 ∷ 0 ∷ [])
    ∷ pack_refused "z" (text (0 ∷ 0x41 ∷ []) ∷ []) 14
    ∷ pack_refused "z" (text (0x41 ∷ 0 ∷ []) ∷ []) 14
    ∷ pack_refused "z" (float 0 ∷ []) 12
    ∷ pack_gives "<s2>s2" (str "A" ∷ str "AB" ∷ []) (1 ∷ 0 ∷ 0x41 ∷ 0 ∷ 2 ∷ 0x41 ∷ 0x42 ∷ [])
    ∷ pack_gives "s1s1" (str "" ∷ text (0 ∷ []) ∷ []) (0 ∷ 1 ∷ 0 ∷ [])
    ∷ pack_gives ">s16" (str "A" ∷ []) (replicate 15 0 ++ (1 ∷ 0x41 ∷ []))
    ∷ pack_refused "s1" (float 0 ∷ []) 12
    ∷ (packs (bytes "s1") (list_of (text (replicate 255 0x41) ∷ [])) 256, written (255 ∷ replicate 255 0x41))
    ∷ (packs (bytes "s1") (list_of (text (replicate 256 0x41) ∷ [])) 300, refused 15)
    ∷ (packs (bytes "<s2") (list_of (text (replicate 256 0x41) ∷ [])) 258, written (0 ∷ 1 ∷ replicate 256 0x41))
    ∷ pack_gives "!4bzc4b" (int 1 ∷ str "A" ∷ str "B" ∷ int 2 ∷ []) (1 ∷ 0x41 ∷ 0 ∷ 0x42 ∷ 0 ∷ 0 ∷ 0 ∷ 2 ∷ [])
    ∷ []

-- "s takes the alignment of its starting integer": "to min(size, limit)", and nothing behind its text
abbrev length_prefixes : List Row
length_prefixes =
    pack_gives "<!4bs4" (int 1 ∷ str "A" ∷ []) (1 ∷ 0 ∷ 0 ∷ 0 ∷ 1 ∷ 0 ∷ 0 ∷ 0 ∷ 0x41 ∷ [])
    ∷ pack_gives "<!2bs4" (int 1 ∷ str "A" ∷ []) (1 ∷ 0 ∷ 1 ∷ 0 ∷ 0 ∷ 0 ∷ 0x41 ∷ [])
    ∷ pack_gives "!8bs" (int 1 ∷ str "" ∷ []) (1 ∷ replicate 15 0)
    ∷ pack_gives "!4bs1" (int 1 ∷ str "A" ∷ []) (1 ∷ 1 ∷ 0x41 ∷ [])
    ∷ pack_gives ">!2s2s2b" (str "A" ∷ str "BC" ∷ int 7 ∷ []) (0 ∷ 1 ∷ 0x41 ∷ 0 ∷ 0 ∷ 2 ∷ 0x42 ∷ 0x43 ∷ 7 ∷ [])
    ∷ (continues (state true 4 5) (bytes "s2") (list_of (str "A" ∷ [])) 4, accepted (data_continued (0 ∷ 0 ∷ 1 ∷ 0x41 ∷ []) 1 1 (state true 4 9)))
    -- "6 is met by s too, after 3", and so before 11; the limit cuts a size down to a power of two
    ∷ pack_refused "!4s3" [] 6
    ∷ pack_refused "!4s3" (str "A" ∷ []) 6
    ∷ pack_refused "!4s17" (str "A" ∷ []) 3
    ∷ pack_gives "!2bs3" (int 1 ∷ str "" ∷ []) (1 ∷ replicate 4 0)
    ∷ (bounds (bytes "!4s3") 0, refused 6)
    ∷ (bounds (bytes "!4s17") 0, refused 3)
    ∷ (bounds (bytes "!2s3") 0, accepted (data_number 3))
    ∷ read_refused "!4s3" [] (pos 1) 6
    ∷ read_refused "!4s17" [] (pos 1) 3
    -- "in measuring 10 comes before it. X before s still gives 7"
    ∷ size_refused "!4s3" 10
    ∷ size_refused "!4s17" 3
    ∷ size_refused "!4Xs3" 7
    -- 9 counts the padding too, and comes after 6
    ∷ (continues (state false 2 (2 ^ 63 - 4)) (bytes "s2") (list_of (str "" ∷ [])) 2, accepted (data_continued (0 ∷ 0 ∷ []) 1 1 (state false 2 (2 ^ 63 - 2))))
    ∷ (continues (state false 2 (2 ^ 63 - 3)) (bytes "s2") (list_of (str "" ∷ [])) 3, refused 9)
    ∷ (continues (state false 4 (2 ^ 63 - 1)) (bytes "s3") [] 3, refused 6)
    -- in reading alignment counts from the data's first byte, and passes over any bytes; 17 there, in the length and in the text
    ∷ read_gives "<!4bs4" (1 ∷ 9 ∷ 9 ∷ 9 ∷ 1 ∷ 0 ∷ 0 ∷ 0 ∷ 0x41 ∷ []) (pos 1) (int 1 ∷ str "A" ∷ []) 10
    ∷ read_gives "<!4s4" (9 ∷ 9 ∷ 9 ∷ 9 ∷ 0 ∷ 0 ∷ 0 ∷ 0 ∷ []) (pos 2) (str "" ∷ []) 9
    ∷ read_gives "!4bs1" (1 ∷ 1 ∷ 0x41 ∷ []) (pos 1) (int 1 ∷ str "A" ∷ []) 4
    ∷ read_refused "!4bs4" (1 ∷ 9 ∷ 9 ∷ []) (pos 1) 17
    ∷ read_refused "<!4bs4" (1 ∷ 9 ∷ 9 ∷ 9 ∷ 0 ∷ 0 ∷ 0 ∷ []) (pos 1) 17
    ∷ read_refused "<!4bs4" (1 ∷ 9 ∷ 9 ∷ 9 ∷ 1 ∷ 0 ∷ 0 ∷ 0 ∷ []) (pos 1) 17
    ∷ []

-- "Padding is the zeros of x, X and alignment, not c's fill", nor the zero of z, nor the length of s
abbrev padding_told : List (List Cell × List Cell)
padding_told = (
  (Kept.written (bytes "<!4bs4xc2zXi") (list_of (int 1 ∷ str "A" ∷ str "B" ∷ str "C" ∷ []))).cells,
  byte 1 ∷ pad ∷ pad ∷ pad ∷ byte 1 ∷ byte 0 ∷ byte 0 ∷ byte 0 ∷ byte 0x41 ∷ pad ∷ byte 0x42 ∷ byte 0 ∷ byte 0x43 ∷ byte 0 ∷ pad ∷ pad ∷ [],
)
    ∷ []

-- the order of writing's checks, 21 first and 22 last; values beyond those taken are ignored
abbrev checks : List Row
checks =
    pack_refused "!4i3" [] 6
    ∷ pack_refused "!4i3" (str "A" ∷ []) 6
    ∷ pack_refused "bq" [] 11
    ∷ pack_refused "qb" [] 1
    ∷ pack_gives "b" (int 1 ∷ other ∷ []) (1 ∷ [])
    ∷ (packs (bytes "b") (list_of (str "A" ∷ [])) 0, refused 12)
    ∷ (packs (bytes "b") (list_of (int 1 ∷ [])) 0, refused 22)
    ∷ (packs (bytes "h") (list_of (int 1 ∷ [])) 1, refused 22)
    ∷ (packs (bytes "h") (list_of (int 1 ∷ [])) 2, written (1 ∷ 0 ∷ []))
    ∷ (packs (bytes "bb") (list_of (int 1 ∷ [])) 0, refused 11)
    ∷ (packs (bytes "q") (0 ∷ 0 ∷ 1 ∷ 0 ∷ []) 0, refused 21)
    ∷ []

-- continued writing: the state (21), 22 of this call's bytes, the counts, and 9 after all other checks but for c
abbrev continuing : List Row
continuing =
    (continues (state false 1 100) (bytes "b") (list_of (int 1 ∷ [])) 3, accepted (data_continued (1 ∷ []) 1 1 (state false 1 101)))
    ∷ (continues start (bytes "< !4 x Xi4") [] 4, accepted (data_continued (0 ∷ 0 ∷ 0 ∷ 0 ∷ []) 0 4 (state false 4 4)))
    ∷ (continues (state false 4 1) (bytes "ib") (list_of (int 7 ∷ int 8 ∷ other ∷ [])) 8, accepted (data_continued (0 ∷ 0 ∷ 0 ∷ 7 ∷ 0 ∷ 0 ∷ 0 ∷ 8 ∷ []) 2 2 (state false 4 9)))
    ∷ (continues (state false 0 0) [] [] 0, refused 21)
    ∷ (continues (state false 2 0) [] [] 0, accepted (data_continued [] 0 0 (state false 2 0)))
    ∷ (continues (state false 3 0) (bytes "q") [] 0, refused 21)
    ∷ (continues (state false 8 0) [] [] 0, accepted (data_continued [] 0 0 (state false 8 0)))
    ∷ (continues (state false 16 0) [] [] 0, accepted (data_continued [] 0 0 (state false 16 0)))
    ∷ (continues (state false 32 0) [] [] 0, refused 21)
    ∷ (continues (state false 1 (2 ^ 63)) (bytes "q") [] 0, refused 21)
    ∷ (continues (state false 1 (2 ^ 63 - 1)) (bytes "q") [] 0, refused 1)
    ∷ (continues (state false 1 (2 ^ 63 - 1)) (bytes "c0") (list_of (str "" ∷ [])) 0, accepted (data_continued [] 1 1 (state false 1 (2 ^ 63 - 1))))
    ∷ (continues (state false 1 (2 ^ 63 - 2)) (bytes "b") (list_of (int 1 ∷ [])) 1, accepted (data_continued (1 ∷ []) 1 1 (state false 1 (2 ^ 63 - 1))))
    ∷ (continues (state false 1 (2 ^ 63 - 1)) (bytes "b") (list_of (int 1 ∷ [])) 1, refused 9)
    ∷ (continues (state false 1 (2 ^ 63 - 1)) (bytes "x") [] 1, refused 9)
    ∷ (continues (state false 2 (2 ^ 63 - 1)) (bytes "Xh") [] 1, refused 9)
    ∷ (continues (state false 1 (2 ^ 63 - 1)) (bytes "z") (list_of (str "" ∷ [])) 1, refused 9)
    ∷ (continues (state false 1 (2 ^ 63 - 1)) (bytes "s1") (list_of (str "" ∷ [])) 1, refused 9)
    ∷ (continues (state false 1 (2 ^ 63 - 2)) (bytes "s1") (list_of (str "A" ∷ [])) 2, refused 9)
    ∷ (continues (state false 4 (2 ^ 63 - 1)) (bytes "i3") [] 1, refused 6)
    ∷ (continues (state false 1 (2 ^ 63 - 1)) (bytes "b") [] 1, refused 11)
    ∷ (continues (state false 1 (2 ^ 63 - 1)) (bytes "b") (list_of (str "" ∷ [])) 1, refused 12)
    ∷ (continues (state false 1 (2 ^ 63 - 1)) (bytes "i1") (list_of (int 128 ∷ [])) 1, refused 13)
    ∷ (continues (state false 1 (2 ^ 63 - 1)) (bytes "z") (list_of (text (0 ∷ []) ∷ [])) 1, refused 14)
    ∷ (continues (state false 1 (2 ^ 63 - 1)) (bytes "s1") (list_of (text (replicate 256 1) ∷ [])) 1, refused 15)
    ∷ (continues (state false 1 (2 ^ 63 - 1)) (bytes "c1") [] 1, refused 9)
    ∷ (continues (state false 1 (2 ^ 63 - 1)) (bytes "c1") (list_of (str "AB" ∷ [])) 1, refused 9)
    ∷ []

-- ---- the value list, byte by byte

-- the empty format takes every list that is well formed
abbrev well_formed : List (List ℕ)
well_formed =
    (0 ∷ 0 ∷ 0 ∷ [])
    ∷ (1 ∷ 0 ∷ 8 ∷ replicate 8 9)
    ∷ (2 ∷ 0 ∷ 8 ∷ replicate 8 9)
    ∷ (3 ∷ 0 ∷ 0 ∷ [])
    ∷ (3 ∷ 0 ∷ 1 ∷ 9 ∷ [])
    ∷ (3 ∷ 1 ∷ 0 ∷ replicate 256 9)
    ∷ (3 ∷ 0 ∷ 0 ∷ 0 ∷ 0 ∷ 0 ∷ [])
    ∷ []

abbrev malformed : List (List ℕ)
malformed =
    (4 ∷ [])
    ∷ (3 ∷ [])
    ∷ (3 ∷ 0 ∷ [])
    ∷ (0 ∷ 0 ∷ 1 ∷ 9 ∷ [])
    ∷ (1 ∷ 0 ∷ 7 ∷ replicate 7 9)
    ∷ (1 ∷ 0 ∷ 9 ∷ replicate 9 9)
    ∷ (1 ∷ 8 ∷ 0 ∷ replicate 8 9)
    ∷ (2 ∷ 0 ∷ 7 ∷ replicate 7 9)
    ∷ (2 ∷ 0 ∷ 9 ∷ replicate 9 9)
    ∷ (3 ∷ 0 ∷ 2 ∷ 9 ∷ [])
    ∷ (4 ∷ 0 ∷ 0 ∷ [])
    ∷ (255 ∷ 0 ∷ 0 ∷ [])
    ∷ (3 ∷ 0 ∷ 0 ∷ 4 ∷ 0 ∷ 0 ∷ [])
    ∷ []

abbrev lists : List Row
lists =
    map (λ l. (packs [] l 0, written [])) well_formed
    ++ map (λ l. (packs [] l 0, refused 21)) malformed
    ++ ((packs (bytes ">j") (1 ∷ 0 ∷ 8 ∷ 1 ∷ 2 ∷ 3 ∷ 4 ∷ 5 ∷ 6 ∷ 7 ∷ 8 ∷ []) 8, written (1 ∷ 2 ∷ 3 ∷ 4 ∷ 5 ∷ 6 ∷ 7 ∷ 8 ∷ []))
    ∷ (packs (bytes ">i9") (1 ∷ 0 ∷ 8 ∷ (replicate 7 0xff ++ (0xfe ∷ []))) 9, written (replicate 8 0xff ++ (0xfe ∷ [])))
    ∷ (packs (bytes ">d") (2 ∷ 0 ∷ 8 ∷ 1 ∷ 2 ∷ 3 ∷ 4 ∷ 5 ∷ 6 ∷ 7 ∷ 8 ∷ []) 8, written (1 ∷ 2 ∷ 3 ∷ 4 ∷ 5 ∷ 6 ∷ 7 ∷ 8 ∷ []))
    ∷ (packs (bytes "c2c1") (3 ∷ 0 ∷ 2 ∷ 8 ∷ 9 ∷ 3 ∷ 0 ∷ 1 ∷ 7 ∷ []) 3, written (8 ∷ 9 ∷ 7 ∷ []))
    ∷ (packs (bytes "s1") (0 ∷ 0 ∷ 0 ∷ []) 8, refused 12)
    ∷ [])

-- two that are the same, in each row
abbrev pub Same : {A : Type 0} → List (A × A) → Type 0
Same rows = map (λ r. r.0) rows ≡ map (λ r. r.1) rows

-- the list after its first fields
abbrev rests : List (List ℕ × List ℕ)
rests =
    (fields_after 0 (3 ∷ 0 ∷ 1 ∷ 9 ∷ 7 ∷ []), 3 ∷ 0 ∷ 1 ∷ 9 ∷ 7 ∷ [])
    ∷ (fields_after 1 (3 ∷ 0 ∷ 1 ∷ 9 ∷ 0 ∷ 0 ∷ 0 ∷ 7 ∷ []), 0 ∷ 0 ∷ 0 ∷ 7 ∷ [])
    ∷ (fields_after 2 (3 ∷ 0 ∷ 1 ∷ 9 ∷ 0 ∷ 0 ∷ 0 ∷ 7 ∷ []), 7 ∷ [])
    ∷ (fields_after 3 (3 ∷ 0 ∷ 1 ∷ 9 ∷ 0 ∷ 0 ∷ 0 ∷ 7 ∷ []), [])
    ∷ (fields_after 9 [], [])
    ∷ (fields_after 1 (3 ∷ 1 ∷ 0 ∷ (replicate 256 9 ++ (7 ∷ []))), 7 ∷ [])
    ∷ []

-- where it starts
abbrev offsets : List (ℕ × ℕ)
offsets =
    (offset_after 0 (3 ∷ 0 ∷ 1 ∷ 9 ∷ 7 ∷ []), 0)
    ∷ (offset_after 1 (3 ∷ 0 ∷ 1 ∷ 9 ∷ 0 ∷ 0 ∷ 0 ∷ 7 ∷ []), 4)
    ∷ (offset_after 2 (3 ∷ 0 ∷ 1 ∷ 9 ∷ 0 ∷ 0 ∷ 0 ∷ 7 ∷ []), 7)
    ∷ (offset_after 3 (3 ∷ 0 ∷ 1 ∷ 9 ∷ 0 ∷ 0 ∷ 0 ∷ 7 ∷ []), 8)
    ∷ (offset_after 9 [], 0)
    ∷ []

-- ---- lent buffers: the result at the front, no other byte changed; none by a refusal

abbrev records : List (Call ℕ × Call ℕ)
records =
    (string_pack (bytes "b") (list_of (int 1 ∷ [])) (9 ∷ 8 ∷ 7 ∷ []), call (accepted 1) (1 ∷ 8 ∷ 7 ∷ []))
    ∷ (string_pack (bytes "h") (list_of (int 1 ∷ [])) (9 ∷ []), call (refused 22) (9 ∷ []))
    ∷ (string_pack (bytes "bb") (list_of (int 1 ∷ [])) (9 ∷ 8 ∷ []), call (refused 11) (9 ∷ 8 ∷ []))
    ∷ []

abbrev unpacked : ℕ → ℕ → Unpacked
unpacked n next = record { length = n; next = position_of (offset next) }

abbrev read_lists : List (Call Unpacked × Call Unpacked)
read_lists =
    (string_unpack (bytes "b") (0xfe ∷ []) (pos 1) (room 12), call (accepted (unpacked 11 1)) (1 ∷ 0 ∷ 8 ∷ (replicate 7 0xff ++ (0xfe ∷ 238 ∷ []))))
    ∷ (string_unpack (bytes ">d") (1 ∷ 2 ∷ 3 ∷ 4 ∷ 5 ∷ 6 ∷ 7 ∷ 8 ∷ []) (pos 1) (room 11), call (accepted (unpacked 11 8)) (2 ∷ 0 ∷ 8 ∷ 1 ∷ 2 ∷ 3 ∷ 4 ∷ 5 ∷ 6 ∷ 7 ∷ 8 ∷ []))
    ∷ (string_unpack (bytes "zc1") (0 ∷ 9 ∷ []) (pos 1) (room 8), call (accepted (unpacked 7 2)) (3 ∷ 0 ∷ 0 ∷ 3 ∷ 0 ∷ 1 ∷ 9 ∷ 238 ∷ []))
    ∷ (string_unpack (bytes "c256") (replicate 256 9) (pos 1) (room 259), call (accepted (unpacked 259 256)) (3 ∷ 1 ∷ 0 ∷ replicate 256 9))
    ∷ (string_unpack (bytes "b") (7 ∷ []) (pos 1) (room 10), call (refused 22) (room 10))
    ∷ (string_unpack (bytes "bq") (7 ∷ []) (pos 1) (room 1), call (refused 1) (room 1))
    ∷ []

-- ---- reading

-- "Start p: 1..len+1, or -len..-1 meaning len+1+p"; 16 before all items
abbrev starts : List Row
starts =
    read_gives "b" (7 ∷ 8 ∷ 9 ∷ []) (pos 1) (int 7 ∷ []) 2
    ∷ read_gives "b" (7 ∷ 8 ∷ 9 ∷ []) (pos 3) (int 9 ∷ []) 4
    ∷ read_gives "" (7 ∷ 8 ∷ 9 ∷ []) (pos 4) [] 4
    ∷ read_refused "" (7 ∷ 8 ∷ 9 ∷ []) (pos 5) 16
    ∷ read_refused "q" (7 ∷ 8 ∷ 9 ∷ []) (pos 0) 16
    ∷ read_gives "b" (7 ∷ 8 ∷ 9 ∷ []) (negsuc 0) (int 9 ∷ []) 4
    ∷ read_gives "b" (7 ∷ 8 ∷ 9 ∷ []) (negsuc 2) (int 7 ∷ []) 2
    ∷ read_refused "" (7 ∷ 8 ∷ 9 ∷ []) (negsuc 3) 16
    ∷ read_gives "" [] (pos 1) [] 1
    ∷ read_refused "" [] (pos 2) 16
    ∷ read_refused "" [] (negsuc 0) 16
    ∷ read_refused "" (7 ∷ []) (pos (2 ^ 63 - 1)) 16
    ∷ read_refused "" (7 ∷ []) (negsuc (2 ^ 63 - 1)) 16
    ∷ []

-- left to right, the format's checks before the data's; alignment counts from the data's first byte
abbrev data_ends : List Row
data_ends =
    read_refused "bq" [] (pos 1) 17
    ∷ read_refused "qb" [] (pos 1) 1
    ∷ read_refused "i17" [] (pos 1) 3
    ∷ read_refused "!4i3" [] (pos 1) 6
    ∷ read_refused "!4Xi3" [] (pos 1) 6
    ∷ read_refused "x" [] (pos 1) 17
    ∷ read_gives "xb" (8 ∷ 9 ∷ []) (pos 1) (int 9 ∷ []) 3
    ∷ read_refused "!4Xi" (9 ∷ []) (pos 2) 17
    ∷ read_gives "!4Xi" (9 ∷ 9 ∷ 9 ∷ 9 ∷ []) (pos 2) [] 5
    ∷ read_gives "<!4i" (9 ∷ 9 ∷ 9 ∷ 9 ∷ 7 ∷ 0 ∷ 0 ∷ 0 ∷ []) (pos 2) (int 7 ∷ []) 9
    ∷ read_refused "<!4i" (9 ∷ 9 ∷ 9 ∷ 9 ∷ 7 ∷ 0 ∷ 0 ∷ []) (pos 2) 17
    ∷ read_gives "!2>bh<h" (7 ∷ 9 ∷ 1 ∷ 2 ∷ 1 ∷ 2 ∷ []) (pos 1) (int 7 ∷ int 258 ∷ int 513 ∷ []) 7
    ∷ read_gives "bh" (7 ∷ 2 ∷ 1 ∷ []) (pos 1) (int 7 ∷ int 258 ∷ []) 4
    ∷ read_gives "!4bc1s1zb" (7 ∷ 0x41 ∷ 1 ∷ 0x42 ∷ 0x43 ∷ 0 ∷ 8 ∷ []) (pos 1) (int 7 ∷ str "A" ∷ str "B" ∷ str "C" ∷ int 8 ∷ []) 8
    ∷ []

-- numbers of up to eight bytes, and above, where the fill is the sign of the low eight bytes (18)
abbrev numbers_read : List Row
numbers_read =
    read_gives "bb" (0x7f ∷ 0x80 ∷ []) (pos 1) (int 127 ∷ neg 127 ∷ []) 3
    ∷ read_gives "BB" (0x7f ∷ 0x80 ∷ []) (pos 1) (int 127 ∷ int 128 ∷ []) 3
    ∷ read_gives ">hhH" (0x7f ∷ 0xff ∷ 0x80 ∷ 0 ∷ 0x80 ∷ 0 ∷ []) (pos 1) (int 32767 ∷ neg 32767 ∷ int 32768 ∷ []) 7
    ∷ read_gives ">i3I3" (0x80 ∷ 0 ∷ 0 ∷ 0x80 ∷ 0 ∷ 0 ∷ []) (pos 1) (neg 8388607 ∷ int 8388608 ∷ []) 7
    ∷ read_gives ">j" (0x7f ∷ replicate 7 0xff) (pos 1) (int (2 ^ 63 - 1) ∷ []) 9
    ∷ read_gives ">j" (0x80 ∷ replicate 7 0) (pos 1) (neg (2 ^ 63 - 1) ∷ []) 9
    ∷ read_gives "I8" (replicate 8 0xff) (pos 1) (neg 0 ∷ []) 9
    ∷ read_gives ">J" (0x80 ∷ replicate 7 0) (pos 1) (neg (2 ^ 63 - 1) ∷ []) 9
    ∷ read_gives "<i9" (replicate 9 0xff) (pos 1) (neg 0 ∷ []) 10
    ∷ read_gives "<i9" (replicate 7 0 ++ (0x80 ∷ 0xff ∷ [])) (pos 1) (neg (2 ^ 63 - 1) ∷ []) 10
    ∷ read_gives "<i9" (replicate 7 0xff ++ (0x7f ∷ 0 ∷ [])) (pos 1) (int (2 ^ 63 - 1) ∷ []) 10
    ∷ read_refused "<i9" (replicate 7 0 ++ (0x80 ∷ 0 ∷ [])) (pos 1) 18
    ∷ read_refused "<i9" (replicate 7 0xff ++ (0x7f ∷ 0xff ∷ [])) (pos 1) 18
    ∷ read_refused ">i9" (0 ∷ replicate 8 0xff) (pos 1) 18
    ∷ read_refused ">i9" (0xff ∷ replicate 8 0) (pos 1) 18
    ∷ read_gives ">i16" (replicate 15 0xff ++ (0xfe ∷ [])) (pos 1) (neg 1 ∷ []) 17
    ∷ read_refused ">i16" (0xfe ∷ replicate 15 0xff) (pos 1) 18
    ∷ read_refused "<i16" (replicate 9 0xff ++ (0xfe ∷ replicate 6 0xff)) (pos 1) 18
    ∷ read_gives ">l9" (replicate 8 0 ++ (2 ∷ [])) (pos 1) (int 2 ∷ []) 10
    ∷ read_gives ">L9" (0 ∷ replicate 8 0xff) (pos 1) (neg 0 ∷ []) 10
    ∷ read_refused ">L9" (1 ∷ replicate 8 0) (pos 1) 18
    ∷ read_refused ">I16" (replicate 7 0 ++ (1 ∷ replicate 8 0)) (pos 1) 18
    ∷ read_refused "<I9" (replicate 8 0xff) (pos 1) 17
    -- f gives its exact f64, a NaN quiet; d as it is
    ∷ read_gives ">ff" (0x3f ∷ 0x80 ∷ 0 ∷ 1 ∷ 0 ∷ 0 ∷ 0 ∷ 1 ∷ []) (pos 1) (float 0x3ff0_0000_2000_0000 ∷ float 0x36a0_0000_0000_0000 ∷ []) 9
    ∷ read_gives ">ff" (0xff ∷ 0x80 ∷ 0 ∷ 0 ∷ 0x80 ∷ 0 ∷ 0 ∷ 0 ∷ []) (pos 1) (float 0xfff0_0000_0000_0000 ∷ float 0x8000_0000_0000_0000 ∷ []) 9
    ∷ read_gives ">ff" (0x7f ∷ 0x80 ∷ 0 ∷ 1 ∷ 0xff ∷ 0xbf ∷ 0xff ∷ 0xff ∷ []) (pos 1) (float 0x7ff8_0000_2000_0000 ∷ float 0xffff_ffff_e000_0000 ∷ []) 9
    ∷ read_gives ">d" (0x7f ∷ 0xf0 ∷ 0 ∷ 0 ∷ 0 ∷ 0 ∷ 0 ∷ 1 ∷ []) (pos 1) (float 0x7ff0_0000_0000_0001 ∷ []) 9
    ∷ read_gives "<n" (1 ∷ 0 ∷ 0 ∷ 0 ∷ 0 ∷ 0 ∷ 0xf0 ∷ 0xff ∷ []) (pos 1) (float 0xfff0_0000_0000_0001 ∷ []) 9
    ∷ []

-- "Unsigned results are the same 64 bits as an integer."
abbrev read_signed : List (Checked (Value × ℕ) × Checked (Value × ℕ))
read_signed = (decode false (Number Unsigned 8) (replicate 8 0xff), accepted (neg 0, 8)) ∷ []

-- what reading puts out: the field, the offset after its padding, the bytes with z's zero and s's length among them, the value
abbrev traced : Field → ℕ → List ℕ → Value → Read
traced f o s v = record { field = f; start = offset o; bytes = s; value = v }

abbrev traces : List (Checked (List Read × Position) × Checked (List Read × Position))
traces = (
  read options (bytes ">!4bis2zxc1c0s2") (9 ∷ 1 ∷ 9 ∷ 9 ∷ 0 ∷ 0 ∷ 0 ∷ 2 ∷ 0 ∷ 1 ∷ 0x41 ∷ 0x42 ∷ 0 ∷ 9 ∷ 0x43 ∷ 9 ∷ 0 ∷ 1 ∷ 0x44 ∷ 9 ∷ []) (pos 2),
  accepted (
    traced (Number SmallSigned 1) 1 (1 ∷ []) (int 1)
        ∷ traced (Number Signed 4) 4 (0 ∷ 0 ∷ 0 ∷ 2 ∷ []) (int 2)
        ∷ traced (Counted 2) 8 (0 ∷ 1 ∷ 0x41 ∷ []) (str "A")
        ∷ traced ZeroEnded 11 (0x42 ∷ 0 ∷ []) (str "B")
        ∷ traced (Chars 1) 14 (0x43 ∷ []) (str "C")
        ∷ traced (Chars 0) 15 [] (str "")
        ∷ traced (Counted 2) 16 (0 ∷ 1 ∷ 0x44 ∷ []) (str "D")
        ∷ [],
    position_of (offset 19),
  ),
)
    ∷ []

-- "z gives 19 and never 17; s reads its length (17, 18), then its text (17, 20)"
abbrev texts_read : List Row
texts_read =
    read_gives "c0c3" (0x41 ∷ 0 ∷ 0 ∷ []) (pos 1) (str "" ∷ text (0x41 ∷ 0 ∷ 0 ∷ []) ∷ []) 4
    ∷ read_refused "c2" (0x41 ∷ []) (pos 1) 17
    ∷ read_refused "c65536" (0x41 ∷ []) (pos 1) 17
    ∷ read_refused "bc18446744073709551615" (1 ∷ 2 ∷ 3 ∷ []) (pos 1) 17
    ∷ read_gives "zz" (0x41 ∷ 0 ∷ 0 ∷ 0x42 ∷ []) (pos 1) (str "A" ∷ str "" ∷ []) 4
    ∷ read_refused "z" [] (pos 1) 19
    ∷ read_refused "z" (0x41 ∷ []) (pos 1) 19
    ∷ read_gives "s1s1" (2 ∷ 0x41 ∷ 0 ∷ 0 ∷ []) (pos 1) (text (0x41 ∷ 0 ∷ []) ∷ str "" ∷ []) 5
    ∷ read_refused "s1" [] (pos 1) 17
    ∷ read_refused "s1" (2 ∷ 0x41 ∷ []) (pos 1) 17
    ∷ read_gives "<s2>s2" (1 ∷ 0 ∷ 0x41 ∷ 0 ∷ 1 ∷ 0x42 ∷ []) (pos 1) (str "A" ∷ str "B" ∷ []) 7
    ∷ read_refused "<s4" (0x70 ∷ 0x11 ∷ 1 ∷ 0 ∷ []) (pos 1) 17
    ∷ read_refused "s" (replicate 8 0xff) (pos 1) 17
    ∷ read_gives "<s9" (1 ∷ (replicate 8 0 ++ (0x41 ∷ []))) (pos 1) (str "A" ∷ []) 11
    ∷ read_refused "<s9" (1 ∷ replicate 7 0) (pos 1) 17
    ∷ read_refused "<s9" (replicate 9 1) (pos 1) 18
    ∷ read_refused ">s9" (1 ∷ replicate 8 0) (pos 1) 18
    ∷ []

-- the text of z, of n ones
up_to_zero_lem : (n : ℕ) → up_to_zero (replicate n 1 ++ (0 ∷ [])) ≡ accepted (replicate n 1)
up_to_zero_lem zero = refl
up_to_zero_lem (suc n) = rw (up_to_zero_lem n)

-- "Kept, by option", where Entries does not say it
abbrev kept_values : List Row
kept_values =
    (keeps (bytes "bBhHc3") (list_of (int 200 ∷ int 456 ∷ int 40000 ∷ int 65537 ∷ str "AB" ∷ [])), accepted (data_values (neg 55 ∷ int 200 ∷ neg 25535 ∷ int 1 ∷ str "AB\0" ∷ []) 0))
    ∷ (keeps (bytes "bh") (list_of (neg 199 ∷ neg 39999 ∷ [])), accepted (data_values (int 56 ∷ int 25536 ∷ []) 0))
    ∷ (keeps (bytes "i3I3i9I9") (list_of (neg 4 ∷ int 5 ∷ neg 6 ∷ int 7 ∷ [])), accepted (data_values (neg 4 ∷ int 5 ∷ neg 6 ∷ int 7 ∷ []) 0))
    ∷ (keeps (bytes "lL") (list_of (float 0xc000_0000_0000_0000 ∷ float 0x4000_0000_0000_0000 ∷ [])), accepted (data_values (neg 1 ∷ int 2 ∷ []) 0))
    ∷ (keeps (bytes "jJ") (list_of (float 0xc000_0000_0000_0000 ∷ float 0x4000_0000_0000_0000 ∷ [])), accepted (data_values (neg 1 ∷ int 2 ∷ []) 0))
    ∷ (keeps (bytes "TjJ") (list_of (float 0xbfe0_0000_0000_0000 ∷ float 0xbfe0_0000_0000_0000 ∷ float 0xbfe0_0000_0000_0000 ∷ [])), accepted (data_values (neg 0 ∷ neg 4620693217682128895 ∷ neg 4620693217682128895 ∷ []) 0))
    ∷ (keeps (bytes "TT") (list_of (float 0x43e0_0000_0000_0000 ∷ neg 4 ∷ [])), accepted (data_values (neg (2 ^ 63 - 1) ∷ neg 4 ∷ []) 0))
    ∷ (keeps (bytes "ff") (list_of (int 1152921573326323713 ∷ float 0x3fb9_9999_9999_999a ∷ [])), accepted (data_values (float 0x43b0_0000_0000_0000 ∷ float 0x3fb9_9999_a000_0000 ∷ []) 0))
    ∷ (keeps (bytes "dn") (list_of (int 9007199254740993 ∷ float 0x7ff0_0000_0000_0001 ∷ [])), accepted (data_values (float 0x4340_0000_0000_0000 ∷ float 0x7ff0_0000_0000_0001 ∷ []) 0))
    ∷ (keeps (bytes ">xs1!4Xiz c0") (list_of (str "A" ∷ str "BC" ∷ str "" ∷ other ∷ [])), accepted (data_values (str "A" ∷ str "BC" ∷ str "" ∷ []) 0))
    ∷ []

-- "each as a signed 64-bit integer": -0.5 under j J T
abbrev kept_signed : List (Value × Value)
kept_signed =
    (kept (Number LuaInteger 8) (float 0xbfe0_0000_0000_0000), neg 4620693217682128895)
    ∷ (kept (Number LuaUnsigned 8) (float 0xbfe0_0000_0000_0000), neg 4620693217682128895)
    ∷ (kept (Number Size 8) (float 0xbfe0_0000_0000_0000), neg 0)
    ∷ []

-- ---- the program: up to a line feed or the end; over 4,096 bytes: 22
abbrev inputs : List Row
inputs =
    (prints (bytes "<!8bn"), written (bytes "size 16\n"))
    ∷ (prints (bytes "q\nb"), written (bytes "refused 1\n"))
    ∷ (prints [], written (bytes "size 0\n"))
    ∷ (prints (bytes "\n"), written (bytes "size 0\n"))
    ∷ (prints (bytes "b\r\n"), written (bytes "size 1\n"))
    ∷ (prints (bytes "i9\nq"), written (bytes "size 9\n"))
    ∷ (prints (bytes "i10"), written (bytes "size 10\n"))
    ∷ (prints (bytes "s"), written (bytes "refused 10\n"))
    ∷ (prints (bytes "c9223372036854775807"), written (bytes "size 9223372036854775807\n"))
    ∷ (prints (replicate 4096 0x71 ++ bytes "\n"), written (bytes "refused 1\n"))
    ∷ (prints (replicate 4097 0x71), written (bytes "refused 22\n"))
    ∷ (prints (bytes "b\n" ++ replicate 4096 0x71), written (bytes "size 1\n"))
    ∷ []

-- ---- the statements

pub record Examples : Type 0 where
  pub of_numerals : Hold numerals
  pub of_aligning : Hold aligning
  pub of_fills : Same fills
  pub of_measures : Hold measures
  pub of_list_bounds : Hold list_bounds
  pub of_settings : Hold settings
  pub of_integers : Hold integers
  pub of_integers_of_floats : Hold integers_of_floats
  pub of_wrapped_floats : Hold wrapped_floats
  pub of_floats : Hold floats
  pub of_texts : Hold texts
  pub of_length_prefixes : Hold length_prefixes
  pub of_padding_told : Same padding_told
  pub of_checks : Hold checks
  pub of_continuing : Hold continuing
  pub of_lists : Hold lists
  pub of_rests : Same rests
  pub of_offsets : Same offsets
  pub of_records : Same records
  pub of_read_lists : Same read_lists
  pub of_starts : Hold starts
  pub of_data_ends : Hold data_ends
  pub of_numbers_read : Hold numbers_read
  pub of_read_signed : Same read_signed
  pub of_traces : Same traces
  pub of_texts_read : Hold texts_read
  pub of_kept_values : Hold kept_values
  pub of_kept_signed : Same kept_signed
  pub of_inputs : Hold inputs
  -- "20 text above 65,535", of texts of every length; Premises has c65536
  pub of_short_texts : (s : List ℕ) → length s ≤ 65535 → short s ≡ accepted s
  pub of_long_texts : (s : List ℕ) → 65535 < length s → short s ≡ refused 20
  pub of_long_z : (n : ℕ) → 65535 < n → decode false ZeroEnded (replicate n 1 ++ (0 ∷ [])) ≡ refused 20
  pub of_long_s : (s : List ℕ) → length s ≡ 65536 → decode false (Counted 3) (0 ∷ 0 ∷ 1 ∷ s) ≡ refused 20

pub examples : Examples
unfolding little total signed laid list_of field_of values_past fields_after entry_list options digits next_byte taken items_past value numeral_of op_of longer
    alignment padding word encode number decode kept measure_op measure write_field write_op read_field read_op read bound_op bound list_bound first_line
    decimal_in printed pack pack_continued string_pack unpack string_unpack to_single from_single of_bits to_bits of_int of_fields odd round nan_bits size span
    climb units count_trailing_zeros
examples =
    record {
      of_numerals = refl;
      of_aligning = refl;
      of_fills = refl;
      of_measures = refl;
      of_list_bounds = refl;
      of_settings = refl;
      of_integers = refl;
      of_integers_of_floats = refl;
      of_wrapped_floats = refl;
      of_floats = refl;
      of_texts = refl;
      of_length_prefixes = refl;
      of_padding_told = refl;
      of_checks = refl;
      of_continuing = refl;
      of_lists = refl;
      of_rests = refl;
      of_offsets = refl;
      of_records = refl;
      of_read_lists = refl;
      of_starts = refl;
      of_data_ends = refl;
      of_numbers_read = refl;
      of_read_signed = refl;
      of_traces = refl;
      of_texts_read = refl;
      of_kept_values = refl;
      of_kept_signed = refl;
      of_inputs = refl;
      of_short_texts = λ s h. rw (le-leb (length s) 65535 h);
      of_long_texts = λ s h. rw (lt-leb (length s) 65535 h);
      of_long_z = λ n h. rw (up_to_zero_lem n, length-replicate {A = ℕ} n 1, lt-leb n 65535 h);
      of_long_s = λ s h. rw (h, length-take-le 65536 s (omega arith));
    }
