-- "Profiles to try": P1 to P14 as one table, which holds by computation. Entries and Examples have further tables.
use Rattle.std.specs.Prelude.{ℕ, ◌-◌, ◌^◌, ◌≡◌, refl, List, [], ◌∷◌, ◌++◌, map, ℤ, pos, negsuc, take, replicate}
use Prim.Native.String.{String}
use Rattle.std.specs.Float.Ieee.{of_bits, to_bits, of_int, of_fields, odd, round, nan_bits, size, span, climb, units}
use Rattle.std.specs.Int.Count.{count_trailing_zeros}
use Rattle.single.specs.Single.{to_single, from_single}
use Rattle.definition.specs.Answers.{Checked, refused, accepted, ◌>>=◌}
use Rattle.definition.specs.Bytes.{bytes, little, total, signed, laid}
use Rattle.definition.specs.Values.{Value, integer, float, text}
use Rattle.definition.specs.Lists.{list_of, field_of, values_past, values}
use Rattle.definition.specs.Options.{entry_list, options}
use Rattle.definition.specs.Items.{digits, next_byte, taken, items_past, value, numeral_of}
use Rattle.definition.specs.Ops.{op_of}
use Rattle.definition.specs.States.{longer, alignment, padding}
use Rattle.definition.specs.Fields.{word, encode, number, decode}
use Rattle.definition.specs.Measuring.{measure_op, measure}
use Rattle.definition.specs.Writing.{write_field, write_op}
use Rattle.definition.specs.Reading.{read_field, read_op, read}
use Rattle.definition.specs.Program.{printed}
use Rattle.definition.specs.Calls.{Call, string_packsize, list_bound, pack, pack_continued, string_pack, unpack, string_unpack}
use Rattle.definition.specs.Kept.{kept_list}
use Rattle.definition.specs.declared.State.{State}
use Rattle.definition.specs.declared.Continued.{Continued}
use Rattle.definition.specs.declared.Unpacked.{Unpacked}

-- A profile is a call: writing or continued writing of a list with room for so many bytes, measuring, the list bound, reading of bytes from a start, the kept values of a writing, or the program's input.
pub data Profile : Type 0 where
  packs : List ℕ → List ℕ → ℕ → Profile
  continues : State → List ℕ → List ℕ → ℕ → Profile
  sizes : List ℕ → Profile
  bounds : List ℕ → ℕ → Profile
  reads : List ℕ → List ℕ → ℤ → Profile
  keeps : List ℕ → List ℕ → Profile
  prints : List ℕ → Profile

-- What it gives: bytes; a number; values and a position; or bytes, values used, items run and the next state.
pub data Result : Type 0 where
  data_bytes : List ℕ → Result
  data_number : ℕ → Result
  data_values : List Value → ℕ → Result
  data_continued : List ℕ → ℕ → ℕ → State → Result

abbrev pub room : ℕ → List ℕ
room n = replicate n 238

abbrev packed : Call ℕ → Checked Result
packed c = c.answer >>= λ n. accepted (data_bytes (take n c.buffer))

abbrev continued : Call Continued → Checked Result
continued c = c.answer >>= λ a. accepted (data_continued (take a.written c.buffer) a.used a.items a.next)

abbrev unpacked : Call Unpacked → Checked Result
unpacked c = c.answer >>= λ u. values (take u.length c.buffer) >>= λ vs. accepted (data_values vs u.next.0)

abbrev pub result : Profile → Checked Result
result (packs f l n) = packed (string_pack f l (room n))
result (continues s f l n) = continued (pack_continued s f l (room n))
result (sizes f) = string_packsize f >>= λ n. accepted (data_number n)
result (bounds f d) = list_bound f d >>= λ n. accepted (data_number n)
result (reads f d p) = unpacked (string_unpack f d p (room 40))
result (keeps f l) = values (kept_list f l) >>= λ vs. accepted (data_values vs 0)
result (prints s) = accepted (data_bytes (printed s))

-- ---- how the rows are written: f pack values, f size n

abbrev pub Row : Type 0
Row = Profile × Checked Result

-- a format with values gives bytes, or a refusal; there is room for 24 bytes
abbrev pub pack_gives : String → List Value → List ℕ → Row
pack_gives f vs s = (packs (bytes f) (list_of vs) 24, accepted (data_bytes s))

abbrev pub pack_refused : String → List Value → ℕ → Row
pack_refused f vs k = (packs (bytes f) (list_of vs) 24, refused k)

abbrev pub size_gives : String → ℕ → Row
size_gives f n = (sizes (bytes f), accepted (data_number n))

abbrev pub size_refused : String → ℕ → Row
size_refused f k = (sizes (bytes f), refused k)

-- a format and bytes, from a start, give values and the next position, or a refusal
abbrev pub read_gives : String → List ℕ → ℤ → List Value → ℕ → Row
read_gives f d p vs q = (reads (bytes f) d p, accepted (data_values vs q))

abbrev pub read_refused : String → List ℕ → ℤ → ℕ → Row
read_refused f d p k = (reads (bytes f) d p, refused k)

-- all of a table's calls give what it says
abbrev pub Hold : List Row → Type 0
Hold rows = map (λ r. result r.0) rows ≡ map (λ r. r.1) rows

abbrev pub int : ℕ → Value
int n = integer (pos n)

-- -1 - n
abbrev pub neg : ℕ → Value
neg n = integer (negsuc n)

abbrev pub str : String → Value
str s = text (bytes s)

-- ---- P1 to P14, with the three further measures
pub profiles : List Row
profiles =
    -- P1, P2, P3
    pack_gives "" [] []
    ∷ pack_gives "<i3" (neg 1 ∷ []) (0xfe ∷ 0xff ∷ 0xff ∷ [])
    ∷ pack_gives ">I2" (int 258 ∷ []) (1 ∷ 2 ∷ [])
    -- P4, P5
    ∷ pack_gives "<!4 b i" (int 1 ∷ int 2 ∷ []) (1 ∷ 0 ∷ 0 ∷ 0 ∷ 2 ∷ 0 ∷ 0 ∷ 0 ∷ [])
    ∷ pack_gives "<!8bn" (int 1 ∷ float 0x3ff0_0000_0000_0000 ∷ []) (1 ∷ (replicate 13 0 ++ (0xf0 ∷ 0x3f ∷ [])))
    -- P6, P7, P8
    ∷ pack_gives "b" (int 200 ∷ []) (0xc8 ∷ [])
    ∷ pack_refused "i1" (int 200 ∷ []) 13
    ∷ pack_gives "<s1" (str "AB" ∷ []) (2 ∷ 0x41 ∷ 0x42 ∷ [])
    ∷ pack_gives "c3" (str "AB" ∷ []) (0x41 ∷ 0x42 ∷ 0 ∷ [])
    -- P9, P10
    ∷ size_refused "!4i3" 6
    ∷ size_gives "!2i3" 3
    ∷ read_refused "<i9" (replicate 8 0xff ++ (0 ∷ [])) (pos 1) 18
    ∷ read_gives "<I9" (replicate 8 0xff ++ (0 ∷ [])) (pos 1) (neg 0 ∷ []) 10
    -- P11, P12, P13
    ∷ pack_gives "<T" (float 0xbfe0_0000_0000_0000 ∷ []) (replicate 8 0xff)
    ∷ pack_gives "<f" (int 1152921573326323713 ∷ []) (0 ∷ 0 ∷ 0x80 ∷ 0x5d ∷ [])
    ∷ pack_gives "<!4bXi" (int 1 ∷ []) (1 ∷ 0 ∷ 0 ∷ 0 ∷ [])
    ∷ pack_refused "X i" (int 1 ∷ []) 7
    -- P14
    ∷ read_refused "" (7 ∷ []) (pos 0) 16
    ∷ read_refused "b" (7 ∷ []) (pos 2) 17
    ∷ read_gives "" (7 ∷ []) (pos 2) [] 2
    -- the further measures
    ∷ size_gives "c9223372036854775807" (2 ^ 63 - 1)
    ∷ size_refused "c9223372036854775807b" 9
    ∷ size_refused "c18446744073709551616" 2
    ∷ []

pub profiles_hold : Hold profiles
unfolding profiles little total signed laid list_of field_of values_past entry_list options digits next_byte taken items_past value numeral_of op_of longer
    alignment padding word encode number decode measure_op measure write_field write_op read_field read_op read pack string_pack unpack string_unpack
    to_single from_single of_bits to_bits of_int of_fields odd round nan_bits size span climb units count_trailing_zeros
profiles_hold = refl
