-- What each of the 256 bytes means: alone, behind X, with digits, in writing, in reading; and what each numeral makes of an option. A statement is about all bytes or all numerals of 0..17, its answers are the documents', and it holds by computation.
use Rattle.std.specs.Prelude.{ℕ, zero, suc, ◌+◌, ◌-◌, ◌^◌, min, ◌≡◌, refl, Bool, false, ◌||◌, cond, List, [], ◌∷◌, ◌++◌, map, eqb, pos, length, replicate}
use Prim.Native.String.{String}
use Rattle.std.specs.Float.Ieee.{of_bits, to_bits, of_int, of_fields, odd, round, nan_bits, size, span, climb, units}
use Rattle.std.specs.Int.Count.{count_trailing_zeros}
use Rattle.single.specs.Single.{to_single, from_single}
use Rattle.definition.specs.Answers.{Checked, refused, accepted}
use Rattle.definition.specs.Bytes.{bytes, little, total, signed, laid}
use Rattle.definition.specs.Values.{Value, float, other}
use Rattle.definition.specs.Lists.{list_of, field_of, values_past}
use Rattle.definition.specs.Options.{entry_list, options}
use Rattle.definition.specs.Items.{digits, next_byte, taken, items_past, items, value, numeral_of}
use Rattle.definition.specs.Ops.{op_of}
use Rattle.definition.specs.States.{longer, alignment, padding}
use Rattle.definition.specs.Fields.{word, encode, number, decode, kept}
use Rattle.definition.specs.Measuring.{measure_op, measure}
use Rattle.definition.specs.Writing.{write_field, write_op}
use Rattle.definition.specs.Reading.{read_field, read_op, read}
use Rattle.definition.specs.Bound.{bound_op, bound}
use Rattle.definition.specs.Calls.{string_packsize, list_bound, pack, string_pack, unpack, string_unpack}
use Rattle.definition.specs.Profiles.{packs, reads, keeps, Result, data_bytes, data_values, result, int, neg, str}

-- ---- how a statement is written: rows, each a text and the answer of every byte of it

-- the bytes of each row give its answer
abbrev pub Each : {A : Type 0} → (ℕ → A) → List (String × A) → Type 0
Each f rows = map (λ r. map f (bytes r.0)) rows ≡ map (λ r. map (λ b. r.1) (bytes r.0)) rows

-- n and the k - 1 numbers after it
abbrev pub from : ℕ → ℕ → List ℕ
from n zero = []
from n (suc k) = n ∷ from (suc n) k

abbrev has : List ℕ → ℕ → Bool
has [] b = false
has (c ∷ s) b = eqb b c || has s b

-- what rows say of a byte; `rest` where it stands in none
abbrev said : {A : Type 0} → List (String × A) → A → ℕ → A
said [] rest b = rest
said (r ∷ rows) rest b = cond (has (bytes r.0) b) r.1 (said rows rest b)

-- k bytes, from n on, give what rows say of them
abbrev pub Says : {A : Type 0} → ℕ → ℕ → (ℕ → A) → List (String × A) → A → Type 0
Says n k f rows rest = map f (from n k) ≡ map (said rows rest) (from n k)

-- ---- measuring

-- a byte by itself
abbrev alone : List (String × Checked ℕ)
alone =
    (" \t\n\r<>=!", accepted 0)
    ∷ ("bBx", accepted 1)
    ∷ ("hH", accepted 2)
    ∷ ("iIlLf", accepted 4)
    ∷ ("jJTdn", accepted 8)
    ∷ ("X", refused 7)
    ∷ ("c", refused 8)
    ∷ ("zs", refused 10)
    ∷ []

-- after one byte, at the limit 16
abbrev aligned : List (String × Checked ℕ)
aligned =
    (" \t\n\r<>=!", accepted 1)
    ∷ ("bBx", accepted 2)
    ∷ ("hH", accepted 4)
    ∷ ("iIlLf", accepted 8)
    ∷ ("jJTdn", accepted 16)
    ∷ ("X", refused 7)
    ∷ ("c", refused 8)
    ∷ ("zs", refused 10)
    ∷ []

-- behind X there; every other byte below 128 aligns by 1
abbrev behind_X : List (String × Checked ℕ)
behind_X =
    (" \t\n\r<>=!csxzX", refused 7)
    ∷ ("hH", accepted 2)
    ∷ ("iIlLf", accepted 4)
    ∷ ("jJTdn", accepted 8)
    ∷ []

-- before the digit 2, alone and behind X; where it belongs to no item it is no option
abbrev before_2 : List (String × Checked ℕ)
before_2 =
    ("iIlLc", accepted 2)
    ∷ ("!X", accepted 0)
    ∷ ("sz", refused 10)
    ∷ (" \t\n\r<>=bBhHjJTfdnx", refused 1)
    ∷ []

abbrev behind_X_before_2 : List (String × Checked ℕ)
behind_X_before_2 =
    (" \t\n\r<>=!csxzX", refused 7)
    ∷ ("iIlL", accepted 2)
    ∷ ("f", accepted 4)
    ∷ ("bBhHjJTdnq", refused 1)
    ∷ []

-- behind i: the ten digits belong to it, the bytes beside them do not
abbrev behind_i : List (String × Checked ℕ)
behind_i =
    ("0", refused 3)
    ∷ ("1", accepted 1)
    ∷ ("2", accepted 2)
    ∷ ("3", accepted 3)
    ∷ ("4", accepted 4)
    ∷ ("5", accepted 5)
    ∷ ("6", accepted 6)
    ∷ ("7", accepted 7)
    ∷ ("8", accepted 8)
    ∷ ("9", accepted 9)
    ∷ ("/:", refused 1)
    ∷ (" ", accepted 4)
    ∷ []

-- between one byte and j, at the limit 4: only ! sets the limit, to 8
abbrev before_j : List (String × Checked ℕ)
before_j =
    ("<>= \t\n\r", accepted 12)
    ∷ ("!", accepted 16)
    ∷ ("bBxhH", accepted 12)
    ∷ ("iIlLf", accepted 16)
    ∷ ("jJTdn", accepted 20)
    ∷ ("X", accepted 4)
    ∷ ("c", refused 8)
    ∷ ("zs", refused 10)
    ∷ []

-- the list bound, of five bytes of data
abbrev bounded : List (String × Checked ℕ)
bounded =
    ("bBhHiIlLjJTfdn", accepted 11)
    ∷ ("zs", accepted 8)
    ∷ (" \t\n\r<>=!x", accepted 0)
    ∷ ("X", refused 7)
    ∷ ("c", refused 8)
    ∷ []

-- ---- items: how many bytes each item has after its first, before 22 and behind X

abbrev lengths : List ℕ → List ℕ
lengths f = map (λ i. length i.more) (items options f)

abbrev taken_digits : List (String × List ℕ)
taken_digits =
    ("iIlLcs!", 2 ∷ [])
    ∷ ("X", 1 ∷ 0 ∷ [])
    ∷ (" \t\n\r<>=bBhHjJTfdnzxq", 0 ∷ 0 ∷ 0 ∷ [])
    ∷ []

abbrev taken_behind_X : List (String × List ℕ)
taken_behind_X =
    ("iIlLf", 3 ∷ [])
    ∷ (" \t\n\r<>=!bBhHjJTdncszxXq", 1 ∷ 0 ∷ 0 ∷ [])
    ∷ []

-- ---- writing a value

abbrev Answers : Type 0
Answers = List (String × Checked Result)

abbrev writing : List Value → ℕ → Checked Result
writing vs b = result (packs (b ∷ []) (list_of vs) 9)

abbrev pub written : List ℕ → Checked Result
written s = accepted (data_bytes s)

-- what takes no value
abbrev valueless : Answers
valueless =
    (" \t\n\r<>=!", written [])
    ∷ ("x", written (0 ∷ []))
    ∷ ("X", refused 7)
    ∷ ("c", refused 8)
    ∷ []

abbrev of_minus_2 : Answers
of_minus_2 =
    ("bB", written (0xfe ∷ []))
    ∷ ("hH", written (0xfe ∷ 0xff ∷ []))
    ∷ ("il", written (0xfe ∷ replicate 3 0xff))
    ∷ ("jT", written (0xfe ∷ replicate 7 0xff))
    ∷ ("ILJ", refused 13)
    ∷ ("f", written (0 ∷ 0 ∷ 0 ∷ 0xc0 ∷ []))
    ∷ ("dn", written (replicate 7 0 ++ (0xc0 ∷ [])))
    ∷ ("zs", refused 12)
    ∷ valueless

abbrev of_2_to_33 : Answers
of_2_to_33 =
    ("bB", written (0 ∷ []))
    ∷ ("hH", written (0 ∷ 0 ∷ []))
    ∷ ("iIlL", refused 13)
    ∷ ("jJT", written (0 ∷ 0 ∷ 0 ∷ 0 ∷ 2 ∷ 0 ∷ 0 ∷ 0 ∷ []))
    ∷ ("f", written (0 ∷ 0 ∷ 0 ∷ 0x50 ∷ []))
    ∷ ("dn", written (replicate 7 0 ++ (0x42 ∷ [])))
    ∷ ("zs", refused 12)
    ∷ valueless

-- 2.5 has no integer
abbrev of_2_and_a_half : Answers
of_2_and_a_half =
    ("bBhHiIlLzs", refused 12)
    ∷ ("jJdn", written (replicate 6 0 ++ (4 ∷ 0x40 ∷ [])))
    ∷ ("T", written (2 ∷ replicate 7 0))
    ∷ ("f", written (0 ∷ 0 ∷ 0x20 ∷ 0x40 ∷ []))
    ∷ valueless

abbrev of_a_text : Answers
of_a_text =
    ("bBhHiIlLjJTfdn", refused 12)
    ∷ ("z", written (0x41 ∷ 0 ∷ []))
    ∷ ("s", written (1 ∷ (replicate 7 0 ++ (0x41 ∷ []))))
    ∷ valueless

abbrev of_another : Answers
of_another = ("bBhHiIlLjJTfdnzs", refused 12) ∷ valueless

abbrev of_none : Answers
of_none = ("bBhHiIlLjJTfdnzs", refused 11) ∷ valueless

-- 258 by h, after the byte; and after > and the byte
abbrev order : List (String × Checked Result)
order =
    ("<= \t\n\r!", written (2 ∷ 1 ∷ []))
    ∷ (">", written (1 ∷ 2 ∷ []))
    ∷ []

abbrev order_after_big : List (String × Checked Result)
order_after_big =
    ("<=", written (2 ∷ 1 ∷ []))
    ∷ ("> \t\n\r!", written (1 ∷ 2 ∷ []))
    ∷ []

-- ---- kept values: none where writing is refused or takes none

abbrev keeping : Value → ℕ → Checked Result
keeping v b = result (keeps (b ∷ []) (list_of (v ∷ [])))

abbrev kept_values : List Value → Checked Result
kept_values vs = accepted (data_values vs 0)

abbrev kept_of_minus_2 : Answers
kept_of_minus_2 =
    ("bhiljT", kept_values (neg 1 ∷ []))
    ∷ ("B", kept_values (int 254 ∷ []))
    ∷ ("H", kept_values (int 65534 ∷ []))
    ∷ ("fdn", kept_values (float 0xc000_0000_0000_0000 ∷ []))
    ∷ ("ILJzscxX<>=! \t\n\r", kept_values [])
    ∷ []

abbrev kept_of_2_and_a_half : Answers
kept_of_2_and_a_half =
    ("jJ", kept_values (int 0x4004_0000_0000_0000 ∷ []))
    ∷ ("T", kept_values (int 2 ∷ []))
    ∷ ("fdn", kept_values (float 0x4004_0000_0000_0000 ∷ []))
    ∷ ("bBhHiIlLzscxX<>=! \t\n\r", kept_values [])
    ∷ []

abbrev kept_of_a_text : Answers
kept_of_a_text =
    ("zs", kept_values (str "A" ∷ []))
    ∷ ("bBhHiIlLjJTfdncxX<>=! \t\n\r", kept_values [])
    ∷ []

-- ---- reading eight bytes FE

abbrev took : List Value → ℕ → Checked Result
took vs next = accepted (data_values vs next)

abbrev readings : Answers
readings =
    ("b", took (neg 1 ∷ []) 2)
    ∷ ("B", took (int 254 ∷ []) 2)
    ∷ ("h", took (neg 257 ∷ []) 3)
    ∷ ("H", took (int 65278 ∷ []) 3)
    ∷ ("il", took (neg 16843009 ∷ []) 5)
    ∷ ("IL", took (int 4278124286 ∷ []) 5)
    ∷ ("jJT", took (neg 72340172838076673 ∷ []) 9)
    ∷ ("f", took (float 0xc7df_dfdf_c000_0000 ∷ []) 5)
    ∷ ("dn", took (float 0xfefe_fefe_fefe_fefe ∷ []) 9)
    ∷ ("z", refused 19)
    ∷ ("s", refused 17)
    ∷ (" \t\n\r<>=!", took [] 1)
    ∷ ("x", took [] 2)
    ∷ ("X", refused 7)
    ∷ ("c", refused 8)
    ∷ []

-- ---- numerals

abbrev numerals : List String
numerals = "0" ∷ "1" ∷ "2" ∷ "3" ∷ "4" ∷ "5" ∷ "6" ∷ "7" ∷ "8" ∷ "9" ∷ "10" ∷ "11" ∷ "12" ∷ "13" ∷ "14" ∷ "15" ∷ "16" ∷ "17" ∷ []

-- the numerals between two texts
abbrev each : {A : Type 0} → (List ℕ → A) → String → String → List A
each f before behind = map (λ n. f (bytes before ++ (bytes n ++ bytes behind))) numerals

-- g of 1..16, and 3 at both ends
abbrev sized : {A : Type 0} → (ℕ → Checked A) → List (Checked A)
sized g = refused 3 ∷ (map g (from 1 16) ++ (refused 3 ∷ []))

-- what is so of the powers of two of 1..16, and the refusal k of the others
abbrev powers : {A : Type 0} → ℕ → (ℕ → A) → List (Checked A)
powers k g = accepted (g 1) ∷ accepted (g 2) ∷ refused k ∷ accepted (g 4) ∷ refused k ∷ refused k ∷ refused k ∷ accepted (g 8) ∷ (replicate 7 (refused k) ++ (accepted (g 16) ∷ []))

-- lengths of records
abbrev record_length : Value → List ℕ → Checked ℕ
record_length v f = (string_pack f (list_of (v ∷ [])) (replicate 33 238)).answer

-- ---- the statements

pub record Entries : Type 0 where
  pub after_a_byte : Each (λ b. string_packsize (bytes "!16x" ++ (b ∷ []))) aligned
  pub with_a_digit : Each (λ b. string_packsize (b ∷ bytes "2")) before_2
  pub with_a_digit_behind_X : Each (λ b. string_packsize (bytes "!16xX" ++ (b ∷ bytes "2"))) behind_X_before_2
  pub digits_of_i : Each (λ b. string_packsize (bytes "i" ++ (b ∷ []))) behind_i
  pub limit : Each (λ b. string_packsize (bytes "!4x" ++ (b ∷ bytes "j"))) before_j
  pub list_bound_row : Each (λ b. list_bound (b ∷ []) 5) bounded
  pub items_of_digits : Each (λ b. lengths (b ∷ bytes "22")) taken_digits
  pub items_behind_X : Each (λ b. lengths (bytes "X" ++ (b ∷ bytes "22"))) taken_behind_X
  pub minus_2 : Each (writing (neg 1 ∷ [])) of_minus_2
  pub two_to_33 : Each (writing (int (2 ^ 33) ∷ [])) of_2_to_33
  pub two_and_a_half : Each (writing (float 0x4004_0000_0000_0000 ∷ [])) of_2_and_a_half
  pub a_text : Each (writing (str "A" ∷ [])) of_a_text
  pub another : Each (writing (other ∷ [])) of_another
  pub none : Each (writing []) of_none
  pub little_h : Each (λ b. result (packs (b ∷ bytes "h") (list_of (int 258 ∷ [])) 2)) order
  pub big_h : Each (λ b. result (packs (bytes ">" ++ (b ∷ bytes "h")) (list_of (int 258 ∷ [])) 2)) order_after_big
  pub keeps_minus_2 : Each (keeping (neg 1)) kept_of_minus_2
  pub keeps_2_and_a_half : Each (keeping (float 0x4004_0000_0000_0000)) kept_of_2_and_a_half
  pub keeps_a_text : Each (keeping (str "A")) kept_of_a_text
  pub eight_bytes : Each (λ b. result (reads (b ∷ []) (replicate 8 0xfe) (pos 1))) readings
  -- numerals: sizes, alignments and limits
  pub i_sizes : each string_packsize "i" "" ≡ sized accepted
  pub I_sizes : each string_packsize "I" "" ≡ sized accepted
  pub l_sizes : each string_packsize "l" "" ≡ sized accepted
  pub L_sizes : each string_packsize "L" "" ≡ sized accepted
  pub s_sizes : each string_packsize "s" "" ≡ sized (λ n. refused 10)
  pub s_records : each (record_length (str "A")) "s" "" ≡ sized (λ n. accepted (n + 1))
  pub c_sizes : each string_packsize "c" "" ≡ map accepted (from 0 18)
  pub alignments : each string_packsize "!16xi" "" ≡ refused 3 ∷ (powers 6 (λ n. n + n) ++ (refused 3 ∷ []))
  pub X_alignments : each string_packsize "!16xXi" "" ≡ refused 3 ∷ (powers 6 (λ n. n) ++ (refused 3 ∷ []))
  -- of the length before the text of s, in writing, in reading and in the list bound; 10 comes first in measuring, and 8 bytes suit every limit
  pub s_alignments : each (record_length (str "A")) "!16xs" "" ≡ refused 3 ∷ (powers 6 (λ n. n + n + 1) ++ (refused 3 ∷ []))
  pub s_readings : each (λ f. result (reads f (replicate 32 0) (pos 1))) "!16xs" "" ≡ refused 3 ∷ (powers 6 (λ n. data_values (str "" ∷ []) (n + n + 1)) ++ (refused 3 ∷ []))
  pub s_bounds : each (λ f. list_bound f 5) "!16xs" "" ≡ refused 3 ∷ (powers 6 (λ n. 8) ++ (refused 3 ∷ []))
  pub s_measures : each string_packsize "!16xs" "" ≡ sized (λ n. refused 10)
  pub s_limits : each (record_length (str "A")) "!" "xs" ≡ refused 4 ∷ (powers 5 (λ n. min n 8 + 9) ++ (refused 4 ∷ []))
  pub limits : each string_packsize "!" "xXi16" ≡ refused 4 ∷ (powers 5 (λ n. n) ++ (refused 4 ∷ []))
  -- "Above 8 bytes an integer is filled with its sign": -2 in each size, in both orders
  pub little_sizes : each (λ f. result (packs f (list_of (neg 1 ∷ [])) 16)) "<i" "" ≡ sized (λ n. written (0xfe ∷ replicate (n - 1) 0xff))
  pub big_sizes : each (λ f. result (packs f (list_of (neg 1 ∷ [])) 16)) ">i" "" ≡ sized (λ n. written (replicate (n - 1) 0xff ++ (0xfe ∷ [])))
  pub little_unsigned : each (λ f. result (packs f (list_of (int 2 ∷ [])) 16)) "<L" "" ≡ sized (λ n. written (2 ∷ replicate (n - 1) 0))
  pub big_unsigned : each (λ f. result (packs f (list_of (int 2 ∷ [])) 16)) ">L" "" ≡ sized (λ n. written (replicate (n - 1) 0 ++ (2 ∷ [])))
  -- all 256 bytes; "1 .. any byte above 127 even after X"
  pub by_itself : Says 0 256 (λ b. string_packsize (b ∷ [])) alone (refused 1)
  pub behind_an_X : Says 0 128 (λ b. string_packsize (bytes "!16xX" ++ (b ∷ []))) behind_X (accepted 1)
  pub behind_an_X_above_127 : Says 128 128 (λ b. string_packsize (bytes "!16xX" ++ (b ∷ []))) [] (refused 1)

pub entries : Entries
unfolding little total signed laid list_of field_of values_past entry_list options digits next_byte taken items_past value numeral_of op_of longer alignment
    padding word encode number decode kept measure_op measure write_field write_op read_field read_op read bound_op bound list_bound pack string_pack unpack
    string_unpack to_single from_single of_bits to_bits of_int of_fields odd round nan_bits size span climb units count_trailing_zeros
entries =
    record {
      after_a_byte = refl;
      with_a_digit = refl;
      with_a_digit_behind_X = refl;
      digits_of_i = refl;
      limit = refl;
      list_bound_row = refl;
      items_of_digits = refl;
      items_behind_X = refl;
      minus_2 = refl;
      two_to_33 = refl;
      two_and_a_half = refl;
      a_text = refl;
      another = refl;
      none = refl;
      little_h = refl;
      big_h = refl;
      keeps_minus_2 = refl;
      keeps_2_and_a_half = refl;
      keeps_a_text = refl;
      eight_bytes = refl;
      i_sizes = refl;
      I_sizes = refl;
      l_sizes = refl;
      L_sizes = refl;
      s_sizes = refl;
      s_records = refl;
      c_sizes = refl;
      alignments = refl;
      X_alignments = refl;
      s_alignments = refl;
      s_readings = refl;
      s_bounds = refl;
      s_measures = refl;
      s_limits = refl;
      limits = refl;
      little_sizes = refl;
      big_sizes = refl;
      little_unsigned = refl;
      big_unsigned = refl;
      by_itself = refl;
      behind_an_X = refl;
      behind_an_X_above_127 = refl;
    }
