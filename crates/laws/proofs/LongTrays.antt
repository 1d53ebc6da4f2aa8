-- A record of n bytes, by c and a text of one, for every n up to 2^63-1: what is refused is told without its bytes being worked out.
use Prim.Native.Nat.{ℕ, ◌+◌, ◌-◌, ◌*◌, ◌^◌, ◌≤◌, ◌<◌}
use native.Mathlib.Nat.{zero-add}
use native.Mathlib.Omega.{arith}
use mathlib.Core.Path.{◌≡◌, refl, ap, ◌∙◌}
use mathlib.Core.Bool.{false}
use mathlib.Core.List.{List, [], ◌∷◌, ◌++◌, map, append-nil}
use lib.Dec.{leb, lit≤}
use lib.IntN.{pos}
use lib.ListN.{length, replicate, length-append, length-map, length-replicate}
use borrow.Author.Tests.{le-leb, lt-leb}
use Rattle.definition.specs.Answers.{refused, accepted}
use Rattle.definition.specs.Bytes.{little, total, signed}
use Rattle.definition.specs.Values.{integer, text}
use Rattle.definition.specs.Lists.{list_of, field_of, values_past}
use Rattle.definition.specs.Options.{entry_list, options}
use Rattle.definition.specs.Items.{digits, taken, items_past, value, numeral_of}
use Rattle.definition.specs.Ops.{op_of, ops}
use Rattle.definition.specs.States.{start, further, longer, alignment, padding}
use Rattle.definition.specs.Fields.{filled, encode}
use Rattle.definition.specs.Writing.{Output, output, byte, place, write_field, write_op}
use Rattle.definition.specs.Calls.{pack, record_of}
use Rattle.definition.specs.Trays.{run_of, first_list, lists_past, records, pack_tray}
use Rattle.definition.specs.declared.Op.TheVariants.{Put}
use Rattle.definition.specs.declared.Field.TheVariants.{Chars}
use Rattle.laws.specs.Trays.{tray_fails, longest, letter, TraysLong}
use Rattle.laws.proofs.Calls.{length_record}

-- c of n bytes takes the text A, and no integer
module _ (n : ℕ) (least : 1 ≤ n) (most : n ≤ 2 ^ 63 - 1) where
  length_filled : length (filled n (65 ∷ [])) ≡ n
  length_filled = length-append (65 ∷ []) (replicate (n - 1) 0) ∙ ap (λ (k : ℕ). 1 + k) (length-replicate {A = ℕ} (n - 1) 0) ∙ omega arith

  abbrev put_out : Output
  put_out = output (map byte (filled n (65 ∷ []))) ((Chars n, text (65 ∷ [])) ∷ []) 1

  of_text : write_field (place start (text (65 ∷ []) ∷ [])) (Chars n) ≡ accepted (place (further start n) [], put_out)
  unfolding write_field padding alignment longer encode
  of_text = rw (zero-add n, le-leb n (2 ^ 63 - 1) most, le-leb 1 n least, length_filled, zero-add n, zero-add n, le-leb n (2 ^ 63 - 1) most)

  of_integer : write_field (place start (integer (pos 1) ∷ [])) (Chars n) ≡ refused 12
  unfolding write_field padding alignment longer encode
  of_integer = rw (zero-add n, le-leb n (2 ^ 63 - 1) most)

  -- a format of this one item
  module _ (f : List ℕ) (is : ops options f ≡ accepted (Put (Chars n)) ∷ []) where
    pack_text : pack start f letter ≡ accepted (place (further start n) [], output (put_out.cells ++ []) put_out.took 1)
    unfolding pack list_of field_of values_past little total write_op
    pack_text = rw (is, of_text)

    pack_integer : pack start f (list_of (integer (pos 1) ∷ [])) ≡ refused 12
    unfolding pack list_of field_of values_past little total signed write_op
    pack_integer = rw (is, of_integer)

    abbrev bs : List ℕ
    bs = record_of (output (put_out.cells ++ []) put_out.took 1)

    length_three : length (bs ++ (bs ++ (bs ++ []))) ≡ 3 * n
    length_three =
        let one : length bs ≡ n = length_record (output (put_out.cells ++ []) put_out.took 1) ∙ ap length (append-nil put_out.cells) ∙ length-map (filled n (65 ∷ [])) byte ∙ length_filled in
        omega (arith, one, length-append bs (bs ++ (bs ++ [])), length-append bs (bs ++ []), length-append bs [])

    pub too_long : (b : List ℕ) → length b < 3 * n → pack_tray f (run_of (letter ∷ letter ∷ letter ∷ [])) b ≡ tray_fails 22 0 b
    unfolding pack_tray records lists_past first_list run_of little total list_of
    too_long b h =
        let m : leb (length (bs ++ (bs ++ (bs ++ [])))) (length b) ≡ false = lt-leb (length (bs ++ (bs ++ (bs ++ [])))) (length b) (omega (arith, length_three)) in
        rw (pack_text, m)

    pub later : (b : List ℕ) → pack_tray f (run_of (letter ∷ letter ∷ letter ∷ list_of (integer (pos 1) ∷ []) ∷ [])) b ≡ tray_fails 12 4 b
    unfolding pack_tray records lists_past first_list run_of little total list_of
    later b = rw (pack_text, pack_integer)

pub trays_long : TraysLong
unfolding entry_list options digits taken items_past value numeral_of op_of
trays_long = record {
  too_long = too_long (2 ^ 63 - 1) (lit≤ tt) (lit≤ tt) longest refl;
  later = later (2 ^ 63 - 1) (lit≤ tt) (lit≤ tt) longest refl;
}
