-- The examples hold by computation. In the reading of 65,536 bytes their number comes up three times as checks are passed.
use Prim.Native.Nat.{ℕ, ◌-◌, ◌^◌}
use native.Mathlib.Omega.{arith}
use mathlib.Core.Path.{◌≡◌, refl, sym, ◌∙◌}
use mathlib.Core.List.{[], ◌∷◌, ◌++◌}
use lib.ListN.{length, drop}
use lib.Seq.{length-take-le}
use lib.Ieee.{of_bits, to_bits, of_int, of_fields, odd, round, nan_bits, size, span, climb, units}
use lib.Count.{count_trailing_zeros}
use borrow.Author.Tests.{lt-leb}
use Rattle.definition.specs.Bytes.{bytes, little, total, signed, laid}
use Rattle.definition.specs.Lists.{list_of, field_of, values_past, fields_after}
use Rattle.definition.specs.Options.{entry_list, options}
use Rattle.definition.specs.Items.{digits, taken, items_past, value, numeral_of, items}
use Rattle.definition.specs.Ops.{op_of}
use Rattle.definition.specs.States.{longer, alignment, padding}
use Rattle.definition.specs.Fields.{word, encode, number, decode, kept}
use Rattle.definition.specs.Measuring.{measure_op, measure}
use Rattle.definition.specs.Writing.{write_field, write_op}
use Rattle.definition.specs.Reading.{read_field, read_op, read}
use Rattle.definition.specs.Program.{decimal_in}
use Rattle.definition.specs.Calls.{pack, pack_continued, string_pack, unpack, string_unpack}
use Rattle.definition.specs.Answers.{accepted}
use Rattle.definition.specs.Trays.{run_of, first_list, lists_past, lists, records, pack_tray}
use Rattle.laws.specs.Claims.{in_turn}
use Rattle.laws.specs.Premises.{Needed, Divided, Prefixed}
use Rattle.laws.specs.Trays.{one_by_one, TraysNeeded}
use Rattle.laws.proofs.Answers.{bound}
use Rattle.laws.proofs.Runs.{lists_first, first_list_lem}

pub needed : Needed
unfolding little total signed laid list_of field_of values_past fields_after entry_list options digits taken items_past value numeral_of op_of longer alignment padding
    word encode number decode kept measure_op measure write_field write_op read_field read_op read pack pack_continued string_pack unpack string_unpack in_turn decimal_in
    of_bits to_bits of_int of_fields odd round nan_bits size span climb units count_trailing_zeros
needed = record {
  refused_writing = (refl, refl, refl);
  no_bytes = (refl, refl, refl);
  long_chars = (refl, λ d h. rw (h, h, h, length-take-le 65536 d (omega arith)));
  float_for_j = refl;
  no_multiple = (refl, refl);
  not_held = (refl, refl);
  long_data = λ f d p b h. rw (lt-leb (length d) (2 ^ 63 - 1) h);
  short_list = refl;
  short_record = refl;
  whole = refl;
  cut_inside = refl;
  short_part = refl;
  short_whole = refl;
  no_part = (refl, refl);
  not_returned = refl;
  room_for_record = refl;
  digits_lost = refl;
  no_alignment = λ h. omega (arith, h);
}

pub divided : Divided
unfolding little total signed laid list_of field_of values_past fields_after entry_list options digits taken items_past value numeral_of op_of longer alignment padding word encode write_field write_op pack pack_continued in_turn
divided = record {
  parts = record { groups = items options (bytes "<!4 b") ∷ [] ∷ items options (bytes " i") ∷ []; whole = refl; parts = refl };
  whole = refl;
  in_turn_row = refl;
}

pub prefixed : Prefixed
unfolding little total signed laid list_of field_of values_past fields_after entry_list options digits taken items_past value numeral_of op_of longer alignment padding
    word encode number decode write_field write_op read_field read_op read pack pack_continued unpack string_unpack in_turn
prefixed = record { wrote = refl; held = (refl, (refl, (refl, (refl, (refl, (refl, tt)))))); back = refl; in_turn_row = refl }

pub trays_needed : TraysNeeded
unfolding little total field_of values_past options taken items_past op_of longer alignment padding write_op pack string_pack run_of first_list lists_past records pack_tray one_by_one
trays_needed = record {
  fits = λ l h e.
      let first : first_list (run_of (l ∷ [])) ≡ accepted [] = rw h (first_list_lem (0 ∷ 0 ∷ []) [] (l ++ []) refl refl) in
      let b = bound (lists (drop 2 (run_of (l ∷ [])))) (λ ls. accepted ([] ∷ ls)) (sym (lists_first (run_of (l ∷ [])) [] (omega arith) first) ∙ e) in
      let z : length l ≡ 0 = cc b.rest in
      omega arith;
  below = (refl, λ e. let z : ◌≡◌ {A = ℕ} 0 1 = cc in omega arith);
  runs = (refl, refl, refl);
  long = (refl, refl, refl);
}
