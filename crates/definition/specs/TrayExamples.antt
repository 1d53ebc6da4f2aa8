-- Worked trays, which hold by computation: what a run is, the order of checks, places, records that know nothing of each other, buffers just long enough.
use Rattle.std.specs.Prelude.{ℕ, refl, List, [], ◌∷◌, map, replicate}
use Prim.Native.String.{String}
use Rattle.definition.specs.Answers.{Checked, refused, accepted}
use Rattle.definition.specs.Bytes.{bytes, little, total, signed, laid}
use Rattle.definition.specs.Values.{Value}
use Rattle.definition.specs.Lists.{list_of, field_of, values_past}
use Rattle.definition.specs.Options.{entry_list, options}
use Rattle.definition.specs.Items.{digits, next_byte, taken, items_past, value, numeral_of}
use Rattle.definition.specs.Ops.{op_of}
use Rattle.definition.specs.States.{longer, alignment, padding}
use Rattle.definition.specs.Fields.{word, encode}
use Rattle.definition.specs.Writing.{write_field, write_op}
use Rattle.definition.specs.Calls.{call, pack}
use Rattle.definition.specs.Trays.{run_of, first_list, lists_past, lists, records, TrayCall, pack_tray}
use Rattle.definition.specs.Profiles.{int, str}
use Rattle.definition.specs.Examples.{Same}

-- ---- runs: "each preceded by its length in two bytes, big-endian"

abbrev runs : List (List ℕ × List ℕ)
runs =
    (run_of [], [])
    ∷ (run_of ([] ∷ (7 ∷ []) ∷ []), 0 ∷ 0 ∷ 0 ∷ 1 ∷ 7 ∷ [])
    ∷ (run_of (replicate 258 7 ∷ []), 1 ∷ 2 ∷ replicate 258 7)
    ∷ []

-- "23 a run whose lengths don't end at its last byte"
abbrev run_lists : List (Checked (List (List ℕ)) × Checked (List (List ℕ)))
run_lists =
    (lists [], accepted [])
    ∷ (lists (0 ∷ 0 ∷ []), accepted ([] ∷ []))
    ∷ (lists (0 ∷ 1 ∷ 7 ∷ 0 ∷ 0 ∷ 0 ∷ 2 ∷ 8 ∷ 9 ∷ []), accepted ((7 ∷ []) ∷ [] ∷ (8 ∷ 9 ∷ []) ∷ []))
    ∷ (lists (1 ∷ 0 ∷ replicate 256 7), accepted (replicate 256 7 ∷ []))
    ∷ (lists (0 ∷ []), refused 23)
    ∷ (lists (0 ∷ 1 ∷ []), refused 23)
    ∷ (lists (0 ∷ 0 ∷ 0 ∷ []), refused 23)
    ∷ (lists (0 ∷ 2 ∷ 7 ∷ []), refused 23)
    ∷ (lists (0 ∷ 1 ∷ 7 ∷ 0 ∷ []), refused 23)
    ∷ (lists (1 ∷ 0 ∷ 7 ∷ []), refused 23)
    ∷ []

-- ---- trays: what a format gives with a run of values, or with a run as it is, and a buffer

abbrev tray : String → List (List Value) → List ℕ → TrayCall
tray f vs b = pack_tray (bytes f) (run_of (map list_of vs)) b

abbrev raw : String → List ℕ → List ℕ → TrayCall
raw f r b = pack_tray (bytes f) r b

-- the length of a tray, and the buffer then; the refusal k at the place p, and the buffer that is left as it was
abbrev gives : ℕ → List ℕ → TrayCall
gives n b = record { place = 0; call = call (accepted n) b }

abbrev fails : ℕ → ℕ → List ℕ → TrayCall
fails k p b = record { place = p; call = call (refused k) b }

abbrev none : List Value
none = []

abbrev one : List Value
one = int 1 ∷ []

abbrev letter : List Value
letter = str "A" ∷ []

abbrev two : List Value
two = int 1 ∷ int 2 ∷ []

-- "An empty run gives no bytes for every format"; "write the records back to back"
abbrev accepted_trays : List (TrayCall × TrayCall)
accepted_trays =
    (tray "b" [] [], gives 0 [])
    ∷ (tray "q" [] [], gives 0 [])
    ∷ (tray "q" [] (9 ∷ []), gives 0 (9 ∷ []))
    ∷ (tray "b" (one ∷ []) (9 ∷ 8 ∷ []), gives 1 (1 ∷ 8 ∷ []))
    ∷ (tray "b" (one ∷ (int 2 ∷ []) ∷ (int 3 ∷ []) ∷ []) (9 ∷ 8 ∷ 7 ∷ 6 ∷ []), gives 3 (1 ∷ 2 ∷ 3 ∷ 6 ∷ []))
    ∷ (tray "x" (none ∷ none ∷ []) (9 ∷ 8 ∷ []), gives 2 (0 ∷ 0 ∷ []))
    ∷ (tray "" (none ∷ none ∷ []) [], gives 0 [])
    ∷ (tray "z" (letter ∷ (str "" ∷ []) ∷ []) (9 ∷ 8 ∷ 7 ∷ []), gives 3 (65 ∷ 0 ∷ 0 ∷ []))
    -- "each laid out as if alone from the start state": length, order and limit
    ∷ (tray "!2hb" (two ∷ two ∷ []) (replicate 6 9), gives 6 (1 ∷ 0 ∷ 2 ∷ 1 ∷ 0 ∷ 2 ∷ []))
    ∷ (tray "h>h" (two ∷ two ∷ []) (replicate 8 9), gives 8 (1 ∷ 0 ∷ 0 ∷ 2 ∷ 1 ∷ 0 ∷ 0 ∷ 2 ∷ []))
    ∷ (tray "bh!2" (two ∷ two ∷ []) (replicate 6 9), gives 6 (1 ∷ 2 ∷ 0 ∷ 1 ∷ 2 ∷ 0 ∷ []))
    -- a value that one list leaves over is nothing to the next
    ∷ (tray "b" (two ∷ (int 3 ∷ []) ∷ []) (9 ∷ 8 ∷ []), gives 2 (1 ∷ 3 ∷ []))
    ∷ []

abbrev refused_trays : List (TrayCall × TrayCall)
refused_trays =
    -- "the first such record's refusal and its place in the run, from 1, and nothing is written"
    (tray "b" (none ∷ []) (9 ∷ []), fails 11 1 (9 ∷ []))
    ∷ (tray "b" (one ∷ none ∷ []) (9 ∷ 8 ∷ []), fails 11 2 (9 ∷ 8 ∷ []))
    ∷ (tray "b" (one ∷ none ∷ letter ∷ []) (9 ∷ 8 ∷ 7 ∷ []), fails 11 2 (9 ∷ 8 ∷ 7 ∷ []))
    ∷ (tray "b" (one ∷ one ∷ letter ∷ none ∷ []) (9 ∷ 8 ∷ 7 ∷ []), fails 12 3 (9 ∷ 8 ∷ 7 ∷ []))
    ∷ (tray "q" (none ∷ none ∷ []) [], fails 1 1 [])
    -- "a record's 21 comes in its turn"
    ∷ (raw "x" (0 ∷ 0 ∷ 0 ∷ 1 ∷ 7 ∷ []) [], fails 21 2 [])
    ∷ (raw "q" (0 ∷ 0 ∷ 0 ∷ 1 ∷ 7 ∷ []) [], fails 1 1 [])
    ∷ (raw "q" (0 ∷ 1 ∷ 7 ∷ []) [], fails 21 1 [])
    -- "23 .. before any record, with place 0"
    ∷ (raw "q" (0 ∷ 0 ∷ 0 ∷ []) (9 ∷ []), fails 23 0 (9 ∷ []))
    ∷ (raw "x" (0 ∷ 1 ∷ 7 ∷ 0 ∷ 1 ∷ []) [], fails 23 0 [])
    ∷ (raw "x" (0 ∷ 0 ∷ 0 ∷ []) [], fails 23 0 [])
    -- "22 is tested for the whole tray after all records, with place 0"
    ∷ (tray "b" (one ∷ one ∷ []) (9 ∷ []), fails 22 0 (9 ∷ []))
    ∷ (tray "b" (one ∷ []) [], fails 22 0 [])
    ∷ (tray "b" (one ∷ none ∷ []) [], fails 11 2 [])
    ∷ []

pub record TrayExamples : Type 0 where
  pub of_runs : Same runs
  pub of_run_lists : Same run_lists
  pub of_accepted_trays : Same accepted_trays
  pub of_refused_trays : Same refused_trays

pub tray_examples : TrayExamples
unfolding little total signed laid list_of field_of values_past entry_list options digits next_byte taken items_past value numeral_of op_of longer alignment padding
    word encode write_field write_op pack run_of first_list lists_past records pack_tray
tray_examples =
    record {
      of_runs = refl;
      of_run_lists = refl;
      of_accepted_trays = refl;
      of_refused_trays = refl;
    }
