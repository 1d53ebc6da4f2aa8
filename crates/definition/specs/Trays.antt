-- Document 02, One: "A tray of records in one call."
use Rattle.std.specs.Prelude.{ℕ, zero, suc, ◌+◌, List, [], ◌∷◌, ◌++◌, length, drop}
use Rattle.definition.specs.Answers.{Checked, refused, accepted, ◌>>=◌}
use Rattle.definition.specs.Values.{Value}
use Rattle.definition.specs.Lists.{big, big_total, front}
use Rattle.definition.specs.States.{start}
use Rattle.definition.specs.Writing.{Place, Output}
use Rattle.definition.specs.Calls.{Call, into, pack, record_of}
use Rattle.definition.specs.declared.State.{State}

-- ---- "a run of value lists, each preceded by its length in two bytes, big-endian"

-- the run of lists
unfoldable pub run_of : List (List ℕ) → List ℕ
run_of [] = []
run_of (l ∷ ls) = big 2 (length l) ++ (l ++ run_of ls)

-- the list that a run begins with; "23 a run whose lengths don't end at its last byte"
unfoldable pub first_list : List ℕ → Checked (List ℕ)
first_list r = do
  n ← front 23 2 r
  front 23 (big_total n) (drop 2 r)

-- the lists of a run whose first k bytes belong to the list before
unfoldable pub lists_past : ℕ → List ℕ → Checked (List (List ℕ))
lists_past zero [] = accepted []
lists_past zero (b ∷ r) = first_list (b ∷ r) >>= λ l. lists_past (1 + length l) r >>= λ ls. accepted (l ∷ ls)
lists_past (suc k) [] = accepted []
lists_past (suc k) (b ∷ r) = lists_past k r

abbrev pub lists : List ℕ → Checked (List (List ℕ))
lists r = lists_past 0 r

-- ---- the records

-- an answer, and "its place in the run, from 1" if a record is refused, else 0
pub record Placed (A : Type 0) : Type 0 where
  pub place : ℕ
  pub answer : Checked A

abbrev pub placed : {A : Type 0} → ℕ → Checked A → Placed A
placed p c = record { place = p; answer = c }

-- bytes before those of an answer
abbrev pub behind : List ℕ → Placed (List ℕ) → Placed (List ℕ)
behind bs t = placed t.place (t.answer >>= λ cs. accepted (bs ++ cs))

-- the record at the place p, and the answer t for those after it: "the first such record's refusal and its place", else "the records back to back"
abbrev pub before : ℕ → Checked (Place Value × Output) → Placed (List ℕ) → Placed (List ℕ)
before p (refused k) t = placed p (refused k)
before p (accepted r) t = behind (record_of r.1) t

-- the records of lists, each laid out from the state s, the first of which has the place p
unfoldable pub records : State → ℕ → List ℕ → List (List ℕ) → Placed (List ℕ)
records s p f [] = placed 0 (accepted [])
records s p f (l ∷ ls) = before p (pack s f l) (records s (p + 1) f ls)

-- those of a run: 23 "before any record, with place 0"
abbrev pub records_from : State → ℕ → List ℕ → Checked (List (List ℕ)) → Placed (List ℕ)
records_from s p f (refused k) = placed 0 (refused k)
records_from s p f (accepted ls) = records s p f ls

-- "each laid out as if alone from the start state"; places "from 1"
abbrev pub records_of : List ℕ → List ℕ → Placed (List ℕ)
records_of f r = records_from start 1 f (lists r)

-- ---- the call: a format, a run, and the result buffer

-- what the call gives, and the place of the record that is refused
pub record TrayCall : Type 0 where
  pub place : ℕ
  pub call : Call ℕ

-- "22 is tested for the whole tray after all records, with place 0"
abbrev pub tray_into : List ℕ → Placed (List ℕ) → TrayCall
tray_into b t = record { place = t.place; call = into b (t.answer >>= λ bs. accepted (length bs, bs)) }

unfoldable pub pack_tray : List ℕ → List ℕ → List ℕ → TrayCall
pack_tray f r b = tray_into b (records_of f r)
