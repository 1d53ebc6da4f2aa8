-- What the walks over a run say, in the definition's terms.
use Rattle.std.specs.Prelude.{ℕ, ◌≤◌, ◌≡◌, true, List, ◌++◌, length, drop, Result, Ok, Err}
use Rattle.definition.specs.Answers.{Checked, refused, accepted}
use Rattle.definition.specs.Calls.{call, pack, record_of}
use Rattle.definition.specs.Trays.{lists, Placed, placed, records_from, TrayCall}
use Rattle.definition.specs.Kept.{written_from}
use Rattle.definition.specs.Refusals.{refusal_number}
use Rattle.definition.specs.declared.Refusal.{Refusal}
use Rattle.definition.specs.declared.State.{State}
use Rattle.align.specs.Amounts.{SameTo63}
use Rattle.values.specs.Meaning.{is_accepted}
use Rattle.tray.specs.declared.TrayRefusal.{TrayRefusal}

-- ---- the records of a format f, each laid out from the state s

-- the bytes of the record of a list l
abbrev pub bytes_from : State → List ℕ → List ℕ → List ℕ
bytes_from s f l = record_of (written_from s f l)

-- the records of a run's lists, with places from 1
abbrev pub tray_from : State → List ℕ → List ℕ → Placed (List ℕ)
tray_from s f r = records_from s 1 f (lists r)

-- the refusal k of the record at the place p, unless the lists behind it are no run
abbrev pub refused_at : ℕ → ℕ → Checked (List (List ℕ)) → Placed (List ℕ)
refused_at k p (refused j) = placed 0 (refused j)
refused_at k p (accepted ls) = placed p (refused k)

-- it has bytes, and n is how many, or both are above 2^63-1
pub record Counted (t : Placed (List ℕ)) (n : ℕ) : Type 0 where
  pub bytes : List ℕ
  pub is : t ≡ placed 0 (accepted bytes)
  pub counts : SameTo63 n (length bytes)

-- ---- what the code's refusals say

-- one that no list is the reason for
abbrev pub unplaced : Refusal → TrayRefusal
unplaced r = record { refusal = r; place = 0 }

abbrev pub placed_of : TrayRefusal → Placed (List ℕ)
placed_of r = placed r.place (refused (refusal_number r.refusal))

-- what the first walk answers of a tray
abbrev pub Told : Placed (List ℕ) → Result ℕ TrayRefusal → Type 0
Told t (Err r) = t ≡ placed_of r
Told t (Ok n) = Counted t n

-- it has bytes, and n bytes hold them
pub record Fits (t : Placed (List ℕ)) (n : ℕ) : Type 0 where
  pub bytes : List ℕ
  pub is : t ≡ placed 0 (accepted bytes)
  pub room : length bytes ≤ n

-- its bytes at the front of the buffer b
abbrev pub put_in : List ℕ → Checked (List ℕ) → List ℕ
put_in b (refused k) = b
put_in b (accepted bs) = bs ++ drop (length bs) b

-- a record that is accepted, and that n bytes hold
pub record RecordFits (s : State) (f l : List ℕ) (n : ℕ) : Type 0 where
  pub accepts : is_accepted (pack s f l) ≡ true
  pub room : length (bytes_from s f l) ≤ n

-- ---- what the call answers, with what its buffer then holds
abbrev pub tray_call_of : Result ℕ TrayRefusal → List ℕ → TrayCall
tray_call_of (Err r) b = record { place = r.place; call = call (refused (refusal_number r.refusal)) b }
tray_call_of (Ok n) b = record { place = 0; call = call (accepted n) b }
