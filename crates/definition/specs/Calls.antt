-- The calls, with the host program's checks: "21 .. first of all", "22 .. last of all". The contracts of the code name these.
use Rattle.std.specs.Prelude.{ℕ, ◌-◌, ◌^◌, Bool, ◌&&◌, cond, List, ◌++◌, map, leb, ℤ, length, drop}
use Rattle.definition.specs.Answers.{Checked, refused, accepted, ◌>>=◌, ◌>>◌, require}
use Rattle.definition.specs.Options.{options}
use Rattle.definition.specs.Ops.{is_power}
use Rattle.definition.specs.Values.{Value}
use Rattle.definition.specs.Lists.{values, list_of}
use Rattle.definition.specs.States.{start}
use Rattle.definition.specs.Measuring.{measure}
use Rattle.definition.specs.Writing.{Place, Output, zeroed, write}
use Rattle.definition.specs.Reading.{Read, values_of, read}
use Rattle.definition.specs.Bound.{bound}
use Rattle.definition.specs.declared.State.{State}
use Rattle.definition.specs.declared.Position.{Position}
use Rattle.definition.specs.declared.Continued.{Continued}
use Rattle.definition.specs.declared.Unpacked.{Unpacked}

-- what a call gives, and what the lent result buffer holds afterwards
pub record Call (A : Type 0) : Type 0 where
  pub answer : Checked A
  pub buffer : List ℕ

abbrev pub call : {A : Type 0} → Checked A → List ℕ → Call A
call c b = record { answer = c; buffer = b }

-- "A refusal returns its number only and changes no lent byte. An accepted call changes only its result's bytes." The result stands at the buffer's front; "22 result longer than the lent buffer".
abbrev pub into : {A : Type 0} → List ℕ → Checked (A × List ℕ) → Call A
into b (refused k) = call (refused k) b
into b (accepted r) = cond (leb (length r.1) (length b)) (call (accepted r.0) (r.1 ++ drop (length r.1) b)) (call (refused 22) b)

-- ---- measuring, and the list bound: "21 .. data above 2^63-1 bytes"
abbrev pub string_packsize : List ℕ → Checked ℕ
string_packsize f = measure options f

abbrev pub at_most_63 : ℕ → Bool
at_most_63 n = leb n (2 ^ 63 - 1)

unfoldable pub list_bound : List ℕ → ℕ → Checked ℕ
list_bound f d = do
  require (at_most_63 d) 21
  bound options f d

-- ---- writing

-- "21 malformed list, .. limit no power of two of 1..16, or state length above 2^63-1"
unfoldable pub pack : State → List ℕ → List ℕ → Checked (Place Value × Output)
pack s f l = do
  require (is_power s.limit && at_most_63 s.length) 21
  vs ← values l
  write options s vs f

-- the bytes of a run
abbrev pub record_of : Output → List ℕ
record_of o = map zeroed o.cells

-- what continued writing answers of a run
abbrev pub continued_of : Place Value × Output → Continued
continued_of r = record { next = r.0.state; written = length r.1.cells; used = length r.1.took; items = r.1.items }

-- continued writing: a state, a format, a value list, and the result buffer
unfoldable pub pack_continued : State → List ℕ → List ℕ → List ℕ → Call Continued
pack_continued s f l b = into b (pack s f l >>= λ r. accepted (continued_of r, record_of r.1))

-- plain writing, which answers the record's length
unfoldable pub string_pack : List ℕ → List ℕ → List ℕ → Call ℕ
string_pack f l b = into b (pack start f l >>= λ r. accepted (length r.1.cells, record_of r.1))

-- ---- reading
unfoldable pub unpack : List ℕ → List ℕ → ℤ → Checked (List Read × Position)
unpack f d p = do
  require (at_most_63 (length d)) 21
  read options f d p

-- the value list of what is read
abbrev pub list_read : List Read → List ℕ
list_read rs = list_of (values_of rs)

abbrev pub unpacked_of : List Read × Position → Unpacked
unpacked_of r = record { length = length (list_read r.0); next = r.1 }

-- a format, data, a start, and the list buffer
unfoldable pub string_unpack : List ℕ → List ℕ → ℤ → List ℕ → Call Unpacked
string_unpack f d p b = into b (unpack f d p >>= λ r. accepted (unpacked_of r, list_read r.0))
