-- What is read of a text option's field: the text, or 11 or 12.
use Rattle.std.specs.Prelude.{ℕ, ◌≡◌, List, Result, Ok, Err, Some}
use Rattle.definition.specs.Answers.{Checked, refused, ◌>>=◌, or_else}
use Rattle.definition.specs.Refusals.{refusal_number}
use Rattle.definition.specs.Values.{Value, as_bytes}
use Rattle.definition.specs.Writing.{taking}
use Rattle.definition.specs.declared.Refusal.{Refusal}
use Rattle.values.specs.Meaning.{FieldRead}
use Rattle.values.specs.declared.Value.TheVariants as values
use Rattle.values.specs.declared.reader.Reader.{Reader}
use Rattle.plan.specs.Places.{left_of}
use Rattle.plan.specs.declared.text.Text.{Text}

-- the bytes of the first value
abbrev pub first_text : List Value → Checked (List ℕ)
first_text vs = taking vs >>= λ t. or_else (as_bytes t.0) (refused 12)

abbrev pub TextRead : Reader → Result Text Refusal → Type 0
TextRead r (Err e) = first_text (left_of r) ≡ refused (refusal_number e)
TextRead r (Ok t) = FieldRead r.list.now r.at (Some (values.Text t.start t.length, t.next))
