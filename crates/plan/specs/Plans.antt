-- What a plan says of an item: what writing does at a place, with the values of the list from there on.
use Rattle.std.specs.Prelude.{ℕ, ◌+◌, ◌-◌, ◌^◌, ◌<◌, ◌≤◌, ◌≡◌, true, List, [], ◌∷◌, ◌++◌, map, length, drop, Result, Ok, Err, Some}
use Rattle.definition.specs.Answers.{Checked, refused, accepted}
use Rattle.definition.specs.Refusals.{refusal_number}
use Rattle.definition.specs.Bytes.{laid}
use Rattle.definition.specs.Fields.{encode}
use Rattle.definition.specs.Values as definition
use Rattle.definition.specs.Lists.{values}
use Rattle.definition.specs.States.{set, further, natural, padding}
use Rattle.definition.specs.Writing as writing
use Rattle.definition.specs.Writing.{byte, pads, Output, output, nothing, place, early, write_op}
use Rattle.definition.specs.declared.State.{State}
use Rattle.definition.specs.declared.Field.{Field}
use Rattle.definition.specs.declared.Op.{Op}
use Rattle.definition.specs.declared.Refusal.{Refusal}
use Rattle.values.specs.Meaning.{meaning, FieldRead, is_accepted}
use Rattle.values.specs.declared.Value.{Value}
use Rattle.store.specs.Texts.{text_bytes, counted_bytes}
use Rattle.word.specs.Words.{fill_of}
use Rattle.plan.specs.Places.{values_of, left_of, list_of, place_of}
use Rattle.plan.specs.declared.item.Plan.{Plan}
use Rattle.plan.specs.declared.item.Plan.TheVariants as plans
use Rattle.plan.specs.declared.place.Place.{Place}
use Rattle.plan.specs.declared.place.Padded.{Padded}
use Rattle.plan.specs.declared.text.Text.{Text}

-- what the item op gives, written at a place
abbrev pub wrote : Place → Op → Checked (writing.Place definition.Value × Output)
wrote at op = write_op (place_of at) op

-- zeros that were put
pub record WroteZeros (at : Place) (op : Op) (n : ℕ) : Type 0 where
  pub is : wrote at op ≡ accepted (place (further at.state n) (left_of at.reader), output (pads n) [] 1)
  pub room : at.state.length + n ≤ 2 ^ 63 - 1

-- a field that was put: p zeros and bytes, which are `size` in all, and the list's next field
pub record Wrote (at : Place) (op : Op) (p : ℕ) (bytes : List ℕ) (size next : ℕ) : Type 0 where
  pub field : Field
  pub val : definition.Value
  pub is : wrote at op ≡ accepted (place (further at.state size) (values_of (drop next (list_of at))), output (pads p ++ map byte bytes) ((field, val) ∷ []) 1)
  pub long : p + length bytes ≡ size
  pub room : at.state.length + size ≤ 2 ^ 63 - 1
  pub known : is_accepted (values (drop next (list_of at))) ≡ true
  pub behind : at.reader.at < next

-- a text that lies inside the list was put
pub record WroteText (at : Place) (op : Op) (p : ℕ) (t : Text) (bytes : List ℕ) (size : ℕ) : Type 0 where
  pub wrote : Wrote at op p bytes size t.next
  pub within : t.start + t.length ≤ length (list_of at)

-- what the plan of the item op says
abbrev pub Planned : Place → Op → Plan → Type 0
Planned at op plans.Skip = wrote at op ≡ accepted (place_of at, nothing)
Planned at op (plans.Set x) = wrote at op ≡ accepted (place (set x at.state) (left_of at.reader), output [] [] 1)
Planned at op (plans.Zeros n) = WroteZeros at op n
Planned at op (plans.Number p n w next) = Wrote at op p (laid at.state.big n w (fill_of w)) (p + n) next
Planned at op (plans.Text p t zeros) = WroteText at op p t (text_bytes (list_of at) t.start t.length zeros) (p + (t.length + zeros))
Planned at op (plans.Counted p n t) = WroteText at op p t (counted_bytes at.state.big (list_of at) n t.start t.length) (p + (n + t.length))

abbrev pub ItemPlan : Place → Op → Result Plan Refusal → Type 0
ItemPlan at op (Err r) = wrote at op ≡ refused (refusal_number r)
ItemPlan at op (Ok p) = Planned at op p

-- the plan of an item at a place
pub record ItemAt (at : Place) (op : Op) (r : Result Plan Refusal) : Type 0 where
  pub says : ItemPlan at op r

-- the option of the field f, behind its zeros, that passed what it checks before its value
pub record Begun (x : Padded) (f : Field) : Type 0 where
  pub padded : padding x.place.state (natural f) ≡ accepted x.pads
  pub state : State
  pub early_is : early x.place.state f ≡ accepted state

-- it passed all checks but 9: the list's field is the value v, which is written as bytes, and the next field stands at next
pub record Encoded (x : Padded) (f : Field) (v : Value) (next : ℕ) (bytes : List ℕ) : Type 0 where
  pub begun : Begun x f
  pub found : FieldRead (list_of x.place) x.place.reader.at (Some (v, next))
  pub is : encode x.place.state.big f (meaning (list_of x.place) v) ≡ accepted bytes

-- of a text that passed all checks but 9, with zeros behind it
abbrev pub TextPlan : Padded → Text → ℕ → Result Plan Refusal → Type 0
TextPlan x t zeros r = (f : Field) → Encoded x f (Value.Text t.start t.length) t.next (text_bytes (list_of x.place) t.start t.length zeros) → ItemAt x.place (Op.Put f) r
