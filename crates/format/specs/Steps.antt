-- The items of a format one after the other, as the cursor reads them.
use Rattle.std.specs.Prelude.{ℕ, ◌+◌, List, [], ◌∷◌, length, Some, None}
use Rattle.std.specs.Prelude as code
use Rattle.std.proofs.Math.Option.{Option, none, some}
use Rattle.definition.specs.Answers.{Checked, accepted, ◌>>=◌}
use Rattle.definition.specs.Options.{Table}
use Rattle.definition.specs.Items.{item, taken}
use Rattle.definition.specs.Ops.{op_of}
use Rattle.definition.specs.declared.Op.{Op}
use Rattle.format.specs.Ops.{op_at}
use Rattle.format.specs.declared.cursor.Cursor.{Cursor}
use Rattle.format.specs.declared.item.ValidItem.{ValidItem}

-- the first item of s, which stands at a place: what it does, and the place after it; none at the end
unfoldable pub next_at : Table → ℕ → List ℕ → Checked (Option (Op × ℕ))
next_at t at [] = accepted none
next_at t at (b ∷ s) = do
  o ← op_of t (item b (taken t b s))
  accepted (some (o, at + 1 + length (taken t b s)))

-- what the cursor's item does, and the place of the cursor after it
abbrev pub next_of : code.Option (ValidItem × Cursor) → Option (Op × ℕ)
next_of None = none
next_of (Some (i, c)) = some (op_at i.item.entry i.item.operand, c.at)
