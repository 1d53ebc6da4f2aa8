-- What an item does: its option's class with its operand.
use Rattle.std.specs.Prelude.{ℕ}
use Rattle.definition.specs.Options.{Class}
use Rattle.definition.specs.declared.Op.{Op}
use Rattle.definition.specs.declared.Field.TheVariants as Field
use Rattle.definition.specs.declared.Setting.TheVariants as Setting
use Rattle.options.specs.Packed.{entry_at}

-- what an option of a class does, with its operand; a byte that is no option has none, and may stand with X
abbrev pub op_for : Class → ℕ → Op
op_for Class.NoOption n = Op.Pad n 0
op_for Class.Blank n = Op.Blank
op_for (Class.Order o) n = Op.Set (Setting.Order o)
op_for Class.Limit n = Op.Set (Setting.Limit n)
op_for (Class.Number k) n = Op.Put (Field.Number k n)
op_for Class.Chars n = Op.Put (Field.Chars n)
op_for Class.ZeroEnded n = Op.Put Field.ZeroEnded
op_for Class.Counted n = Op.Put (Field.Counted n)
op_for Class.Fill n = Op.Pad 1 1
op_for Class.Align n = Op.Pad n 0

-- what an item does, by the packed entry of its byte and its operand
abbrev pub op_at : ℕ → ℕ → Op
op_at e n = op_for (entry_at e).class n
