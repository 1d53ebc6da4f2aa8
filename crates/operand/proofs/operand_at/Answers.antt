-- What the digits show at once decides with the range of the entry; all else is asked of the whole reader, which only an option with a numeral, X and no option need.
use mathlib.Core.Path.{◌≡◌, sym, ◌∙◌, subst}
use native.Mathlib.Omega.{arith}
use lib.ListN.{drop}
use Rattle.numeral.specs.declared.Short.{Short}
use Rattle.options.specs.Packed.{table_at}
use Rattle.operand.specs.Operands.{shown_at}
use Rattle.operand.proofs.Digits.{Shows, shows}
use Rattle.operand.proofs.operand_at.Goals as goal
use Rattle.operand.proofs.operand_at.Goals.{After-shown, then-e-lt-CHARS_END, else-e-lt-CHARS_END}

-- what the answer x of shown says
said : (c : After-shown) {x : Short} → let a = c.args in let s = drop a.rest.at a.rest.format.now in x ≡ shown_at a.e s → Shows (table_at a.table.now.entries) a.e s x
said c q =
    let a = c.args in
    let says = Shows (table_at a.table.now.entries) a.e (drop a.rest.at a.rest.format.now) in
    subst says (sym q) (shows (table_at a.table.now.entries) a.e (drop a.rest.at a.rest.format.now))

pub returns-in-Missing : goal.returns-in-Missing
returns-in-Missing c = rw c.size_of.ensures (said (goal.at.returns-in-Missing c).After-shown c.in-Missing.ensures c.if-e-lt-COUNTED_END.true)

pub returns-in-Digit : goal.returns-in-Digit
returns-in-Digit c =
    said (goal.at.returns-in-Digit c).After-shown c.in-Digit.ensures λ h.
    elim c.if-e-lt-CHARS_END.branch [
      | then-e-lt-CHARS_END w ↦ absurd (omega arith)
      | else-e-lt-CHARS_END w ↦ sym w.is_power.ensures ∙ sym w.value-is ∙ c.if-is_power.true
    ]
