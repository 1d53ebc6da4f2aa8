-- 16, then the first pass's refusal, then 22, else the list that the second pass puts.
use native.Mathlib.Omega.{arith}
use mathlib.Core.Path.{◌≡◌, refl}
use lib.ListN.{length}
use mir.Facts.{to_z-of_z}
use Rattle.laws.proofs.Exits.{exit_is}
use Rattle.definition.specs.Answers.{accepted}
use Rattle.definition.specs.Options.{options}
use Rattle.definition.specs.States.{start}
use Rattle.definition.specs.Reading.{offset_of, at_offset}
use Rattle.options.specs.Packed.{table_at}
use Rattle.read.proofs.Calls.{call_outside, call_refused, call_long, call_read}
use Rattle.read.proofs.string_unpack.Goals as goal
use Rattle.read.proofs.string_unpack.Goals.{After-at_offset}

-- the offset, and the state there
found : (c : After-at_offset) → accepted c.in_ok-offset.offset ≡ offset_of c.args.start (length c.args.«data».now)
found c = rw (to_z-of_z c.ranges.start) at c.in_ok-offset.ensures

placed : (c : After-at_offset) → c.at_offset.result ≡ at_offset start c.in_ok-offset.offset
placed c = rw c.start.ensures at c.at_offset.ensures

pub returns-in_err-offset : goal.returns-in_err-offset
returns-in_err-offset c =
    rw (exit_is c.from_residual.ensures.1) (call_outside options refl _ _ c.args.start _ (omega arith) (rw (to_z-of_z c.ranges.start) at c.in_err-offset.ensures))

pub returns-in_err-total : goal.returns-in_err-total
returns-in_err-total c =
    let a = (goal.at.returns-in_err-total c).After-at_offset in
    rw (exit_is c.from_residual-in_err-total.ensures.1)
    (call_refused (table_at c.table-options.result.entries) c.table-options.ensures _ _ c.args.start _ (omega arith) (found a) (placed a)
    c.pass.ensures.list
    c.in_err-total.ensures.total)

pub returns-then-list-total : goal.returns-then-list-total
returns-then-list-total c =
    let a = (goal.at.returns-then-list-total c).After-at_offset in
    call_long (table_at c.table-options.result.entries) c.table-options.ensures _ _ c.args.start _ (omega arith) (found a) (placed a)
    c.pass.ensures.list
    c.in_ok-total.ensures.total (omega arith) c.if-list-total.true

pub returns : goal.returns
returns c =
    let a = (goal.at.returns c).After-at_offset in
    call_read (table_at c.table-options.result.entries) c.table-options.ensures _ _ c.args.start _ (omega arith) (found a) (placed a)
    c.pass.ensures.list
    c.in_ok-total.ensures.total (omega arith) c.if-list-total.false
    c.pass-2.ensures.list
    c.position_of.ensures
