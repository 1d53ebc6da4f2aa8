-- 21 first of all, the first pass, 22, and the second pass, which answers what the first one did.
use Rattle.std.proofs.Common.{◌≡◌, sym, ap, ◌∙◌, refl, true}
use Rattle.laws.proofs.Exits.{exit_is}
use Rattle.definition.specs.Answers.{Checked}
use Rattle.definition.specs.Calls.{call}
use Rattle.definition.specs.Lists.{values}
use Rattle.definition.specs.Options.{options}
use Rattle.definition.specs.declared.Continued.{Continued}
use Rattle.laws.proofs.Calls.{Sound}
use Rattle.values.specs.Meaning.{is_accepted}
use Rattle.write.proofs.Calls.{unsound, malformed, total_refused, short_call, filled_call}
use Rattle.write.proofs.pack_continued.Goals as goal
use Rattle.write.proofs.pack_continued.Goals.{After-table-table}

-- what the two tests showed
sound : (c : After-table-table) → Sound c.args.state
sound c = sym c.is_sound.ensures ∙ c.if-not-is_sound.false

listed : (c : After-table-table) → is_accepted (values c.args.list.now) ≡ true
listed c = sym c.is_list.ensures ∙ c.if-not-is_list.false

pub returns-then-not-is_sound : goal.returns-then-not-is_sound
returns-then-not-is_sound c = unsound options refl _ _ _ _ (sym c.is_sound.ensures ∙ c.if-not-is_sound.true)

pub returns-then-not-is_list : goal.returns-then-not-is_list
returns-then-not-is_list c = malformed options refl _ _ _ _ (sym c.is_sound.ensures ∙ c.if-not-is_sound.false) (sym c.is_list.ensures ∙ c.if-not-is_list.true)

pub returns-in_err-total : goal.returns-in_err-total
returns-in_err-total c =
    let t = (goal.at.returns-in_err-total c).After-table-table in
    rw (exit_is c.from_residual.ensures.1) (total_refused _ c.table-table.ensures _ _ _ _ (sound t) (listed t) c.pass.ensures.bytes c.in_err-total.ensures.total)

pub returns-then-out-total : goal.returns-then-out-total
returns-then-out-total c =
    let t = (goal.at.returns-then-out-total c).After-table-table in
    short_call _ c.table-table.ensures _ _ _ _ (sound t) (listed t) c.pass.ensures.bytes c.in_ok-total.ensures.total c.if-out-total.true

pub returns : goal.returns
returns c =
    let t = (goal.at.returns c).After-table-table in
    let same = c.pass-2.ensures.total ∙ sym c.in_ok-total.ensures.total in
    ap (λ (a : Checked Continued). call a c.pass-2.new.out) same
    ∙ filled_call _ c.table-table.ensures _ _ _ _ (sound t) (listed t) c.pass.ensures.bytes c.in_ok-total.ensures.total c.if-out-total.false c.pass-2.ensures.bytes
