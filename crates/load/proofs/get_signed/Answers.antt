-- `get_signed` meets its contract: the integer of the low bytes, where those above are filled with its sign.
use Rattle.std.proofs.Common.{◌∙◌, to_z-of_z, w64}
use Rattle.load.proofs.Gathering.{signed_fits, signed_too_wide}
use borrow.Author.Rules.{sfits_of}
use Rattle.load.proofs.get_signed.Goals as goal

pub returns-then-is_filled : goal.returns-then-is_filled
returns-then-is_filled c =
    let x = c.restored-x in
    signed_fits _ _ c.get_word.ensures.0 (to_z-of_z (sfits_of {w = w64} x.type_inv) ∙ x.ensures)
    c.sign_byte.ensures c.is_filled.ensures c.if-is_filled.true

pub returns-else-is_filled : goal.returns-else-is_filled
returns-else-is_filled c =
    let x = c.restored-x in
    signed_too_wide _ _ c.get_word.ensures.0 (to_z-of_z (sfits_of {w = w64} x.type_inv) ∙ x.ensures)
    c.sign_byte.ensures c.is_filled.ensures c.if-is_filled.false
