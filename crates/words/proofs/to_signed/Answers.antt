-- `to_signed` meets its contract: from 2^63 on, 0 - w wraps to 2^64 - w, and the integer is -1 - n for n one less.
use Rattle.std.proofs.Common.{◌+◌, ◌-◌, ◌%◌, ◌^◌, ◌<◌, pos, sym, ◌∙◌, arith, w64}
use mir.Facts.{to_z_pos}
use Rattle.laws.proofs.Bytes.{signed_low}
use Rattle.words.proofs.Twos.{minus_one_is, signed_top}
use Rattle.words.proofs.to_signed.Goals as goal

pub returns-then-word-lt-SIGN : goal.returns-then-word-lt-SIGN
returns-then-word-lt-SIGN c =
    to_z_pos w64 c.if-word-lt-SIGN.true ∙ sym (signed_low 8 c.args.word (omega arith))

pub returns-else-word-lt-SIGN : goal.returns-else-word-lt-SIGN
returns-else-word-lt-SIGN c =
    let w = c.args.word in
    let n = (0 + (2 ^ 64 - w)) % 2 ^ 64 - 1 in
    let h : n < 2 ^ 63 = omega arith in
    rw (to_z_pos w64 h) (minus_one_is (pos n) (record { sfits = h }) ∙ sym (signed_top w n c.if-word-lt-SIGN.false (omega arith)))
