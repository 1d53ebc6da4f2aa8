-- `number` meets its contract: 17 where the data end, 18 where the integer is too wide, else the value; kinds that are read alike have
-- one arm.
use Rattle.std.proofs.Common.{w64}
use native.Mathlib.Omega.{arith}
use mathlib.Core.Path.{sym, ◌∙◌}
use mir.Facts.{to_z-of_z}
use lib.Dec.{eqb→eq}
use borrow.Author.Rules.{rules, sfits_of}
use Rattle.laws.proofs.Exits.{exit_is}
use Rattle.decode.proofs.Rests.{split_taken, taken_size}
use Rattle.decode.proofs.Numbers.{none_of, number_ended, signed_kind, signed_read, signed_wide, unsigned_kind, unsigned_read, unsigned_wide, single_read, double_read, alike}
use Rattle.decode.proofs.number.Goals as goal

pub returns-in_err-bytes : goal.returns-in_err-bytes
returns-in_err-bytes c = rw (exit_is c.from_residual.ensures.1) (number_ended _ _ c.in_err-bytes.ensures)

pub returns-in_err-ok_or-in-SmallSigned : goal.returns-in_err-ok_or-in-SmallSigned
returns-in_err-ok_or-in-SmallSigned c =
    let n = none_of c.in_err-ok_or-in-SmallSigned.ensures.value in
    rw (exit_is c.from_residual-in_err-ok_or-in-SmallSigned.ensures.1, n.1) (alike (signed_kind c.in-SmallSigned.is) (signed_wide _ (split_taken c.args.rest.within c.in_ok-bytes.ensures) (rw n.0 at c.get_signed.ensures)))

pub returns-in_ok-ok_or-in-SmallSigned : goal.returns-in_ok-ok_or-in-SmallSigned
returns-in_ok-ok_or-in-SmallSigned c =
    alike (signed_kind c.in-SmallSigned.is)
    (signed_read _ (split_taken c.args.rest.within c.in_ok-bytes.ensures) (search rules) (rw c.in_ok-ok_or-in-SmallSigned.ensures.ok_part at c.get_signed.ensures))

pub returns-in_err-ok_or-in-SmallUnsigned : goal.returns-in_err-ok_or-in-SmallUnsigned
returns-in_err-ok_or-in-SmallUnsigned c =
    let n = none_of c.in_err-ok_or-in-SmallUnsigned.ensures.value in
    rw (exit_is c.from_residual-in_err-ok_or-in-SmallUnsigned.ensures.1, n.1) (alike (unsigned_kind c.in-SmallUnsigned.is) (unsigned_wide _ (split_taken c.args.rest.within c.in_ok-bytes.ensures) (rw n.0 at c.get_unsigned.ensures)))

pub returns-in_ok-ok_or-in-SmallUnsigned : goal.returns-in_ok-ok_or-in-SmallUnsigned
returns-in_ok-ok_or-in-SmallUnsigned c =
    alike (unsigned_kind c.in-SmallUnsigned.is)
    (unsigned_read _ (split_taken c.args.rest.within c.in_ok-bytes.ensures) c.in_ok-ok_or-in-SmallUnsigned.field-0
    (to_z-of_z (sfits_of {w = w64} c.to_signed.type_inv) ∙ c.to_signed.ensures)
    (rw c.in_ok-ok_or-in-SmallUnsigned.ensures.ok_part at c.get_unsigned.ensures))

pub slice_bounds-get_word-end : goal.slice_bounds-get_word-end
slice_bounds-get_word-end c =
    let four = eqb→eq c.args.number.size 4 (rw c.in-Single.is at c.args.number.valid) in omega (arith, four, taken_size (split_taken c.args.rest.within c.in_ok-bytes.ensures))

pub returns-in-Single : goal.returns-in-Single
returns-in-Single c =
    let four = eqb→eq c.args.number.size 4 (rw c.in-Single.is at c.args.number.valid) in
    rw c.in-Single.is (single_read _ (split_taken c.args.rest.within c.in_ok-bytes.ensures) (sym four) c.get_word.ensures c.from_single.ensures)

pub slice_bounds-get_word-end-in-Double : goal.slice_bounds-get_word-end-in-Double
slice_bounds-get_word-end-in-Double c =
    let eight = eqb→eq c.args.number.size 8 (rw c.in-Double.is at c.args.number.valid) in omega (arith, eight, taken_size (split_taken c.args.rest.within c.in_ok-bytes.ensures))

pub returns-in-Double : goal.returns-in-Double
returns-in-Double c =
    let eight = eqb→eq c.args.number.size 8 (rw c.in-Double.is at c.args.number.valid) in
    rw c.in-Double.is (double_read _ (split_taken c.args.rest.within c.in_ok-bytes.ensures) (sym eight) c.get_word-in-Double.ensures)
