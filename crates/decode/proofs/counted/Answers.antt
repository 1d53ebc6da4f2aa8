-- `counted` meets its contract: 17 where the length ends, 18 where it does not fit, then the text behind it.
use native.Mathlib.Omega.{arith}
use Rattle.laws.proofs.Exits.{exit_is}
use Rattle.decode.proofs.Rests.{split_taken}
use Rattle.decode.proofs.Numbers.{none_of}
use Rattle.decode.proofs.Texts.{counted_ended, counted_wide, counted_refused, counted_read}
use Rattle.decode.proofs.counted.Goals as goal

pub returns-in_err-bytes : goal.returns-in_err-bytes
returns-in_err-bytes c = rw (exit_is c.from_residual.ensures.1) (counted_ended _ c.in_err-bytes.ensures)

pub returns-in_err-n : goal.returns-in_err-n
returns-in_err-n c =
    let n = none_of c.in_err-n.ensures.value in
    rw (exit_is c.from_residual-in_err-n.ensures.1, n.1) (counted_wide _ (split_taken c.args.rest.within c.in_ok-bytes.ensures) (rw n.0 at c.get_unsigned.ensures))

pub returns-in_err-x : goal.returns-in_err-x
returns-in_err-x c =
    rw (exit_is c.from_residual-in_err-x.ensures.1)
    (counted_refused _ (split_taken c.args.rest.within c.in_ok-bytes.ensures) (rw c.in_ok-n.ensures.ok_part at c.get_unsigned.ensures) (c.in_err-x.ensures c.args.big))

pub overflow_add-result : goal.overflow_add-result
overflow_add-result c =
    let g = split_taken c.args.rest.within c.in_ok-bytes.ensures in
    let p = rw (g.kept, g.behind) at (c.in_ok-x.ensures c.args.big) in
    omega (arith, p.inside.1)

pub returns : goal.returns
returns c =
    counted_read _ (split_taken c.args.rest.within c.in_ok-bytes.ensures) (rw c.in_ok-n.ensures.ok_part at c.get_unsigned.ensures) (c.in_ok-x.ensures c.args.big)
