-- Demand 3 says what reading answers, by the case of its answer.
use Rattle.std.proofs.Common.{arith}
use borrow.Author.Tests.{eq-eqb}
use Rattle.agreement.proofs.Agreed.{within, refused_is, next_is}
use Rattle.agreement.proofs.reads_back.Goals as goal

pub overflow_add-result : goal.overflow_add-result
overflow_add-result c = omega (arith, within _ _ _ _ _ _ c.in-Ok.is c.string_pack.ensures)

pub returns-in-Err : goal.returns-in-Err
returns-in-Err c g =
    rw (refused_is _ _ _ _ _ _ c.in-Ok.is c.string_pack.ensures g (omega arith) _ _ _ c.string_unpack.ensures _ c.in-Err.is) at c.eq.ensures

pub returns-in-Ok-string_unpack : goal.returns-in-Ok-string_unpack
returns-in-Ok-string_unpack c g =
    eq-eqb _ _ (next_is _ _ _ _ _ _ c.in-Ok.is c.string_pack.ensures g (omega arith) _ _ _ c.string_unpack.ensures _ c.in-Ok-string_unpack.is)
