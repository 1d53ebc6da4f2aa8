-- Demand 3 says what measuring answers, by the case of its answer.
use borrow.Author.Tests.{eq-eqb}
use Rattle.agreement.proofs.Agreed.{size_is, ten_is}
use Rattle.agreement.proofs.size_agrees.Goals as goal

pub returns-in-Err : goal.returns-in-Err
returns-in-Err c =
    rw (ten_is _ _ _ _ _ _ c.in-Ok.is c.string_pack.ensures _ _ c.in-Err.is c.string_packsize.ensures) at c.eq.ensures

pub returns-in-Ok-string_packsize : goal.returns-in-Ok-string_packsize
returns-in-Ok-string_packsize c =
    eq-eqb _ _ (size_is _ _ _ _ _ _ c.in-Ok.is c.string_pack.ensures _ _ c.in-Ok-string_packsize.is c.string_packsize.ensures)
