-- The integer that was found, or a float's bits.
use Rattle.std.proofs.Common.{sym, arith}
use Rattle.word.proofs.Words.{says_integer, says_bits, of_integer, of_none}
use Rattle.word.proofs.lua_integer.Goals as goal

pub returns-in-Some : goal.returns-in-Some
returns-in-Some c = λ l n h. says_integer n _ _ (omega arith) c.to_word.ensures (of_integer n _ _ (sym (c.in-Some.ensures l))).lua

pub returns-in-None : goal.returns-in-None
returns-in-None c = λ l n h. says_bits n _ c.bits.result h (c.bits.ensures l) (of_none n _ (sym (c.in-None.ensures l))).lua
