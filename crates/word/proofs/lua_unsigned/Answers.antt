-- The integer that was found, if it is in range, or a float's bits, which are.
use Rattle.std.proofs.Common.{rules, ◌<◌, ◌^◌, sym, arith, lit≤}
use Rattle.std.specs.Prelude.{IfOk}
use Rattle.definition.specs.Fields.{in_unsigned}
use Rattle.word.proofs.Words.{says_ranged, says_bits, of_integer, lua_unsigned_bits}
use Rattle.word.proofs.lua_unsigned.Goals as goal

pub returns-in-Some : goal.returns-in-Some
returns-in-Some c = λ l. says_ranged (in_unsigned 8) 8 c.in-Some.z c.in_range.result (omega arith) (of_integer 8 _ _ (sym (c.in-Some.ensures l))).lua_unsigned c.in_range.ensures

pub returns-in-None : goal.returns-in-None
returns-in-None c =
    let below : IfOk c.bits.result (λ b. b < 2 ^ 64) = search rules in
    λ l. says_bits 8 _ c.bits.result (lit≤ tt) (c.bits.ensures l) (lua_unsigned_bits _ c.bits.result (sym (c.in-None.ensures l)) below (c.bits.ensures l))
