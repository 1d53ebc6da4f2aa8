-- The option table packed into numbers, and the entry that a number stands for.
use Rattle.std.specs.Prelude.{ℕ, ◌/◌, ◌%◌, true, false, cond, List, [], ◌∷◌, ltb, eqb, get_or}
use Rattle.definition.specs.Options.{Table, entry, Class, NoOption, Blank, Order, Limit, Number, Chars, ZeroEnded, Counted, Fill, Align, Nothing, Digits, DigitsBehindX, NextByte, Entry}
use Rattle.definition.specs.declared.Kind.{Kind}
use Rattle.definition.specs.declared.Kind.TheVariants.{SmallSigned, SmallUnsigned, Signed, Unsigned, LuaInteger, LuaUnsigned, Size, Single, Double}

-- the table, as the code has it
unfoldable pub packed : List ℕ
packed =
    252 ∷ 252 ∷ 252 ∷ 252 ∷ 252 ∷ 252 ∷ 252 ∷ 252 ∷ 252 ∷ 112 ∷ 112 ∷ 252 ∷ 252 ∷ 112 ∷ 252 ∷ 252 ∷ 252 ∷ 252 ∷ 252 ∷ 252 ∷ 252 ∷ 252 ∷ 252 ∷ 252 ∷ 252 ∷ 252 ∷ 252 ∷ 252 ∷ 252 ∷ 252 ∷ 252 ∷ 252
    ∷ 112 ∷ 244 ∷ 252 ∷ 252 ∷ 252 ∷ 252 ∷ 252 ∷ 252 ∷ 252 ∷ 252 ∷ 252 ∷ 252 ∷ 252 ∷ 252 ∷ 252 ∷ 252 ∷ 252 ∷ 252 ∷ 252 ∷ 252 ∷ 252 ∷ 252 ∷ 252 ∷ 252 ∷ 252 ∷ 252 ∷ 252 ∷ 252 ∷ 128 ∷ 128 ∷ 144 ∷ 252
    ∷ 252 ∷ 252 ∷ 17 ∷ 252 ∷ 252 ∷ 252 ∷ 252 ∷ 252 ∷ 18 ∷ 212 ∷ 56 ∷ 252 ∷ 212 ∷ 252 ∷ 252 ∷ 252 ∷ 252 ∷ 252 ∷ 252 ∷ 252 ∷ 72 ∷ 252 ∷ 252 ∷ 252 ∷ 248 ∷ 252 ∷ 252 ∷ 252 ∷ 252 ∷ 252 ∷ 252 ∷ 252
    ∷ 252 ∷ 252 ∷ 1 ∷ 240 ∷ 104 ∷ 252 ∷ 84 ∷ 252 ∷ 2 ∷ 196 ∷ 40 ∷ 252 ∷ 196 ∷ 252 ∷ 104 ∷ 252 ∷ 252 ∷ 252 ∷ 252 ∷ 232 ∷ 252 ∷ 252 ∷ 252 ∷ 252 ∷ 160 ∷ 252 ∷ 176 ∷ 252 ∷ 252 ∷ 252 ∷ 252 ∷ 252
    ∷ 252 ∷ 252 ∷ 252 ∷ 252 ∷ 252 ∷ 252 ∷ 252 ∷ 252 ∷ 252 ∷ 252 ∷ 252 ∷ 252 ∷ 252 ∷ 252 ∷ 252 ∷ 252 ∷ 252 ∷ 252 ∷ 252 ∷ 252 ∷ 252 ∷ 252 ∷ 252 ∷ 252 ∷ 252 ∷ 252 ∷ 252 ∷ 252 ∷ 252 ∷ 252 ∷ 252 ∷ 252
    ∷ 252 ∷ 252 ∷ 252 ∷ 252 ∷ 252 ∷ 252 ∷ 252 ∷ 252 ∷ 252 ∷ 252 ∷ 252 ∷ 252 ∷ 252 ∷ 252 ∷ 252 ∷ 252 ∷ 252 ∷ 252 ∷ 252 ∷ 252 ∷ 252 ∷ 252 ∷ 252 ∷ 252 ∷ 252 ∷ 252 ∷ 252 ∷ 252 ∷ 252 ∷ 252 ∷ 252 ∷ 252
    ∷ 252 ∷ 252 ∷ 252 ∷ 252 ∷ 252 ∷ 252 ∷ 252 ∷ 252 ∷ 252 ∷ 252 ∷ 252 ∷ 252 ∷ 252 ∷ 252 ∷ 252 ∷ 252 ∷ 252 ∷ 252 ∷ 252 ∷ 252 ∷ 252 ∷ 252 ∷ 252 ∷ 252 ∷ 252 ∷ 252 ∷ 252 ∷ 252 ∷ 252 ∷ 252 ∷ 252 ∷ 252
    ∷ 252 ∷ 252 ∷ 252 ∷ 252 ∷ 252 ∷ 252 ∷ 252 ∷ 252 ∷ 252 ∷ 252 ∷ 252 ∷ 252 ∷ 252 ∷ 252 ∷ 252 ∷ 252 ∷ 252 ∷ 252 ∷ 252 ∷ 252 ∷ 252 ∷ 252 ∷ 252 ∷ 252 ∷ 252 ∷ 252 ∷ 252 ∷ 252 ∷ 252 ∷ 252 ∷ 252 ∷ 252
    ∷ []

-- the kind by the sixteens of a number below 112
abbrev pub kind_by : ℕ → Kind
kind_by k = cond (eqb k 0) SmallSigned (cond (eqb k 1) SmallUnsigned (cond (eqb k 2) LuaInteger (cond (eqb k 3) LuaUnsigned (cond (eqb k 4) Size (cond (eqb k 5) Single Double)))))

unfoldable pub kind_at : ℕ → Kind
kind_at e = kind_by (e / 16)

-- the size by the units
abbrev pub size_at : ℕ → ℕ
size_at e = e % 16

-- the class of a number of 112 to 191
unfoldable pub plain_at : ℕ → Class
plain_at e = cond (eqb e 112) Blank (cond (eqb e 128) (Order false) (cond (eqb e 144) (Order true) (cond (eqb e 160) Fill ZeroEnded)))

-- the entry that a number stands for
unfoldable pub entry_at : ℕ → Entry
entry_at e =
    cond (ltb e 112) (entry (Number (kind_at e)) (size_at e) (cond (eqb e 84) DigitsBehindX Nothing))
    (cond (ltb e 192) (entry (plain_at e) (size_at e) Nothing)
    (cond (ltb e 208) (entry (Number Signed) (size_at e) Digits)
    (cond (ltb e 224) (entry (Number Unsigned) (size_at e) Digits)
    (cond (ltb e 240) (entry Counted (size_at e) Digits)
    (cond (ltb e 244) (entry Chars 0 Digits)
    (cond (ltb e 248) (entry Limit 8 Digits)
    (cond (ltb e 252) (entry Align 0 NextByte)
    (entry NoOption 0 Nothing))))))))

-- the table that a list of such numbers, one for each byte value, stands for
abbrev pub table_at : List ℕ → Table
table_at l b = cond (ltb b 256) (entry_at (get_or l b 0)) (entry NoOption 0 Nothing)
