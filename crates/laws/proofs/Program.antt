-- The program's decimal numbers: a numeral reads them back.
use Prim.Native.Nat.{ℕ, zero, suc, ◌+◌, ◌*◌, ◌-◌, ◌/◌, ◌%◌, ◌^◌, ◌<◌}
use Prim.Native.Char.{code}
use mathlib.Core.Path.{◌≡◌, refl, ap, ◌∙◌}
use mathlib.Core.Bool.{Bool, true, false, cond}
use mathlib.Core.List.{List, [], ◌∷◌, ◌++◌}
use native.Mathlib.Nat.{pow-suc}
use native.Mathlib.Omega.{arith}
use lib.Dec.{ltb}
use Rattle.definition.specs.Items.{value}
use Rattle.definition.specs.Program.{decimal_in}
use Rattle.laws.specs.Claims.{Decimals}

value_append : (s : List ℕ) (n d : ℕ) → value n (s ++ (d ∷ [])) ≡ value n s * 10 + (d - code "0")
unfolding value
value_append [] n d = refl
value_append (c ∷ s) n d = value_append s (n * 10 + (c - code "0")) d

decimal_value : (k n : ℕ) → n < 10 ^ k → value 0 (decimal_in k n) ≡ n
unfolding value decimal_in
decimal_value zero n h = omega arith
decimal_value (suc k) n h = go (ltb n 10) (decimal_value k (n / 10) (omega (arith, pow-suc 10 k)))
  where
    go : (t : Bool) → value 0 (decimal_in k (n / 10)) ≡ n / 10 → value 0 (cond t ((code "0" + n) ∷ []) (decimal_in k (n / 10) ++ ((code "0" + n % 10) ∷ []))) ≡ n
    go true ih = omega arith
    go false ih = value_append (decimal_in k (n / 10)) 0 (code "0" + n % 10) ∙ ap (λ (x : ℕ). x * 10 + (code "0" + n % 10 - code "0")) ih ∙ omega arith

pub decimals : Decimals
decimals = decimal_value 20
