-- A list that has no values is refused by 21.
use Prim.Native.Nat.{ℕ}
use mathlib.Core.Path.{◌≡◌, ap}
use mathlib.Core.Bool.{false, true≢false}
use mathlib.Core.List.{List}
use lib.Dec.{eqb→eq}
use Rattle.definition.specs.Answers.{Checked, refused, accepted}
use Rattle.definition.specs.Values as definition
use Rattle.definition.specs.Lists.{values}
use Rattle.laws.proofs.Refusals.{By21, low, values_21}
use Rattle.values.specs.Meaning.{is_accepted}

pub refused_list : (l : List ℕ) → is_accepted (values l) ≡ false → values l ≡ refused 21
refused_list l e = go (values l) (values_21 l) e
  where
    go : (c : Checked (List definition.Value)) → By21 c → is_accepted c ≡ false → c ≡ refused 21
    go (refused k) (low h) e = ap refused (eqb→eq k 21 h)
    go (accepted vs) h e = absurd (true≢false e)
