-- `is_filled` meets its contract: the bytes from the eighth place on are those above the lowest eight.
use Rattle.std.proofs.Common.{◌≡◌, ◌-◌, get_or, length, refl, rules, tests}
use Rattle.std.proofs.lemmas.Iterator.{cases_from_all, YieldsList-from_range}
use Rattle.words.specs.Digits.{place_of}
use Rattle.load.proofs.Gathering.{filled}
use Rattle.load.proofs.is_filled.Goals as goal

pub returns-else-size-le8 : goal.returns-else-size-le8
returns-else-size-le8 c =
    let a = c.args in
    let n = length a.bytes.now in
    filled a.big a.bytes.now a.fill c.all.result
    (cases_from_all _ _ _ (λ k. get_or a.bytes.now (place_of a.big n k) 0 ≡ a.fill) (λ k. get_or a.bytes.now (place_of a.big n k) 0 ≡ a.fill → ⊥) c.all.ensures.ran (YieldsList-from_range 8 n (n - 8) refl refl) (λ x q k. search (rules, tests)) (λ x q k. search (rules, tests)))
