-- `fits` meets its contract: it compares a difference in place of a sum.
use Rattle.std.proofs.Common.{◌≡◌, ℕ, ◌+◌, ◌-◌, ◌≤◌, leb, sym, ◌∙◌, arith, le-leb, leb-false, leb-true}
use borrow.Table.Steps.{cases}
use borrow.Author.Tests.{lt-leb}
use Rattle.align.proofs.fits.Goals as goal

leb_less : (a n m : ℕ) → a ≤ m → leb n (m - a) ≡ leb (a + n) m
leb_less a n m h =
    cases (leb n (m - a))
    (λ e. e ∙ sym (le-leb (a + n) m (omega (arith, leb-true n (m - a) e))))
    (λ e. e ∙ sym (lt-leb (a + n) m (omega (arith, leb-false n (m - a) e))))

pub returns : goal.returns
returns c =
    leb_less c.args.s.length c.args.n _ c.requires
