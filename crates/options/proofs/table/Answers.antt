-- The constant has the numbers of the packed table, which is the option table.
use mathlib.Core.Path.{sym, subst}
use Rattle.laws.proofs.Ops.{Sizes, options_sizes}
use Rattle.options.specs.Packed.{packed}
use Rattle.options.proofs.Options.{packed_options}
use Rattle.options.proofs.table.Goals as goal

pub returns : goal.returns
unfolding packed
returns c =
    packed_options

pub invariant_of-result : goal.invariant_of-result
unfolding packed
invariant_of-result c =
    record { sizes = subst Sizes (sym packed_options) options_sizes }
