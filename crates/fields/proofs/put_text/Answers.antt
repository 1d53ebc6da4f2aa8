-- `put_text` meets its contract: a head of tag 3, and the text right after it.
use Prim.Native.Nat.{suc, ◌+◌}
use native.Mathlib.Omega.{arith}
use mathlib.Core.Path.{ap, ◌∙◌}
use mathlib.Core.List.{◌∷◌, ◌++◌}
use lib.ListN.{length, drop}
use Rattle.definition.specs.Lists.{big}
use Rattle.laws.proofs.Lists.{length_big}
use Rattle.store.proofs.Pasting.{put_behind}
use Rattle.fields.proofs.Storing.{text_field}
use Rattle.fields.proofs.put_text.Goals as goal

pub returns : goal.returns
returns c =
    let d = c.args.out.now in
    let s = c.args.text.now in
    put_behind d _ _ (3 ∷ big 2 (length s)) s 3 _ (ap suc (length_big 2 (length s))) c.put_head.ensures (omega arith) c.put_copy.ensures
    ∙ ap (λ x. x ++ drop (3 + length s) d) (text_field s)
