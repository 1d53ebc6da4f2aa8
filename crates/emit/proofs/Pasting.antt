-- What a buffer holds once bytes are put at its front.
use Prim.Native.Nat.{ℕ}
use native.Mathlib.Nat.{zero-add}
use mathlib.Core.Path.{◌≡◌, refl, ap, ◌∙◌}
use mathlib.Core.List.{List, [], ◌++◌}
use lib.ListN.{length, drop}
use lib.Seq.{paste}
use Rattle.store.proofs.Pasting.{paste_front}

-- y put at the front
pub paste_whole : (d y : List ℕ) (m : ℕ) → length y ≡ m → paste d 0 y m ≡ y ++ drop m d
paste_whole d y m e = paste_front d [] 0 refl y m e ∙ ap (λ (k : ℕ). y ++ drop k d) (zero-add m)
