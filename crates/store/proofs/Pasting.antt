-- What a list holds that begins with x, once y is put after it.
use Prim.Native.Nat.{ℕ, ◌+◌, ◌≤◌}
use mathlib.Core.Path.{◌≡◌, sym, ap, ◌∙◌}
use mathlib.Core.List.{List, ◌++◌, append_assoc, append-nil}
use native.Mathlib.Omega.{arith}
use borrow.Rule.Slice.PartMut.{put_mid}
use lib.ListN.{length, take, drop, length-append}
use lib.Seq.{paste, take_at, drop_at, drop-drop, take_all}
use Rattle.std.proofs.lemmas.List.{drop_all}

-- a list h that begins with x, and y put at the front of the part after it
pub put_behind : (d h p x y : List ℕ) (n k : ℕ) → length x ≡ n → h ≡ x ++ drop n d → length h ≤ n + k → p ≡ y ++ drop (length y) (take k (drop n h)) → put_mid n k h p ≡ (x ++ y) ++ drop (n + length y) d
put_behind d h p x y n k e f l g =
    let rest : List ℕ = drop n d in
    let m : length rest ≤ k = omega (arith, ap length f, length-append x rest) in
    rw (g, f, take_at x rest n e, drop_at x rest n e, take_all k rest m, drop_all k rest m, append-nil (y ++ drop (length y) rest), drop-drop (length y) n d)
    (sym (append_assoc x y (drop (n + length y) d)))

-- a list that begins with x, and y put after it
pub paste_front : (d x : List ℕ) (n : ℕ) → length x ≡ n → (y : List ℕ) (m : ℕ) → length y ≡ m → paste (x ++ drop n d) n y m ≡ (x ++ y) ++ drop (n + m) d
paste_front d x n e y m f =
    let rest : drop (n + m) (x ++ drop n d) ≡ drop (n + m) d = sym (drop-drop m n (x ++ drop n d)) ∙ ap (drop m) (drop_at x (drop n d) n e) ∙ drop-drop m n d in
    rw (take_at x (drop n d) n e, take_all m y (omega arith), rest)
