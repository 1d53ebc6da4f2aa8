-- Laws of cells and of the bytes that hold them, and of what holds of all elements.
use mathlib.Core.Path.{◌≡◌, refl, ap}
use mathlib.Core.List.{List, [], ◌∷◌, ◌++◌, map}
use Prim.Native.Nat.{ℕ, suc}
use lib.ListN.{length}
use Rattle.definition.specs.Writing.{Cell, pad, byte}
use Rattle.laws.specs.Claims.{Holds, All}

pub record Split (c e : List Cell) (d : List ℕ) : Type 0 where
  pub front : List ℕ
  pub back : List ℕ
  pub whole : d ≡ front ++ back
  pub left : Holds c front
  pub right : Holds e back

-- bytes that hold two lists of cells are bytes that hold the first, then bytes that hold the second
pub split : (c e : List Cell) (d : List ℕ) → Holds (c ++ e) d → Split c e d
split [] e d h = record { front = []; back = d; whole = refl; left = tt; right = h }
split (pad ∷ c) e [] h = absurd h
split (pad ∷ c) e (x ∷ d) h =
    let s = split c e d h in
    record { front = x ∷ s.front; back = s.back; whole = ap (λ (l : List ℕ). x ∷ l) s.whole; left = s.left; right = s.right }
split (byte y ∷ c) e [] h = absurd h
split (byte y ∷ c) e (x ∷ d) h =
    let s = split c e d h.1 in
    record { front = x ∷ s.front; back = s.back; whole = ap (λ (l : List ℕ). x ∷ l) s.whole; left = (h.0, s.left); right = s.right }

pub holds_length : (c : List Cell) (d : List ℕ) → Holds c d → length d ≡ length c
holds_length [] [] h = refl
holds_length [] (x ∷ d) h = absurd h
holds_length (pad ∷ c) [] h = absurd h
holds_length (pad ∷ c) (x ∷ d) h = ap suc (holds_length c d h)
holds_length (byte y ∷ c) [] h = absurd h
holds_length (byte y ∷ c) (x ∷ d) h = ap suc (holds_length c d h.1)

pub holds_bytes : (s d : List ℕ) → Holds (map byte s) d → d ≡ s
holds_bytes [] [] h = refl
holds_bytes [] (x ∷ d) h = absurd h
holds_bytes (y ∷ s) [] h = absurd h
holds_bytes (y ∷ s) (x ∷ d) h = rw (h.0, holds_bytes s d h.1)

pub holds_none : (d : List ℕ) → Holds [] d → d ≡ []
holds_none [] h = refl
holds_none (x ∷ d) h = absurd h

module _ {A : Type 0} (P : A → Type 0) where
  pub all_left : (x y : List A) → All P (x ++ y) → All P x
  all_left [] y h = tt
  all_left (a ∷ x) y h = (h.0, all_left x y h.1)

  pub all_right : (x y : List A) → All P (x ++ y) → All P y
  all_right [] y h = h
  all_right (a ∷ x) y h = all_right x y h.1

  pub all_append : (x y : List A) → All P x → All P y → All P (x ++ y)
  all_append [] y a b = b
  all_append (c ∷ x) y a b = (a.0, all_append x y a.1 b)
