-- Laws of the items of a format: one item at a time, the bytes of items, and items cut apart and joined.
use Prim.Native.Nat.{ℕ, zero, suc}
use mathlib.Core.Path.{◌≡◌, refl, sym, ap, ◌∙◌}
use mathlib.Core.Bool.{Bool, true, false, ◌&&◌, cond}
use mathlib.Core.List.{List, [], ◌∷◌, ◌++◌, append_assoc, map, nil≢cons, cons≢nil}
use lib.ListN.{length, drop}
use lib.Seq.{drop-append_seam}
use Rattle.definition.specs.Options.{Table, NumeralRule, Nothing, Digits, DigitsBehindX, NextByte}
use Rattle.definition.specs.Items.{Item, item, items, items_past, texts, taken, taken_by, digits, next_byte, is_digit, is_number, behind_x}
use Rattle.laws.specs.Claims.{joined}

-- what is taken stands at the front
abbrev Front : (List ℕ → List ℕ) → List ℕ → Type 0
Front f s = f s ++ drop (length (f s)) s ≡ s

digits_front : (s : List ℕ) → Front digits s
unfolding digits
digits_front [] = refl
digits_front (b ∷ s) = go (is_digit b) (digits_front s)
  where
    go : (t : Bool) → Front digits s → cond t (b ∷ digits s) [] ++ drop (length (cond t (b ∷ digits s) [])) (b ∷ s) ≡ b ∷ s
    go true e = ap (λ (l : List ℕ). b ∷ l) e
    go false e = refl

-- where a is taken of a and u and v, it is taken of a and u
abbrev Stays : (List ℕ → List ℕ) → Type 0
Stays f = (a u v : List ℕ) → f (a ++ (u ++ v)) ≡ a → f (a ++ u) ≡ a

digits_stays : Stays digits
unfolding digits
digits_stays [] [] v e = refl
digits_stays [] (c ∷ u) v e = go (is_digit c) e
  where
    go : (t : Bool) → cond t (c ∷ digits (u ++ v)) [] ≡ [] → cond t (c ∷ digits u) [] ≡ []
    go true e = absurd (cons≢nil e)
    go false e = refl
digits_stays (d ∷ a) u v e = go (is_digit d) e (digits_stays a u v)
  where
    go : (t : Bool) → cond t (d ∷ digits (a ++ (u ++ v))) [] ≡ d ∷ a → (digits (a ++ (u ++ v)) ≡ a → digits (a ++ u) ≡ a) → cond t (d ∷ digits (a ++ u)) [] ≡ d ∷ a
    go true e f = ap (λ (l : List ℕ). d ∷ l) (f (cc))
    go false e f = absurd (nil≢cons e)

pub texts_append : (x y : List Item) → texts (x ++ y) ≡ texts x ++ texts y
texts_append [] y = refl
texts_append (i ∷ x) y = ap (λ (l : List ℕ). i.byte ∷ l) (rw (texts_append x y) (sym (append_assoc i.more (texts x) (texts y))))

-- ---- of a table
module _ (t : Table) where
  pub past_drop : (k : ℕ) (s : List ℕ) → items_past t k s ≡ items t (drop k s)
  unfolding items_past
  past_drop zero s = refl
  past_drop (suc k) [] = refl
  past_drop (suc k) (b ∷ s) = past_drop k s

  pub items_nil : items t [] ≡ []
  unfolding items_past
  items_nil = refl

  -- the first item, and those of what it leaves
  pub items_cons : (b : ℕ) (s : List ℕ) → items t (b ∷ s) ≡ item b (taken t b s) ∷ items t (drop (length (taken t b s)) s)
  unfolding items_past
  items_cons b s = ap (λ (l : List Item). item b (taken t b s) ∷ l) (past_drop (length (taken t b s)) s)

  next_front : (s : List ℕ) → Front (next_byte t) s
  unfolding next_byte
  next_front [] = refl
  next_front (c ∷ s) = ap (λ (l : List ℕ). c ∷ l) (go (is_number (t c).class && behind_x (t c).rule))
    where
      go : (x : Bool) → cond x (digits s) [] ++ drop (length (cond x (digits s) [])) s ≡ s
      go true = digits_front s
      go false = refl

  pub taken_front : (b : ℕ) (s : List ℕ) → Front (taken t b) s
  unfolding taken
  taken_front b s = go (t b).rule
    where
      go : (r : NumeralRule) → Front (taken_by t r) s
      go Nothing = refl
      go Digits = digits_front s
      go DigitsBehindX = refl
      go NextByte = next_front s

  next_stays : Stays (next_byte t)
  unfolding next_byte
  next_stays [] [] v e = refl
  next_stays [] (c ∷ u) v e = absurd (cons≢nil e)
  next_stays (c ∷ a) u v e = ap (λ (l : List ℕ). c ∷ l) (go (is_number (t c).class && behind_x (t c).rule) (cc))
    where
      go : (x : Bool) → cond x (digits (a ++ (u ++ v))) [] ≡ a → cond x (digits (a ++ u)) [] ≡ a
      go true e = digits_stays a u v e
      go false e = e

  taken_stays : (b : ℕ) → Stays (taken t b)
  unfolding taken
  taken_stays b = go (t b).rule
    where
      go : (r : NumeralRule) → Stays (taken_by t r)
      go Nothing = λ a u v e. e
      go Digits = digits_stays
      go DigitsBehindX = λ a u v e. e
      go NextByte = next_stays

  -- ---- the bytes of items

  texts_past : (k : ℕ) (s : List ℕ) → texts (items_past t k s) ≡ drop k s
  unfolding items_past
  texts_past zero [] = refl
  texts_past zero (b ∷ s) = ap (λ (l : List ℕ). b ∷ l) (rw (texts_past (length (taken t b s)) s) (taken_front b s))
  texts_past (suc k) [] = refl
  texts_past (suc k) (b ∷ s) = texts_past k s

  -- a format is the text of its items
  pub texts_items : (s : List ℕ) → texts (items t s) ≡ s
  texts_items s = texts_past 0 s

  -- the first items of a format, lexed by themselves
  items_item : (b : ℕ) (s : List ℕ) (x y : List Item) → items_past t (length (taken t b s)) s ≡ x ++ y → items t (texts x) ≡ x → items t (b ∷ (taken t b s ++ texts x)) ≡ item b (taken t b s) ∷ x
  items_item b s x y e ih =
      let whole : taken t b s ++ (texts x ++ texts y) ≡ s = ap (λ (l : List ℕ). taken t b s ++ l) (sym (texts_append x y) ∙ ap texts (sym e) ∙ texts_past (length (taken t b s)) s) ∙ taken_front b s in
      let same : taken t b (taken t b s ++ texts x) ≡ taken t b s = taken_stays b (taken t b s) (texts x) (texts y) (ap (taken t b) whole) in
      items_cons b (taken t b s ++ texts x) ∙ rw (same, drop-append_seam (taken t b s) (texts x), ih)

  front_past : (k : ℕ) (s : List ℕ) (x y : List Item) → items_past t k s ≡ x ++ y → items t (texts x) ≡ x
  unfolding items_past
  front_past k s [] y e = items_nil
  front_past zero [] (i ∷ x) y e = absurd (nil≢cons e)
  front_past zero (b ∷ s) (i ∷ x) y e =
      let one : item b (taken t b s) ≡ i = cc in
      let rest : items_past t (length (taken t b s)) s ≡ x ++ y = cc in
      rw (← one) (items_item b s x y rest (front_past (length (taken t b s)) s x y rest))
  front_past (suc k) [] (i ∷ x) y e = absurd (nil≢cons e)
  front_past (suc k) (b ∷ s) (i ∷ x) y e = front_past k s (i ∷ x) y e

  back_past : (k : ℕ) (s : List ℕ) (x y : List Item) → items_past t k s ≡ x ++ y → items t (texts y) ≡ y
  unfolding items_past
  back_past k s [] y e = ap (λ (l : List Item). items t (texts l)) (sym e) ∙ ap (items t) (texts_past k s) ∙ sym (past_drop k s) ∙ e
  back_past zero [] (i ∷ x) y e = absurd (nil≢cons e)
  back_past zero (b ∷ s) (i ∷ x) y e = back_past (length (taken t b s)) s x y (cc)
  back_past (suc k) [] (i ∷ x) y e = absurd (nil≢cons e)
  back_past (suc k) (b ∷ s) (i ∷ x) y e = back_past k s (i ∷ x) y e

  -- A format whose items stand in groups: each group's text has just the group's items.
  pub items_groups : (s : List ℕ) (gs : List (List Item)) → items t s ≡ joined gs → map (λ g. items t (texts g)) gs ≡ gs
  items_groups s [] e = refl
  items_groups s (g ∷ gs) e = rw (front_past 0 s g (joined gs) e, items_groups (texts (joined gs)) gs (back_past 0 s g (joined gs) e))
