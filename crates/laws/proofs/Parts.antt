-- A run over a format is the runs over its parts in turn, for every step and output: the cut is proved once.
use mathlib.Core.Path.{◌≡◌, refl, sym, ap, ◌∙◌}
use mathlib.Core.List.{List, [], ◌∷◌, ◌++◌, map, map-append}
use Prim.Native.Nat.{ℕ}
use Rattle.definition.specs.Answers.{Checked, refused, accepted, ◌>>=◌, after, run}
use Rattle.definition.specs.Options.{options}
use Rattle.definition.specs.Items.{items, texts}
use Rattle.definition.specs.Ops.{op_of, ops}
use Rattle.definition.specs.declared.Op.{Op}
use Rattle.laws.specs.Claims.{joined, Divides}
use Rattle.laws.proofs.Items.{items_groups}

module _ {S I O : Type 0} (step : S → I → Checked (S × O)) (nothing : O) (◌⊕◌ : O → O → O) where
  infixl 60 ◌⊕◌
  -- the parts in turn, each from the state that the one before left, up to the first refusal
  abbrev pub runs : S → List (List (Checked I)) → Checked (S × O)
  runs s [] = accepted (s, nothing)
  runs s (p ∷ ps) = run step nothing ◌⊕◌ s p >>= λ r. after step nothing ◌⊕◌ r.1 (runs r.0 ps)

module _ {S I O : Type 0} (step : S → I → Checked (S × O)) (nothing : O) (◌⊕◌ : O → O → O)
    (left : (o : O) → nothing ⊕ o ≡ o) (assoc : (a b c : O) → (a ⊕ b) ⊕ c ≡ a ⊕ (b ⊕ c)) where
  infixl 60 ◌⊕◌
  pub after_nothing : (c : Checked (S × O)) → c ≡ after step nothing ◌⊕◌ nothing c
  after_nothing (refused k) = refl
  after_nothing (accepted a) = rw (left a.1)

  pub after_after : (a b : O) (c : Checked (S × O)) → after step nothing ◌⊕◌ a (after step nothing ◌⊕◌ b c) ≡ after step nothing ◌⊕◌ (a ⊕ b) c
  after_after a b (refused k) = refl
  after_after a b (accepted r) = rw (assoc a b r.1)

  -- a run over two lists of items, one after the other
  run_append : (s : S) (x y : List (Checked I)) → run step nothing ◌⊕◌ s (x ++ y) ≡ (run step nothing ◌⊕◌ s x >>= λ r. after step nothing ◌⊕◌ r.1 (run step nothing ◌⊕◌ r.0 y))
  run_append s [] y = after_nothing (run step nothing ◌⊕◌ s y)
  run_append s (i ∷ x) y = go (i >>= step s) (λ t. run_append t x y)
    where
      go : (c : Checked (S × O)) → ((t : S) → run step nothing ◌⊕◌ t (x ++ y) ≡ (run step nothing ◌⊕◌ t x >>= λ r. after step nothing ◌⊕◌ r.1 (run step nothing ◌⊕◌ r.0 y)))
          → (c >>= λ q. after step nothing ◌⊕◌ q.1 (run step nothing ◌⊕◌ q.0 (x ++ y)))
          ≡ (c >>= (λ q. after step nothing ◌⊕◌ q.1 (run step nothing ◌⊕◌ q.0 x)) >>= λ q. after step nothing ◌⊕◌ q.1 (run step nothing ◌⊕◌ q.0 y))
      go (refused k) ih = refl
      go (accepted q) ih = rw (ih q.0) (more (run step nothing ◌⊕◌ q.0 x))
        where
          more : (c : Checked (S × O)) → after step nothing ◌⊕◌ q.1 (c >>= λ w. after step nothing ◌⊕◌ w.1 (run step nothing ◌⊕◌ w.0 y))
              ≡ (after step nothing ◌⊕◌ q.1 c >>= λ w. after step nothing ◌⊕◌ w.1 (run step nothing ◌⊕◌ w.0 y))
          more (refused k) = refl
          more (accepted w) = after_after q.1 w.1 (run step nothing ◌⊕◌ w.0 y)

  -- one run over all is the parts in turn: the same state and output, or the same refusal
  run_joined : (s : S) (ps : List (List (Checked I))) → run step nothing ◌⊕◌ s (joined ps) ≡ runs step nothing ◌⊕◌ s ps
  run_joined s [] = refl
  run_joined s (p ∷ ps) = run_append s p (joined ps) ∙ go (run step nothing ◌⊕◌ s p) (λ t. run_joined t ps)
    where
      go : (c : Checked (S × O)) → ((t : S) → run step nothing ◌⊕◌ t (joined ps) ≡ runs step nothing ◌⊕◌ t ps)
          → (c >>= λ q. after step nothing ◌⊕◌ q.1 (run step nothing ◌⊕◌ q.0 (joined ps))) ≡ (c >>= λ q. after step nothing ◌⊕◌ q.1 (runs step nothing ◌⊕◌ q.0 ps))
      go (refused k) ih = refl
      go (accepted q) ih = rw (ih q.0)

map_map : {A B C : Type 0} (g : B → C) (f : A → B) (l : List A) → map g (map f l) ≡ map (λ a. g (f a)) l
map_map g f [] = refl
map_map g f (a ∷ l) = rw (map_map g f l)

map_joined : {A B : Type 0} (g : A → B) (ls : List (List A)) → map g (joined ls) ≡ joined (map (map g) ls)
map_joined g [] = refl
map_joined {B = B} g (l ∷ ls) = map-append g l (joined ls) ∙ ap (λ (x : List B). map g l ++ x) (map_joined g ls)

-- what the items of a format do is what those of its parts do
divided_ops : (f : List ℕ) (ps : List (List ℕ)) → Divides f ps → ops options f ≡ joined (map (ops options) ps)
divided_ops f ps d =
    let items-are : items options f ≡ joined (map (items options) ps)
    = d.whole ∙ ap joined (sym (ap (map (items options)) d.parts ∙ map_map (items options) texts d.groups ∙ items_groups options f d.groups d.whole)) in
    ap (map (op_of options)) items-are ∙ map_joined (op_of options) (map (items options) ps) ∙ ap joined (map_map (map (op_of options)) (items options) ps)

module _ {S O : Type 0} (step : S → Op → Checked (S × O)) (nothing : O) (◌⊕◌ : O → O → O)
    (left : (o : O) → nothing ⊕ o ≡ o) (assoc : (a b c : O) → (a ⊕ b) ⊕ c ≡ a ⊕ (b ⊕ c)) where
  infixl 60 ◌⊕◌
  pub cut_anywhere : (s : S) (f : List ℕ) (ps : List (List ℕ)) → Divides f ps → run step nothing ◌⊕◌ s (ops options f) ≡ runs step nothing ◌⊕◌ s (map (ops options) ps)
  cut_anywhere s f ps d = ap (run step nothing ◌⊕◌ s) (divided_ops f ps d) ∙ run_joined step nothing ◌⊕◌ left assoc s (map (ops options) ps)
