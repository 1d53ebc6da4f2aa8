-- From the field at an offset to the values of the list from there.
use Prim.Native.Nat.{ℕ, ◌+◌}
use mathlib.Core.Path.{◌≡◌, refl, sym, ap, ◌∙◌}
use mathlib.Core.List.{List, [], ◌∷◌}
use mathlib.Core.Option.{none, some}
use native.Mathlib.Omega.{arith}
use lib.ListN.{drop}
use lib.Seq.{drop-drop}
use Rattle.definition.specs.Answers.{Checked, refused, accepted, ◌>>=◌}
use Rattle.definition.specs.Values as definition
use Rattle.definition.specs.Lists.{field_of, values_past, values}
use Rattle.laws.proofs.Lists.{past_drop}
use Rattle.values.specs.Meaning.{is_accepted, Standing, placed, first_field, field_at}

-- the values of a list that begins with w
abbrev pub beginning : definition.Value → Checked (List definition.Value) → Checked (List definition.Value)
beginning w c = c >>= λ vs. accepted (w ∷ vs)

-- the values of l from an offset, by the field that stands there
abbrev pub continued : List ℕ → Standing → Checked (List definition.Value)
continued l none = accepted []
continued l (some (refused k)) = refused k
continued l (some (accepted (w, next))) = beginning w (values (drop next l))

module _ (l : List ℕ) (at : ℕ) where
  values_at : values (drop at l) ≡ continued l (field_at l at)
  unfolding field_at values_past
  values_at = go (drop at l) refl
    where
      by : (t : ℕ) (s : List ℕ) (f : Checked (definition.Value × ℕ)) → drop at l ≡ t ∷ s → (f >>= λ g. values_past g.1 s >>= λ vs. accepted (g.0 ∷ vs)) ≡ continued l (some (placed at f))
      by t s (refused k) d = refl
      by t s (accepted g) d =
          let rest : drop (at + 1) l ≡ s = sym (drop-drop 1 at l) ∙ ap (drop 1) d in
          let same : drop g.1 s ≡ drop (at + 1 + g.1) l = ap (drop g.1) (sym rest) ∙ drop-drop g.1 (at + 1) l in
          rw (past_drop g.1 s, same)

      go : (s : List ℕ) → drop at l ≡ s → values s ≡ continued l (first_field at s)
      go [] d = refl
      go (t ∷ s) d = by t s (field_of t s) d

  -- none at the end, a refusal by the first malformed field, or a field's value before those of the list after it
  pub values_by : {f : Standing} → f ≡ field_at l at → values (drop at l) ≡ continued l f
  values_by e = values_at ∙ ap (continued l) (sym e)

-- ---- the same where the list's values are known: what is left of them

-- the first of them is w, and the others are those of the list from next
pub record Takes (l : List ℕ) (vs : List definition.Value) (w : definition.Value) (next : ℕ) : Type 0 where
  pub others : List definition.Value
  pub is : vs ≡ w ∷ others
  pub left : values (drop next l) ≡ accepted others

module _ (l : List ℕ) (at : ℕ) (vs : List definition.Value) (known : values (drop at l) ≡ accepted vs) where
  pub takes_none : none ≡ field_at l at → vs ≡ []
  takes_none e = let h = values_by l at e in cc

  pub takes_first : (w : definition.Value) (next : ℕ) → some (accepted (w, next)) ≡ field_at l at → Takes l vs w next
  takes_first w next e = go (values (drop next l)) refl (sym known ∙ values_by l at e)
    where
      go : (c : Checked (List definition.Value)) → values (drop next l) ≡ c → accepted vs ≡ beginning w c → Takes l vs w next
      go (refused k) d e = absurd (let z : ◌≡◌ {A = ℕ} 0 1 = cc in omega arith)
      go (accepted ws) d e = record { others = ws; is = cc; left = d }

-- ---- whether all of a list is accepted
pub accepted_beginning : (w : definition.Value) (c : Checked (List definition.Value)) → is_accepted (beginning w c) ≡ is_accepted c
accepted_beginning w (refused k) = refl
accepted_beginning w (accepted vs) = refl
