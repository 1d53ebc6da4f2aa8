-- The values from a place on: none, or its field's before those of the list behind it.
use Prim.Native.Nat.{ℕ}
use native.Mathlib.Omega.{arith}
use mathlib.Core.Path.{◌≡◌, refl, sym, ap, ◌∙◌}
use mathlib.Core.Bool.{true}
use mathlib.Core.List.{List, [], ◌∷◌}
use lib.ListN.{drop}
use Rattle.std.specs.Prelude.{Some, None}
use Rattle.definition.specs.Answers.{Checked, refused, accepted}
use Rattle.definition.specs.Values as definition
use Rattle.definition.specs.Lists.{values}
use Rattle.values.specs.Meaning.{meaning, FieldRead, is_accepted}
use Rattle.values.specs.declared.Value.{Value}
use Rattle.values.specs.declared.reader.Reader.{Reader}
use Rattle.values.proofs.Fields.{takes_none, takes_first}
use Rattle.plan.specs.Places.{listed, values_of, left_of}

pub list_known : (c : Checked (List definition.Value)) → is_accepted c ≡ true → c ≡ accepted (listed c)
list_known (refused k) e = absurd (let z : ◌≡◌ {A = ℕ} 0 1 = cc in omega arith)
list_known (accepted vs) e = refl

module _ (r : Reader) where
  known : values (drop r.at r.list.now) ≡ accepted (left_of r)
  known = list_known (values (drop r.at r.list.now)) r.well_formed

  pub none_left : FieldRead r.list.now r.at None → left_of r ≡ []
  none_left h = takes_none r.list.now r.at (left_of r) known h.says

  -- the field's value is v, and the next field stands at next
  pub record First (v : Value) (next : ℕ) : Type 0 where
    pub is : left_of r ≡ meaning r.list.now v ∷ values_of (drop next r.list.now)
    pub known : is_accepted (values (drop next r.list.now)) ≡ true

  pub first : {v : Value} {next : ℕ} → FieldRead r.list.now r.at (Some (v, next)) → First v next
  first {v} {next} h =
      let t = takes_first r.list.now r.at (left_of r) known (meaning r.list.now v) next h.says in
      record { is = t.is ∙ ap (λ (vs : List definition.Value). meaning r.list.now v ∷ vs) (sym (ap listed t.left)); known = ap is_accepted t.left }
