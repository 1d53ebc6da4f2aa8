-- Behind the settings at a format's front, from the state there, each record is what it is of the whole format from the start state.
use Prim.Native.Nat.{ℕ, ◌+◌, ◌-◌}
use native.Mathlib.Omega.{arith}
use mathlib.Core.Path.{◌≡◌, refl, sym, ap, ◌∙◌}
use mathlib.Core.List.{List, [], ◌∷◌}
use lib.ListN.{length, take, drop, length-drop}
use lib.Seq.{take_all}
use Rattle.definition.specs.Answers.{Checked, refused, accepted, ◌>>=◌, after}
use Rattle.definition.specs.Options.{options}
use Rattle.definition.specs.Values.{Value}
use Rattle.definition.specs.Lists.{values}
use Rattle.definition.specs.States.{start}
use Rattle.definition.specs.Writing.{Output, output, nothing, ◌⊕◌, Place, write_op, write}
use Rattle.definition.specs.Calls.{pack}
use Rattle.definition.specs.Trays.{lists, Placed, before, records, records_from, records_of}
use Rattle.definition.specs.declared.State.{State}
use Rattle.front.specs.Leading.{Leads}
use Rattle.tray.specs.Walks.{tray_from}

module _ {f : List ℕ} {at : ℕ} {s : State} (w : Leads options f at s) where
  same_before : (p : ℕ) (l : List ℕ) (t : Placed (List ℕ)) → before p (pack s (drop at f) l) t ≡ before p (pack start f l) t
  unfolding pack
  same_before p l t = rw w.sound (go (values l))
    where
      counted : (c : Checked (Place Value × Output)) → before p c t ≡ before p (after write_op nothing ◌⊕◌ (output [] [] w.items) c) t
      counted (refused k) = refl
      counted (accepted r) = refl

      go : (c : Checked (List Value)) → before p (c >>= λ vs. write options s vs (drop at f)) t ≡ before p (c >>= λ vs. write options start vs f) t
      go (refused k) = refl
      go (accepted vs) = counted (write options s vs (drop at f)) ∙ ap (λ (c : Checked (Place Value × Output)). before p c t) (sym (w.same vs))

  same_records : (p : ℕ) (ls : List (List ℕ)) → records s p (drop at f) ls ≡ records start p f ls
  unfolding records
  same_records p [] = refl
  same_records p (l ∷ ls) = ap (before p (pack s (drop at f) l)) (same_records (p + 1) ls) ∙ same_before p l (records start (p + 1) f ls)

  -- what is left of the format, as it is lent
  pub led : (r : List ℕ) → tray_from s (take (length f - at) (drop at f)) r ≡ records_of f r
  led r = ap (λ (g : List ℕ). tray_from s g r) (take_all (length f - at) (drop at f) (omega (arith, length-drop at f))) ∙ go (lists r)
    where
      go : (c : Checked (List (List ℕ))) → records_from s 1 (drop at f) c ≡ records_from start 1 f c
      go (refused k) = refl
      go (accepted ls) = same_records 1 ls
