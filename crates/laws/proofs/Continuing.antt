-- Size and writing again from every state: the laws of a run (Size, ReadBack), of the calls with buffers.
use Prim.Native.Nat.{ℕ}
use mathlib.Core.Path.{◌≡◌, sym, ap, ◌∙◌}
use mathlib.Core.Bool.{cond}
use mathlib.Core.List.{List, [], map, append-nil}
use lib.Dec.{T}
use lib.ListN.{length, length-map}
use Rattle.definition.specs.Answers.{Checked, refused, accepted, ◌>>=◌}
use Rattle.definition.specs.Options.{options}
use Rattle.definition.specs.Ops.{ops}
use Rattle.definition.specs.Bytes.{IsByte}
use Rattle.definition.specs.Values.{Value}
use Rattle.definition.specs.Lists.{list_of}
use Rattle.definition.specs.Measuring.{measure_from}
use Rattle.definition.specs.Writing.{Output, output, Place, place}
use Rattle.definition.specs.Calls.{into, pack, record_of, continued_of, pack_continued}
use Rattle.definition.specs.Kept.{output_of, written_from, keep, kept_from}
use Rattle.laws.specs.Claims.{All, LongEnough, gives, has_open, ShortChars, integer_for_j, Continuing}
use Rattle.definition.specs.declared.State.{State}
use Rattle.definition.specs.declared.Continued.{Continued}
use Rattle.laws.proofs.Answers.{same, bound}
use Rattle.laws.proofs.Lists.{values_held, values_of}
use Rattle.laws.proofs.Ops.{options_sizes, ops_valid}
use Rattle.laws.proofs.ReadBack.{Given, kept_took, write_again, kept_held}
use Rattle.laws.proofs.Size.{size_run}
use Rattle.laws.proofs.Calls.{into_long, into_accepted, pack_run, Packed, packed}

-- what continued writing makes of a run
abbrev made : Place Value × Output → Checked (Continued × List ℕ)
made r = accepted (continued_of r, record_of r.1)

module _ (s : State) (f l b : List ℕ) (a : Continued) (e : (pack_continued s f l b).answer ≡ accepted a) where
  -- the run that was accepted
  ran : (r : Place Value × Output) × (pack s f l ≡ accepted r) × (continued_of r ≡ a)
  unfolding pack_continued
  ran =
      let q = bound (pack s f l) made (into_accepted b (pack s f l >>= made) a e).1 in
      (q.val, q.is, ap (λ (x : Continued × List ℕ). x.0) (same q.rest))

  run : Packed s f l ran.0
  run = packed s f l ran.0 ran.1

  size : measure_from options s f ≡ cond (has_open (ops options f)) (refused 10) (accepted a.next)
  size =
      size_run (place s run.vs) (ops options f) ran.0.0 ran.0.1 run.run
      ∙ ap (λ (x : Continued). cond (has_open (ops options f)) (refused 10) (accepted x.next)) ran.2

  output_is : written_from s f l ≡ ran.0.1
  output_is = ap output_of ran.1

  -- the values that are kept, and what writing them puts out
  abbrev kept_values : List Value
  kept_values = map keep ran.0.1.took

  abbrev again_out : Place Value × Output
  again_out = (place ran.0.0.state [], output ran.0.1.cells (map kept_took ran.0.1.took) ran.0.1.items)

  again_run : Given (place s run.vs) (ops options f) ran.0.1 → pack s f (list_of kept_values) ≡ accepted again_out
  again_run g =
      pack_run s f (list_of kept_values) kept_values run.sound (values_of kept_values (kept_held (place s run.vs) (ops options f) ran.0.0 ran.0.1 run.run g))
      ∙ (rw append-nil at (write_again (place s run.vs) (ops options f) ran.0.0 ran.0.1 run.run g []))

  answer_is : continued_of again_out ≡ a
  answer_is = ap (λ (n : ℕ). record { next = ran.0.0.state; written = length ran.0.1.cells; used = n; items = ran.0.1.items }) (length-map ran.0.1.took kept_took) ∙ ran.2

  again : All IsByte l → ShortChars f → All (λ t. T (integer_for_j t.0 t.1)) (written_from s f l).took
      → (c : List ℕ) → LongEnough (pack_continued s f (kept_from s f l) c).answer → pack_continued s f (kept_from s f l) c ≡ gives a (record_of (written_from s f l)) c
  unfolding pack_continued
  again bytes short integers c long =
      let g : Given (place s run.vs) (ops options f) ran.0.1
      = record { valid = ops_valid options options_sizes f; short = short; held = values_held l run.vs bytes run.list; integers = rw output_is at integers } in
      let list : kept_from s f l ≡ list_of kept_values = ap (λ (o : Output). list_of (map keep o.took)) output_is in
      let is : pack s f (kept_from s f l) ≡ accepted again_out = ap (pack s f) list ∙ again_run g in
      let call : into c (pack s f (kept_from s f l) >>= made) ≡ gives (continued_of again_out) (record_of again_out.1) c
      = rw is (into_long c (continued_of again_out) (record_of again_out.1) (rw is at long)) in
      call ∙ ap (λ (x : Continued). gives x (record_of again_out.1) c) answer_is ∙ ap (λ (o : Output). gives a (record_of o) c) (sym output_is)

pub continuing : Continuing
continuing = record { size = size; again = again }
