-- The claims about the call, from those about its run: what an accepted call went through, and writing into a buffer.
use Prim.Native.Nat.{ℕ, ◌%◌, ◌≤◌}
use native.Mathlib.Nat.{zero-add}
use native.Mathlib.Omega.{arith}
use mathlib.Core.Path.{◌≡◌, refl, sym, ap, ◌∙◌, subst}
use mathlib.Core.Bool.{Bool, true, false}
use mathlib.Core.List.{List, [], ◌∷◌, ◌++◌}
use lib.Dec.{eqb, lit<}
use lib.ListN.{length}
use Rattle.definition.specs.Answers.{Checked, accepted, ◌>>=◌}
use Rattle.definition.specs.Bytes.{IsByte}
use Rattle.definition.specs.Options.{options}
use Rattle.definition.specs.Ops.{ops}
use Rattle.definition.specs.Values.{Value, integer, float, text, other, Held}
use Rattle.definition.specs.Lists.{big, tag, content, list_of, values}
use Rattle.definition.specs.States.{start}
use Rattle.definition.specs.Writing.{Place, Output, place, writing}
use Rattle.definition.specs.Calls.{pack, record_of, string_pack}
use Rattle.definition.specs.Kept.{output_of}
use Rattle.definition.specs.declared.State.{State}
use Rattle.laws.specs.Claims.{All}
use Rattle.laws.proofs.Answers.{same, bound, passed}
use Rattle.laws.proofs.Cells.{all_append}
use Rattle.laws.proofs.Lists.{all_big, values_of}
use Rattle.laws.proofs.ReadBack.{length_written}
use Rattle.laws.proofs.Calls.{into_fits, into_accepted, start_sound, pack_run, packed, length_record}
use Rattle.lengths.specs.Lengths.{Places, places, range_of, ranging, range_by, packsize_range}
use Rattle.lengths.specs.Claims.{text_lengths, least_of, greatest_of, Between, Texts, Reached}
use Rattle.lengths.specs.declared.Range.{Range}
use Rattle.lengths.proofs.Orders.{before_itself}
use Rattle.lengths.proofs.Between.{Lies, run_lies}
use Rattle.lengths.proofs.Steps.{pick, side}
use Rattle.lengths.proofs.Reaching.{Fine, run_reaches}

-- what an accepted call went through
pub record Ranged (f p : List ℕ) (q : Range) : Type 0 where
  pub whole : eqb (length p % 4) 0 ≡ true
  pub last : Places
  pub run : ranging (places start start p) (ops options f) ≡ accepted last
  pub is : range_of last ≡ q

pub ranged : (f p : List ℕ) (q : Range) → packsize_range f p ≡ accepted q → Ranged f p q
unfolding range_by packsize_range
ranged f p q e =
    let a = passed (eqb (length p % 4) 0) 21 (range_by options f p) e in
    let b = bound (ranging (places start start p) (ops options f)) (λ r. accepted (range_of r)) a.1 in
    record { whole = a.0; last = b.val; run = b.is; is = same b.rest }

-- what an accepted writing put out
pub record Wrote (f l : List ℕ) (n : ℕ) : Type 0 where
  pub last : Place Value
  pub out : Output
  pub packs : pack start f l ≡ accepted (last, out)
  pub size : last.state.length ≡ n

pub wrote : (f l b : List ℕ) (n : ℕ) → (string_pack f l b).answer ≡ accepted n → Wrote f l n
unfolding string_pack
wrote f l b n e =
    let i = into_accepted b (pack start f l >>= λ r. accepted (length r.1.cells, record_of r.1)) n e in
    let q = bound (pack start f l) (λ r. accepted (length r.1.cells, record_of r.1)) i.1 in
    let p = packed start f l q.val q.is in
    let counted : length q.val.1.cells ≡ n = ap (λ (x : ℕ × List ℕ). x.0) (same q.rest) in
    let long = length_written (place start p.vs) (ops options f) q.val.0 q.val.1 p.run in
    record { last = q.val.0; out = q.val.1; packs = q.is; size = sym long ∙ zero-add (length q.val.1.cells) ∙ counted }

side_start : (g : Bool) (p : List ℕ) → side g (places start start p) ≡ start
side_start true p = refl
side_start false p = refl

side_length : (g : Bool) (r : Places) → (side g r).length ≡ pick g (range_of r)
side_length true r = refl
side_length false r = refl

-- ---- "every such text's record must lie between": where texts lie between two picked lengths, so does the record
pub lies_between : (low high : Bool) (f p l b : List ℕ) (r : Range) (n : ℕ) → packsize_range f p ≡ accepted r → (string_pack f l b).answer ≡ accepted n → Texts (pick low) (pick high) f l p
    → (pick low r ≤ n) × (n ≤ pick high r)
lies_between low high f p l b r n e w t =
    let g = ranged f p r e in
    let x = wrote f l b n w in
    let y = packed start f l (x.last, x.out) x.packs in
    let texts = subst (λ (c : Checked (Place Value × Output)). Between (pick low) (pick high) p (text_lengths (output_of c).took)) x.packs t in
    let starts : Lies low high (places start start p) start (text_lengths x.out.took) = record { above = rw (side_start low p) (before_itself start); below = rw (side_start high p) (before_itself start); texts = texts } in
    let lies = run_lies low high (place start y.vs) (ops options f) x.last x.out y.run (places start start p) g.last g.run starts in
    rw (← g.is, ← x.size, ← side_length low g.last, ← side_length high g.last) (lies.above.lengths, lies.below.lengths)

-- where every text has just the picked length, so has the record
pub lies_at : (g : Bool) (f p l b : List ℕ) (r : Range) (n : ℕ) → packsize_range f p ≡ accepted r → (string_pack f l b).answer ≡ accepted n → Texts (pick g) (pick g) f l p → n ≡ pick g r
lies_at g f p l b r n e w t = omega (arith, lies_between g g f p l b r n e w t)

-- ---- "Both must be reached by some texts within the given lengths"

small_tag : (v : Value) → IsByte (tag v)
small_tag (integer z) = lit< tt
small_tag (float b) = lit< tt
small_tag (text s) = lit< tt
small_tag other = lit< tt

list_bytes : (vs : List Value) → All Fine vs → All IsByte (list_of vs)
unfolding list_of
list_bytes [] h = tt
list_bytes (v ∷ vs) h =
    let n = length (content v) in
    (small_tag v, all_append IsByte (big 2 n) (content v ++ list_of vs) (all_big 2 n) (all_append IsByte (content v) (list_of vs) h.0.bytes (list_bytes vs h.1)))

values_fine : (vs : List Value) → All Fine vs → values (list_of vs) ≡ accepted vs
values_fine vs h = values_of vs (held vs h)
  where
    held : (vs : List Value) → All Fine vs → All Held vs
    held [] h = tt
    held (v ∷ vs) h = (h.0.held, held vs h.1)

-- a list of values with which writing gives a record of n bytes
reach : (pick : Range → ℕ) (f p : List ℕ) (n : ℕ) (s : State) (vs : List Value) (o : Output) → All Fine vs → pack start f (list_of vs) ≡ accepted (place s [], o) → length o.cells ≡ n
    → Between least_of greatest_of p (text_lengths o.took) × Between pick pick p (text_lengths o.took) → Reached pick f p n
unfolding string_pack
reach pick f p n s vs o h e l t =
    let both : Checked (Place Value × Output) → Type 0 = λ c. Between least_of greatest_of p (text_lengths (output_of c).took) × Between pick pick p (text_lengths (output_of c).took) in
    let texts = subst both (sym e) t in
    record {
      list = list_of vs;
      bytes = list_bytes vs h;
      within = texts.0;
      exact = texts.1;
      writes = λ b m. rw (e, into_fits b (length o.cells) (record_of o) (omega (arith, length_record o, l, m))) (ap accepted l);
    }

pub reached : (g : Bool) (f p : List ℕ) (q : Range) → All IsByte p → packsize_range f p ≡ accepted q → Reached (pick g) f p (pick g q)
reached g f p q b e =
    let r = ranged f p q e in
    let x = run_reaches g (places start start p) (ops options f) r.last r.run b (before_itself start) in
    let run = subst (λ (s : State). writing (place s x.vs) (ops options f) ≡ accepted (place (side g r.last) [], x.out)) (side_start g p) x.writes in
    let size = sym (length_written (place start x.vs) (ops options f) (place (side g r.last) []) x.out run) ∙ zero-add (length x.out.cells) in
    let n : length x.out.cells ≡ pick g q = sym size ∙ side_length g r.last ∙ ap (pick g) r.is in
    reach (pick g) f p (pick g q) (side g r.last) x.vs x.out x.fine (pack_run start f (list_of x.vs) x.vs start_sound (values_fine x.vs x.fine) ∙ run) n x.texts
