-- The examples hold by computation. No list of bytes has a text of 65,536: its texts lie within 0 to 65,535, and so does the record of z, with its zero, within 1 to 65,536.
use Prim.Native.Nat.{ℕ, ◌≤◌}
use native.Mathlib.Omega.{arith}
use mathlib.Core.Path.{◌≡◌, refl, sym, subst}
use mathlib.Core.Bool.{Bool, true, false, cond}
use mathlib.Core.List.{List, [], ◌∷◌, ◌++◌}
use lib.ListN.{length, replicate, length-replicate}
use Rattle.definition.specs.Answers.{Checked, accepted}
use Rattle.definition.specs.Bytes.{bytes, little, total, signed, laid}
use Rattle.definition.specs.Values.{Value, Held}
use Rattle.definition.specs.Lists.{content, list_of, field_of, values_past}
use Rattle.definition.specs.Options.{entry_list, options}
use Rattle.definition.specs.Items.{digits, next_byte, taken, items_past, value, numeral_of}
use Rattle.definition.specs.Ops.{ops, op_of}
use Rattle.definition.specs.States.{start, longer, alignment, padding}
use Rattle.definition.specs.Fields.{word, encode}
use Rattle.definition.specs.Measuring.{measure_op, measure}
use Rattle.definition.specs.Writing.{Place, place, Output, nothing, ◌⊕◌, write_field, write_op, writing}
use Rattle.definition.specs.Calls.{pack, string_pack}
use Rattle.definition.specs.Kept.{output_of}
use Rattle.definition.specs.declared.Field.{Field}
use Rattle.definition.specs.declared.Op.{Op}
use Rattle.laws.specs.Claims.{All, is_open}
use Rattle.laws.proofs.Answers.{by_steps}
use Rattle.laws.proofs.Lists.{short, values_held}
use Rattle.laws.proofs.Steps.{Step, blank, sets, pads_out, puts, step_of_lem, held_step}
use Rattle.laws.proofs.Calls.{packed}
use Rattle.lengths.specs.Lengths.{range, extents, range_op, range_by, packsize_range}
use Rattle.lengths.specs.Claims.{text_lengths, least_of, greatest_of, Between, Texts, Reached}
use Rattle.lengths.specs.Premises.{wide, Needed}
use Rattle.lengths.specs.declared.Range.{Range}
use Rattle.lengths.proofs.Calls.{wrote, lies_between}

-- ---- the texts that writing takes of a list of bytes
abbrev Short : ℕ → Type 0
Short n = n ≤ 65535

step_short : (r : Place Value) (o : Op) (t : Place Value) (a : Output) (ts : List (Field × Value)) → Step r o t a → All Held r.left → All Short (text_lengths ts) → All Short (text_lengths (a.took ++ ts))
step_short r o t a ts blank h l = l
step_short r o t a ts (sets x) h l = l
step_short r o t a ts (pads_out n k p e w) h l = l
step_short r o t a ts (puts f p s v vs bs e g i c w) h l = go (is_open f)
  where
    go : (b : Bool) → All Short (cond b (length (content v) ∷ text_lengths ts) (text_lengths ts))
    go true = (omega (arith, short v (rw i at h).0), l)
    go false = l

abbrev ShortTexts : Place Value → List (Checked Op) → Place Value → Output → Type 0
ShortTexts r is u o = All Held r.left → All Short (text_lengths o.took)

short_texts : (r : Place Value) (is : List (Checked Op)) (u : Place Value) (o : Output) → writing r is ≡ accepted (u, o) → ShortTexts r is u o
short_texts = by_steps write_op nothing ◌⊕◌ ShortTexts (λ r h. tt)
    (λ r i t a is u o e ih h. let s = step_of_lem r i (t, a) e in step_short r i t a o.took s h (ih (held_step r i t a s h)))

-- a pair of 0 and 65,535
abbrev widest : List ℕ
widest = 0 ∷ 0 ∷ 255 ∷ 255 ∷ []

widest_range : packsize_range (bytes "z") widest ≡ accepted (range 1 65536)
unfolding little total entry_list options digits next_byte taken items_past value numeral_of op_of longer alignment padding extents range_op range_by packsize_range
widest_range = refl

wide_pair : (n : ℕ) (ns : List ℕ) → Between least_of greatest_of wide (n ∷ ns) → 65536 ≤ n
unfolding total
wide_pair n ns w = w.1

-- texts that lie within the wide pair are none
none_wide : (ns : List ℕ) → All Short ns → Between least_of greatest_of wide ns → Between least_of greatest_of widest ns
none_wide [] h w = tt
none_wide (n ∷ ns) h w = absurd (omega (arith, h.0, wide_pair n ns w))

not_reached : (pick : Range → ℕ) → Reached pick (bytes "z") wide 65537 → ⊥
not_reached pick r =
    let b : List ℕ = replicate 65537 0 in
    let e = r.writes b (omega (arith, length-replicate {A = ℕ} 65537 0)) in
    let x = wrote (bytes "z") r.list b 65537 e in
    let y = packed start (bytes "z") r.list (x.last, x.out) x.packs in
    let held = values_held r.list y.vs r.bytes y.list in
    let texts = subst (λ (c : Checked (Place Value × Output)). Between least_of greatest_of wide (text_lengths (output_of c).took)) x.packs r.within in
    let within = none_wide (text_lengths x.out.took) (short_texts (place start y.vs) (ops options (bytes "z")) x.last x.out y.run held) texts in
    let inside : Texts least_of greatest_of (bytes "z") r.list widest = subst (λ (c : Checked (Place Value × Output)). Between least_of greatest_of widest (text_lengths (output_of c).took)) (sym x.packs) within in
    omega (arith, (lies_between false true (bytes "z") widest r.list b (range 1 65536) 65537 widest_range e inside).1)

pub needed : Needed
unfolding little total signed laid list_of field_of values_past entry_list options digits next_byte taken items_past value numeral_of op_of longer alignment padding
    word encode measure_op measure write_field write_op pack string_pack extents range_op range_by packsize_range
needed = record {
  no_bytes = (refl, not_reached);
  outside = (refl, refl);
  neither = (refl, refl);
  part = (refl, refl);
  open_size = (refl, refl, refl);
  behind = (refl, refl);
  taken = (refl, refl);
}
