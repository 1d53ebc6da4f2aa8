-- A record whose texts lie between two picked lengths of their pairs lies between these record lengths, least and greatest, or twice the same: after each item the state of the one is before the written state, and this before that of the other.
use Prim.Native.Nat.{ℕ, ◌+◌, ◌^◌, ◌≤◌}
use native.Mathlib.Omega.{arith}
use mathlib.Core.Path.{◌≡◌, refl, ap, ◌∙◌, sym, subst}
use mathlib.Core.Bool.{Bool, not}
use mathlib.Core.List.{List, [], ◌∷◌, ◌++◌}
use lib.Dec.{ltb}
use lib.IntN.{pos}
use lib.ListN.{length, length-append}
use Rattle.definition.specs.Answers.{Checked, accepted}
use Rattle.definition.specs.Bytes.{coded}
use Rattle.definition.specs.Values.{Value, integer, float, text, other}
use Rattle.definition.specs.Lists.{content}
use Rattle.definition.specs.States.{further, natural, padding}
use Rattle.definition.specs.Fields.{has_zero, encode}
use Rattle.definition.specs.Writing.{Output, nothing, ◌⊕◌, Place, write_op, writing}
use Rattle.definition.specs.declared.State.{State}
use Rattle.definition.specs.declared.Field.{Field}
use Rattle.definition.specs.declared.Field.TheVariants.{ZeroEnded, Counted}
use Rattle.definition.specs.declared.Op.{Op}
use Rattle.laws.proofs.Answers.{never, same, passed, by_steps}
use Rattle.laws.proofs.Bytes.{length_coded}
use Rattle.laws.proofs.Size.{number_size, chars_size}
use Rattle.laws.proofs.Steps as Written
use Rattle.laws.proofs.Steps.{blank, sets, pads_out, puts}
use Rattle.lengths.specs.Lengths.{range, pair_of, Places, range_op, ranging}
use Rattle.lengths.specs.Claims.{text_lengths, Between}
use Rattle.lengths.specs.declared.Range.{Range}
use Rattle.lengths.proofs.Orders.{Before, set_before, item_before}
use Rattle.lengths.proofs.Steps.{Paired, Taken, number, chars, zero_ended, counted, Onward, pad_went, put_went, pick, pick_same, pick_zero, pick_length, side, set_side, way, on_item}

-- ---- the bytes of a text
pub zero_ended_size : (o : Bool) (v : Value) (bs : List ℕ) → encode o ZeroEnded v ≡ accepted bs → length bs ≡ length (content v) + 1
unfolding encode
zero_ended_size o (integer z) bs e = absurd (never e)
zero_ended_size o (float b) bs e = absurd (never e)
zero_ended_size o (text s) bs e = ap length (sym (same (passed (not (has_zero s)) 14 (accepted (s ++ (0 ∷ []))) e).1)) ∙ length-append s (0 ∷ [])
zero_ended_size o other bs e = absurd (never e)

counted_size : (o : Bool) (n : ℕ) (v : Value) (bs : List ℕ) → encode o (Counted n) v ≡ accepted bs → length bs ≡ n + length (content v)
unfolding encode
counted_size o n (integer z) bs e = absurd (never e)
counted_size o n (float b) bs e = absurd (never e)
counted_size o n (text s) bs e =
    let c = coded o n (pos (length s)) in
    ap length (sym (same (passed (ltb (length s) (256 ^ n)) 15 (accepted (c ++ s)) e).1)) ∙ length-append c s ∙ ap (λ (x : ℕ). x + length s) (length_coded o n (pos (length s)))
counted_size o n other bs e = absurd (never e)

-- ---- a field that was written, with a text between two picked lengths

-- m bytes, between what the field has with these two, and what is left of the pairs holds the texts to come
record Fits (low high : Bool) (m : ℕ) (e : Range × List ℕ) (ns : List ℕ) : Type 0 where
  above : pick low e.0 ≤ m
  below : m ≤ pick high e.0
  texts : Between (pick low) (pick high) e.1 ns

-- the written state s lies between the two lengths
pub record Lies (low high : Bool) (q : Places) (s : State) (ns : List ℕ) : Type 0 where
  pub above : Before (side low q) s
  pub below : Before s (side high q)
  pub texts : Between (pick low) (pick high) q.left ns

module _ (low high : Bool) where
  -- as many bytes with every text
  same_fits : (m n : ℕ) (p ns : List ℕ) → m ≡ n → Between (pick low) (pick high) p ns → Fits low high m (range n n, p) ns
  same_fits m n p ns e t = record { above = omega (arith, e, pick_same low n); below = omega (arith, e, pick_same high n); texts = t }

  paired_fits : {holds : ℕ → Bool} {p : List ℕ} {q : Range} → Paired holds p q → (n : ℕ) → pick low (pair_of p) ≤ n → n ≤ pick high (pair_of p) → (pick low q ≤ n) × (n ≤ pick high q)
  paired_fits h n a b = subst (λ (q : Range). (pick low q ≤ n) × (n ≤ pick high q)) h.is (a, b)

  field_fits : (o : Bool) (f : Field) (v : Value) (bs p : List ℕ) (e : Range × List ℕ) (ts : List (Field × Value)) → Taken p f e → encode o f v ≡ accepted bs
      → Between (pick low) (pick high) p (text_lengths ((f, v) ∷ ts)) → Fits low high (length bs) e (text_lengths ts)
  field_fits o f v bs p e ts (number k n) c t = same_fits (length bs) n p (text_lengths ts) (number_size o k n v bs c) t
  field_fits o f v bs p e ts (chars n) c t = same_fits (length bs) n p (text_lengths ts) (chars_size o n v bs c) t
  field_fits o f v bs p e ts (zero_ended q h) c t =
      let s = zero_ended_size o v bs c in
      let b = paired_fits h (length (content v)) t.1 t.2 in
      record { above = omega (arith, b.0, s, pick_zero low q); below = omega (arith, b.1, s, pick_zero high q); texts = t.3 }
  field_fits o f v bs p e ts (counted n q h) c t =
      let s = counted_size o n v bs c in
      let b = paired_fits h (length (content v)) t.1 t.2 in
      record { above = omega (arith, b.0, s, pick_length low n q); below = omega (arith, b.1, s, pick_length high n q); texts = t.3 }

  -- ---- an item

  onward_lies : (q u : Places) (n m p : ℕ) (s : State) (e : Range × List ℕ) (ms ns : List ℕ) → Lies low high q s ms → Onward q n e u → padding s n ≡ accepted p → Fits low high m e ns
      → Lies low high u (further s (p + m)) ns
  onward_lies q u n m p s e ms ns l w h f =
      let a = way low q n e u w in
      let b = way high q n e u w in
      let left : e.1 ≡ u.left = ap (λ (x : Places). x.left) w.is in
      record {
        above = rw (← a.is) (item_before (side low q) s n a.zeros p (pick low e.0) m l.above a.padded h f.above);
        below = rw (← b.is) (item_before s (side high q) n p b.zeros m (pick high e.0) l.below h b.padded f.below);
        texts = rw (← left) f.texts;
      }

  item_lies : (r : Place Value) (o : Op) (t : Place Value) (a : Output) (q u : Places) (ts : List (Field × Value)) → Written.Step r o t a → range_op q o ≡ accepted u
      → Lies low high q r.state (text_lengths (a.took ++ ts)) → Lies low high u t.state (text_lengths ts)
  unfolding range_op
  item_lies r o t a q u ts blank e l = subst (λ (x : Places). Lies low high x t.state (text_lengths ts)) (same e) l
  item_lies r o t a q u ts (sets x) e l =
      subst (λ (y : Places). Lies low high y t.state (text_lengths ts)) (same e)
      record {
        above = rw (← set_side low x q) (set_before x (side low q) r.state l.above);
        below = rw (← set_side high x q) (set_before x r.state (side high q) l.below);
        texts = l.texts;
      }
  item_lies r o t a q u ts (pads_out n k p h w) e l =
      onward_lies q u n k p r.state (range k k, q.left) (text_lengths ts) (text_lengths ts) l (pad_went q n k u e) h (same_fits k k q.left (text_lengths ts) refl l.texts)
  item_lies r o t a q u ts (puts f p s v vs bs h g i c w) e l =
      let x = put_went q f u e in
      onward_lies q u (natural f) (length bs) p r.state x.e (text_lengths ((f, v) ∷ ts)) (text_lengths ts) l x.went h (field_fits r.state.big f v bs q.left x.e ts x.taken c l.texts)

  -- ---- a run
  abbrev LiesOn : Place Value → List (Checked Op) → Place Value → Output → Type 0
  LiesOn r is u o = (p q : Places) → ranging p is ≡ accepted q → Lies low high p r.state (text_lengths o.took) → Lies low high q u.state []

  run_nothing : (r : Place Value) → LiesOn r [] r nothing
  run_nothing r p q e l = subst (λ (x : Places). Lies low high x r.state []) (same e) l

  run_item : (r : Place Value) (i : Op) (t : Place Value) (a : Output) (is : List (Checked Op)) (u : Place Value) (o : Output) → write_op r i ≡ accepted (t, a) → LiesOn t is u o
      → LiesOn r (accepted i ∷ is) u (a ⊕ o)
  run_item r i t a is u o e ih p q h l =
      let b = on_item p i is q h in
      ih b.val q b.rest (item_lies r i t a p b.val o.took (Written.step_of_lem r i (t, a) e) b.is l)

  pub run_lies : (r : Place Value) (is : List (Checked Op)) (u : Place Value) (o : Output) → writing r is ≡ accepted (u, o) → LiesOn r is u o
  run_lies = by_steps write_op nothing ◌⊕◌ LiesOn run_nothing run_item
