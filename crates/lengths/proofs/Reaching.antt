-- Both lengths are reached: writing with the least texts, or with the greatest, goes from state to state as that length does. Texts are of ones, numbers 0, and c takes an empty text.
use Prim.Native.Nat.{ℕ, zero, suc, ◌+◌, ◌*◌, ◌-◌, ◌^◌, ◌≤◌, ◌<◌}
use native.Mathlib.Omega.{arith}
use mathlib.Core.Path.{◌≡◌, refl, sym, ap, ◌∙◌, subst}
use mathlib.Core.Bool.{Bool, true, false, not, cond}
use mathlib.Core.List.{List, [], ◌∷◌, ◌++◌, map}
use lib.Dec.{ltb, lit<, lit≤}
use lib.IntN.{ℤ, pos}
use lib.ListN.{length, take, drop, replicate, length-append, length-replicate, length-drop}
use lib.Seq.{length-take-le}
use borrow.Author.Tests.{leb-true, ltb-true, le-leb, lt-ltb}
use Rattle.definition.specs.Answers.{Checked, accepted}
use Rattle.definition.specs.Bytes.{IsByte, coded}
use Rattle.definition.specs.Values.{Value, integer, text, Held}
use Rattle.definition.specs.Lists.{content}
use Rattle.definition.specs.States.{further, natural}
use Rattle.definition.specs.Fields.{word, filled, has_zero, encode}
use Rattle.definition.specs.Writing.{byte, pads, Output, output, nothing, ◌⊕◌, place, early, write_field, write_op, writing}
use Rattle.definition.specs.declared.State.{State}
use Rattle.definition.specs.declared.Kind.{Kind}
use Rattle.definition.specs.declared.Kind.TheVariants.{SmallSigned, SmallUnsigned, Signed, Unsigned, LuaInteger, LuaUnsigned, Size, Single, Double}
use Rattle.definition.specs.declared.Field.{Field}
use Rattle.definition.specs.declared.Field.TheVariants.{Number, Chars, ZeroEnded, Counted}
use Rattle.definition.specs.declared.Op.{Op}
use Rattle.laws.specs.Claims.{All, is_open}
use Rattle.laws.proofs.Answers.{same, on}
use Rattle.laws.proofs.Bytes.{pow_pos, length_coded}
use Rattle.laws.proofs.Cells.{all_append}
use Rattle.laws.proofs.Lists.{big_lt, all_take, all_drop, all_big}
use Rattle.laws.proofs.Texts.{length_filled}
use Rattle.laws.proofs.Steps.{Roomy, room_longer}
use Rattle.lengths.specs.Lengths.{range, pair_of, Places, range_op, ranging}
use Rattle.lengths.specs.Claims.{text_lengths, least_of, greatest_of, Between}
use Rattle.lengths.specs.declared.Range.{Range}
use Rattle.lengths.proofs.Orders.{Before}
use Rattle.lengths.proofs.Steps.{Paired, Taken, number, chars, zero_ended, counted, extents_order, Onward, pad_went, put_went, onward_before, step_before, pick, pick_same, pick_zero, pick_length, side, set_side, way, by_items}

-- text lengths within the pairs p, each as picked
abbrev Picks : Bool → List ℕ → List ℕ → Type 0
Picks g p ns = Between least_of greatest_of p ns × Between (pick g) (pick g) p ns

-- that length is no longer than the greatest, which is tested
way_room : (g : Bool) (r : Places) (n : ℕ) (e : Range × List ℕ) (t : Places) (w : Onward r n e t) → Before r.least r.greatest → e.0.least ≤ e.0.greatest
    → Roomy (side g r) ((way g r n e t w).zeros + pick g e.0)
unfolding way
way_room true r n e t w h l = w.room
way_room false r n e t w h l =
    let order = rw (← w.is) at (onward_before r n e t l w h).lengths in
    let most = leb-true (r.greatest.length + (w.b + e.0.greatest)) (2 ^ 63 - 1) w.room in
    le-leb (r.least.length + (w.a + e.0.least)) (2 ^ 63 - 1) (omega (arith, order, most))

-- ---- a value for a field

-- what a list of bytes can hold
pub record Fine (v : Value) : Type 0 where
  pub held : Held v
  pub bytes : All IsByte (content v)

record Chosen (g : Bool) (p : List ℕ) (f : Field) (e : Range × List ℕ) : Type 0 where
  v : Value
  fine : Fine v
  written : (o : Bool) → (bs : List ℕ) × (encode o f v ≡ accepted bs) × (length bs ≡ pick g e.0)
  first : (s : State) (z : ℕ) → Roomy s (z + pick g e.0) → (u : State) × (early s f ≡ accepted u)
  texts : (ns : List ℕ) → Picks g e.1 ns → Picks g p (cond (is_open f) (length (content v) ∷ ns) ns)
  rest : All IsByte e.1

-- 0 suits every number option
zero_word : (k : Kind) (n : ℕ) → (z : ℤ) × (word k n (integer (pos 0)) ≡ accepted z)
unfolding word
zero_word SmallSigned n = (_, refl)
zero_word SmallUnsigned n = (_, refl)
zero_word Signed n = (pos 0, rw (lt-ltb (0 * 2) (256 ^ n) (pow_pos n)))
zero_word Unsigned n = (pos 0, rw (lt-ltb 0 (256 ^ n) (pow_pos n)))
zero_word LuaInteger n = (_, refl)
zero_word LuaUnsigned n = (pos 0, rw (lt-ltb 0 (256 ^ n) (pow_pos n)))
zero_word Size n = (_, refl)
zero_word Single n = (_, refl)
zero_word Double n = (_, refl)

zero_fine : Fine (integer (pos 0))
zero_fine = record { held = lit< tt; bytes = all_big 8 0 }

choose_number : (g : Bool) (p : List ℕ) (k : Kind) (n : ℕ) → All IsByte p → Chosen g p (Number k n) (range n n, p)
unfolding encode
choose_number g p k n b =
    let z = zero_word k n in
    record {
      v = integer (pos 0);
      fine = zero_fine;
      written = λ o. (coded o n z.0, rw z.1, length_coded o n z.0 ∙ pick_same g n);
      first = λ s z r. (s, refl);
      texts = λ ns w. w;
      rest = b;
    }

choose_chars : (g : Bool) (p : List ℕ) (n : ℕ) → All IsByte p → Chosen g p (Chars n) (range n n, p)
unfolding encode
choose_chars g p n b =
    record {
      v = text [];
      fine = record { held = lit≤ tt; bytes = tt };
      written = λ o. (filled n [], rw (le-leb 0 n (omega arith)), length_filled n [] (omega arith) ∙ pick_same g n);
      first = λ s z r. let m = leb-true (s.length + (z + pick g (range n n))) (2 ^ 63 - 1) r in
          (further s n, room_longer s n (le-leb (s.length + n) (2 ^ 63 - 1) (omega (arith, m, pick_same g n))));
      texts = λ ns w. w;
      rest = b;
    }

-- a text of n ones
abbrev ones : ℕ → List ℕ
ones n = replicate n 1

length_ones : (n : ℕ) → length (ones n) ≡ n
length_ones n = length-replicate {A = ℕ} n 1

ones_bytes : (n : ℕ) → All IsByte (ones n)
ones_bytes zero = tt
ones_bytes (suc n) = (lit< tt, ones_bytes n)

ones_no_zero : (n : ℕ) → not (has_zero (ones n)) ≡ true
ones_no_zero zero = refl
ones_no_zero (suc n) = ones_no_zero n

-- a length within a pair of bytes
record Picked (g : Bool) (p : List ℕ) (m : ℕ) : Type 0 where
  above : (pair_of p).least ≤ m
  below : m ≤ (pair_of p).greatest
  short : m ≤ 65535
  texts : (ns : List ℕ) → Picks g (drop 4 p) ns → Picks g p (length (ones m) ∷ ns)

picked : (g : Bool) (p : List ℕ) (q : Range) (holds : ℕ → Bool) → All IsByte p → Paired holds p q → Picked g p (pick g q)
picked g p q holds b h =
    let two = big_lt (take 2 (drop 2 p)) 2 (all_take 2 (drop 2 p) (all_drop 2 p b)) (length-take-le 2 (drop 2 p) (omega (arith, length-drop 2 p, h.there))) in
    let m = subst (λ (x : Range). ((pair_of p).least ≤ pick g x) × (pick g x ≤ (pair_of p).greatest)) h.is (ends g) in
    let is : pick g (pair_of p) ≡ pick g q = ap (pick g) h.is in
    record {
      above = m.0;
      below = m.1;
      short = omega (arith, two, m.1);
      texts = λ ns w. rw (length_ones (pick g q)) ((h.there, m.0, m.1, w.0), (h.there, omega (arith, is), omega (arith, is), w.1));
    }
  where
    ends : (g : Bool) → ((pair_of p).least ≤ pick g (pair_of p)) × (pick g (pair_of p) ≤ (pair_of p).greatest)
    ends true = (h.rising, omega arith)
    ends false = (omega arith, h.rising)

ones_fine : (m : ℕ) → m ≤ 65535 → Fine (text (ones m))
ones_fine m h = record { held = rw (length_ones m) h; bytes = ones_bytes m }

choose_zero_ended : (g : Bool) (p : List ℕ) (q : Range) → All IsByte p → Paired (λ m. true) p q → Chosen g p ZeroEnded (range (q.least + 1) (q.greatest + 1), drop 4 p)
unfolding encode
choose_zero_ended g p q b h =
    let m = pick g q in
    let x = picked g p q (λ m. true) b h in
    record {
      v = text (ones m);
      fine = ones_fine m x.short;
      written = λ o. (ones m ++ (0 ∷ []), rw (ones_no_zero m), length-append (ones m) (0 ∷ []) ∙ ap (λ (k : ℕ). k + 1) (length_ones m) ∙ pick_zero g q);
      first = λ s z r. (s, refl);
      texts = x.texts;
      rest = all_drop 4 p b;
    }

choose_counted : (g : Bool) (p : List ℕ) (n : ℕ) (q : Range) → All IsByte p → Paired (λ m. ltb m (256 ^ n)) p q → Chosen g p (Counted n) (range (n + q.least) (n + q.greatest), drop 4 p)
unfolding encode
choose_counted g p n q b h =
    let m = pick g q in
    let x = picked g p q (λ m. ltb m (256 ^ n)) b h in
    let fits : length (ones m) < 256 ^ n = rw (length_ones m) (omega (arith, x.below, ltb-true (pair_of p).greatest (256 ^ n) h.held)) in
    let c : Bool → List ℕ = λ o. coded o n (pos (length (ones m))) in
    record {
      v = text (ones m);
      fine = ones_fine m x.short;
      written = λ o. (c o ++ ones m, rw (lt-ltb (length (ones m)) (256 ^ n) fits), length-append (c o) (ones m) ∙ rw (length_coded o n (pos (length (ones m))), length_ones m) (pick_length g n q));
      first = λ s z r. (s, refl);
      texts = x.texts;
      rest = all_drop 4 p b;
    }

choose : (g : Bool) (p : List ℕ) (f : Field) (e : Range × List ℕ) → All IsByte p → Taken p f e → Chosen g p f e
choose g p f e b (number k n) = choose_number g p k n b
choose g p f e b (chars n) = choose_chars g p n b
choose g p f e b (zero_ended q h) = choose_zero_ended g p q b h
choose g p f e b (counted n q h) = choose_counted g p n q b h

-- ---- an item

record Reaches (g : Bool) (r : Places) (o : Op) (t : Places) : Type 0 where
  vs : List Value
  fine : All Fine vs
  out : Output
  writes : (ws : List Value) → write_op (place (side g r) (vs ++ ws)) o ≡ accepted (place (side g t) ws, out)
  texts : (ts : List (Field × Value)) → Picks g t.left (text_lengths ts) → Picks g r.left (text_lengths (out.took ++ ts))
  rest : All IsByte t.left

pad_reaches : (g : Bool) (r : Places) (n k : ℕ) (t : Places) → Onward r n (range k k, r.left) t → All IsByte r.left → Before r.least r.greatest → Reaches g r (Op.Pad n k) t
unfolding write_op
pad_reaches g r n k t w b h =
    let x = way g r n (range k k, r.left) t w in
    let left : r.left ≡ t.left = ap (λ (y : Places). y.left) w.is in
    let room : Roomy (side g r) (x.zeros + k) = subst (λ (m : ℕ). Roomy (side g r) (x.zeros + m)) (sym (pick_same g k)) (way_room g r n (range k k, r.left) t w h (omega arith)) in
    let is : further (side g r) (x.zeros + k) ≡ side g t = ap (λ (m : ℕ). further (side g r) (x.zeros + m)) (pick_same g k) ∙ x.is in
    record {
      vs = [];
      fine = tt;
      out = output (pads (x.zeros + k)) [] 1;
      writes = λ ws. rw (x.padded, room_longer (side g r) (x.zeros + k) room, is);
      texts = λ ts i. rw left i;
      rest = subst (All IsByte) left b;
    }

put_reaches : (g : Bool) (r : Places) (f : Field) (e : Range × List ℕ) (t : Places) → Taken r.left f e → Onward r (natural f) e t → All IsByte r.left → Before r.least r.greatest
    → Reaches g r (Op.Put f) t
unfolding write_op write_field
put_reaches g r f e t y w b h =
    let x = way g r (natural f) e t w in
    let fits = way_room g r (natural f) e t w h (extents_order f r.left e y) in
    let c = choose g r.left f e b y in
    let left : e.1 ≡ t.left = ap (λ (z : Places). z.left) w.is in
    let bs = c.written (side g r).big in
    let size : x.zeros + pick g e.0 ≡ x.zeros + length bs.0 = ap (λ (m : ℕ). x.zeros + m) (sym bs.2) in
    let room : Roomy (side g r) (x.zeros + length bs.0) = subst (Roomy (side g r)) size fits in
    let is : further (side g r) (x.zeros + length bs.0) ≡ side g t = ap (further (side g r)) (sym size) ∙ x.is in
    record {
      vs = c.v ∷ [];
      fine = (c.fine, tt);
      out = output (pads x.zeros ++ map byte bs.0) ((f, c.v) ∷ []) 1;
      writes = λ ws. rw (x.padded, (c.first (side g r) x.zeros fits).1, bs.1, room_longer (side g r) (x.zeros + length bs.0) room, is);
      texts = λ ts i. c.texts (text_lengths ts) (rw left i);
      rest = subst (All IsByte) left c.rest;
    }

item_reaches : (g : Bool) (r : Places) (o : Op) (t : Places) → range_op r o ≡ accepted t → All IsByte r.left → Before r.least r.greatest → Reaches g r o t
unfolding range_op write_op
item_reaches g r Op.Blank t e b h = subst (Reaches g r Op.Blank) (same e) record { vs = []; fine = tt; out = nothing; writes = λ ws. refl; texts = λ ts i. i; rest = b }
item_reaches g r (Op.Set x) t e b h =
    subst (Reaches g r (Op.Set x)) (same e)
    record { vs = []; fine = tt; out = output [] [] 1; writes = λ ws. ap (λ (s : State). accepted (place s ws, output [] [] 1)) (set_side g x r); texts = λ ts i. i; rest = b }
item_reaches g r (Op.Pad n k) t e b h = pad_reaches g r n k t (pad_went r n k t e) b h
item_reaches g r (Op.Put f) t e b h = let p = put_went r f t e in put_reaches g r f p.e t p.taken p.went b h

-- ---- a run
pub record RunReaches (g : Bool) (r : Places) (is : List (Checked Op)) (u : Places) : Type 0 where
  pub vs : List Value
  pub fine : All Fine vs
  pub out : Output
  pub writes : writing (place (side g r) vs) is ≡ accepted (place (side g u) [], out)
  pub texts : Picks g r.left (text_lengths out.took)

abbrev Reachable : Bool → Places → List (Checked Op) → Places → Type 0
Reachable g r is u = All IsByte r.left → Before r.least r.greatest → RunReaches g r is u

run_nothing : (g : Bool) (r : Places) → Reachable g r [] r
run_nothing g r b h = record { vs = []; fine = tt; out = nothing; writes = refl; texts = (tt, tt) }

run_item : (g : Bool) (r : Places) (o : Op) (t : Places) (is : List (Checked Op)) (u : Places) → range_op r o ≡ accepted t → Reachable g t is u → Reachable g r (accepted o ∷ is) u
run_item g r o t is u e ih b h =
    let x = item_reaches g r o t e b h in
    let y = ih x.rest (step_before r o t e h) in
    record {
      vs = x.vs ++ y.vs;
      fine = all_append Fine x.vs y.vs x.fine y.fine;
      out = x.out ⊕ y.out;
      writes = on write_op nothing ◌⊕◌ (place (side g r) (x.vs ++ y.vs)) (place (side g t) y.vs) o is x.out (place (side g u) [], y.out) (x.writes y.vs) y.writes;
      texts = x.texts y.out.took y.texts;
    }

pub run_reaches : (g : Bool) (r : Places) (is : List (Checked Op)) (u : Places) → ranging r is ≡ accepted u → Reachable g r is u
run_reaches g = by_items (Reachable g) (run_nothing g) (run_item g)
