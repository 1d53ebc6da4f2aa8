-- What an accepted step of writing was, by cases; and that reading, writing again and measuring follow it.
use Prim.Native.Nat.{ℕ, ◌+◌, ◌-◌, ◌%◌, ◌^◌, min}
use native.Mathlib.Nat.{add_assoc, add-zero}
use native.Mathlib.Omega.{arith}
use mathlib.Core.Path.{◌≡◌, refl, sym, ap, ◌∙◌, subst}
use mathlib.Core.Bool.{true}
use mathlib.Core.List.{List, [], ◌∷◌, ◌++◌, map, append_assoc}
use lib.Dec.{T, leb}
use lib.ListN.{length, length-append, length-replicate, length-map}
use lib.Seq.{drop_at}
use borrow.Author.Tests.{lt-leb, leb-true, leb-false}
use borrow.Table.Steps.{cases}
use Rattle.definition.specs.Answers.{accepted, ◌>>=◌}
use Rattle.definition.specs.Ops.{is_power}
use Rattle.definition.specs.Values.{Value, Held}
use Rattle.definition.specs.States.{state, set, further, longer, natural, alignment, fill, padding}
use Rattle.definition.specs.Fields.{encode, kept}
use Rattle.definition.specs.Writing.{pad, byte, pads, Output, output, nothing, Place, place, taking, early, write_pad, write_field, write_op}
use Rattle.definition.specs.Reading.{Read, values_of, read_pad, read_field, read_op}
use Rattle.definition.specs.Kept.{keep}
use Rattle.laws.specs.Claims.{Holds, All, is_short, of_field, integer_for_j}
use Rattle.definition.specs.declared.State.{State}
use Rattle.definition.specs.declared.Field.{Field}
use Rattle.definition.specs.declared.Setting.{Setting}
use Rattle.definition.specs.declared.Op.{Op}
use Rattle.laws.proofs.Answers.{never, same, bound, passed}
use Rattle.laws.proofs.Bytes.{first_of}
use Rattle.laws.proofs.Cells.{split, holds_length, holds_bytes, holds_none}
use Rattle.laws.proofs.Texts.{Returns}
use Rattle.laws.proofs.Fields.{field_back}
use Rattle.laws.proofs.Ops.{power_cases, valid_op}
use Rattle.laws.proofs.Traces.{map_out, read_value}

-- there is room for n bytes more
abbrev pub Roomy : State → ℕ → Type 0
Roomy s n = leb (s.length + n) (2 ^ 63 - 1) ≡ true

pub longer_room : (s t : State) (n : ℕ) → longer s n ≡ accepted t → Roomy s n × (further s n ≡ t)
unfolding longer
longer_room s t n e = let p = passed (leb (s.length + n) (2 ^ 63 - 1)) 9 (accepted (further s n)) e in (p.0, same p.1)

pub room_longer : (s : State) (n : ℕ) → Roomy s n → longer s n ≡ accepted (further s n)
unfolding longer
room_longer s n e = rw e

-- two steps on are one of both lengths
pub longer_twice : (s : State) (p n : ℕ) → (longer s p >>= λ t. longer t n) ≡ longer s (p + n)
unfolding longer
longer_twice s p n =
    cases (leb (s.length + p) (2 ^ 63 - 1))
    (λ q. rw (q, add_assoc s.length p n))
    (λ q. rw (q, lt-leb (s.length + (p + n)) (2 ^ 63 - 1) (omega (arith, leb-false (s.length + p) (2 ^ 63 - 1) q))))

-- a sum that is counted up to 2^64-1 is too long where the whole sum is
pub longer_capped : (s : State) (n : ℕ) → longer s (min n (2 ^ 64 - 1)) ≡ longer s n
unfolding longer
longer_capped s n =
    cases (leb n (2 ^ 64 - 1))
    (λ e. let same : min n (2 ^ 64 - 1) ≡ n = omega (arith, leb-true n (2 ^ 64 - 1) e) in rw same)
    (λ e. let over = leb-false n (2 ^ 64 - 1) e in
    let most : min n (2 ^ 64 - 1) ≡ 2 ^ 64 - 1 = omega (arith, over) in
    rw (most, lt-leb (s.length + (2 ^ 64 - 1)) (2 ^ 63 - 1) (omega arith), lt-leb (s.length + n) (2 ^ 63 - 1) (omega (arith, over))))

-- ---- an accepted step
pub data Step (r : Place Value) : Op → Place Value → Output → Type 0 where
  blank : Step r Op.Blank r nothing
  sets : (x : Setting) → Step r (Op.Set x) (place (set x r.state) r.left) (output [] [] 1)
  pads_out : (n k p : ℕ) → padding r.state n ≡ accepted p → Roomy r.state (p + k) → Step r (Op.Pad n k) (place (further r.state (p + k)) r.left) (output (pads (p + k)) [] 1)
  puts : (f : Field) (p : ℕ) (s : State) (v : Value) (vs : List Value) (bs : List ℕ)
      → padding r.state (natural f) ≡ accepted p → early r.state f ≡ accepted s → r.left ≡ v ∷ vs → encode r.state.big f v ≡ accepted bs → Roomy r.state (p + length bs)
      → Step r (Op.Put f) (place (further r.state (p + length bs)) vs) (output (pads p ++ map byte bs) ((f, v) ∷ []) 1)

taken_first : (l : List Value) (t : Value × List Value) → taking l ≡ accepted t → l ≡ t.0 ∷ t.1
taken_first [] t e = absurd (never e)
taken_first (v ∷ vs) t e = let q : (v, vs) ≡ t = same e in ap (λ (x : Value × List Value). x.0 ∷ x.1) q

abbrev pub Stepped : Place Value → Op → Place Value × Output → Type 0
Stepped r o q = Step r o q.0 q.1

pad_step : (r : Place Value) (n k : ℕ) (q : Place Value × Output) → write_pad r n k ≡ accepted q → Stepped r (Op.Pad n k) q
pad_step r n k q e =
    let b = bound (padding r.state n) _ e in
    let c = bound (longer r.state (b.val + k)) (λ s. accepted (place s r.left, output (pads (b.val + k)) [] 1)) b.rest in
    let d = longer_room r.state c.val (b.val + k) c.is in
    subst (Stepped r (Op.Pad n k)) (rw d.1 (same c.rest)) (pads_out n k b.val b.is d.0)

field_step : (r : Place Value) (f : Field) (q : Place Value × Output) → write_field r f ≡ accepted q → Stepped r (Op.Put f) q
unfolding write_field
field_step r f q e =
    let b = bound (padding r.state (natural f)) _ e in
    let c = bound (early r.state f) _ b.rest in
    let d = bound (taking r.left) _ c.rest in
    let g = bound (encode r.state.big f d.val.0) _ d.rest in
    let h = bound (longer r.state (b.val + length g.val)) _ g.rest in
    let w = longer_room r.state h.val (b.val + length g.val) h.is in
    subst (Stepped r (Op.Put f)) (rw w.1 (same h.rest))
    (puts f b.val c.val d.val.0 d.val.1 g.val b.is c.is (taken_first r.left d.val d.is) g.is w.0)

pub step_of_lem : (r : Place Value) (o : Op) (q : Place Value × Output) → write_op r o ≡ accepted q → Stepped r o q
unfolding write_op
step_of_lem r Op.Blank q e = subst (Stepped r Op.Blank) (same e) blank
step_of_lem r (Op.Set x) q e = subst (Stepped r (Op.Set x)) (same e) (sets x)
step_of_lem r (Op.Pad n k) q e = pad_step r n k q e
step_of_lem r (Op.Put f) q e = field_step r f q e

-- ---- padding is the same at places that are equal modulo 16

-- a state at another place
abbrev pub placed : ℕ → State → State
placed n s = state s.big s.limit n

abbrev pub Near : ℕ → ℕ → Type 0
Near x y = x % 16 ≡ y % 16

fill_near : (a x y : ℕ) → Near x y → is_power a ≡ true → fill a x ≡ fill a y
fill_near a x y h p = rw (power_cases (λ b. x % b ≡ y % b) (omega arith) (omega arith) (omega arith) (omega arith) (omega arith) a p)

padding_near : (s : State) (m n p : ℕ) → Near m s.length → padding s n ≡ accepted p → padding (placed m s) n ≡ accepted p
unfolding alignment padding
padding_near s m n p h e =
    let b = bound (alignment s n) (λ a. accepted (fill a s.length)) e in
    let c = passed (is_power (min n s.limit)) 6 (accepted (min n s.limit)) b.is in
    rw c.0 (ap accepted (fill_near (min n s.limit) m s.length h c.0 ∙ ap (λ (a : ℕ). fill a s.length) (same c.1) ∙ same b.rest))

-- ---- what an item wrote is read back

pad_back : (s : State) (m n k p : ℕ) (x rest : List ℕ) → Near m s.length → padding s n ≡ accepted p → length x ≡ p + k → read_pad (place (placed m s) (x ++ rest)) n k ≡ accepted (place (placed (m + length x) s) rest)
pad_back s m n k p x rest h e l = rw (padding_near s m n p h e, ← l, first_of x rest (length x) refl, drop_at x rest (length x) refl)

-- at a place that is the written length modulo 16, whatever the padding holds
abbrev ReadsBack : Place Value → Op → Place Value → Output → Type 0
ReadsBack r o t a = (m : ℕ) (d rest : List ℕ) → Near m r.state.length → Holds a.cells d → read_value (place (placed m r.state) (d ++ rest)) o ≡ accepted (place (placed (m + length d) t.state) rest, map keep a.took)

abbrev WritesAgain : Place Value → Op → Place Value → Output → Type 0
WritesAgain r o t a = (ws : List Value) → write_op (place r.state (map keep a.took ++ ws)) o ≡ accepted (place t.state ws, output a.cells (map (λ q. (q.0, keep q)) a.took) a.items)

pads_back : (s : State) (n k p m : ℕ) (d rest : List ℕ) → padding s n ≡ accepted p → Near m s.length → Holds (pads (p + k)) d
    → map_out values_of (◌>>=◌ {B = Place ℕ × List Read} (read_pad (place (placed m s) (d ++ rest)) n k) (λ t. accepted (t, []))) ≡ accepted (place (placed (m + length d) s) rest, [])
pads_back s n k p m d rest e h c = rw (pad_back s m n k p d rest h e (holds_length (pads (p + k)) d c ∙ length-replicate (p + k) pad))

field_reads : (r : Place Value) (f : Field) (p : ℕ) (v : Value) (bs : List ℕ) → padding r.state (natural f) ≡ accepted p → Returns r.state.big f v bs
    → ReadsBack r (Op.Put f) (place (further r.state (p + length bs)) []) (output (pads p ++ map byte bs) ((f, v) ∷ []) 1)
unfolding read_field read_op
field_reads r f p v bs e ret m d rest h c =
    let s = split (pads p) (map byte bs) d c in
    let whole : d ≡ s.front ++ bs = s.whole ∙ ap (λ (l : List ℕ). s.front ++ l) (holds_bytes bs s.back s.right) in
    let x : length s.front ≡ p + 0 = holds_length (pads p) s.front s.left ∙ length-replicate p pad ∙ sym (add-zero p) in
    rw (whole, append_assoc s.front bs rest, pad_back r.state m (natural f) 0 p s.front (bs ++ rest) h e x, ret.reads rest, drop_at bs rest (length bs) refl)
    (ap (λ (y : ℕ). accepted (place (placed y r.state) rest, kept f v ∷ [])) (add_assoc m (length s.front) (length bs) ∙ ap (λ (y : ℕ). m + y) (sym (length-append s.front bs))))

-- ---- the premises of demand 3, at one item: no long c, values that a list holds, integers for J
pub record Premises (r : Place Value) (o : Op) (a : Output) : Type 0 where
  pub valid : T (valid_op o)
  pub short : T (of_field is_short true (accepted o))
  pub held : All Held r.left
  pub integers : All (λ t. T (integer_for_j t.0 t.1)) a.took

set_placed : (x : Setting) (n : ℕ) (s : State) → set x (placed n s) ≡ placed n (set x s)
set_placed (Setting.Order o) n s = refl
set_placed (Setting.Limit m) n s = refl

pub set_length : (x : Setting) (s : State) → s.length ≡ (set x s).length
set_length (Setting.Order o) s = refl
set_length (Setting.Limit n) s = refl

pub reads_step : (r : Place Value) (o : Op) (t : Place Value) (a : Output) → Step r o t a → Premises r o a → ReadsBack r o t a
unfolding read_op
reads_step r o t a blank q m d rest h c = rw (holds_none d c, add-zero m)
reads_step r o t a (sets x) q m d rest h c = rw (holds_none d c, add-zero m) (ap (λ (s : State). accepted (place s rest, [])) (set_placed x m r.state))
reads_step r o t a (pads_out n k p e w) q m d rest h c = pads_back r.state n k p m d rest e h c
reads_step r o t a (puts f p s v vs bs e g l c w) q m d rest h x = field_reads r f p v bs e (field_back r.state.big f v bs q.valid (rw l at q.held).0 q.short q.integers.0 c) m d rest h x

pub again_step : (r : Place Value) (o : Op) (t : Place Value) (a : Output) → Step r o t a → Premises r o a → WritesAgain r o t a
unfolding write_op write_field
again_step r o t a blank q ws = refl
again_step r o t a (sets x) q ws = refl
again_step r o t a (pads_out n k p e w) q ws = rw (e, room_longer r.state (p + k) w)
again_step r o t a (puts f p s v vs bs e g l c w) q ws =
    rw (e, g, (field_back r.state.big f v bs q.valid (rw l at q.held).0 q.short q.integers.0 c).again, room_longer r.state (p + length bs) w)

pub kept_step : (r : Place Value) (o : Op) (t : Place Value) (a : Output) → Step r o t a → Premises r o a → All Held (map keep a.took)
kept_step r o t a blank q = tt
kept_step r o t a (sets x) q = tt
kept_step r o t a (pads_out n k p e w) q = tt
kept_step r o t a (puts f p s v vs bs e g l c w) q = ((field_back r.state.big f v bs q.valid (rw l at q.held).0 q.short q.integers.0 c).held, tt)

pub held_step : (r : Place Value) (o : Op) (t : Place Value) (a : Output) → Step r o t a → All Held r.left → All Held t.left
held_step r o t a blank held = held
held_step r o t a (sets x) held = held
held_step r o t a (pads_out n k p e w) held = held
held_step r o t a (puts f p s v vs bs e g l c w) held = (rw l at held).1

pub length_step : (r : Place Value) (o : Op) (t : Place Value) (a : Output) → Step r o t a → r.state.length + length a.cells ≡ t.state.length
length_step r o t a blank = add-zero r.state.length
length_step r o t a (sets x) = add-zero r.state.length ∙ set_length x r.state
length_step r o t a (pads_out n k p e w) = ap (λ (m : ℕ). r.state.length + m) (length-replicate (p + k) pad)
length_step r o t a (puts f p s v vs bs e g l c w) = ap (λ (n : ℕ). r.state.length + n) (simp (length-append, length-replicate, length-map))
