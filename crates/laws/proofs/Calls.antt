-- Laws of the calls: what a result buffer does to an answer, the room that it needs, and states that are returned.
use Prim.Native.Nat.{ℕ, ◌+◌, ◌≤◌, ◌<◌}
use native.Mathlib.Omega.{arith}
use mathlib.Core.Path.{◌≡◌, refl, sym, ap, ◌∙◌}
use mathlib.Core.Bool.{Bool, true, false, ◌&&◌, cond}
use mathlib.Core.List.{List, ◌∷◌}
use lib.Dec.{T, leb}
use lib.IntN.{ℤ}
use lib.ListN.{length, drop, length-append, length-map}
use lib.Seq.{drop-drop, take_at}
use lib.Ieee.Bits.{is_true}
use borrow.Author.Tests.{leb-true, leb-false, le-leb}
use Rattle.definition.specs.Answers.{Checked, refused, accepted, ◌>>=◌}
use Rattle.definition.specs.Options.{options}
use Rattle.definition.specs.Ops.{ops, is_power}
use Rattle.definition.specs.Values.{Value}
use Rattle.definition.specs.Lists.{values, fields_after}
use Rattle.definition.specs.States.{start, set}
use Rattle.definition.specs.Writing.{zeroed, Output, nothing, ◌⊕◌, Place, place, write_op, writing, write}
use Rattle.definition.specs.Calls.{Call, call, into, at_most_63, pack, record_of, continued_of, pack_continued, string_pack, unpack, unpacked_of, list_read, string_unpack}
use Rattle.definition.specs.Trays.{records_of, pack_tray}
use Rattle.laws.specs.Claims.{All, LongEnough, gives, Total, total_of, Room, Rooms, Returned}
use Rattle.definition.specs.declared.State.{State}
use Rattle.definition.specs.declared.Setting.{Setting}
use Rattle.definition.specs.declared.Op.{Op}
use Rattle.definition.specs.declared.Continued.{Continued}
use Rattle.laws.proofs.Answers.{never, same, same_number, bound, passed, by_steps, both_parts}
use Rattle.laws.proofs.Lists.{values_after}
use Rattle.laws.proofs.Ops.{valid_op, valid_setting, Valid, options_sizes, ops_valid}
use Rattle.laws.proofs.Steps.{Step, blank, sets, pads_out, puts, step_of_lem}
use Rattle.laws.proofs.Refusals.{ByCall, low_ops, low_writing, low_pack, low_unpack, low_tray, refuses_not}

-- ---- a result in a buffer

-- what a call gives that is accepted with room
pub into_fits : {A : Type 0} (b : List ℕ) (a : A) (s : List ℕ) → length s ≤ length b → into b (accepted (a, s)) ≡ gives a s b
into_fits b a s h = rw (le-leb (length s) (length b) h)

-- a call whose buffer is long enough was given room
pub into_long : {A : Type 0} (b : List ℕ) (a : A) (s : List ℕ) → LongEnough (into b (accepted (a, s))).answer → into b (accepted (a, s)) ≡ gives a s b
into_long b a s h = go (leb (length s) (length b)) h
  where
    go : (t : Bool) → LongEnough (cond t (gives a s b) (call (refused 22) b)).answer → cond t (gives a s b) (call (refused 22) b) ≡ gives a s b
    go true h = refl
    go false h = absurd (h refl)

-- so is a call that others follow
pub long_first : {A B : Type 0} (c : Checked A) (f : A → Checked B) → LongEnough (c >>= f) → LongEnough c
long_first (refused k) f h e = h (ap refused (same_number e))
long_first (accepted a) f h e = never (sym e)

-- what a buffer makes of an accepted answer: the result in it, or 22
pub data Put {A : Type 0} (b : List ℕ) (a : A) (s : List ℕ) : Call A → Type 0 where
  put : length s ≤ length b → Put b a s (gives a s b)
  no_room : length b < length s → Put b a s (call (refused 22) b)

pub put_into : {A : Type 0} (b : List ℕ) (a : A) (s : List ℕ) → Put b a s (into b (accepted (a, s)))
put_into b a s = go (leb (length s) (length b)) refl
  where
    go : (t : Bool) → leb (length s) (length b) ≡ t → Put b a s (cond t (gives a s b) (call (refused 22) b))
    go true e = put (leb-true (length s) (length b) e)
    go false e = no_room (leb-false (length s) (length b) e)

put_accepted : {A : Type 0} (b : List ℕ) (a x : A) (s : List ℕ) (c : Call A) → Put b a s c → c.answer ≡ accepted x → (a ≡ x) × (length s ≤ length b) × (c ≡ gives x s b)
put_accepted b a x s c (put h) e = (same e, h, ap (λ (y : _). gives y s b) (same e))
put_accepted b a x s c (no_room h) e = absurd (never e)

put_refused : {A : Type 0} (b : List ℕ) (a : A) (s : List ℕ) (c : Call A) (k : ℕ) → Put b a s c → c.answer ≡ refused k → (k ≡ 22) × (length b < length s) × (c.buffer ≡ b)
put_refused b a s c k (put h) e = absurd (never (sym e))
put_refused b a s c k (no_room h) e = (sym (same_number e), h, refl)

-- an accepted call gives its result in the buffer
pub into_accepted : {A : Type 0} (b : List ℕ) (c : Checked (A × List ℕ)) (a : A) → (into b c).answer ≡ accepted a → (s : List ℕ) × (c ≡ accepted (a, s)) × (length s ≤ length b) × (into b c ≡ gives a s b)
into_accepted b (refused k) a e = absurd (never e)
into_accepted b (accepted r) a e =
    let p = put_accepted b r.0 a r.1 (into b (accepted r)) (put_into b r.0 r.1) e in
    (r.1, ap (λ (x : _). accepted (x, r.1)) p.0, p.1, p.2)

-- a call's refusal that is not 22 is its own
into_refused : {A : Type 0} (b : List ℕ) (c : Checked (A × List ℕ)) (k : ℕ) → (k ≡ 22 → ⊥) → (into b c).answer ≡ refused k → c ≡ refused k
into_refused b (refused j) k n e = ap refused (same_number e)
into_refused b (accepted r) k n e = absurd (n (put_refused b r.0 r.1 (into b (accepted r)) k (put_into b r.0 r.1) e).0)

into_unchanged : {A : Type 0} (b : List ℕ) (c : Checked (A × List ℕ)) (k : ℕ) → (into b c).answer ≡ refused k → (into b c).buffer ≡ b
into_unchanged b (refused j) k e = refl
into_unchanged b (accepted r) k e = (put_refused b r.0 r.1 (into b (accepted r)) k (put_into b r.0 r.1) e).2

into_longer : {A : Type 0} (b : List ℕ) (c : Checked (A × List ℕ)) → (c ≡ refused 22 → ⊥) → (into b c).answer ≡ refused 22 → (a : A) × (s : List ℕ) × (length b < length s) × ((d : List ℕ) → length s ≤ length d → into d c ≡ gives a s d)
into_longer b (refused j) h e = absurd (h (ap refused (same_number e)))
into_longer b (accepted r) h e = (r.0, r.1, (put_refused b r.0 r.1 (into b (accepted r)) 22 (put_into b r.0 r.1) e).1, λ d l. into_fits d r.0 r.1 l)

-- a call whose own refusals are not 22
into_room : {A : Type 0} (c : Checked (A × List ℕ)) → (c ≡ refused 22 → ⊥) → Room (λ b. into b c)
into_room c h = record {
  unchanged = λ b k e. into_unchanged b c k e;
  front = λ b a e. let i = into_accepted b c a e in (i.0, i.2, i.3);
  others = λ b d k e n. ap (λ (x : _). (into d x).answer) (into_refused b c k n e);
  longer = λ b e. into_longer b c h e;
}

-- ---- states and lists that are returned

abbrev pub Sound : State → Type 0
Sound s = (is_power s.limit && at_most_63 s.length) ≡ true

pub start_sound : Sound start
start_sound = refl

both_true : (a b : Bool) → a ≡ true → b ≡ true → (a && b) ≡ true
both_true a b e f = rw (e, f)

-- a call from a sound state with a list
pub pack_run : (s : State) (f l : List ℕ) (vs : List Value) → Sound s → values l ≡ accepted vs → pack s f l ≡ write options s vs f
unfolding pack
pack_run s f l vs h e = rw (h, e)

pub set_sound : (x : Setting) (s : State) → T (valid_setting x) → Sound s → Sound (set x s)
set_sound (Setting.Order o) s ok h = h
set_sound (Setting.Limit n) s ok h = both_true (is_power n) (at_most_63 s.length) (is_true (is_power n) ok) (both_parts (is_power s.limit) (at_most_63 s.length) h).1

longer_sound : (s : State) (n : ℕ) → Sound s → at_most_63 n ≡ true → (is_power s.limit && at_most_63 n) ≡ true
longer_sound s n h w = both_true (is_power s.limit) (at_most_63 n) (both_parts (is_power s.limit) (at_most_63 s.length) h).0 w

pub step_sound : (r : Place Value) (o : Op) (t : Place Value) (a : Output) → Step r o t a → T (valid_op o) → Sound r.state → Sound t.state
step_sound r o t a blank ok h = h
step_sound r o t a (sets x) ok h = set_sound x r.state ok h
step_sound r o t a (pads_out n k p e w) ok h = longer_sound r.state (r.state.length + (p + k)) h w
step_sound r o t a (puts f p s v vs bs e g l c w) ok h = longer_sound r.state (r.state.length + (p + length bs)) h w

abbrev Stays : Place Value → List (Checked Op) → Place Value → Output → Type 0
Stays r is u o = All Valid is → Sound r.state → Sound u.state

pub run_sound : (r : Place Value) (is : List (Checked Op)) (u : Place Value) (o : Output) → writing r is ≡ accepted (u, o) → Stays r is u o
run_sound = by_steps write_op nothing ◌⊕◌ Stays (λ r v h. h) (λ r i t a is u o e ih v h. ih v.1 (step_sound r i t a (step_of_lem r i (t, a) e) (v.0 i refl) h))

step_left : (r : Place Value) (o : Op) (t : Place Value) (a : Output) → Step r o t a → t.left ≡ drop (length a.took) r.left
step_left r o t a blank = refl
step_left r o t a (sets x) = refl
step_left r o t a (pads_out n k p e w) = refl
step_left r o t a (puts f p s v vs bs e g l c w) = sym (ap (drop 1) l)

abbrev Left : Place Value → List (Checked Op) → Place Value → Output → Type 0
Left r is u o = u.left ≡ drop (length o.took) r.left

left_item : (r : Place Value) (i : Op) (t : Place Value) (a : Output) (is : List (Checked Op)) (u : Place Value) (o : Output) → write_op r i ≡ accepted (t, a) → Left t is u o → Left r (accepted i ∷ is) u (a ⊕ o)
left_item r i t a is u o e ih =
    ih ∙ ap (drop (length o.took)) (step_left r i t a (step_of_lem r i (t, a) e)) ∙ drop-drop (length o.took) (length a.took) r.left ∙ ap (λ (n : ℕ). drop n r.left) (sym (length-append a.took o.took))

-- the values that a run leaves are those after the ones that it used
pub run_left : (r : Place Value) (is : List (Checked Op)) (u : Place Value) (o : Output) → writing r is ≡ accepted (u, o) → Left r is u o
run_left = by_steps write_op nothing ◌⊕◌ Left (λ r. refl) left_item

-- what an accepted call went through
pub record Packed (s : State) (f l : List ℕ) (r : Place Value × Output) : Type 0 where
  pub vs : List Value
  pub sound : Sound s
  pub list : values l ≡ accepted vs
  pub run : write options s vs f ≡ accepted r

pub packed : (s : State) (f l : List ℕ) (r : Place Value × Output) → pack s f l ≡ accepted r → Packed s f l r
unfolding pack
packed s f l r e =
    let p = passed (is_power s.limit && at_most_63 s.length) 21 (values l >>= λ vs. write options s vs f) e in
    let b = bound (values l) (λ vs. write options s vs f) p.1 in
    record { vs = b.val; sound = p.0; list = b.is; run = b.rest }

-- the state and the list's rest that an accepted call leaves: sound, and with the values that are left
pub next_sound : (s : State) (f l : List ℕ) (r : Place Value × Output) (p : Packed s f l r) → Sound r.0.state
next_sound s f l r p = run_sound (place s p.vs) (ops options f) r.0 r.1 p.run (ops_valid options options_sizes f) p.sound

pub next_values : (s : State) (f l : List ℕ) (r : Place Value × Output) (p : Packed s f l r) → values (fields_after (length r.1.took) l) ≡ accepted r.0.left
next_values s f l r p = values_after (length r.1.took) l p.vs p.list ∙ ap accepted (sym (run_left (place s p.vs) (ops options f) r.0 r.1 p.run))

-- ---- continued writing in a buffer

pub length_record : (o : Output) → length (record_of o) ≡ length o.cells
length_record o = length-map o.cells zeroed

abbrev pub total_of_run : Place Value × Output → Total
total_of_run r = record { next = r.0.state; bytes = record_of r.1; used = length r.1.took; items = r.1.items }

-- a call with a buffer that is long enough is the run itself
pub total_long : (s : State) (f l b : List ℕ) → LongEnough (pack_continued s f l b).answer → total_of (pack_continued s f l b) ≡ (pack s f l >>= λ r. accepted (total_of_run r))
unfolding pack_continued
total_long s f l b h = go (pack s f l) h
  where
    go : (c : Checked (Place Value × Output)) → LongEnough (into b (c >>= λ r. accepted (continued_of r, record_of r.1))).answer → total_of (into b (c >>= λ r. accepted (continued_of r, record_of r.1))) ≡ (c >>= λ r. accepted (total_of_run r))
    go (refused k) h = refl
    go (accepted r) h = ap total_of (into_long b (continued_of r) (record_of r.1) h)
        ∙ ap (λ (x : List ℕ). accepted (record { next = r.0.state; bytes = x; used = length r.1.took; items = r.1.items })) (take_at (record_of r.1) (drop (length (record_of r.1)) b) (length r.1.cells) (length_record r.1))

-- ---- room

pub refused_bind : {A B : Type 0} (c : Checked A) (g : A → B) (k : ℕ) → (c >>= λ a. accepted (g a)) ≡ refused k → c ≡ refused k
refused_bind (refused j) g k e = ap refused (same_number e)
refused_bind (accepted a) g k e = absurd (never (sym e))

room_of : {A B : Type 0} (c : Checked A) (g : A → B × List ℕ) → ByCall c → Room (λ b. into b (c >>= λ a. accepted (g a)))
room_of c g h = into_room (c >>= λ a. accepted (g a)) (λ e. refuses_not _ 22 c (λ x. x) h (refused_bind c g 22 e))

pack_room : (f l : List ℕ) → Room (string_pack f l)
unfolding string_pack
pack_room f l = room_of (pack start f l) (λ r. (length r.1.cells, record_of r.1)) (low_pack start f l)

continued_room : (s : State) (f l : List ℕ) → Room (pack_continued s f l)
unfolding pack_continued
continued_room s f l = room_of (pack s f l) (λ r. (continued_of r, record_of r.1)) (low_pack s f l)

unpack_room : (f d : List ℕ) (p : ℤ) → Room (string_unpack f d p)
unfolding string_unpack
unpack_room f d p = room_of (unpack f d p) (λ r. (unpacked_of r, list_read r.0)) (low_unpack f d p)

tray_room : (f r : List ℕ) → Room (λ b. (pack_tray f r b).call)
unfolding pack_tray
tray_room f r = room_of (records_of f r).answer (λ bs. (length bs, bs)) (low_tray f r)

pub rooms : Rooms
rooms = record { packs = pack_room; continues = continued_room; reads = unpack_room; trays = tray_room }

-- ---- what continued writing returned is never refused by 21
pub returned : Returned
unfolding pack_continued
returned s f l b a e g c r =
    let i = into_accepted b (pack s f l >>= λ r. accepted (continued_of r, record_of r.1)) a e in
    let q = bound (pack s f l) (λ r. accepted (continued_of r, record_of r.1)) i.1 in
    let p = packed s f l q.val q.is in
    let next : continued_of q.val ≡ a = ap (λ (x : Continued × List ℕ). x.0) (same q.rest) in
    let run : pack q.val.0.state g (fields_after (length q.val.1.took) l) ≡ write options q.val.0.state q.val.0.left g
    = pack_run q.val.0.state g _ q.val.0.left (next_sound s f l q.val p) (next_values s f l q.val p) in
    let no : pack q.val.0.state g (fields_after (length q.val.1.took) l) ≡ refused 21 → ⊥ = λ n. refuses_not _ 21 (write options q.val.0.state q.val.0.left g) (λ x. x) (low_writing _ (ops options g) (low_ops options g)) (sym run ∙ n) in
    let x : pack a.next g (fields_after a.used l) ≡ refused 21 = refused_bind (pack a.next g (fields_after a.used l)) _ 21 (into_refused c _ 21 (λ h. omega arith) r) in
    no (ap (λ (y : Continued). pack y.next g (fields_after y.used l)) next ∙ x)
