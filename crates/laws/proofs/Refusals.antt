-- By which numbers of the list a call refuses: the items of measuring, writing and reading, a value list, a run of them, and a call but for its result buffer.
use Prim.Native.Nat.{ℕ, zero, suc, ◌+◌, ◌-◌, ◌^◌, min}
use mathlib.Core.Path.{◌≡◌, refl, sym, subst}
use mathlib.Core.Bool.{Bool, true, false, ◌&&◌, ◌||◌, not, cond}
use mathlib.Core.List.{List, [], ◌∷◌, ◌++◌, map}
use mathlib.Core.Option.{Option, none, some}
use lib.Dec.{T, leb, ltb, eqb, eqb→eq}
use lib.IntN.{ℤ, pos, negsuc}
use lib.ListN.{length, take, drop}
use Rattle.definition.specs.Answers.{Checked, refused, accepted, ◌>>=◌, ◌>>◌, require, or_else, after, run, silent, run_silent}
use Rattle.definition.specs.Options.{Table, options, Class, NumeralRule, Nothing, Digits, DigitsBehindX, NextByte, Entry}
use Rattle.definition.specs.Refusals.{among}
use Rattle.definition.specs.Items.{Item, items, numeral_of, Numeral}
use Rattle.definition.specs.Ops.{value_or, needed, within16, is_power, size_or, limit_or, number_natural, natural_by, natural_of, op_by, op_with, op_of, ops}
use Rattle.definition.specs.Values.{Value, integer, float, text, other, as_integer, as_number, as_bytes}
use Rattle.definition.specs.Bytes.{sign, signed, low as low_of, coded}
use Rattle.definition.specs.States.{start, further, longer, natural, alignment, padding}
use Rattle.definition.specs.Fields.{in_signed, in_unsigned, float_by, integer_or, word, filled, has_zero, encode, all, first, short, up_to_zero, number, signed_value, unsigned, unsigned_value, value_by, decode}
use Rattle.definition.specs.Writing.{Output, nothing, ◌⊕◌, Place, taking, early, write_field, write_op, writing, write}
use Rattle.definition.specs.Reading.{read_pad, read_field, read_op, reading, offset, offset_of, read_from, read}
use Rattle.definition.specs.Lists.{big_total, front, value_of, field_of, values_past, values}
use Rattle.definition.specs.Measuring.{size_of, measure_pad, measure_op, measure}
use Rattle.definition.specs.Bound.{most, bound_op, bound}
use Rattle.definition.specs.Calls.{at_most_63, pack, unpack}
use Rattle.definition.specs.Trays.{first_list, lists_past, lists, Placed, before, records, records_from, records_of}
use Rattle.laws.specs.Claims.{All}
use Rattle.laws.proofs.Answers.{never, same_number}
use Rattle.definition.specs.declared.Kind.{Kind}
use Rattle.definition.specs.declared.Kind.TheVariants.{SmallSigned, SmallUnsigned, Signed, Unsigned, LuaInteger, LuaUnsigned, Size, Single, Double}
use Rattle.definition.specs.declared.State.{State}
use Rattle.definition.specs.declared.Field.{Field}
use Rattle.definition.specs.declared.Field.TheVariants.{Number, Chars, ZeroEnded, Counted}
use Rattle.definition.specs.declared.Op.{Op}

-- a refusal's number passes a test
pub data Refuses (test : ℕ → Bool) {A : Type 0} : Checked A → Type 0 where
  low : {k : ℕ} → T (test k) → Refuses test (refused k)
  fine : {a : A} → Refuses test (accepted a)

-- the numbers of checks at an item
abbrev pub items_give : List ℕ
items_give = 1 ∷ 2 ∷ 3 ∷ 4 ∷ 5 ∷ 6 ∷ 7 ∷ 8 ∷ 9 ∷ 10 ∷ 11 ∷ 12 ∷ 13 ∷ 14 ∷ 15 ∷ 17 ∷ 18 ∷ 19 ∷ 20 ∷ []

-- the numbers of a call's checks, but for its result buffer
abbrev pub calls_give : List ℕ
calls_give = 16 ∷ 21 ∷ 23 ∷ items_give

-- a refusal is one of an item's
abbrev pub ByItem : {A : Type 0} → Checked A → Type 0
ByItem c = Refuses (among items_give) c

-- a refusal is one of a call's, but for its result buffer
abbrev pub ByCall : {A : Type 0} → Checked A → Type 0
ByCall c = Refuses (among calls_give) c

-- a refusal is 21, or 23
abbrev pub By21 : {A : Type 0} → Checked A → Type 0
By21 c = Refuses (λ k. eqb k 21) c

abbrev pub By23 : {A : Type 0} → Checked A → Type 0
By23 c = Refuses (λ k. eqb k 23) c

module _ {test : ℕ → Bool} where
  pub low_bind : {A B : Type 0} (c : Checked A) (f : A → Checked B) → Refuses test c → ((a : A) → Refuses test (f a)) → Refuses test (c >>= f)
  low_bind (refused k) f (low h) g = low h
  low_bind (accepted a) f h g = g a

  pub low_then : {A B : Type 0} (c : Checked A) (d : Checked B) → Refuses test c → Refuses test d → Refuses test (c >> d)
  low_then (refused k) d (low h) g = low h
  low_then (accepted a) d h g = g

  -- a check, and what follows it
  pub low_check : {B : Type 0} (t : Bool) (k : ℕ) (d : Checked B) → T (test k) → Refuses test d → Refuses test (require t k >> d)
  low_check true k d h g = g
  low_check false k d h g = low h

  low_else : {A : Type 0} (m : Option A) (c : Checked A) → Refuses test c → Refuses test (or_else m c)
  low_else (some a) c h = fine
  low_else none c h = h

  low_cond : {A : Type 0} (t : Bool) (c d : Checked A) → Refuses test c → Refuses test d → Refuses test (cond t c d)
  low_cond true c d h g = h
  low_cond false c d h g = g

  pub low_up : {A : Type 0} {weaker : ℕ → Bool} (c : Checked A) → ((k : ℕ) → T (test k) → T (weaker k)) → Refuses test c → Refuses weaker c
  low_up (refused k) w (low h) = low (w k h)
  low_up (accepted a) w h = fine

-- a number of a list is one of any list that has all of its numbers
abbrev every : (ℕ → Bool) → List ℕ → Bool
every p [] = true
every p (n ∷ ns) = p n && every p ns

pub among_all : (ms ns : List ℕ) → T (every (among ms) ns) → (k : ℕ) → T (among ns k) → T (among ms k)
among_all ms [] h k e = absurd e
among_all ms (n ∷ ns) h k e = first (among ms n) refl h (λ g. among_all ms ns g k)
  where
    is : T (among ms n) → T (eqb k n) → T (among ms k)
    is m q = subst (λ (x : ℕ). T (among ms x)) (sym (eqb→eq k n q)) m

    one : (b : Bool) → eqb k n ≡ b → T (among ms n) → (T (among ns k) → T (among ms k)) → T (b || among ns k) → T (among ms k)
    one true q m f e = is m (subst T (sym q) tt)
    one false q m f e = f e

    first : (b : Bool) → among ms n ≡ b → T (b && every (among ms) ns) → (T (every (among ms) ns) → T (among ns k) → T (among ms k)) → T (among ms k)
    first true q h f = one (eqb k n) refl (subst T (sym q) tt) (f h) e
    first false q h f = absurd h

module _ {test : ℕ → Bool} {S I O : Type 0} (step : S → I → Checked (S × O)) (nothing : O) (◌⊕◌ : O → O → O) (steps : (s : S) (i : I) → Refuses test (step s i)) where
  infixl 60 ◌⊕◌
  low_after : (o : O) (c : Checked (S × O)) → Refuses test c → Refuses test (after step nothing ◌⊕◌ o c)
  low_after o (refused k) (low h) = low h
  low_after o (accepted r) h = fine

  low_run : (s : S) (is : List (Checked I)) → All (Refuses test) is → Refuses test (run step nothing ◌⊕◌ s is)
  low_run s [] l = fine
  low_run s (i ∷ is) l = low_bind (i >>= step s) _ (low_bind i (step s) l.0 (steps s)) (λ r. low_after r.1 (run step nothing ◌⊕◌ r.0 is) (low_run r.0 is l.1))

pub low_silent : {test : ℕ → Bool} {S I : Type 0} (step : S → I → Checked S) → ((s : S) (i : I) → Refuses test (step s i)) → (s : S) (is : List (Checked I)) → All (Refuses test) is → Refuses test (run_silent step s is)
low_silent step steps s is l = low_bind _ _ (low_run (silent step) tt _ (λ s i. low_bind (step s i) _ (steps s i) (λ t. fine)) s is l) (λ r. fine)

-- ---- items
low_value : (d : ℕ) (m : Numeral) → ByItem (value_or d m)
low_value d Numeral.Missing = fine
low_value d Numeral.TooLarge = low tt
low_value d (Numeral.Value n) = fine

low_needed : (m : Numeral) → ByItem (needed m)
low_needed Numeral.Missing = low tt
low_needed Numeral.TooLarge = low tt
low_needed (Numeral.Value n) = fine

low_size : (d : ℕ) (m : Numeral) → ByItem (size_or d m)
low_size d m = low_bind (value_or d m) _ (low_value d m) (λ n. low_check (within16 n) 3 (accepted n) tt fine)

low_limit : (d : ℕ) (m : Numeral) → ByItem (limit_or d m)
low_limit d m = low_bind (value_or d m) _ (low_value d m) (λ n. low_check (within16 n) 4 _ tt (low_check (is_power n) 5 (accepted n) tt fine))

low_number_natural : (r : NumeralRule) (n : ℕ) (m : Numeral) → ByItem (number_natural r n m)
low_number_natural Nothing n m = fine
low_number_natural Digits n m = low_size n m
low_number_natural DigitsBehindX n m = fine
low_number_natural NextByte n m = fine

low_natural_by : (c : Class) (r : NumeralRule) (n : ℕ) (m : Numeral) → ByItem (natural_by c r n m)
low_natural_by Class.NoOption r n m = fine
low_natural_by Class.Blank r n m = low tt
low_natural_by (Class.Order o) r n m = low tt
low_natural_by Class.Limit r n m = low tt
low_natural_by (Class.Number k) r n m = low_number_natural r n m
low_natural_by Class.Chars r n m = low tt
low_natural_by Class.ZeroEnded r n m = low tt
low_natural_by Class.Counted r n m = low tt
low_natural_by Class.Fill r n m = low tt
low_natural_by Class.Align r n m = low tt

low_natural : (t : Table) (s : List ℕ) → ByItem (natural_of t s)
low_natural t [] = low tt
low_natural t (c ∷ s) = low_check (ltb c 128) 1 _ tt (low_natural_by (t c).class (t c).rule (t c).size (numeral_of s))

low_op_by : (c : Class) (n : ℕ) (m : Numeral) → ByItem (op_by c n m)
low_op_by Class.NoOption n m = low tt
low_op_by Class.Blank n m = fine
low_op_by (Class.Order o) n m = fine
low_op_by Class.Limit n m = low_bind (limit_or n m) _ (low_limit n m) (λ k. fine)
low_op_by (Class.Number k) n m = low_bind (size_or n m) _ (low_size n m) (λ size. fine)
low_op_by Class.Chars n m = low_bind (needed m) _ (low_needed m) (λ k. fine)
low_op_by Class.ZeroEnded n m = fine
low_op_by Class.Counted n m = low_bind (size_or n m) _ (low_size n m) (λ size. fine)
low_op_by Class.Fill n m = fine
low_op_by Class.Align n m = low tt

low_op_with : (t : Table) (r : NumeralRule) (e : Entry) (s : List ℕ) → ByItem (op_with t r e s)
low_op_with t Nothing e s = low_op_by e.class e.size Numeral.Missing
low_op_with t Digits e s = low_op_by e.class e.size (numeral_of s)
low_op_with t DigitsBehindX e s = low_op_by e.class e.size Numeral.Missing
low_op_with t NextByte e s = low_bind (natural_of t s) _ (low_natural t s) (λ n. fine)

low_op : (t : Table) (i : Item) → ByItem (op_of t i)
unfolding op_of
low_op t i = low_op_with t (t i.byte).rule (t i.byte) i.more

pub low_ops : (t : Table) (f : List ℕ) → All ByItem (ops t f)
low_ops t f = go (items t f)
  where
    go : (is : List Item) → All ByItem (map (op_of t) is)
    go [] = tt
    go (i ∷ is) = (low_op t i, go is)

low_alignment : (s : State) (n : ℕ) → ByItem (alignment s n)
unfolding alignment
low_alignment s n = low_check (is_power (min n s.limit)) 6 (accepted (min n s.limit)) tt fine

pub low_padding : (s : State) (n : ℕ) → ByItem (padding s n)
unfolding padding
low_padding s n = low_bind (alignment s n) _ (low_alignment s n) (λ a. fine)

pub low_longer : (s : State) (n : ℕ) → ByItem (longer s n)
unfolding longer
low_longer s n = low_check (leb (s.length + n) (2 ^ 63 - 1)) 9 (accepted (further s n)) tt fine

-- ---- measuring, and the list bound
low_size_of : (f : Field) → ByItem (size_of f)
low_size_of (Number k n) = fine
low_size_of (Chars n) = fine
low_size_of ZeroEnded = low tt
low_size_of (Counted n) = low tt

low_measure_pad : (s : State) (n k : ℕ) → ByItem (measure_pad s n k)
low_measure_pad s n k = low_bind (padding s n) _ (low_padding s n) (λ p. low_longer s (p + k))

low_measure_op : (s : State) (o : Op) → ByItem (measure_op s o)
unfolding measure_op
low_measure_op s Op.Blank = fine
low_measure_op s (Op.Set x) = fine
low_measure_op s (Op.Pad n k) = low_measure_pad s n k
low_measure_op s (Op.Put f) = low_bind (size_of f) _ (low_size_of f) (low_measure_pad s (natural f))

pub low_measure : (t : Table) (f : List ℕ) → ByItem (measure t f)
unfolding measure
low_measure t f = low_bind _ _ (low_silent measure_op low_measure_op start (ops t f) (low_ops t f)) (λ s. fine)

low_bound_op : (d : ℕ) (s : State) (o : Op) → ByItem (bound_op d s o)
unfolding bound_op
low_bound_op d s Op.Blank = fine
low_bound_op d s (Op.Set x) = fine
low_bound_op d s (Op.Pad n k) = low_then (alignment s n) _ (low_alignment s n) fine
low_bound_op d s (Op.Put f) = low_then (alignment s (natural f)) _ (low_alignment s (natural f)) (low_longer s (most d f))

pub low_bound : (t : Table) (f : List ℕ) (d : ℕ) → ByItem (bound t f d)
unfolding bound
low_bound t f d = low_bind _ _ (low_silent (bound_op d) (low_bound_op d) start (ops t f) (low_ops t f)) (λ s. fine)

-- ---- writing
low_float : (g : ℕ → ℕ) (v : Value) → ByItem (float_by g v)
low_float g (integer z) = low tt
low_float g (float b) = fine
low_float g (text s) = low tt
low_float g other = low tt

low_word : (k : Kind) (n : ℕ) (v : Value) → ByItem (word k n v)
unfolding word
low_word SmallSigned n v = low_else (as_integer v) (refused 12) (low tt)
low_word SmallUnsigned n v = low_else (as_integer v) (refused 12) (low tt)
low_word Signed n v = low_bind (or_else (as_integer v) (refused 12)) _ (low_else (as_integer v) (refused 12) (low tt)) (λ z. low_check (in_signed n z) 13 (accepted z) tt fine)
low_word Unsigned n v = low_bind (or_else (as_integer v) (refused 12)) _ (low_else (as_integer v) (refused 12) (low tt)) (λ z. low_check (in_unsigned n z) 13 (accepted z) tt fine)
low_word LuaInteger n v = low_else (as_integer v) _ (low_float _ v)
low_word LuaUnsigned n v = low_bind (integer_or (λ b. b) v) _ (low_else (as_integer v) _ (low_float _ v)) (λ z. low_check (in_unsigned n z) 13 (accepted z) tt fine)
low_word Size n v = low_else (as_integer v) _ (low_float _ v)
low_word Single n v = low_bind (or_else (as_number v) (refused 12)) _ (low_else (as_number v) (refused 12) (low tt)) (λ b. fine)
low_word Double n v = low_bind (or_else (as_number v) (refused 12)) _ (low_else (as_number v) (refused 12) (low tt)) (λ b. fine)

low_encode : (o : Bool) (f : Field) (v : Value) → ByItem (encode o f v)
unfolding encode
low_encode o (Number k n) v = low_bind (word k n v) _ (low_word k n v) (λ z. fine)
low_encode o (Chars n) v = low_bind (or_else (as_bytes v) (refused 12)) _ (low_else (as_bytes v) (refused 12) (low tt)) (λ s. low_check (leb (length s) n) 15 (accepted (filled n s)) tt fine)
low_encode o ZeroEnded v = low_bind (or_else (as_bytes v) (refused 12)) _ (low_else (as_bytes v) (refused 12) (low tt)) (λ s. low_check (not (has_zero s)) 14 (accepted (s ++ (0 ∷ []))) tt fine)
low_encode o (Counted n) v = low_bind (or_else (as_bytes v) (refused 12)) _ (low_else (as_bytes v) (refused 12) (low tt)) (λ s. low_check (ltb (length s) (256 ^ n)) 15 (accepted (coded o n (pos (length s)) ++ s)) tt fine)

low_taking : (l : List Value) → ByItem (taking l)
low_taking [] = low tt
low_taking (v ∷ vs) = fine

low_early : (s : State) (f : Field) → ByItem (early s f)
low_early s (Number k n) = fine
low_early s (Chars n) = low_longer s n
low_early s ZeroEnded = fine
low_early s (Counted n) = fine

low_write_op : (r : Place Value) (o : Op) → ByItem (write_op r o)
unfolding write_op write_field
low_write_op r Op.Blank = fine
low_write_op r (Op.Set x) = fine
low_write_op r (Op.Pad n k) = low_bind (padding r.state n) _ (low_padding r.state n) (λ p. low_bind (longer r.state (p + k)) _ (low_longer r.state (p + k)) (λ s. fine))
low_write_op r (Op.Put f) =
    low_bind (padding r.state (natural f)) _ (low_padding r.state (natural f)) (λ p.
    low_bind (early r.state f) _ (low_early r.state f) (λ e.
    low_bind (taking r.left) _ (low_taking r.left) (λ t.
    low_bind (encode r.state.big f t.0) _ (low_encode r.state.big f t.0) (λ bs.
    low_bind (longer r.state (p + length bs)) _ (low_longer r.state (p + length bs)) (λ s. fine)))))

pub low_writing : (r : Place Value) (is : List (Checked Op)) → All ByItem is → ByItem (writing r is)
low_writing = low_run write_op nothing ◌⊕◌ low_write_op

-- ---- reading
low_first : (n : ℕ) (s : List ℕ) → ByItem (first n s)
low_first n s = low_check (leb n (length s)) 17 (accepted (take n s)) tt fine

low_short : (s : List ℕ) → ByItem (short s)
low_short s = low_check (leb (length s) 65535) 20 (accepted s) tt fine

low_up_to : (s : List ℕ) → ByItem (up_to_zero s)
low_up_to [] = low tt
low_up_to (b ∷ s) = low_cond (eqb b 0) (accepted []) _ fine (low_bind (up_to_zero s) _ (low_up_to s) (λ t. fine))

low_number : (o : Bool) (n : ℕ) (s : List ℕ) → ByItem (number o n s)
unfolding number
low_number o n s = low_bind (first n s) _ (low_first n s) (λ l. fine)

low_unsigned : (u : ℕ) (h : List ℕ) → ByItem (unsigned u h)
low_unsigned u h = low_check (all 0 h) 18 (accepted u) tt fine

low_signed_value : (n u : ℕ) (h : List ℕ) → ByItem (signed_value n u h)
low_signed_value n u h = low_check (all (sign (signed (low_of n) u)) h) 18 (accepted (integer (signed (low_of n) u))) tt fine

low_unsigned_value : (u : ℕ) (h : List ℕ) → ByItem (unsigned_value u h)
low_unsigned_value u h = low_bind (unsigned u h) _ (low_unsigned u h) (λ w. fine)

low_value_by : (k : Kind) (n u : ℕ) (h : List ℕ) → ByItem (value_by k n u h)
low_value_by SmallSigned n u h = low_signed_value n u h
low_value_by SmallUnsigned n u h = low_unsigned_value u h
low_value_by Signed n u h = low_signed_value n u h
low_value_by Unsigned n u h = low_unsigned_value u h
low_value_by LuaInteger n u h = low_signed_value n u h
low_value_by LuaUnsigned n u h = low_unsigned_value u h
low_value_by Size n u h = low_unsigned_value u h
low_value_by Single n u h = fine
low_value_by Double n u h = fine

low_decode : (o : Bool) (f : Field) (s : List ℕ) → ByItem (decode o f s)
unfolding decode
low_decode o (Number k n) s = low_bind (number o n s) _ (low_number o n s) (λ r. low_bind (value_by k n r.0 r.1) _ (low_value_by k n r.0 r.1) (λ v. fine))
low_decode o (Chars n) s = low_bind (first n s) _ (low_first n s) (λ t. low_bind (short t) _ (low_short t) (λ u. fine))
low_decode o ZeroEnded s = low_bind (up_to_zero s) _ (low_up_to s) (λ t. low_bind (short t) _ (low_short t) (λ u. fine))
low_decode o (Counted n) s =
    low_bind (number o n s) _ (low_number o n s) (λ r.
    low_bind (unsigned r.0 r.1) _ (low_unsigned r.0 r.1) (λ k.
    low_bind (first k (drop n s)) _ (low_first k (drop n s)) (λ t. low_bind (short t) _ (low_short t) (λ v. fine))))

low_read_pad : (r : Place ℕ) (n k : ℕ) → ByItem (read_pad r n k)
low_read_pad r n k = low_bind (padding r.state n) _ (low_padding r.state n) (λ p. low_bind (first (p + k) r.left) _ (low_first (p + k) r.left) (λ b. fine))

low_read_op : (r : Place ℕ) (o : Op) → ByItem (read_op r o)
unfolding read_op read_field
low_read_op r Op.Blank = fine
low_read_op r (Op.Set x) = fine
low_read_op r (Op.Pad n k) = low_bind (read_pad r n k) _ (low_read_pad r n k) (λ t. fine)
low_read_op r (Op.Put f) = low_bind (read_pad r (natural f) 0) _ (low_read_pad r (natural f) 0) (λ t. low_bind (decode r.state.big f t.left) _ (low_decode r.state.big f t.left) (λ v. fine))

pub low_reading : (r : Place ℕ) (is : List (Checked Op)) → All ByItem is → ByItem (reading r is)
low_reading = low_run read_op [] ◌++◌ low_read_op

-- ---- a value list
front_21 : (n : ℕ) (s : List ℕ) → By21 (front 21 n s)
front_21 n s = low_check (leb n (length s)) 21 (accepted (take n s)) tt fine

length_21 : (n : ℕ) (c : List ℕ) (v : Value) → By21 (require (eqb (length c) n) 21 >> accepted v)
length_21 n c v = low_check (eqb (length c) n) 21 (accepted v) tt fine

value_21 : (t : ℕ) (c : List ℕ) → By21 (value_of t c)
value_21 t c =
    low_cond (eqb t 0) _ _ (length_21 0 c _)
    (low_cond (eqb t 1) _ _ (length_21 8 c _)
    (low_cond (eqb t 2) _ _ (length_21 8 c _) (low_cond (eqb t 3) (accepted (text c)) (refused 21) fine (low tt))))

field_21 : (t : ℕ) (s : List ℕ) → By21 (field_of t s)
unfolding field_of
field_21 t s =
    low_bind (front 21 2 s) _ (front_21 2 s) (λ l.
    low_bind (front 21 (big_total l) (drop 2 s)) _ (front_21 (big_total l) (drop 2 s)) (λ c. low_bind (value_of t c) _ (value_21 t c) (λ v. fine)))

past_21 : (k : ℕ) (s : List ℕ) → By21 (values_past k s)
unfolding values_past
past_21 zero [] = fine
past_21 zero (t ∷ s) = low_bind (field_of t s) _ (field_21 t s) (λ f. low_bind (values_past f.1 s) _ (past_21 f.1 s) (λ vs. fine))
past_21 (suc k) [] = fine
past_21 (suc k) (b ∷ s) = past_21 k s

pub values_21 : (l : List ℕ) → By21 (values l)
values_21 l = past_21 0 l

-- ---- a run's lists
first_23 : (r : List ℕ) → By23 (first_list r)
unfolding first_list
first_23 r = low_bind (front 23 2 r) _ (low_check (leb 2 (length r)) 23 _ tt fine) (λ n. low_check (leb (big_total n) (length (drop 2 r))) 23 _ tt fine)

past_23 : (k : ℕ) (r : List ℕ) → By23 (lists_past k r)
unfolding lists_past
past_23 zero [] = fine
past_23 zero (b ∷ r) = low_bind (first_list (b ∷ r)) _ (first_23 (b ∷ r)) (λ l. low_bind (lists_past (1 + length l) r) _ (past_23 (1 + length l) r) (λ ls. fine))
past_23 (suc k) [] = fine
past_23 (suc k) (b ∷ r) = past_23 k r

pub lists_23 : (r : List ℕ) → By23 (lists r)
lists_23 r = past_23 0 r

-- ---- the calls
is_among : (n k : ℕ) → T (among calls_give n) → T (eqb k n) → T (among calls_give k)
is_among n k h e = subst (λ (x : ℕ). T (among calls_give x)) (sym (eqb→eq k n e)) h

of_item : {A : Type 0} (c : Checked A) → ByItem c → ByCall c
of_item c h = low_up c (among_all calls_give items_give tt) h

pub low_pack : (s : State) (f l : List ℕ) → ByCall (pack s f l)
unfolding pack
low_pack s f l =
    low_check (is_power s.limit && at_most_63 s.length) 21 _ tt
    (low_bind (values l) _ (low_up (values l) (λ k. is_among 21 k tt) (values_21 l)) (λ vs. of_item (write options s vs f) (low_writing _ (ops options f) (low_ops options f))))

low_offset : (p : ℤ) (len : ℕ) → ByCall (offset_of p len)
low_offset (pos p) len = low_check (leb 1 p && leb p (len + 1)) 16 (accepted (offset (p - 1))) tt fine
low_offset (negsuc k) len = low_check (ltb k len) 16 (accepted (offset (len - suc k))) tt fine

pub low_unpack : (f d : List ℕ) (p : ℤ) → ByCall (unpack f d p)
unfolding unpack read
low_unpack f d p =
    low_check (at_most_63 (length d)) 21 _ tt
    (low_bind (offset_of p (length d)) _ (low_offset p (length d)) (λ o. low_bind (read_from options f d o) _ (of_item (read_from options f d o) (low_reading _ (ops options f) (low_ops options f))) (λ r. fine)))

before_low : (p : ℕ) (c : Checked (Place Value × Output)) (t : Placed (List ℕ)) → ByCall c → ByCall t.answer → ByCall (before p c t).answer
before_low p (refused k) t (low h) g = low h
before_low p (accepted r) t h g = low_bind t.answer _ g (λ bs. fine)

low_records : (p : ℕ) (f : List ℕ) (ls : List (List ℕ)) → ByCall (records start p f ls).answer
unfolding records
low_records p f [] = fine
low_records p f (l ∷ ls) = before_low p (pack start f l) (records start (p + 1) f ls) (low_pack start f l) (low_records (p + 1) f ls)

pub low_tray : (f r : List ℕ) → ByCall (records_of f r).answer
low_tray f r = go (lists r) (low_up (lists r) (λ k. is_among 23 k tt) (lists_23 r))
  where
    go : (c : Checked (List (List ℕ))) → ByCall c → ByCall (records_from start 1 f c).answer
    go (refused k) (low h) = low h
    go (accepted ls) h = low_records 1 f ls

-- an answer whose refusals pass a test is not refused by a number that doesn't
pub refuses_not : {A : Type 0} (test : ℕ → Bool) (n : ℕ) (c : Checked A) → (T (test n) → ⊥) → Refuses test c → c ≡ refused n → ⊥
refuses_not test n (refused j) out (low h) e = out (subst (λ (x : ℕ). T (test x)) (same_number e) h)
refuses_not test n (accepted a) out h e = never (sym e)
