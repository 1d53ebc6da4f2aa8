-- Each checked item has a size that its option has, by one test over the option table.
use Prim.Native.Nat.{ℕ, ◌≤◌}
use mathlib.Core.Path.{◌≡◌, refl, sym, subst, fun_ext}
use mathlib.Core.Bool.{Bool, true, false, ◌&&◌, ◌||◌, cond}
use mathlib.Core.List.{List, [], ◌∷◌, map}
use lib.Dec.{T, T_prop, leb, ltb, eqb, eqb→eq, leb→le, lit≤}
use lib.Ieee.Bits.{is_true}
use mir.Facts.{and_yes, yes_and}
use Rattle.definition.specs.Answers.{Checked, accepted, ◌>>◌, require}
use Rattle.definition.specs.Options.{entry_list, find, Table, options, Class, NumeralRule, Nothing, Digits, DigitsBehindX, NextByte, Entry}
use Rattle.definition.specs.Items.{Item, items, numeral_of, Numeral, Missing}
use Rattle.definition.specs.Ops.{op_of, ops, op_by, op_with, natural_of, size_or, limit_or, needed, value_or, number_natural, natural_by, within16, is_power}
use Rattle.definition.specs.States.{set}
use Rattle.definition.specs.declared.State.{State}
use Rattle.definition.specs.declared.Kind.{Kind}
use Rattle.definition.specs.declared.Kind.TheVariants.{SmallSigned, SmallUnsigned, Signed, Unsigned, LuaInteger, LuaUnsigned, Size, Single, Double}
use Rattle.definition.specs.declared.Field.TheVariants.{Number, Chars, Counted}
use Rattle.definition.specs.declared.Setting.{Setting}
use Rattle.definition.specs.declared.Op.{Op}
use Rattle.laws.specs.Claims.{All}
use Rattle.laws.proofs.Answers.{never, same, bound, passed}
use Rattle.laws.proofs.Numbers.{valid_size}
use Rattle.laws.proofs.Fields.{valid_field}

-- what holds of 1, 2, 4, 8 and 16 holds of each power of two
pub power_cases : (P : ℕ → Type 0) → P 1 → P 2 → P 4 → P 8 → P 16 → (a : ℕ) → is_power a ≡ true → P a
power_cases P p1 p2 p4 p8 p16 a = or 1 _ p1 (or 2 _ p2 (or 4 _ p4 (or 8 _ p8 (is 16 p16))))
  where
    is : (k : ℕ) → P k → eqb a k ≡ true → P a
    is k p e = subst P (sym (eqb→eq a k (subst T (sym e) tt))) p

    or : (k : ℕ) (t : Bool) → P k → (t ≡ true → P a) → (eqb a k || t) ≡ true → P a
    or k t p f = go (eqb a k) refl
      where
        go : (x : Bool) → eqb a k ≡ x → (x || t) ≡ true → P a
        go true e h = is k p e
        go false e h = f h

pub power_least : (a : ℕ) → is_power a ≡ true → 1 ≤ a
power_least = power_cases (λ a. 1 ≤ a) (lit≤ tt) (lit≤ tt) (lit≤ tt) (lit≤ tt) (lit≤ tt)

pub power_most : (a : ℕ) → is_power a ≡ true → a ≤ 16
power_most = power_cases (λ a. a ≤ 16) (lit≤ tt) (lit≤ tt) (lit≤ tt) (lit≤ tt) (lit≤ tt)

abbrev pub valid_setting : Setting → Bool
valid_setting (Setting.Order o) = true
valid_setting (Setting.Limit n) = is_power n

-- a state whose limit is a power of two of 1 to 16: the start state has one, and ! sets no other
abbrev pub Limited : State → Type 0
Limited s = is_power s.limit ≡ true

pub set_limited : (x : Setting) (s : State) → T (valid_setting x) → Limited s → Limited (set x s)
set_limited (Setting.Order o) s ok h = h
set_limited (Setting.Limit n) s ok h = is_true (is_power n) ok

abbrev pub valid_op : Op → Bool
valid_op Op.Blank = true
valid_op (Op.Set x) = valid_setting x
valid_op (Op.Pad n k) = leb 1 n && leb k 1
valid_op (Op.Put f) = valid_field f

-- what aligns, and adds no byte or one
pub pad_valid : {o : Op} {n k : ℕ} → T (valid_op o) → o ≡ Op.Pad n k → (1 ≤ n) × (k ≤ 1)
pad_valid {o} {n} {k} h e =
    let b = and_yes (leb 1 n) (leb k 1) (subst (λ (x : Op). T (valid_op x)) e h) in
    (leb→le 1 n b.0, leb→le k 1 b.1)

-- i I l L have any size of 1 to 16
abbrev any_size : Kind → Bool
any_size SmallSigned = false
any_size SmallUnsigned = false
any_size Signed = true
any_size Unsigned = true
any_size LuaInteger = false
any_size LuaUnsigned = false
any_size Size = false
any_size Single = false
any_size Double = false

-- a number option has its own size, or takes a numeral and has any; the size without a numeral is one of 1 to 16
abbrev sizes_ok : NumeralRule → Kind → ℕ → Bool
sizes_ok Nothing k n = valid_size k n
sizes_ok Digits k n = any_size k
sizes_ok DigitsBehindX k n = valid_size k n
sizes_ok NextByte k n = true

abbrev pub entry_ok : Class → NumeralRule → ℕ → Bool
entry_ok Class.NoOption r n = true
entry_ok Class.Blank r n = true
entry_ok (Class.Order o) r n = true
entry_ok Class.Limit r n = true
entry_ok (Class.Number k) r n = within16 n && sizes_ok r k n
entry_ok Class.Chars r n = true
entry_ok Class.ZeroEnded r n = true
entry_ok Class.Counted r n = within16 n
entry_ok Class.Fill r n = true
entry_ok Class.Align r n = true

abbrev pub ok : Entry → Bool
ok e = entry_ok e.class e.rule e.size

abbrev every : (Entry → Bool) → List (ℕ × Entry) → Bool
every p [] = true
every p (e ∷ es) = cond (p e.1) (every p es) false

-- a test that passes at every entry of a list, and at no option, passes at the entry that is found
find_every : (p : Entry → Bool) (b : ℕ) (es : List (ℕ × Entry)) → T (p (find b [])) → T (every p es) → T (p (find b es))
find_every p b [] none all = none
find_every p b (e ∷ es) none all = go (eqb b e.0) (p e.1) refl all (find_every p b es none)
  where
    go : (t q : Bool) → p e.1 ≡ q → T (cond q (every p es) false) → (T (every p es) → T (p (find b es))) → T (p (cond t e.1 (find b es)))
    go true true i all ih = subst T (sym i) tt
    go true false i all ih = absurd all
    go false true i all ih = ih all
    go false false i all ih = absurd all

-- a table's rule, and the option table by one test over its entries
abbrev pub Sizes : Table → Type 0
Sizes t = (b : ℕ) → T (ok (t b))

pub sizes_prop : (t : Table) → IsProp (Sizes t)
sizes_prop t f g = fun_ext (λ b. T_prop (ok (t b)) (f b) (g b))

pub options_sizes : Sizes options
unfolding entry_list options
options_sizes b = find_every ok b entry_list tt tt

size_within : (d : ℕ) (m : Numeral) (n : ℕ) → size_or d m ≡ accepted n → T (within16 n)
size_within d m n e =
    let b = bound (value_or d m) (λ x. require (within16 x) 3 >> accepted x) e in
    let p = passed (within16 b.val) 3 (accepted b.val) b.rest in
    subst (λ (x : ℕ). T (within16 x)) (same p.1) (subst T (sym p.0) tt)

size_least : (d : ℕ) (m : Numeral) (n : ℕ) → size_or d m ≡ accepted n → T (leb 1 n)
size_least d m n e = (and_yes (leb 1 n) (leb n 16) (size_within d m n e)).0

limit_power : (d : ℕ) (m : Numeral) (n : ℕ) → limit_or d m ≡ accepted n → T (is_power n)
limit_power d m n e =
    let b = bound (value_or d m) (λ x. require (within16 x) 4 >> (require (is_power x) 5 >> accepted x)) e in
    let c = passed (within16 b.val) 4 (require (is_power b.val) 5 >> accepted b.val) b.rest in
    let p = passed (is_power b.val) 5 (accepted b.val) c.1 in
    subst (λ (x : ℕ). T (is_power x)) (same p.1) (subst T (sym p.0) tt)

any_size_lem : (k : Kind) (n : ℕ) → T (any_size k) → T (within16 n) → T (valid_size k n)
any_size_lem SmallSigned n a e = absurd a
any_size_lem SmallUnsigned n a e = absurd a
any_size_lem Signed n a e = e
any_size_lem Unsigned n a e = e
any_size_lem LuaInteger n a e = absurd a
any_size_lem LuaUnsigned n a e = absurd a
any_size_lem Size n a e = absurd a
any_size_lem Single n a e = absurd a
any_size_lem Double n a e = absurd a

abbrev Good : Op → Type 0
Good o = T (valid_op o)

-- a number's size is right, by its size without a numeral or for any numeral
abbrev SizeOk : Class → ℕ → Numeral → Type 0
SizeOk c d m = (k : Kind) → c ≡ Class.Number k → (n : ℕ) → size_or d m ≡ accepted n → T (valid_size k n)

by_class : (c : Class) (d : ℕ) (m : Numeral) (o : Op) → SizeOk c d m → op_by c d m ≡ accepted o → T (valid_op o)
by_class Class.NoOption d m o h e = absurd (never e)
by_class Class.Blank d m o h e = subst Good (same e) tt
by_class (Class.Order x) d m o h e = subst Good (same e) tt
by_class Class.Limit d m o h e =
    let b = bound (limit_or d m) (λ n. accepted (Op.Set (Setting.Limit n))) e in
    subst Good (same b.rest) (limit_power d m b.val b.is)
by_class (Class.Number k) d m o h e =
    let b = bound (size_or d m) (λ n. accepted (Op.Put (Number k n))) e in
    subst Good (same b.rest) (yes_and (leb 1 b.val) (valid_size k b.val) (size_least d m b.val b.is) (h k refl b.val b.is))
by_class Class.Chars d m o h e = subst Good (same (bound (needed m) (λ n. accepted (Op.Put (Chars n))) e).rest) tt
by_class Class.ZeroEnded d m o h e = subst Good (same e) tt
by_class Class.Counted d m o h e =
    let b = bound (size_or d m) (λ n. accepted (Op.Put (Counted n))) e in
    subst Good (same b.rest) (size_within d m b.val b.is)
by_class Class.Fill d m o h e = subst Good (same e) tt
by_class Class.Align d m o h e = absurd (never e)

missing_size : (d n : ℕ) → size_or d Missing ≡ accepted n → d ≡ n
missing_size d n e = same (passed (within16 d) 3 (accepted d) e).1

own_size : (c : Class) (r : NumeralRule) (d : ℕ) → ((k : Kind) → T (sizes_ok r k d) → T (valid_size k d)) → T (entry_ok c r d) → SizeOk c d Missing
own_size c r d f h k e n s =
    let g : T (sizes_ok r k d) = (and_yes (within16 d) (sizes_ok r k d) (subst (λ (x : Class). T (entry_ok x r d)) e h)).1 in
    subst (λ (x : ℕ). T (valid_size k x)) (missing_size d n s) (f k g)

-- X aligns by 1 at least
number_natural_lem : (r : NumeralRule) (n : ℕ) (m : Numeral) (a : ℕ) → T (leb 1 n) → number_natural r n m ≡ accepted a → T (leb 1 a)
number_natural_lem Nothing n m a h e = subst (λ (x : ℕ). T (leb 1 x)) (same e) h
number_natural_lem Digits n m a h e = size_least n m a e
number_natural_lem DigitsBehindX n m a h e = subst (λ (x : ℕ). T (leb 1 x)) (same e) h
number_natural_lem NextByte n m a h e = subst (λ (x : ℕ). T (leb 1 x)) (same e) h

natural_by_lem : (c : Class) (r : NumeralRule) (n : ℕ) (m : Numeral) (a : ℕ) → T (entry_ok c r n) → natural_by c r n m ≡ accepted a → T (leb 1 a)
natural_by_lem Class.NoOption r n m a h e = subst (λ (x : ℕ). T (leb 1 x)) (same e) tt
natural_by_lem Class.Blank r n m a h e = absurd (never e)
natural_by_lem (Class.Order o) r n m a h e = absurd (never e)
natural_by_lem Class.Limit r n m a h e = absurd (never e)
natural_by_lem (Class.Number k) r n m a h e = number_natural_lem r n m a (and_yes (leb 1 n) (leb n 16) (and_yes (within16 n) (sizes_ok r k n) h).0).0 e
natural_by_lem Class.Chars r n m a h e = absurd (never e)
natural_by_lem Class.ZeroEnded r n m a h e = absurd (never e)
natural_by_lem Class.Counted r n m a h e = absurd (never e)
natural_by_lem Class.Fill r n m a h e = absurd (never e)
natural_by_lem Class.Align r n m a h e = absurd (never e)

natural_least : (t : Table) → Sizes t → (s : List ℕ) (a : ℕ) → natural_of t s ≡ accepted a → T (leb 1 a)
natural_least t h [] a e = absurd (never e)
natural_least t h (c ∷ s) a e = natural_by_lem (t c).class (t c).rule (t c).size (numeral_of s) a (h c) (passed (ltb c 128) 1 (natural_by (t c).class (t c).rule (t c).size (numeral_of s)) e).1

by_rule : (t : Table) → Sizes t → (r : NumeralRule) (e : Entry) (s : List ℕ) (o : Op) → T (entry_ok e.class r e.size) → op_with t r e s ≡ accepted o → T (valid_op o)
by_rule t z Nothing e s o h i = by_class e.class e.size Missing o (own_size e.class Nothing e.size (λ k g. g) h) i
by_rule t z Digits e s o h i =
    by_class e.class e.size (numeral_of s) o (λ k c n m. any_size_lem k n (and_yes (within16 e.size) (any_size k) (subst (λ (x : Class). T (entry_ok x Digits e.size)) c h)).1 (size_within e.size (numeral_of s) n m)) i
by_rule t z DigitsBehindX e s o h i = by_class e.class e.size Missing o (own_size e.class DigitsBehindX e.size (λ k g. g) h) i
by_rule t z NextByte e s o h i =
    let b = bound (natural_of t s) (λ n. accepted (Op.Pad n 0)) i in
    subst Good (same b.rest) (yes_and (leb 1 b.val) true (natural_least t z s b.val b.is) tt)

-- each checked item has a size that its option has, and a limit that is a power of two
abbrev pub Valid : Checked Op → Type 0
Valid c = (o : Op) → c ≡ accepted o → T (valid_op o)

pub op_valid : (t : Table) → Sizes t → (i : Item) → Valid (op_of t i)
unfolding op_of
op_valid t h i o e = by_rule t h (t i.byte).rule (t i.byte) i.more o (h i.byte) e

pub ops_valid : (t : Table) → Sizes t → (f : List ℕ) → All Valid (ops t f)
ops_valid t h f = go (items t f)
  where
    go : (is : List Item) → All Valid (map (op_of t) is)
    go [] = tt
    go (i ∷ is) = (op_valid t h i, go is)
