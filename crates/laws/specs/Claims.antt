-- Demand 3, and what else is claimed of the calls of definition's specs/Calls.antt, which the contracts of the code name, and of the fill. The claims are `Demand`, `Continuing`, `Returned`, `Rooms`,
-- `Numbered`, `Bounded`, `Decimals` and `Fills`: statements without free variables. docs/DEMAND.md says where each is proved.
use Rattle.std.specs.Prelude.{ℕ, ◌+◌, ◌-◌, ◌%◌, ◌^◌, ◌≤◌, ◌<◌, ◌≡◌, Bool, true, false, ◌||◌, cond, List, [], ◌∷◌, ◌++◌, map, ◌⊎◌, T, leb, ℤ, pos, length, take, drop}
use Rattle.std.proofs.Math.Option.{Option, none, some}
use Rattle.definition.specs.Answers.{Checked, refused, accepted, ◌>>=◌}
use Rattle.definition.specs.Bytes.{IsByte}
use Rattle.definition.specs.Items.{Item, items, texts, value}
use Rattle.definition.specs.Refusals.{refusals, among}
use Rattle.definition.specs.Options.{options}
use Rattle.definition.specs.Ops.{ops}
use Rattle.definition.specs.Values.{Value, as_integer}
use Rattle.definition.specs.Lists.{fields_after}
use Rattle.definition.specs.States.{start, fill}
use Rattle.definition.specs.Measuring.{measure_from}
use Rattle.definition.specs.Writing.{Cell, pad, byte}
use Rattle.definition.specs.Reading.{offset, position_of}
use Rattle.definition.specs.Program.{decimal}
use Rattle.definition.specs.Calls.{Call, call, string_packsize, list_bound, record_of, pack_continued, string_pack, string_unpack}
use Rattle.definition.specs.Trays.{pack_tray}
use Rattle.definition.specs.Kept.{written_from, written, kept_from, kept_list}
use Rattle.definition.specs.declared.State.{State}
use Rattle.definition.specs.declared.Field.{Field}
use Rattle.definition.specs.declared.Field.TheVariants.{Number, Chars, ZeroEnded, Counted}
use Rattle.definition.specs.declared.Kind.TheVariants.{SmallSigned, SmallUnsigned, Signed, Unsigned, LuaInteger, LuaUnsigned, Size, Single, Double}
use Rattle.definition.specs.declared.Op.{Op}
use Rattle.definition.specs.declared.Op.TheVariants.{Blank, Set, Pad, Put}
use Rattle.definition.specs.declared.Continued.{Continued}
use Rattle.definition.specs.declared.Unpacked.{Unpacked}

abbrev pub All : {A : Type 0} → (A → Type 0) → List A → Type 0
All P [] = Unit {0}
All P (a ∷ l) = P a × All P l

-- "A buffer is long enough if its call doesn't give 22."
abbrev pub LongEnough : {A : Type 0} → Checked A → Type 0
LongEnough c = c ≡ refused 22 → ⊥

-- a call that is accepted with the answer a, its result s at the front of the buffer b
abbrev pub gives : {A : Type 0} → A → List ℕ → List ℕ → Call A
gives a s b = call (accepted a) (s ++ drop (length s) b)

-- ---- the words of the demand, of a format f and a value list l

-- B
abbrev pub packed_bytes : List ℕ → List ℕ → List ℕ
packed_bytes f l = record_of (written f l)

-- "holding B .., whichever bytes replace B's padding": the bytes are the cells', each padding any byte
abbrev pub Holds : List Cell → List ℕ → Type 0
Holds [] [] = Unit {0}
Holds [] (x ∷ d) = ⊥
Holds (pad ∷ c) [] = ⊥
Holds (pad ∷ c) (x ∷ d) = Holds c d
Holds (byte y ∷ c) [] = ⊥
Holds (byte y ∷ c) (x ∷ d) = (x ≡ y) × Holds c d

-- a test of the field of an item; `otherwise` for an item that has none
abbrev pub of_field : (Field → Bool) → Bool → Checked Op → Bool
of_field test otherwise (refused k) = otherwise
of_field test otherwise (accepted Blank) = otherwise
of_field test otherwise (accepted (Set x)) = otherwise
of_field test otherwise (accepted (Pad n k)) = otherwise
of_field test otherwise (accepted (Put f)) = test f

abbrev pub is_open : Field → Bool
is_open (Number k n) = false
is_open (Chars n) = false
is_open ZeroEnded = true
is_open (Counted n) = true

-- "F has z or s"
abbrev pub has_open : List (Checked Op) → Bool
has_open [] = false
has_open (i ∷ is) = of_field is_open false i || has_open is

abbrev pub is_short : Field → Bool
is_short (Number k n) = true
is_short (Chars n) = leb n 65535
is_short ZeroEnded = true
is_short (Counted n) = true

-- "no c numeral is above 65,535"
abbrev pub ShortChars : List ℕ → Type 0
ShortChars f = All (λ i. T (of_field is_short true i)) (ops options f)

abbrev pub is_some : {A : Type 0} → Option A → Bool
is_some none = false
is_some (some a) = true

-- what J took has an integer; nothing is said of other options
abbrev pub integer_for_j : Field → Value → Bool
integer_for_j (Number SmallSigned n) v = true
integer_for_j (Number SmallUnsigned n) v = true
integer_for_j (Number Signed n) v = true
integer_for_j (Number Unsigned n) v = true
integer_for_j (Number LuaInteger n) v = true
integer_for_j (Number LuaUnsigned n) v = is_some (as_integer v)
integer_for_j (Number Size n) v = true
integer_for_j (Number Single n) v = true
integer_for_j (Number Double n) v = true
integer_for_j (Chars n) v = true
integer_for_j ZeroEnded v = true
integer_for_j (Counted n) v = true

-- "J took integers only means that as_integer gave one for every J"
abbrev pub IntegersForJ : List ℕ → List ℕ → Type 0
IntegersForJ f l = All (λ t. T (integer_for_j t.0 t.1)) (written f l).took

-- "If also no c numeral is above 65,535 and J took integers only", of a list of bytes
pub record Readable (f l : List ℕ) : Type 0 where
  pub bytes : All IsByte l
  pub short : ShortChars f
  pub integers : IntegersForJ f l

-- ---- size, reading back, writing again: where writing f with l into some buffer b is accepted

pub record Agreement (f l b : List ℕ) : Type 0 where
  -- "Writing accepts F with some values and gives B."
  pub wrote : string_pack f l b ≡ gives (length (packed_bytes f l)) (packed_bytes f l) b
  -- "Then packsize gives B's length if F has no z or s, and 10 if it has."
  pub size : string_packsize f ≡ cond (has_open (ops options f)) (refused 10) (accepted (length (packed_bytes f l)))
  -- "in any data of at most 2^63-1 bytes holding B at an offset that is a multiple of 16, whichever bytes replace B's padding, reading F there gives exactly document 01's kept values and the position just after B"
  pub back : Readable f l → (front held rest b : List ℕ) → length front % 16 ≡ 0 → Holds (written f l).cells held → length (front ++ (held ++ rest)) ≤ 2 ^ 63 - 1
      → LongEnough (string_unpack f (front ++ (held ++ rest)) (pos (length front + 1)) b).answer
      → string_unpack f (front ++ (held ++ rest)) (pos (length front + 1)) b
      ≡ gives (record { length = length (kept_list f l); next = position_of (offset (length front + length (packed_bytes f l))) }) (kept_list f l) b
  -- "and writing those values again gives B"
  pub again : Readable f l → (b : List ℕ) → LongEnough (string_pack f (kept_list f l) b).answer
      → string_pack f (kept_list f l) b ≡ gives (length (packed_bytes f l)) (packed_bytes f l) b

-- ---- cuts

abbrev pub joined : {A : Type 0} → List (List A) → List A
joined [] = []
joined (x ∷ xs) = x ++ joined xs

-- "every list of parts into which cuts between items divide the format": each part is the text of a group of f's items
pub record Divides (f : List ℕ) (ps : List (List ℕ)) : Type 0 where
  pub groups : List (List Item)
  pub whole : items options f ≡ joined groups
  pub parts : ps ≡ map texts groups

-- "the bytes, last state and counts" of one call or of several
pub record Total : Type 0 where
  pub next : State
  pub bytes : List ℕ
  pub used : ℕ
  pub items : ℕ

-- what an accepted call of continued writing answers, with the bytes that then stand in its buffer
abbrev pub total_of : Call Continued → Checked Total
total_of c = c.answer >>= λ a. accepted (record { next = a.next; bytes = take a.written c.buffer; used = a.used; items = a.items })

-- "their bytes joined are its bytes, the last state is its next state, and the sums of items run and of values used are its counts"
abbrev pub joined_to : Total → Total → Total
joined_to t u = record { next = u.next; bytes = t.bytes ++ u.bytes; used = t.used + u.used; items = t.items + u.items }

-- "The first gets the start state and the whole value list, each later one the state just returned and the fields after those used, each with a result buffer of its own": parts with their buffers; after a refusal "no later part is called"
unfoldable pub in_turn : State → List ℕ → List (List ℕ × List ℕ) → Checked Total
in_turn s l [] = accepted (record { next = s; bytes = []; used = 0; items = 0 })
in_turn s l (p ∷ ps) = total_of (pack_continued s p.0 l p.1) >>= λ t. in_turn t.next (fields_after t.used l) ps >>= λ u. accepted (joined_to t u)

-- ---- demand 3, whole

-- for every format f, value list l and result buffer b
pub record Demand : Type 0 where
  -- "Writing accepts F with some values": what then holds
  pub agreement : (f l b : List ℕ) (n : ℕ) → (string_pack f l b).answer ≡ accepted n → Agreement f l b
  -- "And for every format and values, accepted or refused, and every list of parts into which cuts between items divide the format: continued writing of the parts in turn, from the start state,
  -- gives the bytes, last state and counts of one such call on the whole, or the same refusal." One or more parts; from every state s, of which `start` is one.
  pub cuts : (s : State) (f l b : List ℕ) (p : List ℕ × List ℕ) (ps : List (List ℕ × List ℕ)) → Divides f (map (λ q. q.0) (p ∷ ps))
      → LongEnough (pack_continued s f l b).answer → LongEnough (in_turn s l (p ∷ ps))
      → total_of (pack_continued s f l b) ≡ in_turn s l (p ∷ ps)
  -- "Plain writing of F with the whole list gives that one call's bytes, or its refusal."
  pub plain : (f l b : List ℕ) → string_pack f l b ≡ call ((pack_continued start f l b).answer >>= λ a. accepted a.written) (pack_continued start f l b).buffer

-- ---- size and writing again from every state, of which `start` is one: where continued writing of f with l from s is accepted with the answer a
pub record Continuing : Type 0 where
  -- measuring from s comes to the state that writing comes to, or gives 10 if F has z or s
  pub size : (s : State) (f l b : List ℕ) (a : Continued) → (pack_continued s f l b).answer ≡ accepted a
      → measure_from options s f ≡ cond (has_open (ops options f)) (refused 10) (accepted a.next)
  -- writing the kept values again from s gives the same answer and bytes
  pub again : (s : State) (f l b : List ℕ) (a : Continued) → (pack_continued s f l b).answer ≡ accepted a
      → All IsByte l → ShortChars f → All (λ t. T (integer_for_j t.0 t.1)) (written_from s f l).took
      → (c : List ℕ) → LongEnough (pack_continued s f (kept_from s f l) c).answer → pack_continued s f (kept_from s f l) c ≡ gives a (record_of (written_from s f l)) c

-- ---- what else is claimed

-- a state that was returned and the list's rest are never refused by 21
abbrev pub Returned : Type 0
Returned = (s : State) (f l b : List ℕ) (a : Continued) → (pack_continued s f l b).answer ≡ accepted a → (g c : List ℕ) → (pack_continued a.next g (fields_after a.used l) c).answer ≡ refused 21 → ⊥

-- of a call with any lent result buffer
pub record Room {A : Type 0} (c : List ℕ → Call A) : Type 0 where
  -- "a refusal changes no byte of any lent buffer"
  pub unchanged : (b : List ℕ) (k : ℕ) → (c b).answer ≡ refused k → (c b).buffer ≡ b
  -- "An accepted call changes only its result's bytes", at the buffer's front
  pub front : (b : List ℕ) (a : A) → (c b).answer ≡ accepted a → (s : List ℕ) × (length s ≤ length b) × (c b ≡ gives a s b)
  -- no refusal but 22 depends on the buffer
  pub others : (b d : List ℕ) (k : ℕ) → (c b).answer ≡ refused k → (k ≡ 22 → ⊥) → (c d).answer ≡ refused k
  -- a call that gives 22 has a result s longer than the buffer, and is accepted with every buffer at least as long as s
  pub longer : (b : List ℕ) → (c b).answer ≡ refused 22 → (a : A) × (s : List ℕ) × (length b < length s) × ((d : List ℕ) → length s ≤ length d → c d ≡ gives a s d)

-- every call that is lent a result buffer
pub record Rooms : Type 0 where
  pub packs : (f l : List ℕ) → Room (string_pack f l)
  pub continues : (s : State) (f l : List ℕ) → Room (pack_continued s f l)
  pub reads : (f d : List ℕ) (p : ℤ) → Room (string_unpack f d p)
  pub trays : (f r : List ℕ) → Room (λ b. (pack_tray f r b).call)

-- "A refusal returns its number only": a number of the list, in which 0 is not, so that a caller may take 0 for "accepted"
abbrev pub Listed : {A : Type 0} → Checked A → Type 0
Listed c = (k : ℕ) → c ≡ refused k → T (among refusals k)

-- every call
pub record Numbered : Type 0 where
  pub sizes : (f : List ℕ) → Listed (string_packsize f)
  pub bounds : (f : List ℕ) (d : ℕ) → Listed (list_bound f d)
  pub packs : (f l b : List ℕ) → Listed (string_pack f l b).answer
  pub continues : (s : State) (f l b : List ℕ) → Listed (pack_continued s f l b).answer
  pub reads : (f d : List ℕ) (p : ℤ) (b : List ℕ) → Listed (string_unpack f d p b).answer
  pub trays : (f r b : List ℕ) → Listed (pack_tray f r b).call.answer

-- "an accepted reading's list is at most this long": the bound is accepted, or 9
abbrev pub Bounded : Type 0
Bounded = (f d : List ℕ) (p : ℤ) (b : List ℕ) (u : Unpacked) → (string_unpack f d p b).answer ≡ accepted u
    → ((n : ℕ) × (list_bound f (length d) ≡ accepted n) × (u.length ≤ n)) ⊎ (list_bound f (length d) ≡ refused 9)

-- "prints `size ` and the measure, or `refused ` and the number": the digits printed write the number, if it has at most twenty
abbrev pub Decimals : Type 0
Decimals = (n : ℕ) → n < 10 ^ 20 → value 0 (decimal n) ≡ n

-- "show for every offset that it is the least reaching a multiple of the alignment": the fill of the offset n
pub record FillOf (a n : ℕ) : Type 0 where
  pub below : fill a n < a
  pub reaches : (n + fill a n) % a ≡ 0
  pub least : (m : ℕ) → (n + m) % a ≡ 0 → fill a n ≤ m

-- every alignment above 0, not only those that occur, and every offset of any size
abbrev pub Fills : Type 0
Fills = (a n : ℕ) → 1 ≤ a → FillOf a n
