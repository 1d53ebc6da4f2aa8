-- What is claimed of trays (document 02, One), of definition's specs/Trays.antt. `Trays` is the claim, a statement without free variables; `TraysNeeded` shows why it has its premises, and `TraysLong` what it says of records that no buffer holds.
use Rattle.std.specs.Prelude.{ℕ, zero, suc, ◌+◌, ◌-◌, ◌*◌, ◌^◌, ◌≤◌, ◌<◌, ◌≡◌, cond, List, [], ◌∷◌, ◌++◌, map, eqb, pos, length, take, replicate}
use Rattle.definition.specs.Answers.{Checked, refused, accepted, ◌>>=◌}
use Rattle.definition.specs.Bytes.{IsByte, bytes}
use Rattle.definition.specs.Values.{integer, text}
use Rattle.definition.specs.Lists.{list_of}
use Rattle.definition.specs.Calls.{Call, call, string_pack}
use Rattle.definition.specs.Trays.{run_of, lists, Placed, placed, behind, TrayCall, tray_into, pack_tray}
use Rattle.laws.specs.Claims.{All, LongEnough, gives, packed_bytes, joined}

-- ---- what the calls give

-- a tray that is accepted with the bytes s, and one that is refused with k at the place p, in the buffer b
abbrev pub tray_gives : List ℕ → List ℕ → TrayCall
tray_gives s b = record { place = 0; call = gives (length s) s b }

abbrev pub tray_fails : ℕ → ℕ → List ℕ → TrayCall
tray_fails k p b = record { place = p; call = call (refused k) b }

-- the bytes that a call gave, which stand in its buffer, and the tray that a call gave
abbrev pub bytes_of : Call ℕ → Checked (List ℕ)
bytes_of c = c.answer >>= λ n. accepted (take n c.buffer)

abbrev pub tray_of : TrayCall → Placed (List ℕ)
tray_of t = placed t.place (bytes_of t.call)

-- a list that plain writing accepts, with every buffer that is long enough
abbrev pub Writes : List ℕ → List ℕ → Type 0
Writes f l = (b : List ℕ) → LongEnough (string_pack f l b).answer → string_pack f l b ≡ gives (length (packed_bytes f l)) (packed_bytes f l) b

-- bytes, or a refusal at the place p, and the answer t for what comes after them: the first refusal with its place, else the bytes joined
abbrev pub ahead : ℕ → Checked (List ℕ) → Placed (List ℕ) → Placed (List ℕ)
ahead p (refused k) t = placed p (refused k)
ahead p (accepted bs) t = behind bs t

-- ---- the records written one by one: the lists, each with a buffer of its own, by calls of plain writing, the first of which has the place p
unfoldable pub one_by_one : ℕ → List ℕ → List (List ℕ × List ℕ) → Placed (List ℕ)
one_by_one p f [] = placed 0 (accepted [])
one_by_one p f (q ∷ qs) = ahead p (bytes_of (string_pack f q.0 q.1)) (one_by_one (p + 1) f qs)

-- ---- one list

-- the place of the one record: 1 if it is refused, 0 if it is only too long for the buffer
abbrev pub only_place : Checked ℕ → ℕ
only_place (refused k) = cond (eqb k 22) 0 1
only_place (accepted n) = 0

-- ---- two runs

-- a place of the second run, behind n lists of the first; no record's place is 0
abbrev pub moved_on : ℕ → ℕ → ℕ
moved_on n zero = 0
moved_on n (suc p) = n + suc p

-- "their trays joined, or the first's refusal, or the second's with its place moved on", behind n lists of the first
abbrev pub joined_trays : ℕ → Placed (List ℕ) → Placed (List ℕ) → Placed (List ℕ)
joined_trays n t u = ahead t.place t.answer (placed (moved_on n u.place) u.answer)

-- ---- the claim

-- what an accepted tray of the run r is
pub record Written (f r b : List ℕ) : Type 0 where
  pub ls : List (List ℕ)
  pub run : lists r ≡ accepted ls
  pub each : All (Writes f) ls
  pub tray : pack_tray f r b ≡ tray_gives (joined (map (packed_bytes f) ls)) b

-- what a tray is that is refused with k at the place p: the lists before are accepted, and this one is refused
pub record Refused (f r : List ℕ) (k p : ℕ) : Type 0 where
  pub done : List (List ℕ)
  pub l : List ℕ
  pub left : List (List ℕ)
  pub run : lists r ≡ accepted (done ++ (l ∷ left))
  pub place : p ≡ length done + 1
  pub each : All (Writes f) done
  pub refusal : (b : List ℕ) → string_pack f l b ≡ call (refused k) b

-- for every format f, run r and result buffer b
pub record Trays : Type 0 where
  -- "a run of value lists, each preceded by its length in two bytes, big-endian": the lists of a run are read as they are, and a run is just its lists
  pub split : (ls : List (List ℕ)) → All (λ l. length l ≤ 65535) ls → lists (run_of ls) ≡ accepted ls
  pub only : (r : List ℕ) (ls : List (List ℕ)) → All IsByte r → lists r ≡ accepted ls → r ≡ run_of ls
  -- "23 a run whose lengths don't end at its last byte, before any record, with place 0"
  pub damaged : (f r b : List ℕ) (k : ℕ) → lists r ≡ refused k → pack_tray f r b ≡ tray_fails 23 0 b
  -- "An empty run gives no bytes for every format."
  pub empty : (f b : List ℕ) → pack_tray f [] b ≡ tray_gives [] b
  -- "The result has to equal the records written one by one. If a record is refused, the tray gives the first such record's refusal and its place in the run, from 1, and nothing is written. 22 is tested for the whole tray after all records, with place 0."
  pub one_by_one_lem : (f r b : List ℕ) (qs : List (List ℕ × List ℕ)) → lists r ≡ accepted (map (λ q. q.0) qs) → LongEnough (one_by_one 1 f qs).answer
      → pack_tray f r b ≡ tray_into b (one_by_one 1 f qs)
  -- an accepted tray's bytes are the records that plain writing gives for each list alone, joined in order
  pub written : (f r b : List ℕ) (n : ℕ) → (pack_tray f r b).call.answer ≡ accepted n → Written f r b
  -- a refused one is the first refused record's refusal, with its place
  pub refusal : (f r b : List ℕ) (k : ℕ) → (pack_tray f r b).call.answer ≡ refused k → 0 < (pack_tray f r b).place → Refused f r k (pack_tray f r b).place
  -- with one list the tray is plain writing
  pub single : (f r l b : List ℕ) → lists r ≡ accepted (l ∷ []) → pack_tray f r b ≡ record { place = only_place (string_pack f l b).answer; call = string_pack f l b }
  -- two runs joined give their trays joined, or the first's refusal, or the second's with its place moved on
  pub two : (f r s b c d : List ℕ) (ls ms : List (List ℕ)) → lists r ≡ accepted ls → lists s ≡ accepted ms
      → LongEnough (pack_tray f r c).call.answer → LongEnough (pack_tray f s d).call.answer
      → pack_tray f (r ++ s) b ≡ tray_into b (joined_trays (length ls) (tray_of (pack_tray f r c)) (tray_of (pack_tray f s d)))

-- ---- why the premises are needed
pub record TraysNeeded : Type 0 where
  -- of `split`, at most 65,535 bytes: two bytes don't say 65,536
  pub fits : (l : List ℕ) → length l ≡ 65536 → lists (run_of (l ∷ [])) ≡ accepted (l ∷ []) → ⊥
  -- of `only`, bytes: 256 is none, and a length that it is read as is written as 1 and 0
  pub below : (lists (0 ∷ 256 ∷ replicate 256 7) ≡ accepted (replicate 256 7 ∷ [])) × (0 ∷ 256 ∷ replicate 256 7 ≡ run_of (replicate 256 7 ∷ []) → ⊥)
  -- of `two`, that both are runs: a length and its list are one run, whose record may be refused; a byte behind that run damages the whole
  pub runs : (pack_tray (bytes "x") (0 ∷ 1 ∷ []) [] ≡ tray_fails 23 0 []) × (pack_tray (bytes "x") (0 ∷ 1 ∷ 7 ∷ []) [] ≡ tray_fails 21 1 []) × (pack_tray (bytes "x") (0 ∷ 1 ∷ 7 ∷ 0 ∷ []) [] ≡ tray_fails 23 0 [])
  -- of `two` and `one_by_one`, buffers that are long enough: one that is too short for a list says nothing of two such lists
  pub long : (pack_tray (bytes "x") (0 ∷ 0 ∷ []) [] ≡ tray_fails 22 0 []) × (one_by_one 1 (bytes "x") (([], []) ∷ ([], []) ∷ []) ≡ placed 1 (refused 22))
      × (pack_tray (bytes "x") (0 ∷ 0 ∷ 0 ∷ 0 ∷ []) (9 ∷ 9 ∷ []) ≡ tray_gives (0 ∷ 0 ∷ []) (9 ∷ 9 ∷ []))

-- ---- three records of 2^63-1 bytes, which pass 2^64 in sum
abbrev pub longest : List ℕ
longest = bytes "c9223372036854775807"

abbrev pub letter : List ℕ
letter = list_of (text (65 ∷ []) ∷ [])

pub record TraysLong : Type 0 where
  -- no sum wraps around, and none is refused by 9: the tray is too long for every buffer that is shorter
  pub too_long : (b : List ℕ) → length b < 3 * (2 ^ 63 - 1) → pack_tray longest (run_of (letter ∷ letter ∷ letter ∷ [])) b ≡ tray_fails 22 0 b
  -- a later record's refusal comes before
  pub later : (b : List ℕ) → pack_tray longest (run_of (letter ∷ letter ∷ letter ∷ list_of (integer (pos 1) ∷ []) ∷ [])) b ≡ tray_fails 12 4 b
