-- What is claimed of record lengths (document 02, Five), of Lengths.antt. `Ranges` is the claim, a statement without free variables.
use Rattle.std.specs.Prelude.{ℕ, ◌+◌, ◌%◌, ◌≤◌, ◌≡◌, false, cond, List, [], ◌∷◌, ◌++◌, length, drop}
use Rattle.definition.specs.Answers.{accepted, ◌>>=◌}
use Rattle.definition.specs.Bytes.{IsByte}
use Rattle.definition.specs.Options.{options}
use Rattle.definition.specs.Ops.{ops}
use Rattle.definition.specs.Values.{Value}
use Rattle.definition.specs.Lists.{content}
use Rattle.definition.specs.States.{fill}
use Rattle.definition.specs.Calls.{string_packsize, string_pack}
use Rattle.definition.specs.Kept.{written}
use Rattle.definition.specs.declared.Field.{Field}
use Rattle.laws.specs.Claims.{All, is_open, has_open, Listed}
use Rattle.lengths.specs.Lengths.{range, pair_of, packsize_range}
use Rattle.lengths.specs.declared.Range.{Range}

-- ---- "texts within the given lengths"

-- the lengths of the texts that z and s took, in order, of fields with the values that they took
abbrev pub text_lengths : List (Field × Value) → List ℕ
text_lengths [] = []
text_lengths (t ∷ ts) = cond (is_open t.0) (length (content t.1) ∷ text_lengths ts) (text_lengths ts)

abbrev pub least_of : Range → ℕ
least_of q = q.least

abbrev pub greatest_of : Range → ℕ
greatest_of q = q.greatest

-- each length has its pair of p, in order, and lies between two lengths that are picked of it
abbrev pub Between : (Range → ℕ) → (Range → ℕ) → List ℕ → List ℕ → Type 0
Between low high p [] = Unit {0}
Between low high p (n ∷ ns) = (4 ≤ length p) × (low (pair_of p) ≤ n) × (n ≤ high (pair_of p)) × Between low high (drop 4 p) ns

-- of the texts that writing f with the value list l takes
abbrev pub Texts : (Range → ℕ) → (Range → ℕ) → List ℕ → List ℕ → List ℕ → Type 0
Texts low high f l p = Between low high p (text_lengths (written f l).took)

-- a value list with texts within the pairs, each as long as is picked of its pair, that writing accepts from the start state, with a record of n bytes, in every buffer that holds it
pub record Reached (pick : Range → ℕ) (f p : List ℕ) (n : ℕ) : Type 0 where
  pub list : List ℕ
  pub bytes : All IsByte list
  pub within : Texts least_of greatest_of f list p
  pub exact : Texts pick pick f list p
  pub writes : (b : List ℕ) → n ≤ length b → (string_pack f list b).answer ≡ accepted n

-- ---- the claim: for every format f and pairs p
pub record Ranges : Type 0 where
  -- "Both must be reached by some texts within the given lengths": by the least texts, and by the greatest
  pub least : (f p : List ℕ) (r : Range) → All IsByte p → packsize_range f p ≡ accepted r → Reached least_of f p r.least
  pub greatest : (f p : List ℕ) (r : Range) → All IsByte p → packsize_range f p ≡ accepted r → Reached greatest_of f p r.greatest
  -- "every such text's record must lie between"
  pub between : (f p l b : List ℕ) (r : Range) (n : ℕ) → packsize_range f p ≡ accepted r → (string_pack f l b).answer ≡ accepted n → Texts least_of greatest_of f l p
      → (r.least ≤ n) × (n ≤ r.greatest)
  -- whatever the other values are, the least texts give the least, and the greatest the greatest
  pub all_least : (f p l b : List ℕ) (r : Range) (n : ℕ) → packsize_range f p ≡ accepted r → (string_pack f l b).answer ≡ accepted n → Texts least_of least_of f l p → n ≡ r.least
  pub all_greatest : (f p l b : List ℕ) (r : Range) (n : ℕ) → packsize_range f p ≡ accepted r → (string_pack f l b).answer ≡ accepted n → Texts greatest_of greatest_of f l p → n ≡ r.greatest
  -- a longer text never makes a later offset smaller: aligning keeps the order of offsets
  pub order : (a m n : ℕ) → m ≤ n → m + fill a m ≤ n + fill a n
  -- "The format checks are those of measuring without 10": without z or s both lengths are packsize's, or its refusal is given
  pub fixed : (f p : List ℕ) → length p % 4 ≡ 0 → has_open (ops options f) ≡ false → packsize_range f p ≡ (string_packsize f >>= λ n. accepted (range n n))
  -- "pairs left over are ignored"
  pub over : (f p q : List ℕ) (r : Range) → length q % 4 ≡ 0 → packsize_range f p ≡ accepted r → packsize_range f (p ++ q) ≡ accepted r
  -- "Nothing is refused except by a number of the list"
  pub numbers : (f p : List ℕ) → Listed (packsize_range f p)
