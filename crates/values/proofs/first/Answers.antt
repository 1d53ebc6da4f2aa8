-- `first` meets its contract: the two bytes behind the tag say where the content ends.
use Rattle.std.proofs.Common.{◌≡◌, ℕ, ◌-◌, ◌≤◌, List, [], ◌∷◌, length, take, drop, slice_index_or, w16, refl, ap, ◌∙◌, arith, length-drop}
use Rattle.std.specs.Int.{from_be_bytes}
use lib.Seq.{take_all, drop-drop}
use Rattle.definition.specs.Bytes.{total}
use Rattle.values.specs.Meaning.{size_of}
use Rattle.values.proofs.first.Goals as goal

-- the two bytes, and the bytes behind them
said : (l : List ℕ) → 3 ≤ length l → from_be_bytes w16 (slice_index_or l 1 0 ∷ slice_index_or l 2 0 ∷ []) ≡ size_of l
unfolding total
said [] p = absurd (omega arith)
said (t ∷ []) p = absurd (omega arith)
said (t ∷ h ∷ []) p = absurd (omega arith)
said (t ∷ h ∷ w ∷ l) p = omega arith

behind : (l : List ℕ) → take (length l - 3) (drop 3 l) ≡ drop 3 l
behind l = take_all (length l - 3) (drop 3 l) (omega (arith, length-drop 3 l))

pub returns-in_err-content : goal.returns-in_err-content
returns-in_err-content c =
    let l = c.args.list.now in
    rw c.from_residual.ensures (omega (arith, c.in_err-content.ensures.cases, ap length (behind l), length-drop 3 l, said l c.in-len3-up.len_at_least, c.from_be_bytes.ensures, c.from-n.ensures))

pub returns : goal.returns
returns c =
    let l = c.args.list.now in
    let e = rw (behind l) at c.in_ok-content.ensures.cases in
    let n : c.from-n.result ≡ size_of l = c.from-n.ensures ∙ c.from_be_bytes.ensures ∙ said l c.in-len3-up.len_at_least in
    record { within = omega (arith, e.0, n, length-drop 3 l); tag = refl; content = rw n at e.1; behind = rw n at e.2 ∙ drop-drop (size_of l) 3 l }
