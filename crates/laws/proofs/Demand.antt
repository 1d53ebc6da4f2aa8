-- Demand 3, proved: `demand` is all of it. Size, reading back and writing again hold of a run's output (Size, ReadBack), and so of the calls with buffers; the cuts are in Cutting.
use Prim.Native.Nat.{ℕ, ◌+◌, ◌-◌, ◌%◌, ◌^◌, ◌≤◌}
use native.Mathlib.Omega.{arith}
use mathlib.Core.Path.{◌≡◌, refl, sym, ap, ◌∙◌}
use mathlib.Core.Bool.{true, cond}
use mathlib.Core.List.{List, [], ◌++◌, map, append-nil}
use lib.Dec.{leb}
use lib.IntN.{pos}
use lib.ListN.{length, length-append}
use lib.Seq.{drop_at}
use borrow.Author.Tests.{le-leb}
use Rattle.definition.specs.Answers.{refused, accepted, ◌>>=◌}
use Rattle.definition.specs.Options.{options}
use Rattle.definition.specs.Ops.{ops}
use Rattle.definition.specs.Values.{Value}
use Rattle.definition.specs.Lists.{list_of}
use Rattle.definition.specs.States.{start}
use Rattle.definition.specs.Writing.{zeroed, Output, output, Place, place}
use Rattle.definition.specs.Reading.{offset, position_of}
use Rattle.definition.specs.Calls.{into, pack, record_of, string_pack, string_unpack}
use Rattle.definition.specs.Kept.{output_of, written, keep, kept_list}
use Rattle.laws.specs.Claims.{LongEnough, gives, packed_bytes, Holds, has_open, Readable, Agreement, Demand}
use Rattle.laws.proofs.Answers.{never, bound}
use Rattle.laws.proofs.Cells.{holds_length}
use Rattle.laws.proofs.Lists.{values_held, values_of}
use Rattle.laws.proofs.Ops.{options_sizes, ops_valid}
use Rattle.laws.proofs.Traces.{unpack_values, listed, unpack_values_lem}
use Rattle.laws.proofs.ReadBack.{Given, read_back, kept_took, write_again, kept_held}
use Rattle.laws.proofs.Size.{size_measured}
use Rattle.laws.proofs.Cutting.{cuts, plain_is}
use Rattle.laws.proofs.Calls.{into_long, into_accepted, start_sound, pack_run, Packed, packed, length_record}

-- of an accepted run: the values vs, and the run's end and output r
module _ (f l : List ℕ) (r : Place Value × Output) (e : pack start f l ≡ accepted r) (p : Packed start f l r) where
  -- the output that the claims name
  output_is : written f l ≡ r.1
  output_is = ap output_of e

  given : Readable f l → Given (place start p.vs) (ops options f) r.1
  given g = record { valid = ops_valid options options_sizes f; short = g.short; held = values_held l p.vs g.bytes p.list; integers = rw output_is at g.integers }

  reads : Readable f l → (front held rest : List ℕ) → length front % 16 ≡ 0 → Holds r.1.cells held → length (front ++ (held ++ rest)) ≤ 2 ^ 63 - 1
      → unpack_values f (front ++ (held ++ rest)) (pos (length front + 1)) ≡ accepted (map keep r.1.took, position_of (offset (length front + length held)))
  reads g front held rest near m n =
      let d : List ℕ = front ++ (held ++ rest) in
      let fits : leb (length d) (2 ^ 63 - 1) ≡ true = le-leb (length d) (2 ^ 63 - 1) n in
      let one : leb 1 (length front + 1) ≡ true = le-leb 1 (length front + 1) (omega arith) in
      let end : leb (length front + 1) (length d + 1) ≡ true = le-leb (length front + 1) (length d + 1) (omega (arith, length-append front (held ++ rest))) in
      let i : length front + 1 - 1 ≡ length front = omega arith in
      rw (fits, one, end, i, drop_at front (held ++ rest) (length front) refl, read_back (place start p.vs) (ops options f) r.0 r.1 p.run (given g) (length front) held rest near m)

  -- the kept values, as a list, are read as these values, and writing them gives the same bytes
  again : Readable f l → pack start f (list_of (map keep r.1.took)) ≡ accepted (place r.0.state [], output r.1.cells (map kept_took r.1.took) r.1.items)
  again g =
      pack_run start f (list_of (map keep r.1.took)) (map keep r.1.took) start_sound (values_of (map keep r.1.took) (kept_held (place start p.vs) (ops options f) r.0 r.1 p.run (given g)))
      ∙ (rw append-nil at (write_again (place start p.vs) (ops options f) r.0 r.1 p.run (given g) []))

  bytes_are : packed_bytes f l ≡ record_of r.1
  bytes_are = ap record_of output_is

  list_is : kept_list f l ≡ list_of (map keep r.1.took)
  list_is = ap (λ (o : Output). list_of (map keep o.took)) output_is

  length_is : length (packed_bytes f l) ≡ length r.1.cells
  length_is = ap length bytes_are ∙ length_record r.1

  -- an accepted answer of writing, put into a buffer that is long enough
  pub fills : (m : List ℕ) (q : Place Value × Output) (b : List ℕ) → pack start f m ≡ accepted q → q.1.cells ≡ r.1.cells → LongEnough (string_pack f m b).answer
      → string_pack f m b ≡ gives (length (packed_bytes f l)) (packed_bytes f l) b
  unfolding string_pack
  fills m q b i c long =
      let go : into b (pack start f m >>= λ x. accepted (length x.1.cells, record_of x.1)) ≡ gives (length q.1.cells) (record_of q.1) b
      = rw i (into_long b (length q.1.cells) (record_of q.1) (rw i at long)) in
      go ∙ ap (λ (n : ℕ). gives n (record_of q.1) b) (sym (length_record q.1)) ∙ ap (λ (s : List ℕ). gives (length s) s b) (ap (map zeroed) c ∙ sym bytes_are)

  agree : (b : List ℕ) → LongEnough (string_pack f l b).answer → Agreement f l b
  agree b long = record {
    wrote = fills l r b e refl long;
    size = size_measured options f p.vs r.0 r.1 p.run ∙ ap (λ (n : ℕ). cond (has_open (ops options f)) (refused 10) (accepted n)) (sym length_is);
    back = λ g front held rest b near m n long.
        let m' : Holds r.1.cells held = rw output_is at m in
        let i = reads g front held rest near m' n in
        let l' : length held ≡ length (packed_bytes f l) = holds_length r.1.cells held m' ∙ sym length_is in
        let answer = listed (map keep r.1.took, position_of (offset (length front + length held))) in
        let is : string_unpack f (front ++ (held ++ rest)) (pos (length front + 1)) b ≡ into b (accepted answer) = unpack_values_lem f (front ++ (held ++ rest)) (pos (length front + 1)) b ∙ rw i in
        rw (list_is, ← l') (is ∙ into_long b answer.0 answer.1 (rw is at long));
    again = λ g b long.
        fills (kept_list f l) (place r.0.state [], output r.1.cells (map kept_took r.1.took) r.1.items) b (ap (pack start f) list_is ∙ again g) refl long;
  }

-- writing that is accepted, into some buffer
agreement : (f l b : List ℕ) (n : ℕ) → (string_pack f l b).answer ≡ accepted n → Agreement f l b
unfolding string_pack
agreement f l b n e =
    let i = into_accepted b (pack start f l >>= λ r. accepted (length r.1.cells, record_of r.1)) n e in
    let q = bound (pack start f l) (λ r. accepted (length r.1.cells, record_of r.1)) i.1 in
    agree f l q.val q.is (packed start f l q.val q.is) b (λ x. never (sym x ∙ e))

pub demand : Demand
demand = record { agreement = agreement; cuts = cuts; plain = plain_is }
