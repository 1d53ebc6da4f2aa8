-- The call, by what the two passes answer.
use Prim.Native.Nat.{ℕ, ◌-◌, ◌^◌, ◌≤◌, ◌<◌}
use native.Mathlib.Omega.{arith}
use mathlib.Core.Path.{◌≡◌, sym, ap, ◌∙◌}
use mathlib.Core.Bool.{true}
use mathlib.Core.List.{List}
use lib.Dec.{leb}
use lib.IntN.{ℤ}
use lib.ListN.{length}
use borrow.Author.Tests.{le-leb, lt-leb}
use Rattle.definition.specs.Answers.{Checked, refused, accepted, ◌>>=◌}
use Rattle.definition.specs.Options.{Table, options}
use Rattle.definition.specs.Values.{Value}
use Rattle.definition.specs.Lists.{list_of}
use Rattle.definition.specs.States.{start}
use Rattle.definition.specs.Writing.{Place}
use Rattle.definition.specs.Reading.{position_of, offset_of, offset_in, at_offset, read}
use Rattle.definition.specs.Calls.{Call, call, into, unpack, string_unpack}
use Rattle.definition.specs.declared.State.{State}
use Rattle.definition.specs.declared.Offset.{Offset}
use Rattle.definition.specs.declared.Position.{Position}
use Rattle.definition.specs.declared.Unpacked.{Unpacked}
use Rattle.laws.proofs.Calls.{into_fits}
use Rattle.laws.proofs.Traces.{listed, unpack_values_lem}
use Rattle.decode.proofs.Numbers.{bind_bind}
use Rattle.read_pass.specs.Runs.{read_at, Reads, list_into, list_after}

-- a buffer that is shorter than the result
into_short : {A : Type 0} (b : List ℕ) (a : A) (s : List ℕ) → length b < length s → into b (accepted (a, s)) ≡ call (refused 22) b
into_short b a s h = rw (lt-leb (length s) (length b) h)

-- a call that is accepted with a length and a position
abbrev call_with : ℕ → Position → List ℕ → Call Unpacked
call_with n v l = call (accepted (record { length = n; next = v })) l

same_call : {m n : ℕ} {u v : Position} {k l : List ℕ} → m ≡ n → u ≡ v → k ≡ l → call_with m u k ≡ call_with n v l
same_call e f g = rw (e, f, g)

-- of a format f by the option table, data d, a start p and a list buffer b
module _ (t : Table) (is : t ≡ options) (f d : List ℕ) (p : ℤ) (b : List ℕ) (small : length d < 2 ^ 63) where
  no_21 : leb (length d) (2 ^ 63 - 1) ≡ true
  no_21 = le-leb (length d) (2 ^ 63 - 1) (omega arith)

  pub call_outside : {k : ℕ} → refused k ≡ offset_of p (length d) → call (refused k) b ≡ string_unpack f d p b
  unfolding string_unpack unpack read
  call_outside e = rw (no_21, ← e)

  -- s is the state at the start's offset
  module _ {o : Offset} (e : accepted o ≡ offset_of p (length d)) {s : State} (at : s ≡ at_offset start o) where
    -- what the call makes of a reading
    abbrev called : Checked (Place ℕ × List Value) → Call Unpacked
    called w = into b (w >>= λ r. accepted (listed (r.1, position_of (offset_in r.0.state))))

    called_is : called (read_at t f d s) ≡ string_unpack f d p b
    called_is =
        rw (is, at)
        (ap (into b) (sym (bind_bind (read_at options f d (at_offset start o)) (λ r. accepted (r.1, position_of (offset_in r.0.state))) (λ r. accepted (listed r))))
        ∙ sym (unpack_values_lem f d p b ∙ rw (no_21, ← e)))

    -- l is the buffer after the first pass, which is as it was
    module _ {l : List ℕ} (kept : l ≡ b) where
      pub call_refused : {k : ℕ} → read_at t f d s ≡ refused k → call (refused k) l ≡ string_unpack f d p b
      call_refused {k} q = ap (call (refused k)) kept ∙ ap called (sym q) ∙ called_is

      -- the first pass answers the length n and the offset u
      module _ {n : ℕ} {u : Offset} (r : Reads d (read_at t f d s) n u) (short : length b < 2 ^ 63) where
        pub call_long : length l < n → call (refused 22) l ≡ string_unpack f d p b
        call_long h =
            ap (call (refused 22)) kept
            ∙ sym (into_short b _ (list_of r.values) (omega (arith, r.counts, ap length kept)))
            ∙ ap called (sym r.accepts)
            ∙ called_is

        module _ (h : n ≤ length l) where
          exact : n ≡ length (list_of r.values)
          exact = omega (arith, r.counts, ap length kept)

          pub call_read : {k : List ℕ} {v : Position} → k ≡ list_after t f d s l → v ≡ position_of u → call_with n v k ≡ string_unpack f d p b
          call_read {k} q i =
              let x : k ≡ list_into b (accepted (r.next, r.values)) = q ∙ ap (list_after t f d s) kept ∙ ap (list_into b) r.accepts in
              same_call exact (i ∙ ap position_of r.ends) x
              ∙ sym (into_fits b _ (list_of r.values) (omega (arith, exact, ap length kept)))
              ∙ ap called (sym r.accepts)
              ∙ called_is
