-- The pass that puts is accepted, so its answer has the record.
use Rattle.std.proofs.Common.{◌≡◌, sym, ap, ◌∙◌, subst}
use Rattle.definition.specs.Writing.{write}
use Rattle.definition.specs.Calls.{pack}
use Rattle.options.specs.Packed.{table_at}
use Rattle.plan.specs.Places.{values_of}
use Rattle.write_pass.specs.Walks.{summed, FitsAt, put_at}
use Rattle.tray.proofs.Records.{alone, length_told, put_front, well_formed, is_ok, fits_at}
use Rattle.tray.proofs.Packing.put_record.Goals as goal
use Rattle.tray.proofs.Packing.put_record.Goals.{Start}

-- what is written is the record
is : (s : Start) → write (table_at s.args.self.table.now.entries) s.args.self.state (values_of s.args.list.now) s.args.self.format.now ≡ pack s.args.self.state s.args.self.format.now s.args.list.now
is s = alone _ _ _ s.args.self.is_options s.args.self.sound (well_formed s.requires s.args.self.sound)

pub invariant_of-place : goal.invariant_of-place
invariant_of-place c = record { well_formed = well_formed c.requires c.args.self.sound }

pub pass-requires : goal.pass-requires
pass-requires c = λ e. subst (FitsAt _ 0) (sym (is (goal.at.pass-requires c).Start)) (fits_at c.requires)

pub unwrap-record-requires : goal.unwrap-record-requires
unwrap-record-requires c = is_ok c.requires _ (c.pass.ensures.total ∙ ap summed (is (goal.at.unwrap-record-requires c).Start))

pub returns : goal.returns
returns c =
    let a = (rw c.unwrap-record.ensures at c.pass.ensures.total) ∙ ap summed (is (goal.at.returns c).Start) in
    record { length = sym (length_told _ _ _ a); bytes = c.pass.ensures.bytes ∙ ap (put_at _ 0) (is (goal.at.returns c).Start) ∙ put_front _ _ _ a _ }
