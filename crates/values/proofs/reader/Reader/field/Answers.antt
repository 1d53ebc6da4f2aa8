-- `Reader::field` meets its contract: by the tag, which the content suits.
use Rattle.std.proofs.Common.{◌+◌, ◌-◌, sym, arith, lit≤, to_z-of_z}
use Rattle.values.specs.Loading.{Loaded}
use Rattle.values.proofs.Loading.{loaded}
use Rattle.values.proofs.Contents.{within, text_field, other_field, eight_there, integer_field, float_field}
use Rattle.values.proofs.reader.Reader.field.Goals as goal
use Rattle.values.proofs.reader.Reader.field.Goals.{After-get_word-b}

pub slice_bounds-get_word-end : goal.slice_bounds-get_word-end
slice_bounds-get_word-end c =
    let r = c.args.self in eight_there r.list.now r.at r.well_formed c.if-self.false (sym c.if-is_number.ensures)

number : (c : After-get_word-b) → Loaded c.args.self.list.now (c.args.self.at + 3) 8 c.get_word-b.result
number c =
    let r = c.args.self in
    loaded _ _ 8 _ _ (lit≤ tt) (eight_there r.list.now r.at r.well_formed c.if-self.false (sym c.if-is_number.ensures)) (omega arith) c.get_word-b.ensures

pub returns-then-tag-eq-TAG_INTEGER : goal.returns-then-tag-eq-TAG_INTEGER
returns-then-tag-eq-TAG_INTEGER c =
    let r = c.args.self in
    rw (to_z-of_z (record { sfits = c.to_signed.type_inv }), c.to_signed.ensures) (integer_field r.list.now r.at r.well_formed c.if-self.false (sym c.if-is_number.ensures) _ (number (goal.at.returns-then-tag-eq-TAG_INTEGER c).After-get_word-b) c.if-tag-eq-TAG_INTEGER.true)

pub returns-then-is_number : goal.returns-then-is_number
returns-then-is_number c =
    let r = c.args.self in
    float_field r.list.now r.at r.well_formed c.if-self.false (sym c.if-is_number.ensures) _ (number (goal.at.returns-then-is_number c).After-get_word-b) c.if-tag-eq-TAG_INTEGER.false _ c.float_of.ensures

pub returns-then-tag-eq-TAG_OTHER : goal.returns-then-tag-eq-TAG_OTHER
returns-then-tag-eq-TAG_OTHER c =
    let r = c.args.self in other_field r.list.now r.at r.well_formed c.if-self.false c.if-tag-eq-TAG_OTHER.true

pub slice_bounds-get_word-end-2 : goal.slice_bounds-get_word-end-2
slice_bounds-get_word-end-2 c =
    let r = c.args.self in omega (arith, within r.list.now r.at r.well_formed c.if-self.false)

pub returns : goal.returns
returns c =
    let r = c.args.self in
    let there = within r.list.now r.at r.well_formed c.if-self.false in
    text_field r.list.now r.at r.well_formed c.if-self.false (sym c.if-is_number.ensures) c.if-tag-eq-TAG_OTHER.false _ (loaded _ (r.at + 1) 2 (r.at + 3 - (r.at + 1)) _ (lit≤ tt) (omega (arith, there)) (omega arith) c.get_word-n.ensures)
