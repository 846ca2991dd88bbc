-- What is left to add are the lines of the frames that are left.
use mathlib.Core.Path.{◌≡◌, sym, ◌∙◌}
use native.Mathlib.Omega.{arith}
use Rattle.streams.specs.Stream.{tag_of}
use Rattle.streams.proofs.Streams.{tag-whole, behind-shorter, cut-behind}
use Rattle.listed.proofs.Adding.{adds_none, adds-adds}
use Rattle.listed.proofs.Lines.{lines-frame, lines_none, count-frame, count_none}
use Rattle.listed.proofs.Page.add_lines.Goals as goal

pub overflow_add-frames : goal.overflow_add-frames
overflow_add-frames c =
    let tag : tag_of c.loop-rest.rest.now ≡ 0x10 = sym c.tag_of.ensures ∙ c.loop-rest-test.true in
    omega (arith, tag-whole c.loop-rest.rest.now tag)

pub slice_bounds-rest-count : goal.slice_bounds-rest-count
slice_bounds-rest-count c =
    let tag : tag_of c.loop-rest.rest.now ≡ 0x10 = sym c.tag_of.ensures ∙ c.loop-rest-test.true in
    omega (arith, tag-whole c.loop-rest.rest.now tag)

pub slice_bounds-rest-start : goal.slice_bounds-rest-start
slice_bounds-rest-start c =
    let tag : tag_of c.loop-rest.rest.now ≡ 0x10 = sym c.tag_of.ensures ∙ c.loop-rest-test.true in
    omega (arith, tag-whole c.loop-rest.rest.now tag)

pub loop-rest-smaller : goal.loop-rest-smaller
loop-rest-smaller c =
    let tag : tag_of c.loop-rest.rest.now ≡ 0x10 = sym c.tag_of.ensures ∙ c.loop-rest-test.true in
    rw (cut-behind c.loop-rest.rest.now _ c.field_end-n.ensures) (behind-shorter c.loop-rest.rest.now tag)

pub loop-rest-preserved : goal.loop-rest-preserved
loop-rest-preserved c =
    let tag : tag_of c.loop-rest.rest.now ≡ 0x10 = sym c.tag_of.ensures ∙ c.loop-rest-test.true in
    let rest = c.loop-rest.rest.now in
    let shape = c.args.shape in
    let line = rw c.content_of.ensures at c.add_frame.ensures in
    rw (cut-behind rest _ c.field_end-n.ensures) record {
      count = omega (arith, count-frame rest tag);
      fewer = omega (arith, behind-shorter rest tag);
      left = λ r o p. c.loop-rest.invariant.left r o (rw (lines-frame shape.eeprom shape.settings rest tag) (adds-adds line p));
    }

pub returns : goal.returns
returns c =
    let shape = c.args.shape in
    let rest = c.loop-rest.rest.now in
    let other : tag_of rest ≡ 0x10 → ⊥ = λ h. c.loop-rest-test.false (c.tag_of.ensures ∙ h) in
    (omega (arith, count_none rest other), c.loop-rest.invariant.left _ _ (rw (lines_none shape.eeprom shape.settings rest other) (adds_none _ _)))
