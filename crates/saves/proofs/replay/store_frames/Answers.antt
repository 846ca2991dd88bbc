-- What is left to store, stored, is what all of it is.
use mathlib.Core.Path.{◌≡◌, sym, ◌∙◌}
use native.Mathlib.Omega.{arith}
use lib.ListN.{length}
use Rattle.processor.specs.Memory.{memory}
use Rattle.streams.specs.Stream.{tag_of}
use Rattle.streams.proofs.Streams.{tag-whole, cut-behind, behind-shorter}
use Rattle.saves.proofs.Storing.{none-stored, frame-stored}
use Rattle.saves.proofs.replay.store_frames.Goals as goal
use Rattle.saves.proofs.replay.store_frames.Goals.{In-loop-rest}

-- the frame at the front of what is left
is-frame : (c : In-loop-rest) → tag_of c.loop-rest.rest.now ≡ 0x10
is-frame c = sym c.tag_of.ensures ∙ c.loop-rest-test.true

pub slice_bounds-rest-count : goal.slice_bounds-rest-count
slice_bounds-rest-count c = omega (arith, c.field_end-end.ensures, tag-whole c.loop-rest.rest.now (is-frame (goal.at.slice_bounds-rest-count c).In-loop-rest))

pub slice_bounds-rest-start : goal.slice_bounds-rest-start
slice_bounds-rest-start c = omega (arith, c.field_end-end.ensures, tag-whole c.loop-rest.rest.now (is-frame (goal.at.slice_bounds-rest-start c).In-loop-rest))

pub loop-rest-smaller : goal.loop-rest-smaller
loop-rest-smaller c = rw (cut-behind c.loop-rest.rest.now c.field_end-end.result c.field_end-end.ensures) (behind-shorter c.loop-rest.rest.now (is-frame (goal.at.loop-rest-smaller c).In-loop-rest))

pub loop-rest-preserved : goal.loop-rest-preserved
loop-rest-preserved c =
    let call = c.store_frame in
    let l = c.loop-rest in
    let a = c.args in (
      call.auto.eeprom ∙ l.invariant.0,
      call.auto.settings ∙ l.invariant.1,
      rw (cut-behind l.rest.now c.field_end-end.result c.field_end-end.ensures)
          (frame-stored (length a.eeprom.now) (length a.settings.now) l.rest.now (is-frame (goal.at.loop-rest-preserved c).In-loop-rest) _ c.content_of.ensures (memory l.eeprom l.settings) _
          (rw (l.invariant.0, l.invariant.1) at call.ensures)
          ∙ l.invariant.2),
    )

pub returns : goal.returns
returns c = sym (none-stored _ _ c.loop-rest.rest.now (λ h. c.loop-rest-test.false (c.tag_of.ensures ∙ h)) _) ∙ c.loop-rest.invariant.2
