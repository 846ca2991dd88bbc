-- Decided; the answer settled; then stored.
use mathlib.Core.Path.{refl}
use native.Mathlib.Omega.{arith}
use lib.ListN.{length-take}
use Rattle.std.proofs.lemmas.Result.{err_from_is_err_and}
use Rattle.octets.specs.Outcome.{accepted}
use Rattle.processor.specs.Memory.{memory}
use Rattle.processor.specs.Change.{writes_in}
use Rattle.device.proofs.Answers.{settled, over-le, over-front}
use Rattle.device.proofs.execute.answer_into.Goals as goal

pub put_data-n-requires : goal.put_data-n-requires
put_data-n-requires c = (rw c.in_ok-plan.was at c.decide.ensures.1, omega arith)

pub slice_bounds-data-end : goal.slice_bounds-data-end
slice_bounds-data-end c = let put = c.put_data-n.ensures in omega (arith, put.0, over-le _ _ put.1)

pub slice_bounds-write_answer-end : goal.slice_bounds-write_answer-end
slice_bounds-write_answer-end c =
    let put = c.put_data-n.ensures in
    let n = c.put_data-n.result in omega (arith, length-take n c.put_data-n.new.data, put.0, over-le _ _ put.1)

pub returns-in_err-plan : goal.returns-in_err-plan
returns-in_err-plan c =
    let p = err_from_is_err_and c.from_residual.result c.from_residual.ensures.1 in
    rw (p.1, p.2, ← c.decide.ensures.0, c.in_err-plan.was)

pub returns-in_err-written : goal.returns-in_err-written
returns-in_err-written c =
    let p = err_from_is_err_and c.from_residual-in_err-written.result c.from_residual-in_err-written.ensures.1 in
    let put = c.put_data-n.ensures in
    let writes = writes_in c.args.payload.now c.in_ok-plan.plan.change in
    let before = memory c.args.eeprom.now c.args.settings.now in
    let wrote = rw (over-front _ _ put.1 _ put.0, c.in_err-written.was) at c.write_answer.ensures in
    rw (p.1, p.2, ← c.decide.ensures.0, c.in_ok-plan.was) (settled writes before _ wrote refl)

pub returns : goal.returns
returns c =
    let put = c.put_data-n.ensures in
    let writes = writes_in c.args.payload.now c.in_ok-plan.plan.change in
    let before = memory c.args.eeprom.now c.args.settings.now in
    let wrote = rw (over-front _ _ put.1 _ put.0, c.in_ok-written.was) at c.write_answer.ensures in
    rw (← c.decide.ensures.0, c.in_ok-plan.was) (settled writes before _ wrote (λ i. (accepted c.in_ok-written.written, c.store.ensures i)))
