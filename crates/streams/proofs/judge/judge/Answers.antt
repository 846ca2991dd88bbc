use Rattle.std.proofs.Common.{◌≡◌, sym, refl, ap}
use Rattle.std.proofs.lemmas.Result.{err_from_is_err_and}
use Rattle.octets.specs.Outcome.{on_accepted, and_then}
use Rattle.octets.proofs.Choosing.{below, above}
use Rattle.streams.specs.Stream.{shape_of}
use Rattle.streams.specs.Judge.{Save, judged_sized, judged_of}
use Rattle.streams.proofs.judge.judge.Goals as goal
use Rattle.streams.proofs.judge.judge.Goals.{Else-save-gt-LONGEST_SAVE}

-- what is left to judge of a save that is not too long
short : (c : Else-save-gt-LONGEST_SAVE) → let l = c.args.save.now in
    on_accepted (λ (s : Save). s.shape) (judged_of l) ≡ on_accepted (λ (s : Save). s.shape) (and_then (shape_of l) (judged_sized l))
unfolding judged_of
short c = ap (on_accepted (λ (s : Save). s.shape)) (sym (above _ _ _ _ _ c.if-save-gt-LONGEST_SAVE.false refl))

pub returns-then-save-gt-LONGEST_SAVE : goal.returns-then-save-gt-LONGEST_SAVE
unfolding judged_of
returns-then-save-gt-LONGEST_SAVE c = ap (on_accepted (λ (s : Save). s.shape)) (below _ _ _ _ _ c.if-save-gt-LONGEST_SAVE.true refl)

pub returns : goal.returns
returns c = rw (short (goal.at.returns c).Else-save-gt-LONGEST_SAVE, ← c.in_ok-shape_of.ensures) c.judge_sized.ensures

pub returns-in_err-shape_of : goal.returns-in_err-shape_of
returns-in_err-shape_of c =
    let p = err_from_is_err_and c.from_residual.result c.from_residual.ensures.1 in
    rw (p.1, p.2, short (goal.at.returns-in_err-shape_of c).Else-save-gt-LONGEST_SAVE, ← c.in_err-shape_of.ensures)
