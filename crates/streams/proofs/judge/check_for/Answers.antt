-- The sizes, the length, and the sizes of the first field; then as sound as its fields.
use Rattle.std.proofs.Common.{◌≡◌, sym, refl, ap}
use Rattle.std.proofs.lemmas.Result.{err_from_is_err_and}
use Rattle.octets.specs.Outcome.{and_then}
use Rattle.octets.proofs.Choosing.{below, above, same, other}
use Rattle.streams.specs.Stream.{shape_of}
use Rattle.streams.specs.Inside.{no_fault}
use Rattle.streams.specs.Judge.{read_sized, checked_for}
use Rattle.streams.proofs.Judging.{still-sound}
use Rattle.streams.proofs.judge.check_for.Goals as goal
use Rattle.streams.proofs.judge.check_for.Goals.{Else-save-gt-LONGEST_SAVE, then-shape-e-via-then-shape-e, then-shape-e-via-else-shape-e+then-shape-s}

-- what is left to judge of a save that is not too long
short : (c : Else-save-gt-LONGEST_SAVE) → let a = c.args in
    no_fault (checked_for a.e a.s a.save.now) ≡ no_fault (and_then (shape_of a.save.now) (read_sized a.e a.s a.save.now))
unfolding checked_for
short c = rw (← c.too_large.ensures, c.if-too_large.false) (ap no_fault (sym (above _ _ _ _ _ c.if-save-gt-LONGEST_SAVE.false refl)))

pub returns-then-too_large : goal.returns-then-too_large
unfolding checked_for
returns-then-too_large c = rw (← c.too_large.ensures, c.if-too_large.true)

pub returns-then-save-gt-LONGEST_SAVE : goal.returns-then-save-gt-LONGEST_SAVE
unfolding checked_for
returns-then-save-gt-LONGEST_SAVE c = rw (← c.too_large.ensures, c.if-too_large.false) (ap no_fault (below _ _ _ _ _ c.if-save-gt-LONGEST_SAVE.true refl))

pub returns-in_err-shape : goal.returns-in_err-shape
returns-in_err-shape c =
    let p = err_from_is_err_and c.from_residual.result c.from_residual.ensures.1 in
    rw (p.1, p.2, short (goal.at.returns-in_err-shape c).Else-save-gt-LONGEST_SAVE, ← c.in_err-shape.ensures)

pub returns-then-shape-e : goal.returns-then-shape-e
returns-then-shape-e c =
    let start = short (goal.at.returns-then-shape-e c).Else-save-gt-LONGEST_SAVE in
    elim c.then-shape-e.branch [
      | then-shape-e-via-then-shape-e w ↦ rw (start, ← c.in_ok-shape.ensures, ← other _ _ _ _ _ w.if-shape-e.true refl)
      | then-shape-e-via-else-shape-e+then-shape-s w ↦
          rw (start, ← c.in_ok-shape.ensures, ← same _ _ _ _ _ w.if-shape-e.false refl, ← other _ _ _ _ _ w.if-shape-s.true refl)
    ]

pub returns : goal.returns
returns c =
    rw (short (goal.at.returns c).Else-save-gt-LONGEST_SAVE, ← c.in_ok-shape.ensures, ← same _ _ _ _ _ c.if-shape-e.false refl, ← same _ _ _ _ _ c.if-shape-s.false refl, still-sound c.in_ok-shape.shape, c.if-shape-e.false, c.if-shape-s.false, ← c.fields_of.ensures)
    c.scan.ensures
