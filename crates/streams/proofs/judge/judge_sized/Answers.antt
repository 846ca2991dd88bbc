-- Sized, then as sound as its fields.
use Rattle.std.proofs.Common.{◌≡◌, drop}
use Rattle.std.proofs.lemmas.Result.{err_from_is_err_and}
use Rattle.octets.specs.Outcome.{on_accepted, outcome}
use Rattle.streams.specs.Judge.{Save, fields_mean, judged_sized}
use Rattle.streams.proofs.Judging.{only-shape}
use Rattle.streams.proofs.judge.judge_sized.Goals as goal
use Rattle.streams.proofs.judge.judge_sized.Goals.{After-scan}

-- what the scan tells, with the sizes put beside
told : (c : After-scan) → let a = c.args in on_accepted (λ (s : Save). s.shape) (judged_sized a.save.now a.shape) ≡ on_accepted (λ u. a.shape) (outcome c.scan.result)
told c =
    let a = c.args in
    rw (← c.too_large.ensures, c.if-too_large.false, only-shape a.shape (fields_mean a.shape.eeprom a.shape.settings (drop 11 a.save.now)), ← c.fields_of.ensures, ← c.scan.ensures)

pub returns : goal.returns
returns c = rw (told (goal.at.returns c).After-scan, c.in_ok-scan.was)

pub returns-in_err-scan : goal.returns-in_err-scan
returns-in_err-scan c =
    let p = err_from_is_err_and c.from_residual.result c.from_residual.ensures.1 in
    rw (p.1, p.2, told (goal.at.returns-in_err-scan c).After-scan, c.in_err-scan.was)
