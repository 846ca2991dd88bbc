-- The size first.
use Rattle.std.proofs.Common.{refl, ap, ◌∙◌, arith}
use Rattle.octets.specs.Outcome.{on_accepted}
use Rattle.octets.proofs.Choosing.{below, above}
use Rattle.images.specs.Import.{judged_for}
use Rattle.images.proofs.judge.judge.Goals as goal

pub returns-then-size-gt-LARGEST : goal.returns-then-size-gt-LARGEST
unfolding judged_for
returns-then-size-gt-LARGEST c = ap (on_accepted (λ rows. tt)) (below _ _ _ _ _ c.if-size-gt-LARGEST.true refl)

pub returns : goal.returns
unfolding judged_for
returns c = c.judge_sized.ensures ∙ ap (on_accepted (λ rows. tt)) (above _ _ _ _ _ (omega (arith, c.if-size-gt-LARGEST.false)) refl)
