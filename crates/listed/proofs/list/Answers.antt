-- Too long, sound, or refused as it was judged.
use mathlib.Core.Path.{refl}
use Rattle.std.proofs.lemmas.Result.{err_from_is_err_and}
use Rattle.octets.proofs.Choosing.{below, above}
use Rattle.listed.proofs.Lines.{sound-fits, lists, refuses}
use Rattle.listed.proofs.list.Goals as goal

pub list_sound-requires : goal.list_sound-requires
list_sound-requires c =
    sound-fits _ c.if-save-gt-LONGEST_LISTED.false c.in_ok-judge.ensures

pub returns-then-save-gt-LONGEST_LISTED : goal.returns-then-save-gt-LONGEST_LISTED
returns-then-save-gt-LONGEST_LISTED c = below _ _ _ _ _ c.if-save-gt-LONGEST_LISTED.true refl

pub returns : goal.returns
returns c = above _ _ _ _ _ c.if-save-gt-LONGEST_LISTED.false (lists c.args.save.now c.args.out.now c.in_ok-judge.ensures c.list_sound.ensures)

pub returns-in_err-judge : goal.returns-in_err-judge
returns-in_err-judge c =
    let p = err_from_is_err_and c.from_residual.result c.from_residual.ensures.1 in
    rw (p.1, p.2) (above _ _ _ _ _ c.if-save-gt-LONGEST_LISTED.false (refuses c.args.save.now c.args.out.now c.in_err-judge.ensures refl))
