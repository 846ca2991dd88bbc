-- What all digits spell is what those from i on spell behind the number so far.
use mathlib.Core.Path.{refl, sym, ap, ◌∙◌}
use native.Mathlib.Omega.{arith}
use Rattle.text.specs.Read.{small, number_in}
use Rattle.text.proofs.Reading.{digit-more, digit-bad, too_large_lem, number-end, below-36}
use Rattle.text.proofs.read_number.Goals as goal

pub loop-byte-init : goal.loop-byte-init
unfolding number_in
loop-byte-init c = (omega arith, refl)

pub returns-then-base-digit : goal.returns-then-base-digit
returns-then-base-digit c =
    let a = c.args in
    digit-bad a.base c.loop-byte.n a.word.now c.loop-byte.byte-index _ (omega arith) c.digit_value-digit.ensures.0 (omega arith) ∙ c.loop-byte.invariant.1

pub overflow_mul-n : goal.overflow_mul-n
overflow_mul-n c =
    let h = below-36 c.args.base c.loop-byte.n (omega arith) (omega arith) in omega arith

pub overflow_add-n : goal.overflow_add-n
overflow_add-n c =
    let h = below-36 c.args.base c.loop-byte.n (omega arith) (omega arith) in omega arith

pub returns-then-n-gt4294967295 : goal.returns-then-n-gt4294967295
returns-then-n-gt4294967295 c =
    let a = c.args in
    too_large_lem a.base _ _ (omega arith) (omega arith)
    ∙ ap small (sym (digit-more a.base c.loop-byte.n a.word.now c.loop-byte.byte-index _ (omega arith) c.digit_value-digit.ensures.0 (omega arith))) ∙ c.loop-byte.invariant.1

pub loop-byte-preserved : goal.loop-byte-preserved
loop-byte-preserved c =
    let a = c.args in (
      omega arith,
      ap small (sym (digit-more a.base c.loop-byte.n a.word.now c.loop-byte.byte-index _ (omega arith) c.digit_value-digit.ensures.0 (omega arith))) ∙ c.loop-byte.invariant.1,
    )

pub returns : goal.returns
returns c =
    let a = c.args in
    number-end a.base c.loop-byte.n a.word.now c.loop-byte.byte-index (omega arith) (omega arith) ∙ c.loop-byte.invariant.1
