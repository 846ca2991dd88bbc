-- What refuses is settled first; then each turn stores one byte past what is written.
use Prim.Native.Nat.{◌+◌, ◌*◌}
use mathlib.Core.Path.{refl, sym, ◌∙◌}
use native.Mathlib.Omega.{arith}
use lib.ListN.{length-set}
use lib.Seq.{take_all}
use Rattle.octets.specs.Over.{over}
use Rattle.octets.proofs.Choosing.{tests}
use Rattle.text.specs.Read.{pairs_in}
use Rattle.text.proofs.Reading.{digit_at, length-pairs-in, pair-at, pair_turn}
use Rattle.text.proofs.read_pairs.Goals as goal
use Rattle.text.proofs.read_pairs.Goals.{then-not_digits-via-then-not_digits, then-not_digits-via-else-not_digits+then-word-eq1, then-not_digits-via-else-not_digits+else-word-eq1+then-out-n}

pub returns-then-not_digits : goal.returns-then-not_digits
returns-then-not_digits c =
    elim c.then-not_digits.branch [
      | then-not_digits-via-then-not_digits w ↦ rw (← c.not_digits.ensures, w.if-not_digits.true)
      | then-not_digits-via-else-not_digits+then-word-eq1 w ↦ rw (← c.not_digits.ensures, w.if-not_digits.false) (search tests)
      | then-not_digits-via-else-not_digits+else-word-eq1+then-out-n w ↦ rw (← c.not_digits.ensures, w.if-not_digits.false) (search tests)
    ]

pub loop-i-init : goal.loop-i-init
unfolding over
loop-i-init c = (refl, sym c.not_digits.ensures ∙ c.if-not_digits.false, refl)

pub overflow_mul-out : goal.overflow_mul-out
overflow_mul-out c =
    let word = c.args.word.now in
    omega (arith, digit_at word (2 * c.loop-i.i) c.loop-i.invariant.1 (omega arith), c.digit_value.ensures.0)

pub overflow_add-out : goal.overflow_add-out
overflow_add-out c =
    let word = c.args.word.now in
    let one = c.digit_value.ensures in
    omega (arith, digit_at word (2 * c.loop-i.i) c.loop-i.invariant.1 (omega arith), digit_at word (2 * c.loop-i.i + 1) c.loop-i.invariant.1 (omega arith), one.0, c.digit_value-in-loop-i.ensures.0)

pub loop-i-preserved : goal.loop-i-preserved
loop-i-preserved c =
    let a = c.args in
    let word = a.word.now in
    let n = length-pairs-in word in
    let byte = pair-at word c.loop-i.i (omega arith) in (
      simp length-set (omega arith),
      c.loop-i.invariant.1,
      pair_turn (pairs_in word) a.out.now c.loop-i.out c.loop-i.i _ c.loop-i.invariant.2 (omega arith) (omega arith) (rw (byte, ← c.digit_value.ensures.0, ← c.digit_value-in-loop-i.ensures.0)),
    )

pub returns : goal.returns
returns c =
    let word = c.args.word.now in
    rw (c.loop-i.invariant.1, c.loop-i.invariant.2, take_all c.loop-i.i (pairs_in word) (omega (arith, length-pairs-in word))) (search tests)
