-- A turn is two stores past what is written: after i turns the digits of the first i bytes stand over the output.
use mathlib.Core.Path.{refl}
use native.Mathlib.Omega.{arith}
use lib.ListN.{length-set}
use lib.Seq.{take_all}
use Rattle.octets.specs.Over.{over}
use Rattle.octets.proofs.Choosing.{below, above}
use Rattle.text.specs.Digits.{pairs_of}
use Rattle.text.proofs.Digits.{length_pairs, pairs-turn}
use Rattle.text.proofs.put_pairs.Goals as goal

pub returns-then-out-bytes : goal.returns-then-out-bytes
returns-then-out-bytes c = rw length_pairs (below _ _ _ _ _ (omega arith) refl)

pub loop-i-init : goal.loop-i-init
unfolding over pairs_of
loop-i-init c = (refl, refl)

pub loop-i-preserved : goal.loop-i-preserved
loop-i-preserved c =
    let a = c.args in (
      simp length-set (omega arith),
      pairs-turn a.bytes.now a.out.now c.loop-i.out c.loop-i.i _ _ c.loop-i.invariant.1 (omega arith) (omega arith) c.hex_digit.ensures c.hex_digit-in-loop-i.ensures,
    )

pub returns : goal.returns
returns c =
    let a = c.args in
    let n = length_pairs a.bytes.now in
    rw (c.loop-i.invariant.1, take_all c.loop-i.i a.bytes.now (omega arith), n) (above _ _ _ _ _ (omega arith) refl)
