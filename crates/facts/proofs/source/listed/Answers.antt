-- One more source under its number.
use mathlib.Core.Path.{◌≡◌}
use native.Mathlib.Numerals.{add-one}
use native.Mathlib.Omega.{arith}
use Prim.Native.Nat.{◌-◌, suc, ◌+◌}
use Rattle.facts.proofs.Sources.{numbered_all, numbered_next}
use Rattle.facts.proofs.source.listed.Goals as goal

pub loop-i-preserved : goal.loop-i-preserved
loop-i-preserved g c =
    let i = c.loop-i.i in
    let here : 7 - i ≡ suc (6 - i) = omega arith in
    let left : 7 - (i + 1) ≡ 6 - i = omega arith in
    rw (c.loop-i.invariant, here, left, add-one) (numbered_next 0 i (6 - i) i c.args.sources _ (omega arith) (omega arith))

pub returns : goal.returns
returns g c =
    numbered_all g.row.N c.loop-i.i c.args.sources (omega arith) (omega arith) c.loop-i.invariant
