-- Two calls of `put`: the first view's bytes, and behind them the second's.
use mathlib.Core.Path.{refl}
use native.Mathlib.Omega.{arith}
use lib.ListN.{length, length-append}
use Rattle.octets.proofs.Choosing.{below, above, same, other}
use Rattle.octets.proofs.Overlay.{put-over, put_rest}
use Rattle.views.proofs.join.Goals as goal

pub returns-then-base-len : goal.returns-then-base-len
returns-then-base-len c = below _ _ _ _ _ (omega arith) refl

pub returns-then-next-base : goal.returns-then-next-base
returns-then-next-base c = above _ _ _ _ _ (omega arith) (other _ _ _ _ _ c.if-next-base.true refl)

pub returns-then-out-n : goal.returns-then-out-n
returns-then-out-n c = rw length-append (above _ _ _ _ _ (omega arith) (same _ _ _ _ _ c.if-next-base.false (below _ _ _ _ _ (omega arith) refl)))

pub returns : goal.returns
returns c =
    let a = c.args in
    let p = a.first.now in
    let q = a.second.now in
    let l = a.out.now in
    let head = put-over p l c.put.ensures (omega arith) in
    let whole = put_rest p l head q (length p) c.put-2.ensures refl (omega arith) in
    rw (whole, ← length-append p q) (above _ _ _ _ _ (omega arith) (same _ _ _ _ _ c.if-next-base.false (above _ _ _ _ _ (rw length-append (omega arith)) refl)))
