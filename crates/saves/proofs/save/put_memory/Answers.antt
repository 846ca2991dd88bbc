-- The command byte and the address, then the block.
use Prim.Native.Nat.{ℕ}
use mathlib.Core.Path.{refl}
use mathlib.Core.List.{List, ◌∷◌}
use native.Mathlib.Omega.{arith}
use Rattle.octets.specs.Number.{big_bytes}
use Rattle.octets.proofs.Overlay.{put-over, put_rest}
use Rattle.saves.proofs.save.put_memory.Goals as goal

pub returns : goal.returns
unfolding big_bytes
returns c =
    let a = c.args in
    let l = a.out.now in
    let h : List ℕ = 0x04 ∷ big_bytes 2 a.addr in
    put_rest h l (put-over h l (rw (c.big_bytes.ensures, c.from.ensures) at c.put.ensures) (omega arith)) a.block.now 3 c.put-2.ensures refl (omega arith)
