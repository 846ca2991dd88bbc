-- The head, then both sizes, one behind the other.
use Prim.Native.Nat.{ℕ}
use mathlib.Core.Path.{ap, ◌∙◌}
use mathlib.Core.List.{List, ◌∷◌, ◌++◌, append_assoc}
use native.Mathlib.Omega.{arith}
use lib.ListN.{length-append}
use Rattle.octets.specs.Number.{big_bytes}
use Rattle.octets.specs.Over.{over}
use Rattle.octets.proofs.InBytes.{length-big}
use Rattle.octets.proofs.Overlay.{put_rest}
use Rattle.saves.specs.Save.{shape_field}
use Rattle.saves.proofs.Saved.{head-put, field-parts}
use Rattle.saves.proofs.save.put_shape.Goals as goal

pub returns : goal.returns
unfolding shape_field
returns c =
    let a = c.args in
    let l = a.out.now in
    let h : List ℕ = 0x01 ∷ big_bytes 2 8 in
    let e : List ℕ = big_bytes 4 a.e in
    let s : List ℕ = big_bytes 4 a.s in
    let head = head-put 0x01 8 l c.head.ensures c.put.ensures (omega arith) in
    let one = put_rest h l head e 3 (rw c.big_bytes.ensures at c.put-2.ensures) (omega (arith, length-big 2 8)) (omega (arith, length-big 4 a.e)) in
    let two = put_rest (h ++ e) l one s 7 (rw c.big_bytes-2.ensures at c.put-3.ensures) (omega (arith, length-append h e, length-big 2 8, length-big 4 a.e)) (omega (arith, length-big 4 a.s)) in
    two ∙ ap (λ (w : List ℕ). over w l) (append_assoc h e s ∙ field-parts 0x01 8 (e ++ s) (omega (arith, length-append e s, length-big 4 a.e, length-big 4 a.s)))
