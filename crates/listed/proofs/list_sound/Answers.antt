-- What stands on the page from its start is the text.
use Prim.Native.Nat.{ℕ, ◌+◌, ◌≤◌}
use native.Mathlib.Nat.{zero-add}
use native.Mathlib.Omega.{arith}
use mathlib.Core.List.{List}
use lib.ListN.{length, drop, replicate}
use Rattle.octets.proofs.Overlay.{part-over-at}
use Rattle.listed.specs.Inside.{frames_text}
use Rattle.listed.proofs.list_sound.Goals as goal

pub slice_bounds-put-end : goal.slice_bounds-put-end
slice_bounds-put-end c = omega (arith, c.add_text.ensures.told (omega arith))

pub returns : goal.returns
returns c =
    let a = c.args in
    let t = frames_text a.shape (drop 11 a.save.now) in
    let p = c.add_text.ensures in
    let page : List ℕ = replicate 65536 0 in
    let room : 0 + length t ≤ length page = omega arith in
    rw (p.told room, p.text room, zero-add, part-over-at page 0 t room) at c.put.ensures
