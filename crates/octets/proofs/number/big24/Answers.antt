-- The number is its two halves, one behind the other.
use mathlib.Core.Path.{sym}
use Rattle.octets.proofs.InBytes.{big-past, big-parts, big-one}
use Rattle.octets.proofs.number.big24.Goals as goal

pub returns-then-bytes-place : goal.returns-then-bytes-place
returns-then-bytes-place c = sym (big-past _ 3 _ c.if-bytes-place.true)

pub returns : goal.returns
returns c = rw (c.big16.ensures, c.byte.ensures) (sym (rw (big-parts _ 2 1 _, big-one)))
