-- The number is its two halves, one behind the other.
use mathlib.Core.Path.{sym}
use Rattle.octets.proofs.InBytes.{big-past, big-parts, big-one}
use Rattle.octets.proofs.number.big16.Goals as goal

pub returns-then-bytes-place : goal.returns-then-bytes-place
returns-then-bytes-place c = sym (big-past _ 2 _ c.if-bytes-place.true)

pub returns : goal.returns
returns c = rw (c.byte.ensures, c.byte-2.ensures) (sym (rw (big-parts _ 1 1 _, big-one, big-one)))
