-- The number is its two halves, one behind the other.
use mathlib.Core.Path.{sym}
use Rattle.octets.proofs.InBytes.{little-past, little-parts, little-one}
use Rattle.octets.proofs.number.little16.Goals as goal

pub returns-then-bytes-place : goal.returns-then-bytes-place
returns-then-bytes-place c = sym (little-past _ 2 _ c.if-bytes-place.true)

pub returns : goal.returns
returns c = rw (c.byte.ensures, c.byte-2.ensures) (sym (rw (little-parts _ 1 1 _, little-one, little-one)))
