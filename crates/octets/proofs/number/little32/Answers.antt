-- The number is its two halves, one behind the other.
use mathlib.Core.Path.{sym}
use Rattle.octets.proofs.InBytes.{little-past, little-parts}
use Rattle.octets.proofs.number.little32.Goals as goal

pub returns-then-bytes-place : goal.returns-then-bytes-place
returns-then-bytes-place c = sym (little-past _ 4 _ c.if-bytes-place.true)

pub returns : goal.returns
returns c = rw (c.little16.ensures, c.little16-2.ensures) (sym (little-parts _ 2 2 _))
