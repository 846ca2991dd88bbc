-- The number is its two halves, one behind the other.
use mathlib.Core.Path.{sym}
use Rattle.octets.proofs.InBytes.{big-past, big-parts}
use Rattle.octets.proofs.number.big32.Goals as goal

pub returns-then-bytes-place : goal.returns-then-bytes-place
returns-then-bytes-place c = sym (big-past _ 4 _ c.if-bytes-place.true)

pub returns : goal.returns
returns c = rw (c.big16.ensures, c.big16-2.ensures) (sym (big-parts _ 2 2 _))
