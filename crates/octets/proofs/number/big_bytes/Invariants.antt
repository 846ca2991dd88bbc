-- The low digits stand at the end, behind zeros.
use Rattle.std.proofs.Common.{◌≡◌, ◌-◌, ◌/◌, ◌^◌, ◌++◌, replicate}
use Rattle.octets.specs.Number.{big_bytes}
use Rattle.octets.proofs.number.big_bytes.Given as goal

abbrev pub invariant-loop-i : goal.invariant-loop-i
invariant-loop-i g l = (l.bytes ≡ replicate (l.i-end - l.i) 0 ++ big_bytes l.i l.n) × (l.rest ≡ l.n / 256 ^ l.i)
