-- The low digits stand at the front, before zeros.
use Rattle.std.proofs.Common.{◌≡◌, ◌-◌, ◌/◌, ◌^◌, ◌++◌, replicate}
use Rattle.octets.specs.Number.{little_bytes}
use Rattle.octets.proofs.number.little_bytes.Given as goal

abbrev pub invariant-loop-byte : goal.invariant-loop-byte
invariant-loop-byte g l = (l.byte-items ≡ little_bytes l.byte-index l.n ++ replicate (l.byte-index-end - l.byte-index) 0) × (l.rest ≡ l.n / 256 ^ l.byte-index)
