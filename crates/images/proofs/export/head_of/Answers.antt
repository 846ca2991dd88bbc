-- The address bytes are those of a big-endian number.
use Rattle.std.proofs.Common.{div-one}
use Rattle.octets.specs.Number.{big_bytes}
use Rattle.images.proofs.export.head_of.Goals as goal

pub returns : goal.returns
unfolding big_bytes
returns c = rw (c.to_be_bytes.ensures, div-one c.args.start)
