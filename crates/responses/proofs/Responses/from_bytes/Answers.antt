-- The two tests, then the kind.
use Rattle.octets.proofs.Choosing.{tests}
use Rattle.responses.specs.Decode.{response_of}
use Rattle.responses.proofs.Responses.from_bytes.Goals as goal

pub returns : goal.returns
unfolding response_of
returns c = rw (c.response_by.ensures, c.byte.ensures) (search tests)
