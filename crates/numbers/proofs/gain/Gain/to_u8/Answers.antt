-- The byte of the float's pattern.
use Rattle.numbers.proofs.gain.Gain.to_u8.Goals as goal

pub returns : goal.returns
returns c = rw (c.gain_byte.ensures, c.to_bits.ensures)
