-- The pairs of its four bytes are its eight digits.
use Rattle.std.proofs.Common.{replicate, ◌∙◌, arith}
use Rattle.octets.proofs.Overlay.{put-over, over-whole}
use Rattle.text.specs.Digits.{pairs_of}
use Rattle.text.proofs.Digits.{word-pairs, length_pairs}
use Rattle.text.proofs.hex8.Goals as goal

pub returns : goal.returns
returns c =
    let w = pairs_of c.to_be_bytes.result in
    put-over w (replicate 8 0) c.put_pairs.ensures (rw (c.to_be_bytes.ensures, length_pairs) (omega arith))
    ∙ over-whole w (replicate 8 0) (rw (c.to_be_bytes.ensures, length_pairs))
    ∙ rw c.to_be_bytes.ensures (word-pairs c.args.word)
