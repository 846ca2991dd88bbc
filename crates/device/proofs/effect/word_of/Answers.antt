-- The bytes, in an array of four.
use Rattle.device.proofs.Words.{value-whole}
use borrow.Author.Rules.{rules}
use Rattle.device.proofs.effect.word_of.Goals as goal

pub returns : goal.returns
returns c =
    let a = c.args in
    let p = c.requires in
    rw (← value-whole a.value a.payload.now _ p.0 p.1 c.into_bytes.ensures) (search rules)
