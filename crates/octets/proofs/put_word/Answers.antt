-- A store at the place, or none.
use mathlib.Core.List.{[], ◌∷◌}
use native.Mathlib.Omega.{arith}
use Rattle.octets.proofs.Overlay.{set_word, put-outside}
use Rattle.octets.proofs.put_word.Goals as goal

pub returns-then-place-memory : goal.returns-then-place-memory
returns-then-place-memory c = let a = c.args in set_word a.memory.now a.place a.word c.if-place-memory.true

pub returns-else-place-memory : goal.returns-else-place-memory
returns-else-place-memory c = let a = c.args in put-outside a.memory.now a.place (a.word ∷ []) (omega (arith, c.if-place-memory.false))
