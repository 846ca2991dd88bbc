-- Replaying a save. "Replay checks everything, then stores, in order".
use Rattle.std.specs.Prelude.{List, ℕ, length}
use Rattle.octets.specs.Outcome.{Outcome, accepted, refused}
use Rattle.processor.specs.Memory.{Memory, store}
use Rattle.streams.specs.Judge.{Save, checked_for}

abbrev pub storing : Memory → Outcome Save → Outcome Unit × Memory
storing m (accepted save) = (accepted tt, store save.writes m)
storing m (refused k) = (refused k, m)

unfoldable pub replay_of : Memory → List ℕ → Outcome Unit × Memory
replay_of m l = storing m (checked_for (length m.eeprom) (length m.settings) l)
