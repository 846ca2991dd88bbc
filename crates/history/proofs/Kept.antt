-- The bytes of the EEPROM stay bytes, and the words of the settings words, in every history.
use mathlib.Core.Path.{sym, subst}
use mathlib.Core.List.{List, [], ◌∷◌}
use lib.ListN.{length}
use Rattle.octets.specs.Outcome.{Outcome, accepted, refused}
use Rattle.octets.specs.Number.{Octets}
use Rattle.processor.specs.Memory.{Memory, Store, store}
use Rattle.saves.specs.Writes.{Words}
use Rattle.history.specs.History.{Call, answer, step, named, if_accepted, named_if_accepted, history}
use Rattle.history.proofs.History.{right}
use Rattle.history.proofs.Fits.{AllFit, stored-octets, stored-words}
use Rattle.history.proofs.Values.{named-fit}

accepted-fit : (c : Call) (m : Memory) → AllFit (named_if_accepted c m)
accepted-fit c m = go (answer c m)
  where
    go : (o : Outcome Unit) → AllFit (if_accepted o (named (length m.eeprom) (length m.settings) c))
    go (accepted u) = named-fit _ _ c
    go (refused k) = tt

-- what such writes keep, a history keeps
kept : (P : Memory → Type 0) → ((ws : List Store) (m : Memory) → AllFit ws → P m → P (store ws m)) → (cs : List Call) (m : Memory) → P m → P (history cs m)
kept P stored [] m h = h
kept P stored (c ∷ cs) m h = kept P stored cs (step c m) (subst P (sym (right c m).0) (stored (named_if_accepted c m) m (accepted-fit c m) h))

pub octets-kept : (cs : List Call) (m : Memory) → Octets m.eeprom → Octets (history cs m).eeprom
octets-kept = kept (λ m. Octets m.eeprom) stored-octets

pub words-kept : (cs : List Call) (m : Memory) → Words m.settings → Words (history cs m).settings
words-kept = kept (λ m. Words m.settings) stored-words
