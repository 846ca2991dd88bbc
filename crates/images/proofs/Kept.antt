-- Demand 1: a refusal changes neither the image nor the EEPROM.
use Rattle.std.proofs.Common.{ℕ, List, length, refl}
use Rattle.octets.specs.Outcome.{Outcome, accepted, refused}
use Rattle.octets.proofs.Choosing.{either_lt, either-eq, accepted-refused}
use Rattle.processor.proofs.Refusals.{KeptAlone}
use Rattle.intel_hex.specs.Format.{HexRow}
use Rattle.images.specs.Import.{judged_for, filled, imported_into}
use Rattle.images.specs.Store.{stored_image}

pub imported-kept : (text image : List ℕ) → KeptAlone image (imported_into text image)
unfolding imported_into
imported-kept text image = go (judged_for (length image) text)
  where
    go : (o : Outcome (List HexRow)) → KeptAlone image (filled image o)
    go (accepted rows) = λ k g. absurd (accepted-refused g)
    go (refused j) = λ k g. refl

pub stored-kept : (image eeprom : List ℕ) → KeptAlone eeprom (stored_image image eeprom)
stored-kept image eeprom =
    either_lt (KeptAlone eeprom) _ _ _ _ (λ h k g. refl)
    (λ h. either-eq (KeptAlone eeprom) _ _ _ _ (λ j k g. absurd (accepted-refused g)) (λ j k g. refl))
