-- Each public function's contract fixes its answer and what it leaves.
use Rattle.std.specs.Prelude.{Result}
use Rattle.octets.specs.declared.refusal.Refusal.{Refusal}
use Prim.Native.Nat.{ℕ}
use mathlib.Core.Bool.{Bool}
use mathlib.Core.List.{List}
use Rattle.octets.specs.Outcome.{outcome}
use Rattle.octets.proofs.Agree.{Fixes, agree, both}
use Rattle.octets.proofs.Determined.{outcome_once}
use Rattle.processor.specs.Memory.{Memory, memory}
use Rattle.processor.proofs.too_large.Reads as too_large
use Rattle.processor.proofs.change.store.Reads as store
use Rattle.processor.proofs.create.bare.Reads as bare
use Rattle.processor.proofs.create.new.Reads as new
use Rattle.processor.proofs.eeprom.write_eeprom_u8.Reads as write-u8
use Rattle.processor.proofs.eeprom.write_eeprom_u16.Reads as write-u16
use Rattle.processor.proofs.eeprom.write_eeprom_u32.Reads as write-u32
use Rattle.processor.proofs.eeprom.set_serial.Reads as set-serial
use Rattle.processor.proofs.eeprom.set_timestamp.Reads as set-timestamp
use Rattle.processor.proofs.create.default.Reads as device-default
use Rattle.processor.specs.declared.Device.{Device}

pub too-large-fixed : Fixes Bool too_large.Post (λ κs answer left. answer)
too-large-fixed κs args a b x y p q = agree p q

pub bare-fixed : Fixes (Result Device Refusal × Memory) bare.Post (λ κs answer left. (answer, memory left.1.1.1.1.0.now left.1.1.1.1.1.0.now))
bare-fixed κs args a b x y p q = both outcome outcome_once (agree p q)

pub new-fixed : Fixes (Result Device Refusal × Memory) new.Post (λ κs answer left. (answer, memory left.1.1.1.1.1.0.now left.1.1.1.1.1.1.0.now))
new-fixed κs args a b x y p q = both outcome outcome_once (agree p q)

pub write-u8-fixed : Fixes (Result Unit Refusal × List ℕ) write-u8.Post (λ κs answer left. (answer, left.1.1.0.now))
write-u8-fixed κs args a b x y p q = both outcome outcome_once (agree p q)

pub write-u16-fixed : Fixes (Result Unit Refusal × List ℕ) write-u16.Post (λ κs answer left. (answer, left.1.1.0.now))
write-u16-fixed κs args a b x y p q = both outcome outcome_once (agree p q)

pub write-u32-fixed : Fixes (Result Unit Refusal × List ℕ) write-u32.Post (λ κs answer left. (answer, left.1.1.0.now))
write-u32-fixed κs args a b x y p q = both outcome outcome_once (agree p q)

pub set-serial-fixed : Fixes (Result Unit Refusal × List ℕ) set-serial.Post (λ κs answer left. (answer, left.1.0.now))
set-serial-fixed κs args a b x y p q = both outcome outcome_once (agree p q)

pub set-timestamp-fixed : Fixes (Result Unit Refusal × List ℕ) set-timestamp.Post (λ κs answer left. (answer, left.1.0.now))
set-timestamp-fixed κs args a b x y p q = both outcome outcome_once (agree p q)

pub store-fixed : Fixes Memory store.Post (λ κs answer left. memory left.1.1.0.now left.1.1.1.0.now)
store-fixed κs args a b x y p q = agree p q

pub device-default-fixed : Fixes Device device-default.Post (λ κs answer left. answer)
device-default-fixed κs args a b x y p q = agree p q
