-- What a frame of a save means: a write, or a refusal. e and s are the sizes of the memories.
use Rattle.std.specs.Prelude.{ℕ, ◌+◌, ◌-◌, List, [], ◌∷◌, length, drop}
use Rattle.octets.specs.Refusals.{ends, outside, wrong_field}
use Rattle.octets.specs.Outcome.{Outcome, accepted, refused, and_then}
use Rattle.octets.specs.Choice.{if_lt, if_eq}
use Rattle.octets.specs.Number.{at, big_at, little_at}
use Rattle.octets.specs.Place.{part_of}
use Rattle.octets.specs.Reading.{rest}
use Rattle.octets.specs.declared.Place.{Place}
use Rattle.packet.specs.Receipt.{exact_of}
use Rattle.fields.specs.Addr.{addr_at}
use Rattle.commands.specs.Decode.{r}
use Rattle.processor.specs.Memory.{Store, to_eeprom, to_settings}
use Rattle.processor.specs.declared.change.Change.{Change}
use Rattle.processor.specs.declared.change.Change.TheVariants.{EepromBytes, SettingsWord}

-- 7 where the end is beyond E
abbrev pub memory_means : ℕ → List ℕ → Outcome Store
memory_means e p = if_lt e (big_at 2 p 1 + (length p - 3)) (refused outside) (accepted (to_eeprom (big_at 2 p 1) (drop 3 p)))

-- 7 beyond S
abbrev pub word_means : ℕ → List ℕ → Outcome Store
word_means s p = if_lt (addr_at 3 p 1).val s (accepted (to_settings (addr_at 3 p 1).val (little_at 4 p 4))) (refused outside)

-- "3 for an empty packet, or 04 or 13 with r under 2; any other command, or Write with r not 7: 13; 7"
unfoldable pub packet_means : ℕ → ℕ → List ℕ → Outcome Store
packet_means e s p =
    if_lt (length p) 1 (refused ends)
    (if_eq (at p 0) 0x04 (if_lt (r p) 2 (refused ends) (memory_means e p))
    (if_eq (at p 0) 0x13 (if_lt (r p) 2 (refused ends) (if_eq (r p) 7 (word_means s p) (refused wrong_field))) (refused wrong_field)))

-- "frame by strict receipt", which inside a save stays the exact one
unfoldable pub frame_means : ℕ → ℕ → List ℕ → Outcome Store
frame_means e s frame = and_then (exact_of frame) (λ (place : Place). packet_means e s (part_of frame place))

-- "the first fault going forward"
abbrev pub all_mean : ℕ → ℕ → List (List ℕ) → Outcome (List Store)
all_mean e s [] = accepted []
all_mean e s (frame ∷ frames) = and_then (frame_means e s frame) (λ w. and_then (all_mean e s frames) (λ ws. accepted (w ∷ ws)))

-- ---- as means.rt answers it

-- the change that a write of the packet p is: its bytes stand behind the first three
abbrev pub in_packet : List ℕ → Store → Change
in_packet p (to_eeprom a b) = EepromBytes a (rest 3 p)
in_packet p (to_settings a w) = SettingsWord a w
