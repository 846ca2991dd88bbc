-- Input sources and their numbers, by hardware id and dsp version, as the Rust has them. (source.rs)
use Rattle.std.specs.Prelude.{ℕ, ◌+◌, ◌-◌, List, [], ◌∷◌, ◌++◌, length, replicate}
use Rattle.octets.specs.Choice.{if_eq, if_in}
use Rattle.facts.specs.declared.source.Source.{Source}
use Rattle.facts.specs.declared.source.Source.TheVariants.{NotInstalled, Analog, Toslink, Spdif, Usb, Aesebu, Rca, Xlr, Lan, I2S, Bluetooth, Hdmi}
use Rattle.facts.specs.declared.source.Entry.{Entry}
use Rattle.facts.specs.declared.source.Mapping.{Mapping}

-- a source under its number
abbrev pub entry : Source → ℕ → Entry
entry source id = record { source = source; id = id }

-- "Gets the available input sources with their numerical mapping for a given device": the match of source.rs, an
-- entry a line
unfoldable pub mapping_of : ℕ → ℕ → List Entry
mapping_of hw dsp =
    if_in hw (2 ∷ 11 ∷ []) (entry Toslink 0 ∷ entry Spdif 1 ∷ [])
    (if_in hw (1 ∷ 4 ∷ 5 ∷ []) (entry Spdif 0 ∷ entry Toslink 1 ∷ entry Aesebu 2 ∷ [])
    (if_eq hw 10
    (if_in dsp (100 ∷ 101 ∷ [])
    (entry Analog 0 ∷ entry Toslink 1 ∷ entry Usb 2 ∷ [])
    (entry I2S 0 ∷ entry Toslink 1 ∷ entry Usb 2 ∷ []))
    (if_eq hw 14
    (entry Toslink 0 ∷ entry Spdif 1 ∷ entry Aesebu 2 ∷ entry Rca 3 ∷ entry Xlr 4 ∷ entry Usb 5 ∷ entry Lan 6 ∷ [])
    (if_in hw (17 ∷ 18 ∷ []) (entry Toslink 0 ∷ entry Spdif 1 ∷ entry Aesebu 2 ∷ entry Usb 3 ∷ entry Lan 4 ∷ [])
    (if_eq hw 27 (entry Analog 0 ∷ entry Toslink 1 ∷ entry Spdif 2 ∷ entry Usb 3 ∷ entry Bluetooth 4 ∷ [])
    (if_eq hw 32 (entry Analog 0 ∷ entry Toslink 1 ∷ entry Spdif 2 ∷ entry Usb 3 ∷ entry Hdmi 4 ∷ [])
    (entry NotInstalled 0 ∷ [])))))))

-- a list as the answer holds it: its entries first, and the same filler in each place that is left of seven
abbrev pub seven_of : List Entry → Mapping
seven_of entries = record { count = length entries; entries = entries ++ replicate (7 - length entries) (entry NotInstalled 0) }

-- sources under their numbers, one after the other from n on
abbrev pub numbered : ℕ → List Source → List Entry
numbered n [] = []
numbered n (s ∷ rest) = entry s n ∷ numbered (n + 1) rest

-- sources are told apart by a number for each
abbrev pub source_number : Source → ℕ
source_number NotInstalled = 0
source_number Analog = 1
source_number Toslink = 2
source_number Spdif = 3
source_number Usb = 4
source_number Aesebu = 5
source_number Rca = 6
source_number Xlr = 7
source_number Lan = 8
source_number I2S = 9
source_number Bluetooth = 10
source_number Hdmi = 11

-- what the first entry under a key holds, else none
unfoldable pub first_of : {A : Type 0} → (Entry → ℕ) → ℕ → (Entry → A) → A → List Entry → A
first_of key k value none [] = none
first_of key k value none (e ∷ es) = if_eq (key e) k (value e) (first_of key k value none es)

-- the source of the first entry with an id, else NotInstalled
abbrev pub from_id : ℕ → List Entry → Source
from_id id entries = first_of (λ e. e.id) id (λ e. e.source) NotInstalled entries

-- the id of the first entry with a source, else 0
abbrev pub to_id : Source → List Entry → ℕ
to_id source entries = first_of (λ e. source_number e.source) (source_number source) (λ e. e.id) 0 entries
