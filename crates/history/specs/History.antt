-- Histories of a processor, and what they leave at each place. Demand 3: after any run of calls, each byte and word of a processor
-- holds what the last accepted call naming it put there.
use Rattle.std.specs.Prelude.{ℕ, ◌-◌, ◌%◌, ◌^◌, ◌<◌, ◌≡◌, List, [], ◌∷◌, ◌++◌, length, drop, replicate}
use Rattle.std.proofs.Math.Option.{Option, none, some}
use Rattle.octets.specs.Outcome.{Outcome, accepted, refused, on_accepted, and_then}
use Rattle.octets.specs.Number.{at, Octets, big_bytes}
use Rattle.octets.specs.Place.{part_of}
use Rattle.octets.specs.declared.Place.{Place}
use Rattle.packet.specs.Receipt.{plain_of}
use Rattle.commands.specs.Decode.{command_of}
use Rattle.commands.specs.declared.Commands.{Commands}
use Rattle.facts.specs.Eeprom.{at_serial, at_timestamp, at_timestamp2x4}
use Rattle.processor.specs.Memory.{Memory, memory, Store, to_eeprom}
use Rattle.device.specs.Names.{names}
use Rattle.processor.specs.Puts.{puts_byte, puts_word}
use Rattle.processor.specs.Calls.{write_u8, write_u16, write_u32, set_serial, set_timestamp}
use Rattle.processor.specs.Create.{bare_of, new_memory, new_of}
use Rattle.images.specs.Store.{stored_image}
use Rattle.device.specs.Execute.{received_into, executed_into, executed_record}
use Rattle.processor.specs.declared.Device.{Device}
use Rattle.saves.specs.Save.{saved_into}
use Rattle.streams.specs.Stream.{stream_of}
use Rattle.saves.specs.Replay.{replay_of}
use Rattle.saves.specs.Writes.{writes_for}
use Rattle.history.specs.Types.{OfTypes}

-- ---- the places in the two memories
pub data Location : Type 0 where
  in_eeprom : ℕ → Location
  in_settings : ℕ → Location

abbrev pub content : Memory → Location → ℕ
content m (in_eeprom i) = at m.eeprom i
content m (in_settings i) = at m.settings i

-- what a write puts at a place that it names
abbrev pub puts : Store → Location → Option ℕ
puts w (in_eeprom i) = puts_byte w i
puts w (in_settings i) = puts_word w i

-- ---- calls
-- One for each entry point that is lent a processor's memories, with all else that it is given, the device too where it takes one:
-- what is read as bytes is bytes, a number that is put is of its type, and the output may be any. A frame that is counted is a frame
-- that is received.
pub data Call : Type 0 where
  bare : Device → Call
  new : (made : Device) → made.dsp_version < 256 → List ℕ → Call
  receive : Device → (frame : List ℕ) → Octets frame → List ℕ → Call
  execute : Device → (c : Commands) → OfTypes c → (payload : List ℕ) → Octets payload → List ℕ → Call
  execute-into : Device → (c : Commands) → OfTypes c → (payload : List ℕ) → Octets payload → List ℕ → Call
  write-u8 : ℕ → (value : ℕ) → value < 2 ^ 8 → Call
  write-u16 : ℕ → (value : ℕ) → value < 2 ^ 16 → Call
  write-u32 : ℕ → (value : ℕ) → value < 2 ^ 32 → Call
  set-serial : (value : ℕ) → value < 2 ^ 32 → Call
  set-timestamp : (value : ℕ) → value < 2 ^ 32 → Call
  store-image : (image : List ℕ) → Octets image → Call
  replay : (l : List ℕ) → Octets l → Call
  save : List ℕ → Call

-- that nothing was refused, and the memories: all of an answer that the theorem asks for
abbrev pub on_both : {A : Type 0} → Outcome A × Memory × List ℕ → Outcome Unit × Memory
on_both left = (on_accepted (λ a. tt) left.0, left.1)

abbrev pub on_made : Outcome Device × Memory → Outcome Unit × Memory
on_made left = (on_accepted (λ d. tt) left.0, left.1)

abbrev pub on_eeprom : Memory → (List ℕ → Outcome Unit × List ℕ) → Outcome Unit × Memory
on_eeprom m call = let left = call m.eeprom in (left.0, memory left.1 m.settings)

-- what a call answers and leaves, by the functions that the contracts cite
abbrev pub leaves : Call → Memory → Outcome Unit × Memory
leaves (bare made) m = on_made (bare_of made m)
leaves (new made typed meters) m = on_made (new_of made meters m)
leaves (receive d frame octets out) m = on_both (received_into d frame m out)
leaves (execute d c typed p octets out) m = on_both (executed_record d c p m out)
leaves (execute-into d c typed p octets out) m = on_both (executed_into d c p m out)
leaves (write-u8 a value typed) m = on_eeprom m (write_u8 a value)
leaves (write-u16 a value typed) m = on_eeprom m (write_u16 a value)
leaves (write-u32 a value typed) m = on_eeprom m (write_u32 a value)
leaves (set-serial value typed) m = on_eeprom m (set_serial value)
leaves (set-timestamp value typed) m = on_eeprom m (set_timestamp value)
leaves (store-image image octets) m = on_eeprom m (stored_image image)
leaves (replay l octets) m = replay_of m l
leaves (save out) m = (on_accepted (λ n. tt) (saved_into m out).0, m)

abbrev pub answer : Call → Memory → Outcome Unit
answer c m = (leaves c m).0

abbrev pub step : Call → Memory → Memory
step c m = (leaves c m).1

-- ---- what a call names, by plain receipt, `command_of` and `names`: by what the call is given, and by no device
abbrev pub if_read : Outcome (List Store) → List Store
if_read (accepted ws) = ws
if_read (refused k) = []

abbrev pub frame_names : List ℕ → List Store
frame_names frame = if_read (and_then (plain_of frame) (λ (part : Place). on_accepted (names (part_of frame part)) (command_of (part_of frame part))))

abbrev pub frames_names : List (List ℕ) → List Store
frames_names [] = []
frames_names (frame ∷ frames) = frame_names frame ++ frames_names frames

-- the frames of a save, behind its first field
abbrev pub frames_in : List ℕ → List (List ℕ)
frames_in l = (stream_of (drop 11 l)).frames

-- memories of so many bytes and words, as `bare` leaves them
abbrev pub blank : ℕ → ℕ → Memory
blank e s = memory (replicate e 0xFF) (replicate s 0)

-- Those who make a device name every place of the memories that they are lent, e bytes and s words: they put there what it then
-- has, as a save of it does. No other call asks how large the memories are.
abbrev pub named : ℕ → ℕ → Call → List Store
named e s (bare made) = writes_for (blank e s)
named e s (new made typed meters) = writes_for (new_memory made.dsp_version meters (blank e s))
named e s (receive d frame octets out) = frame_names frame
named e s (execute d c typed p octets out) = names p c
named e s (execute-into d c typed p octets out) = names p c
-- "the serial, timestamp and write_eeprom calls name theirs"
named e s (write-u8 a value typed) = to_eeprom a (value ∷ []) ∷ []
named e s (write-u16 a value typed) = to_eeprom a (big_bytes 2 value) ∷ []
named e s (write-u32 a value typed) = to_eeprom a (big_bytes 4 value) ∷ []
named e s (set-serial value typed) = to_eeprom at_serial (big_bytes 4 (value - 900000)) ∷ []
named e s (set-timestamp value typed) = to_eeprom at_timestamp (big_bytes 4 value) ∷ to_eeprom at_timestamp2x4 (big_bytes 2 (value % 2 ^ 16)) ∷ []
-- "Storing the image in a processor is one more call, and it names all E bytes."
named e s (store-image image octets) = to_eeprom 0 image ∷ []
-- "in demand 3 each of its frames counts as one accepted call in turn"
named e s (replay l octets) = frames_names (frames_in l)
named e s (save out) = []

-- an accepted call's; a refused one names nothing
abbrev pub if_accepted : Outcome Unit → List Store → List Store
if_accepted (accepted u) ws = ws
if_accepted (refused k) ws = []

abbrev pub named_if_accepted : Call → Memory → List Store
named_if_accepted c m = if_accepted (answer c m) (named (length m.eeprom) (length m.settings) c)

-- ---- histories
abbrev pub history : List Call → Memory → Memory
history [] m = m
history (c ∷ cs) m = history cs (step c m)

-- the later of two
abbrev pub later : Option ℕ → Option ℕ → Option ℕ
later none before = before
later (some n) before = some n

-- what the last of some writes naming a place puts there
abbrev pub last_stored : List Store → Location → Option ℕ
last_stored [] place = none
last_stored (w ∷ ws) place = later (last_stored ws place) (puts w place)

-- what the last accepted call naming a place put there
abbrev pub last : List Call → Memory → Location → Option ℕ
last [] m place = none
last (c ∷ cs) m place = later (last cs (step c m) place) (last_stored (named_if_accepted c m) place)

-- ---- a save's frames as calls
abbrev pub AllOctets : List (List ℕ) → Type 0
AllOctets [] = Unit
AllOctets (frame ∷ frames) = Octets frame × AllOctets frames

-- received one after the other by this device, each with this output
abbrev pub in_turn : Device → (frames : List (List ℕ)) → AllOctets frames → List ℕ → List Call
in_turn d [] octets out = []
in_turn d (frame ∷ frames) octets out = receive d frame octets.0 out ∷ in_turn d frames octets.1 out

-- every call is accepted
abbrev pub AllAccepted : List Call → Memory → Type 0
AllAccepted [] m = Unit
AllAccepted (c ∷ cs) m = (answer c m ≡ accepted tt) × AllAccepted cs (step c m)

-- Every frame of a save means a write: each of these frames names exactly one, and these are they
abbrev pub EachNames : List (List ℕ) → List Store → Type 0
EachNames [] [] = Unit
EachNames [] (w ∷ ws) = ⊥
EachNames (frame ∷ frames) [] = ⊥
EachNames (frame ∷ frames) (w ∷ ws) = (frame_names frame ≡ w ∷ []) × EachNames frames ws
