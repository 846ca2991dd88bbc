-- What only private functions promise; a reader who believes only the public contracts can stop before this.
use Rattle.std.specs.Prelude.{ℕ, ◌+◌, List, [], ◌∷◌, ◌++◌, length}
use Rattle.octets.specs.Refusals.{empty, short, trailing}
use Rattle.octets.specs.Outcome.{Outcome, accepted, refused, on_accepted}
use Rattle.octets.specs.Choice.{if_lt, if_eq}
use Rattle.packet.specs.Receipt.{length_byte}
use Rattle.processor.specs.Memory.{Store}
use Rattle.streams.specs.Stream.{packet_in}
use Rattle.streams.specs.Means.{packet_means}

-- ---- judging, as judge.rt has it

-- that nothing is refused, and no more
abbrev pub no_fault : {A : Type 0} → Outcome A → Outcome Unit
no_fault = on_accepted (λ a. tt)

-- exact receipt without the checksum
abbrev pub receipt_of : List ℕ → Outcome Unit
receipt_of frame =
    if_eq (length_byte frame) 0 (refused empty)
    (if_lt (length frame) (length_byte frame + 1) (refused short)
    (if_lt (length_byte frame + 1) (length frame) (refused trailing) (accepted tt)))

-- ---- what frames write one by one, as they are stored and listed: a frame that means no write writes nothing

abbrev pub or_nothing : Outcome Store → List Store
or_nothing (accepted w) = w ∷ []
or_nothing (refused k) = []

abbrev pub frame_writes : ℕ → ℕ → List ℕ → List Store
frame_writes e s frame = or_nothing (packet_means e s (packet_in frame))

abbrev pub frames_write : ℕ → ℕ → List (List ℕ) → List Store
frames_write e s [] = []
frames_write e s (frame ∷ frames) = frame_writes e s frame ++ frames_write e s frames
