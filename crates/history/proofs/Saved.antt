-- Every frame of a save means a write by demand 2's definition: received and read as any frame, it names exactly one write, that of
-- its block or its word, whatever calls led to the save.
use Prim.Native.Nat.{ℕ, zero, suc, ◌+◌, ◌*◌, ◌%◌, ◌^◌, ◌≤◌}
use mathlib.Core.Path.{◌≡◌, ap, ◌∙◌}
use mathlib.Core.List.{List, [], ◌∷◌, ◌++◌}
use native.Mathlib.Omega.{arith}
use lib.Dec.{lit<}
use lib.ListN.{length, take, drop}
use lib.Seq.{drop_at}
use Rattle.octets.specs.Number.{at, Octets, big_bytes, little_bytes}
use Rattle.octets.specs.Place.{place_at, part_of}
use Rattle.octets.proofs.Bytes.{one_more, both-octets, big-octets, little-octets, part-octets}
use Rattle.packet.specs.Frame.{frame_of}
use Rattle.processor.specs.Memory.{Memory}
use Rattle.saves.specs.Save.{memory_packet, word_packet, blocks, shape_field, fields_for, save_of}
use Rattle.streams.specs.Stream.{Stream, stream_of}
use Rattle.saves.specs.Writes.{Words, each, frames_for, writes_for}
use Rattle.saves.proofs.Saved.{memory-packet, length-memory-packet, word-packet, length-word-packet, length-shape}
use Rattle.saves.proofs.Fields.{save-stream}
use Rattle.saves.proofs.Writes.{saved-writes}
use Rattle.history.specs.History.{Call, history, AllOctets, frames_in, EachNames}
use Rattle.history.specs.Restores.{Sized}
use Rattle.history.proofs.Octets.{frame-octets}
use Rattle.history.proofs.Replays.{frames-names}
use Rattle.history.proofs.History.{lengths-kept}
use Rattle.history.proofs.Kept.{octets-kept, words-kept}

all_both : (a b : List (List ℕ)) → AllOctets a → AllOctets b → AllOctets (a ++ b)
all_both [] b x y = y
all_both (f ∷ a) b x y = (x.0, all_both a b x.1 y)

all-each : (packet : ℕ → List ℕ) (n : ℕ) → ((k : ℕ) → length (packet k) ≤ 254) → ((k : ℕ) → Octets (packet k)) → AllOctets (each (λ k. frame_of (packet k)) n)
unfolding each
all-each packet zero short octets = tt
all-each packet (suc n) short octets = all_both (each (λ k. frame_of (packet k)) n) (frame_of (packet n) ∷ []) (all-each packet n short octets) (frame-octets (packet n) (short n) (octets n), tt)

module _ (m : Memory) (octets : Octets m.eeprom) where
  abbrev block : ℕ → List ℕ
  block k = take 32 (drop (32 * k) m.eeprom)

  block-octets : (k : ℕ) → Octets (block k)
  unfolding part_of
  block-octets k = part-octets m.eeprom (place_at (32 * k) 32) octets

  memory-octets : (k : ℕ) → Octets (memory_packet m.eeprom k)
  memory-octets k = rw memory-packet (one_more 0x04 (big_bytes 2 (32 * k) ++ block k) (lit< tt) (both-octets (big_bytes 2 (32 * k)) (block k) (big-octets 2 (32 * k)) (block-octets k)))

  word-octets : (k : ℕ) → Octets (word_packet m.settings k)
  word-octets k =
      let address = big_bytes 3 (k % 2 ^ 23 + 2 ^ 23) in
      let value = little_bytes 4 (at m.settings k) in
      rw word-packet (one_more 0x13 (address ++ value) (lit< tt) (both-octets address value (big-octets 3 (k % 2 ^ 23 + 2 ^ 23)) (little-octets 4 (at m.settings k))))

  all-frames : AllOctets (frames_for m)
  all-frames =
      let e = length m.eeprom in
      let s = length m.settings in
      all_both (each (λ k. frame_of (memory_packet m.eeprom k)) (blocks e)) (each (λ k. frame_of (word_packet m.settings k)) s)
      (all-each (memory_packet m.eeprom) (blocks e) (λ k. omega (arith, length-memory-packet m.eeprom k)) memory-octets)
      (all-each (word_packet m.settings) s (λ k. omega (arith, length-word-packet m.settings k)) word-octets)

  -- the save's own bytes
  save-frames : frames_in (save_of m) ≡ frames_for m
  unfolding save_of
  save-frames =
      let e = length m.eeprom in
      let s = length m.settings in
      ap (λ (l : List ℕ). (stream_of l).frames) (drop_at (shape_field e s) (fields_for m) 11 (length-shape e s)) ∙ ap (λ (x : Stream). x.frames) (save-stream m)

  pub saved-named : Sized m → Words m.settings → EachNames (frames_in (save_of m)) (writes_for m)
  saved-named fits words = rw save-frames (frames-names _ _ (frames_for m) all-frames (writes_for m) (saved-writes m fits.0 fits.1 words)).0

-- so every frame of the save that a history ends with
pub history_named : (cs : List Call) (m : Memory) → Sized m → Octets m.eeprom → Words m.settings → let after = history cs m in EachNames (frames_in (save_of after)) (writes_for after)
history_named cs m fits octets words =
    let kept = lengths-kept cs m in
    saved-named (history cs m) (octets-kept cs m octets) (rw (kept.0, kept.1) fits) (words-kept cs m words)
