-- A field in front of other bytes is read as it was written; so a save is read as its frames, in order, and its end.
use Prim.Native.Nat.{ℕ, zero, suc, ◌+◌, ◌≤◌, ◌<◌}
use mathlib.Core.Path.{◌≡◌, refl, sym, ap, ◌∙◌}
use mathlib.Core.List.{List, [], ◌∷◌, ◌++◌, append_assoc, append-nil}
use native.Mathlib.Omega.{arith}
use lib.ListN.{length, length-append}
use lib.Seq.{drop_at}
use Rattle.octets.specs.Number.{big_at, big_bytes}
use Rattle.octets.proofs.Choosing.{above}
use Rattle.octets.proofs.InBytes.{length-big}
use Rattle.octets.proofs.Parts.{part-between}
use Rattle.packet.specs.Frame.{frame_of}
use Rattle.packet.proofs.Frames.{length-frame}
use Rattle.processor.specs.Memory.{Memory}
use Rattle.saves.specs.Save.{save_field, frame_field, memory_packet, word_packet, rising, end_field, blocks, fields_for}
use Rattle.streams.specs.Stream.{length_of, content_of, behind, tag_of, stream, with_frame, stream_of}
use Rattle.saves.specs.Writes.{each, frames_for}
use Rattle.streams.proofs.Streams.{stream-frame, stream_end}
use Rattle.saves.proofs.Saved.{length-memory-packet, length-word-packet, length-field}

-- its length is written in two bytes
module _ (tag : ℕ) (content l : List ℕ) (fits : length content < 65536) where
  abbrev head : List ℕ
  head = tag ∷ big_bytes 2 (length content)

  head-length : 3 ≡ length head
  head-length = ap suc (sym (length-big 2 (length content)))

  parts : save_field tag content ++ l ≡ head ++ (content ++ l)
  unfolding save_field
  parts = ap (λ (t : List ℕ). tag ∷ t) (append_assoc (big_bytes 2 (length content)) content l)

  pub field-length : length_of (save_field tag content ++ l) ≡ length content
  unfolding save_field big_at big_bytes
  field-length = omega arith

  pub field-content : content_of (save_field tag content ++ l) ≡ content
  unfolding content_of
  field-content = rw (field-length, parts) (part-between head content l 3 (length content) head-length refl)

  pub field-behind : behind (save_field tag content ++ l) ≡ l
  unfolding behind
  field-behind = rw (field-length, parts, ← append_assoc) (drop_at (head ++ content) l (3 + length content) (rw (length-append, ← head-length)))

  pub field-tag : tag_of (save_field tag content ++ l) ≡ tag
  unfolding tag_of save_field
  field-tag =
      let n : length (save_field tag content ++ l) ≡ 3 + length content + length l = rw (length-append, length-field) in
      sym (above _ _ _ _ _ (omega arith) (above _ _ _ _ _ (omega (arith, field-length)) refl))

pub stream-field : (p l : List ℕ) → length p ≤ 254 → stream_of (frame_field p ++ l) ≡ with_frame (frame_of p) (stream_of l)
unfolding frame_field
stream-field p l h =
    let fits : length (frame_of p) < 65536 = omega (arith, length-frame p) in
    let f = save_field 0x10 (frame_of p) ++ l in
    stream-frame f (field-tag 0x10 (frame_of p) l fits) ∙ rw (field-content 0x10 (frame_of p) l fits, field-behind 0x10 (frame_of p) l fits)

-- so many frames, and what is read behind them
stream-rising : (packet : ℕ → List ℕ) → ((k : ℕ) → length (packet k) ≤ 254) → (k : ℕ) (l : List ℕ)
    → stream_of (rising packet k ++ l) ≡ stream (each (λ i. frame_of (packet i)) k ++ (stream_of l).frames) (stream_of l).tail
unfolding rising each
stream-rising packet h zero l = refl
stream-rising packet h (suc k) l =
    rw (append_assoc, append_assoc) (stream-rising packet h k (frame_field (packet k) ++ l) ∙ rw (stream-field (packet k) l (h k)))

end-stream : (n : ℕ) → stream_of (end_field n) ≡ stream [] (end_field n)
unfolding end_field
end-stream n =
    let fits : length (big_bytes 4 n) < 65536 = omega (arith, length-big 4 n) in
    let tag : tag_of (save_field 0x7F (big_bytes 4 n)) ≡ 0x7F = rw append-nil at (field-tag 0x7F (big_bytes 4 n) [] fits) in
    stream_end (save_field 0x7F (big_bytes 4 n)) (λ h. omega arith)

-- the frames of the EEPROM's blocks, those of the words, and the last field
pub save-stream : (m : Memory) → stream_of (fields_for m) ≡ stream (frames_for m) (end_field (blocks (length m.eeprom) + length m.settings))
unfolding fields_for
save-stream m =
    let e = length m.eeprom in
    let s = length m.settings in
    let last = end_field (blocks e + s) in
    stream-rising (memory_packet m.eeprom) (λ k. omega (arith, length-memory-packet m.eeprom k)) (blocks e) (rising (word_packet m.settings) s ++ last)
    ∙ rw (stream-rising (word_packet m.settings) (λ k. omega (arith, length-word-packet m.settings k)) s last, end-stream (blocks e + s), append-nil)
