-- Laws of a save: what its packets are, how long its parts are, and that it is found where it was written.
use Prim.Native.Nat.{ℕ, zero, suc, ◌+◌, ◌-◌, ◌*◌, ◌/◌, ◌%◌, ◌^◌, ◌≤◌, ◌<◌, min}
use mathlib.Core.Path.{◌≡◌, refl, sym, ap, ◌∙◌}
use mathlib.Core.List.{List, ◌∷◌, ◌++◌, append_assoc, append-nil}
use native.Mathlib.Numerals.{add-one}
use native.Mathlib.Omega.{arith}
use lib.ListN.{length, take, drop, length-append, length-take, length-drop}
use lib.Seq.{take_all, take_at}
use Rattle.octets.specs.Number.{at, big_bytes, little_bytes}
use Rattle.octets.specs.Place.{place_at, part_of}
use Rattle.octets.specs.Outcome.{Outcome}
use Rattle.octets.specs.Over.{over, into}
use Rattle.octets.proofs.InBytes.{length-big, length-little}
use Rattle.octets.proofs.Overlay.{put-over, put_rest, over-rest, over-next}
use Rattle.octets.proofs.Parts.{part-short}
use Rattle.packet.proofs.Frames.{length-frame}
use Rattle.fields.specs.Addr.{addr_bytes}
use Rattle.fields.specs.Row.{packet_of}
use Rattle.processor.specs.Memory.{Memory}
use Rattle.saves.specs.Save.{save_field, shape_field, frame_field, block_at, memory_packet, word_packet, rising, end_field, blocks, fields_for, save_of, room}

-- ---- the packets
-- a place that runs to the end has all that is left
part_left : (l : List ℕ) (n : ℕ) → part_of l (place_at n (length l - n)) ≡ drop n l
unfolding part_of
part_left l n = take_all (length l - n) (drop n l) (omega (arith, length-drop n l))

part-whole : (l : List ℕ) (n : ℕ) → length l ≡ n → part_of l (place_at 0 n) ≡ l
unfolding part_of
part-whole l n e = take_all n l (omega arith)

module _ (eeprom : List ℕ) (k : ℕ) where
  pub block-bytes : part_of eeprom (block_at (length eeprom) k) ≡ take 32 (drop (32 * k) eeprom)
  block-bytes = part-short eeprom (place_at (32 * k) (length eeprom - 32 * k)) 32 ∙ ap (take 32) (part_left eeprom (32 * k))

  pub length-block : length (part_of eeprom (block_at (length eeprom) k)) ≡ min 32 (length eeprom - 32 * k)
  length-block = rw (block-bytes, length-take, length-drop)

  pub memory-bytes : memory_packet eeprom k ≡ 0x04 ∷ (big_bytes 2 (32 * k) ++ part_of eeprom (block_at (length eeprom) k))
  unfolding memory_packet packet_of
  memory-bytes = rw append-nil

  pub memory-packet : memory_packet eeprom k ≡ 0x04 ∷ (big_bytes 2 (32 * k) ++ take 32 (drop (32 * k) eeprom))
  memory-packet = rw (memory-bytes, block-bytes)

  pub length-memory-packet : length (memory_packet eeprom k) ≡ 3 + min 32 (length eeprom - 32 * k)
  length-memory-packet = rw (memory-packet, length-append, length-big, length-take, length-drop) (omega arith)

module _ (settings : List ℕ) (k : ℕ) where
  pub word-packet : word_packet settings k ≡ 0x13 ∷ (big_bytes 3 (k % 2 ^ 23 + 2 ^ 23) ++ little_bytes 4 (at settings k))
  unfolding word_packet packet_of addr_bytes
  word-packet = rw (append-nil, part-whole (little_bytes 4 (at settings k)) 4 (length-little 4 (at settings k)))

  pub length-word-packet : length (word_packet settings k) ≡ 8
  length-word-packet = rw (word-packet, length-append, length-big, length-little)

  -- an address below 65,536 takes two bytes behind the one with the extra bit
  pub word_bytes : k < 65536 → word_packet settings k ≡ 0x13 ∷ 0x80 ∷ (big_bytes 2 k ++ little_bytes 4 (at settings k))
  unfolding big_bytes
  word_bytes h =
      let n : ℕ = k % 2 ^ 23 + 2 ^ 23 in
      let first : n / 256 ^ 2 % 256 ≡ 0x80 = omega arith in
      let second : n / 256 ^ 1 % 256 ≡ k / 256 ^ 1 % 256 = omega arith in
      let third : n / 256 ^ 0 % 256 ≡ k / 256 ^ 0 % 256 = omega arith in
      word-packet ∙ rw (first, second, third)

-- ---- how long its parts are
pub length-field : (tag : ℕ) (content : List ℕ) → length (save_field tag content) ≡ 3 + length content
unfolding save_field
length-field tag content = rw (length-append, length-big) (omega arith)

pub length-shape : (e s : ℕ) → length (shape_field e s) ≡ 11
unfolding shape_field
length-shape e s = rw (length-field, length-append, length-big 4 e, length-big 4 s)

pub length-end : (n : ℕ) → length (end_field n) ≡ 7
unfolding end_field
length-end n = rw (length-field, length-big)

pub length-frame-field : (packet : List ℕ) → length (frame_field packet) ≡ length packet + 5
unfolding frame_field
length-frame-field packet = rw (length-field, length-frame) (omega arith)

-- one field more
pub length-rising : (packet : ℕ → List ℕ) (k : ℕ) → length (rising packet (suc k)) ≡ length (rising packet k) + (length (packet k) + 5)
unfolding rising
length-rising packet k = rw (length-append, length-frame-field)

pub length_none : (packet : ℕ → List ℕ) → length (rising packet 0) ≡ 0
unfolding rising
length_none packet = refl

pub length-blocks : (eeprom : List ℕ) (k : ℕ) → length (rising (memory_packet eeprom) k) ≡ 8 * k + min (32 * k) (length eeprom)
length-blocks eeprom zero = rw length_none (omega arith)
length-blocks eeprom (suc k) = omega (arith, length-rising (memory_packet eeprom) k, length-memory-packet eeprom k, length-blocks eeprom k)

pub length-words : (settings : List ℕ) (k : ℕ) → length (rising (word_packet settings) k) ≡ 13 * k
length-words settings zero = rw length_none (omega arith)
length-words settings (suc k) = omega (arith, length-rising (word_packet settings) k, length-word-packet settings k, length-words settings k)

-- the blocks have the whole EEPROM
pub blocks-whole : (eeprom : List ℕ) → length (rising (memory_packet eeprom) (blocks (length eeprom))) ≡ length eeprom + 8 * blocks (length eeprom)
unfolding blocks
blocks-whole eeprom = let e : ℕ = length eeprom in omega (arith, length-blocks eeprom ((e + 31) / 32))

module _ (m : Memory) where
  -- "Room: 18 + E + 8 times ceil(E/32) + 13S."
  pub length-save : length (save_of m) ≡ room (length m.eeprom) (length m.settings)
  unfolding save_of fields_for room
  length-save =
      rw (length-append, length-append, length-append, length-shape, blocks-whole m.eeprom, length-words m.settings (length m.settings), length-end) (omega arith)

  -- its four parts as they are put
  pub save-parts : let e = length m.eeprom in
      let s = length m.settings in
      ((shape_field e s ++ rising (memory_packet m.eeprom) (blocks e)) ++ rising (word_packet m.settings) s) ++ end_field (blocks e + s) ≡ save_of m
  unfolding save_of fields_for
  save-parts = rw (append_assoc, append_assoc)

  -- what was written stands in front
  pub in-front : (out : List ℕ) → take (length (save_of m)) (over (save_of m) out) ≡ save_of m
  unfolding over
  in-front out = take_at (save_of m) (drop (length (save_of m)) out) (length (save_of m)) refl

  -- the four parts, put one behind the other
  module _ (l : List ℕ) (enough : room (length m.eeprom) (length m.settings) ≤ length l) (words end : ℕ) (words-at : words ≡ 11 + length m.eeprom + 8 * blocks (length m.eeprom)) (end-at : end ≡ words + 13 * length m.settings) where
    abbrev e : ℕ
    e = length m.eeprom

    abbrev s : ℕ
    s = length m.settings

    abbrev bs : List ℕ
    bs = rising (memory_packet m.eeprom) (blocks e)

    abbrev ws : List ℕ
    ws = rising (word_packet m.settings) s

    abbrev behind : ℕ → List ℕ → List ℕ
    behind n o = take (length o - n) (drop n o)

    abbrev back_at : ℕ → List ℕ → List ℕ → List ℕ
    back_at n o y = take n o ++ (y ++ drop (length o - n) (drop n o))

    pub parts-put : (o y₁ y₂ y₃ : List ℕ) → o ≡ over (shape_field e s) l → y₁ ≡ over bs (behind 11 o) → y₂ ≡ over ws (behind words (back_at 11 o y₁))
        → y₃ ≡ over (end_field (blocks e + s)) (behind end (back_at words (back_at 11 o y₁) y₂)) → back_at end (back_at words (back_at 11 o y₁) y₂) y₃ ≡ over (save_of m) l
    unfolding room
    parts-put o y₁ y₂ y₃ first second third fourth =
        let long : length (shape_field e s ++ bs) ≡ words = rw (length-append, length-shape, blocks-whole m.eeprom) (omega arith) in
        let longer : length ((shape_field e s ++ bs) ++ ws) ≡ end = rw (length-append, long, length-words m.settings s) (omega arith) in
        let one = over-rest (shape_field e s) l first bs y₁ 11 second (sym (length-shape e s)) (omega (arith, blocks-whole m.eeprom)) in
        let two = over-rest (shape_field e s ++ bs) l one ws y₂ words third (sym long) (omega (arith, length-words m.settings s)) in
        over-rest ((shape_field e s ++ bs) ++ ws) l two (end_field (blocks e + s)) y₃ end fourth (sym longer) (omega (arith, length-end (blocks e + s)))
        ∙ ap (λ (w : List ℕ). over w l) save-parts

-- ---- a field as it is put: its head, then its content
pub field-parts : (tag n : ℕ) (content : List ℕ) → n ≡ length content → (tag ∷ big_bytes 2 n) ++ content ≡ save_field tag content
unfolding save_field
field-parts tag n content e = rw e

module _ (tag n : ℕ) (l : List ℕ) {r : Outcome ℕ} {h o : List ℕ} (is : h ≡ tag ∷ big_bytes 2 n) (put : (r, o) ≡ into h l) where
  pub head-put : 3 ≤ length l → o ≡ over (tag ∷ big_bytes 2 n) l
  head-put room = put-over (tag ∷ big_bytes 2 n) l (put ∙ ap (λ (w : List ℕ). into w l) is) (omega (arith, length-big 2 n))

  pub field_put : (content : List ℕ) {q : Outcome ℕ} {y : List ℕ} → (q, y) ≡ into content (take (length o - 3) (drop 3 o)) → n ≡ length content → 3 + n ≤ length l
      → take 3 o ++ (y ++ drop (length o - 3) (drop 3 o)) ≡ over (save_field tag content) l
  field_put content wrote e room =
      put_rest (tag ∷ big_bytes 2 n) l (head-put (omega arith)) content 3 wrote (omega (arith, length-big 2 n)) (omega arith) ∙ ap (λ (w : List ℕ). over w l) (field-parts tag n content e)

-- ---- fields of frames as they are put, one behind the other
pub rising_none : (packet : ℕ → List ℕ) (l : List ℕ) → l ≡ over (rising packet 0) l
unfolding rising over
rising_none packet l = refl

module _ (packet : ℕ → List ℕ) (k at : ℕ) (l : List ℕ) (is : at ≡ length (rising packet k)) (room : at + (length (packet k) + 5) ≤ length l) {o y : List ℕ} (wrote : o ≡ over (rising packet k) l) (put : y ≡ over (frame_field (packet k)) (take (length o - at) (drop at o))) where
  pub rising-next : (length (take at o ++ (y ++ drop (length o - at) (drop at o))) ≡ length l) × (take at o ++ (y ++ drop (length o - at) (drop at o)) ≡ over (rising packet (k + 1)) l)
  unfolding rising
  rising-next = over-next (rising packet k) l wrote (frame_field (packet k)) y (rising packet (k + 1)) at (ap (rising packet) (add-one k)) put is (omega (arith, length-frame-field (packet k)))
