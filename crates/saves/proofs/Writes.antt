-- Every frame of a save means a write: a block of the EEPROM where it stood, or a word of the settings.
use Prim.Native.Nat.{ℕ, zero, suc, ◌+◌, ◌-◌, ◌*◌, ◌%◌, ◌^◌, ◌≤◌, ◌<◌, min}
use mathlib.Core.Path.{◌≡◌, refl, sym, ◌∙◌}
use mathlib.Core.List.{List, [], ◌∷◌, ◌++◌, append-nil}
use native.Mathlib.Nat.{mod-eq_of_lt}
use native.Mathlib.Omega.{arith}
use lib.ListN.{length, take, drop, length-take, length-drop}
use Rattle.octets.specs.Outcome.{Outcome, accepted, refused, and_then}
use Rattle.octets.specs.Number.{at, big_at, little_at, big_bytes, little_bytes}
use Rattle.octets.proofs.Choosing.{below, above, same, other}
use Rattle.octets.proofs.InBytes.{little-behind, little-back}
use Rattle.packet.specs.Frame.{frame_of}
use Rattle.packet.proofs.Inverse.{exact-of-frame, packet-of-frame}
use Rattle.fields.specs.Addr.{addr_at}
use Rattle.processor.specs.Memory.{Memory, Store, to_eeprom, to_settings}
use Rattle.saves.specs.Save.{memory_packet, word_packet, blocks}
use Rattle.streams.specs.Means.{packet_means, frame_means, all_mean}
use Rattle.saves.specs.Writes.{Words, each, frames_for, block_store, word_store, writes_for}
use Rattle.saves.proofs.Saved.{memory-packet, word-packet}

-- ---- the two packets of a save
three_back : (n : ℕ) (t : List ℕ) → n < 2 ^ 24 → big_at 3 (0x13 ∷ (big_bytes 3 n ++ t)) 1 ≡ n
unfolding big_at big_bytes
three_back n t h = omega arith

four-back : (n w : ℕ) → w < 2 ^ 32 → little_at 4 (0x13 ∷ (big_bytes 3 n ++ little_bytes 4 w)) 4 ≡ w
unfolding big_bytes
four-back n w h = little-behind (0x13 ∷ big_bytes 3 n) (little_bytes 4 w) 4 0 ∙ rw append-nil at (little-back 4 w []) ∙ mod-eq_of_lt h

module _ (e s : ℕ) where
  bytes-mean : (a : ℕ) (b : List ℕ) → a < 65536 → a + length b ≤ e → packet_means e s (0x04 ∷ (big_bytes 2 a ++ b)) ≡ accepted (to_eeprom a b)
  unfolding packet_means big_at big_bytes
  bytes-mean a b h g =
      let p : List ℕ = 0x04 ∷ (big_bytes 2 a ++ b) in
      let to : big_at 2 p 1 ≡ a = omega arith in
      sym (above _ _ _ _ _ (omega arith) (same _ _ _ _ _ refl (above _ _ _ _ _ (omega arith) (above _ _ _ _ _ (omega arith) (rw to)))))

  word-means : (a w : ℕ) → a < 65536 → a < s → w < 2 ^ 32 → packet_means e s (0x13 ∷ (big_bytes 3 (a % 2 ^ 23 + 2 ^ 23) ++ little_bytes 4 w)) ≡ accepted (to_settings a w)
  unfolding packet_means addr_at big_bytes little_bytes
  word-means a w h g i =
      let p : List ℕ = 0x13 ∷ (big_bytes 3 (a % 2 ^ 23 + 2 ^ 23) ++ little_bytes 4 w) in
      let to : (addr_at 3 p 1).val ≡ a = rw (three_back (a % 2 ^ 23 + 2 ^ 23) (little_bytes 4 w) (omega arith)) (omega arith) in
      let value : little_at 4 p 4 ≡ w = four-back (a % 2 ^ 23 + 2 ^ 23) w i in
      sym (above _ _ _ _ _ (omega arith) (other _ _ _ _ _ (λ q. omega arith) (same _ _ _ _ _ refl (above _ _ _ _ _ (omega arith) (same _ _ _ _ _ refl (below _ _ _ _ _ (omega arith) (rw (to, value))))))))

  frame-means : (p : List ℕ) → frame_means e s (frame_of p) ≡ packet_means e s p
  unfolding frame_means
  frame-means p = rw (exact-of-frame p, packet-of-frame p)

  -- ---- one frame behind the other
  all_append : (a b : List (List ℕ)) → all_mean e s (a ++ b) ≡ and_then (all_mean e s a) (λ (x : List Store). and_then (all_mean e s b) (λ (y : List Store). accepted (x ++ y)))
  all_append [] b = whole (all_mean e s b)
    where
      whole : (o : Outcome (List Store)) → o ≡ and_then o (λ (y : List Store). accepted y)
      whole (accepted x) = refl
      whole (refused k) = refl
  all_append (f ∷ a) b = rw (all_append a b) (turned (frame_means e s f) (all_mean e s a) (all_mean e s b))
    where
      turned : (f : Outcome Store) (a b : Outcome (List Store)) → and_then f (λ (w : Store). and_then (and_then a (λ (x : List Store). and_then b (λ (y : List Store). accepted (x ++ y)))) (λ (ws : List Store). accepted (w ∷ ws))) ≡ and_then (and_then f (λ (w : Store). and_then a (λ (ws : List Store). accepted (w ∷ ws)))) (λ (x : List Store). and_then b (λ (y : List Store). accepted (x ++ y)))
      turned (refused k) a b = refl
      turned (accepted w) (refused k) b = refl
      turned (accepted w) (accepted x) (refused k) = refl
      turned (accepted w) (accepted x) (accepted y) = refl

  all-each : (packet : ℕ → List ℕ) (write : ℕ → Store) (n : ℕ) → ((k : ℕ) → k < n → packet_means e s (packet k) ≡ accepted (write k)) → all_mean e s (each (λ k. frame_of (packet k)) n) ≡ accepted (each write n)
  unfolding each
  all-each packet write zero h = refl
  all-each packet write (suc n) h =
      all_append (each (λ k. frame_of (packet k)) n) (frame_of (packet n) ∷ []) ∙ rw (all-each packet write n (λ k l. h k (omega arith)), frame-means (packet n), h n (omega arith))

module _ (m : Memory) (few : length m.eeprom ≤ 65536) (words-few : length m.settings ≤ 65536) (words : Words m.settings) where
  abbrev e : ℕ
  e = length m.eeprom

  abbrev s : ℕ
  s = length m.settings

  block-means : (k : ℕ) → k < blocks e → packet_means e s (memory_packet m.eeprom k) ≡ accepted (block_store m.eeprom k)
  unfolding blocks
  block-means k h =
      let n : length (take 32 (drop (32 * k) m.eeprom)) ≡ min 32 (e - 32 * k) = rw (length-take, length-drop) in
      rw memory-packet (bytes-mean e s (32 * k) (take 32 (drop (32 * k) m.eeprom)) (omega arith) (omega arith))

  setting-means : (k : ℕ) → k < s → packet_means e s (word_packet m.settings k) ≡ accepted (word_store m.settings k)
  setting-means k h = rw word-packet (word-means e s k (at m.settings k) (omega arith) h (words k))

  pub saved-writes : all_mean e s (frames_for m) ≡ accepted (writes_for m)
  saved-writes =
      all_append e s (each (λ k. frame_of (memory_packet m.eeprom k)) (blocks e)) (each (λ k. frame_of (word_packet m.settings k)) s)
      ∙ rw (all-each e s (memory_packet m.eeprom) (block_store m.eeprom) (blocks e) block-means, all-each e s (word_packet m.settings) (word_store m.settings) s setting-means)
