-- A listing is at most twice as long as its save, so that 65,536 bytes are room for every text.
use Prim.Native.Nat.{ℕ, zero, suc, ◌+◌, ◌-◌, ◌*◌, ◌≤◌, ◌<◌}
use mathlib.Core.Path.{◌≡◌, sym, ◌∙◌}
use mathlib.Core.Logic.{◌⊎◌, inl, inr}
use mathlib.Core.List.{List, [], ◌∷◌}
use native.Mathlib.Decide.{ℕ_discrete}
use native.Mathlib.Omega.{arith}
use lib.ListN.{length, drop, length-append, length-drop}
use Rattle.octets.specs.Outcome.{Outcome, accepted, and_then}
use Rattle.octets.specs.Number.{at, big_at, little_at}
use Rattle.octets.specs.Place.{place_at}
use Rattle.octets.proofs.Choosing.{either_lt, either-eq, lt-or-le, was-above, was-other, was-same, refused-accepted}
use Rattle.octets.proofs.Outcomes.{then-both, same-value}
use Rattle.octets.proofs.Parts.{length_part}
use Rattle.packet.specs.Receipt.{length_byte}
use Rattle.fields.specs.Addr.{addr_at}
use Rattle.processor.specs.Memory.{Store, to_eeprom, to_settings}
use Rattle.streams.specs.Stream.{length_of, content_of, behind, tag_of, stream_of, end_of, packet_in}
use Rattle.streams.specs.Means.{packet_means, memory_means, word_means, frame_means, all_mean}
use Rattle.streams.specs.Inside.{receipt_of}
use Rattle.streams.specs.Judge.{Save, judged_of}
use Rattle.text.specs.Digits.{decimal}
use Rattle.text.proofs.Digits.{decimal-short, length-hex}
use Rattle.listed.specs.Listing.{pair_line, setting_line, end_line, write_line, write_lines, text_for, text_of}
use Rattle.streams.proofs.Streams.{tag-whole, length-behind, behind-shorter, stream-frame, stream_end}
use Rattle.streams.proofs.Judging.{summed, frame_is, as_long}
use Rattle.processor.proofs.Stores.{right-sizes}
use Rattle.streams.proofs.Sound.{own}

-- ---- lines
length-pair : (name : List ℕ) (a b : ℕ) → length (pair_line name a b) ≡ length name + length (decimal a) + length (decimal b) + 2
unfolding pair_line
length-pair name a b = simp length-append (omega arith)

length-setting : (a w : ℕ) → length (setting_line a w) ≡ 18 + length (decimal a)
unfolding setting_line
length-setting a w = simp (length-append, length-hex) (omega arith)

length-end : (n : ℕ) → length (end_line n) ≡ 5 + length (decimal n)
unfolding end_line
length-end n = simp length-append (omega arith)

five : (n : ℕ) → n ≤ 65536 → length (decimal n) ≤ 5
five n h = decimal-short 4 n (omega arith)

-- one digit, or as many as a number takes that is not small
short : (n : ℕ) → n ≤ 65536 → length (decimal n) ≤ 2 + 2 * n
short n h = go (lt-or-le n 10)
  where
    go : (n < 10) ⊎ (10 ≤ n) → length (decimal n) ≤ 2 + 2 * n
    go (inl g) = let one = decimal-short 0 n (omega arith) in omega arith
    go (inr g) = let most = five n h in omega arith

-- ---- one frame
-- the line of what is meant has room in so many bytes twice
abbrev Fits : Store → ℕ → Outcome Store → Type 0
Fits w n o = o ≡ accepted w → length (write_line w) ≤ 2 * n

module _ (e s : ℕ) (eh : e ≤ 65536) (sh : s ≤ 65536) (w : Store) where
  memory-fits : (p : List ℕ) → 3 ≤ length p → Fits w (5 + length p) (memory_means e p)
  memory-fits p long h =
      let m = was-above _ _ _ _ h in
      let a = five (big_at 2 p 1) (omega (arith, m.0)) in
      let n = short (length p - 3) (omega (arith, m.0)) in
      rw (← same-value m.1, length-pair, length-drop) (omega arith)

  word_fits : (p : List ℕ) → length p ≡ 8 → Fits w (5 + length p) (word_means s p)
  word_fits p long = either_lt (Fits w (5 + length p)) (addr_at 3 p 1).val s _ _ inside (λ g h. absurd (refused-accepted h))
    where
      inside : (addr_at 3 p 1).val < s → Fits w (5 + length p) (accepted (to_settings (addr_at 3 p 1).val (little_at 4 p 4)))
      inside g h = let a = five (addr_at 3 p 1).val (omega arith) in rw (← same-value h, length-setting) (omega arith)

  packet-fits : (p : List ℕ) → Fits w (5 + length p) (packet_means e s p)
  unfolding packet_means
  packet-fits p h =
      either-eq (Fits w (5 + length p)) (at p 0) 0x04 _ _
      (λ g k. let m = was-above _ _ _ _ k in memory-fits p (omega (arith, m.0)) m.1)
      (λ g k.
      let a = was-same _ _ _ _ k in
      let b = was-above _ _ _ _ a.1 in
      let m = was-same _ _ _ _ b.1 in word_fits p (omega (arith, m.0)) m.1)
      (was-above _ _ _ _ h).1

  frame-fits : (f : List ℕ) → Fits w (3 + length f) (frame_means e s f)
  frame-fits f h =
      let t = then-both (receipt_of f) (λ u. summed f (packet_means e s (packet_in f))) (sym (frame_is f e s) ∙ h) in
      let long = as_long f (sym t.first) in
      let some : length_byte f ≡ 0 → ⊥ = (was-other _ _ _ _ t.first).0 in
      let n = length_part f (place_at 1 (length_byte f - 1)) (omega arith) in
      let line = packet-fits (packet_in f) (was-same _ _ _ _ t.second).1 in omega arith

-- ---- all of them
length-content : (l : List ℕ) → 3 + length_of l ≤ length l → length (content_of l) ≡ length_of l
unfolding content_of
length-content l h = length_part l (place_at 3 (length_of l)) h

module _ (e s : ℕ) (eh : e ≤ 65536) (sh : s ≤ 65536) where
  abbrev LinesFit : List ℕ → List Store → Type 0
  LinesFit l ws = all_mean e s (stream_of l).frames ≡ accepted ws → length (write_lines ws) + 2 * length (stream_of l).tail ≤ 2 * length l

  none-fit : (l : List ℕ) (ws : List Store) → (tag_of l ≡ 0x10 → ⊥) → LinesFit l ws
  none-fit l ws g m = let none = rw (stream_end l g) at m in rw (stream_end l g, ← same-value none) (omega arith)

  -- a frame, and those behind it
  frame-first : (l : List ℕ) (ws : List Store) → ((vs : List Store) → LinesFit (behind l) vs) → tag_of l ≡ 0x10 → LinesFit l ws
  frame-first l ws behind-fits g m =
      let rest = (stream_of (behind l)).frames in
      let t = then-both (frame_means e s (content_of l)) (λ w. and_then (all_mean e s rest) (λ ws. accepted (w ∷ ws))) (rw (stream-frame l g) at m) in
      let u = then-both (all_mean e s rest) (λ ws. accepted (t.value ∷ ws)) t.second in
      let whole = tag-whole l g in
      let left = length-behind l in
      let content = length-content l whole in
      let first = frame-fits e s eh sh t.value (content_of l) t.first in
      let more = behind-fits u.value u.first in
      rw (stream-frame l g, ← same-value u.second, length-append) (omega arith)

  lines_fit : (n : ℕ) (l : List ℕ) (ws : List Store) → length l ≤ n → LinesFit l ws
  lines_fit zero l ws h = none-fit l ws (λ g. omega (arith, tag-whole l g))
  lines_fit (suc n) l ws h = go (ℕ_discrete (tag_of l) 0x10) (λ g vs. lines_fit n (behind l) vs (omega (arith, behind-shorter l g)))
    where
      go : Dec (tag_of l ≡ 0x10) → (tag_of l ≡ 0x10 → (vs : List Store) → LinesFit (behind l) vs) → LinesFit l ws
      go (no g) more = none-fit l ws g
      go (yes g) more = frame-first l ws (more g) g

-- ---- the save
no_more : (ws : List Store) → length ws ≤ length (write_lines ws)
no_more [] = omega arith
no_more (to_eeprom a b ∷ ws) = rw (length-append, length-pair) (omega (arith, no_more ws))
no_more (to_settings a v ∷ ws) = rw (length-append, length-setting) (omega (arith, no_more ws))

length_last : (n : ℕ) (l : List ℕ) → end_of n l ≡ accepted tt → length l ≡ 7
unfolding end_of
length_last n l h = (was-same _ _ _ _ h).0

pub text-fits : (l : List ℕ) (save : Save) → length l ≤ 32768 → judged_of l ≡ accepted save → length (text_of save) ≤ 65536
unfolding text_for
text-fits l save h j =
    let o = own l j in
    let e = save.shape.eeprom in
    let s = save.shape.settings in
    let sizes = right-sizes e s o.sized in
    let lines = lines_fit e s sizes.0 sizes.1 (length (drop 11 l)) (drop 11 l) save.writes (omega arith) o.means in
    let last = length_last _ _ o.ended in
    let behind-shape = length-drop 11 l in
    let few = no_more save.writes in
    let count = five (length save.writes) (omega arith) in
    rw (length-append, length-append, length-pair, length-end) (omega (arith, five e sizes.0, five s sizes.1))
