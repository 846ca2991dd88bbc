-- The payload of an answer as it is put together.
use Prim.Native.Nat.{ℕ, zero, suc, ◌+◌, ◌-◌, ◌*◌, ◌≤◌, ◌<◌, min}
use mathlib.Core.Logic.{◌⊎◌, inl, inr}
use mathlib.Core.Path.{◌≡◌, refl, sym, ap, ◌∙◌}
use mathlib.Core.List.{List, [], ◌∷◌, ◌++◌, append_assoc, append-nil}
use native.Mathlib.Numerals.{add-one}
use native.Mathlib.Omega.{arith}
use lib.ListN.{length, take, drop, get_or, replicate, length-append, length-take, length-drop, length-replicate, drop_of_length-le}
use lib.Seq.{take_all, take_at, take-nil, drop_at, drop-drop}
use Rattle.std.proofs.lemmas.List.{take-replicate}
use Rattle.octets.proofs.Choosing.{lt-or-le}
use Rattle.octets.specs.Number.{little_bytes}
use Rattle.octets.specs.Outcome.{Outcome}
use Rattle.octets.specs.Over.{over, into}
use Rattle.octets.specs.Place.{place_at, part_of}
use Rattle.octets.proofs.InBytes.{length-little}
use Rattle.octets.proofs.Overlay.{put-over, put_rest}
use Rattle.device.specs.Effect.{taken_of}
use Rattle.device.specs.Data.{memory_part, word_bytes}

-- what is found at a place is at most its length
pub found-le : (l : List ℕ) (a k : ℕ) {w : List ℕ} → w ≡ part_of l (place_at a k) → length w ≤ k
unfolding part_of
found-le l a k e = rw (e, length-take k (drop a l)) (omega arith)

-- as a part of an array
pub first_of : (m n x : ℕ) → m ≤ n → take (m - 0) (drop 0 (replicate n x)) ≡ replicate m x
first_of m n x h = let e : m - 0 ≡ m = omega arith in rw e (take-replicate m n x h)

-- words have four bytes each
pub length-words : (ws : List ℕ) → length (word_bytes ws) ≡ length ws * 4
length-words [] = refl
length-words (w ∷ ws) = rw (length-append, length-little 4 w, length-words ws) (omega arith)

-- one word more
pub words_more : (i : ℕ) (ws : List ℕ) → i < length ws → word_bytes (take (suc i) ws) ≡ word_bytes (take i ws) ++ little_bytes 4 (get_or ws i 0)
words_more zero (w ∷ ws) h = append-nil (little_bytes 4 w)
words_more (suc i) (w ∷ ws) h = ap (λ (r : List ℕ). little_bytes 4 w ++ r) (words_more i ws (omega arith)) ∙ sym (append_assoc (little_bytes 4 w) (word_bytes (take i ws)) (little_bytes 4 (get_or ws i 0)))
words_more i [] h = absurd (omega arith)

-- the words that there are from a place on, up to so many
pub words-found : (s : List ℕ) (base count end : ℕ) → end ≡ min (length s) (base + count) → take (end - min base end) (drop (min base end) s) ≡ take count (drop base s)
words-found s base count end e = go (lt-or-le (length s) base) (lt-or-le (base + count) (length s))
  where
    long : length (drop base s) ≡ length s - base
    long = length-drop base s

    go : (length s < base) ⊎ (base ≤ length s) → (base + count < length s) ⊎ (length s ≤ base + count) → take (end - min base end) (drop (min base end) s) ≡ take count (drop base s)
    go (inl h) g = let none : end - min base end ≡ 0 = omega arith in let past : drop base s ≡ [] = drop_of_length-le s (omega arith) in rw (none, past) (sym (take-nil count))
    go (inr h) (inl g) =
        let from : min base end ≡ base = omega arith in
        let many : end - base ≡ count = omega arith in rw (from, many)
    go (inr h) (inr g) =
        let from : min base end ≡ base = omega arith in rw from (take_all (end - base) (drop base s) (omega (arith, long)) ∙ sym (take_all count (drop base s) (omega (arith, long))))

-- all of them were put
pub words-done : (d z whole : List ℕ) (i : ℕ) {o : List ℕ} → length d ≤ i → o ≡ over (word_bytes (take i d)) z → d ≡ whole → (length d * 4 ≡ length (word_bytes whole)) × (o ≡ over (word_bytes whole) z)
words-done d z whole i h wrote e = rw (← e) (sym (length-words d), rw (take_all i d h) at wrote)

-- one more is put
module _ (i : ℕ) (d z : List ℕ) (h : i < length d) (room : i * 4 + 4 ≤ length z) where
  pub words-next : {r : Outcome ℕ} {o y v : List ℕ} → o ≡ over (word_bytes (take i d)) z → v ≡ little_bytes 4 (get_or d i 0) → (r, y) ≡ into v (take (length o - i * 4) (drop (i * 4) o))
      → take (i * 4) o ++ (y ++ drop (length o - i * 4) (drop (i * 4) o)) ≡ over (word_bytes (take (i + 1) d)) z
  words-next {v = v} wrote e put =
      let four : length v ≡ 4 = rw (e, length-little) in
      let long : length (word_bytes (take i d)) ≡ i * 4 = rw (length-words (take i d), length-take i d) (omega arith) in
      put_rest (word_bytes (take i d)) z wrote v (i * 4) put (sym long) (omega arith) ∙ ap (λ (w : List ℕ). over w z) (rw (e, add-one) (sym (words_more i d h)))

-- bytes that were put behind others, in a part that is as long as they
over-middle : (w v l : List ℕ) (n : ℕ) {o : List ℕ} → o ≡ over w l → n ≡ length v → take (length w) o ++ (v ++ drop n (drop (length w) o)) ≡ over (w ++ v) l
unfolding over
over-middle w v l n wrote h =
    let d : List ℕ = drop (length w) l in rw (wrote, take_at w d (length w) refl, drop_at w d (length w) refl, h, drop-drop, length-append, append_assoc)

-- the part and the fill, put one behind the other
module _ (e z : List ℕ) (a size : ℕ) {k : ℕ} (t : k ≡ taken_of a size) (h : k ≤ size) (room : size ≤ length z) {w : List ℕ} (found : w ≡ part_of e (place_at a k)) where
  whole : w ++ replicate (size - k) 255 ≡ memory_part e a size
  whole = rw (found, t)

  pub memory-length : length w + (size - k) ≡ length (memory_part e a size)
  memory-length = rw (← whole, length-append w (replicate (size - k) 255), length-replicate {A = ℕ} (size - k) 255)

  pub memory-put : {r : Outcome ℕ} {o y : List ℕ} {j : ℕ} (n : ℕ) → (r, o) ≡ into w z → y ≡ replicate j 255 → j ≡ size - k → n ≡ size - k
      → take (length w) o ++ (y ++ drop n (drop (length w) o)) ≡ over (memory_part e a size) z
  memory-put n first fill many g =
      let short : length w ≤ k = found-le e a k found in
      let long : length (replicate {A = ℕ} (size - k) 255) ≡ size - k = length-replicate {A = ℕ} (size - k) 255 in
      rw (fill, many) (over-middle w (replicate (size - k) 255) z n (put-over w z first (omega arith)) (omega arith) ∙ ap (λ (l : List ℕ). over l z) whole)
