-- Laws of judging: what is left to judge after one field, and what one frame is judged by.
use Rattle.std.proofs.Common.{◌≡◌, ℕ, ◌+◌, List, [], ◌∷◌, length, get_or, take, sym, refl, ap, ◌∙◌, zero-add, arith}
use Rattle.octets.specs.Refusals.{wrong_checksum}
use Rattle.octets.specs.Outcome.{Outcome, accepted, refused, on_accepted, and_then}
use Rattle.octets.specs.Choice.{if_lt, if_eq}
use Rattle.octets.specs.Place.{part_of}
use Rattle.octets.specs.declared.Place.{Place}
use Rattle.octets.proofs.Choosing.{same, other, if-of, if-eq-of, was-above, was-other}
use Rattle.packet.specs.Frame.{checksum_of}
use Rattle.packet.specs.Receipt.{length_byte, packet_at, exact_of}
use Rattle.processor.specs.Memory.{Store}
use Rattle.streams.specs.Stream.{content_of, behind, tag_of, stream_of, end_of, packet_in}
use Rattle.streams.specs.Means.{packet_means, frame_means, all_mean}
use Rattle.streams.specs.Inside.{no_fault, receipt_of}
use Rattle.streams.specs.Judge.{fields_mean, Save}
use Rattle.streams.specs.declared.shape.Shape.{Shape}
use Rattle.streams.proofs.Streams.{stream-frame, stream_end}

-- whether it is sound does not hang on what is made of it
sound-then : {A : Type 0} (o : Outcome Unit) (a : A) → no_fault (and_then o (λ u. accepted a)) ≡ o
sound-then (accepted u) a = refl
sound-then (refused k) a = refl

pub sound-of : {A B : Type 0} (f : A → B) (o : Outcome A) {p : Outcome B} → p ≡ on_accepted f o → no_fault p ≡ no_fault o
sound-of f (accepted a) e = ap no_fault e
sound-of f (refused k) e = ap no_fault e

-- ---- fields
-- what is left of a save, n frames having gone before
unfoldable pub left_mean : ℕ → ℕ → ℕ → List ℕ → Outcome (List Store)
left_mean e s n l =
    and_then (all_mean e s (stream_of l).frames) (λ (ws : List Store). and_then (end_of (n + length ws) (stream_of l).tail) (λ u. accepted ws))

pub all_left : (e s : ℕ) (l : List ℕ) → left_mean e s 0 l ≡ fields_mean e s l
unfolding left_mean fields_mean
all_left e s l = go (all_mean e s (stream_of l).frames)
  where
    go : (o : Outcome (List Store)) → and_then o (λ (ws : List Store). and_then (end_of (0 + length ws) (stream_of l).tail) (λ u. accepted ws)) ≡ and_then o (λ (ws : List Store). and_then (end_of (length ws) (stream_of l).tail) (λ u. accepted ws))
    go (accepted ws) = rw zero-add
    go (refused k) = refl

module _ (e s n : ℕ) (l : List ℕ) where
  pub none_left : (tag_of l ≡ 0x10 → ⊥) → end_of n l ≡ no_fault (left_mean e s n l)
  unfolding left_mean
  none_left h = let z : n + 0 ≡ n = omega arith in rw (stream_end l h, z) (sym (sound-then (end_of n l) []))

  pub frame-first : tag_of l ≡ 0x10 → no_fault (left_mean e s n l) ≡ and_then (no_fault (frame_means e s (content_of l))) (λ u. no_fault (left_mean e s (n + 1) (behind l)))
  unfolding left_mean
  frame-first h = rw (stream-frame l h) (first (frame_means e s (content_of l)) (all_mean e s (stream_of (behind l)).frames))
    where
      tail : List ℕ
      tail = (stream_of (behind l)).tail

      first : (o : Outcome Store) (os : Outcome (List Store))
          → no_fault (and_then (and_then o (λ w. and_then os (λ ws. accepted (w ∷ ws)))) (λ (ws : List Store). and_then (end_of (n + length ws) tail) (λ u. accepted ws)))
          ≡ and_then (no_fault o) (λ u. no_fault (and_then os (λ (ws : List Store). and_then (end_of (n + 1 + length ws) tail) (λ u. accepted ws))))
      first (refused k) os = refl
      first (accepted w) (refused k) = refl
      first (accepted w) (accepted ws) =
          let c : n + length (w ∷ ws) ≡ n + 1 + length ws = omega arith in
          sound-then (end_of (n + length (w ∷ ws)) tail) (w ∷ ws) ∙ ap (λ (m : ℕ). end_of m tail) c ∙ sym (sound-then (end_of (n + 1 + length ws) tail) ws)

-- ---- one frame
module _ (f : List ℕ) where
  -- "9"
  abbrev pub summed : {A : Type 0} → Outcome A → Outcome A
  summed o = if_eq (checksum_of (take (length_byte f) f)) (get_or f (length_byte f) 0) o (refused wrong_checksum)

  exact-is : exact_of f ≡ and_then (receipt_of f) (λ u. summed (packet_at f))
  exact-is = sym (if-eq-of go _ _ _ _ ∙ ap (if_eq (length_byte f) 0 (refused 1)) (if-of go _ _ _ _ ∙ ap (if_lt (length f) (length_byte f + 1) (refused 2)) (if-of go _ _ _ _)))
    where
      go : Outcome Unit → Outcome Place
      go o = and_then o (λ u. summed (packet_at f))

  pub frame_is : (e s : ℕ) → frame_means e s f ≡ and_then (receipt_of f) (λ u. summed (packet_means e s (packet_in f)))
  unfolding frame_means
  frame_is e s = rw exact-is (go (receipt_of f))
    where
      meant : Outcome Place → Outcome Store
      meant o = and_then o (λ (place : Place). packet_means e s (part_of f place))

      go : (o : Outcome Unit) → meant (and_then o (λ u. summed (packet_at f))) ≡ and_then o (λ u. summed (packet_means e s (packet_in f)))
      go (accepted u) = if-eq-of meant _ _ _ _
      go (refused k) = refl

  frame-judged : (e s : ℕ) → no_fault (frame_means e s f) ≡ and_then (receipt_of f) (λ u. summed (no_fault (packet_means e s (packet_in f))))
  frame-judged e s = rw (frame_is e s) (go (receipt_of f))
    where
      go : (o : Outcome Unit) → no_fault (and_then o (λ u. summed (packet_means e s (packet_in f)))) ≡ and_then o (λ u. summed (no_fault (packet_means e s (packet_in f))))
      go (accepted u) = if-eq-of no_fault _ _ _ _
      go (refused k) = refl

  -- a frame that is received is as long as it says
  pub as_long : accepted tt ≡ receipt_of f → length f ≡ length_byte f + 1
  as_long h =
      let a = was-other _ _ _ _ (sym h) in
      let b = was-above _ _ _ _ a.1 in
      let c = was-above _ _ _ _ b.1 in omega (arith, b.0, c.0)

-- ---- the frame f at the front of l, as the scan finds it: each way on, and each way out
module _ (e s n : ℕ) (l f : List ℕ) (tag : tag_of l ≡ 0x10) (is : f ≡ content_of l) where
  judged-by : no_fault (left_mean e s n l) ≡ and_then (and_then (receipt_of f) (λ u. summed f (no_fault (packet_means e s (packet_in f))))) (λ u. no_fault (left_mean e s (n + 1) (behind l)))
  judged-by = frame-first e s n l tag ∙ ap (λ (o : Outcome Unit). and_then o (λ u. no_fault (left_mean e s (n + 1) (behind l)))) (ap (λ (c : List ℕ). no_fault (frame_means e s c)) (sym is) ∙ frame-judged f e s)

  pub not-received : {k : ℕ} → refused k ≡ receipt_of f → refused k ≡ no_fault (left_mean e s n l)
  not-received h = sym (judged-by ∙ rw (← h))

  module _ (received : accepted tt ≡ receipt_of f) where
    pub not-summed : (checksum_of (take (length_byte f) f) ≡ get_or f (length_byte f) 0 → ⊥) → refused wrong_checksum ≡ no_fault (left_mean e s n l)
    not-summed h = sym (judged-by ∙ rw (← received, ← other _ _ _ _ _ h refl))

    module _ (sums : checksum_of (take (length_byte f) f) ≡ get_or f (length_byte f) 0) (p : List ℕ) (holds : p ≡ packet_in f) where
      pub not-meant : {k : ℕ} → refused k ≡ no_fault (packet_means e s p) → refused k ≡ no_fault (left_mean e s n l)
      not-meant h = sym (judged-by ∙ rw (← received, ← holds, ← h, ← same _ _ _ _ _ sums refl))

      pub goes_on : accepted tt ≡ no_fault (packet_means e s p) → no_fault (left_mean e s (n + 1) (behind l)) ≡ no_fault (left_mean e s n l)
      goes_on h = sym (judged-by ∙ rw (← received, ← holds, ← h, ← same _ _ _ _ _ sums refl))

-- ---- what is told of a save that is read
pub only-shape : (shape : Shape) (o : Outcome (List Store)) → on_accepted (λ (s : Save). s.shape) (and_then o (λ (ws : List Store). accepted (record { shape = shape; writes = ws }))) ≡ on_accepted (λ u. shape) (no_fault o)
only-shape shape (accepted ws) = refl
only-shape shape (refused k) = refl

pub still-sound : (shape : Shape) (o : Outcome (List Store)) → no_fault {A = Save} (and_then o (λ (ws : List Store). accepted (record { shape = shape; writes = ws }))) ≡ no_fault o
still-sound shape (accepted ws) = refl
still-sound shape (refused k) = refl
