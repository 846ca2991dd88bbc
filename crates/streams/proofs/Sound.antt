-- What stands in a sound save, and that its frames write what they mean.
use Rattle.std.proofs.Common.{◌≡◌, ℕ, Bool, true, false, List, [], ◌∷◌, length, drop, sym, refl, ◌∙◌}
use Rattle.octets.specs.Outcome.{Outcome, accepted, refused, and_then}
use Rattle.octets.specs.Refusals.{wrong_sizes}
use Rattle.octets.specs.Choice.{pick}
use Rattle.octets.proofs.Choosing.{was-same, was-above, refused-accepted}
use Rattle.octets.proofs.Outcomes.{then-both, same-value, was-picked}
use Rattle.processor.specs.Memory.{Store, too_large}
use Rattle.streams.specs.declared.shape.Shape.{Shape}
use Rattle.streams.specs.Stream.{stream_of, end_of, shape_of, packet_in}
use Rattle.streams.specs.Means.{packet_means, frame_means, all_mean}
use Rattle.streams.specs.Inside.{receipt_of, frame_writes, frames_write}
use Rattle.streams.specs.Judge.{Save, fields_mean, read_for, judged_sized, judged_of, read_sized, checked_for}
use Rattle.streams.proofs.Judging.{summed, frame_is}

abbrev save_of : Shape → List Store → Save
save_of shape writes = record { shape = shape; writes = writes }

-- ---- a sound save's frames write what it means
module _ (e s : ℕ) where
  frame-writes : (f : List ℕ) {w : Store} → frame_means e s f ≡ accepted w → frame_writes e s f ≡ w ∷ []
  frame-writes f h =
      let t = then-both (receipt_of f) (λ u. summed f (packet_means e s (packet_in f))) (sym (frame_is f e s) ∙ h) in
      let m = was-same _ _ _ _ t.second in rw m.1

  all-write : (fs : List (List ℕ)) {ws : List Store} → all_mean e s fs ≡ accepted ws → frames_write e s fs ≡ ws
  all-write [] h = same-value h
  all-write (f ∷ fs) h =
      let t = then-both (frame_means e s f) (λ w. and_then (all_mean e s fs) (λ ws. accepted (w ∷ ws))) h in
      let u = then-both (all_mean e s fs) (λ ws. accepted (t.value ∷ ws)) t.second in
      rw (frame-writes f t.first, all-write fs u.first) (same-value u.second)

not-picked : {A : Type 0} (b : Bool) (k : ℕ) (o : Outcome A) {a : A} → pick b (refused k) o ≡ accepted a → b ≡ false
not-picked true k o h = absurd (refused-accepted h)
not-picked false k o h = refl

module _ (l : List ℕ) where
  abbrev frames : List (List ℕ)
  frames = (stream_of (drop 11 l)).frames

  -- what was read for the sizes in the first field: what the frames mean, and the last field
  record ReadFor (sh : Shape) (save : Save) : Type 0 where
    pub is : sh ≡ save.shape
    pub means : all_mean sh.eeprom sh.settings frames ≡ accepted save.writes
    pub ended : end_of (length save.writes) (stream_of (drop 11 l)).tail ≡ accepted tt

  was_read : (sh : Shape) {save : Save} → read_for l sh ≡ accepted save → ReadFor sh save
  unfolding fields_mean
  was_read sh {save} h =
      let e = sh.eeprom in
      let s = sh.settings in
      let read = then-both (fields_mean e s (drop 11 l)) (λ (ws : List Store). accepted (save_of sh ws)) h in
      let all = then-both (all_mean e s frames) (λ (ws : List Store). and_then (end_of (length ws) (stream_of (drop 11 l)).tail) (λ u. accepted ws)) read.first in
      let end = then-both (end_of (length all.value) (stream_of (drop 11 l)).tail) (λ u. accepted all.value) all.second in
      let ws : all.value ≡ read.value = same-value end.second in
      let is : save_of sh read.value ≡ save = same-value read.second in
      rw (← is, ← ws) (record { is = refl; means = all.first; ended = end.first })

  -- What stands in a sound save: the sizes in its first field, which are right, what its frames mean, and its last field.
  pub record Own (save : Save) : Type 0 where
    pub shaped : shape_of l ≡ accepted save.shape
    pub sized : too_large save.shape.eeprom save.shape.settings ≡ false
    pub means : all_mean save.shape.eeprom save.shape.settings frames ≡ accepted save.writes
    pub ended : end_of (length save.writes) (stream_of (drop 11 l)).tail ≡ accepted tt

  pub own : {save : Save} → judged_of l ≡ accepted save → Own save
  unfolding judged_of
  own {save} h =
      let short = was-above _ _ _ _ h in
      let shaped = then-both (shape_of l) (judged_sized l) short.1 in
      let sh = shaped.value in
      let large = too_large sh.eeprom sh.settings in
      let read = was_read sh (was-picked large wrong_sizes (read_for l sh) shaped.second) in
      rw (← read.is) (record { shaped = shaped.first; sized = not-picked large wrong_sizes (read_for l sh) shaped.second; means = read.means; ended = read.ended })

  -- and its frames write what they mean
  pub own-writes : {save : Save} → judged_of l ≡ accepted save → frames_write save.shape.eeprom save.shape.settings frames ≡ save.writes
  own-writes h = all-write _ _ frames (own h).means

  -- the same of a save that is checked for memories of these sizes
  module _ (e s : ℕ) {save : Save} (h : checked_for e s l ≡ accepted save) where
    pub checked-sized : too_large e s ≡ false
    unfolding checked_for
    checked-sized = not-picked (too_large e s) wrong_sizes _ h

    pub checked-means : all_mean e s frames ≡ accepted save.writes
    unfolding checked_for
    checked-means =
        let short = was-above _ _ _ _ (was-picked (too_large e s) wrong_sizes _ h) in
        let shaped = then-both (shape_of l) (read_sized e s l) short.1 in
        let eeprom = was-same _ _ _ _ shaped.second in
        let settings = was-same _ _ _ _ eeprom.1 in
        rw (eeprom.0, settings.0) at (was_read shaped.value settings.1).means

    pub checked-writes : frames_write e s frames ≡ save.writes
    checked-writes = all-write e s frames checked-means
