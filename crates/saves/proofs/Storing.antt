-- Laws of storing a save's frames one by one.
use Prim.Native.Nat.{ℕ}
use mathlib.Core.Path.{◌≡◌, refl, sym, ap}
use mathlib.Core.List.{List}
use lib.ListN.{drop}
use Rattle.octets.specs.Outcome.{Outcome, accepted, refused}
use Rattle.octets.proofs.Choosing.{refused-accepted}
use Rattle.processor.specs.Memory.{Memory, Store, store}
use Rattle.processor.proofs.Stores.{store-append}
use Rattle.streams.specs.Stream.{content_of, behind, tag_of, stream_of}
use Rattle.streams.specs.Inside.{no_fault, frame_writes, frames_write}
use Rattle.streams.specs.Judge.{Save, checked_for}
use Rattle.streams.proofs.Streams.{stream-frame, stream_end}
use Rattle.streams.proofs.Sound.{checked-writes}
use Rattle.saves.specs.Replay.{storing}

module _ (e s : ℕ) (l : List ℕ) where
  abbrev left : List Store
  left = frames_write e s (stream_of l).frames

  pub none-stored : (tag_of l ≡ 0x10 → ⊥) → (m : Memory) → store left m ≡ m
  none-stored h m = rw (stream_end l h)

  -- the frame f at the front, and those behind it
  pub frame-stored : tag_of l ≡ 0x10 → (f : List ℕ) → f ≡ content_of l → (m m' : Memory) → m' ≡ store (frame_writes e s f) m
      → store (frames_write e s (stream_of (behind l)).frames) m' ≡ store left m
  frame-stored h f is m m' stored =
      rw (stored, is, stream-frame l h) (sym (store-append (frame_writes e s (content_of l)) (frames_write e s (stream_of (behind l)).frames) m))

-- ---- a save that is checked: what its frames write is stored, and else nothing
module _ (e s : ℕ) (l : List ℕ) (m : Memory) where
  pub replay-stores : accepted tt ≡ no_fault (checked_for e s l) → (accepted tt, store (frames_write e s (stream_of (drop 11 l)).frames) m) ≡ storing m (checked_for e s l)
  replay-stores h = go (checked_for e s l) refl h
    where
      go : (o : Outcome Save) → checked_for e s l ≡ o → accepted tt ≡ no_fault o → (accepted tt, store (frames_write e s (stream_of (drop 11 l)).frames) m) ≡ storing m o
      go (accepted save) q g = rw (checked-writes l e s q)
      go (refused k) q g = absurd (refused-accepted (sym g))

  pub replay-refuses : {k : ℕ} → refused k ≡ no_fault (checked_for e s l) → (refused k, m) ≡ storing m (checked_for e s l)
  replay-refuses {k} h = go (checked_for e s l) h
    where
      go : (o : Outcome Save) → refused k ≡ no_fault o → (refused k, m) ≡ storing m o
      go (accepted save) g = absurd (refused-accepted g)
      go (refused j) g = ap (λ (u : Outcome Unit). (u, m)) g
