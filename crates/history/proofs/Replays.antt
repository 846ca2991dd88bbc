-- A replay leaves what its frames name, each by the codec's definitions as a received frame.
use Prim.Native.Nat.{ℕ, zero, suc, ◌+◌}
use mathlib.Core.Path.{◌≡◌, refl, subst}
use mathlib.Core.List.{List, [], ◌∷◌, ◌++◌}
use lib.ListN.{length, drop}
use Rattle.octets.specs.Outcome.{Outcome, accepted, refused}
use Rattle.octets.specs.Number.{Octets}
use Rattle.octets.proofs.Choosing.{either-eq}
use Rattle.octets.proofs.Outcomes.{then-both, same-value}
use Rattle.octets.proofs.Bytes.{behind-octets, part-octets}
use Rattle.processor.specs.Memory.{Memory, Store}
use Rattle.processor.specs.Puts.{AllWithin}
use Rattle.streams.specs.Stream.{length_of, content_of, behind, tag_of, Stream, stream_up_to, stream_of}
use Rattle.streams.specs.Means.{frame_means, all_mean}
use Rattle.streams.specs.Judge.{Save, checked_for}
use Rattle.saves.specs.Replay.{storing, replay_of}
use Rattle.history.proofs.Codec.{frame-command}
use Rattle.streams.proofs.Sound.{checked-means}
use Rattle.history.specs.History.{AllOctets, frames_names, frames_in, EachNames}
use Rattle.history.proofs.Steps.{Right}

-- ---- what is in bytes is bytes
upto-octets : (n : ℕ) (l : List ℕ) → Octets l → AllOctets (stream_up_to n l).frames
unfolding stream_up_to content_of behind
upto-octets zero l octets = tt
upto-octets (suc n) l octets =
    either-eq (λ (s : Stream). AllOctets s.frames) (tag_of l) 0x10 _ _
    (λ h. (part-octets l _ octets, upto-octets n (behind l) (behind-octets l (3 + length_of l) octets))) (λ h. tt)

pub frames-octets : (l : List ℕ) → Octets l → AllOctets (frames_in l)
unfolding stream_of
frames-octets l octets = upto-octets (length (drop 11 l)) (drop 11 l) (behind-octets l 11 octets)

-- ---- a frame that is taken names its write, which lies within
pub each_all : (frames : List (List ℕ)) (ws : List Store) → EachNames frames ws → frames_names frames ≡ ws
each_all [] [] h = refl
each_all [] (w ∷ ws) h = elim h [ ]
each_all (frame ∷ frames) [] h = elim h [ ]
each_all (frame ∷ frames) (w ∷ ws) h = λ i. h.0 i ++ each_all frames ws h.1 i

module _ (e s : ℕ) where
  pub frames-names : (frames : List (List ℕ)) → AllOctets frames → (ws : List Store) → all_mean e s frames ≡ accepted ws → EachNames frames ws × AllWithin e s ws
  frames-names [] octets ws h = let none : [] ≡ ws = same-value h in subst (λ (ws : List Store). EachNames [] ws × AllWithin e s ws) none (tt, tt)
  frames-names (frame ∷ frames) octets ws h =
      let first = then-both (frame_means e s frame) _ h in
      let others = then-both (all_mean e s frames) _ first.second in
      let sent = frame-command e s frame octets.0 first.value first.first in
      let rest = frames-names frames octets.1 others.value others.first in
      let all : first.value ∷ others.value ≡ ws = same-value others.second in
      subst (λ (ws : List Store). EachNames (frame ∷ frames) ws × AllWithin e s ws) all ((rw (sent.receives, sent.puts.reads) sent.puts.names-it, rest.0), (sent.puts.inside, rest.1))

pub replay-right : (m : Memory) (l : List ℕ) → Octets l → Right m (replay_of m l).0 (frames_names (frames_in l)) (replay_of m l).1
unfolding replay_of
replay-right m l octets = stores (checked_for e s l) refl
  where
    e : ℕ
    e = length m.eeprom

    s : ℕ
    s = length m.settings

    P : Outcome Unit × Memory → Type 0
    P left = Right m left.0 (frames_names (frames_in l)) left.1

    stores : (o : Outcome Save) → checked_for e s l ≡ o → P (storing m o)
    stores (refused k) q = (refl, tt)
    stores (accepted save) q =
        let names = frames-names e s (frames_in l) (frames-octets l octets) save.writes (checked-means l e s q) in
        rw (each_all (frames_in l) save.writes names.0) (refl, names.1)
