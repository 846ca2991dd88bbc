-- "in demand 3 each of its frames counts as one accepted call in turn": an accepted replay leaves what its frames leave when
-- they are received one after the other, each of them accepted.
use Prim.Native.Nat.{ℕ, ◌≤◌}
use mathlib.Core.Path.{◌≡◌, refl, sym, ap, ◌∙◌, subst}
use mathlib.Core.Bool.{true, false}
use mathlib.Core.List.{List, [], ◌∷◌}
use native.Mathlib.Omega.{arith}
use lib.ListN.{length}
use Rattle.octets.specs.Outcome.{Outcome, accepted, refused, on_accepted}
use Rattle.octets.specs.Over.{over}
use Rattle.octets.specs.Number.{Octets}
use Rattle.octets.proofs.Choosing.{above, refused-accepted}
use Rattle.octets.proofs.Outcomes.{then-both, same-value}
use Rattle.packet.specs.Frame.{frame_of}
use Rattle.fields.specs.Row.{packet_of, any_of, encoded_of}
use Rattle.responses.specs.declared.Responses.TheVariants.{Ack}
use Rattle.processor.specs.Memory.{Memory, Store, store_one, store, oversized}
use Rattle.device.specs.Execute.{answer_into, received_into}
use Rattle.processor.specs.declared.Device.{Device}
use Rattle.streams.specs.Means.{frame_means, all_mean}
use Rattle.streams.specs.Judge.{Save, checked_for}
use Rattle.saves.specs.Replay.{storing, replay_of}
use Rattle.history.proofs.Codec.{Sends, frame-command}
use Rattle.streams.proofs.Sound.{checked-sized, checked-means}
use Rattle.history.specs.History.{history, AllOctets, in_turn, AllAccepted, frames_in}
use Rattle.history.proofs.Replays.{frames-octets}
use Rattle.history.proofs.History.{put-sizes}

-- "Ack" is the empty packet, whose frame takes two bytes
acknowledged : (out : List ℕ) → 2 ≤ length out → answer_into true [] Ack out ≡ (accepted 2, over (frame_of []) out)
unfolding encoded_of any_of packet_of frame_of
acknowledged out room =
    let empty : encoded_of [] [] ≡ accepted [] = sym (above _ _ _ _ _ (omega arith) refl) in
    rw empty (sym (above _ _ _ _ _ room refl))

module _ (d : Device) (out : List ℕ) (room : 2 ≤ length out) where
  received-ack : (m : Memory) (frame : List ℕ) (w : Store) → oversized m ≡ false → Sends (length m.eeprom) (length m.settings) frame w
      → ((received_into d frame m out).0 ≡ accepted 2) × ((received_into d frame m out).1 ≡ store_one w m)
  received-ack m frame w sized sent =
      rw (sized, sent.receives, sent.puts.reads, sent.puts.does d, acknowledged out room) (refl, refl)

  in-turn : (frames : List (List ℕ)) (octets : AllOctets frames) (m : Memory) (ws : List Store) → oversized m ≡ false → all_mean (length m.eeprom) (length m.settings) frames ≡ accepted ws
      → AllAccepted (in_turn d frames octets out) m × (history (in_turn d frames octets out) m ≡ store ws m)
  in-turn [] octets m ws sized h = let none : [] ≡ ws = same-value h in (tt, rw (← none))
  in-turn (frame ∷ frames) octets m ws sized h =
      let e = length m.eeprom in
      let s = length m.settings in
      let first = then-both (frame_means e s frame) _ h in
      let others = then-both (all_mean e s frames) _ first.second in
      let w = first.value in
      let one = received-ack m frame w sized (frame-command e s frame octets.0 w first.first) in
      let kept = put-sizes w m in
      let rest = in-turn frames octets.1 (store_one w m) others.value (rw (kept.0, kept.1) sized) (rw (kept.0, kept.1) others.first) in
      let all : w ∷ others.value ≡ ws = same-value others.second in
      let calls = in_turn d frames octets.1 out in
      ((ap (on_accepted (λ n. tt)) one.0, subst (AllAccepted calls) (sym one.1) rest.0), ap (history calls) one.1 ∙ rest.1 ∙ ap (λ (ws : List Store). store ws m) all)

-- what is known of an accepted replay
record Replayed (m : Memory) (l : List ℕ) (after : Memory) : Type 0 where
  pub save : Save
  pub checked : checked_for (length m.eeprom) (length m.settings) l ≡ accepted save
  pub stores : after ≡ store save.writes m

replayed : (m : Memory) (l : List ℕ) → (replay_of m l).0 ≡ accepted tt → Replayed m l (replay_of m l).1
unfolding replay_of
replayed m l = stored o refl
  where
    o : Outcome Save
    o = checked_for (length m.eeprom) (length m.settings) l

    stored : (x : Outcome Save) → o ≡ x → (storing m x).0 ≡ accepted tt → Replayed m l (storing m x).1
    stored (refused k) r h = absurd (refused-accepted h)
    stored (accepted save) r h = record { save = save; checked = r; stores = refl }

-- an output of two bytes is enough for each
pub replay-in-turn : (d : Device) (m : Memory) (l : List ℕ) (octets : Octets l) (out : List ℕ) → 2 ≤ length out → (replay_of m l).0 ≡ accepted tt
    → let calls = in_turn d (frames_in l) (frames-octets l octets) out in AllAccepted calls m × (history calls m ≡ (replay_of m l).1)
replay-in-turn d m l octets out room h =
    let r = replayed m l h in
    let turn = in-turn d out room (frames_in l) (frames-octets l octets) m r.save.writes (checked-sized l _ _ r.checked) (checked-means l _ _ r.checked) in
    (turn.0, turn.1 ∙ sym r.stores)
