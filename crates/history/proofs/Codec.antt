-- A frame that a replay takes means that write by the codec's and the device's definitions too: it is received plainly, its
-- packet reads as a command, which names that write, and any device that executes it acknowledges it and puts it.
use Prim.Native.Nat.{ℕ, ◌+◌, ◌-◌, ◌≤◌, ◌<◌}
use mathlib.Core.Path.{◌≡◌, refl, sym, ◌∙◌, subst}
use mathlib.Core.Bool.{false}
use mathlib.Core.List.{List, [], ◌∷◌, append-nil}
use native.Mathlib.Omega.{arith}
use lib.ListN.{length, take, drop, length-take, length-drop, take-append-drop}
use lib.Seq.{take_all, length-take-le}
use Rattle.octets.specs.Refusals.{ends, wrong_field}
use Rattle.octets.specs.Outcome.{Outcome, accepted, refused, and_then}
use Rattle.octets.specs.Choice.{if_lt, if_eq}
use Rattle.octets.specs.Number.{at, Octets, big_at, little_at}
use Rattle.octets.specs.Place.{place_at, part_of}
use Rattle.octets.specs.Reading.{rest}
use Rattle.octets.specs.declared.Place.{Place}
use Rattle.octets.proofs.Bytes.{part-octets}
use Rattle.octets.proofs.Choosing.{below, above, same, other, either_lt, either-eq, refused-accepted, was-above, was-other, was-same}
use Rattle.octets.proofs.InBytes.{little-behind}
use Rattle.octets.proofs.Parts.{is-inside}
use Rattle.packet.specs.Receipt.{length_byte, plain_of, exact_of}
use Rattle.fields.specs.Addr.{addr_at}
use Rattle.fields.specs.Value.{value_at, value_bytes, value_outside}
use Rattle.fields.specs.Row.{packet_of}
use Rattle.fields.specs.declared.value.Value.{Value}
use Rattle.fields.specs.declared.row.Field.TheVariants.{Coded}
use Rattle.fields.proofs.Again.{From, ended, value}
use Rattle.fields.proofs.Rows.{sound-of}
use Rattle.commands.specs.Decode.{r, command_of, command_by}
use Rattle.commands.specs.declared.Commands.{Commands}
use Rattle.commands.specs.declared.Commands.TheVariants.{WriteMemory, Write}
use Rattle.responses.specs.declared.Responses.TheVariants.{Ack}
use Rattle.processor.specs.Memory.{Store, to_eeprom, to_settings}
use Rattle.processor.specs.Puts.{Within}
use Rattle.device.specs.Effect.{effect, effect_of}
use Rattle.device.specs.Names.{names}
use Rattle.processor.specs.declared.Device.{Device}
use Rattle.streams.specs.Means.{packet_means, frame_means, memory_means, word_means}

pub exact-plain : (frame : List ℕ) {place : Place} → exact_of frame ≡ accepted place → plain_of frame ≡ accepted place
exact-plain frame h =
    let begun = was-other _ _ _ _ h in
    let long = was-above _ _ _ _ begun.1 in
    let ended = was-above _ _ _ _ long.1 in
    let sum = was-same _ _ _ _ ended.1 in
    sym (other _ _ _ _ _ begun.0 (above _ _ _ _ _ (omega arith) (sym sum.1)))

-- what a packet's command is, that it names this write, within the memories, and that it puts it
pub record Puts (e s : ℕ) (p : List ℕ) (w : Store) : Type 0 where
  pub command : Commands
  pub reads : command_of p ≡ accepted command
  pub names-it : names p command ≡ w ∷ []
  pub inside : Within e s w
  pub does : (d : Device) → effect_of d p e s command ≡ accepted (effect Ack (w ∷ []))

module _ (e s : ℕ) (p : List ℕ) (short : length p ≤ 254) where
  memory-puts : at p 0 ≡ 0x04 → 3 ≤ length p → big_at 2 p 1 + (length p - 3) ≤ e → Puts e s p (to_eeprom (big_at 2 p 1) (drop 3 p))
  unfolding command_of command_by part_of
  memory-puts k long inside =
      let rest-is : take (length p - 3) (drop 3 p) ≡ drop 3 p = take_all (length p - 3) (drop 3 p) (omega (arith, length-drop 3 p)) in
      record {
        command = WriteMemory (big_at 2 p 1) (rest 3 p);
        reads = sym (above _ _ _ _ _ short (above _ _ _ _ _ (omega arith) (other _ _ _ _ _ (λ h. omega arith) (same _ _ _ _ _ k (above _ _ _ _ _ long refl)))));
        names-it = rw rest-is;
        inside = omega (arith, length-drop 3 p);
        does = λ d. rw (← is-inside (rest 3 p) (length p) (omega arith), rest-is) (sym (above _ _ _ _ _ inside refl));
      }

  -- the value of a Write of four bytes, whichever kind it reads as
  module _ (octets : Octets p) (long : length p ≡ 8) where
    abbrev v : Value
    v = value_at p (place_at 4 4)

    read : From p 4 (Coded v ∷ [])
    read = value p 4 [] octets 4 (omega arith) (ended p 8 (omega arith))

    bytes-are : value_bytes v p ≡ drop 4 p
    unfolding packet_of
    bytes-are = rw append-nil at read.is

    placed : value_outside v (length p) ≡ false
    placed = (sound-of p [] (Coded v) [] read.sound).placed

    value-is : little_at 4 (drop 4 p) 0 ≡ little_at 4 p 4
    value-is =
        let n : length (take 4 p) ≡ 4 = length-take-le 4 p (omega arith) in
        sym (rw (n, take-append-drop) at (little-behind (take 4 p) (drop 4 p) 4 0))

    reads-write : at p 0 ≡ 0x13 → command_of p ≡ accepted (Write (addr_at 3 p 1) v)
    unfolding command_of command_by if_lt if_eq
    reads-write k = rw (k, long)

    word-puts : at p 0 ≡ 0x13 → (addr_at 3 p 1).val < s → Puts e s p (to_settings (addr_at 3 p 1).val (little_at 4 p 4))
    word-puts k inside =
        let four : length (drop 4 p) ≡ 4 = length-drop 4 p ∙ omega arith in
        record {
          command = Write (addr_at 3 p 1) v;
          reads = reads-write k;
          names-it = rw (bytes-are, value-is) (sym (same _ _ _ _ _ four refl));
          inside = inside;
          does = λ d. rw (placed, bytes-are, value-is) (sym (same _ _ _ _ _ four (below _ _ _ _ _ inside refl)));
        }

  module _ (octets : Octets p) (w : Store) where
    is-this : (x : Store) → Puts e s p x → accepted x ≡ accepted w → Puts e s p w
    is-this x h g = let same : x ≡ w = cc in subst (Puts e s p) same h

    of-memory : at p 0 ≡ 0x04 → if_lt (r p) 2 (refused ends) (memory_means e p) ≡ accepted w → Puts e s p w
    of-memory k h =
        let long = was-above _ _ _ _ h in
        let inside = was-above _ _ _ _ long.1 in
        is-this _ (memory-puts k (omega (arith, long.0)) inside.0) inside.1

    of_word : at p 0 ≡ 0x13 → if_lt (r p) 2 (refused ends) (if_eq (r p) 7 (word_means s p) (refused wrong_field)) ≡ accepted w → Puts e s p w
    of_word k h =
        let long = was-above _ _ _ _ h in
        let seven = was-same _ _ _ _ long.1 in
        either_lt (λ o. o ≡ accepted w → Puts e s p w) _ _ _ _ (λ inside. is-this _ (word-puts octets (omega (arith, seven.0)) k inside)) (λ beyond g. absurd (refused-accepted g)) seven.1

    pub means-command : packet_means e s p ≡ accepted w → Puts e s p w
    unfolding packet_means
    means-command h =
        either-eq (λ o. o ≡ accepted w → Puts e s p w) _ _ _ _ of-memory
        (λ n. either-eq (λ o. o ≡ accepted w → Puts e s p w) _ _ _ _ of_word (λ m g. absurd (refused-accepted g)))
        (was-above _ _ _ _ h).1

-- ---- a whole frame
pub record Sends (e s : ℕ) (frame : List ℕ) (w : Store) : Type 0 where
  pub place : Place
  pub receives : plain_of frame ≡ accepted place
  pub puts : Puts e s (part_of frame place) w

module _ (e s : ℕ) (frame : List ℕ) (octets : Octets frame) (w : Store) where
  -- a length byte is at most 255
  packet-short : (place : Place) → plain_of frame ≡ accepted place → length (part_of frame place) ≤ 254
  unfolding part_of
  packet-short place h =
      let at : accepted (place_at 1 (length_byte frame - 1)) ≡ accepted place = (was-above _ _ _ _ (was-other _ _ _ _ h).1).1 in
      let is : place_at 1 (length_byte frame - 1) ≡ place = cc in
      rw (← is) (omega (arith, octets 0, length-take (length_byte frame - 1) (drop 1 frame)))

  pub frame-command : frame_means e s frame ≡ accepted w → Sends e s frame w
  unfolding frame_means
  frame-command = go (exact_of frame) refl
    where
      go : (o : Outcome Place) → exact_of frame ≡ o → and_then o (λ (place : Place). packet_means e s (part_of frame place)) ≡ accepted w → Sends e s frame w
      go (refused k) q h = absurd (refused-accepted h)
      go (accepted place) q h =
          let plain = exact-plain frame q in
          record { place = place; receives = plain; puts = means-command e s (part_of frame place) (packet-short place plain) (part-octets frame place octets) w h }
