-- An accepted call leaves the memories with exactly the writes stored that its command names, all of which lie within.
use Prim.Native.Nat.{ℕ}
use mathlib.Core.Path.{◌≡◌, refl}
use mathlib.Core.Bool.{Bool, true, false}
use mathlib.Core.List.{List}
use lib.ListN.{length}
use Rattle.octets.specs.Outcome.{Outcome, accepted, refused}
use Rattle.octets.specs.Choice.{pick}
use Rattle.octets.specs.Place.{part_of}
use Rattle.octets.specs.declared.Place.{Place}
use Rattle.octets.proofs.Choosing.{refused-accepted}
use Rattle.packet.specs.Receipt.{plain_of}
use Rattle.commands.specs.Decode.{command_of}
use Rattle.commands.specs.declared.Commands.{Commands}
use Rattle.responses.specs.declared.Responses.{Responses}
use Rattle.processor.specs.Memory.{Memory, store, oversized}
use Rattle.device.specs.Effect.{Effect}
use Rattle.device.specs.Names.{names}
use Rattle.device.specs.Data.{data_of}
use Rattle.processor.specs.Puts.{AllWithin}
use Rattle.device.specs.Execute.{Left, refusing, if_sized, effect_in, answer_into, store_if, effect_into, recorded, command_into, executed_into, executed_record, packet_into, received_into}
use Rattle.processor.specs.declared.Device.{Device}
use Rattle.device.proofs.Effects.{effect-names}

-- what is left
pub record Does (c : Commands) (p : List ℕ) (m after : Memory) : Type 0 where
  pub inside : AllWithin (length m.eeprom) (length m.settings) (names p c)
  pub stores : after ≡ store (names p c) m

module _ (m : Memory) (out : List ℕ) where
  -- what was accepted was not refused on the way
  sized : {A : Type 0} (next : Left A) {a : A} → (if_sized m out next).0 ≡ accepted a → if_sized m out next ≡ next
  sized next = go (oversized m)
    where
      go : (b : Bool) {a : _} → (pick b (refused 14, m, out) next).0 ≡ accepted a → pick b (refused 14, m, out) next ≡ next
      go true e = absurd (refused-accepted e)
      go false e = refl

  -- an effect's answer that was written has its writes stored
  answered : (framed : Bool) (e : Effect) (n : ℕ) → (effect_into framed m out e).0 ≡ accepted n → (effect_into framed m out e).1 ≡ store e.writes m
  answered framed e n = go (answer_into framed (data_of m e.response) e.response out).0
    where
      go : (o : Outcome ℕ) {n : ℕ} → (store_if e.writes m o).0 ≡ accepted n → (store_if e.writes m o).1 ≡ store e.writes m
      go (accepted k) h = refl
      go (refused k) h = absurd (refused-accepted h)

  module _ (d : Device) (c : Commands) (p : List ℕ) where
    does : {A : Type 0} (next : Effect → Left A) → ((e : Effect) (a : A) → (next e).0 ≡ accepted a → (next e).1 ≡ store e.writes m) → (o : Outcome Effect) → effect_in d p m c ≡ o
        → (a : A) → (refusing m out o next).0 ≡ accepted a → Does c p m (refusing m out o next).1
    does next h (accepted e) q a g = let put = effect-names _ _ d p c e q in record { inside = rw (← put.0) put.1; stores = rw (← put.0) (h e a g) }
    does next h (refused k) q a g = absurd (refused-accepted g)

    command-does : (framed : Bool) (n : ℕ) → (command_into d framed c p m out).0 ≡ accepted n → Does c p m (command_into d framed c p m out).1
    command-does framed = does (effect_into framed m out) (answered framed) (effect_in d p m c) refl

    pub executed-into-does : {n : ℕ} → (executed_into d c p m out).0 ≡ accepted n → Does c p m (executed_into d c p m out).1
    executed-into-does g = let e = sized (command_into d false c p m out) g in rw e (command-does false _ (rw e at g))

    pub executed-does : {r : Responses} → (executed_record d c p m out).0 ≡ accepted r → Does c p m (executed_record d c p m out).1
    executed-does g =
        let next = refusing m out (effect_in d p m c) (recorded m out) in
        let e = sized next g in rw e (does (recorded m out) (λ x r h. refl) (effect_in d p m c) refl _ (rw e at g))

  -- a received frame: plain receipt, and the command read from its packet
  pub record Received (frame : List ℕ) (after : Memory) : Type 0 where
    pub place : Place
    pub command : Commands
    pub receives : plain_of frame ≡ accepted place
    pub reads : command_of (part_of frame place) ≡ accepted command
    pub does-it : Does command (part_of frame place) m after

  module _ (d : Device) (frame : List ℕ) where
    reading : (place : Place) → plain_of frame ≡ accepted place → (o : Outcome Commands) → command_of (part_of frame place) ≡ o → {n : ℕ}
        → (refusing m out o (λ c. command_into d true c (part_of frame place) m out)).0 ≡ accepted n
        → Received frame (refusing m out o (λ c. command_into d true c (part_of frame place) m out)).1
    reading place q (accepted c) r g = record { place = place; command = c; receives = q; reads = r; does-it = command-does d c (part_of frame place) true _ g }
    reading place q (refused k) r g = absurd (refused-accepted g)

    receiving : (o : Outcome Place) → plain_of frame ≡ o → {n : ℕ} → (refusing m out o (λ (place : Place). packet_into d (part_of frame place) m out)).0 ≡ accepted n
        → Received frame (refusing m out o (λ (place : Place). packet_into d (part_of frame place) m out)).1
    receiving (accepted place) q g = reading place q (command_of (part_of frame place)) refl g
    receiving (refused k) q g = absurd (refused-accepted g)

    pub received-does : {n : ℕ} → (received_into d frame m out).0 ≡ accepted n → Received frame (received_into d frame m out).1
    received-does g =
        let next = refusing m out (plain_of frame) (λ (place : Place). packet_into d (part_of frame place) m out) in
        let e = sized next g in rw e (receiving (plain_of frame) refl (rw e at g))
