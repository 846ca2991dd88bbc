-- What a call names is bytes for the EEPROM and words for the settings: it was read from bytes, or is of its type.
use Prim.Native.Nat.{ℕ, ◌<◌, min}
use mathlib.Core.Path.{◌≡◌, refl, subst}
use mathlib.Core.Bool.{Bool, true, false}
use mathlib.Core.List.{List, [], ◌∷◌}
use native.Mathlib.Omega.{arith}
use lib.Dec.{lit<}
use lib.Ieee.{binary32, to_bits}
use Rattle.octets.specs.Outcome.{Outcome, accepted, refused, on_accepted, and_then}
use Rattle.octets.specs.Choice.{if_eq}
use Rattle.octets.specs.Number.{at, Octets}
use Rattle.octets.specs.Place.{part_of}
use Rattle.octets.specs.Reading.{needing}
use Rattle.octets.specs.declared.Place.{Place}
use Rattle.octets.proofs.Choosing.{either-eq, was-above}
use Rattle.octets.proofs.Outcomes.{same-value}
use Rattle.octets.proofs.InBytes.{little-lt}
use Rattle.octets.proofs.Bytes.{big-octets, little-octets, part-octets}
use Rattle.packet.specs.Receipt.{plain_of}
use Rattle.numbers.specs.Gain.{gain_byte}
use Rattle.fields.specs.Addr.{bit}
use Rattle.fields.specs.Value.{value_bytes}
use Rattle.fields.specs.declared.value.Value.{Value}
use Rattle.fields.specs.declared.value.Value.TheVariants.{Float, FixedPoint, Int, Int32, Unknown as UnknownValue}
use Rattle.commands.specs.Decode.{command_of, command_by}
use Rattle.commands.specs.declared.Commands.{Commands}
use Rattle.commands.specs.declared.Commands.TheVariants.{ReadHardwareId, ReadFloats, WriteMemory, ReadMemory, SetConfig, SetSource, SetMute, SetVolume, WriteBiquad, WriteBiquadBypass, Read, Write, FirLoadStart, FirLoadData, FirLoadEnd, DiracBypass, BulkLoad, BulkLoadFilterData, Unk07, SwitchMux, Unknown}
use Rattle.device.specs.Names.{names}
use Rattle.history.specs.Types.{OfTypes}
use Rattle.history.specs.History.{Call, bare, new, receive, execute, execute-into, write-u8, write-u16, write-u32, set-serial, set-timestamp, store-image, replay, save, if_read, AllOctets, frame_names, frames_names, frames_in, named}
use Rattle.history.proofs.Replays.{frames-octets}
use Rattle.history.proofs.Fits.{AllFit, both-fit, byte, blank-fit, new-fit}

value-octets : (v : Value) (p : List ℕ) → Octets p → Octets (value_bytes v p)
value-octets (Float x) p octets = little-octets 4 (to_bits binary32 x)
value-octets (FixedPoint x) p octets = big-octets 4 x.0
value-octets (Int n) p octets = little-octets 4 n
value-octets (Int32 n) p octets = big-octets 4 n
value-octets (UnknownValue part) p octets = part-octets p part octets

-- ---- a command that is read is of its types
read-of-types : (p : List ℕ) → Octets p → (c : Commands) → command_of p ≡ accepted c → OfTypes c
unfolding command_of command_by
read-of-types p octets c h =
    let some = (was-above _ _ _ _ (was-above _ _ _ _ h).1).1 in
    kind 0x02 (given _ _ tt) (kind 0x04 (given _ _ tt) (kind 0x05 (given _ _ tt) (kind 0x06 (is _ tt) (kind 0x07 (given _ _ tt) (kind 0x12 (is _ tt)
    (kind 0x13 (given _ _ tt) (kind 0x14 (given _ _ tt) (kind 0x17 (given _ _ tt) (kind 0x19 (given _ _ tt) (kind 0x25 (given _ _ (octets 1))
    (kind 0x31 (is _ tt) (kind 0x29 (given _ _ tt) (kind 0x30 (λ e. is _ tt (was-above _ _ _ _ (was-above _ _ _ _ e).1).1) (kind 0x34 (given _ _ (octets 1))
    (kind 0x39 (given _ _ tt) (kind 0x3A (given _ _ tt) (kind 0x3B (is _ tt) (kind 0x42 (given _ _ tt) (is _ tt))))))))))))))))))) some
  where
    G : Outcome Commands → Type 0
    G o = o ≡ accepted c → OfTypes c

    kind : {x y : Outcome Commands} (b : ℕ) → G x → G y → G (if_eq (at p 0) b x y)
    kind b f g = either-eq G (at p 0) b _ _ (λ e. f) (λ n. g)

    is : (x : Commands) → OfTypes x → G (accepted x)
    is x typed e = subst OfTypes (same-value e) typed

    given : (n : ℕ) (x : Commands) → OfTypes x → G (needing n p x)
    given n x typed e = is x typed (was-above _ _ _ _ e).1

-- ---- commands
min-lt : (n : ℕ) → min n 255 < 256
min-lt n = omega arith

gain-lt : (bits : ℕ) → gain_byte bits < 256
unfolding gain_byte
gain-lt bits = either-eq (λ n. n < 256) _ _ _ _ (λ h. either-eq (λ n. n < 256) _ _ _ _ (λ g. lit< tt) (λ g. lit< tt)) (λ h. min-lt _)

bit-lt : (b : Bool) → bit b < 256
bit-lt true = lit< tt
bit-lt false = lit< tt

module _ (p : List ℕ) (octets : Octets p) where
  names-fit : (c : Commands) → OfTypes c → AllFit (names p c)
  names-fit (WriteMemory a place) typed = (part-octets p place octets, tt)
  names-fit (Write a v) typed = either-eq AllFit _ _ _ _ (λ h. (little-lt (value_bytes v p) (value-octets v p octets) 4 0, tt)) (λ h. tt)
  names-fit (SetConfig config reset) typed = (byte config typed, tt)
  names-fit (SetSource n) typed = (byte n typed, tt)
  names-fit (SetMute value) typed = (byte _ (bit-lt value), tt)
  names-fit (SetVolume gain) typed = (byte _ (gain-lt (to_bits binary32 gain.0)), tt)
  names-fit ReadHardwareId typed = tt
  names-fit (ReadMemory a size) typed = tt
  names-fit (ReadFloats a len) typed = tt
  names-fit (FirLoadStart index) typed = tt
  names-fit (Unk07 payload) typed = tt
  names-fit (Read a len) typed = tt
  names-fit (WriteBiquad a) typed = tt
  names-fit (WriteBiquadBypass a value) typed = tt
  names-fit (FirLoadData index floats) typed = tt
  names-fit FirLoadEnd typed = tt
  names-fit (DiracBypass value) typed = tt
  names-fit (BulkLoad payload) typed = tt
  names-fit (BulkLoadFilterData payload) typed = tt
  names-fit (SwitchMux mux) typed = tt
  names-fit (Unknown id payload) typed = tt

  packet-fit : (o : Outcome Commands) → command_of p ≡ o → AllFit (if_read (on_accepted (names p) o))
  packet-fit (accepted c) h = names-fit c (read-of-types p octets c h)
  packet-fit (refused k) h = tt

-- ---- frames
frame-fit : (frame : List ℕ) → Octets frame → AllFit (frame_names frame)
frame-fit frame octets = received (plain_of frame)
  where
    received : (o : Outcome Place) → AllFit (if_read (and_then o (λ (part : Place). on_accepted (names (part_of frame part)) (command_of (part_of frame part)))))
    received (accepted part) = packet-fit (part_of frame part) (part-octets frame part octets) (command_of (part_of frame part)) refl
    received (refused k) = tt

frames-fit : (frames : List (List ℕ)) → AllOctets frames → AllFit (frames_names frames)
frames-fit [] octets = tt
frames-fit (frame ∷ frames) octets = both-fit (frame_names frame) _ (frame-fit frame octets.0) (frames-fit frames octets.1)

pub named-fit : (e s : ℕ) (c : Call) → AllFit (named e s c)
named-fit e s (bare made) = blank-fit e s
named-fit e s (new made typed meters) = new-fit made.dsp_version typed meters e s
named-fit e s (receive d frame octets out) = frame-fit frame octets
named-fit e s (execute d c typed p octets out) = names-fit p octets c typed
named-fit e s (execute-into d c typed p octets out) = names-fit p octets c typed
named-fit e s (write-u8 a value typed) = (byte value typed, tt)
named-fit e s (write-u16 a value typed) = (big-octets 2 _, tt)
named-fit e s (write-u32 a value typed) = (big-octets 4 _, tt)
named-fit e s (set-serial value typed) = (big-octets 4 _, tt)
named-fit e s (set-timestamp value typed) = (big-octets 4 _, (big-octets 2 _, tt))
named-fit e s (store-image image octets) = (octets, tt)
named-fit e s (replay l octets) = frames-fit (frames_in l) (frames-octets l octets)
named-fit e s (save out) = tt
