-- Reading what was written gives the record back, as far as it can: `back` says what comes back, and `Readable` of which records
-- that is proved (specs/RoundTrip.antt).
use Prim.Native.Nat.{ℕ, zero, suc, ◌+◌, ◌-◌, ◌*◌, ◌%◌, ◌^◌, ◌≤◌, ◌<◌}
use mathlib.Core.Path.{◌≡◌, refl, sym, ap, ◌∙◌}
use mathlib.Core.Bool.{Bool, true, false}
use mathlib.Core.List.{List, [], ◌∷◌, ◌++◌}
use native.Mathlib.Nat.{add-zero, le_of_suc-le-suc, mod-eq_of_lt}
use native.Mathlib.Omega.{arith}
use borrow.Author.Tests.{le-leb, lt-leb}
use lib.Dec.{leb}
use lib.ListN.{length, get_or, length-append}
use Rattle.octets.specs.Refusals.{ends}
use Rattle.octets.specs.Outcome.{accepted, refused}
use Rattle.octets.specs.Choice.{if_lt, if_eq, pick}
use Rattle.octets.specs.Number.{big_bytes}
use Rattle.octets.specs.Place.{place_at, floats_at, part_of, is_outside}
use Rattle.octets.specs.declared.Place.{Place}
use Rattle.octets.proofs.Choosing.{above, other}
use Rattle.octets.proofs.Parts.{length_part, was-inside, part-part, part-behind, part-between}
use Rattle.numbers.proofs.Gains.{gain-back}
use Rattle.fields.specs.Addr.{addr_of, bit, addr_bytes}
use Rattle.fields.specs.Value.{value_bytes}
use Rattle.fields.specs.Row.{packet_of, encoded_of}
use Rattle.fields.specs.declared.addr.Addr.{Addr}
use Rattle.fields.specs.declared.row.Field.{Field}
use Rattle.fields.specs.declared.row.Field.TheVariants.{Byte, Word, Address, Coded, Payload, Floats}
use Rattle.fields.specs.declared.value.Value.{Value}
use Rattle.fields.specs.declared.value.Value.TheVariants.{Int}
use Rattle.fields.proofs.Addrs.{length-addr}
use Rattle.fields.proofs.Rows.{sound-of, stands, packet-append}
use Rattle.fields.proofs.Settled.{Written, was-written}
use Rattle.fields.proofs.Back.{cut-whole, int-back}
use Rattle.commands.specs.Decode.{command_of, command_by, is_set, gain_of, values_at, no_values, five_from}
use Rattle.commands.specs.Encode.{command_row, mux_byte, values_of}
use Rattle.commands.specs.RoundTrip.{back, Readable, FourEach}
use Rattle.commands.specs.declared.Commands.{Commands}
use Rattle.commands.specs.declared.Commands.TheVariants.{ReadHardwareId, ReadFloats, WriteMemory, ReadMemory, SetConfig, SetSource, SetMute, SetVolume, WriteBiquad, WriteBiquadBypass, Read, Write, FirLoadStart, FirLoadData, FirLoadEnd, DiracBypass, BulkLoad, BulkLoadFilterData, Unk07, SwitchMux, Unknown}
use Rattle.commands.proofs.Layouts.{word_back, by_kind, of-payload, of-unknown, of-memory, of-floats, of-read, of-narrow-read, of-write, of-bypass, of-mux, of-biquad, values-of}

truth : (b : Bool) → is_set (bit b) ≡ b
truth true = refl
truth false = refl

mux : (max : ℕ) (arg : Bool) → (mux_byte max arg % 128 ≡ max % 128) × (leb 128 (mux_byte max arg) ≡ pick arg true (leb 128 max))
mux max true = (omega arith, le-leb 128 (128 + max % 128) (omega arith))
mux max false = (refl, refl)

-- what stands past the end of a list of values
abbrev pub no_value : Value
no_value = Int 0

nth : (p : List ℕ) (values : List Value) → FourEach p values → (i : ℕ) → i < length values → part_of (packet_of p (values_of values)) (place_at (i * 4) 4) ≡ value_bytes (get_or values i no_value) p
unfolding packet_of
nth p [] u i h = absurd (omega arith)
nth p (v ∷ vs) u zero h = part-between [] (value_bytes v p) (packet_of p (values_of vs)) 0 4 refl (sym u.0)
nth p (v ∷ vs) u (suc i) h =
    let e : suc i * 4 ≡ length (value_bytes v p) + i * 4 = omega (arith, u.0) in
    rw e (part-behind (value_bytes v p) (packet_of p (values_of vs)) (i * 4) 4 ∙ nth p vs u.1 i (le_of_suc-le-suc h))

module _ (p : List ℕ) (values : List Value) (packet : List ℕ) where
  reads : (c : Commands) → Readable p values c → Written p (command_row c values) packet → command_of packet ≡ accepted (back p c)
  unfolding packet_of command_by if_eq if_lt big_bytes
  reads ReadHardwareId u w = by_kind p packet _ _ w
  reads (ReadFloats addr len) u w = by_kind p packet _ _ w ∙ ap (λ (n : ℕ). accepted (ReadFloats n len)) (word_back 0x14 addr (len ∷ []) u)
  reads (WriteMemory addr place) u w = of-memory p packet addr place u w
  reads (ReadMemory addr size) u w = by_kind p packet _ _ w ∙ ap (λ (n : ℕ). accepted (ReadMemory n size)) (word_back 0x05 addr (size ∷ []) u)
  reads (SetConfig config reset) u w = by_kind p packet _ _ w ∙ ap (λ (b : Bool). accepted (SetConfig config b)) (truth reset)
  reads (SetSource source) u w = by_kind p packet _ _ w
  reads (SetMute value) u w = by_kind p packet _ _ w ∙ ap (λ (b : Bool). accepted (SetMute b)) (truth value)
  reads (SetVolume gain) u w = by_kind p packet _ _ w
  reads (WriteBiquad addr) u w = of-biquad p packet addr values u.0 u.1 w
  reads (WriteBiquadBypass addr value) u w = of-bypass p packet (addr_of addr.val addr.len value) w
  reads (Read addr len) u w = of-read p packet addr len u w
  reads (Write addr value) u w = of-write p packet addr value u w
  reads (FirLoadStart index) u w = by_kind p packet _ _ w
  reads (FirLoadData index floats) u w = of-floats p packet index floats.start floats.count w
  reads FirLoadEnd u w = by_kind p packet _ _ w
  reads (DiracBypass value) u w = by_kind p packet _ _ w
  reads (BulkLoad payload) u w = by_kind p packet _ _ w ∙ ap (λ (place : Place). accepted (BulkLoad place)) (of-payload p packet _ payload w)
  reads (BulkLoadFilterData payload) u w = by_kind p packet _ _ w ∙ ap (λ (place : Place). accepted (BulkLoadFilterData place)) (of-payload p packet _ payload w)
  reads (Unk07 payload) u w = by_kind p packet _ _ w
  reads (SwitchMux m) u w =
      let byte = mux m.max m.arg in of-mux p packet m.addr (mux_byte m.max m.arg) m.slot u w ∙ rw (byte.0, byte.1)
  reads (Unknown id payload) u w = of-unknown p packet id payload u w

  pub written_read : (c : Commands) → Readable p values c → encoded_of p (command_row c values) ≡ accepted packet → command_of packet ≡ accepted (back p c)
  written_read c u e = reads c u (was-written p (command_row c values) packet e)

  -- "So r = 3 is refused with 3"
  pub narrow-read : (addr : Addr) (len : ℕ) → addr.len ≡ 2 → encoded_of p (command_row (Read addr len) values) ≡ accepted packet → command_of packet ≡ refused ends
  narrow-read addr len h e = of-narrow-read p packet addr len h (was-written p (command_row (Read addr len) values) packet e)

  -- ---- the bytes at the places that come back are those that were written
  inside : (place : Place) → is_outside place (length p) ≡ false → place.len ≡ length (part_of p place)
  inside place h = sym (length_part p place (was-inside place (length p) h))

  part-kept : (before : List Field) (place : Place) (n : ℕ) → n ≡ length (packet_of p before) → encoded_of p (before ++ (Payload place ∷ [])) ≡ accepted packet → part_of packet (place_at n place.len) ≡ part_of p place
  part-kept before place n h e =
      let w = was-written p (before ++ (Payload place ∷ [])) packet e in
      rw w.is (stands p before [] (Payload place) n place.len h (inside place (sound-of p before (Payload place) [] w.sound).placed))

  pub payload-kept : (k : ℕ) (place : Place) → encoded_of p (Byte k ∷ Payload place ∷ []) ≡ accepted packet → part_of packet (place_at 1 place.len) ≡ part_of p place
  unfolding packet_of
  payload-kept k place = part-kept (Byte k ∷ []) place 1 refl

  pub memory_kept : (addr : ℕ) (place : Place) → encoded_of p (command_row (WriteMemory addr place) values) ≡ accepted packet → part_of packet (place_at 3 place.len) ≡ part_of p place
  unfolding packet_of big_bytes
  memory_kept addr place = part-kept (Byte 0x04 ∷ Word addr ∷ []) place 3 refl

  pub dirac-kept : (value : ℕ) → encoded_of p (command_row (DiracBypass value) values) ≡ accepted packet → part_of packet (place_at 1 1) ≡ value ∷ []
  unfolding packet_of
  dirac-kept value e = rw (was-written p (command_row (DiracBypass value) values) packet e).is (stands p (Byte 0x3F ∷ []) [] (Byte value) 1 1 refl refl)

  pub value-kept : (addr : Addr) (value : Value) → encoded_of p (command_row (Write addr value) values) ≡ accepted packet → part_of packet (place_at (addr.len + 1) (length (value_bytes value p))) ≡ value_bytes value p
  unfolding packet_of
  value-kept addr value e =
      let w = was-written p (Byte 0x13 ∷ Address addr ∷ Coded value ∷ []) packet e in
      let n : addr.len + 1 ≡ length (0x13 ∷ (addr_bytes addr ++ [])) = omega (arith, length-addr addr, length-append (addr_bytes addr) []) in
      rw w.is (stands p (Byte 0x13 ∷ Address addr ∷ []) [] (Coded value) (addr.len + 1) (length (value_bytes value p)) n refl)

  pub floats-kept : (index start count : ℕ) → encoded_of p (command_row (FirLoadData index (record { start = start; count = count })) values) ≡ accepted packet
      → part_of packet (floats_at 2 (count - 1)) ≡ part_of p (floats_at start (count - 1))
  unfolding packet_of
  floats-kept index start count e =
      let w = was-written p (Byte 0x3A ∷ Byte index ∷ Floats start count ∷ []) packet e in
      let placed = (sound-of p (Byte 0x3A ∷ Byte index ∷ []) (Floats start count) [] w.sound).placed in
      let whole : Place = floats_at start count in
      let n : length packet ≡ 2 + count * 4 = rw w.is (omega (arith, inside whole placed, length-append (part_of p whole) [])) in
      let all : part_of packet (place_at 2 (count * 4)) ≡ part_of p whole = rw w.is (stands p (Byte 0x3A ∷ Byte index ∷ []) [] (Floats start count) 2 (count * 4) refl (inside whole placed)) in
      part-part packet 2 (count * 4) 0 ((count - 1) * 4) (omega arith) (omega arith)
      ∙ rw all (sym (rw add-zero at (part-part p start (count * 4) 0 ((count - 1) * 4) (was-inside whole (length p) placed) (omega arith))))

  -- the five values of a biquad stand beside the command that comes back, each where its bytes stand
  pub values-kept : (addr : Addr) → Readable p values (WriteBiquad addr) → encoded_of p (command_row (WriteBiquad addr) values) ≡ accepted packet
      → (values_at packet ≡ five_from (addr.len + 3)) × ((i : ℕ) → i < 5 → part_of packet (place_at (addr.len + 3 + i * 4) 4) ≡ value_bytes (get_or values i no_value) p)
  unfolding packet_of big_bytes
  values-kept addr u e =
      let w = was-written p (command_row (WriteBiquad addr) values) packet e in
      let front : List ℕ = packet_of p (Byte 0x30 ∷ Address addr ∷ Word 0 ∷ []) in
      let n : addr.len + 3 ≡ length front = omega (arith, length-addr addr, length-append (addr_bytes addr) (0 ∷ 0 ∷ [])) in
      let split : packet ≡ front ++ packet_of p (values_of values) = w.is ∙ packet-append p (Byte 0x30 ∷ Address addr ∷ Word 0 ∷ []) (values_of values) in (
        values-of p packet addr values u.0 u.1 w,
        λ i h. rw (split, n) (part-behind front (packet_of p (values_of values)) (i * 4) 4 ∙ nth p values u.1 i (omega (arith, u.0))),
      )

  -- beside any other command stands the default
  pub no-values : (k : ℕ) (fs : List Field) → (k ≡ 0x30 → ⊥) → encoded_of p (Byte k ∷ fs) ≡ accepted packet → values_at packet ≡ no_values
  unfolding values_at packet_of
  no-values k fs n e =
      let w = was-written p (Byte k ∷ fs) packet e in
      let short : length (k ∷ packet_of p fs) ≤ 254 = rw w.is at w.short in
      rw w.is (sym (above _ _ _ _ _ short (other _ _ _ _ _ n refl)))

-- ---- where nothing is lost: an address that its mask leaves whole, an Int that is not 0, a mux of seven bits, a byte's gain
picked : (b : Bool) → pick b true false ≡ b
picked true = refl
picked false = refl

module _ (p : List ℕ) (addr : Addr) (whole : addr.val < 2 ^ (8 * addr.len - 4)) where
  pub read_whole : (len : ℕ) → back p (Read addr len) ≡ Read addr len
  read_whole len = rw (cut-whole addr whole)

  pub write-whole : (n : ℕ) → 0 < n → n < 2 ^ 16 → back p (Write addr (Int n)) ≡ Write addr (Int n)
  write-whole n some h = rw (cut-whole addr whole, int-back n p (addr.len + 1) some h)

  pub biquad-whole : back p (WriteBiquad addr) ≡ WriteBiquad addr
  biquad-whole = rw (cut-whole addr whole)

  pub bypass-whole : back p (WriteBiquadBypass addr addr.extra_bit) ≡ WriteBiquadBypass addr addr.extra_bit
  bypass-whole = rw (cut-whole addr whole)

  pub mux-whole : (max : ℕ) (arg : Bool) (slot : ℕ) → max < 128
      → let mux = SwitchMux (record { addr = addr; max = max; arg = arg; slot = slot }) in back p mux ≡ mux
  mux-whole max arg slot h = rw (cut-whole addr whole, mod-eq_of_lt h, lt-leb 128 max h, picked arg)

pub volume-whole : (p : List ℕ) (k : ℕ) → k < 256 → back p (SetVolume (gain_of k)) ≡ SetVolume (gain_of k)
volume-whole p k h = rw (gain-back k h)
