-- How a packet that was written is read, one law for each layout of its fields.
use Prim.Native.Nat.{ℕ, ◌+◌, ◌-◌, ◌*◌, ◌/◌, ◌%◌, ◌^◌, ◌≤◌, ◌<◌}
use mathlib.Core.Path.{◌≡◌, refl, sym, ap, ◌∙◌}
use mathlib.Core.Bool.{false}
use mathlib.Core.List.{List, [], ◌∷◌, ◌++◌, append-nil}
use native.Mathlib.Nat.{mod-eq_of_lt}
use native.Mathlib.Omega.{arith}
use borrow.Author.Tests.{le-leb}
use lib.Dec.{leb, ltb}
use lib.ListN.{length, length-append}
use lib.Seq.{get_or-append-add}
use Rattle.octets.specs.Refusals.{ends}
use Rattle.octets.specs.Outcome.{accepted, refused}
use Rattle.octets.specs.Choice.{if_eq}
use Rattle.octets.specs.Number.{at, big_at, big_bytes}
use Rattle.octets.specs.Place.{place_at, floats_at, part_of, is_outside}
use Rattle.octets.specs.Reading.{rest}
use Rattle.octets.specs.declared.Place.{Place}
use Rattle.octets.proofs.Choosing.{above, below, tests}
use Rattle.octets.proofs.Parts.{length_part, was-inside}
use Rattle.octets.proofs.InBytes.{length-big, big-behind, big-back}
use Rattle.fields.specs.Addr.{width_if, wrong_length, addr_at, addr_bytes}
use Rattle.fields.specs.Value.{value_bytes}
use Rattle.fields.specs.Row.{packet_of}
use Rattle.fields.specs.Back.{cut, reread}
use Rattle.fields.specs.declared.addr.Addr.{Addr}
use Rattle.fields.specs.declared.row.Field.{Field}
use Rattle.fields.specs.declared.row.Field.TheVariants.{Byte, Word, Address, Coded, Payload, Floats}
use Rattle.fields.specs.declared.value.Value.{Value}
use Rattle.fields.proofs.Addrs.{by_length, length-addr}
use Rattle.fields.proofs.Rows.{sound-of}
use Rattle.fields.proofs.Settled.{Written}
use Rattle.fields.proofs.Back.{addr_back, value-back}
use Rattle.commands.specs.Decode.{command_of, command_by, values_at, five_from}
use Rattle.commands.specs.Encode.{values_of}
use Rattle.commands.specs.RoundTrip.{FourEach, NoneOf, kinds}
use Rattle.commands.specs.declared.Commands.TheVariants.{WriteMemory, WriteBiquad, WriteBiquadBypass, Read, Write, FirLoadData, SwitchMux, Unknown}

pub word_back : (k n : ℕ) (t : List ℕ) → n < 2 ^ 16 → big_at 2 (k ∷ (big_bytes 2 n ++ t)) 1 ≡ n
word_back k n t h = big-behind (k ∷ []) (big_bytes 2 n ++ t) 2 0 ∙ big-back 2 n t ∙ mod-eq_of_lt h

part_length : (p : List ℕ) (place : Place) → is_outside place (length p) ≡ false → length (part_of p place ++ []) ≡ place.len
part_length p place h = rw append-nil (length_part p place (was-inside place (length p) h))

fours : (p : List ℕ) (values : List Value) → FourEach p values → length (packet_of p (values_of values)) ≡ length values * 4
unfolding packet_of
fours p [] u = refl
fours p (v ∷ vs) u = rw (length-append, u.0, fours p vs u.1) (omega arith)

-- an address behind the command byte, and what stands behind it
record Headed (a : Addr) (bytes tail : List ℕ) : Type 0 where
  right : wrong_length a.len ≡ false
  here : addr_at a.len bytes 1 ≡ cut a
  count : length bytes ≡ a.len + 1 + length tail
  behind : (i j : ℕ) → j ≡ a.len + 1 + i → at bytes j ≡ at tail i

module _ (p packet : List ℕ) where
  -- by its command byte
  pub by_kind : (k : ℕ) (fs : List Field) → Written p (Byte k ∷ fs) packet → command_of packet ≡ command_by k (k ∷ packet_of p fs)
  unfolding command_of packet_of
  by_kind k fs w =
      let n : length (k ∷ packet_of p fs) ≤ 254 = rw w.is at w.short in
      rw w.is (sym (above _ _ _ _ _ n (above _ _ _ _ _ (omega arith) refl)))

  pub of-payload : (k : ℕ) (place : Place) → Written p (Byte k ∷ Payload place ∷ []) packet → rest 1 (k ∷ packet_of p (Payload place ∷ [])) ≡ place_at 1 place.len
  unfolding packet_of
  of-payload k place w = ap (place_at 1) (omega (arith, part_length p place (sound-of p (Byte k ∷ []) (Payload place) [] w.sound).placed))

  pub of-unknown : (k : ℕ) (place : Place) → NoneOf k kinds → Written p (Byte k ∷ Payload place ∷ []) packet → command_of packet ≡ accepted (Unknown k (place_at 1 place.len))
  unfolding packet_of command_by
  of-unknown k place u w = by_kind k (Payload place ∷ []) w ∙ sym (rw (← of-payload k place w) (search tests depth 30))

  pub of-memory : (addr : ℕ) (place : Place) → addr < 2 ^ 16 → Written p (Byte 0x04 ∷ Word addr ∷ Payload place ∷ []) packet → command_of packet ≡ accepted (WriteMemory addr (place_at 3 place.len))
  unfolding packet_of command_by if_eq
  of-memory addr place u w =
      let t : List ℕ = part_of p place ++ [] in
      let s = sound-of p (Byte 0x04 ∷ Word addr ∷ []) (Payload place) [] w.sound in
      let n : length (big_bytes 2 addr ++ t) ≡ 2 + place.len = rw (length-append, length-big, part_length p place s.placed) in
      let r : length (0x04 ∷ (big_bytes 2 addr ++ t)) - 3 ≡ place.len = omega arith in
      by_kind 0x04 (Word addr ∷ Payload place ∷ []) w ∙ rw (word_back 0x04 addr t u, r) (sym (above _ _ _ _ _ (omega arith) refl))

  pub of-floats : (index start count : ℕ) → Written p (Byte 0x3A ∷ Byte index ∷ Floats start count ∷ []) packet → command_of packet ≡ accepted (FirLoadData index (record { start = 2; count = count - 1 }))
  unfolding packet_of command_by if_eq
  of-floats index start count w =
      let t : List ℕ = part_of p (floats_at start count) ++ [] in
      let s = sound-of p (Byte 0x3A ∷ Byte index ∷ []) (Floats start count) [] w.sound in
      let n : length t ≡ count * 4 = part_length p (floats_at start count) s.placed in
      let r : (length (0x3A ∷ index ∷ t) - 3) / 4 ≡ count - 1 = omega arith in
      by_kind 0x3A (Byte index ∷ Floats start count ∷ []) w ∙ rw r (sym (above _ _ _ _ _ (omega arith) refl))

  -- ---- with an address: in the width that the count of bytes tells
  headed : (k : ℕ) (a : Addr) (fs : List Field) → Written p (Byte k ∷ Address a ∷ fs) packet → Headed a (k ∷ packet_of p (Address a ∷ fs)) (packet_of p fs)
  unfolding packet_of
  headed k a fs w =
      let right = (sound-of p (Byte k ∷ []) (Address a) fs w.sound).addressed in
      record {
        right = right;
        here = addr_back (k ∷ []) (packet_of p fs) a right;
        count = omega (arith, length-append (addr_bytes a) (packet_of p fs), length-addr a);
        behind = λ i j e. let f : j ≡ length (k ∷ addr_bytes a) + i = omega (arith, length-addr a) in rw f (get_or-append-add (k ∷ addr_bytes a) (packet_of p fs) i 0);
      }

  module _ (a : Addr) where
    pub of-read : (len : ℕ) → a.len ≡ 3 → Written p (Byte 0x02 ∷ Address a ∷ Byte len ∷ []) packet → command_of packet ≡ accepted (Read (cut a) len)
    unfolding packet_of command_by if_eq
    of-read len e w =
        let fs : List Field = Byte len ∷ [] in
        let h = headed 0x02 a fs w in
        let r : ℕ = length (0x02 ∷ packet_of p (Address a ∷ fs)) - 1 in
        let width : width_if (leb 3 r) ≡ a.len = rw (le-leb 3 r (omega arith)) (sym e) in
        by_kind 0x02 (Address a ∷ fs) w ∙ rw (width, h.here, h.behind 0 (a.len + 1) (omega arith)) (sym (above _ _ _ _ _ (omega arith) refl))

    pub of-narrow-read : (len : ℕ) → a.len ≡ 2 → Written p (Byte 0x02 ∷ Address a ∷ Byte len ∷ []) packet → command_of packet ≡ refused ends
    unfolding packet_of command_by if_eq
    of-narrow-read len e w =
        let h = headed 0x02 a (Byte len ∷ []) w in
        let r : ℕ = length (0x02 ∷ packet_of p (Address a ∷ Byte len ∷ [])) - 1 in
        by_kind 0x02 (Address a ∷ Byte len ∷ []) w ∙ rw (le-leb 3 r (omega arith)) (sym (below _ _ _ _ _ (omega arith) refl))

    pub of-write : (v : Value) → a.len ≡ width_if (leb 7 (a.len + length (value_bytes v p))) → Written p (Byte 0x13 ∷ Address a ∷ Coded v ∷ []) packet
        → command_of packet ≡ accepted (Write (cut a) (reread (value_bytes v p) (a.len + 1)))
    unfolding packet_of command_by if_eq
    of-write v e w =
        let bytes : List ℕ = value_bytes v p in
        let h = headed 0x13 a (Coded v ∷ []) w in
        let n : ℕ = length (0x13 ∷ packet_of p (Address a ∷ Coded v ∷ [])) in
        let r : n - 1 ≡ a.len + length bytes = omega (arith, length-append bytes []) in
        let width : width_if (leb 7 (n - 1)) ≡ a.len = rw r (sym e) in
        let value = value-back (0x13 ∷ addr_bytes a) (bytes ++ []) (a.len + 1) (n - (a.len + 1)) (omega (arith, length-addr a)) (omega arith) ∙ ap (λ (l : List ℕ). reread l (a.len + 1)) (append-nil bytes) in
        by_kind 0x13 (Address a ∷ Coded v ∷ []) w ∙ rw (width, h.here, value) (sym (above _ _ _ _ _ (omega arith) refl))

    pub of-bypass : Written p (Byte 0x19 ∷ Address a ∷ []) packet → command_of packet ≡ accepted (WriteBiquadBypass (cut a) a.extra_bit)
    unfolding packet_of command_by if_eq
    of-bypass w =
        let h = headed 0x19 a [] w in
        let n : ℕ = length (0x19 ∷ packet_of p (Address a ∷ [])) in
        let r : n - 1 ≡ a.len = omega arith in
        let width : width_if (ltb 2 (n - 1)) ≡ a.len = rw r (by_length (λ k. width_if (ltb 2 k) ≡ k) refl refl a.len h.right) in
        by_kind 0x19 (Address a ∷ []) w ∙ rw (width, h.here) (sym (above _ _ _ _ _ (omega arith) refl))

    pub of-mux : (m slot : ℕ) → a.len ≡ 2 → Written p (Byte 0x29 ∷ Address a ∷ Byte m ∷ Byte slot ∷ []) packet → command_of packet ≡ accepted (SwitchMux (record { addr = cut a; max = m % 128; arg = leb 128 m; slot = slot }))
    unfolding packet_of command_by if_eq
    of-mux m slot e w =
        let fs : List Field = Byte m ∷ Byte slot ∷ [] in
        let h = headed 0x29 a fs w in
        let here : addr_at 2 (0x29 ∷ packet_of p (Address a ∷ fs)) 1 ≡ cut a = ap (λ (k : ℕ). addr_at k (0x29 ∷ packet_of p (Address a ∷ fs)) 1) (sym e) ∙ h.here in
        by_kind 0x29 (Address a ∷ fs) w ∙ rw (here, h.behind 0 3 (omega arith), h.behind 1 4 (omega arith)) (sym (above _ _ _ _ _ (omega arith) refl))

    -- ---- with the five values
    module _ (values : List Value) (five : length values ≡ 5) (u : FourEach p values) (w : Written p (Byte 0x30 ∷ Address a ∷ Word 0 ∷ values_of values) packet) where
      biquad-width : (length (0x30 ∷ packet_of p (Address a ∷ Word 0 ∷ values_of values)) ≡ a.len + 23) × (width_if (ltb 24 (length (0x30 ∷ packet_of p (Address a ∷ Word 0 ∷ values_of values)) - 1)) ≡ a.len)
      unfolding packet_of big_bytes
      biquad-width =
          let h = headed 0x30 a (Word 0 ∷ values_of values) w in
          let n : ℕ = length (0x30 ∷ packet_of p (Address a ∷ Word 0 ∷ values_of values)) in
          let r : n - 1 ≡ a.len + 22 = omega (arith, fours p values u) in
          (omega (arith, fours p values u), rw r (by_length (λ k. width_if (ltb 24 (k + 22)) ≡ k) refl refl a.len h.right))

      pub of-biquad : command_of packet ≡ accepted (WriteBiquad (cut a))
      unfolding command_by if_eq
      of-biquad =
          let h = headed 0x30 a (Word 0 ∷ values_of values) w in
          by_kind 0x30 (Address a ∷ Word 0 ∷ values_of values) w
          ∙ rw (biquad-width.1, h.here) (sym (above _ _ _ _ _ (omega (arith, biquad-width.0)) (above _ _ _ _ _ (omega (arith, biquad-width.0)) refl)))

      pub values-of : values_at packet ≡ five_from (a.len + 3)
      unfolding values_at packet_of if_eq
      values-of =
          let n : length (0x30 ∷ packet_of p (Address a ∷ Word 0 ∷ values_of values)) ≤ 254 = rw w.is at w.short in
          rw w.is (sym (above _ _ _ _ _ n (rw biquad-width.1 (above _ _ _ _ _ (omega (arith, biquad-width.0)) refl))))
