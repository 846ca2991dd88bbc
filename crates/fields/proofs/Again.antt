-- A row whose fields were read from a packet, one behind the other, is written as the packet's bytes.
use Rattle.std.proofs.Common.{◌≡◌, ℕ, ◌+◌, ◌*◌, ◌/◌, ◌%◌, ◌^◌, ◌<◌, ◌≤◌, false, leb, ◌⊎◌, List, [], ◌∷◌, length, take, drop, sym, refl, ◌∙◌, inl, inr, mod-lt, mod-eq_of_lt, div-lt_iff_lt-mul, div-add-mod', le-div_iff_mul-le, arith, lit<, take-append-drop, drop_of_length-le, drop-cons, drop-drop, le-leb}
use borrow.Author.Tests.{lt-leb}
use Rattle.octets.specs.Outcome.{accepted}
use Rattle.octets.specs.Number.{at, Octets, big_at, little_at, big_bytes, little_bytes}
use Rattle.octets.specs.Place.{place_at, floats_at, part_of}
use Rattle.octets.specs.declared.Place.{Place}
use Rattle.octets.proofs.Choosing.{above, lt-or-le, either-eq}
use Rattle.octets.proofs.InBytes.{big_lt, big-again, little-again, little-parts}
use Rattle.octets.proofs.Parts.{is-inside}
use Rattle.fields.specs.Addr.{bit, wrong_length, addr_at, addr_bytes}
use Rattle.fields.specs.Value.{value_at, value_bytes, value_outside}
use Rattle.fields.specs.Row.{field_bytes, packet_of, any_of, encoded_of}
use Rattle.fields.specs.Inside.{Writable, AllWritable}
use Rattle.fields.specs.Back.{Clear}
use Rattle.fields.specs.declared.row.Field.{Field}
use Rattle.fields.specs.declared.row.Field.TheVariants.{Byte, Word, Address, Coded, Payload, Floats}
use Rattle.fields.specs.declared.value.Value.{Value}
use Rattle.fields.specs.declared.value.Value.TheVariants.{Unknown}
use Rattle.fields.proofs.Addrs.{by_length}

-- a number below 16q whose bits from q up to 8q are clear is its remainder by q, and its top bit
again : (q n : ℕ) → 0 < q → n < 16 * q → n / q % 8 ≡ 0 → n % q % (8 * q) + bit (leb (8 * q) n) * (8 * q) ≡ n
again q n some short clear = go (lt-or-le n (8 * q))
  where
    small : n % q < q
    small = mod-lt n some

    low : n % q % (8 * q) ≡ n % q
    low = mod-eq_of_lt (omega (arith, small))

    go : (n < 8 * q) ⊎ (8 * q ≤ n) → n % q % (8 * q) + bit (leb (8 * q) n) * (8 * q) ≡ n
    go (inl h) =
        let d : n / q < 8 = (div-lt_iff_lt-mul {y = 8} some).1 h in
        let e : n / q ≡ 0 = omega arith in
        rw (lt-leb (8 * q) n h, low) (omega (arith, rw e at (div-add-mod' n q)))
    go (inr h) =
        let d : n / q < 16 = (div-lt_iff_lt-mul {y = 16} some).1 short in
        let c : 8 ≤ n / q = (le-div_iff_mul-le {x = 8} some).1 h in
        let e : n / q ≡ 8 = omega arith in
        rw (le-leb (8 * q) n h, low) (omega (arith, rw e at (div-add-mod' n q)))

module _ (p : List ℕ) (bytes : Octets p) where
  addr-again : (i k : ℕ) → wrong_length k ≡ false → Clear k p i → addr_bytes (addr_at k p i) ≡ big_bytes k (big_at k p i)
  unfolding addr_at addr_bytes
  addr-again i = by_length (λ k. Clear k p i → addr_bytes (addr_at k p i) ≡ big_bytes k (big_at k p i)) (λ c. rw (again (2 ^ 12) (big_at 2 p i) (lit< tt) (big_lt p bytes 2 i) c)) (λ c. rw (again (2 ^ 20) (big_at 3 p i) (lit< tt) (big_lt p bytes 3 i) c))

  -- a value that was read is written as the bytes at its place
  value-again : (place : Place) → place.start + place.len ≤ length p → (value_bytes (value_at p place) p ≡ part_of p place) × (value_outside (value_at p place) (length p) ≡ false)
  unfolding value_at part_of
  value-again place h =
      either-eq P place.len 4 _ _
      (λ four. either-eq P (little_at 2 p (place.start + 2)) 0 _ _
      (λ none. either-eq P (little_at 2 p place.start) 0 _ _ (λ zero. unknown) (λ some. (int four none, refl)))
      (λ more. unknown))
      (λ other. unknown)
    where
      P : Value → Type 0
      P v = (value_bytes v p ≡ take place.len (drop place.start p)) × (value_outside v (length p) ≡ false)

      unknown : P (Unknown place)
      unknown = (refl, sym (is-inside place (length p) h))

      int : place.len ≡ 4 → little_at 2 p (place.start + 2) ≡ 0 → little_bytes 4 (little_at 2 p place.start) ≡ take place.len (drop place.start p)
      int four none =
          let whole : little_at 4 p place.start ≡ little_at 2 p place.start = little-parts p 2 2 place.start ∙ rw none (omega arith) in
          rw (four, ← whole) (little-again p bytes 4 place.start (omega arith))

-- ---- a row of fields from the place i of a packet to its end
pub record From (p : List ℕ) (i : ℕ) (row : List Field) : Type 0 where
  pub is : packet_of p row ≡ drop i p
  pub sound : AllWritable p row

module _ (p : List ℕ) where
  -- it is written as the whole packet
  pub whole : (row : List Field) → length p ≤ 254 → From p 0 row → encoded_of p row ≡ accepted p
  unfolding encoded_of
  whole row h f = rw (f.sound.addressed, f.sound.placed, f.is) (sym (above _ _ _ _ _ h refl))

  pub ended : (i : ℕ) → length p ≤ i → From p i []
  unfolding packet_of any_of
  ended i h = record { is = sym (drop_of_length-le p h); sound = record { addressed = refl; placed = refl } }

  -- one field in front, whose bytes are the next m
  module _ (i m : ℕ) (f : Field) (fs : List Field) (is : field_bytes p f ≡ take m (drop i p)) (sound : Writable p f) where
    more : From p (i + m) fs → From p i (f ∷ fs)
    unfolding packet_of any_of
    more t = record { is = rw (is, t.is, ← drop-drop m i p) (take-append-drop m (drop i p)); sound = record { addressed = rw sound.addressed t.sound.addressed; placed = rw sound.placed t.sound.placed } }

  module _ (i : ℕ) (fs : List Field) where
    pub byte : (n : ℕ) → n ≡ at p i → i < length p → From p (i + 1) fs → From p i (Byte n ∷ fs)
    byte n e h = more i 1 (Byte n) fs (rw (drop-cons p i 0 h, e)) (record { addressed = refl; placed = refl })

    pub part : (m : ℕ) → i + m ≤ length p → From p (i + m) fs → From p i (Payload (place_at i m) ∷ fs)
    unfolding part_of
    part m h = more i m (Payload (place_at i m)) fs refl (record { addressed = refl; placed = sym (is-inside (place_at i m) (length p) h) })

    pub unknown : (m : ℕ) → i + m ≤ length p → From p (i + m) fs → From p i (Coded (Unknown (place_at i m)) ∷ fs)
    unfolding part_of
    unknown m h = more i m (Coded (Unknown (place_at i m))) fs refl (record { addressed = refl; placed = sym (is-inside (place_at i m) (length p) h) })

    pub floats : (count : ℕ) → i + count * 4 ≤ length p → From p (i + count * 4) fs → From p i (Floats i count ∷ fs)
    unfolding part_of
    floats count h = more i (count * 4) (Floats i count) fs refl (record { addressed = refl; placed = sym (is-inside (floats_at i count) (length p) h) })

    module _ (bytes : Octets p) where
      pub word : (n : ℕ) → n ≡ big_at 2 p i → i + 2 ≤ length p → From p (i + 2) fs → From p i (Word n ∷ fs)
      word n e h = more i 2 (Word n) fs (rw (e, big-again p bytes 2 i h)) (record { addressed = refl; placed = refl })

      pub address : (k : ℕ) → wrong_length k ≡ false → Clear k p i → i + k ≤ length p → From p (i + k) fs → From p i (Address (addr_at k p i) ∷ fs)
      unfolding addr_at
      address k right clear h = more i k (Address (addr_at k p i)) fs (addr-again p bytes i k right clear ∙ big-again p bytes k i h) (record { addressed = right; placed = refl })

      pub value : (m : ℕ) → i + m ≤ length p → From p (i + m) fs → From p i (Coded (value_at p (place_at i m)) ∷ fs)
      unfolding part_of
      value m h = let v = value-again p bytes (place_at i m) h in more i m (Coded (value_at p (place_at i m))) fs v.0 (record { addressed = refl; placed = v.1 })
