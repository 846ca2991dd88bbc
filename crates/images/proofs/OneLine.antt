-- A line that is read: its bytes stand at the start of a buffer of 260, and one that has no room there is malformed.
use Rattle.std.proofs.Common.{◌≡◌, ℕ, ◌/◌, ◌%◌, ◌<◌, ◌≤◌, Bool, true, false, List, length, take, drop, sym, refl, ap, ◌∙◌, arith, length-take-le, take_at}
use mathlib.Core.Option.{some}
use Rattle.octets.specs.Refusals.{malformed}
use Rattle.octets.specs.Outcome.{accepted, refused, on_accepted, and_then}
use Rattle.octets.specs.Choice.{pick, if_lt, if_eq}
use Rattle.octets.specs.Number.{at}
use Rattle.octets.specs.Over.{over}
use Rattle.octets.specs.Place.{place_at, part_of}
use Rattle.octets.proofs.Choosing.{above, same, other, either_lt, either-eq}
use Rattle.octets.proofs.Overlay.{length_over}
use Rattle.octets.proofs.Parts.{length_part, part-part}
use Rattle.text.specs.Read.{not_digits, pairs_in, pairs_into}
use Rattle.text.proofs.Reading.{length-pairs-in}
use Rattle.intel_hex.specs.Format.{hex_row}
use Rattle.intel_hex.specs.Reading.{record_in, line_in}
use Rattle.images.specs.Inside.{Line, lined, Held, extent_of, extent_told}
use Rattle.std.specs.Prelude.{Ok, Err, Option as OrNone, Some, None}
use Rattle.intel_hex.proofs.Letters.{octets-in}

-- more bytes than the largest count asks for
too_many : (bytes : List ℕ) → at bytes 0 < 256 → 260 < length bytes → refused malformed ≡ record_in bytes
unfolding record_in
too_many bytes byte h = above _ _ _ _ _ (omega arith) (other _ _ _ _ _ (λ e. omega arith) refl)

take-over : (w l : List ℕ) (n : ℕ) → n ≡ length w → take n (over w l) ≡ w
unfolding over
take-over w l n h = take_at w (drop (length w) l) n (sym h)

no_bytes_lem : (n : ℕ) (o o' : List ℕ) → ◌≡◌ {A = OrNone ℕ × List ℕ} (Some n, o) (None, o') → ⊥
no_bytes_lem n o o' e = let z : Some n ≡ None = ap (λ (p : OrNone ℕ × List ℕ). p.0) e in let k : ◌≡◌ {A = ℕ} 0 1 = cc in omega arith

pub no-colon : (line : List ℕ) → (at line 0 ≡ 58 → ⊥) → refused malformed ≡ line_in line
unfolding line_in
no-colon line h = ap (λ o. and_then o record_in) (other _ _ _ _ _ h refl)

module _ (line : List ℕ) (colon : at line 0 ≡ 58) where
  abbrev digits : List ℕ
  digits = drop 1 line

  by_digits : (b : Bool) → not_digits digits ≡ b → line_in line ≡ and_then (pick b (refused malformed) (if_eq (length digits % 2) 1 (refused malformed) (accepted (pairs_in digits)))) record_in
  unfolding line_in
  by_digits b e = ap (λ o. and_then o record_in) (sym (same _ _ _ _ _ colon refl)) ∙ rw e

  -- what is read: its bytes
  pub record Reading (n : ℕ) (o : List ℕ) : Type 0 where
    pub room : n ≤ length o
    pub short : n ≤ 260
    pub front : take n o ≡ pairs_in digits
    pub says : line_in line ≡ record_in (pairs_in digits)

  module _ (out : List ℕ) (long : length out ≡ 260) where
    pub well-read : (n : ℕ) (o : List ℕ) → (Some n, o) ≡ pairs_into digits out → Reading n o
    well-read n o = go (not_digits digits) refl
      where
        P : OrNone ℕ × List ℕ → Type 0
        P r = (Some n, o) ≡ r → Reading n o

        go : (b : Bool) → not_digits digits ≡ b → P (pick b (None, out) (if_eq (length digits % 2) 1 (None, out) (if_lt (length out) (length digits / 2) (None, out) (Some (length digits / 2), over (pairs_in digits) out))))
        go true e = λ h. absurd (no_bytes_lem _ _ _ h)
        go false e =
            either-eq P _ _ _ _ (λ odd h. absurd (no_bytes_lem _ _ _ h))
            (λ even. either_lt P _ _ _ _ (λ full h. absurd (no_bytes_lem _ _ _ h)) (λ room h. taken e even room (ap (λ (r : OrNone ℕ × List ℕ). r.0) h) (ap (λ (r : OrNone ℕ × List ℕ). r.1) h)))
          where
            taken : not_digits digits ≡ false → (length digits % 2 ≡ 1 → ⊥) → length digits / 2 ≤ length out → Some n ≡ Some (length digits / 2) → o ≡ over (pairs_in digits) out → Reading n o
            taken e even room count is =
                let m : n ≡ length (pairs_in digits) = rw length-pairs-in cc in
                let fits : length (pairs_in digits) ≤ length out = rw length-pairs-in room in
                record {
                  room = rw (is, length_over (pairs_in digits) out fits) (omega arith);
                  short = omega arith;
                  front = rw is (take-over (pairs_in digits) out n m);
                  says = by_digits false e ∙ ap (λ o. and_then o record_in) (sym (other _ _ _ _ _ even refl));
                }

    pub badly-read : (o : List ℕ) → (None, o) ≡ pairs_into digits out → refused malformed ≡ line_in line
    badly-read o = go (not_digits digits) refl
      where
        P : OrNone ℕ × List ℕ → Type 0
        P r = (None, o) ≡ r → refused malformed ≡ line_in line

        go : (b : Bool) → not_digits digits ≡ b → P (pick b (None, out) (if_eq (length digits % 2) 1 (None, out) (if_lt (length out) (length digits / 2) (None, out) (Some (length digits / 2), over (pairs_in digits) out))))
        go true e = λ h. sym (by_digits true e)
        go false e =
            either-eq P _ _ _ _ (λ odd h. sym (by_digits false e ∙ ap (λ o. and_then o record_in) (sym (same _ _ _ _ _ odd refl))))
            (λ even. either_lt P _ _ _ _ (λ full h. long-line e even full) (λ room h. absurd (no_bytes_lem _ _ _ (sym h))))
          where
            long-line : not_digits digits ≡ false → (length digits % 2 ≡ 1 → ⊥) → length out < length digits / 2 → refused malformed ≡ line_in line
            long-line e even full =
                too_many (pairs_in digits) (octets-in digits e 0) (rw length-pairs-in (omega arith))
                ∙ sym (by_digits false e ∙ ap (λ o. and_then o record_in) (sym (other _ _ _ _ _ even refl)))

-- ---- the line, whichever buffer has its bytes
pub longer : (r : Line) (n : ℕ) (o : List ℕ) → n ≤ length o → Held n r → lined (take n o) r ≡ lined o r
unfolding part_of
longer (Ok (Some row)) n o room h = ap (λ (bytes : List ℕ). accepted (some (hex_row row.start bytes))) (sym (part-part o 0 n 4 row.count (omega arith) (omega arith)))
longer (Ok None) n o room h = refl
longer (Err k) n o room h = refl

pub held_more : (r : Line) (n m : ℕ) → n ≤ m → Held n r → Held m r
held_more (Ok (Some row)) n m h g = omega arith
held_more (Ok None) n m h g = tt
held_more (Err k) n m h g = tt

-- a record that is read at the start of the buffer
pub line_read : (line : List ℕ) (colon : at line 0 ≡ 58) (n : ℕ) (o : List ℕ) → Reading line colon n o → (bytes : List ℕ) → bytes ≡ take n o
    → (r : Line) → (lined bytes r ≡ record_in bytes) × Held (length bytes) r → (lined o r ≡ line_in line) × Held 260 r
line_read line colon n o reading bytes e r h =
    let m : length bytes ≡ n = rw e (length-take-le n o reading.room) in
    let held : Held n r = rw m at h.1 in
    (sym (longer r n o reading.room held) ∙ rw e at h.0 ∙ rw reading.front (sym reading.says), held_more r n 260 reading.short held)

pub sizes-told : (r : Line) (o : List ℕ) → Held (length o) r → extent_told r ≡ on_accepted extent_of (lined o r)
sizes-told (Ok (Some row)) o h = rw (length_part o (place_at 4 row.count) (omega arith))
sizes-told (Ok None) o h = refl
sizes-told (Err k) o h = refl
