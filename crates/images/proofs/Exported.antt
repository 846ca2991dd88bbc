-- Laws of an export: what a row's parts come to, that rows are put one behind the other, and what an export answers.
use Rattle.std.proofs.Common.{◌≡◌, ℕ, ◌+◌, ◌-◌, ◌%◌, ◌<◌, ◌≤◌, List, [], ◌∷◌, ◌++◌, length, take, drop, sym, refl, ap, ◌∙◌, append_assoc, add-one, arith, length-append}
use Rattle.octets.specs.Refusals.{no_room}
use Rattle.octets.specs.Number.{big_bytes}
use Rattle.octets.specs.Outcome.{accepted, refused}
use Rattle.octets.specs.Over.{over}
use Rattle.octets.proofs.Choosing.{below, above}
use Rattle.octets.proofs.InBytes.{length-big}
use Rattle.octets.proofs.Overlay.{over-next}
use Rattle.text.specs.Digits.{pairs_of}
use Rattle.text.proofs.Digits.{pairs-append}
use Rattle.packet.specs.Frame.{checksum_of}
use Rattle.packet.proofs.Frames.{total-append}
use Rattle.intel_hex.specs.Format.{hex_row, record_of, complement, closed_record, row_text}
use Rattle.intel_hex.specs.Writing.{export_rows, export_of, export_room}
use Rattle.intel_hex.proofs.Written.{export_line, length-export}
use Rattle.images.specs.Export.{exported_into}

-- ---- a row
-- what stands before its data
abbrev pub head_of : ℕ → ℕ → List ℕ
head_of count start = count ∷ (big_bytes 2 start ++ (0 ∷ []))

pub length-head : (count start : ℕ) → length (head_of count start) ≡ 4
length-head count start = rw (length-append, length-big)

module _ (start : ℕ) (bytes : List ℕ) where
  record-parts : head_of (length bytes) start ++ bytes ≡ record_of (hex_row start bytes)
  record-parts = ap (λ (l : List ℕ). length bytes ∷ l) (append_assoc (big_bytes 2 start) (0 ∷ []) bytes)

  sum-parts : (checksum_of (head_of (length bytes) start) + checksum_of bytes) % 256 ≡ checksum_of (record_of (hex_row start bytes))
  sum-parts = rw (← record-parts, total-append) (omega arith)

  -- its line, part by part
  pub line-parts : (h : List ℕ) (sum : ℕ) → h ≡ head_of (length bytes) start → sum ≡ complement ((checksum_of h + checksum_of bytes) % 256)
      → ((58 ∷ []) ++ pairs_of h) ++ ((pairs_of bytes ++ pairs_of (sum ∷ [])) ++ (10 ∷ [])) ≡ row_text (hex_row start bytes) ++ (10 ∷ [])
  unfolding row_text
  line-parts h sum e f =
      let front : h ++ bytes ≡ record_of (hex_row start bytes) = rw e record-parts in
      let last : sum ≡ complement (checksum_of (record_of (hex_row start bytes))) = f ∙ rw e (ap complement sum-parts) in
      let pairs : (pairs_of h ++ pairs_of bytes) ++ pairs_of (sum ∷ []) ≡ pairs_of (closed_record (hex_row start bytes)) = rw (← pairs-append h bytes, ← pairs-append (h ++ bytes) (sum ∷ []), front, last) in
      ap (λ (l : List ℕ). 58 ∷ l) (simp append_assoc) ∙ ap (λ (l : List ℕ). 58 ∷ (l ++ (10 ∷ []))) pairs

-- ---- the rows of an EEPROM, as they are put, one behind the other
module _ (eeprom : List ℕ) where
  pub rows_none : (l : List ℕ) → l ≡ over (export_rows eeprom 0) l
  unfolding export_rows over
  rows_none l = refl

  module _ (k at : ℕ) (l : List ℕ) (is : at ≡ length (export_rows eeprom k)) (room : at + length (export_line eeprom k) ≤ length l) {o y : List ℕ} (wrote : o ≡ over (export_rows eeprom k) l) (put : y ≡ over (export_line eeprom k) (take (length o - at) (drop at o))) where
    pub rows_next : (length (take at o ++ (y ++ drop (length o - at) (drop at o))) ≡ length l) × (take at o ++ (y ++ drop (length o - at) (drop at o)) ≡ over (export_rows eeprom (k + 1)) l)
    unfolding export_rows
    rows_next = over-next (export_rows eeprom k) l wrote (export_line eeprom k) y (export_rows eeprom (k + 1)) at (ap (export_rows eeprom) (add-one k)) put is room

-- ---- E bytes need exactly that room
module _ (e out : List ℕ) (sized : length e ≤ 65536) where
  pub export-accepted : export_room (length e) ≤ length out → exported_into e out ≡ (accepted (export_room (length e)), over (export_of e) out)
  export-accepted room = sym (above _ _ _ _ _ sized (rw (← length-export e) (above _ _ _ _ _ (omega (arith, length-export e)) refl)))

  pub export-refused : length out < export_room (length e) → exported_into e out ≡ (refused no_room, out)
  export-refused room = sym (above _ _ _ _ _ sized (below _ _ _ _ _ (omega (arith, length-export e)) refl))
