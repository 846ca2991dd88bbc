-- The rows of an export make the EEPROM: so importing it gives the EEPROM back.
use Rattle.std.proofs.Common.{◌≡◌, ℕ, zero, suc, ◌+◌, ◌-◌, ◌*◌, ◌/◌, ◌<◌, ◌≤◌, ◌⊎◌, List, [], ◌∷◌, ◌++◌, length, take, drop, ap, ◌∙◌, inl, inr, append_assoc, arith, get_or-drop, get_or-take, take_at, ext_get_or}
use mathlib.Core.Option.{Option, some}
use Rattle.octets.specs.Outcome.{accepted}
use Rattle.octets.specs.Number.{at, Octets}
use Rattle.octets.specs.Over.{over}
use Rattle.octets.proofs.Choosing.{lt-or-le}
use Rattle.processor.specs.Puts.{or_before}
use Rattle.intel_hex.specs.Format.{HexRow, RowsFit}
use Rattle.intel_hex.specs.Writing.{export_row, rows_for, export_of, export_room}
use Rattle.intel_hex.proofs.Written.{length-bytes, length-export, rows_up_to, all_rows, all_fit, export-is-hex}
use Rattle.images.specs.Import.{image_of, named_at, imported_into}
use Rattle.images.specs.Export.{exported_into}
use Rattle.images.proofs.Image.{length-image, byte-of-image, named_by}
use Rattle.images.proofs.Imported.{hex-imported}
use Rattle.images.proofs.Exported.{export-accepted}

module _ (eeprom : List ℕ) (bytes : Octets eeprom) (sized : length eeprom ≤ 65536) where
  abbrev e : ℕ
  e = length eeprom

  -- the j-th row stands among the first k
  abbrev Among : ℕ → ℕ → Type 0
  Among j k = (b : List HexRow) × (rows_up_to eeprom k ≡ rows_up_to eeprom j ++ (export_row eeprom j ∷ b))

  among-more : (j k : ℕ) → j < suc k → (j < k → Among j k) → Among j (suc k)
  unfolding rows_up_to
  among-more j k h earlier = go (lt-or-le j k)
    where
      go : (j < k) ⊎ (k ≤ j) → Among j (suc k)
      go (inl g) = ((earlier g).0 ++ (export_row eeprom k ∷ []), rw (earlier g).1 (append_assoc (rows_up_to eeprom j) (export_row eeprom j ∷ (earlier g).0) (export_row eeprom k ∷ [])))
      go (inr g) = let same : k ≡ j = omega arith in ([], rw same)

  among : (j k : ℕ) → j < k → Among j k
  among j zero h = absurd (omega arith)
  among j (suc k) h = among-more j k h (among j k)

  byte-named : (i : ℕ) → i < e → named_at (all_rows eeprom) i ≡ some (at eeprom i)
  unfolding rows_for
  byte-named i h =
      let j : ℕ = i / 16 in
      let there = among j (rows_for e) (omega arith) in
      let fit : RowsFit e [] (rows_up_to eeprom j ++ (export_row eeprom j ∷ there.0)) = rw there.1 at (all_fit eeprom bytes sized) in
      let back : 16 * j + (i - 16 * j) ≡ i = omega arith in
      rw (there.1, named_by e [] (rows_up_to eeprom j) (export_row eeprom j) there.0 i fit (omega arith, omega (arith, length-bytes eeprom j)), get_or-take 16 (drop (16 * j) eeprom) (i - 16 * j) 0 (omega arith), get_or-drop, back)

  pub image-of-export : image_of e (all_rows eeprom) ≡ eeprom
  image-of-export =
      let long : length (image_of e (all_rows eeprom)) ≡ e = length-image e (all_rows eeprom) in
      ext_get_or 0 (image_of e (all_rows eeprom)) eeprom long
      (λ i h. let g : i < e = omega arith in byte-of-image e (all_rows eeprom) (all_fit eeprom bytes sized) i g ∙ ap (λ (o : Option ℕ). or_before o 0xFF) (byte-named i g))

-- "Import of an export gives the same bytes"
module _ (eeprom image : List ℕ) (bytes : Octets eeprom) (sized : length eeprom ≤ 65536) (same : length image ≡ length eeprom) where
  pub import-of-export : imported_into (export_of eeprom) image ≡ (accepted tt, eeprom)
  import-of-export =
      hex-imported (export_of eeprom) image (all_rows eeprom) (omega arith) (rw same (export-is-hex eeprom bytes sized)) ∙ rw (same, image-of-export eeprom bytes sized)

  -- and so of what is written to an output with room for it
  pub import-of-written : (out : List ℕ) → export_room (length eeprom) ≤ length out → imported_into (take (export_room (length eeprom)) (exported_into eeprom out).1) image ≡ (accepted tt, eeprom)
  unfolding over
  import-of-written out room =
      let text : take (export_room (length eeprom)) (exported_into eeprom out).1 ≡ export_of eeprom = rw (export-accepted eeprom out sized room) (take_at (export_of eeprom) _ _ (length-export eeprom)) in
      rw text import-of-export
