-- What is written: how long it is, and that it is a text of the format, with its rows.
use Prim.Native.Nat.{ℕ, zero, suc, ◌+◌, ◌-◌, ◌*◌, ◌/◌, ◌%◌, ◌^◌, ◌≤◌, ◌<◌, min}
use mathlib.Core.Path.{◌≡◌, refl}
use mathlib.Core.Option.{some}
use mathlib.Core.List.{List, [], ◌∷◌, ◌++◌, append_assoc, append-nil}
use native.Mathlib.Omega.{arith}
use lib.ListN.{length, length-append, length-take, length-drop}
use Rattle.octets.specs.Choice.{if_lt}
use Rattle.octets.specs.Number.{Octets, big_bytes}
use Rattle.octets.specs.Place.{place_at, part_of}
use Rattle.octets.proofs.Choosing.{either_lt}
use Rattle.octets.proofs.InBytes.{length-big}
use Rattle.octets.proofs.Bytes.{part-octets}
use Rattle.text.specs.Digits.{hex_digit, hex_digits, pairs_of}
use Rattle.text.proofs.Digits.{length_pairs}
use Rattle.packet.specs.Frame.{total}
use Rattle.intel_hex.specs.Format.{HexRow, closed_record, row_text, end_text, lf, TextOf, capital, capitals, RowFits, Apart, ApartFrom, RowsFit, IsHex}
use Rattle.intel_hex.specs.Writing.{export_row, export_rows, rows_for, export_of, export_room}
use Rattle.intel_hex.proofs.Letters.{kept_low}
use Rattle.intel_hex.proofs.Cut.{capitals-append}
use Rattle.intel_hex.proofs.Texts.{text-more}

-- ---- how long it is
pub length-row : (r : HexRow) → length (row_text r) ≡ 11 + 2 * length r.bytes
unfolding row_text
length-row r = rw (length_pairs, length-append, length-append, length-big) (omega arith)

-- a row's line
abbrev pub export_line : List ℕ → ℕ → List ℕ
export_line eeprom k = row_text (export_row eeprom k) ++ (10 ∷ [])

module _ (eeprom : List ℕ) where
  -- the last row has what is left
  pub length-bytes : (k : ℕ) → length (export_row eeprom k).bytes ≡ min 16 (length eeprom - 16 * k)
  length-bytes k = rw (length-take, length-drop)

  pub length-line : (k : ℕ) → length (export_line eeprom k) ≡ 12 + 2 * min 16 (length eeprom - 16 * k)
  length-line k = rw (length-append, length-row, length-bytes k) (omega arith)

  length_more : (k : ℕ) → length (export_rows eeprom (suc k)) ≡ length (export_rows eeprom k) + length (export_line eeprom k)
  unfolding export_rows
  length_more k = length-append (export_rows eeprom k) (export_line eeprom k)

  length_none : length (export_rows eeprom 0) ≡ 0
  unfolding export_rows
  length_none = refl

  pub length-rows : (k : ℕ) → length (export_rows eeprom k) ≡ 12 * k + 2 * min (16 * k) (length eeprom)
  length-rows zero = rw length_none (omega arith)
  length-rows (suc k) = omega (arith, length_more k, length-line k, length-rows k)

  -- the rows have the whole EEPROM
  pub rows_whole : length (export_rows eeprom (rows_for (length eeprom))) ≡ 2 * length eeprom + 12 * rows_for (length eeprom)
  unfolding rows_for
  rows_whole = let e : ℕ = length eeprom in omega (arith, length-rows ((e + 15) / 16))

  pub length-export : length (export_of eeprom) ≡ export_room (length eeprom)
  unfolding export_of export_room
  length-export = rw (length-append, rows_whole) (omega arith)

-- `:0100000012ED`, `:00000001FF`
one_byte : export_of (0x12 ∷ []) ≡ 58 ∷ 48 ∷ 49 ∷ 48 ∷ 48 ∷ 48 ∷ 48 ∷ 48 ∷ 48 ∷ 49 ∷ 50 ∷ 69 ∷ 68 ∷ 10 ∷ 58 ∷ 48 ∷ 48 ∷ 48 ∷ 48 ∷ 48 ∷ 48 ∷ 48 ∷ 49 ∷ 70 ∷ 70 ∷ 10 ∷ []
unfolding export_of export_rows rows_for row_text pairs_of hex_digits big_bytes total if_lt
one_byte = refl

-- ---- it has no small letter
abbrev Upper : List ℕ → Type 0
Upper l = capitals l ≡ l

upper-append : (a b : List ℕ) → Upper a → Upper b → Upper (a ++ b)
upper-append a b p q = rw (capitals-append, p, q)

upper-digit : (d : ℕ) → d < 16 → capital (hex_digit d) ≡ hex_digit d
upper-digit d h = either_lt (λ (b : ℕ). capital b ≡ b) d 10 _ _ (λ g. kept_low _ (omega arith)) (λ g. kept_low _ (omega arith))

upper_digits : (k w : ℕ) → Upper (hex_digits k w)
unfolding hex_digits capitals
upper_digits zero w = refl
upper_digits (suc k) w = rw (upper-digit (w / 16 ^ k % 16) (omega arith), upper_digits k w)

upper-pairs : (l : List ℕ) → Upper (pairs_of l)
unfolding pairs_of capitals
upper-pairs [] = refl
upper-pairs (b ∷ l) = upper-append (hex_digits 2 b) (pairs_of l) (upper_digits 2 b) (upper-pairs l)

upper-row : (r : HexRow) → Upper (row_text r)
unfolding row_text capitals
upper-row r = rw (kept_low 58 (omega arith), upper-pairs (closed_record r))

upper-lf : Upper (10 ∷ [])
unfolding capitals
upper-lf = rw (kept_low 10 (omega arith))

upper-end : Upper (end_text ++ (10 ∷ []))
unfolding capitals if_lt
upper-end = refl

module _ (eeprom : List ℕ) where
  upper-rows : (k : ℕ) → Upper (export_rows eeprom k)
  unfolding export_rows capitals
  upper-rows zero = refl
  upper-rows (suc k) = upper-append (export_rows eeprom k) (export_line eeprom k) (upper-rows k) (upper-append (row_text (export_row eeprom k)) (10 ∷ []) (upper-row (export_row eeprom k)) upper-lf)

  upper-export : Upper (export_of eeprom)
  unfolding export_of
  upper-export = upper-append (export_rows eeprom (rows_for (length eeprom))) (end_text ++ (10 ∷ [])) (upper-rows (rows_for (length eeprom))) upper-end

  -- ---- it is a text of its rows
  unfoldable pub rows_up_to : ℕ → List HexRow
  rows_up_to zero = []
  rows_up_to (suc k) = rows_up_to k ++ (export_row eeprom k ∷ [])

  abbrev pub all_rows : List HexRow
  all_rows = rows_up_to (rows_for (length eeprom))

  text-of-rows : (k : ℕ) (rows : List HexRow) (behind : List ℕ) → TextOf rows behind → TextOf (rows_up_to k ++ rows) (export_rows eeprom k ++ behind)
  unfolding rows_up_to export_rows
  text-of-rows zero rows behind h = h
  text-of-rows (suc k) rows behind h =
      let r = export_row eeprom k in
      rw (append_assoc (rows_up_to k) (r ∷ []) rows, append_assoc (export_rows eeprom k) (row_text r ++ (10 ∷ [])) behind, append_assoc (row_text r) (10 ∷ []) behind)
      (text-of-rows k (r ∷ rows) (row_text r ++ (10 ∷ behind)) (text-more r rows lf behind h))

  text-of-export : TextOf all_rows (export_of eeprom)
  unfolding export_of
  text-of-export = rw append-nil at (text-of-rows (rows_for (length eeprom)) [] (end_text ++ (10 ∷ [])) ([], some lf, refl, refl))

-- ---- its rows fit, one behind the other
fit-snoc : (e : ℕ) (before rows : List HexRow) (r : HexRow) → RowsFit e before rows → RowFits e r → ApartFrom r (before ++ rows) → RowsFit e before (rows ++ (r ∷ []))
fit-snoc e before [] r h f a = (f, (rw append-nil at a), tt)
fit-snoc e before (s ∷ rows) r h f a = (h.0, h.1, fit-snoc e (before ++ (s ∷ [])) rows r h.2 f (rw append_assoc a))

apart_snoc : (r s : HexRow) (rows : List HexRow) → ApartFrom r rows → Apart s r → ApartFrom r (rows ++ (s ∷ []))
apart_snoc r s [] h a = (a, tt)
apart_snoc r s (x ∷ rows) h a = (h.0, apart_snoc r s rows h.1 a)

module _ (eeprom : List ℕ) (bytes : Octets eeprom) (sized : length eeprom ≤ 65536) where
  abbrev e : ℕ
  e = length eeprom

  row_fits : (k : ℕ) → 16 * k < e → RowFits e (export_row eeprom k)
  unfolding part_of
  row_fits k h = ((part-octets eeprom (place_at (16 * k) 16) bytes, omega (arith, length-bytes eeprom k), omega arith), omega (arith, length-bytes eeprom k))

  row_apart : (j k : ℕ) → j < k → Apart (export_row eeprom j) (export_row eeprom k)
  row_apart j k h i n m = omega (arith, length-bytes eeprom j)

  apart_from_lem : (j k : ℕ) → j ≤ k → ApartFrom (export_row eeprom k) (rows_up_to eeprom j)
  unfolding rows_up_to
  apart_from_lem zero k h = tt
  apart_from_lem (suc j) k h = apart_snoc (export_row eeprom k) (export_row eeprom j) (rows_up_to eeprom j) (apart_from_lem j k (omega arith)) (row_apart j k (omega arith))

  rows_fit : (k : ℕ) → k ≤ rows_for e → RowsFit e [] (rows_up_to eeprom k)
  unfolding rows_up_to rows_for
  rows_fit zero h = tt
  rows_fit (suc k) h = fit-snoc e [] (rows_up_to eeprom k) (export_row eeprom k) (rows_fit k (omega arith)) (row_fits k (omega arith)) (apart_from_lem k k (omega arith))

  pub all_fit : RowsFit e [] (all_rows eeprom)
  all_fit = rows_fit (rows_for e) (omega arith)

  pub export-is-hex : IsHex e (export_of eeprom) (all_rows eeprom)
  export-is-hex = record { reads = rw (upper-export eeprom) (text-of-export eeprom); fitting = all_fit }
