-- What one line says: a row, the end record, or what is wrong with it, by the text that it is in capitals.
use Prim.Native.Nat.{ℕ, zero, suc, ◌+◌, ◌*◌}
use mathlib.Core.Path.{◌≡◌, refl, sym, ap, ◌∙◌}
use mathlib.Core.Bool.{Bool, true, false}
use mathlib.Core.Logic.{◌⊎◌, inl, inr, ⊎_elim}
use mathlib.Core.Option.{Option, none, some}
use mathlib.Core.List.{List, [], ◌∷◌}
use native.Mathlib.Nat.{mod-lt}
use native.Mathlib.Omega.{arith}
use lib.Dec.{lit<}
use lib.ListN.{length, drop}
use Rattle.octets.specs.Refusals.{malformed, record_checksum}
use Rattle.octets.specs.Outcome.{Outcome, accepted, refused, and_then}
use Rattle.octets.specs.Choice.{pick, if_lt, if_eq}
use Rattle.octets.specs.Number.{at, Octets}
use Rattle.octets.proofs.Choosing.{same, other, either-eq, refused-accepted, accepted-refused, was-other, was-same}
use Rattle.octets.proofs.Outcomes.{same-value, then-both}
use Rattle.text.specs.Digits.{hex_digits, pairs_of}
use Rattle.text.specs.Read.{not_digits, pairs_in}
use Rattle.text.proofs.Digits.{length_pairs}
use Rattle.text.proofs.Back.{pairs-back}
use Rattle.packet.specs.Frame.{checksum_of}
use Rattle.intel_hex.specs.Format.{HexRow, Sayable, record_of, with_sum, complement, row_text, end_text, capital, capitals}
use Rattle.intel_hex.specs.Reading.{bytes_in, record_in, line_in}
use Rattle.intel_hex.specs.Faults.{Spells}
use Rattle.intel_hex.proofs.Letters.{kept_low, was-low, length-capitals, digits-capitals, pairs-capitals, octets-in, pairs-again, digits-alone}
use Rattle.intel_hex.proofs.Records.{row_in, holds, closes, closing, record-octets, record-read, row-of-record, end_bytes, end_read, end-of-record, record-fault}

-- ---- bytes
not-picked : {A : Type 0} (b : Bool) (k : ℕ) (o : Outcome A) {a : A} → pick b (refused k) o ≡ accepted a → (b ≡ false) × (o ≡ accepted a)
not-picked true k o e = absurd (refused-accepted e)
not-picked false k o e = (refl, e)

bytes-of-line : (line bytes : List ℕ) → bytes_in line ≡ accepted bytes → (capitals line ≡ 58 ∷ pairs_of bytes) × Octets bytes
unfolding capitals
bytes-of-line [] bytes e = absurd (omega (arith, (was-same _ _ _ _ e).0))
bytes-of-line (b ∷ l) bytes e =
    let colon = was-same b 58 _ _ e in
    let digits = not-picked (not_digits l) _ _ colon.1 in
    let even = was-other _ _ _ _ digits.1 in
    let is : pairs_in l ≡ bytes = same-value even.1 in
    (rw (← is, pairs-again l digits.0 even.0, colon.0, kept_low 58 (lit< tt)), rw is at (octets-in l digits.0))

line-of-bytes : (line bytes : List ℕ) → capitals line ≡ 58 ∷ pairs_of bytes → Octets bytes → bytes_in line ≡ accepted bytes
unfolding capitals
line-of-bytes [] bytes e octets = cc
line-of-bytes (b ∷ l) bytes e octets =
    let colon : capital b ≡ 58 = cc in
    let rest : capitals l ≡ pairs_of bytes = cc in
    let digits : not_digits l ≡ false = sym (digits-capitals l) ∙ ap not_digits rest ∙ digits-alone bytes octets in
    let long : length l ≡ 2 * length bytes = sym (length-capitals l) ∙ ap length rest ∙ length_pairs bytes in
    let is : pairs_in l ≡ bytes = sym (pairs-capitals l) ∙ ap pairs_in rest ∙ pairs-back bytes octets in
    sym (same _ _ _ _ _ (was-low b 58 (lit< tt) colon) (rw digits (other _ _ _ _ _ (λ h. omega arith) (rw is))))

-- ---- what it says
end-text : end_text ≡ 58 ∷ pairs_of end_bytes
unfolding pairs_of hex_digits if_lt
end-text = refl

-- where its text is known, so is what it says
line_of : (line bytes : List ℕ) → capitals line ≡ 58 ∷ pairs_of bytes → Octets bytes → line_in line ≡ record_in bytes
unfolding line_in
line_of line bytes e octets = rw (line-of-bytes line bytes e octets)

-- a data record, by its sum
pub line-of-spelled : (line : List ℕ) (r : HexRow) (sum : ℕ) → Spells (capitals line) r sum
    → line_in line ≡ if_eq (checksum_of (with_sum r sum)) 0 (accepted (some r)) (refused record_checksum)
line-of-spelled line r sum s = line_of line (with_sum r sum) s.0 (record-octets r sum s.1 s.2) ∙ record-read r sum s.1

-- ---- a row
pub spells-row : (line : List ℕ) (r : HexRow) → line ≡ row_text r → Sayable r → Spells line r (complement (checksum_of (record_of r)))
unfolding row_text
spells-row line r e says = (e, says, mod-lt _ (lit< tt))

pub row-of-line : (line : List ℕ) (r : HexRow) → line_in line ≡ accepted (some r) → (capitals line ≡ row_text r) × Sayable r
unfolding line_in row_text
row-of-line line r e =
    let both = then-both (bytes_in line) record_in e in
    let spelt = bytes-of-line line both.value both.first in
    let says = row-of-record both.value r spelt.1 both.second in
    (spelt.0 ∙ ap (λ (b : List ℕ). 58 ∷ pairs_of b) says.0, says.1)

pub line-of-row : (line : List ℕ) (r : HexRow) → capitals line ≡ row_text r → Sayable r → line_in line ≡ accepted (some r)
line-of-row line r e says = line-of-spelled line r _ (spells-row (capitals line) r e says) ∙ sym (same _ _ _ _ _ (closes (record_of r)) refl)

-- ---- the end record
pub end-of-line : (line : List ℕ) → line_in line ≡ accepted none → capitals line ≡ end_text
unfolding line_in
end-of-line line e =
    let both = then-both (bytes_in line) record_in e in
    (bytes-of-line line both.value both.first).0 ∙ ap (λ (b : List ℕ). 58 ∷ pairs_of b) (end-of-record both.value both.second) ∙ sym end-text

pub line-of-end : (line : List ℕ) → capitals line ≡ end_text → line_in line ≡ accepted none
line-of-end line e = line_of line end_bytes (e ∙ end-text) end-octets ∙ end_read
  where
    end-octets : Octets end_bytes
    end-octets zero = lit< tt
    end-octets (suc zero) = lit< tt
    end-octets (suc (suc zero)) = lit< tt
    end-octets (suc (suc (suc zero))) = lit< tt
    end-octets (suc (suc (suc (suc zero)))) = lit< tt
    end-octets (suc (suc (suc (suc (suc i))))) = lit< tt

-- ---- what is refused
-- with 17 a data record's text but for its sum
pub wrong-sum-line : (line : List ℕ) (r : HexRow) (sum : ℕ) → Spells (capitals line) r sum → (capitals line ≡ row_text r → ⊥) → line_in line ≡ refused record_checksum
unfolding row_text
wrong-sum-line line r sum s wrong =
    let differs : checksum_of (with_sum r sum) ≡ 0 → ⊥ = λ f. wrong (s.0 ∙ ap (λ (c : ℕ). 58 ∷ pairs_of (with_sum r c)) (closing (record_of r) sum s.2 f)) in
    line-of-spelled line r sum s ∙ sym (other _ _ _ _ _ differs refl)

bytes-fault : (line : List ℕ) (k : ℕ) → bytes_in line ≡ refused k → k ≡ malformed
bytes-fault line k = either-eq P _ _ _ _ (λ h. either (not_digits (drop 1 line)) _ bad (either-eq P _ _ _ _ (λ n. bad) (λ n e. absurd (accepted-refused e)))) (λ h. bad)
  where
    P : Outcome (List ℕ) → Type 0
    P o = o ≡ refused k → k ≡ malformed

    bad : P (refused malformed)
    bad e = cc

    either : (b : Bool) (o : Outcome (List ℕ)) → P (refused malformed) → P o → P (pick b (refused malformed) o)
    either true o x y = x
    either false o x y = y

-- a data record's text, whatever its sum
pub record IsSpelled (line : List ℕ) : Type 0 where
  pub row : HexRow
  pub sum : ℕ
  pub spells : Spells line row sum

pub line-fault : (line : List ℕ) (k : ℕ) → line_in line ≡ refused k → (k ≡ malformed) ⊎ ((k ≡ record_checksum) × IsSpelled (capitals line))
unfolding line_in
line-fault line k = go (bytes_in line) refl
  where
    go : (o : Outcome (List ℕ)) → bytes_in line ≡ o → and_then o record_in ≡ refused k → (k ≡ malformed) ⊎ ((k ≡ record_checksum) × IsSpelled (capitals line))
    go (refused j) f e = inl (bytes-fault line k (cc))
    go (accepted bytes) f e = ⊎_elim (λ h. inl h) of-record (record-fault bytes k e)
      where
        of-record : (k ≡ record_checksum) × (at bytes 0 + 5 ≡ length bytes) × (at bytes 3 ≡ 0) → (k ≡ malformed) ⊎ ((k ≡ record_checksum) × IsSpelled (capitals line))
        of-record h =
            let spelt = bytes-of-line line bytes f in
            let q = holds bytes spelt.1 h.1 h.2 in
            inr (h.0, record { row = row_in bytes; sum = q.sum; spells = (spelt.0 ∙ ap (λ (b : List ℕ). 58 ∷ pairs_of b) q.whole, q.says, q.small) })

-- with 16 what is neither that nor the end record
module _ (line : List ℕ) where
  pub malformed-line : ((r : HexRow) (sum : ℕ) → Spells (capitals line) r sum → ⊥) → (capitals line ≡ end_text → ⊥) → line_in line ≡ refused malformed
  malformed-line no_row no_end = go (line_in line) refl
    where
      go : (o : Outcome (Option HexRow)) → line_in line ≡ o → line_in line ≡ refused malformed
      go (accepted (some r)) e = let p = row-of-line line r e in absurd (no_row r _ (spells-row (capitals line) r p.0 p.1))
      go (accepted none) e = absurd (no_end (end-of-line line e))
      go (refused k) e = ⊎_elim (λ h. cc) (λ h. absurd (no_row h.1.row h.1.sum h.1.spells)) (line-fault line k e)

  pub not-spelled : line_in line ≡ refused malformed → (r : HexRow) (sum : ℕ) → Spells (capitals line) r sum → ⊥
  not-spelled e r sum s = either-eq (λ o. o ≡ refused malformed → ⊥) _ _ _ _ (λ h. accepted-refused) (λ h f. other-number f) (sym (line-of-spelled line r sum s) ∙ e)
    where
      other-number : ◌≡◌ {A = Outcome (Option HexRow)} (refused record_checksum) (refused malformed) → ⊥
      other-number f = let z : record_checksum ≡ malformed = cc in omega arith
