-- Import accepts exactly the texts of the format, and fills the image by their rows; what it refuses is an image that is too large, or a
-- text with a first bad row.
use Rattle.std.proofs.Common.{◌≡◌, ℕ, ◌<◌, ◌≤◌, List, length, sym, refl, ap, ◌∙◌, inl, inr, ⊎_elim}
use Rattle.octets.specs.Refusals.{wrong_sizes}
use Rattle.octets.specs.Outcome.{Outcome, accepted, refused}
use Rattle.octets.specs.Choice.{if_lt}
use Rattle.octets.proofs.Choosing.{below, above, lt-or-le, if-of, refused-accepted, accepted-refused}
use Rattle.intel_hex.specs.Format.{HexRow, IsHex}
use Rattle.intel_hex.specs.Reading.{rows_in}
use Rattle.intel_hex.specs.Faults.{FirstBad}
use Rattle.intel_hex.proofs.Texts.{sound, complete}
use Rattle.intel_hex.proofs.Refused.{refused-first, first-refused}
use Rattle.images.specs.Import.{judged_for, image_of, named_at, filled, imported_into, Unimported}
use Rattle.images.proofs.Image.{same-image}

module _ (text image : List ℕ) where
  abbrev e : ℕ
  e = length image

  -- by the size, and then by the rows
  imported-is : imported_into text image ≡ if_lt 65536 e (refused wrong_sizes, image) (filled image (rows_in e text))
  unfolding imported_into judged_for
  imported-is = if-of (filled image) 65536 e (refused wrong_sizes) (rows_in e text)

  large : 65536 < e → imported_into text image ≡ (refused wrong_sizes, image)
  large h = imported-is ∙ sym (below _ _ _ _ _ h refl)

  small : e ≤ 65536 → imported_into text image ≡ filled image (rows_in e text)
  small h = imported-is ∙ sym (above _ _ _ _ _ h refl)

  -- what is answered
  answers : {o : Outcome Unit × List ℕ} {a : Outcome Unit} → imported_into text image ≡ o → (imported_into text image).0 ≡ a → o.0 ≡ a
  answers e h = sym (ap (λ (p : Outcome Unit × List ℕ). p.0) e) ∙ h

  -- ---- accepted
  pub hex-imported : (rows : List HexRow) → e ≤ 65536 → IsHex e text rows → imported_into text image ≡ (accepted tt, image_of e rows)
  hex-imported rows h is = small h ∙ rw (complete e text rows is)

  pub imported-hex : (imported_into text image).0 ≡ accepted tt → (e ≤ 65536) × ((rows : List HexRow) × IsHex e text rows)
  imported-hex h = ⊎_elim (λ l. absurd (refused-accepted (answers (large l) h))) (λ s. (s, go (rows_in e text) refl (answers (small s) h))) (lt-or-le 65536 e)
    where
      go : (o : Outcome (List HexRow)) → rows_in e text ≡ o → (filled image o).0 ≡ accepted tt → (rows : List HexRow) × IsHex e text rows
      go (accepted rows) q g = (rows, sound e text rows q)
      go (refused k) q g = absurd (refused-accepted g)

  -- ---- refused
  pub bad-refused : (k : ℕ) → Unimported text image k → imported_into text image ≡ (refused k, image)
  bad-refused k (inl h) = large h.0 ∙ rw h.1
  bad-refused k (inr h) = small h.0 ∙ rw (first-refused e text k h.1)

  pub refused-bad : (k : ℕ) → (imported_into text image).0 ≡ refused k → Unimported text image k
  refused-bad k h = ⊎_elim (λ l. let z = answers (large l) h in inl (l, cc)) (λ s. inr (s, go (rows_in e text) refl (answers (small s) h))) (lt-or-le 65536 e)
    where
      go : (o : Outcome (List HexRow)) → rows_in e text ≡ o → (filled image o).0 ≡ refused k → FirstBad e text k
      go (accepted rows) q g = absurd (accepted-refused g)
      go (refused j) q g = refused-first e text k (q ∙ cc)

-- two texts that name the same bytes give the same image
pub same-import : (a b image : List ℕ) (p q : List HexRow) → IsHex (length image) a p → IsHex (length image) b q
    → ((i : ℕ) → i < length image → named_at p i ≡ named_at q i) → imported_into a image ≡ imported_into b image
same-import a b image p q f g same =
    let e : ℕ = length image in
    let alike : filled image (rows_in e a) ≡ filled image (rows_in e b) = rw (complete e a p f, complete e b q g, same-image e p q f.fitting g.fitting same) in
    imported-is a image ∙ ap (if_lt 65536 e (refused wrong_sizes, image)) alike ∙ sym (imported-is b image)
