-- What an image holds: each byte is what the one row naming it has there, else 0xFF. So rows that name the same bytes make the same
-- image, in whatever order and however cut.
use Rattle.std.proofs.Common.{◌≡◌, ℕ, ◌-◌, ◌<◌, ◌⊎◌, List, [], ◌∷◌, ◌++◌, length, replicate, sym, refl, ap, ◌∙◌, inl, inr, append_assoc, arith, ext_get_or}
use mathlib.Core.Option.{Option, none, some, none-ne-some}
use lib.ListN.{length-replicate, get_or-replicate}
use Rattle.octets.specs.Number.{at}
use Rattle.octets.proofs.Choosing.{below, above, either_lt}
use Rattle.processor.specs.Memory.{memory, to_eeprom, put_at}
use Rattle.processor.specs.Puts.{or_before}
use Rattle.processor.proofs.Stores.{length-put}
use Rattle.processor.proofs.Puts.{byte-after}
use Rattle.intel_hex.specs.Format.{HexRow, Names, Apart, ApartFrom, RowsFit}
use Rattle.intel_hex.proofs.Fitting.{names-or-not}
use Rattle.images.specs.Import.{placed, image_of, row_byte, named_at}

-- ---- one row
module _ (r : HexRow) (i : ℕ) where
  pub row-names : Names r i → row_byte r i ≡ some (at r.bytes (i - r.start))
  row-names h = sym (above _ _ _ _ _ h.0 (below _ _ _ _ _ h.1 refl))

  pub row-not : (Names r i → ⊥) → row_byte r i ≡ none
  row-not never = either_lt (λ o. o ≡ none) _ _ _ _ (λ h. refl) (λ h. either_lt (λ o. o ≡ none) _ _ _ _ (λ g. absurd (never (h, g))) (λ g. refl))

-- ---- rows that fit are apart
module _ (e : ℕ) (r : HexRow) where
  -- a row among those before is apart from a row behind them
  apart-one : (s : HexRow) (a b : List HexRow) → ApartFrom s (a ++ (r ∷ b)) → Apart r s
  apart-one s [] b h = h.0
  apart-one s (x ∷ a) b h = apart-one s a b h.1

  -- so where it names a byte, none behind it does
  later-not : (a b rows : List HexRow) (i : ℕ) → RowsFit e (a ++ (r ∷ b)) rows → Names r i → named_at rows i ≡ none
  later-not a b [] i h n = refl
  later-not a b (s ∷ rows) i h n =
      let behind : RowsFit e (a ++ (r ∷ (b ++ (s ∷ [])))) rows = rw append_assoc at h.2 in
      rw (row-not s i (λ m. apart-one s a b h.1 i n m)) (later-not a (b ++ (s ∷ [])) rows i behind n)

-- ---- an image's bytes
pub length-placed : (rows : List HexRow) (image : List ℕ) → length (placed rows image) ≡ length image
length-placed [] image = refl
length-placed (r ∷ rows) image = length-placed rows (put_at r.start r.bytes image) ∙ length-put r.start r.bytes image

pub length-image : (e : ℕ) (rows : List HexRow) → length (image_of e rows) ≡ e
length-image e rows = length-placed rows (replicate e 0xFF) ∙ length-replicate e 0xFF

-- one row more in front of others
module _ (e : ℕ) (before : List HexRow) (r : HexRow) (rows : List HexRow) (image : List ℕ) (long : length image ≡ e) (h : RowsFit e before (r ∷ rows)) (i : ℕ) where
  here : at (put_at r.start r.bytes image) i ≡ or_before (row_byte r i) (at image i)
  here = byte-after (to_eeprom r.start r.bytes) (memory image []) (omega (arith, h.0.1)) i

  row-placed : or_before (named_at rows i) (at (put_at r.start r.bytes image) i) ≡ or_before (named_at (r ∷ rows) i) (at image i)
  row-placed = ap (or_before (named_at rows i)) here ∙ go (names-or-not r i)
    where
      go : Names r i ⊎ (Names r i → ⊥) → or_before (named_at rows i) (or_before (row_byte r i) (at image i)) ≡ or_before (named_at (r ∷ rows) i) (at image i)
      go (inl n) = rw (later-not e r before [] rows i h.2 n, row-names r i n)
      go (inr never) = rw (row-not r i never)

placed-byte : (e : ℕ) (before rows : List HexRow) (image : List ℕ) → length image ≡ e → RowsFit e before rows → (i : ℕ) → at (placed rows image) i ≡ or_before (named_at rows i) (at image i)
placed-byte e before [] image long h i = refl
placed-byte e before (r ∷ rows) image long h i =
    placed-byte e (before ++ (r ∷ [])) rows (put_at r.start r.bytes image) (length-put r.start r.bytes image ∙ long) h.2 i ∙ row-placed e before r rows image long h i

pub byte-of-image : (e : ℕ) (rows : List HexRow) → RowsFit e [] rows → (i : ℕ) → i < e → at (image_of e rows) i ≡ or_before (named_at rows i) 0xFF
byte-of-image e rows h i g = placed-byte e [] rows (replicate e 0xFF) (length-replicate e 0xFF) h i ∙ ap (or_before (named_at rows i)) (get_or-replicate e i 0xFF 0 g)

-- what is named there is what the one row naming it has there
pub named_by : (e : ℕ) (before a : List HexRow) (r : HexRow) (b : List HexRow) (i : ℕ) → RowsFit e before (a ++ (r ∷ b)) → Names r i → named_at (a ++ (r ∷ b)) i ≡ some (at r.bytes (i - r.start))
named_by e before [] r b i h n = rw (row-names r i n)
named_by e before (s ∷ a) r b i h n =
    let by-r = named_by e (before ++ (s ∷ [])) a r b i h.2 n in
    rw (row-not s i (λ m. none-ne-some _ (sym (later-not e s before [] (a ++ (r ∷ b)) i h.2 m) ∙ by-r))) by-r

-- and where none names it, none
pub named-by-none : (rows : List HexRow) (i : ℕ) → ((a : List HexRow) (r : HexRow) (b : List HexRow) → rows ≡ a ++ (r ∷ b) → Names r i → ⊥) → named_at rows i ≡ none
named-by-none [] i never = refl
named-by-none (r ∷ rows) i never = rw (row-not r i (never [] r rows refl)) (named-by-none rows i (λ a s b e. never (r ∷ a) s b (ap (λ (l : List HexRow). r ∷ l) e)))

pub same-image : (e : ℕ) (a b : List HexRow) → RowsFit e [] a → RowsFit e [] b → ((i : ℕ) → i < e → named_at a i ≡ named_at b i) → image_of e a ≡ image_of e b
same-image e a b f g same =
    let long : length (image_of e a) ≡ e = length-image e a in
    ext_get_or 0 (image_of e a) (image_of e b) (long ∙ sym (length-image e b))
    (λ i h. let k : i < e = omega arith in byte-of-image e a f i k ∙ ap (λ (o : Option ℕ). or_before o 0xFF) (same i k) ∙ sym (byte-of-image e b g i k))
