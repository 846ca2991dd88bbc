-- The rows of a text, placed line by line.
use Rattle.std.proofs.Common.{◌≡◌, ℕ, ◌+◌, ◌-◌, ◌<◌, ◌≤◌, Bool, true, false, ◌⊎◌, List, [], ◌∷◌, ◌++◌, length, take, drop, replicate, sym, refl, ap, ◌∙◌, inl, inr, true≢false, append_assoc, append-nil, arith, length-drop, drop_of_length-le}
use mathlib.Core.Option.{Option, none, some}
use Rattle.octets.specs.Outcome.{Outcome, accepted, refused, on_accepted}
use Rattle.octets.specs.Over.{into_at}
use Rattle.octets.specs.Place.{place_at}
use Rattle.octets.proofs.Choosing.{lt-or-le, refused-accepted, was-above}
use Rattle.octets.proofs.Outcomes.{then-both, same-value}
use Rattle.octets.proofs.Parts.{part-within}
use Rattle.text.specs.Lines.{until_of}
use Rattle.intel_hex.specs.Format.{HexRow}
use Rattle.intel_hex.specs.Reading.{lines_in, without_cr, line_in, fits_behind, rows_at_last, rows_behind, rows_from, rows_in}
use Rattle.images.specs.Import.{judged_for, placed, filled, imported_into}
use Rattle.images.specs.Inside.{first_line, behind_line, lined, with_row, rows_here, placed_line}
use Rattle.std.specs.Prelude.{Ok, Some}
use Rattle.images.specs.declared.row.Row.{Row}
use Rattle.intel_hex.proofs.Cut.{until-within, lines_at, lines-last, some-line}
use Rattle.intel_hex.proofs.Texts.{go_on, end-only}
use Rattle.images.proofs.Lines.{first_ended, first-unended}
use Rattle.images.proofs.OneLine.{no-colon}

-- ---- one line
pub row-placed : (line bytes image o : List ℕ) (row : Row) {r : Outcome ℕ} → lined bytes (Ok (Some row)) ≡ line_in line
    → (r, o) ≡ into_at row.start (take (4 + row.count - 4) (drop 4 bytes)) image → (true, o) ≡ placed_line (line_in line) image
row-placed line bytes image o row h e = rw (← h, ← part-within bytes (place_at 4 row.count)) (ap (λ (p : Outcome ℕ × List ℕ). (true, p.1)) e)

nothing_said : line_in [] ≡ refused 16
nothing_said = sym (no-colon [] (λ e. omega arith))

none_here : rows_here (lines_in []) ≡ []
unfolding rows_here lines_in
none_here = rw nothing_said

here_of : (line : List ℕ) (lines : List (List ℕ)) → (lines ≡ [] → ⊥) → rows_here (line ∷ lines) ≡ with_row (line_in (without_cr line)) (rows_here lines)
unfolding rows_here
here_of line [] h = absurd (h refl)
here_of line (next ∷ lines) h = refl

-- the rows are the first line's and those behind it
module _ (l : List ℕ) where
  here-ended : until_of 10 l < length l → rows_here (lines_in l) ≡ with_row (line_in (first_line (lines_in l))) (rows_here (lines_in (behind_line l)))
  here-ended h =
      ap rows_here (lines_at l h) ∙ here_of (take (until_of 10 l) l) (lines_in (behind_line l)) (some-line (behind_line l))
      ∙ ap (λ (line : List ℕ). with_row (line_in line) (rows_here (lines_in (behind_line l)))) (sym (first_ended l (until_of 10 l) refl h))

  here-unended : until_of 10 l ≡ length l → rows_here (lines_in l) ≡ with_row (line_in (first_line (lines_in l))) (rows_here (lines_in (behind_line l)))
  unfolding rows_here
  here-unended h =
      let none : behind_line l ≡ [] = drop_of_length-le l {i = until_of 10 l + 1} (omega arith) in
      rw (first-unended l h, none, none_here) (ap rows_here (lines-last l h))

  pub rows-here : (n : ℕ) → n ≡ until_of 10 l → n ≤ length l → rows_here (lines_in l) ≡ with_row (line_in (first_line (lines_in l))) (rows_here (lines_in (behind_line l)))
  rows-here n e h = go (lt-or-le n (length l))
    where
      go : (n < length l) ⊎ (length l ≤ n) → rows_here (lines_in l) ≡ with_row (line_in (first_line (lines_in l))) (rows_here (lines_in (behind_line l)))
      go (inl g) = here-ended (omega arith)
      go (inr g) = here-unended (omega arith)

-- ---- the first line of a text, and the others
module _ (l image o : List ℕ) where
  abbrev first : Outcome (Option HexRow)
  first = line_in (first_line (lines_in l))

  here : rows_here (lines_in l) ≡ with_row first (rows_here (lines_in (behind_line l)))
  here = rows-here l (until_of 10 l) refl (until-within 10 l)

  pub placed-more : (true, o) ≡ placed_line first image → placed (rows_here (lines_in l)) image ≡ placed (rows_here (lines_in (behind_line l))) o
  placed-more = go first refl
    where
      go : (w : Outcome (Option HexRow)) → first ≡ w → (true, o) ≡ placed_line w image → placed (rows_here (lines_in l)) image ≡ placed (rows_here (lines_in (behind_line l))) o
      go (accepted (some r)) q h = rw (here, q) (ap (placed (rows_here (lines_in (behind_line l)))) (sym (ap (λ (p : Bool × List ℕ). p.1) h)))
      go (accepted none) q h = absurd (true≢false (ap (λ (p : Bool × List ℕ). p.0) h))
      go (refused k) q h = absurd (true≢false (ap (λ (p : Bool × List ℕ). p.0) h))

  pub placed-last : (false, o) ≡ placed_line first image → o ≡ placed (rows_here (lines_in l)) image
  placed-last = go first refl
    where
      go : (w : Outcome (Option HexRow)) → first ≡ w → (false, o) ≡ placed_line w image → o ≡ placed (rows_here (lines_in l)) image
      go (accepted (some r)) q h = absurd (true≢false (sym (ap (λ (p : Bool × List ℕ). p.0) h)))
      go (accepted none) q h = rw (here, q) (ap (λ (p : Bool × List ℕ). p.1) h)
      go (refused k) q h = rw (here, q) (ap (λ (p : Bool × List ℕ). p.1) h)

-- a text whose first line is a row has a byte
pub placed-some : (l image o : List ℕ) → (true, o) ≡ placed_line (line_in (first_line (lines_in l))) image → length (behind_line l) < length l
unfolding lines_in
placed-some [] image o h = absurd (true≢false (ap (λ (p : Bool × List ℕ). p.0) (h ∙ ap (λ w. placed_line w image) nothing_said)))
placed-some (b ∷ l) image o h = omega (arith, length-drop (until_of 10 (b ∷ l) + 1) (b ∷ l))

-- ---- the rows of a text that is accepted
are-last : (rows all : List HexRow) (w : Outcome (Option HexRow)) → rows_at_last rows w ≡ accepted all → all ≡ rows ++ with_row w []
are-last rows all (accepted none) h = sym (same-value h) ∙ sym (append-nil rows)
are-last rows all (accepted (some r)) h = absurd (refused-accepted h)
are-last rows all (refused k) h = absurd (refused-accepted h)

are-behind : (e : ℕ) (rows all : List HexRow) (lines : List (List ℕ)) → ((r : HexRow) → rows_from e (rows ++ (r ∷ [])) lines ≡ accepted all → all ≡ (rows ++ (r ∷ [])) ++ rows_here lines)
    → (w : Outcome (Option HexRow)) → rows_behind rows lines (go_on e rows lines) w ≡ accepted all → all ≡ rows ++ with_row w (rows_here lines)
are-behind e rows all lines next (accepted none) h = (end-only rows lines all h).1 ∙ sym (append-nil rows)
are-behind e rows all lines next (accepted (some r)) h =
    let t = then-both (fits_behind e rows r) (λ u. rows_from e (rows ++ (r ∷ [])) lines) h in
    next r t.second ∙ append_assoc rows (r ∷ []) (rows_here lines)
are-behind e rows all lines next (refused k) h = absurd (refused-accepted h)

are-from : (e : ℕ) (rows : List HexRow) (lines : List (List ℕ)) (all : List HexRow) → rows_from e rows lines ≡ accepted all → all ≡ rows ++ rows_here lines
unfolding rows_from rows_here
are-from e rows [] all h = absurd (refused-accepted h)
are-from e rows (line ∷ []) all h = are-last rows all (line_in line) h
are-from e rows (line ∷ next ∷ lines) all h = are-behind e rows all (next ∷ lines) (λ r g. are-from e (rows ++ (r ∷ [])) (next ∷ lines) all g) (line_in (without_cr line)) h

-- an accepted text's rows, placed, fill the image
pub rows_are : (e : ℕ) (text : List ℕ) (rows : List HexRow) → rows_in e text ≡ accepted rows → rows ≡ rows_here (lines_in text)
unfolding rows_in
rows_are e text rows h = are-from e [] (lines_in text) rows h

-- ---- the image
module _ (text image : List ℕ) where
  abbrev judged : Outcome (List HexRow)
  judged = judged_for (length image) text

  pub imported : (o : List ℕ) → ◌≡◌ {A = Outcome Unit} (accepted tt) (on_accepted (λ rows. tt) judged) → o ≡ placed (rows_here (lines_in text)) (replicate (length image) 0xFF) → (accepted tt, o) ≡ imported_into text image
  unfolding judged_for imported_into
  imported o h is = go judged refl h
    where
      go : (w : Outcome (List HexRow)) → judged ≡ w → ◌≡◌ {A = Outcome Unit} (accepted tt) (on_accepted (λ rows. tt) w) → (accepted tt, o) ≡ filled image w
      go (accepted rows) q g = rw (rows_are (length image) text rows (was-above _ _ _ _ q).1) (λ i. (accepted tt, is i))
      go (refused k) q g = absurd (refused-accepted (sym g))

  pub not-imported : (k : ℕ) → ◌≡◌ {A = Outcome Unit} (refused k) (on_accepted (λ rows. tt) judged) → (refused k, image) ≡ imported_into text image
  unfolding imported_into
  not-imported k h = go judged h
    where
      go : (w : Outcome (List HexRow)) → ◌≡◌ {A = Outcome Unit} (refused k) (on_accepted (λ rows. tt) w) → (refused k, image) ≡ filled image w
      go (accepted rows) g = absurd (refused-accepted g)
      go (refused j) g = let same : k ≡ j = cc in rw same
