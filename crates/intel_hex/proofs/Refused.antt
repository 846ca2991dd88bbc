-- A text is refused with a number exactly if it has a first bad row, whose number that is. So every text is one of the format or has one.
use Prim.Native.Nat.{ℕ, zero, suc, ◌+◌, ◌<◌}
use mathlib.Core.Path.{◌≡◌, refl, sym, ap, ◌∙◌}
use mathlib.Core.Logic.{◌⊎◌, inl, inr, ⊎_elim}
use mathlib.Core.Option.{Option, none, some}
use mathlib.Core.List.{List, [], ◌∷◌, ◌++◌, append_assoc, append-nil}
use native.Mathlib.Omega.{arith}
use lib.ListN.{length, take, drop, length-drop}
use Rattle.octets.specs.Refusals.{malformed}
use Rattle.octets.specs.Outcome.{Outcome, accepted, refused, and_then}
use Rattle.octets.proofs.Choosing.{accepted-refused}
use Rattle.text.specs.Lines.{until_of}
use Rattle.intel_hex.specs.Format.{HexRow, row_text, end_text, RowLines, capitals, RowsFit, IsHex}
use Rattle.intel_hex.specs.Reading.{lines_in, without_cr, line_in, fits_behind, rows_at_last, rows_at_end, rows_behind, rows_from, rows_in}
use Rattle.intel_hex.specs.Faults.{BadLine, no_record, wrong-sum, beyond, twice, Without, BadRest, bad-line, no_end, text-after, FirstBad}
use Rattle.intel_hex.proofs.Cut.{before-first, cut-first, one-or-none, has-none, lines_at, lines-last, some-line, ended, end-without}
use Rattle.intel_hex.proofs.Fitting.{is-fitting, not-fitting, fitting-not}
use Rattle.intel_hex.proofs.Spelled.{row-of-line, line-of-row, end-of-line, line-of-end, wrong-sum-line, line-fault, malformed-line, not-spelled}
use Rattle.intel_hex.proofs.Texts.{ended-capitals, go_on, step_lines, step-last, step-ended, before-spelled, past, not-at-end, sound, complete}

-- ---- one line
module _ (e : ℕ) (rows : List HexRow) (line : List ℕ) where
  -- read, it is bad in itself, or its row does not fit behind the others
  abbrev Bad : ℕ → Type 0
  Bad k = (line_in line ≡ refused k) ⊎ ((r : HexRow) × (line_in line ≡ accepted (some r)) × (fits_behind e rows r ≡ refused k))

  bad-read : {k : ℕ} → BadLine e rows (capitals line) k → Bad k
  bad-read (no_record none-spelled not_end) = inl (malformed-line line none-spelled not_end)
  bad-read (wrong-sum r sum s wrong) = inl (wrong-sum-line line r sum s wrong)
  bad-read (beyond r h says far) = inr (r, line-of-row line r h says, fitting-not e rows r _ (inl (refl, far)))
  bad-read (twice r h says near t) = inr (r, line-of-row line r h says, fitting-not e rows r _ (inr (refl, near, t)))

  read-bad : (k : ℕ) → line_in line ≡ refused k → BadLine e rows (capitals line) k
  read-bad k h =
      ⊎_elim
      (λ m. rw m (no_record (not-spelled line (h ∙ ap refused m)) (λ f. accepted-refused (sym (line-of-end line f) ∙ h))))
      (λ m. rw m.0 (wrong-sum m.1.row m.1.sum m.1.spells (λ f. accepted-refused (sym (line-of-row line m.1.row f m.1.spells.1) ∙ h))))
      (line-fault line k h)

  row-bad : (k : ℕ) (r : HexRow) → line_in line ≡ accepted (some r) → fits_behind e rows r ≡ refused k → BadLine e rows (capitals line) k
  row-bad k r q f =
      let s = row-of-line line r q in
      ⊎_elim (λ m. rw m.0 (beyond r s.0 s.1 m.1)) (λ m. rw m.0 (twice r s.0 s.1 m.1 m.2)) (not-fitting e rows r k f)

-- ---- what is refused has a first bad row
-- the same of a text behind other rows
record Stops (e : ℕ) (before : List HexRow) (text : List ℕ) (k : ℕ) : Type 0 where
  rows : List HexRow
  front : List ℕ
  rest : List ℕ
  cut : text ≡ front ++ rest
  good : RowLines rows (capitals front)
  fit : RowsFit e before rows
  bad : BadRest e (before ++ rows) rest k

module _ (e k : ℕ) where
  at_once : (before : List HexRow) (text : List ℕ) → BadRest e before text k → Stops e before text k
  unfolding capitals
  at_once before text b = record { rows = []; front = []; rest = text; cut = refl; good = refl; fit = tt; bad = rw append-nil b }

  stops-last : (before : List HexRow) (line : List ℕ) → Without 10 line → rows_at_last before (line_in line) ≡ refused k → BadRest e before line k
  stops-last before line one h = rw (number (line_in line) h) (no_end one (λ f. accepted-refused (rw (line-of-end line f) at h)))
    where
      number : (o : Outcome (Option HexRow)) → rows_at_last before o ≡ refused k → k ≡ malformed
      number (accepted none) g = absurd (accepted-refused g)
      number (accepted (some r)) g = cc
      number (refused j) g = cc

  module _ (before : List HexRow) (line : List ℕ) (one : Without 10 line) where
    stops-line : (behind : List ℕ) → BadLine e before (capitals (without_cr line)) k → Stops e before (line ++ (10 ∷ behind)) k
    stops-line behind b = at_once before _ (bad-line (without_cr line) (ended line).end behind ((ended line).cut behind) ((ended line).before one) b)

    stops_end : (behind : List ℕ) → line_in (without_cr line) ≡ accepted none → rows_at_end before (lines_in behind) ≡ refused k → BadRest e before (line ++ (10 ∷ behind)) k
    unfolding lines_in
    stops_end [] q h = absurd (accepted-refused h)
    stops_end (b ∷ behind) q h =
        let g = not-at-end before b behind in
        let m : k ≡ malformed = cc in
        rw m (text-after (without_cr line) (ended line).end b behind ((ended line).cut (b ∷ behind)) (end-of-line (without_cr line) q))

    module _ (behind : List ℕ) where
      stops-behind : (r : HexRow) → line_in (without_cr line) ≡ accepted (some r) → fits_behind e before r ≡ accepted tt → Stops e (before ++ (r ∷ [])) behind k → Stops e before (line ++ (10 ∷ behind)) k
      stops-behind r q f g =
          let s = row-of-line (without_cr line) r q in
          let fit = is-fitting e before r f in
          record {
            rows = r ∷ g.rows;
            front = line ++ (10 ∷ g.front);
            rest = g.rest;
            cut = ap (λ (l : List ℕ). line ++ (10 ∷ l)) g.cut ∙ sym (append_assoc line (10 ∷ g.front) g.rest);
            good = ((ended line).end, capitals g.front, ended-capitals line (row_text r) g.front s.0, g.good);
            fit = ((s.1, fit.0), fit.1, g.fit);
            bad = rw (append_assoc before (r ∷ []) g.rows) at g.bad;
          }

      stops-by : ((r : HexRow) → rows_from e (before ++ (r ∷ [])) (lines_in behind) ≡ refused k → Stops e (before ++ (r ∷ [])) behind k)
          → (o : Outcome (Option HexRow)) → line_in (without_cr line) ≡ o → rows_behind before (lines_in behind) (go_on e before (lines_in behind)) o ≡ refused k
          → Stops e before (line ++ (10 ∷ behind)) k
      stops-by next (accepted none) q h = at_once before _ (stops_end behind q h)
      stops-by next (refused j) q h = stops-line behind (read-bad e before (without_cr line) k (cc))
      stops-by next (accepted (some r)) q h = go (fits_behind e before r) refl h
        where
          go : (o : Outcome Unit) → fits_behind e before r ≡ o → and_then o (λ u. rows_from e (before ++ (r ∷ [])) (lines_in behind)) ≡ refused k → Stops e before (line ++ (10 ∷ behind)) k
          go (accepted u) f g = stops-behind r q f (next r g)
          go (refused j) f g = stops-line behind (row-bad e before (without_cr line) k r q (cc))

  -- line by line: what stands behind a line is shorter
  stops-from : (n : ℕ) (before : List HexRow) (text : List ℕ) → length text < n → rows_from e before (lines_in text) ≡ refused k → Stops e before text k
  unfolding rows_from
  stops-from zero before text short h = absurd (omega arith)
  stops-from (suc n) before text short h =
      let line : List ℕ = take (until_of 10 text) text in
      let behind : List ℕ = drop (until_of 10 text + 1) text in
      ⊎_elim
      (λ t. rw (cut-first 10 text t)
      (stops-by before line (before-first 10 text) behind (λ r. stops-from n (before ++ (r ∷ [])) behind (omega (arith, length-drop (until_of 10 text + 1) text)))
      (line_in (without_cr line)) refl (sym (step_lines e before line (lines_in behind) (some-line behind)) ∙ rw (lines_at text t) at h)))
      (λ t. at_once before text (stops-last before text (has-none 10 text t) (rw (lines-last text t) at h)))
      (one-or-none 10 text)

pub refused-first : (e : ℕ) (text : List ℕ) (k : ℕ) → rows_in e text ≡ refused k → FirstBad e text k
unfolding rows_in
refused-first e text k h =
    let s = stops-from e k (suc (length text)) [] text (omega arith) h in
    record { rows = s.rows; front = s.front; rest = s.rest; cut = s.cut; good = s.good; fit = s.fit; bad = s.bad }

-- ---- and what has one is refused with its number
refused-rest : (e : ℕ) (rows : List HexRow) (rest : List ℕ) {k : ℕ} → BadRest e rows rest k → rows_from e rows (lines_in rest) ≡ refused k
refused-rest e rows rest (bad-line line end behind c before b) =
    rw c (step-ended e rows line end behind before ∙ ⊎_elim (λ h. rw h) (λ h. rw (h.1, h.2)) (bad-read e rows line b))
refused-rest e rows rest (no_end one not_end) = step-last e rows rest one ∙ go (line_in rest) refl
  where
    go : (o : Outcome (Option HexRow)) → line_in rest ≡ o → rows_at_last rows o ≡ refused malformed
    go (accepted none) q = absurd (not_end (end-of-line rest q))
    go (accepted (some r)) q = refl
    go (refused k) q = refl
refused-rest e rows rest (text-after line end b behind c is) =
    rw c (step-ended e rows line end (b ∷ behind) (before-spelled line end_text end is end-without) ∙ rw (line-of-end line is) (not-at-end rows b behind))

pub first-refused : (e : ℕ) (text : List ℕ) (k : ℕ) → FirstBad e text k → rows_in e text ≡ refused k
unfolding rows_in
first-refused e text k f = rw f.cut (past f.rows e [] f.front f.rest f.good f.fit ∙ refused-rest e f.rows f.rest f.bad)

-- ---- every text is one of the format or has a first bad row, and none is both; the number is one
module _ (e : ℕ) (text : List ℕ) where
  pub hex-or-bad : ((rows : List HexRow) × IsHex e text rows) ⊎ ((k : ℕ) × FirstBad e text k)
  hex-or-bad = go (rows_in e text) refl
    where
      go : (o : Outcome (List HexRow)) → rows_in e text ≡ o → ((rows : List HexRow) × IsHex e text rows) ⊎ ((k : ℕ) × FirstBad e text k)
      go (accepted rows) h = inl (rows, sound e text rows h)
      go (refused k) h = inr (k, refused-first e text k h)

  pub not-both : (rows : List HexRow) (k : ℕ) → IsHex e text rows → FirstBad e text k → ⊥
  not-both rows k h f = accepted-refused (sym (complete e text rows h) ∙ first-refused e text k f)

  pub one_number : (j k : ℕ) → FirstBad e text j → FirstBad e text k → j ≡ k
  one_number j k f g = let z = sym (first-refused e text j f) ∙ first-refused e text k g in cc
