-- A text is read exactly if it is one of the format, with its rows.
use Prim.Native.Nat.{ℕ, ◌<◌}
use mathlib.Core.Path.{◌≡◌, refl, sym, ap, ◌∙◌}
use mathlib.Core.Option.{Option, none, some}
use mathlib.Core.List.{List, [], ◌∷◌, ◌++◌, append_assoc, append-nil}
use native.Mathlib.Omega.{arith}
use Rattle.octets.specs.Refusals.{malformed}
use Rattle.octets.specs.Outcome.{Outcome, accepted, refused, and_then}
use Rattle.octets.proofs.Choosing.{either-eq, refused-accepted}
use Rattle.octets.proofs.Outcomes.{then-both, same-value}
use Rattle.intel_hex.specs.Format.{HexRow, row_text, end_text, LineEnd, lf, crlf, ending, last_ending, TextOf, RowLines, capitals, RowFits, ApartFrom, RowsFit, IsHex}
use Rattle.intel_hex.specs.Reading.{joined, lines_in, without_cr, line_in, fits_behind, rows_at_last, rows_at_end, rows_behind, rows_from, rows_in}
use Rattle.intel_hex.specs.Faults.{Without, Before}
use Rattle.intel_hex.proofs.Cut.{without-append, lines-front, lines-only, some-line, together, lines-together, cr-cut, cr-kept, ended, before-either, capitals-append, nothing, without-capitals, cut-capitals, ending-capitals, ending-was, row-without, end-without}
use Rattle.intel_hex.proofs.Fitting.{is-fitting, fitting-is}
use Rattle.intel_hex.proofs.Spelled.{row-of-line, line-of-row, end-of-line, line-of-end}

-- ---- what is accepted is of the format
-- a line and its LF, in capitals
pub ended-capitals : (line t behind : List ℕ) → capitals (without_cr line) ≡ t → capitals (line ++ (10 ∷ behind)) ≡ t ++ (ending (ended line).end ++ capitals behind)
ended-capitals line t behind h =
    let end : LineEnd = (ended line).end in
    ap capitals ((ended line).cut behind) ∙ capitals-append (without_cr line) (ending end ++ behind) ∙ rw (h, ending-capitals end behind)

-- a row's line before a text
pub text-more : (r : HexRow) (rows : List HexRow) (end : LineEnd) (behind : List ℕ) → TextOf rows behind → TextOf (r ∷ rows) (row_text r ++ (ending end ++ behind))
text-more r rows end behind h = (
  row_text r ++ (ending end ++ h.0),
  h.1,
  ap (λ (l : List ℕ). row_text r ++ (ending end ++ l)) h.2 ∙ simp append_assoc,
  (end, h.0, refl, h.3),
)

-- the rows that a text has behind others
record Goes (e : ℕ) (before all : List HexRow) (text : List ℕ) : Type 0 where
  rows : List HexRow
  whole : all ≡ before ++ rows
  reads : TextOf rows (capitals text)
  fitting : RowsFit e before rows

sound-last : (e : ℕ) (before all : List HexRow) (line : List ℕ) → rows_at_last before (line_in line) ≡ accepted all → Goes e before all line
sound-last e before all line = go (line_in line) refl
  where
    go : (o : Outcome (Option HexRow)) → line_in line ≡ o → rows_at_last before o ≡ accepted all → Goes e before all line
    go (accepted none) q h = record { rows = []; whole = sym (same-value h) ∙ sym (append-nil before); reads = ([], none, end-of-line line q, refl); fitting = tt }
    go (accepted (some r)) q h = absurd (refused-accepted h)
    go (refused k) q h = absurd (refused-accepted h)

pub end-only : (rows : List HexRow) (lines : List (List ℕ)) (all : List HexRow) → rows_at_end rows lines ≡ accepted all → (together lines ≡ []) × (all ≡ rows)
end-only rows [] all h = absurd (refused-accepted h)
end-only rows ([] ∷ []) all h = (refl, sym (same-value h))
end-only rows ((b ∷ line) ∷ lines) all h = absurd (refused-accepted h)
end-only rows ([] ∷ line ∷ lines) all h = absurd (refused-accepted h)

-- where the text goes on, its end record was not the end
pub not-at-end : (rows : List HexRow) (b : ℕ) (behind : List ℕ) → rows_at_end rows (lines_in (b ∷ behind)) ≡ refused malformed
unfolding lines_in
not-at-end rows b behind =
    either-eq (λ (ls : List (List ℕ)). rows_at_end rows ls ≡ refused malformed) b 10 ([] ∷ lines_in behind) (joined b (lines_in behind)) (λ g. more (lines_in behind) (some-line behind)) (λ g. other-line (lines_in behind))
  where
    more : (ls : List (List ℕ)) → (ls ≡ [] → ⊥) → rows_at_end rows ([] ∷ ls) ≡ refused malformed
    more [] g = absurd (g refl)
    more (next ∷ ls) g = refl

    other-line : (ls : List (List ℕ)) → rows_at_end rows (joined b ls) ≡ refused malformed
    other-line [] = refl
    other-line (next ∷ ls) = refl

-- a row behind others, or the end record, and then the lines behind it
abbrev pub go_on : ℕ → List HexRow → List (List ℕ) → HexRow → Outcome (List HexRow)
go_on e before lines r = and_then (fits_behind e before r) (λ u. rows_from e (before ++ (r ∷ [])) lines)

module _ (e : ℕ) (before all : List HexRow) (line : List ℕ) (lines : List (List ℕ)) where
  sound-row : (r : HexRow) → line_in (without_cr line) ≡ accepted (some r) → fits_behind e before r ≡ accepted tt → Goes e (before ++ (r ∷ [])) all (together lines)
      → Goes e before all (line ++ (10 ∷ together lines))
  sound-row r q f g =
      let s = row-of-line (without_cr line) r q in
      let fit = is-fitting e before r f in
      record {
        rows = r ∷ g.rows;
        whole = g.whole ∙ append_assoc before (r ∷ []) g.rows;
        reads = rw (ended-capitals line (row_text r) (together lines) s.0) (text-more r g.rows (ended line).end (capitals (together lines)) g.reads);
        fitting = ((s.1, fit.0), fit.1, g.fitting);
      }

  sound-end : line_in (without_cr line) ≡ accepted none → rows_at_end before lines ≡ accepted all → Goes e before all (line ++ (10 ∷ together lines))
  unfolding capitals
  sound-end q h =
      let o = end-only before lines all h in
      let t = ended-capitals line end_text [] (end-of-line (without_cr line) q) in
      record { rows = []; whole = o.1 ∙ sym (append-nil before); reads = rw o.0 ([], some (ended line).end, t ∙ rw append-nil, refl); fitting = tt }

  sound-line : ((r : HexRow) → rows_from e (before ++ (r ∷ [])) lines ≡ accepted all → Goes e (before ++ (r ∷ [])) all (together lines))
      → (o : Outcome (Option HexRow)) → line_in (without_cr line) ≡ o → rows_behind before lines (go_on e before lines) o ≡ accepted all → Goes e before all (line ++ (10 ∷ together lines))
  sound-line next (accepted none) q h = sound-end q h
  sound-line next (accepted (some r)) q h =
      let t = then-both (fits_behind e before r) (λ u. rows_from e (before ++ (r ∷ [])) lines) h in
      sound-row r q t.first (next r t.second)
  sound-line next (refused k) q h = absurd (refused-accepted h)

sound-from : (e : ℕ) (before : List HexRow) (lines : List (List ℕ)) (all : List HexRow) → rows_from e before lines ≡ accepted all → Goes e before all (together lines)
unfolding rows_from
sound-from e before [] all h = absurd (refused-accepted h)
sound-from e before (line ∷ []) all h = sound-last e before all line h
sound-from e before (line ∷ next ∷ lines) all h =
    sound-line e before all line (next ∷ lines) (λ r g. sound-from e (before ++ (r ∷ [])) (next ∷ lines) all g) (line_in (without_cr line)) refl h

pub sound : (e : ℕ) (text : List ℕ) (rows : List HexRow) → rows_in e text ≡ accepted rows → IsHex e text rows
unfolding rows_in
sound e text rows h =
    let g : Goes e [] rows text = rw (lines-together text) at (sound-from e [] (lines_in text) rows h) in
    rw g.whole (record { reads = g.reads; fitting = g.fitting })

-- ---- what is of the format is accepted
pub step_lines : (e : ℕ) (before : List HexRow) (line : List ℕ) (lines : List (List ℕ)) → (lines ≡ [] → ⊥) → rows_from e before (line ∷ lines) ≡ rows_behind before lines (go_on e before lines) (line_in (without_cr line))
unfolding rows_from
step_lines e before line [] h = absurd (h refl)
step_lines e before line (next ∷ lines) h = refl

-- by the first line, which has its line end
step : (e : ℕ) (before : List HexRow) (line behind : List ℕ) → Without 10 line
    → rows_from e before (lines_in (line ++ (10 ∷ behind))) ≡ rows_behind before (lines_in behind) (go_on e before (lines_in behind)) (line_in (without_cr line))
step e before line behind h = rw (lines-front line behind h) (step_lines e before line (lines_in behind) (some-line behind))

-- and by the last one
pub step-last : (e : ℕ) (before : List HexRow) (line : List ℕ) → Without 10 line → rows_from e before (lines_in line) ≡ rows_at_last before (line_in line)
unfolding rows_from
step-last e before line h = rw (lines-only line h)

-- by a line before its line end
pub step-ended : (e : ℕ) (before : List HexRow) (line : List ℕ) (end : LineEnd) (behind : List ℕ) → Before end line
    → rows_from e before (lines_in (line ++ (ending end ++ behind))) ≡ rows_behind before (lines_in behind) (go_on e before (lines_in behind)) (line_in line)
step-ended e before line lf behind h = step e before line behind h.0 ∙ rw (cr-kept line h.1)
step-ended e before line crlf behind h =
    let with-cr : Without 10 (line ++ (13 ∷ [])) = without-append 10 line (13 ∷ []) h (omega arith) in
    rw (← append_assoc line (13 ∷ []) (10 ∷ behind)) (step e before (line ++ (13 ∷ [])) behind with-cr ∙ rw (cr-cut line))

-- a text whose capitals begin with a record and its line end
record Begins (text t : List ℕ) (end : LineEnd) (behind : List ℕ) : Type 0 where
  line : List ℕ
  rest : List ℕ
  cut : text ≡ line ++ (ending end ++ rest)
  is : capitals line ≡ t
  leaves : capitals rest ≡ behind

begins : (text t : List ℕ) (end : LineEnd) (behind : List ℕ) → capitals text ≡ t ++ (ending end ++ behind) → Begins text t end behind
begins text t end behind h =
    let a = cut-capitals text t (ending end ++ behind) h in
    let b = cut-capitals a.1 (ending end) behind a.4 in
    record { line = a.0; rest = b.1; cut = a.2 ∙ ap (λ (l : List ℕ). a.0 ++ l) (b.2 ∙ ap (λ (l : List ℕ). l ++ b.1) (ending-was end b.0 b.3)); is = a.3; leaves = b.4 }

-- a line that spells a record stands before its line end
pub before-spelled : (line t : List ℕ) (end : LineEnd) → capitals line ≡ t → ((b : ℕ) → b < 48 → Without b t) → Before end line
before-spelled line t end h w = before-either end line (without-capitals 10 line (omega arith) (rw h (w 10 (omega arith)))) (without-capitals 13 line (omega arith) (rw h (w 13 (omega arith))))

past_one : (e : ℕ) (before : List HexRow) (r : HexRow) (line : List ℕ) (end : LineEnd) (behind : List ℕ) → capitals line ≡ row_text r → RowFits e r → ApartFrom r before
    → rows_from e before (lines_in (line ++ (ending end ++ behind))) ≡ rows_from e (before ++ (r ∷ [])) (lines_in behind)
past_one e before r line end behind h f a =
    step-ended e before line end behind (before-spelled line (row_text r) end h (λ b low. row-without b low r))
    ∙ rw (line-of-row line r h f.0, fitting-is e before r f.1 a)

-- the lines of rows that fit are passed
pub past : (rows : List HexRow) (e : ℕ) (before : List HexRow) (front text : List ℕ) → RowLines rows (capitals front) → RowsFit e before rows
    → rows_from e before (lines_in (front ++ text)) ≡ rows_from e (before ++ rows) (lines_in text)
past [] e before front text h f = rw (nothing front h, append-nil)
past (r ∷ rows) e before front text h f =
    let b = begins front (row_text r) h.0 h.1 h.2 in
    rw (b.cut, append_assoc b.line (ending h.0 ++ b.rest) text, append_assoc (ending h.0) b.rest text)
    (past_one e before r b.line h.0 (b.rest ++ text) b.is f.0 f.1
    ∙ past rows e (before ++ (r ∷ [])) b.rest text (rw b.leaves h.3) f.2
    ∙ rw (append_assoc before (r ∷ []) rows))

-- what is left then
end-accepted : (e : ℕ) (rows : List HexRow) (text : List ℕ) (last : Option LineEnd) → capitals text ≡ end_text ++ last_ending last → rows_from e rows (lines_in text) ≡ accepted rows
unfolding lines_in
end-accepted e rows text none h = step-last e rows text (without-capitals 10 text (omega arith) (rw h (end-without 10 (omega arith)))) ∙ rw (line-of-end text h)
end-accepted e rows text (some end) h =
    let b = begins text end_text end [] (h ∙ rw append-nil) in
    rw (b.cut, nothing b.rest b.leaves) (step-ended e rows b.line end [] (before-spelled b.line end_text end b.is end-without) ∙ rw (line-of-end b.line b.is))

pub complete : (e : ℕ) (text : List ℕ) (rows : List HexRow) → IsHex e text rows → rows_in e text ≡ accepted rows
unfolding rows_in
complete e text rows h =
    let g = h.reads in
    let c = cut-capitals text g.0 (end_text ++ last_ending g.1) g.2 in
    rw c.2 (past rows e [] c.0 c.1 (rw c.3 g.3) h.fitting ∙ end-accepted e rows c.1 g.1 c.4)
