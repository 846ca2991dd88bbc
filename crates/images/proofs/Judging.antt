-- What a line comes to, behind rows that are marked.
use Rattle.std.proofs.Common.{◌≡◌, ℕ, suc, ◌+◌, ◌<◌, ◌≤◌, List, length, take, drop, sym, refl, ap, ◌∙◌, inl, inr, arith, length-drop, drop_of_length-le, drop-cons}
use Rattle.std.specs.Prelude.{Result, Ok, Err, Some, None}
use mathlib.Core.Option.{Option, none, some}
use Rattle.octets.specs.Refusals.{number_of}
use Rattle.octets.specs.Outcome.{Outcome, accepted, refused, on_accepted}
use Rattle.octets.specs.Choice.{if_lt}
use Rattle.octets.specs.Number.{at}
use Rattle.octets.proofs.Choosing.{either_lt}
use Rattle.text.specs.Lines.{until_of}
use Rattle.intel_hex.specs.Format.{HexRow}
use Rattle.intel_hex.specs.Reading.{lines_in, line_in, rows_at_last, rows_behind, rows_from}
use Rattle.images.specs.Inside.{Line, first_line, behind_line, extent_told, extent_of, last_step, FitOf, StepOf}
use Rattle.octets.specs.declared.refusal.Refusal.{Refusal}
use Rattle.octets.specs.declared.refusal.Refusal.TheVariants.{Malformed}
use Rattle.images.specs.declared.row.Row.{Row}
use Rattle.images.specs.declared.judge.Step.{Step}
use Rattle.images.specs.declared.judge.Step.TheVariants.{Row as OneRow, End as AtEnd}
use Rattle.intel_hex.proofs.Cut.{lines_at, lines-last, some-line}
use Rattle.intel_hex.proofs.Fitting.{fitting-is, fitting-not}
use Rattle.intel_hex.proofs.Texts.{go_on, step_lines, not-at-end}
use Rattle.images.proofs.Lines.{first_ended}
use Rattle.images.proofs.Named.{clear_apart, set_twice, one-more-marked}

-- what a line is that is told of
abbrev Told : Line → Outcome (Option HexRow) → Type 0
Told line o = extent_told line ≡ on_accepted extent_of o

-- the numbers of an answer, and which of the three it is
abbrev start_of : Outcome (Option (ℕ × ℕ)) → ℕ
start_of (accepted (some v)) = v.0
start_of (accepted none) = 0
start_of (refused k) = k

abbrev count_of : Outcome (Option (ℕ × ℕ)) → ℕ
count_of (accepted (some v)) = v.1
count_of (accepted none) = 0
count_of (refused k) = 0

abbrev which : Outcome (Option (ℕ × ℕ)) → ℕ
which (accepted (some v)) = 0
which (accepted none) = 1
which (refused k) = 2

pub record Says (start count : ℕ) (o : Outcome (Option HexRow)) : Type 0 where
  pub row : HexRow
  pub is : o ≡ accepted (some row)
  pub starts : row.start ≡ start
  pub counts : length row.bytes ≡ count

pub told-row : (row : Row) (o : Outcome (Option HexRow)) → Told (Ok (Some row)) o → Says row.start row.count o
told-row row (accepted (some r)) h = record { row = r; is = refl; starts = sym (ap start_of h); counts = sym (ap count_of h) }
told-row row (accepted none) h = absurd (omega (arith, ap which h))
told-row row (refused k) h = absurd (omega (arith, ap which h))

pub told-end : (o : Outcome (Option HexRow)) → Told (Ok None) o → o ≡ accepted none
told-end (accepted (some r)) h = absurd (omega (arith, ap which h))
told-end (accepted none) h = refl
told-end (refused k) h = absurd (omega (arith, ap which h))

pub told-fault : (k : Refusal) (o : Outcome (Option HexRow)) → Told (Err k) o → o ≡ refused (number_of k)
told-fault k (accepted (some r)) h = absurd (omega (arith, ap which h))
told-fault k (accepted none) h = absurd (omega (arith, ap which h))
told-fault k (refused j) h = ap refused (sym (ap start_of h))

module _ (e : ℕ) (l before after : List ℕ) where
  abbrev first : Outcome (Option HexRow)
  first = line_in (first_line (lines_in l))

  -- ---- without a line end
  module _ (unended : until_of 10 l ≡ length l) where
    at_last : (rows : List HexRow) → rows_from e rows (lines_in l) ≡ rows_at_last rows first
    unfolding rows_from
    at_last rows = rw (lines-last l unended)

    pub last_step_lem : (line : Line) → Told line first → StepOf e l before after (last_step line)
    last_step_lem (Ok (Some row)) h = λ rows marked. at_last rows ∙ rw (told-row row first h).is
    last_step_lem (Ok None) h = λ rows marked. at_last rows ∙ rw (told-end first h)
    last_step_lem (Err k) h = λ rows marked. at_last rows ∙ rw (told-fault k first h)

  -- ---- with one
  module _ (ended : until_of 10 l < length l) where
    at-line : (rows : List HexRow) → rows_from e rows (lines_in l) ≡ rows_behind rows (lines_in (behind_line l)) (go_on e rows (lines_in (behind_line l))) first
    at-line rows =
        ap (rows_from e rows) (lines_at l ended)
        ∙ step_lines e rows (take (until_of 10 l) l) (lines_in (behind_line l)) (some-line (behind_line l))
        ∙ ap (λ (line : List ℕ). rows_behind rows (lines_in (behind_line l)) (go_on e rows (lines_in (behind_line l))) (line_in line)) (sym (first_ended l (until_of 10 l) refl ended))

    pub fault-step : (k : Refusal) → first ≡ refused (number_of k) → StepOf e l before after (Err k)
    fault-step k h = λ rows marked. at-line rows ∙ rw h

    -- behind the end record the text ends, or goes on
    at-end : first ≡ accepted none → length l ≤ until_of 10 l + 1 → StepOf e l before after (Ok AtEnd)
    unfolding lines_in
    at-end h g = λ rows marked. at-line rows ∙ rw (h, drop_of_length-le l g)

    goes_on : first ≡ accepted none → until_of 10 l + 1 < length l → StepOf e l before after (Err Malformed)
    goes_on h g = λ rows marked. at-line rows ∙ rw (h, drop-cons l (until_of 10 l + 1) 0 g) (not-at-end rows (at l (until_of 10 l + 1)) (drop (suc (until_of 10 l + 1)) l))

    pub end_step : first ≡ accepted none → StepOf e l before after (if_lt (until_of 10 l + 1) (length l) (Err Malformed) (Ok AtEnd))
    end_step h = either_lt (StepOf e l before after) _ _ _ _ (goes_on h) (at-end h)

    -- a row fits behind those that are marked, or not
    module _ (small : e ≤ 65536) (r : HexRow) (is : first ≡ accepted (some r)) where
      pub row_step : (step : Result Step Refusal) → FitOf e r.start (length r.bytes) before after step → StepOf e l before after step
      row_step (Ok OneRow) h = (
        omega (arith, length-drop (until_of 10 l + 1) l),
        λ rows marked. (
          r,
          one-more-marked rows r before after marked h.1,
          at-line rows ∙ rw (is, fitting-is e rows r h.0 (clear_apart rows r (λ i n. sym (marked.1 i (omega (arith, n.1))) ∙ h.1.0 i n.0 n.1))),
        ),
      )
      row_step (Err k) (inl h) = λ rows marked. at-line rows ∙ rw (is, fitting-not e rows r (number_of k) (inl (h.1, h.0)))
      row_step (Err k) (inr h) = λ rows marked. at-line rows ∙ rw (is, fitting-not e rows r (number_of k) (inr (h.2, h.0, set_twice rows r h.1.0 (h.1.1, h.1.2) (sym (marked.1 h.1.0 (omega (arith, h.1.2))) ∙ h.1.3))))
      row_step (Ok AtEnd) h = absurd h
