-- The first line of a text, and what stands behind it.
use Rattle.std.proofs.Common.{◌≡◌, ℕ, ◌-◌, ◌<◌, List, [], ◌∷◌, length, take, drop, refl, ◌∙◌, arith, length-drop, take_all}
use Rattle.text.specs.Lines.{until_of}
use Rattle.intel_hex.specs.Reading.{lines_in, without_cr}
use Rattle.images.specs.Inside.{first_line, behind_line}
use Rattle.intel_hex.proofs.Cut.{lines_at, lines-last, some-line}

-- before other lines
first_of : (line : List ℕ) (lines : List (List ℕ)) → (lines ≡ [] → ⊥) → first_line (line ∷ lines) ≡ without_cr line
first_of line [] h = absurd (h refl)
first_of line (next ∷ lines) h = refl

pub first_ended : (l : List ℕ) (n : ℕ) → n ≡ until_of 10 l → n < length l → first_line (lines_in l) ≡ without_cr (take n l)
first_ended l n e h =
    let there : until_of 10 l < length l = omega arith in
    rw (e, lines_at l there) (first_of (take (until_of 10 l) l) (lines_in (behind_line l)) (some-line (behind_line l)))

pub first-unended : (l : List ℕ) → until_of 10 l ≡ length l → first_line (lines_in l) ≡ l
first-unended l h = rw (lines-last l h)

-- what is cut behind it
pub cut-behind : (l : List ℕ) (n : ℕ) → drop n l ≡ behind_line l → take (length l - n) (drop n l) ≡ behind_line l
cut-behind l n h = take_all (length l - n) (drop n l) (omega (arith, length-drop n l)) ∙ h
