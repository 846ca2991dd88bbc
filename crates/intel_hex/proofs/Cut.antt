-- Laws of lines: the first line of a text ends at its first LF, and its last line is what has none. A CR before the LF is
-- no part of it, and capitals leave line ends as they are.
use Prim.Native.Nat.{ℕ, zero, suc, ◌+◌, ◌≤◌, ◌<◌}
use mathlib.Core.Path.{◌≡◌, refl, sym, ap, ◌∙◌, subst}
use mathlib.Core.Logic.{◌⊎◌, inl, inr, ⊎_elim}
use mathlib.Core.List.{List, [], ◌∷◌, ◌++◌, append_assoc, cons≢nil}
use native.Mathlib.Nat.{suc-add}
use native.Mathlib.Omega.{arith}
use lib.ListN.{length, take, drop, length-append, take-append-drop}
use lib.Seq.{take-length, take-suc, take_at, drop_at}
use Rattle.octets.specs.Choice.{if_eq}
use Rattle.octets.specs.Number.{at}
use Rattle.octets.proofs.Choosing.{same, other, either_lt, either-eq, if-eq-of, lt-or-le}
use Rattle.text.specs.Digits.{hex_digit, hex_digits, pairs_of}
use Rattle.text.specs.Lines.{until_of}
use Rattle.intel_hex.specs.Format.{HexRow, closed_record, row_text, end_text, LineEnd, lf, crlf, ending, capital, capitals}
use Rattle.intel_hex.specs.Reading.{joined, lines_in, without_cr}
use Rattle.intel_hex.specs.Faults.{Without, Before}
use Rattle.intel_hex.proofs.Letters.{kept_low, was-low}

-- ---- lists that have no b
pub without-append : (b : ℕ) (p q : List ℕ) → Without b p → Without b q → Without b (p ++ q)
without-append b [] q h g = g
without-append b (c ∷ p) q h g = (h.0, without-append b p q h.1 g)

without-front : (b : ℕ) (p q : List ℕ) → Without b (p ++ q) → Without b p
without-front b [] q h = tt
without-front b (c ∷ p) q h = (h.0, without-front b p q h.1)

without-last : (b : ℕ) (p : List ℕ) → Without b (p ++ (b ∷ [])) → ⊥
without-last b [] h = h.0 refl
without-last b (c ∷ p) h = without-last b p h.1

-- ---- the first byte that is b
-- what stands before it
pub before-first : (b : ℕ) (l : List ℕ) → Without b (take (until_of b l) l)
unfolding until_of
before-first b [] = tt
before-first b (c ∷ l) = either-eq (λ (n : ℕ). Without b (take n (c ∷ l))) c b 0 (suc (until_of b l)) (λ e. tt) (λ e. (e, before-first b l))

-- a text with one, cut there
pub cut-first : (b : ℕ) (l : List ℕ) → until_of b l < length l → l ≡ take (until_of b l) l ++ (b ∷ drop (until_of b l + 1) l)
unfolding until_of
cut-first b [] h = absurd (omega arith)
cut-first b (c ∷ l) h =
    either-eq (λ (n : ℕ). n < length (c ∷ l) → c ∷ l ≡ take n (c ∷ l) ++ (b ∷ drop (n + 1) (c ∷ l))) c b 0 (suc (until_of b l))
    (λ e g. rw e)
    (λ e g. rw suc-add (ap (λ (r : List ℕ). c ∷ r) (cut-first b l (omega arith))))
    h

pub until-within : (b : ℕ) (l : List ℕ) → until_of b l ≤ length l
unfolding until_of
until-within b [] = omega arith
until-within b (c ∷ l) = either-eq (λ (n : ℕ). n ≤ length (c ∷ l)) c b 0 (suc (until_of b l)) (λ e. omega arith) (λ e. omega (arith, until-within b l))

-- every text has one, or has none
pub one-or-none : (b : ℕ) (l : List ℕ) → (until_of b l < length l) ⊎ (until_of b l ≡ length l)
one-or-none b l = ⊎_elim (λ h. inl h) (λ h. inr (omega (arith, until-within b l))) (lt-or-le (until_of b l) (length l))

pub has-none : (b : ℕ) (l : List ℕ) → until_of b l ≡ length l → Without b l
has-none b l h = rw (h, take-length) at (before-first b l)

pub until_none : (b : ℕ) (l : List ℕ) → Without b l → until_of b l ≡ length l
unfolding until_of
until_none b [] h = refl
until_none b (c ∷ l) h = sym (other _ _ _ _ _ h.0 (ap suc (sym (until_none b l h.1))))

-- ---- lines
-- what has no LF before one is a line
pub lines-front : (p l : List ℕ) → Without 10 p → lines_in (p ++ (10 ∷ l)) ≡ p ∷ lines_in l
unfolding lines_in
lines-front [] l h = sym (same _ _ _ _ _ refl refl)
lines-front (b ∷ p) l h = sym (other _ _ _ _ _ h.0 (sym (ap (joined b) (lines-front p l h.1))))

-- and so is what has none at all
pub lines-only : (p : List ℕ) → Without 10 p → lines_in p ≡ p ∷ []
unfolding lines_in
lines-only [] h = refl
lines-only (b ∷ p) h = sym (other _ _ _ _ _ h.0 (sym (ap (joined b) (lines-only p h.1))))

pub lines_at : (l : List ℕ) → until_of 10 l < length l → lines_in l ≡ take (until_of 10 l) l ∷ lines_in (drop (until_of 10 l + 1) l)
lines_at l h = ap lines_in (cut-first 10 l h) ∙ lines-front (take (until_of 10 l) l) (drop (until_of 10 l + 1) l) (before-first 10 l)

pub lines-last : (l : List ℕ) → until_of 10 l ≡ length l → lines_in l ≡ l ∷ []
lines-last l h = lines-only l (has-none 10 l h)

-- there is always one
pub some-line : (l : List ℕ) → lines_in l ≡ [] → ⊥
unfolding lines_in
some-line [] = cons≢nil
some-line (b ∷ l) = either-eq (λ (ls : List (List ℕ)). ls ≡ [] → ⊥) b 10 _ _ (λ e. cons≢nil) (λ e. some (lines_in l))
  where
    some : (ls : List (List ℕ)) → joined b ls ≡ [] → ⊥
    some [] = cons≢nil
    some (line ∷ ls) = cons≢nil

-- lines with LF between them
abbrev pub together : List (List ℕ) → List ℕ
together [] = []
together (line ∷ []) = line
together (line ∷ next ∷ lines) = line ++ (10 ∷ together (next ∷ lines))

together-one : (ls : List (List ℕ)) → (ls ≡ [] → ⊥) → together ([] ∷ ls) ≡ 10 ∷ together ls
together-one [] h = absurd (h refl)
together-one (line ∷ ls) h = refl

together-joined : (b : ℕ) (ls : List (List ℕ)) → together (joined b ls) ≡ b ∷ together ls
together-joined b [] = refl
together-joined b (line ∷ []) = refl
together-joined b (line ∷ next ∷ lines) = refl

-- a text is its lines
pub lines-together : (l : List ℕ) → together (lines_in l) ≡ l
unfolding lines_in
lines-together [] = refl
lines-together (b ∷ l) =
    either-eq (λ (ls : List (List ℕ)). together ls ≡ b ∷ l) b 10 ([] ∷ lines_in l) (joined b (lines_in l))
    (λ e. together-one (lines_in l) (some-line l) ∙ rw (lines-together l, e))
    (λ e. together-joined b (lines_in l) ∙ rw (lines-together l))

-- ---- CR at the end of a line
pub cr-last : (p : List ℕ) (b : ℕ) → without_cr (p ++ (b ∷ [])) ≡ if_eq b 13 p (p ++ (b ∷ []))
unfolding without_cr
cr-last [] b = refl
cr-last (c ∷ []) b = if-eq-of (λ (l : List ℕ). c ∷ l) b 13 [] (b ∷ [])
cr-last (c ∷ d ∷ p) b = rw (cr-last (d ∷ p) b) (if-eq-of (λ (l : List ℕ). c ∷ l) b 13 (d ∷ p) (d ∷ (p ++ (b ∷ []))))

pub cr-cut : (p : List ℕ) → without_cr (p ++ (13 ∷ [])) ≡ p
cr-cut p = cr-last p 13 ∙ sym (same _ _ _ _ _ refl refl)

-- by a line's last byte
module _ (l : List ℕ) (n : ℕ) (long : n + 1 ≡ length l) where
  split-last : l ≡ take n l ++ (at l n ∷ [])
  split-last =
      let whole : suc n ≡ length l = omega arith in
      sym (take-length l) ∙ rw (← whole) (take-suc l n 0 (omega arith))

  pub cr-there : at l n ≡ 13 → without_cr l ≡ take n l
  cr-there e = ap without_cr split-last ∙ cr-last (take n l) (at l n) ∙ sym (same _ _ _ _ _ e refl)

  pub cr-not-there : (at l n ≡ 13 → ⊥) → without_cr l ≡ l
  cr-not-there e = ap without_cr split-last ∙ cr-last (take n l) (at l n) ∙ sym (other _ _ _ _ _ e split-last)

pub cr-either : (l : List ℕ) → (l ≡ without_cr l) ⊎ (l ≡ without_cr l ++ (13 ∷ []))
unfolding without_cr
cr-either [] = inl refl
cr-either (b ∷ []) = either-eq (λ (r : List ℕ). (b ∷ [] ≡ r) ⊎ (b ∷ [] ≡ r ++ (13 ∷ []))) b 13 _ _ (λ e. inr (rw e)) (λ e. inl refl)
cr-either (b ∷ c ∷ l) = ⊎_elim (λ e. inl (ap (λ (r : List ℕ). b ∷ r) e)) (λ e. inr (ap (λ (r : List ℕ). b ∷ r) e)) (cr-either (c ∷ l))

pub cr-kept : (l : List ℕ) → ((front : List ℕ) → l ≡ front ++ (13 ∷ []) → ⊥) → without_cr l ≡ l
cr-kept l never = ⊎_elim (λ e. sym e) (λ e. absurd (never (without_cr l) e)) (cr-either l)

-- what is kept has none at its end
cr-gone : (l : List ℕ) → l ≡ without_cr l → (front : List ℕ) → l ≡ front ++ (13 ∷ []) → ⊥
cr-gone l e front f =
    let same-front : front ≡ front ++ (13 ∷ []) = sym (e ∙ ap without_cr f ∙ cr-cut front) ∙ f in
    omega (arith, ap length same-front, length-append front (13 ∷ []))

-- a line and its LF, as a line and its line end
pub record Ended (line : List ℕ) : Type 0 where
  pub end : LineEnd
  pub cut : (behind : List ℕ) → line ++ (10 ∷ behind) ≡ without_cr line ++ (ending end ++ behind)
  pub before : Without 10 line → Before end (without_cr line)

pub ended : (line : List ℕ) → Ended line
ended line = ⊎_elim bare with-cr (cr-either line)
  where
    bare : line ≡ without_cr line → Ended line
    bare e = record { end = lf; cut = λ behind. ap (λ (l : List ℕ). l ++ (10 ∷ behind)) e; before = λ h. subst (Before lf) e (h, cr-gone line e) }

    with-cr : line ≡ without_cr line ++ (13 ∷ []) → Ended line
    with-cr e =
        record {
          end = crlf;
          cut = λ behind. ap (λ (l : List ℕ). l ++ (10 ∷ behind)) e ∙ append_assoc (without_cr line) (13 ∷ []) (10 ∷ behind);
          before = λ h. without-front 10 (without_cr line) (13 ∷ []) (subst (Without 10) e h);
        }

-- a line that has neither stands before either
pub before-either : (end : LineEnd) (line : List ℕ) → Without 10 line → Without 13 line → Before end line
before-either lf line h g = (h, λ front e. without-last 13 front (subst (Without 13) e g))
before-either crlf line h g = h

-- ---- capitals
pub capitals-append : (a b : List ℕ) → capitals (a ++ b) ≡ capitals a ++ capitals b
unfolding capitals
capitals-append [] b = refl
capitals-append (c ∷ a) b = ap (λ (r : List ℕ). capital c ∷ r) (capitals-append a b)

pub nothing : (l : List ℕ) → capitals l ≡ [] → l ≡ []
unfolding capitals
nothing [] h = refl
nothing (b ∷ l) h = absurd (cons≢nil h)

pub capitals-take : (n : ℕ) (l : List ℕ) → capitals (take n l) ≡ take n (capitals l)
unfolding capitals
capitals-take zero l = refl
capitals-take (suc n) [] = refl
capitals-take (suc n) (b ∷ l) = ap (λ (r : List ℕ). capital b ∷ r) (capitals-take n l)

pub capitals-drop : (n : ℕ) (l : List ℕ) → capitals (drop n l) ≡ drop n (capitals l)
unfolding capitals
capitals-drop zero l = refl
capitals-drop (suc n) [] = refl
capitals-drop (suc n) (b ∷ l) = capitals-drop n l

pub without-capitals : (b : ℕ) (l : List ℕ) → b < 97 → Without b (capitals l) → Without b l
unfolding capitals
without-capitals b [] h g = tt
without-capitals b (c ∷ l) h g = (λ e. g.0 (kept_low c (omega arith) ∙ e), without-capitals b l h g.1)

-- a text whose capitals are two parts, in two parts
pub cut-capitals : (l a b : List ℕ) → capitals l ≡ a ++ b → (p : List ℕ) × (q : List ℕ) × (l ≡ p ++ q) × (capitals p ≡ a) × (capitals q ≡ b)
cut-capitals l a b h =
    let n : ℕ = length a in
    (take n l, drop n l, sym (take-append-drop n l), capitals-take n l ∙ rw h (take_at a b n refl), capitals-drop n l ∙ rw h (drop_at a b n refl))

-- ---- line ends
pub ending-capitals : (end : LineEnd) (l : List ℕ) → capitals (ending end ++ l) ≡ ending end ++ capitals l
unfolding capitals
ending-capitals lf l = rw (kept_low 10 (omega arith))
ending-capitals crlf l = rw (kept_low 13 (omega arith), kept_low 10 (omega arith))

pub ending-was : (end : LineEnd) (l : List ℕ) → capitals l ≡ ending end → l ≡ ending end
unfolding capitals
ending-was lf [] h = absurd (cons≢nil (sym h))
ending-was lf (b ∷ []) h = let e : b ≡ 10 = was-low b 10 (omega arith) (cc) in rw e
ending-was lf (b ∷ c ∷ l) h = let z : ◌≡◌ {A = ℕ} 0 1 = cc in absurd (omega arith)
ending-was crlf [] h = absurd (cons≢nil (sym h))
ending-was crlf (b ∷ []) h = let z : ◌≡◌ {A = ℕ} 0 1 = cc in absurd (omega arith)
ending-was crlf (b ∷ c ∷ []) h =
    let e : b ≡ 13 = was-low b 13 (omega arith) (cc) in
    let f : c ≡ 10 = was-low c 10 (omega arith) (cc) in
    rw (e, f)
ending-was crlf (b ∷ c ∷ d ∷ l) h = let z : ◌≡◌ {A = ℕ} 0 1 = cc in absurd (omega arith)

-- ---- no record's text has one
module _ (b : ℕ) (low : b < 48) where
  digit-without : (d : ℕ) → hex_digit d ≡ b → ⊥
  digit-without d = either_lt (λ (c : ℕ). c ≡ b → ⊥) d 10 _ _ (λ h e. omega arith) (λ h e. omega arith)

  pairs-without : (l : List ℕ) → Without b (pairs_of l)
  unfolding pairs_of hex_digits
  pairs-without [] = tt
  pairs-without (c ∷ l) = (digit-without _, (digit-without _, pairs-without l))

  pub row-without : (r : HexRow) → Without b (row_text r)
  unfolding row_text
  row-without r = (λ e. omega arith, pairs-without (closed_record r))

  pub end-without : Without b end_text
  end-without = omega arith
