-- Parts of a text on a page, one behind the other.
use Prim.Native.Nat.{ℕ, ◌+◌, ◌-◌, ◌≤◌}
use mathlib.Core.Path.{◌≡◌, refl, sym, ap, ◌∙◌}
use mathlib.Core.List.{List, [], ◌++◌, append_assoc}
use native.Mathlib.Omega.{arith}
use lib.ListN.{length, take, drop, length-append, length-take, length-drop, take-append-drop}
use lib.Seq.{take_at, drop_at, drop-drop}
use Rattle.octets.specs.Outcome.{Outcome, accepted, refused}
use Rattle.octets.specs.Over.{over, into, over_at, into_at}
use Rattle.octets.proofs.Choosing.{above, if-of, was-above, refused-accepted}
use Rattle.octets.proofs.Outcomes.{same-value}
use Rattle.octets.proofs.Overlay.{length-over-at, put-at-over, put-from}
use Rattle.listed.specs.Inside.{Adds}

-- nothing
pub adds_none : (at : ℕ) (page : List ℕ) → Adds [] at page at page
unfolding over_at over
adds_none at page = record { told = λ h. omega arith; text = λ h. sym (take-append-drop at page) }

over-twice : (l v w : List ℕ) (at : ℕ) → at + length v + length w ≤ length l → over_at (at + length v) w (over_at at v l) ≡ over_at at (v ++ w) l
unfolding over_at over
over-twice l v w at h =
    let p = take at l in
    let d = drop (length v) (drop at l) in
    let n : length (p ++ v) ≡ at + length v = simp (length-append, length-take) (omega arith) in
    rw (← append_assoc p v d, take_at (p ++ v) d (at + length v) n, drop_at (p ++ v) d (at + length v) n, drop-drop (length w) (length v) (drop at l), length-append v w) (simp append_assoc)

-- one part behind another
pub adds-adds : {v w page between left : List ℕ} {at m end : ℕ} → Adds v at page m between → Adds w m between end left → Adds (v ++ w) at page end left
adds-adds {v} {w} {page} {between} {left} {at} {m} {end} p q = record { told = λ h. (both h).0; text = λ h. (both h).1 }
  where
    both : at + length (v ++ w) ≤ length page → (end ≡ at + length (v ++ w)) × (left ≡ over_at at (v ++ w) page)
    both h =
        let n = length-append v w in
        let first : at + length v ≤ length page = omega arith in
        let long : length between ≡ length page = rw (p.text first) (length-over-at page at v first) in
        let here = p.told first in
        let second : m + length w ≤ length between = omega arith in
        (omega (arith, q.told second), q.text second ∙ rw (here, p.text first) (over-twice page v w at (omega arith)))

-- ---- what a callee wrote, or not, behind a place
module _ (w l : List ℕ) (at : ℕ) {o : List ℕ} where
  pub wrote : {n : ℕ} → (accepted n, o) ≡ into_at at w l → (at + n ≤ length l) × Adds w at l (at + n) o
  wrote {n} e =
      let told = was-above _ _ _ _ (sym (ap (λ (p : Outcome ℕ × List ℕ). p.0) e ∙ if-of (λ (p : Outcome ℕ × List ℕ). p.0) _ _ _ _)) in
      let long : length w ≡ n = same-value told.1 in
      (omega (arith, told.0), record { told = λ h. omega arith; text = λ h. put-at-over l at w e h })

  pub wrote-not : {k : ℕ} → (refused k, o) ≡ into_at at w l → Adds w at l at o
  wrote-not {k} e =
      let never : at + length w ≤ length l → ⊥ = λ h. refused-accepted (ap (λ (p : Outcome ℕ × List ℕ). p.0) (e ∙ sym (above _ _ _ _ _ h refl))) in
      record { told = λ h. absurd (never h); text = λ h. absurd (never h) }

-- the same, where the callee was lent the rest of the page, which comes back
length_rest : (l : List ℕ) (at : ℕ) → length (take (length l - at) (drop at l)) ≡ length l - at
length_rest l at = simp (length-take, length-drop) (omega arith)

module _ (w l : List ℕ) (at m : ℕ) (size : m ≡ length l) (h : at ≤ m) {y : List ℕ} where
  pub lent : {n : ℕ} → (accepted n, y) ≡ into w (take (m - at) (drop at l)) → (at + n ≤ m) × Adds w at l (at + n) (take at l ++ (y ++ drop (m - at) (drop at l)))
  lent {n} e =
      let whole = rw size at e in
      let told = was-above _ _ _ _ (sym (ap (λ (p : Outcome ℕ × List ℕ). p.0) whole ∙ if-of (λ (p : Outcome ℕ × List ℕ). p.0) _ _ _ _)) in
      rw size (wrote w l at (put-from l at w (omega (arith, told.0, length_rest l at)) whole))

  pub lent-not : {k : ℕ} → (refused k, y) ≡ into w (take (m - at) (drop at l)) → Adds w at l at (take at l ++ (y ++ drop (m - at) (drop at l)))
  lent-not {k} e =
      let whole = rw size at e in
      let never : at + length w ≤ length l → ⊥ = λ g. refused-accepted (ap (λ (p : Outcome ℕ × List ℕ). p.0) (whole ∙ sym (above _ _ _ _ _ (omega (arith, length_rest l at)) refl))) in
      record { told = λ g. absurd (never g); text = λ g. absurd (never g) }
