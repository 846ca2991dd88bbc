-- An accepted join: the tests that it passed, and the bytes and the view that it left.
use Prim.Native.Nat.{ℕ, ◌+◌, ◌≤◌, ◌<◌}
use mathlib.Core.Path.{◌≡◌, ap}
use mathlib.Core.List.{List, ◌++◌}
use native.Mathlib.Nat.{zero-add}
use native.Mathlib.Omega.{arith}
use lib.ListN.{length, drop, get_or-append}
use Rattle.octets.specs.Number.{at}
use Rattle.octets.specs.Outcome.{Outcome, accepted, refused}
use Rattle.octets.specs.Over.{over}
use Rattle.octets.specs.Place.{part_of}
use Rattle.octets.proofs.Overlay.{length_over}
use Rattle.views.specs.View.{View}
use Rattle.views.specs.Joining.{join_into, viewed}
use Rattle.octets.proofs.Choosing.{passed, matched}

abbrev pub both_bytes : View → List ℕ → View → List ℕ → List ℕ
both_bytes v bytes w others = part_of bytes v.place ++ part_of others w.place

-- whole are the bytes that were kept of both, and f makes the answer's view of how many they are
pub record Joined {A : Type 0} (f : ℕ → A) (v : View) (bytes : List ℕ) (w : View) (others out whole : List ℕ) (j : A) (left : List ℕ) : Type 0 where
  pub first : v.place.start + v.place.len ≤ length bytes
  pub second : w.place.start + w.place.len ≤ length others
  pub low : v.base + v.len ≤ 65535
  pub meet : w.base ≡ v.base + v.len
  pub room : length whole ≤ length out
  pub view : f (length whole) ≡ j
  pub wrote : over whole out ≡ left

never : {A : Type 0} {a : A} {k : ℕ} {out left : List ℕ} → ◌≡◌ {A = Outcome A × List ℕ} (refused k, out) (accepted a, left) → ⊥
never {A} e = let f = ap (λ (p : Outcome A × List ℕ). p.0) e in let z : ◌≡◌ {A = ℕ} 0 1 = cc in omega arith

module _ {A : Type 0} {f : ℕ → A} where
  was-viewed : (x : Outcome ℕ × List ℕ) {j : A} {left : List ℕ} → viewed f x ≡ (accepted j, left) → (n : ℕ) × (x ≡ (accepted n, left)) × (f n ≡ j)
  was-viewed (accepted n, out) {j} e =
      let g : f n ≡ j = cc (ap (λ (p : Outcome A × List ℕ). p.0) e) in
      (n, ap (λ (l : List ℕ). (accepted n, l)) (ap (λ (p : Outcome A × List ℕ). p.1) e), g)
  was-viewed (refused k, out) e = absurd (never e)

  pub was-joined : (kept : List ℕ → List ℕ) (v w : View) (bytes others out : List ℕ) {j : A} {left : List ℕ}
      → viewed f (join_into kept v bytes w others out) ≡ (accepted j, left) → Joined f v bytes w others out (kept (both_bytes v bytes w others)) j left
  was-joined kept v w bytes others out {j} {left} e =
      let view = was-viewed (join_into kept v bytes w others out) e in
      let given : Outcome ℕ × List ℕ = (accepted view.0, left) in
      let first = passed _ _ _ _ given never view.1 in
      let second = passed _ _ _ _ given never first.1 in
      let low = passed _ _ _ _ given never second.1 in
      let meet = matched _ _ _ _ given never low.1 in
      let room = passed _ _ _ _ given never meet.1 in
      let count : length (kept (both_bytes v bytes w others)) ≡ view.0 = cc (ap (λ (p : Outcome ℕ × List ℕ). p.0) room.1) in
      record {
        first = first.0;
        second = second.0;
        low = low.0;
        meet = meet.0;
        room = room.0;
        view = rw count view.2;
        wrote = ap (λ (p : Outcome ℕ × List ℕ). p.1) room.1;
      }

  module _ {v w : View} {bytes others out whole left : List ℕ} {j : A} (was : Joined f v bytes w others out whole j left) where
    pub left-long : length whole ≤ length left
    left-long = rw (← was.wrote, length_over whole out was.room) was.room

    pub left_at : (p : ℕ) → p < length whole → at left (0 + p) ≡ at whole p
    unfolding over
    left_at p h = rw (zero-add, ← was.wrote) (get_or-append whole (drop (length whole) out) 0 p h)
