-- Meters, one after the other.
use Prim.Native.Nat.{ℕ, zero, suc, ◌+◌, ◌≤◌, ◌<◌}
use mathlib.Core.Path.{◌≡◌, refl}
use mathlib.Core.Bool.{Bool, true, false}
use mathlib.Core.List.{List, [], ◌∷◌}
use native.Mathlib.Numerals.{add-one}
use native.Mathlib.Omega.{arith}
use lib.ListN.{length, take, get_or}
use Rattle.std.specs.Bool.{MatchBool}
use Rattle.std.specs.List.{HoldsAt, AllWithin}
use Rattle.octets.proofs.Choosing.{below, above, either_lt}
use Rattle.processor.specs.Memory.{put_at}
use Rattle.processor.specs.Create.{any_beyond, with_meters}

-- one more is set
pub more_meters : (i : ℕ) (l s : List ℕ) → i < length l → with_meters (take (i + 1) l) s ≡ put_at (get_or l i 0) (0xC2700000 ∷ []) (with_meters (take i l) s)
more_meters i l s h = rw add-one (go i l s h)
  where
    go : (i : ℕ) (l s : List ℕ) → i < length l → with_meters (take (suc i) l) s ≡ put_at (get_or l i 0) (0xC2700000 ∷ []) (with_meters (take i l) s)
    go i [] s h = absurd (omega arith)
    go zero (a ∷ l) s h = refl
    go (suc i) (a ∷ l) s h = go i l (put_at a (0xC2700000 ∷ []) s) (omega arith)

-- what a search for one beyond answers
some : (s i : ℕ) (l : List ℕ) → i < length l → s ≤ get_or l i 0 → true ≡ any_beyond s l
some s i [] h g = absurd (omega arith)
some s zero (a ∷ l) h g = above _ _ _ _ _ g refl
some s (suc i) (a ∷ l) h g = either_lt (λ b. true ≡ b) a s _ _ (λ k. some s i l (omega arith) g) (λ k. refl)

none : (s : ℕ) (l : List ℕ) → ((i : ℕ) → i < length l → get_or l i 0 < s) → false ≡ any_beyond s l
none s [] h = refl
none s (a ∷ l) h = below _ _ _ _ _ (h 0 (omega arith)) (none s l (λ i k. h (suc i) (omega arith)))

pub beyond-found : (s : ℕ) (l : List ℕ) (r : Bool) → MatchBool r ((k : ℕ) × (k < length l) × HoldsAt (λ a. s ≤ a) l k) (AllWithin (λ a. a < s) l 0 (length l)) → r ≡ any_beyond s l
beyond-found s l true h = some s h.0 l h.1 (h.2 0)
beyond-found s l false h = none s l (λ i k. h i 0 (omega arith) k)
