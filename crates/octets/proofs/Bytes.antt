-- Lists of bytes: one behind another, numbers in bytes, a part.
use Prim.Native.Nat.{ℕ, zero, suc, ◌+◌, ◌/◌, ◌%◌, ◌^◌, ◌≤◌, ◌<◌}
use mathlib.Core.Logic.{◌⊎◌, inl, inr}
use mathlib.Core.List.{List, [], ◌∷◌, ◌++◌}
use native.Mathlib.Nat.{mod-lt}
use native.Mathlib.Omega.{arith}
use lib.Dec.{lit<}
use lib.ListN.{take, drop, length-take}
use lib.Seq.{get_or-take, get_or-drop}
use Rattle.octets.specs.declared.Place.{Place}
use Rattle.octets.specs.Place.{part_of}
use Rattle.octets.specs.Number.{at, Octets, big_bytes, little_bytes}
use Rattle.octets.proofs.Choosing.{lt-or-le}
use Rattle.octets.proofs.InBytes.{past}

pub no-octets : Octets []
no-octets i = lit< tt

pub one_more : (n : ℕ) (l : List ℕ) → n < 256 → Octets l → Octets (n ∷ l)
one_more n l h octets zero = h
one_more n l h octets (suc i) = octets i

pub both-octets : (a b : List ℕ) → Octets a → Octets b → Octets (a ++ b)
both-octets [] b x y = y
both-octets (n ∷ a) b x y = one_more n (a ++ b) (x zero) (both-octets a b (λ i. x (suc i)) y)

pub behind-octets : (l : List ℕ) (n : ℕ) → Octets l → Octets (drop n l)
behind-octets l n octets i = rw get_or-drop (octets (n + i))

pub big-octets : (k n : ℕ) → Octets (big_bytes k n)
unfolding big_bytes
big-octets zero n = no-octets
big-octets (suc k) n = one_more (n / 256 ^ k % 256) (big_bytes k n) (mod-lt _ (lit< tt)) (big-octets k n)

pub little-octets : (k n : ℕ) → Octets (little_bytes k n)
unfolding little_bytes
little-octets zero n = no-octets
little-octets (suc k) n =
    both-octets (little_bytes k n) (n / 256 ^ k % 256 ∷ []) (little-octets k n) (one_more (n / 256 ^ k % 256) [] (mod-lt _ (lit< tt)) no-octets)

pub part-octets : (l : List ℕ) (place : Place) → Octets l → Octets (part_of l place)
unfolding part_of
part-octets l place octets i = go (lt-or-le i place.len)
  where
    go : (i < place.len) ⊎ (place.len ≤ i) → at (take place.len (drop place.start l)) i < 256
    go (inl h) = rw (get_or-take place.len (drop place.start l) i 0 h, get_or-drop) (octets (place.start + i))
    go (inr h) = rw (past (take place.len (drop place.start l)) i (omega (arith, length-take place.len (drop place.start l)))) (lit< tt)
