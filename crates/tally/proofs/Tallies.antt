-- The tally after any answers is how many were accepted and how many refused, each held at the most.
use Prim.Native.Nat.{ℕ, ◌+◌, min}
use mathlib.Core.Path.{◌≡◌, refl, ◌∙◌}
use mathlib.Core.List.{List, [], ◌∷◌, ◌++◌}
use native.Mathlib.Nat.{add-zero, zero-add}
use native.Mathlib.Omega.{arith}
use Rattle.octets.specs.Outcome.{Outcome, accepted, refused}
use Rattle.tally.specs.Tally.{most_counted, tally_of, zeroed, after, tally_after, accepted_in, refused_in, counts_of}
use Rattle.tally.specs.declared.Tally.{Tally}

-- one more of a count that is held
one-held : (m a : ℕ) → min m (min m a + 1) ≡ min m (a + 1)
one-held m a = omega arith

-- from any counts on
counts-on : {A : Type 0} (os : List (Outcome A)) (a r : ℕ) → tally_after (tally_of (min most_counted a) (min most_counted r)) os ≡ tally_of (min most_counted (a + accepted_in os)) (min most_counted (r + refused_in os))
counts-on [] a r = rw (add-zero a, add-zero r)
counts-on (accepted x ∷ os) a r = let e : a + 1 + accepted_in os ≡ a + (accepted_in os + 1) = omega arith in rw (one-held most_counted a, ← e) (counts-on os (a + 1) r)
counts-on (refused k ∷ os) a r = let e : r + 1 + refused_in os ≡ r + (refused_in os + 1) = omega arith in rw (one-held most_counted r, ← e) (counts-on os a (r + 1))

pub tally-counts : {A : Type 0} (os : List (Outcome A)) → tally_after zeroed os ≡ counts_of os
tally-counts os = counts-on os 0 0 ∙ rw (zero-add (accepted_in os), zero-add (refused_in os))

pub after_both : {A : Type 0} (os later : List (Outcome A)) (t : Tally) → tally_after t (os ++ later) ≡ tally_after (tally_after t os) later
after_both [] later t = refl
after_both (o ∷ os) later t = after_both os later (after t o)
