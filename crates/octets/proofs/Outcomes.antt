-- What was accepted was accepted on the way.
use Prim.Native.Nat.{ℕ}
use mathlib.Core.Path.{◌≡◌, refl, ap}
use mathlib.Core.Bool.{Bool, true, false}
use Rattle.octets.specs.Outcome.{Outcome, accepted, refused, and_then}
use Rattle.octets.specs.Choice.{pick}
use Rattle.octets.proofs.Choosing.{refused-accepted}

pub record Then {A B : Type 0} (o : Outcome A) (next : A → Outcome B) (b : B) : Type 0 where
  pub value : A
  pub first : o ≡ accepted value
  pub second : next value ≡ accepted b

pub then-both : {A B : Type 0} (o : Outcome A) (next : A → Outcome B) {b : B} → and_then o next ≡ accepted b → Then o next b
then-both (accepted a) next h = record { value = a; first = refl; second = h }
then-both (refused k) next h = absurd (refused-accepted h)

pub same-value : {A : Type 0} {a b : A} → accepted a ≡ accepted b → a ≡ b
same-value {A} {a} h = ap or-a h
  where
    or-a : Outcome A → A
    or-a (accepted b) = b
    or-a (refused k) = a

pub was-picked : {A : Type 0} (b : Bool) (k : ℕ) (o : Outcome A) {a : A} → pick b (refused k) o ≡ accepted a → o ≡ accepted a
was-picked true k o h = absurd (refused-accepted h)
was-picked false k o h = h
