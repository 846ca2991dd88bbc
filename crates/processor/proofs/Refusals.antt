-- Demand 1: a refusal changes no processor memory. One statement for each call on the memories alone.
use Prim.Native.Nat.{ℕ}
use mathlib.Core.Path.{◌≡◌, refl}
use mathlib.Core.Bool.{Bool, true, false}
use mathlib.Core.List.{List}
use lib.ListN.{length}
use Rattle.octets.specs.Outcome.{Outcome, accepted, refused}
use Rattle.octets.specs.Choice.{pick}
use Rattle.octets.proofs.Choosing.{either_lt, either-eq, accepted-refused}
use Rattle.processor.specs.Memory.{Memory, oversized}
use Rattle.processor.specs.Calls.{write_bytes, set_timestamp}
use Rattle.processor.specs.Create.{bare_of, bare_memory, new_of, new_memory, any_beyond}
use Rattle.processor.specs.declared.Device.{Device}

-- what is left by a refusal
abbrev pub KeptAlone : {A B : Type 0} → B → Outcome A × B → Type 0
KeptAlone before left = (k : ℕ) → left.0 ≡ refused k → left.1 ≡ before

pub written-kept : (a : ℕ) (bytes e : List ℕ) → KeptAlone e (write_bytes a bytes e)
written-kept a bytes e =
    either_lt (KeptAlone e) _ _ _ _ (λ h k g. refl) (λ h. either_lt (KeptAlone e) _ _ _ _ (λ j k g. refl) (λ j k g. absurd (accepted-refused g)))

pub stamped-kept : (value : ℕ) (e : List ℕ) → KeptAlone e (set_timestamp value e)
stamped-kept value e =
    either_lt (KeptAlone e) _ _ _ _ (λ h k g. refl)
    (λ h. either_lt (KeptAlone e) _ _ _ _ (λ j k g. refl) (λ j. either_lt (KeptAlone e) _ _ _ _ (λ i k g. refl) (λ i k g. absurd (accepted-refused g))))

pub bare-kept : (d : Device) (m : Memory) → KeptAlone m (bare_of d m)
bare-kept d m = go (oversized m)
  where
    go : (b : Bool) → KeptAlone m (pick b (refused 14, m) (accepted d, bare_memory m))
    go true = λ k g. refl
    go false = λ k g. absurd (accepted-refused g)

pub new-kept : (d : Device) (meters : List ℕ) (m : Memory) → KeptAlone m (new_of d meters m)
new-kept d meters m =
    either-eq (KeptAlone m) _ _ _ _ (λ h. either_lt (KeptAlone m) _ _ _ _ (λ j k g. refl) (λ j. go (any_beyond (length m.settings) meters))) (λ h k g. refl)
  where
    go : (b : Bool) → KeptAlone m (pick b (refused 7, m) (accepted d, new_memory d.dsp_version meters m))
    go true = λ k g. refl
    go false = λ k g. absurd (accepted-refused g)
