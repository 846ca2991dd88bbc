-- A value's four bytes are a word.
use Prim.Native.Nat.{ℕ}
use mathlib.Core.Path.{◌≡◌, ap, ◌∙◌}
use mathlib.Core.Bool.{Bool, false}
use mathlib.Core.List.{List}
use native.Mathlib.Omega.{arith}
use lib.ListN.{length}
use Rattle.octets.specs.Refusals.{outside}
use Rattle.octets.specs.Outcome.{Outcome, refused}
use Rattle.octets.specs.Choice.{pick}
use Rattle.octets.specs.Over.{into}
use Rattle.octets.proofs.Overlay.{put-over, over-whole}
use Rattle.fields.specs.Value.{value_bytes, value_outside, value_into}
use Rattle.fields.specs.declared.value.Value.{Value}

-- written over a buffer of their own size, they are what it holds
pub value-whole : (v : Value) (p z : List ℕ) {r : Outcome ℕ} {o : List ℕ} → value_outside v (length p) ≡ false → length (value_bytes v p) ≡ length z → (r, o) ≡ value_into v p z → o ≡ value_bytes v p
value-whole v p z h n e =
    put-over (value_bytes v p) z (e ∙ ap (λ (b : Bool). pick b (refused outside, z) (into (value_bytes v p) z)) h) (omega arith) ∙ over-whole (value_bytes v p) z n
