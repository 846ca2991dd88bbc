-- A memory that is filled from its start is full at its end.
use Prim.Native.Nat.{ℕ}
use mathlib.Core.Path.{◌≡◌, ap, ◌∙◌}
use mathlib.Core.List.{List}
use lib.ListN.{length, replicate, length-replicate}
use Rattle.octets.specs.Over.{over}
use Rattle.octets.proofs.Overlay.{over-whole}

pub fill_end : (l : List ℕ) (x i : ℕ) {o : List ℕ} → o ≡ over (replicate i x) l → i ≡ length l → o ≡ replicate (length l) x
fill_end l x i wrote h = wrote ∙ over-whole (replicate i x) l (length-replicate i x ∙ h) ∙ ap (λ (n : ℕ). replicate n x) h
