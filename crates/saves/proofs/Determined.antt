-- Each public function's contract fixes its answer and what it leaves.
use Rattle.std.specs.Prelude.{Result}
use Rattle.octets.specs.declared.refusal.Refusal.{Refusal}
use Prim.Native.Nat.{ℕ}
use mathlib.Core.List.{List}
use Rattle.octets.specs.Outcome.{outcome}
use Rattle.octets.proofs.Agree.{Fixes, agree, both}
use Rattle.octets.proofs.Determined.{outcome_once}
use Rattle.processor.specs.Memory.{Memory, memory}
use Rattle.saves.proofs.save.save.Reads as save
use Rattle.saves.proofs.replay.replay.Reads as replay

pub save-fixed : Fixes (Result ℕ Refusal × List ℕ) save.Post (λ κs answer left. (answer, left.1.1.0.now))
save-fixed κs args a b x y p q = both outcome outcome_once (agree p q)

pub replay-fixed : Fixes (Result Unit Refusal × Memory) replay.Post (λ κs answer left. (answer, memory left.0.now left.1.0.now))
replay-fixed κs args a b x y p q = both outcome outcome_once (agree p q)
