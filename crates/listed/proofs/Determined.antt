-- The public function's contract fixes its answer and what it leaves.
use Rattle.std.specs.Prelude.{Result}
use Rattle.octets.specs.declared.refusal.Refusal.{Refusal}
use Prim.Native.Nat.{ℕ}
use mathlib.Core.List.{List}
use Rattle.octets.specs.Outcome.{outcome}
use Rattle.octets.proofs.Agree.{Fixes, agree, both}
use Rattle.octets.proofs.Determined.{outcome_once}
use Rattle.listed.proofs.list.Reads as list

pub list-fixed : Fixes (Result ℕ Refusal × List ℕ) list.Post (λ κs answer left. (answer, left.1.0.now))
list-fixed κs args a b x y p q = both outcome outcome_once (agree p q)
