-- Each public function's contract fixes its answer and what it leaves.
use Rattle.std.specs.Prelude.{Result, Ok, Err}
use Rattle.octets.specs.declared.refusal.Refusal.{Refusal}
use Prim.Native.Nat.{ℕ}
use mathlib.Core.Path.{◌≡◌}
use mathlib.Core.List.{List}
use Rattle.octets.specs.Outcome.{outcome}
use Rattle.responses.specs.declared.Responses.{Responses}
use Rattle.octets.proofs.Agree.{Fixes, agree, three}
use Rattle.octets.proofs.Determined.{outcome_once}
use Rattle.processor.specs.Memory.{Memory, memory}
use Rattle.device.proofs.execute.receive.Reads as receive
use Rattle.device.proofs.execute.execute_into.Reads as execute-into
use Rattle.device.proofs.execute.execute.Reads as execute

pub receive-fixed : Fixes (Result ℕ Refusal × Memory × List ℕ) receive.Post (λ κs answer left. (answer, memory left.1.1.0.now left.1.1.1.0.now, left.1.1.1.1.0.now))
receive-fixed κs args a b x y p q = three outcome outcome_once (agree p q)

pub execute-into-fixed : Fixes (Result ℕ Refusal × Memory × List ℕ) execute-into.Post (λ κs answer left. (answer, memory left.1.1.1.0.now left.1.1.1.1.0.now, left.1.1.1.1.1.0.now))
execute-into-fixed κs args a b x y p q = three outcome outcome_once (agree p q)

pub execute-fixed : Fixes (Result Responses Refusal × Memory × List ℕ) execute.Post (λ κs answer left. (answer, memory left.1.1.1.0.now left.1.1.1.1.0.now, left.1.1.1.1.1.0.now))
execute-fixed κs args a b x y p q = three outcome outcome_once (agree p q)
