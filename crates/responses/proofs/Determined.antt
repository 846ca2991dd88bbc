-- Each public function's contract fixes its answer and what it leaves.
use Rattle.std.specs.Prelude.{Result}
use Rattle.octets.specs.declared.refusal.Refusal.{Refusal}
use Prim.Native.Nat.{ℕ}
use mathlib.Core.Bool.{Bool}
use mathlib.Core.List.{List}
use Rattle.octets.specs.Outcome.{outcome}
use Rattle.octets.proofs.Agree.{Fixes, agree, both}
use Rattle.octets.proofs.Determined.{outcome_once}
use Rattle.facts.specs.declared.HardwareId.{HardwareId}
use Rattle.fields.specs.declared.value.Value.{Value}
use Rattle.views.specs.declared.memory.MemoryView.{MemoryView}
use Rattle.views.specs.declared.floats.FloatView.{FloatView}
use Rattle.responses.specs.declared.Responses.{Responses}
use Rattle.responses.specs.declared.status.MasterStatus.{MasterStatus}
use Rattle.responses.proofs.Values.count.Reads as count
use Rattle.responses.proofs.Values.get.Reads as get
use Rattle.responses.proofs.Responses.from_bytes.Reads as from_bytes
use Rattle.responses.proofs.Responses.to_bytes.Reads as to-bytes
use Rattle.responses.proofs.Responses.to_frame.Reads as to-frame
use Rattle.responses.proofs.Responses.is_memory_view.Reads as is-memory-view
use Rattle.responses.proofs.Responses.into_memory_view.Reads as into-memory-view
use Rattle.responses.proofs.Responses.is_float_view.Reads as is-float-view
use Rattle.responses.proofs.Responses.into_float_view.Reads as into-float-view
use Rattle.responses.proofs.Responses.is_hardware_id.Reads as is-hardware-id
use Rattle.responses.proofs.Responses.into_hardware_id.Reads as into-hardware-id
use Rattle.responses.proofs.Responses.is_ack.Reads as is-ack
use Rattle.responses.proofs.Responses.into_ack.Reads as into-ack
use Rattle.responses.proofs.Responses.is_config_changed.Reads as is-config-changed
use Rattle.responses.proofs.Responses.into_config_changed.Reads as into-config-changed
use Rattle.responses.proofs.Responses.is_fir_size.Reads as is-fir-size
use Rattle.responses.proofs.Responses.into_fir_size.Reads as into-fir-size
use Rattle.responses.proofs.matching.matches_response.Reads as matches-response
use Rattle.responses.proofs.status.MasterStatus.from_memory.Reads as from-memory
use Rattle.responses.proofs.status.MasterStatusDefault.default.Reads as status-default

pub count-fixed : Fixes ℕ count.Post (λ κs answer left. answer)
count-fixed κs args a b x y p q = agree p q

pub get-fixed : Fixes (Result Value Refusal) get.Post (λ κs answer left. answer)
get-fixed κs args a b x y p q = outcome_once a b (agree p q)

pub from-bytes-fixed : Fixes (Result Responses Refusal) from_bytes.Post (λ κs answer left. answer)
from-bytes-fixed κs args a b x y p q = outcome_once a b (agree p q)

pub to-bytes-fixed : Fixes (Result ℕ Refusal × List ℕ) to-bytes.Post (λ κs answer left. (answer, left.1.1.0.now))
to-bytes-fixed κs args a b x y p q = both outcome outcome_once (agree p q)

pub to-frame-fixed : Fixes (Result ℕ Refusal × List ℕ) to-frame.Post (λ κs answer left. (answer, left.1.1.0.now))
to-frame-fixed κs args a b x y p q = both outcome outcome_once (agree p q)

pub is-memory-view-fixed : Fixes Bool is-memory-view.Post (λ κs answer left. answer)
is-memory-view-fixed κs args a b x y p q = agree p q

pub into-memory-view-fixed : Fixes (Result MemoryView Refusal) into-memory-view.Post (λ κs answer left. answer)
into-memory-view-fixed κs args a b x y p q = outcome_once a b (agree p q)

pub is-float-view-fixed : Fixes Bool is-float-view.Post (λ κs answer left. answer)
is-float-view-fixed κs args a b x y p q = agree p q

pub into-float-view-fixed : Fixes (Result FloatView Refusal) into-float-view.Post (λ κs answer left. answer)
into-float-view-fixed κs args a b x y p q = outcome_once a b (agree p q)

pub is-hardware-id-fixed : Fixes Bool is-hardware-id.Post (λ κs answer left. answer)
is-hardware-id-fixed κs args a b x y p q = agree p q

pub into-hardware-id-fixed : Fixes (Result HardwareId Refusal) into-hardware-id.Post (λ κs answer left. answer)
into-hardware-id-fixed κs args a b x y p q = outcome_once a b (agree p q)

pub is-ack-fixed : Fixes Bool is-ack.Post (λ κs answer left. answer)
is-ack-fixed κs args a b x y p q = agree p q

pub into-ack-fixed : Fixes (Result Unit Refusal) into-ack.Post (λ κs answer left. answer)
into-ack-fixed κs args a b x y p q = outcome_once a b (agree p q)

pub is-config-changed-fixed : Fixes Bool is-config-changed.Post (λ κs answer left. answer)
is-config-changed-fixed κs args a b x y p q = agree p q

pub into-config-changed-fixed : Fixes (Result Unit Refusal) into-config-changed.Post (λ κs answer left. answer)
into-config-changed-fixed κs args a b x y p q = outcome_once a b (agree p q)

pub is-fir-size-fixed : Fixes Bool is-fir-size.Post (λ κs answer left. answer)
is-fir-size-fixed κs args a b x y p q = agree p q

pub into-fir-size-fixed : Fixes (Result ℕ Refusal) into-fir-size.Post (λ κs answer left. answer)
into-fir-size-fixed κs args a b x y p q = outcome_once a b (agree p q)

pub matches-response-fixed : Fixes Bool matches-response.Post (λ κs answer left. answer)
matches-response-fixed κs args a b x y p q = agree p q

pub from-memory-fixed : Fixes MasterStatus from-memory.Post (λ κs answer left. answer)
from-memory-fixed κs args a b x y p q = agree p q

pub status-default-fixed : Fixes MasterStatus status-default.Post (λ κs answer left. answer)
status-default-fixed κs args a b x y p q = agree p q
