-- Each public function's contract fixes its answer and what it leaves.
use Rattle.std.specs.Prelude.{Result}
use Rattle.octets.specs.declared.refusal.Refusal.{Refusal}
use Rattle.std.proofs.Common.{ℕ, List}
use Rattle.octets.specs.Outcome.{outcome}
use Rattle.octets.proofs.Agree.{Fixes, agree, both}
use Rattle.octets.proofs.Determined.{outcome_once}
use Rattle.images.proofs.export.export.Reads as export
use Rattle.images.proofs.store.store_image.Reads as store-image
use Rattle.images.proofs.import.import.Reads as import

pub export-fixed : Fixes (Result ℕ Refusal × List ℕ) export.Post (λ κs answer left. (answer, left.1.0.now))
export-fixed κs args a b x y p q = both outcome outcome_once (agree p q)

pub store-image-fixed : Fixes (Result Unit Refusal × List ℕ) store-image.Post (λ κs answer left. (answer, left.1.0.now))
store-image-fixed κs args a b x y p q = both outcome outcome_once (agree p q)

pub import-fixed : Fixes (Result Unit Refusal × List ℕ) import.Post (λ κs answer left. (answer, left.1.0.now))
import-fixed κs args a b x y p q = both outcome outcome_once (agree p q)
