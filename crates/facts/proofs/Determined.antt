-- Each public function's contract fixes its answer.
use Prim.Native.Nat.{ℕ}
use mathlib.Core.Bool.{Bool}
use mathlib.Core.List.{List}
use Rattle.octets.proofs.Agree.{Fixes, agree}
use Rattle.facts.specs.declared.probe.DeviceKind.{DeviceKind}
use Rattle.facts.specs.declared.source.Mapping.{Mapping}
use Rattle.facts.specs.declared.source.Source.{Source}
use Rattle.facts.proofs.DeviceInfo.device_kind.Reads as device-kind
use Rattle.facts.proofs.DeviceInfo.supports_dirac.Reads as supports-dirac
use Rattle.facts.proofs.probe.probe_kind.Reads as probe-kind
use Rattle.facts.proofs.source.Source.mapping.Reads as mapping
use Rattle.facts.proofs.source.Source.from_id.Reads as from-id
use Rattle.facts.proofs.source.Source.to_id.Reads as to-id
use Rattle.facts.proofs.source.source_number.Reads as source-number
use Rattle.facts.proofs.probe.DeviceKind.default.Reads as kind-default
use Rattle.facts.proofs.eeprom.all.Reads as addresses

pub device-kind-fixed : Fixes DeviceKind device-kind.Post (λ κs answer left. answer)
device-kind-fixed κs args a b x y p q = agree p q

pub supports-dirac-fixed : Fixes Bool supports-dirac.Post (λ κs answer left. answer)
supports-dirac-fixed κs args a b x y p q = agree p q

pub probe-kind-fixed : Fixes DeviceKind probe-kind.Post (λ κs answer left. answer)
probe-kind-fixed κs args a b x y p q = agree p q

pub mapping-fixed : Fixes Mapping mapping.Post (λ κs answer left. answer)
mapping-fixed κs args a b x y p q = agree p q

pub from-id-fixed : Fixes Source from-id.Post (λ κs answer left. answer)
from-id-fixed κs args a b x y p q = agree p q

pub to-id-fixed : Fixes ℕ to-id.Post (λ κs answer left. answer)
to-id-fixed κs args a b x y p q = agree p q

pub source-number-fixed : Fixes ℕ source-number.Post (λ κs answer left. answer)
source-number-fixed κs args a b x y p q = agree p q

pub kind-default-fixed : Fixes DeviceKind kind-default.Post (λ κs answer left. answer)
kind-default-fixed κs args a b x y p q = agree p q

pub addresses-fixed : Fixes (List ℕ) addresses.Post (λ κs answer left. answer)
addresses-fixed κs args a b x y p q = agree p q
