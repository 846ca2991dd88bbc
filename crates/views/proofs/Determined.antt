-- Each public function's contract fixes its answer and what it leaves.
use Prim.Native.Nat.{ℕ}
use mathlib.Core.List.{List}
use Rattle.std.specs.Prelude.{Option, Result}
use Rattle.octets.specs.Outcome.{outcome}
use Rattle.octets.specs.declared.refusal.Refusal.{Refusal}
use Rattle.octets.specs.declared.Place.{Place}
use Rattle.octets.proofs.Agree.{Fixes, agree, both}
use Rattle.octets.proofs.Determined.{outcome_once}
use Rattle.views.proofs.memory.MemoryView.read_at.Reads as read_at
use Rattle.views.proofs.memory.MemoryView.read_u8.Reads as read-u8
use Rattle.views.proofs.memory.MemoryView.read_u16.Reads as read-u16
use Rattle.views.proofs.memory.MemoryView.extend_with.Reads as memory-extend
use Rattle.views.proofs.floats.FloatView.get.Reads as get
use Rattle.views.proofs.floats.FloatView.extend_with.Reads as floats-extend
use Rattle.views.proofs.memory.MemoryViewDefault.default.Reads as memory-default
use Rattle.views.proofs.memory.MemoryView.from_packet.Reads as memory-from-packet
use Rattle.views.proofs.floats.FloatViewDefault.default.Reads as floats-default
use Rattle.views.proofs.floats.FloatView.from_packet.Reads as floats-from-packet
use Rattle.views.specs.declared.memory.MemoryView.{MemoryView}
use Rattle.views.specs.declared.floats.FloatView.{FloatView}

pub read-at-fixed : Fixes (Option Place) read_at.Post (λ κs answer left. answer)
read-at-fixed κs args a b x y p q = agree p q

pub read-u8-fixed : Fixes (Option ℕ) read-u8.Post (λ κs answer left. answer)
read-u8-fixed κs args a b x y p q = agree p q

pub read-u16-fixed : Fixes (Option ℕ) read-u16.Post (λ κs answer left. answer)
read-u16-fixed κs args a b x y p q = agree p q

pub get-fixed : Fixes (Result ℕ Refusal) get.Post (λ κs answer left. answer)
get-fixed κs args a b x y p q = outcome_once a b (agree p q)

pub memory-extend-fixed : Fixes (Result MemoryView Refusal × List ℕ) memory-extend.Post (λ κs answer left. (answer, left.1.1.1.1.0.now))
memory-extend-fixed κs args a b x y p q = both outcome outcome_once (agree p q)

pub floats-extend-fixed : Fixes (Result FloatView Refusal × List ℕ) floats-extend.Post (λ κs answer left. (answer, left.1.1.1.1.0.now))
floats-extend-fixed κs args a b x y p q = both outcome outcome_once (agree p q)

pub memory-default-fixed : Fixes MemoryView memory-default.Post (λ κs answer left. answer)
memory-default-fixed κs args a b x y p q = agree p q

pub memory-from-packet-fixed : Fixes (Result MemoryView Refusal) memory-from-packet.Post (λ κs answer left. answer)
memory-from-packet-fixed κs args a b x y p q = outcome_once a b (agree p q)

pub floats-default-fixed : Fixes FloatView floats-default.Post (λ κs answer left. answer)
floats-default-fixed κs args a b x y p q = agree p q

pub floats-from-packet-fixed : Fixes (Result FloatView Refusal) floats-from-packet.Post (λ κs answer left. answer)
floats-from-packet-fixed κs args a b x y p q = outcome_once a b (agree p q)
