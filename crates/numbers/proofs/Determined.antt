-- Each public function's contract fixes its answer.
use Rattle.std.proofs.Common.{ℕ}
use lib.Ieee.{Float}
use Rattle.octets.proofs.Agree.{Fixes, agree}
use Rattle.numbers.proofs.float.from_bits.Reads as from_bits
use Rattle.numbers.proofs.float.to_bits.Reads as to_bits
use Rattle.numbers.proofs.fixed_point.FixedPoint.from_u32.Reads as from-u32
use Rattle.numbers.proofs.fixed_point.FixedPoint.from_f32.Reads as from-f32
use Rattle.numbers.proofs.fixed_point.FixedPoint.to_f32.Reads as to-f32
use Rattle.numbers.proofs.fixed_point.FixedPoint.to_u32.Reads as to-u32
use Rattle.numbers.proofs.gain.Gain.from_u8.Reads as from-u8
use Rattle.numbers.proofs.gain.Gain.to_u8.Reads as to-u8
use Rattle.numbers.proofs.fixed_point.FixedPoint.default.Reads as fixed-default
use Rattle.numbers.proofs.gain.Gain.min.Reads as least
use Rattle.numbers.proofs.gain.Gain.max.Reads as most
use Rattle.numbers.proofs.gain.Gain.default.Reads as gain-default

pub from-bits-fixed : Fixes Float from_bits.Post (λ κs answer left. answer)
from-bits-fixed κs args a b x y p q = agree p q

pub to-bits-fixed : Fixes ℕ to_bits.Post (λ κs answer left. answer)
to-bits-fixed κs args a b x y p q = agree p q

pub from-u32-fixed : Fixes ℕ from-u32.Post (λ κs answer left. answer.0)
from-u32-fixed κs args a b x y p q = agree p q

pub from-f32-fixed : Fixes ℕ from-f32.Post (λ κs answer left. answer.0)
from-f32-fixed κs args a b x y p q = agree p q

pub to-f32-fixed : Fixes Float to-f32.Post (λ κs answer left. answer)
to-f32-fixed κs args a b x y p q = agree p q

pub to-u32-fixed : Fixes ℕ to-u32.Post (λ κs answer left. answer)
to-u32-fixed κs args a b x y p q = agree p q

pub from-u8-fixed : Fixes Float from-u8.Post (λ κs answer left. answer.0)
from-u8-fixed κs args a b x y p q = agree p q

pub to-u8-fixed : Fixes ℕ to-u8.Post (λ κs answer left. answer)
to-u8-fixed κs args a b x y p q = agree p q

pub fixed-default-fixed : Fixes ℕ fixed-default.Post (λ κs answer left. answer.0)
fixed-default-fixed κs args a b x y p q = agree p q

pub least-fixed : Fixes Float least.Post (λ κs answer left. answer)
least-fixed κs args a b x y p q = agree p q

pub most-fixed : Fixes Float most.Post (λ κs answer left. answer)
most-fixed κs args a b x y p q = agree p q

pub gain-default-fixed : Fixes Float gain-default.Post (λ κs answer left. answer.0)
gain-default-fixed κs args a b x y p q = agree p q
