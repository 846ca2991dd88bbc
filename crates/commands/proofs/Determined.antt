-- Each public function's contract fixes its answer and what it leaves.
use Rattle.std.specs.Prelude.{Result}
use Rattle.octets.specs.declared.refusal.Refusal.{Refusal}
use Prim.Native.Nat.{ℕ}
use mathlib.Core.Path.{◌≡◌}
use mathlib.Core.List.{List}
use Rattle.octets.specs.Outcome.{outcome}
use Rattle.octets.proofs.Agree.{Fixes, agree, both}
use Rattle.octets.proofs.Determined.{outcome_once}
use Rattle.fields.specs.declared.addr.Addr.{Addr}
use Rattle.fields.specs.declared.value.Value.{Value}
use Rattle.commands.specs.declared.Commands.{Commands}
use Rattle.commands.specs.declared.decode.Decoded.{Decoded}
use Rattle.commands.specs.declared.dialect.Dialect.{Dialect}
use Rattle.commands.proofs.Commands.from_bytes.Reads as from_bytes
use Rattle.commands.proofs.Commands.to_bytes.Reads as to-bytes
use Rattle.commands.proofs.Commands.to_frame.Reads as to-frame
use Rattle.commands.proofs.Commands.mute.Reads as mute
use Rattle.commands.proofs.decode.no_values.Reads as no-values
use Rattle.commands.proofs.dialect.Dialect.const_default.Reads as const-default
use Rattle.commands.proofs.dialect.Dialect.addr.Reads as addr
use Rattle.commands.proofs.dialect.Dialect.float.Reads as float
use Rattle.commands.proofs.dialect.Dialect.int.Reads as int
use Rattle.commands.proofs.dialect.Dialect.delay.Reads as delay
use Rattle.commands.proofs.dialect.Dialect.mute.Reads as dialect-mute
use Rattle.commands.proofs.dialect.Dialect.invert.Reads as invert
use Rattle.commands.specs.declared.dialect.AddrEncoding.{AddrEncoding}
use Rattle.commands.specs.declared.dialect.FloatEncoding.{FloatEncoding}
use Rattle.commands.proofs.read_floats_max.Reads as read-floats-max
use Rattle.commands.proofs.write_ints.Reads as write-ints
use Rattle.commands.proofs.dialect.AddrEncodingDefault.default.Reads as addr-encoding
use Rattle.commands.proofs.dialect.FloatEncodingDefault.default.Reads as float-encoding

pub from-bytes-fixed : Fixes Decoded from_bytes.Post (λ κs answer left. answer)
from-bytes-fixed κs args a b x y p q =
    let read : a.answer ≡ b.answer = outcome_once a.answer b.answer (agree p.0 q.0) in
    λ i. record { answer = read i; values = agree p.1 q.1 i }

pub to-bytes-fixed : Fixes (Result ℕ Refusal × List ℕ) to-bytes.Post (λ κs answer left. (answer, left.1.1.1.0.now))
to-bytes-fixed κs args a b x y p q = both outcome outcome_once (agree p q)

pub to-frame-fixed : Fixes (Result ℕ Refusal × List ℕ) to-frame.Post (λ κs answer left. (answer, left.1.1.1.0.now))
to-frame-fixed κs args a b x y p q = both outcome outcome_once (agree p q)

pub no-values-fixed : Fixes (List Value) no-values.Post (λ κs answer left. answer)
no-values-fixed κs args a b x y p q = agree p q

pub mute-fixed : Fixes Commands mute.Post (λ κs answer left. answer)
mute-fixed κs args a b x y p q = agree p q

pub const-default-fixed : Fixes Dialect const-default.Post (λ κs answer left. answer)
const-default-fixed κs args a b x y p q = agree p q

pub addr-fixed : Fixes Addr addr.Post (λ κs answer left. answer)
addr-fixed κs args a b x y p q = agree p q

pub float_fixed : Fixes Value float.Post (λ κs answer left. answer)
float_fixed κs args a b x y p q = agree p q

pub int-fixed : Fixes Value int.Post (λ κs answer left. answer)
int-fixed κs args a b x y p q = agree p q

pub delay-fixed : Fixes Value delay.Post (λ κs answer left. answer)
delay-fixed κs args a b x y p q = agree p q

pub dialect-mute-fixed : Fixes Value dialect-mute.Post (λ κs answer left. answer)
dialect-mute-fixed κs args a b x y p q = agree p q

pub invert-fixed : Fixes Value invert.Post (λ κs answer left. answer)
invert-fixed κs args a b x y p q = agree p q

pub read-floats-max-fixed : Fixes ℕ read-floats-max.Post (λ κs answer left. answer)
read-floats-max-fixed κs args a b x y p q = agree p q

pub write-ints-fixed : Fixes (List ℕ) write-ints.Post (λ κs answer left. answer)
write-ints-fixed κs args a b x y p q = agree p q

pub addr-encoding-fixed : Fixes AddrEncoding addr-encoding.Post (λ κs answer left. answer)
addr-encoding-fixed κs args a b x y p q = agree p q

pub float-encoding-fixed : Fixes FloatEncoding float-encoding.Post (λ κs answer left. answer)
float-encoding-fixed κs args a b x y p q = agree p q
