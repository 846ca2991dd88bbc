-- How a device has its addresses and its numbers, as dialect.rs gives it.
use Rattle.std.specs.Prelude.{ℕ, ◌%◌, ◌^◌, Bool, true, false, Float}
use Rattle.std.specs.Float.{binary32}
use Rattle.std.specs.Float.Ieee.{to_bits}
use Rattle.numbers.specs.FixedPoint.{code_of}
use Rattle.fields.specs.Addr.{addr_of, bit}
use Rattle.fields.specs.declared.addr.Addr.{Addr}
use Rattle.fields.specs.declared.value.Value.{Value}
use Rattle.fields.specs.declared.value.Value.TheVariants.{Float as FloatValue, FixedPoint as FixedValue, Int, Int32}
use Rattle.commands.specs.declared.dialect.Dialect.{Dialect}
use Rattle.commands.specs.declared.dialect.AddrEncoding.{AddrEncoding}
use Rattle.commands.specs.declared.dialect.AddrEncoding.TheVariants.{AddrLen2, AddrLen3}
use Rattle.commands.specs.declared.dialect.FloatEncoding.{FloatEncoding}
use Rattle.commands.specs.declared.dialect.FloatEncoding.TheVariants.{Float32LE, FixedPoint}

abbrev pub initial : Dialect
initial = record { addr_encoding = AddrLen3; float_encoding = Float32LE }

-- an address has its extra bit set
abbrev pub addr_for : AddrEncoding → ℕ → Addr
addr_for AddrLen2 n = addr_of n 2 true
addr_for AddrLen3 n = addr_of n 3 true

abbrev pub float_for : FloatEncoding → Float → Value
float_for Float32LE x = FloatValue x
float_for FixedPoint x = FixedValue (record { 0 = code_of (to_bits binary32 x) })

-- an Int keeps the low sixteen bits of a delay
abbrev pub delay_for : AddrEncoding → ℕ → Value
delay_for AddrLen2 n = Int32 n
delay_for AddrLen3 n = Int (n % 2 ^ 16)

-- With addresses of two bytes a mute is a factor of 0 in 5.23, and its absence one of 1.0. It is the length of addresses that
-- decides, as in the Rust, and not the encoding of floats.
abbrev pub mute_for : AddrEncoding → Bool → Value
mute_for AddrLen2 true = Int32 0
mute_for AddrLen2 false = Int32 0x800000
mute_for AddrLen3 true = Int 1
mute_for AddrLen3 false = Int 2

-- and an inversion is one of -1.0
abbrev pub invert_for : AddrEncoding → Bool → Value
invert_for AddrLen2 true = Int32 0xFF800000
invert_for AddrLen2 false = Int32 0x800000
invert_for AddrLen3 value = Int (bit value)
