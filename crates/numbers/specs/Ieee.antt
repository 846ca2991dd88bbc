-- What the Rust's own steps give, in the operations of IEEE 754: each rounds once, to its own format.
use Rattle.std.specs.Prelude.{ℕ, true, false, ℤ, pos, negsuc, Float}
use Rattle.std.specs.Float.{nan, inf, fin, binary32, binary64}
use Rattle.std.specs.Float.Ieee.{add, mul, div, of_int, to_signed, to_unsigned}
use Rattle.numbers.specs.FixedPoint.{code_word, around_zero}

-- (val as f64 * (1 << 23) as f64 + (1 << 27) as f64) as i64
abbrev pub encoded_by : Float → ℤ
encoded_by x = to_signed 63 (add binary64 (mul binary64 x (fin false 1 (pos 23))) (fin false 1 (pos 27)))

abbrev pub code_by : Float → ℕ
code_by x = code_word (encoded_by x)

-- (val.wrapping_sub(1 << 27)) as i32 as f32 / (1 << 23) as f32
abbrev pub float_by : ℕ → Float
float_by code = div binary32 (of_int binary32 (around_zero code)) (fin false 1 (pos 23))

abbrev pub absolute : Float → Float
absolute nan = nan
absolute (inf s) = inf false
absolute (fin s m e) = fin false m e

-- (val.0.abs() * 2.) as u8
abbrev pub byte_by : Float → ℕ
byte_by x = to_unsigned 8 (mul binary32 (absolute x) (fin false 1 (pos 1)))

-- -0.5 * (val as f32)
abbrev pub gain_by : ℕ → Float
gain_by k = mul binary32 (fin true 1 (negsuc 0)) (of_int binary32 (pos k))
