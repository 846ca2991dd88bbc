-- A word with bit 27 flipped, and a code's steps around zero, as the machine works them out.
use Rattle.std.proofs.Common.{◌≡◌, ℕ, zero, suc, ◌+◌, ◌-◌, ◌*◌, ◌/◌, ◌%◌, ◌^◌, ◌<◌, ◌≤◌, ℤ, pos, negsuc, ◌-ℤ◌, refl, ap, ◌∙◌, mod-lt, arith, lit<, w32, SFits, to_z, of_z}
use lib.Signed.{mag}
use lib.Bits.{bit_xor, bit_and, xor_add_and, and_high}
use mir.ValLaws.{to_z-of_z, to_z_pos}
use Rattle.octets.proofs.Choosing.{below, above, either_lt}
use Rattle.numbers.specs.FixedPoint.{flip27, signed, around_zero}

pub xor-flip : (n : ℕ) → bit_xor n 0x0800_0000 ≡ flip27 n
xor-flip n = go (bit_xor n 0x0800_0000) (bit_and n 0x0800_0000) (xor_add_and n 0x0800_0000) (and_high n 1 27)
  where
    go : (x a : ℕ) → x + a * 2 ≡ n + 2 ^ 27 → a ≡ n / 2 ^ 27 % 2 * 2 ^ 27 → x ≡ flip27 n
    go x a p q = omega arith

-- the wrapping difference, by what the call ensures
pub differs : (c d : ℕ) → d < 2 ^ 32 → (d + 2 ^ 27) % 2 ^ 32 ≡ flip27 c → signed 32 d ≡ around_zero c
unfolding around_zero
differs c d h e = let f : (flip27 c + (2 ^ 32 - 2 ^ 27)) % 2 ^ 32 ≡ d = omega arith in rw f

pub low_half : (d : ℕ) → d < 2 ^ 31 → to_z w32 d ≡ signed 32 d
low_half d h = below _ _ _ _ _ h (to_z_pos w32 d h)

module _ (d : ℕ) (lo : 2 ^ 31 ≤ d) (hi : d < 2 ^ 32) where
  small : 4294967295 - d < 2 ^ 31
  small = omega arith

  is : negsuc 0 -ℤ to_z w32 (4294967295 - d) ≡ negsuc (4294967295 - d)
  is = rw (to_z_pos w32 (4294967295 - d) small) (step_down (4294967295 - d))
    where
      step_down : (k : ℕ) → negsuc 0 -ℤ pos k ≡ negsuc k
      step_down zero = refl
      step_down (suc k) = let e : 0 + k ≡ k = omega arith in ap (λ (j : ℕ). negsuc (suc j)) e

  pub turned-fits : SFits w32 (negsuc 0 -ℤ to_z w32 (4294967295 - d))
  turned-fits = rw is (record { sfits = small })

  pub high_half : to_z w32 (of_z w32 (negsuc 0 -ℤ to_z w32 (4294967295 - d))) ≡ signed 32 d
  high_half =
      let e : 4294967295 - d ≡ 2 ^ 32 - suc d = omega arith in
      above _ _ _ _ _ lo (to_z-of_z w32 (negsuc 0 -ℤ to_z w32 (4294967295 - d)) turned-fits ∙ is ∙ ap negsuc e)

-- in the range of an i32
pub around-in : (c : ℕ) → mag (around_zero c) < 2 ^ 31
unfolding around_zero
around-in c =
    let d = (flip27 c + (2 ^ 32 - 2 ^ 27)) % 2 ^ 32 in
    let h : d < 2 ^ 32 = mod-lt (flip27 c + (2 ^ 32 - 2 ^ 27)) (lit< tt) in
    either_lt (λ (z : ℤ). mag z < 2 ^ 31) d (2 ^ 31) (pos d) (negsuc (2 ^ 32 - suc d)) (λ l. l) (λ l. omega arith)
