-- The bit, by what the byte is that has it.
use Rattle.std.proofs.Common.{◌≡◌, ℕ, ◌*◌, ◌/◌, ◌%◌, ◌^◌, arith, rules}
use Rattle.octets.specs.Number.{at}
use Rattle.images.proofs.Bits.{one_bit, set-byte, one-marked}
use Rattle.images.proofs.judge.mark.Goals as goal

-- a bit that is not 1 is 0
clear : (w j : ℕ) → (w / (1 * 2 ^ (j % 8) % 256) % 2 ≡ 1 → ⊥) → w / 2 ^ (j % 8) % 2 ≡ 0
clear w j h = let g : w / 2 ^ (j % 8) % 2 ≡ 1 → ⊥ = rw (one_bit (j % 8) (omega arith)) at h in omega (arith, g)

pub overflow_add-marks : goal.overflow_add-marks
overflow_add-marks c =
    let a = c.args in
    let fits = set-byte (at a.marks.now (a.place / 8)) (a.place % 8) (clear _ a.place c.if-before-bit-eq1.false) (omega arith) (search rules) in
    rw (one_bit (a.place % 8) (omega arith)) (omega (arith, fits))

pub returns : goal.returns
returns c =
    let a = c.args in
    let off = clear _ a.place c.if-before-bit-eq1.false in (
      off,
      search rules,
      λ i. rw (one_bit (a.place % 8) (omega arith)) (one-marked a.marks.now a.place (omega arith) off i),
    )
