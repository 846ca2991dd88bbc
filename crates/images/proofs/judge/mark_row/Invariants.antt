-- After each turn the bytes before the place are marked, and none of them was.
use Rattle.std.proofs.Common.{◌≡◌, ℕ, ◌<◌, ◌≤◌, length}
use Rattle.images.specs.Inside.{bit_at, one_in}
use Rattle.images.proofs.judge.mark_row.Given as goal

abbrev pub invariant-loop-place : goal.invariant-loop-place
invariant-loop-place l =
    (length l.marks ≡ length l.initial.marks)
    × ((i : ℕ) → l.start ≤ i → i < l.place → bit_at l.initial.marks i ≡ 0)
    × ((i : ℕ) → bit_at l.marks i ≡ one_in l.start l.place i (bit_at l.initial.marks i))
