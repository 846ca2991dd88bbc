-- A colon, the head, and what stands behind it, one behind the other.
use Rattle.std.proofs.Common.{◌≡◌, ℕ, ◌+◌, ◌*◌, List, [], ◌∷◌, ◌++◌, length, refl, ap, ◌∙◌, arith, length-append}
use Rattle.octets.specs.Over.{over}
use Rattle.octets.proofs.Overlay.{put-over, put_rest, over-rest}
use Rattle.text.specs.Digits.{pairs_of}
use Rattle.text.proofs.Digits.{length_pairs}
use Rattle.images.proofs.Exported.{length-head, line-parts}
use Rattle.images.proofs.export.put_record.Goals as goal

pub returns : goal.returns
returns c =
    let a = c.args in
    let b = a.bytes.now in
    let l = a.out.now in
    let h = c.head_of-head.result in
    let sum = c.complement_of-sum.result in
    let four : length h ≡ 4 = rw c.head_of-head.ensures (length-head (length b) a.start) in
    let w₁ : List ℕ = 58 ∷ [] in
    let w₂ : List ℕ = w₁ ++ pairs_of h in
    let v : List ℕ = (pairs_of b ++ pairs_of (sum ∷ [])) ++ (10 ∷ []) in
    let n₂ : 9 ≡ length w₂ = omega (arith, length-append w₁ (pairs_of h), length_pairs h) in
    let n₃ : length v ≡ 2 * length b + 3 = rw (length-append, length-append, length_pairs, length_pairs) (omega arith) in
    let o₁ = put-over w₁ l c.put.ensures (omega arith) in
    let o₂ = put_rest w₁ l o₁ (pairs_of h) 1 c.put_pairs.ensures refl (omega (arith, length_pairs h)) in
    let o₃ = over-rest w₂ l o₂ v _ 9 c.put_summed.ensures n₂ (omega arith) in
    o₃ ∙ ap (λ (w : List ℕ). over w l) (line-parts a.start b h sum c.head_of-head.ensures (rw (← c.checksum.ensures, ← c.checksum-2.ensures) c.complement_of-sum.ensures))
