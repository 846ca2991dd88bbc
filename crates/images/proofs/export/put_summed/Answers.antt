-- The data, the checksum and the line end, one behind the other.
use Rattle.std.proofs.Common.{◌≡◌, ℕ, ◌+◌, ◌*◌, List, [], ◌∷◌, ◌++◌, length, arith, length-append}
use Rattle.octets.proofs.Overlay.{put-over, put_rest}
use Rattle.text.specs.Digits.{pairs_of}
use Rattle.text.proofs.Digits.{length_pairs}
use Rattle.images.proofs.export.put_summed.Goals as goal

pub returns : goal.returns
returns c =
    let a = c.args in
    let b = a.bytes.now in
    let l = a.out.now in
    let w₁ : List ℕ = pairs_of b in
    let w₂ : List ℕ = w₁ ++ pairs_of (a.sum ∷ []) in
    let n₁ : 2 * length b ≡ length w₁ = omega (arith, length_pairs b) in
    let n₂ : 2 * length b + 2 ≡ length w₂ = omega (arith, length-append w₁ (pairs_of (a.sum ∷ [])), length_pairs (a.sum ∷ [])) in
    let o₁ = put-over w₁ l c.put_pairs.ensures (omega arith) in
    let o₂ = put_rest w₁ l o₁ (pairs_of (a.sum ∷ [])) (2 * length b) c.put_pairs-2.ensures n₁ (omega (arith, length_pairs (a.sum ∷ []))) in
    put_rest w₂ l o₂ (10 ∷ []) (2 * length b + 2) c.put.ensures n₂ (omega arith)
