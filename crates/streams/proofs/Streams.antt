-- Laws of reading a save's fields, one by one.
use Rattle.std.proofs.Common.{◌≡◌, ℕ, zero, suc, ◌+◌, ◌-◌, ◌<◌, ◌≤◌, List, [], length, take, drop, sym, refl, ap, ◌∙◌, arith, length-drop, take_all}
use Rattle.octets.specs.Choice.{if_eq}
use Rattle.octets.proofs.Choosing.{same, other, either_lt, either-eq}
use Rattle.streams.specs.Stream.{length_of, content_of, behind, tag_of, Stream, stream, with_frame, stream_up_to, stream_of}

-- a field with a tag is whole
pub tag-whole : (l : List ℕ) {t : ℕ} → tag_of l ≡ suc t → 3 + length_of l ≤ length l
unfolding tag_of
tag-whole l {t} =
    either_lt (λ n. n ≡ suc t → 3 + length_of l ≤ length l) (length l) 3 _ _ (λ h e. omega arith)
    (λ h. either_lt (λ n. n ≡ suc t → 3 + length_of l ≤ length l) (length l) (3 + length_of l) _ _ (λ g e. omega arith) (λ g e. g))

pub length-behind : (l : List ℕ) → length (behind l) ≡ length l - (3 + length_of l)
unfolding behind
length-behind l = length-drop (3 + length_of l) l

-- what is lent of the rest, `&l[end..]`
pub cut-behind : (l : List ℕ) (end : ℕ) → end ≡ 3 + length_of l → take (length l - end) (drop end l) ≡ behind l
unfolding behind
cut-behind l end h = rw h (take_all (length l - (3 + length_of l)) (drop (3 + length_of l) l) (omega (arith, length-drop (3 + length_of l) l)))

pub behind-shorter : (l : List ℕ) → tag_of l ≡ 0x10 → length (behind l) < length l
behind-shorter l h = omega (arith, length-behind l, tag-whole l h)

-- how many fields are looked for makes no difference, where they are as many as the bytes
enough : (n k : ℕ) (l : List ℕ) → length l ≤ n → length l ≤ k → stream_up_to n l ≡ stream_up_to k l
unfolding stream_up_to
enough zero zero l h g = refl
enough zero (suc k) l h g = other _ _ _ _ _ (λ e. omega (arith, behind-shorter l e)) refl
enough (suc n) zero l h g = sym (other _ _ _ _ _ (λ e. omega (arith, behind-shorter l e)) refl)
enough (suc n) (suc k) l h g =
    either-eq (λ (s : Stream). s ≡ if_eq (tag_of l) 0x10 (with_frame (content_of l) (stream_up_to k (behind l))) (stream [] l)) (tag_of l) 0x10 _ _
    (λ e. let shorter = behind-shorter l e in same _ _ _ _ _ e (ap (with_frame (content_of l)) (enough n k (behind l) (omega arith) (omega arith))))
    (λ e. other _ _ _ _ _ e refl)

-- a frame comes first
pub stream-frame : (l : List ℕ) → tag_of l ≡ 0x10 → stream_of l ≡ with_frame (content_of l) (stream_of (behind l))
unfolding stream_of stream_up_to
stream-frame l h =
    let shorter = behind-shorter l h in
    enough (length l) (suc (length l)) l (omega arith) (omega arith)
    ∙ sym (same _ _ _ _ _ h (ap (with_frame (content_of l)) (enough (length (behind l)) (length l) (behind l) (omega arith) (omega arith))))

-- none comes any more
pub stream_end : (l : List ℕ) → (tag_of l ≡ 0x10 → ⊥) → stream_of l ≡ stream [] l
unfolding stream_of stream_up_to
stream_end l h = enough (length l) (suc (length l)) l (omega arith) (omega arith) ∙ sym (other _ _ _ _ _ h refl)
