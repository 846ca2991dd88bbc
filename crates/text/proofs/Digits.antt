-- Laws of digits: a number has its tenth's and its last one, and bytes are written two digits at a time.
use Prim.Native.Nat.{ℕ, zero, suc, ◌+◌, ◌*◌, ◌-◌, ◌/◌, ◌%◌, ◌^◌, ◌≤◌, ◌<◌}
use mathlib.Core.Path.{◌≡◌, refl, sym, ap, ◌∙◌}
use mathlib.Core.List.{List, [], ◌∷◌, ◌++◌, append_assoc, append-nil}
use native.Mathlib.Nat.{div-one}
use native.Mathlib.Numerals.{add-one}
use native.Mathlib.Omega.{arith}
use lib.ListN.{length, take, drop, set, get_or, length-append}
use lib.Seq.{set_split, drop_at, take-suc, length-take-le}
use Rattle.octets.specs.Choice.{if_eq}
use Rattle.octets.specs.Over.{over}
use Rattle.octets.proofs.Choosing.{same, other, either-eq}
use Rattle.octets.proofs.Overlay.{over-snoc}
use Rattle.text.specs.Digits.{leading, decimal, hex_digit, hex_digits, pairs_of}

-- ---- decimals
-- a number of digits that is enough makes no difference
enough : (k j n : ℕ) → n ≤ k → n ≤ j → leading k n ≡ leading j n
unfolding leading
enough zero zero n h g = refl
enough zero (suc j) n h g = same _ _ _ _ _ (omega arith) refl
enough (suc k) zero n h g = sym (same _ _ _ _ _ (omega arith) refl)
enough (suc k) (suc j) n h g =
    either-eq (λ (l : List ℕ). l ≡ if_eq n 0 [] (leading j (n / 10) ++ ((48 + n % 10) ∷ []))) n 0 _ _
    (λ e. same _ _ _ _ _ e refl)
    (λ e. other _ _ _ _ _ e (ap (λ (l : List ℕ). l ++ ((48 + n % 10) ∷ [])) (enough k j (n / 10) (omega arith) (omega arith))))

-- the digits of a number, none for 0
unfoldable pub front : ℕ → List ℕ
front n = leading n n

pub front-none : front 0 ≡ []
unfolding front leading
front-none = refl

pub front-step : (n : ℕ) → 0 < n → front n ≡ front (n / 10) ++ ((48 + n % 10) ∷ [])
unfolding front leading
front-step n h =
    enough n (suc n) n (omega arith) (omega arith)
    ∙ sym (other _ _ _ _ _ (λ e. omega arith) (ap (λ (l : List ℕ). l ++ ((48 + n % 10) ∷ [])) (enough (n / 10) n (n / 10) (omega arith) (omega arith))))

pub decimal_step : (n : ℕ) → decimal n ≡ front (n / 10) ++ ((48 + n % 10) ∷ [])
unfolding decimal front
decimal_step n = ap (λ (l : List ℕ). l ++ ((48 + n % 10) ∷ [])) (enough n (n / 10) (n / 10) (omega arith) (omega arith))

-- where it has more than one digit
pub decimal-snoc : (n : ℕ) → 0 < n / 10 → decimal n ≡ decimal (n / 10) ++ ((48 + n % 10) ∷ [])
decimal-snoc n h = decimal_step n ∙ ap (λ (l : List ℕ). l ++ ((48 + n % 10) ∷ [])) (front-step (n / 10) h ∙ sym (decimal_step (n / 10)))

pub decimal-one : (n : ℕ) → n / 10 ≡ 0 → decimal n ≡ (48 + n % 10) ∷ []
decimal-one n h = decimal_step n ∙ rw (h, front-none)

pub front_length : (n : ℕ) → 0 < n → length (front n) ≡ length (front (n / 10)) + 1
front_length n h = rw (front-step n h, length-append)

pub decimal-length : (n : ℕ) → length (decimal n) ≡ length (front (n / 10)) + 1
decimal-length n = rw (decimal_step n, length-append)

-- a number below a power of ten has no more digits
front-short : (k n : ℕ) → n < 10 ^ k → length (front n) ≤ k
front-short zero n h = let z : n ≡ 0 = omega arith in rw (z, front-none) (omega arith)
front-short (suc k) zero h = rw front-none (omega arith)
front-short (suc k) (suc n) h =
    let t : suc n / 10 < 10 ^ k = omega arith in
    rw (front-step (suc n) (omega arith), length-append) (omega (arith, front-short k (suc n / 10) t))

pub decimal-short : (k n : ℕ) → n < 10 ^ suc k → length (decimal n) ≤ suc k
decimal-short k n h =
    let t : n / 10 < 10 ^ k = omega arith in
    rw (decimal_step n, length-append) (omega (arith, front-short k (n / 10) t))

-- a byte that is set before the rest
pub set_before : (l : List ℕ) (i b : ℕ) → 0 < i → i ≤ length l → drop (i - 1) (set l (i - 1) b) ≡ b ∷ drop i l
set_before l i b h g =
    let next : suc (i - 1) ≡ i = omega arith in
    rw (set_split l (i - 1) b (omega arith), next) (drop_at (take (i - 1) l) (b ∷ drop i l) (i - 1) (length-take-le (i - 1) l (omega arith)))

-- ---- hexadecimal digits
pub length-hex : (k w : ℕ) → length (hex_digits k w) ≡ k
unfolding hex_digits
length-hex zero w = refl
length-hex (suc k) w = ap suc (length-hex k w)

two : (b : ℕ) {x y : ℕ} → x ≡ hex_digit (b / 16 % 16) → y ≡ hex_digit (b % 16) → x ∷ y ∷ [] ≡ hex_digits 2 b
unfolding hex_digits
two b p q = rw (p, q, div-one)

pub length_pairs : (l : List ℕ) → length (pairs_of l) ≡ 2 * length l
unfolding pairs_of
length_pairs [] = refl
length_pairs (b ∷ l) = rw (length-append, length-hex) (omega (arith, length_pairs l))

pub pairs-append : (a b : List ℕ) → pairs_of (a ++ b) ≡ pairs_of a ++ pairs_of b
unfolding pairs_of
pairs-append [] b = refl
pairs-append (x ∷ a) b = rw (pairs-append a b, append_assoc)

pairs-snoc : (l : List ℕ) (b : ℕ) → pairs_of (l ++ (b ∷ [])) ≡ pairs_of l ++ hex_digits 2 b
unfolding pairs_of
pairs-snoc l b = rw (pairs-append l (b ∷ []), append-nil)

-- one byte more, by two stores
pub pairs-turn : (s l o : List ℕ) (i x y : ℕ) → o ≡ over (pairs_of (take i s)) l → i < length s → 2 * length s ≤ length l
    → x ≡ hex_digit (get_or s i 0 / 16 % 16) → y ≡ hex_digit (get_or s i 0 % 16) → set (set o (2 * i) x) (2 * i + 1) y ≡ over (pairs_of (take (i + 1) s)) l
pairs-turn s l o i x y e h g p q =
    let w = pairs_of (take i s) in
    let n : 2 * i ≡ length w = rw length_pairs (omega (arith, length-take-le i s (omega arith))) in
    let one = over-snoc w l e (2 * i) x n (omega arith) in
    rw (add-one i, take-suc s i 0 h, pairs-snoc, ← two (get_or s i 0) p q, ← append_assoc w (x ∷ []) (y ∷ [])) (over-snoc (w ++ (x ∷ [])) l one (2 * i + 1) y (simp length-append (omega arith)) (omega arith))

-- the four bytes of a word, and its eight digits
pub word-pairs : (w : ℕ) → pairs_of ((w / 16777216 % 256) ∷ (w / 65536 % 256) ∷ (w / 256 % 256) ∷ (w % 256) ∷ []) ≡ hex_digits 8 w
unfolding pairs_of hex_digits
word-pairs w =
    let a : w / 16777216 % 256 / 16 % 16 ≡ w / 268435456 % 16 = omega arith in
    let b : w / 16777216 % 256 % 16 ≡ w / 16777216 % 16 = omega arith in
    let c : w / 65536 % 256 / 16 % 16 ≡ w / 1048576 % 16 = omega arith in
    let d : w / 65536 % 256 % 16 ≡ w / 65536 % 16 = omega arith in
    let e : w / 256 % 256 / 16 % 16 ≡ w / 4096 % 16 = omega arith in
    let f : w / 256 % 256 % 16 ≡ w / 256 % 16 = omega arith in
    let g : w % 256 / 16 % 16 ≡ w / 16 % 16 = omega arith in
    let h : w % 256 % 16 ≡ w % 16 = omega arith in
    simp (div-one, a, b, c, d, e, f, g, h)
