-- An accepted call changes exactly the places that it names, and puts there what its definition says.
use Prim.Native.Nat.{ℕ, ◌+◌, ◌-◌, ◌≤◌, ◌<◌}
use mathlib.Core.Path.{◌≡◌, refl, sym, ap, ◌∙◌}
use mathlib.Core.Bool.{Bool, true, false}
use mathlib.Core.List.{List, [], ◌∷◌, ◌++◌}
use native.Mathlib.Omega.{arith}
use lib.ListN.{length, take, drop, length-take}
use lib.Seq.{get_or-take, get_or-drop, get_or-append-add, take_at}
use Rattle.octets.specs.Number.{at}
use Rattle.octets.specs.Over.{over, over_at}
use Rattle.octets.proofs.Choosing.{either_lt, either-eq}
use Rattle.octets.proofs.Overlay.{put-inside}
use Rattle.processor.specs.Memory.{Memory, Store, to_eeprom, to_settings, store_one}
use Rattle.processor.specs.Puts.{puts_byte, puts_word, or_before, Within}

-- in one list behind another
front : (xs ys : List ℕ) (i : ℕ) → i < length xs → at (xs ++ ys) i ≡ at xs i
front xs ys i h = sym (get_or-take (length xs) (xs ++ ys) i 0 h) ∙ ap (λ (l : List ℕ). at l i) (take_at xs ys (length xs) refl)

rear : (xs ys : List ℕ) (i : ℕ) → length xs ≤ i → at (xs ++ ys) i ≡ at ys (i - length xs)
rear xs ys i h = let e : i ≡ length xs + (i - length xs) = omega arith in ap (at (xs ++ ys)) e ∙ get_or-append-add xs ys (i - length xs) 0

-- bytes written over those from a place on
module _ (a : ℕ) (b l : List ℕ) (h : a + length b ≤ length l) where
  before : length (take a l) ≡ a
  before = length-take a l ∙ omega arith

  under : (i : ℕ) → i < a → at (over_at a b l) i ≡ at l i
  unfolding over_at
  under i g = front (take a l) (over b (drop a l)) i (omega (arith, before)) ∙ get_or-take a l i 0 g

  past : (i : ℕ) → a ≤ i → at (over_at a b l) i ≡ at (b ++ drop (length b) (drop a l)) (i - a)
  unfolding over_at over
  past i g = rear (take a l) (over b (drop a l)) i (omega (arith, before)) ∙ ap (λ (n : ℕ). at (over b (drop a l)) (i - n)) before

  inner : (i : ℕ) → a ≤ i → i < a + length b → at (over_at a b l) i ≡ at b (i - a)
  inner i g k = past i g ∙ front b (drop (length b) (drop a l)) (i - a) (omega arith)

  behind : (i : ℕ) → a + length b ≤ i → at (over_at a b l) i ≡ at l i
  behind i g =
      let e : a + (length b + (i - a - length b)) ≡ i = omega arith in
      past i (omega arith) ∙ rear b (drop (length b) (drop a l)) (i - a) (omega arith) ∙ get_or-drop (length b) (drop a l) (i - a - length b) 0
      ∙ get_or-drop a l (length b + (i - a - length b)) 0 ∙ ap (at l) e

  pub byte-over : (i : ℕ) → at (over_at a b l) i ≡ or_before (puts_byte (to_eeprom a b) i) (at l i)
  byte-over i =
      either_lt (λ o. at (over_at a b l) i ≡ or_before o (at l i)) i a _ _ (under i)
      (λ g. either_lt (λ o. at (over_at a b l) i ≡ or_before o (at l i)) i (a + length b) _ _ (inner i g) (behind i))

-- each byte and word after a write that lies within
pub byte-after : (w : Store) (m : Memory) → Within (length m.eeprom) (length m.settings) w → (i : ℕ) → at (store_one w m).eeprom i ≡ or_before (puts_byte w i) (at m.eeprom i)
byte-after (to_eeprom a b) m h i = ap (λ (l : List ℕ). at l i) (sym (put-inside m.eeprom a b h)) ∙ byte-over a b m.eeprom h i
byte-after (to_settings a w) m h i = refl

pub word_after : (w : Store) (m : Memory) → Within (length m.eeprom) (length m.settings) w → (i : ℕ) → at (store_one w m).settings i ≡ or_before (puts_word w i) (at m.settings i)
word_after (to_eeprom a b) m h i = refl
word_after (to_settings a w) m h i = ap (λ (l : List ℕ). at l i) (sym (put-inside s a (w ∷ []) room)) ∙ at-word
  where
    s : List ℕ
    s = m.settings

    room : a + 1 ≤ length s
    room = omega (arith, h)

    same_place : i ≡ a → at (over_at a (w ∷ []) s) i ≡ w
    same_place e = let z : i - a ≡ 0 = omega (arith, e) in inner a (w ∷ []) s room i (omega (arith, e)) (omega (arith, e)) ∙ ap (at (w ∷ [])) z

    elsewhere : (i ≡ a → ⊥) → at (over_at a (w ∷ []) s) i ≡ at s i
    elsewhere apart = either_lt (λ (b : Bool). at (over_at a (w ∷ []) s) i ≡ at s i) i a true false (under a (w ∷ []) s room i) (λ g. behind a (w ∷ []) s room i (omega (arith, apart)))

    at-word : at (over_at a (w ∷ []) s) i ≡ or_before (puts_word (to_settings a w) i) (at s i)
    at-word = either-eq (λ o. at (over_at a (w ∷ []) s) i ≡ or_before o (at s i)) i a _ _ same_place elsewhere
