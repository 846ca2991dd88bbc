-- Writes keep the lengths, and are stored one after the other; and what sizes are right.
use Prim.Native.Nat.{ℕ, ◌+◌, ◌≤◌, ◌<◌}
use mathlib.Core.Path.{◌≡◌, refl, sym, ap, ◌∙◌}
use mathlib.Core.Logic.{◌⊎◌, inl, inr}
use mathlib.Core.Bool.{true, false, true≢false}
use mathlib.Core.List.{List, [], ◌∷◌, ◌++◌}
use lib.ListN.{length}
use Rattle.octets.specs.Choice.{if_lt}
use Rattle.octets.proofs.Choosing.{lt-or-le, passed}
use Rattle.octets.proofs.Overlay.{length-over-at, put-outside, put-inside}
use Rattle.processor.specs.Memory.{Memory, Store, to_eeprom, to_settings, put_at, store_one, store, too_large}

module _ (a : ℕ) (w l : List ℕ) where
  pub length-put : length (put_at a w l) ≡ length l
  length-put = go (lt-or-le (length l) (a + length w))
    where
      go : (length l < a + length w) ⊎ (a + length w ≤ length l) → length (put_at a w l) ≡ length l
      go (inl h) = ap length (sym (put-outside l a w h))
      go (inr h) = ap length (sym (put-inside l a w h)) ∙ length-over-at l a w h

pub length-store : (ws : List Store) (m : Memory) → length (store ws m).eeprom ≡ length m.eeprom
length-store [] m = refl
length-store (to_eeprom a b ∷ ws) m = length-store ws (store_one (to_eeprom a b) m) ∙ length-put a b m.eeprom
length-store (to_settings a w ∷ ws) m = length-store ws (store_one (to_settings a w) m)

pub store-append : (a b : List Store) (m : Memory) → store (a ++ b) m ≡ store b (store a m)
store-append [] b m = refl
store-append (w ∷ a) b m = store-append a b (store_one w m)

pub right-sizes : (e s : ℕ) → too_large e s ≡ false → (e ≤ 65536) × (s ≤ 65536)
right-sizes e s h = let first = passed 65536 e true (if_lt 65536 s true false) false true≢false h in (first.0, (passed 65536 s true false false true≢false first.1).0)
