-- Writes that put bytes into the EEPROM and words into the settings: such writes leave bytes bytes and words words.
use Prim.Native.Nat.{ℕ, zero, suc, ◌+◌, ◌*◌, ◌^◌, ◌<◌, ◌≤◌}
use mathlib.Core.List.{List, [], ◌∷◌, ◌++◌}
use mathlib.Core.Logic.{◌⊎◌, inl, inr}
use native.Mathlib.Omega.{arith}
use lib.Dec.{lit<}
use lib.ListN.{length, replicate}
use Rattle.octets.specs.Number.{at, Octets}
use Rattle.octets.specs.Place.{place_at, part_of}
use Rattle.octets.proofs.Bytes.{no-octets, one_more, big-octets, part-octets}
use Rattle.octets.proofs.Choosing.{either_lt, lt-or-le}
use Rattle.octets.proofs.Overlay.{put-outside}
use Rattle.processor.specs.Memory.{Memory, memory, Store, to_eeprom, to_settings, put_at, store}
use Rattle.processor.specs.Create.{new_writes, with_meters, new_memory}
use Rattle.processor.specs.Puts.{or_before}
use Rattle.processor.proofs.Puts.{byte-after}
use Rattle.saves.specs.Save.{blocks}
use Rattle.saves.specs.Writes.{Words, each, block_store, word_store, writes_for}
use Rattle.history.specs.History.{blank}

abbrev pub Fits : Store → Type 0
Fits (to_eeprom a b) = Octets b
Fits (to_settings a w) = w < 2 ^ 32

abbrev pub AllFit : List Store → Type 0
AllFit [] = Unit
AllFit (w ∷ ws) = Fits w × AllFit ws

pub both-fit : (a b : List Store) → AllFit a → AllFit b → AllFit (a ++ b)
both-fit [] b h g = g
both-fit (w ∷ a) b h g = (h.0, both-fit a b h.1 g)

-- ---- what they leave
-- bytes and words alike: numbers below k
abbrev Below : ℕ → List ℕ → Type 0
Below k l = (i : ℕ) → at l i < k

one_below : (k w : ℕ) → w < k → Below k (w ∷ [])
one_below k w h zero = h
one_below k w h (suc i) = omega arith

put-below : (k a : ℕ) (b l : List ℕ) → Below k b → Below k l → Below k (put_at a b l)
put-below k a b l below-b below-l i = go (lt-or-le (length l) (a + length b))
  where
    go : (length l < a + length b) ⊎ (a + length b ≤ length l) → at (put_at a b l) i < k
    go (inl h) = rw (← put-outside l a b h) (below-l i)
    go (inr h) =
        rw (byte-after (to_eeprom a b) (memory l []) h i)
        (either_lt (λ o. or_before o (at l i) < k) i a _ _ (λ g. below-l i) (λ g. either_lt (λ o. or_before o (at l i) < k) i (a + length b) _ _ (λ f. below-b _) (λ f. below-l i)))

pub stored-octets : (ws : List Store) (m : Memory) → AllFit ws → Octets m.eeprom → Octets (store ws m).eeprom
stored-octets [] m fit octets = octets
stored-octets (to_eeprom a b ∷ ws) m fit octets = stored-octets ws _ fit.1 (put-below 256 a b m.eeprom fit.0 octets)
stored-octets (to_settings a w ∷ ws) m fit octets = stored-octets ws _ fit.1 octets

pub stored-words : (ws : List Store) (m : Memory) → AllFit ws → Words m.settings → Words (store ws m).settings
stored-words [] m fit words = words
stored-words (to_eeprom a b ∷ ws) m fit words = stored-words ws _ fit.1 words
stored-words (to_settings a w ∷ ws) m fit words = stored-words ws _ fit.1 (put-below (2 ^ 32) a (w ∷ []) m.settings (one_below (2 ^ 32) w fit.0) words)

-- ---- what is named by those who make a device
each-fit : (f : ℕ → Store) (n : ℕ) → ((k : ℕ) → Fits (f k)) → AllFit (each f n)
unfolding each
each-fit f zero h = tt
each-fit f (suc n) h = both-fit (each f n) (f n ∷ []) (each-fit f n h) (h n, tt)

whole-fit : (m : Memory) → Octets m.eeprom → Words m.settings → AllFit (writes_for m)
unfolding part_of
whole-fit m octets words =
    both-fit (each (block_store m.eeprom) (blocks (length m.eeprom))) (each (word_store m.settings) (length m.settings))
    (each-fit (block_store m.eeprom) _ (λ k. part-octets m.eeprom (place_at (32 * k) 32) octets)) (each-fit (word_store m.settings) _ words)

same-below : (k w n : ℕ) → w < k → Below k (replicate n w)
same-below k w zero h i = omega arith
same-below k w (suc n) h zero = h
same-below k w (suc n) h (suc i) = same-below k w n h i

pub blank-fit : (e s : ℕ) → AllFit (writes_for (blank e s))
blank-fit e s = whole-fit (blank e s) (same-below 256 0xFF e (lit< tt)) (same-below (2 ^ 32) 0 s (lit< tt))

meters-words : (meters s : List ℕ) → Words s → Words (with_meters meters s)
meters-words [] s words = words
meters-words (a ∷ meters) s words = meters-words meters _ (put-below (2 ^ 32) a (0xC2700000 ∷ []) s (one_below (2 ^ 32) 0xC2700000 (lit< tt)) words)

pub byte : (n : ℕ) → n < 256 → Octets (n ∷ [])
byte n h = one_more n [] h no-octets

writes-fit : (dsp : ℕ) → dsp < 256 → AllFit (new_writes dsp)
writes-fit dsp h = (byte dsp h, (big-octets 4 42424242, (big-octets 2 0, (byte 7 (lit< tt), (byte 0 (lit< tt), (big-octets 2 0, (big-octets 2 12345, (byte 3 (lit< tt), tt))))))))

pub new-fit : (dsp : ℕ) → dsp < 256 → (meters : List ℕ) (e s : ℕ) → AllFit (writes_for (new_memory dsp meters (blank e s)))
new-fit dsp h meters e s =
    whole-fit (new_memory dsp meters (blank e s))
    (stored-octets (new_writes dsp) (memory (replicate (length (blank e s).eeprom) 0xFF) []) (writes-fit dsp h) (same-below 256 0xFF (length (blank e s).eeprom) (lit< tt)))
    (meters-words meters (replicate (length (blank e s).settings) 0) (same-below (2 ^ 32) 0 (length (blank e s).settings) (lit< tt)))
