-- The writes of a save, stored in memories of the same sizes, leave what was saved.
use Prim.Native.Nat.{ℕ, zero, suc, ◌+◌, ◌*◌, ◌≤◌, min}
use mathlib.Core.Path.{◌≡◌, refl, sym, ◌∙◌}
use mathlib.Core.List.{List, [], ◌∷◌, ◌++◌, append_assoc, append-nil}
use native.Mathlib.Nat.{zero-min, min-zero, suc-min-suc}
use native.Mathlib.Omega.{arith}
use lib.ListN.{length, take, drop, length-append, length-take, length-drop, drop_of_length-le}
use lib.Seq.{take_at, drop_at, drop-drop, drop-cons, take-add, take_all, length-take-le}
use Rattle.octets.specs.Over.{over, over_at}
use Rattle.octets.specs.Number.{at}
use Rattle.processor.specs.Memory.{Memory, memory, put_at, store}
use Rattle.octets.proofs.Overlay.{put-inside}
use Rattle.processor.proofs.Stores.{store-append}
use Rattle.saves.specs.Save.{blocks}
use Rattle.saves.specs.Writes.{each, block_store, word_store, writes_for}

-- ---- writes in rising order
drop_min : (n : ℕ) (l : List ℕ) → drop (min n (length l)) l ≡ drop n l
drop_min zero l = rw zero-min
drop_min (suc n) [] = rw min-zero
drop_min (suc n) (x ∷ l) = rw suc-min-suc (drop_min n l)

module _ (l l' : List ℕ) (long : length l' ≡ length l) where
  -- the first n of l, then what stood there
  abbrev front : ℕ → List ℕ
  front n = take n l ++ drop n l'

  -- the next k of them
  front-more : (n k : ℕ) → n ≤ length l → put_at n (take k (drop n l)) (front n) ≡ front (n + k)
  unfolding over_at over
  front-more n k h =
      let next : List ℕ = take k (drop n l) in
      let upto : length (take n l) ≡ n = length-take-le n l h in
      let size : length next ≡ min k (length (drop n l')) = rw (length-take, length-drop, length-drop, long) in
      sym (put-inside (front n) n next (simp length-append (omega (arith, length-drop n l'))))
      ∙ rw (take_at (take n l) (drop n l') n upto, drop_at (take n l) (drop n l') n upto, size, drop_min k (drop n l'), drop-drop, take-add, append_assoc)

  front-all : (n : ℕ) → length l ≤ n → front n ≡ l
  front-all n h = rw (take_all n l h, drop_of_length-le l' {i = n} (omega arith), append-nil)

module _ (m m' : Memory) (e-same : length m'.eeprom ≡ length m.eeprom) (s-same : length m'.settings ≡ length m.settings) where
  blocks-stored : (k : ℕ) → k ≤ blocks (length m.eeprom) → store (each (block_store m.eeprom) k) m' ≡ memory (front m.eeprom m'.eeprom e-same (32 * k)) m'.settings
  unfolding each blocks
  blocks-stored zero h = refl
  blocks-stored (suc k) h =
      let next : 32 * suc k ≡ 32 * k + 32 = omega arith in
      rw (store-append (each (block_store m.eeprom) k) (block_store m.eeprom k ∷ []) m', blocks-stored k (omega arith), front-more m.eeprom m'.eeprom e-same (32 * k) 32 (omega arith), next)

  words-stored : (eeprom : List ℕ) (k : ℕ) → k ≤ length m.settings → store (each (word_store m.settings) k) (memory eeprom m'.settings) ≡ memory eeprom (front m.settings m'.settings s-same k)
  unfolding each
  words-stored eeprom zero h = refl
  words-stored eeprom (suc k) h =
      let w = m.settings in
      let one : at w k ∷ [] ≡ take 1 (drop k w) = rw (drop-cons w k 0 h) in
      let next : suc k ≡ k + 1 = omega arith in
      rw (store-append (each (word_store w) k) (word_store w k ∷ []) (memory eeprom m'.settings), words-stored eeprom k (omega arith), one, front-more w m'.settings s-same k 1 (omega arith), next)

  pub stored-whole : store (writes_for m) m' ≡ m
  unfolding blocks
  stored-whole =
      let e = length m.eeprom in
      let s = length m.settings in
      rw (store-append (each (block_store m.eeprom) (blocks e)) (each (word_store m.settings) s) m', blocks-stored (blocks e) (omega arith), front-all m.eeprom m'.eeprom e-same (32 * blocks e) (omega arith), words-stored m.eeprom s (omega arith), front-all m.settings m'.settings s-same s (omega arith))
