-- Who makes a device puts at every place what it then has.
use Prim.Native.Nat.{ℕ, zero, suc, ◌*◌, ◌<◌}
use mathlib.Core.Path.{◌≡◌, refl, sym, ◌∙◌, subst}
use mathlib.Core.Bool.{Bool, true, false}
use mathlib.Core.List.{List, [], ◌∷◌, ◌++◌}
use native.Mathlib.Omega.{arith}
use lib.ListN.{length, drop, replicate, length-replicate, length-take, length-drop}
use Rattle.octets.specs.Refusals.{outside, wrong_sizes}
use Rattle.octets.specs.Outcome.{Outcome, accepted, refused}
use Rattle.octets.specs.Choice.{pick, if_lt, if_eq}
use Rattle.octets.proofs.Choosing.{either_lt, either-eq}
use Rattle.processor.specs.Memory.{Memory, memory, Store, store, oversized}
use Rattle.processor.specs.Puts.{Within, AllWithin}
use Rattle.processor.specs.Create.{bare_memory, bare_of, new_writes, any_beyond, with_meters, new_memory, new_of}
use Rattle.processor.specs.declared.Device.{Device}
use Rattle.processor.proofs.Stores.{length-put, length-store}
use Rattle.saves.specs.Save.{blocks}
use Rattle.saves.specs.Writes.{each, block_store, word_store, writes_for}
use Rattle.saves.proofs.Rising.{stored-whole}
use Rattle.history.specs.History.{on_made, blank}
use Rattle.history.specs.Restores.{SameSizes}
use Rattle.history.proofs.Steps.{Right}

-- ---- the writes of a whole memory lie within it
module _ (e s : ℕ) where
  both-within : (a b : List Store) → AllWithin e s a → AllWithin e s b → AllWithin e s (a ++ b)
  both-within [] b h g = g
  both-within (w ∷ a) b h g = (h.0, both-within a b h.1 g)

  each_within : (f : ℕ → Store) (n : ℕ) → ((k : ℕ) → k < n → Within e s (f k)) → AllWithin e s (each f n)
  unfolding each
  each_within f zero h = tt
  each_within f (suc n) h = both-within (each f n) (f n ∷ []) (each_within f n (λ k l. h k (omega arith))) (h n (omega arith), tt)

whole-within : (m : Memory) → AllWithin (length m.eeprom) (length m.settings) (writes_for m)
unfolding blocks
whole-within m =
    let e = length m.eeprom in
    let s = length m.settings in
    both-within e s (each (block_store m.eeprom) (blocks e)) (each (word_store m.settings) s)
    (each_within e s (block_store m.eeprom) (blocks e) (λ k h. omega (arith, length-take 32 (drop (32 * k) m.eeprom), length-drop (32 * k) m.eeprom)))
    (each_within e s (word_store m.settings) s (λ k h. h))

whole-right : (m after : Memory) → SameSizes after m → Right m (accepted tt) (writes_for after) after
whole-right m after same = (sym (stored-whole after m (sym same.0) (sym same.1)), rw (← same.0, ← same.1) (whole-within after))

-- ---- bare
module _ (made : Device) (m : Memory) where
  abbrev e : ℕ
  e = length m.eeprom

  abbrev s : ℕ
  s = length m.settings

  pub bare-right : let left = on_made (bare_of made m) in Right m left.0 (writes_for (blank e s)) left.1
  bare-right = go (oversized m)
    where
      P : Outcome Device × Memory → Type 0
      P left = Right m (on_made left).0 (writes_for (blank e s)) left.1

      go : (b : Bool) → P (pick b (refused wrong_sizes, m) (accepted made, bare_memory m))
      go true = (refl, tt)
      go false = whole-right m (bare_memory m) (length-replicate e 0xFF, length-replicate s 0)

-- ---- new
meters-length : (meters s : List ℕ) → length (with_meters meters s) ≡ length s
meters-length [] s = refl
meters-length (a ∷ meters) s = meters-length meters _ ∙ length-put a (0xC2700000 ∷ []) s

new-sizes : (dsp : ℕ) (meters : List ℕ) (m : Memory) → SameSizes (new_memory dsp meters m) m
new-sizes dsp meters m = (
  length-store (new_writes dsp) (memory (replicate (length m.eeprom) 0xFF) []) ∙ length-replicate (length m.eeprom) 0xFF,
  meters-length meters (replicate (length m.settings) 0) ∙ length-replicate (length m.settings) 0,
)

-- what is new depends on the sizes alone
new-alike : (dsp : ℕ) (meters : List ℕ) (m : Memory) → new_memory dsp meters (blank (length m.eeprom) (length m.settings)) ≡ new_memory dsp meters m
new-alike dsp meters m = λ i. memory (store (new_writes dsp) (memory (replicate (length-replicate {A = ℕ} (length m.eeprom) 0xFF i) 0xFF) [])).eeprom (with_meters meters (replicate (length-replicate {A = ℕ} (length m.settings) 0 i) 0))

-- For any f that makes the new memory: written out, the one that does is too large to carry through the cases.
module _ (f : Memory → Memory) (sizes : (m : Memory) → SameSizes (f m) m) (made : Device) (meters : List ℕ) (m : Memory) where
  abbrev fresh : Memory
  fresh = f (blank (length m.eeprom) (length m.settings))

  abbrev made_by : Outcome Device × Memory
  made_by =
      if_eq (length m.eeprom) 65536
      (if_lt 65536 (length m.settings) (refused wrong_sizes, m)
      (pick (any_beyond (length m.settings) meters) (refused outside, m) (accepted made, f m)))
      (refused wrong_sizes, m)

  made-right : fresh ≡ f m → Right m (on_made made_by).0 (writes_for fresh) made_by.1
  made-right alike = either-eq P _ _ _ _ (λ h. either_lt P _ _ _ _ (λ g. (refl, tt)) (λ g. go (any_beyond (length m.settings) meters))) (λ h. (refl, tt))
    where
      P : Outcome Device × Memory → Type 0
      P left = Right m (on_made left).0 (writes_for fresh) left.1

      go : (b : Bool) → P (pick b (refused outside, m) (accepted made, f m))
      go true = (refl, tt)
      go false = subst (λ (x : Memory). Right m (accepted tt) (writes_for x) (f m)) (sym alike) (whole-right m (f m) (sizes m))

pub new-right : (made : Device) (meters : List ℕ) (m : Memory) → let left = on_made (new_of made meters m) in Right m left.0 (writes_for (new_memory made.dsp_version meters (blank (length m.eeprom) (length m.settings)))) left.1
new-right made meters m =
    let dsp = made.dsp_version in
    made-right (new_memory dsp meters) (new-sizes dsp meters) made meters m (new-alike dsp meters m)
