-- A save replayed on memories of the same sizes is accepted and leaves what was saved.
use Prim.Native.Nat.{ℕ, zero, suc, ◌+◌, ◌^◌, ◌≤◌, ◌<◌}
use mathlib.Core.Path.{◌≡◌, refl, sym, ◌∙◌}
use mathlib.Core.Bool.{false}
use mathlib.Core.List.{List, [], ◌∷◌, ◌++◌}
use native.Mathlib.Nat.{add-zero, mod-eq_of_lt}
use native.Mathlib.Omega.{arith}
use lib.Dec.{lit<}
use lib.ListN.{length, drop, length-append}
use lib.Seq.{drop_at}
use Rattle.octets.specs.Outcome.{accepted}
use Rattle.octets.specs.Number.{big_at, big_bytes}
use Rattle.octets.proofs.Choosing.{above, same}
use Rattle.octets.proofs.InBytes.{big-behind, big-back}
use Rattle.processor.specs.Memory.{Memory, too_large}
use Rattle.saves.specs.Save.{save_field, shape_field, end_field, blocks, fields_for, save_of, room}
use Rattle.streams.specs.Stream.{length_of, shape, shape_of, end_of}
use Rattle.streams.specs.Judge.{fields_mean, checked_for}
use Rattle.saves.specs.Replay.{replay_of}
use Rattle.saves.specs.Writes.{Words, each, writes_for}
use Rattle.saves.proofs.Saved.{length-shape, length-save}
use Rattle.saves.proofs.Fields.{field-length, save-stream}
use Rattle.saves.proofs.Writes.{saved-writes}
use Rattle.saves.proofs.Rising.{stored-whole}

-- ---- the first field and the last
four-back : (a : List ℕ) (n : ℕ) (t : List ℕ) → n < 2 ^ 32 → big_at 4 (a ++ (big_bytes 4 n ++ t)) (length a) ≡ n
four-back a n t h = rw add-zero at (big-behind a (big_bytes 4 n ++ t) 4 0) ∙ big-back 4 n t ∙ mod-eq_of_lt h

shape-read : (e s : ℕ) (l : List ℕ) → e ≤ 65536 → s ≤ 65536 → shape_of (shape_field e s ++ l) ≡ accepted (shape e s)
unfolding shape_of shape_field save_field big_bytes
shape-read e s l h g =
    let f : List ℕ = shape_field e s ++ l in
    let first : big_at 4 f 3 ≡ e = four-back (0x01 ∷ 0 ∷ 8 ∷ []) e (big_bytes 4 s ++ l) (omega arith) in
    let second : big_at 4 f 7 ≡ s = four-back (0x01 ∷ 0 ∷ 8 ∷ big_bytes 4 e) s l (omega arith) in
    let eight : length_of f ≡ 8 = field-length 0x01 (big_bytes 4 e ++ big_bytes 4 s) l (lit< tt) in
    sym (above _ _ _ _ _ (omega arith) (same _ _ _ _ _ refl (same _ _ _ _ _ eight (rw (first, second)))))

end_read : (n : ℕ) → n < 2 ^ 32 → end_of n (end_field n) ≡ accepted tt
unfolding end_of end_field save_field big_bytes
end_read n h =
    let four : length_of (end_field n) ≡ 4 = field-length 0x7F (big_bytes 4 n) [] (lit< tt) in
    sym (same _ _ _ _ _ refl (same _ _ _ _ _ refl (same _ _ _ _ _ four (same _ _ _ _ _ (four-back (0x7F ∷ 0 ∷ 4 ∷ []) n [] h) refl))))

length-each : {A : Type 0} (f : ℕ → A) (n : ℕ) → length (each f n) ≡ n
unfolding each
length-each f zero = refl
length-each f (suc n) = rw (length-append, length-each f n) (omega arith)

module _ (m : Memory) (few : length m.eeprom ≤ 65536) (words-few : length m.settings ≤ 65536) (words : Words m.settings) where
  abbrev e : ℕ
  e = length m.eeprom

  abbrev s : ℕ
  s = length m.settings

  fields-mean : fields_mean e s (fields_for m) ≡ accepted (writes_for m)
  unfolding fields_mean blocks
  fields-mean =
      let n : length (writes_for m) ≡ blocks e + s = rw (length-append, length-each, length-each) (omega arith) in
      rw (save-stream m, saved-writes m few words-few words, n, end_read (blocks e + s) (omega arith))

  sized : too_large e s ≡ false
  sized = sym (above _ _ _ _ _ few (above _ _ _ _ _ words-few refl))

  pub save-checked : checked_for e s (save_of m) ≡ accepted (record { shape = shape e s; writes = writes_for m })
  unfolding checked_for save_of room blocks
  save-checked =
      let behind : drop 11 (shape_field e s ++ fields_for m) ≡ fields_for m = drop_at (shape_field e s) (fields_for m) 11 (length-shape e s) in
      let read : shape_of (shape_field e s ++ fields_for m) ≡ accepted (shape e s) = shape-read e s (fields_for m) few words-few in
      rw sized (sym (above _ _ _ _ _ (omega (arith, length-save m)) (rw read (same _ _ _ _ _ refl (same _ _ _ _ _ refl (rw (behind, fields-mean)))))))

  pub restored : (m' : Memory) → length m'.eeprom ≡ e → length m'.settings ≡ s → replay_of m' (save_of m) ≡ (accepted tt, m)
  unfolding replay_of
  restored m' h g = rw (h, g, save-checked, stored-whole m m' h g)
