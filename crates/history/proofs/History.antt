-- After any run of calls, refused ones included, each place holds what the last accepted call naming it put there, else its
-- first content; and the memories keep their lengths.
use Prim.Native.Nat.{ℕ, ◌-◌}
use mathlib.Core.Path.{◌≡◌, refl, ◌∙◌}
use mathlib.Core.Option.{Option, none, some}
use mathlib.Core.List.{List, [], ◌∷◌}
use lib.ListN.{length}
use Rattle.octets.specs.Number.{big_bytes}
use Rattle.octets.specs.Outcome.{Outcome, accepted, refused, on_accepted}
use Rattle.facts.specs.Eeprom.{at_serial}
use Rattle.processor.specs.Memory.{Memory, Store, to_eeprom, to_settings, store_one, store}
use Rattle.processor.specs.Puts.{or_before, Within, AllWithin}
use Rattle.processor.proofs.Stores.{length-put}
use Rattle.processor.proofs.Puts.{byte-after, word_after}
use Rattle.saves.specs.Save.{saved_into}
use Rattle.history.specs.History.{Location, in_eeprom, in_settings, content, puts, Call, bare, new, receive, execute, execute-into, write-u8, write-u16, write-u32, set-serial, set-timestamp, store-image, replay, save, answer, step, named, named_if_accepted, history, later, last_stored, last}
use Rattle.history.specs.Restores.{SameSizes}
use Rattle.history.proofs.Steps.{Right, executed-right, executed-into-right, received-right, written-right, stamped-right, image-right}
use Rattle.history.proofs.Makers.{bare-right, new-right}
use Rattle.history.proofs.Replays.{replay-right}

-- ---- one call
pub right : (c : Call) (m : Memory) → Right m (answer c m) (named (length m.eeprom) (length m.settings) c) (step c m)
right (bare made) m = bare-right made m
right (new made typed meters) m = new-right made meters m
right (receive d frame octets out) m = received-right d m out frame
right (execute d c typed p octets out) m = executed-right d m out c p
right (execute-into d c typed p octets out) m = executed-into-right d m out c p
right (write-u8 a value typed) m = written-right m a (value ∷ [])
right (write-u16 a value typed) m = written-right m a (big_bytes 2 value)
right (write-u32 a value typed) m = written-right m a (big_bytes 4 value)
right (set-serial value typed) m = written-right m at_serial (big_bytes 4 (value - 900000))
right (set-timestamp value typed) m = stamped-right m value
right (store-image image octets) m = image-right m image
right (replay l octets) m = replay-right m l octets
right (save out) m = go (saved_into m out).0
  where
    go : (o : Outcome ℕ) → Right m (on_accepted (λ n. tt) o) [] m
    go (accepted n) = (refl, tt)
    go (refused k) = (refl, tt)

-- ---- writes
pub put-sizes : (w : Store) (m : Memory) → SameSizes (store_one w m) m
put-sizes (to_eeprom a b) m = (length-put a b m.eeprom, refl)
put-sizes (to_settings a w) m = (refl, length-put a (w ∷ []) m.settings)

store-sizes : (ws : List Store) (m : Memory) → SameSizes (store ws m) m
store-sizes [] m = (refl, refl)
store-sizes (w ∷ ws) m = let p = put-sizes w m in let q = store-sizes ws (store_one w m) in (q.0 ∙ p.0, q.1 ∙ p.1)

put-at : (w : Store) (m : Memory) (place : Location) → Within (length m.eeprom) (length m.settings) w → content (store_one w m) place ≡ or_before (puts w place) (content m place)
put-at w m (in_eeprom i) h = byte-after w m h i
put-at w m (in_settings i) h = word_after w m h i

or_later_lem : (o p : Option ℕ) (n : ℕ) → or_before o (or_before p n) ≡ or_before (later o p) n
or_later_lem none p n = refl
or_later_lem (some v) p n = refl

store_at : (ws : List Store) (m : Memory) (place : Location) → AllWithin (length m.eeprom) (length m.settings) ws → content (store ws m) place ≡ or_before (last_stored ws place) (content m place)
store_at [] m place h = refl
store_at (w ∷ ws) m place h =
    let kept = put-sizes w m in
    store_at ws (store_one w m) place (rw (kept.0, kept.1) h.1) ∙ rw (put-at w m place h.0) (or_later_lem (last_stored ws place) (puts w place) (content m place))

-- ---- histories
step-at : (c : Call) (m : Memory) (place : Location) → content (step c m) place ≡ or_before (last_stored (named_if_accepted c m) place) (content m place)
step-at c m place = let r = right c m in rw r.0 (store_at (named_if_accepted c m) m place r.1)

pub holds-last : (cs : List Call) (m : Memory) (place : Location) → content (history cs m) place ≡ or_before (last cs m place) (content m place)
holds-last [] m place = refl
holds-last (c ∷ cs) m place =
    holds-last cs (step c m) place ∙ rw (step-at c m place) (or_later_lem (last cs (step c m) place) (last_stored (named_if_accepted c m) place) (content m place))

step-sizes : (c : Call) (m : Memory) → SameSizes (step c m) m
step-sizes c m = rw (right c m).0 (store-sizes (named_if_accepted c m) m)

pub lengths-kept : (cs : List Call) (m : Memory) → SameSizes (history cs m) m
lengths-kept [] m = (refl, refl)
lengths-kept (c ∷ cs) m = let p = step-sizes c m in let q = lengths-kept cs (step c m) in (q.0 ∙ p.0, q.1 ∙ p.1)
