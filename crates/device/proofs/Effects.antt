-- What a command is accepted to do is what it names, and lies within the memories.
use Prim.Native.Nat.{ℕ, ◌+◌}
use mathlib.Core.Path.{◌≡◌, refl, subst}
use mathlib.Core.Bool.{Bool, true, false}
use mathlib.Core.List.{List, [], ◌∷◌}
use native.Mathlib.Omega.{arith}
use lib.ListN.{length}
use Rattle.octets.specs.Refusals.{outside}
use Rattle.octets.specs.Outcome.{Outcome, accepted, refused}
use Rattle.octets.specs.Choice.{pick, if_lt, if_eq}
use Rattle.octets.specs.Number.{little_at}
use Rattle.octets.specs.Place.{part_of, is_outside}
use Rattle.octets.specs.declared.Place.{Place}
use Rattle.octets.proofs.Choosing.{same, other, either_lt, either-eq, refused-accepted}
use Rattle.octets.proofs.Parts.{length_part, was-inside}
use Rattle.fields.specs.Value.{value_bytes, value_outside}
use Rattle.fields.specs.declared.value.Value.{Value}
use Rattle.commands.specs.declared.Commands.{Commands}
use Rattle.commands.specs.declared.Commands.TheVariants.{ReadHardwareId, ReadFloats, WriteMemory, ReadMemory, SetConfig, SetSource, SetMute, SetVolume, WriteBiquad, WriteBiquadBypass, Read, Write, FirLoadStart, FirLoadData, FirLoadEnd, DiracBypass, BulkLoad, BulkLoadFilterData, Unk07, SwitchMux, Unknown}
use Rattle.responses.specs.declared.Responses.{Responses}
use Rattle.responses.specs.declared.Responses.TheVariants.{Ack}
use Rattle.processor.specs.Memory.{Store, to_eeprom, to_settings}
use Rattle.device.specs.Effect.{Effect, effect, tells_of, write_memory_does, write_does, set_byte, effect_of}
use Rattle.device.specs.Names.{word_named, byte_named, names}
use Rattle.processor.specs.Puts.{AllWithin}
use Rattle.processor.specs.declared.Device.{Device}

module _ (e s : ℕ) where
  -- what is accepted puts these, which lie within
  abbrev Named : List Store → Outcome Effect → Type 0
  Named ws o = (x : Effect) → o ≡ accepted x → (x.writes ≡ ws) × AllWithin e s x.writes

  gives : {ws : List Store} (y : Effect) → y.writes ≡ ws → AllWithin e s y.writes → Named ws (accepted y)
  gives {ws} y named h x g = let same : y ≡ x = cc in subst (λ (z : Effect). (z.writes ≡ ws) × AllWithin e s z.writes) same (named, h)

  never : {ws : List Store} (k : ℕ) → Named ws (refused k)
  never k x g = absurd (refused-accepted g)

  tells : (r : Responses) → Named [] (accepted (tells_of r))
  tells r = gives (tells_of r) refl tt

  of-memory : (p : List ℕ) (a : ℕ) (place : Place) → Named (to_eeprom a (part_of p place) ∷ []) (write_memory_does p e a place)
  of-memory p a place = go (is_outside place (length p)) refl
    where
      ws : List Store
      ws = to_eeprom a (part_of p place) ∷ []

      go : (b : Bool) → is_outside place (length p) ≡ b → Named ws (pick b (refused outside) (if_lt e (a + place.len) (refused outside) (accepted (effect Ack ws))))
      go true q = never _
      go false q = either_lt (Named _) _ _ _ _ (λ h. never _) (λ h. gives _ refl (let n = length_part p place (was-inside place (length p) q) in omega (arith, n), tt))

  of_word : (p : List ℕ) (a : ℕ) (v : Value) → Named (word_named a (value_bytes v p)) (write_does p s a v)
  of_word p a v = go (value_outside v (length p))
    where
      go : (b : Bool) → Named (word_named a (value_bytes v p)) (pick b (refused outside) (if_eq (length (value_bytes v p)) 4 (if_lt a s (accepted (effect Ack (to_settings a (little_at 4 (value_bytes v p) 0) ∷ []))) (refused outside)) (accepted (tells_of Ack))))
      go true = never _
      go false =
          either-eq (Named _) _ _ _ _ (λ four. either_lt (Named _) _ _ _ _ (λ g. gives _ (same _ _ _ _ _ four refl) (g, tt)) (λ g. never _))
          (λ other_length. gives _ (other _ _ _ _ _ other_length refl) tt)

  of-byte : (a value : ℕ) (r : Responses) → Named (byte_named a value) (set_byte e a value r)
  of-byte a value r = either_lt (Named _) _ _ _ _ (λ h. gives _ refl (omega arith, tt)) (λ h. never _)

  pub effect-names : (d : Device) (p : List ℕ) (c : Commands) → Named (names p c) (effect_of d p e s c)
  effect-names d p ReadHardwareId = tells _
  effect-names d p (ReadMemory a size) = either_lt (Named _) _ _ _ _ (λ h. never _) (λ h. tells _)
  effect-names d p (WriteMemory a place) = of-memory p a place
  effect-names d p (ReadFloats a len) = either_lt (Named _) _ _ _ _ (λ h. never _) (λ h. tells _)
  effect-names d p (Write a v) = of_word p a.val v
  effect-names d p (SetConfig config reset) = of-byte _ _ _
  effect-names d p (SetSource n) = of-byte _ _ _
  effect-names d p (SetMute value) = of-byte _ _ _
  effect-names d p (SetVolume gain) = of-byte _ _ _
  effect-names d p (FirLoadStart index) = tells _
  effect-names d p (Unk07 payload) = tells _
  effect-names d p (Read a len) = tells _
  effect-names d p (WriteBiquad a) = tells _
  effect-names d p (WriteBiquadBypass a value) = tells _
  effect-names d p (FirLoadData index floats) = tells _
  effect-names d p FirLoadEnd = tells _
  effect-names d p (DiracBypass value) = tells _
  effect-names d p (BulkLoad payload) = tells _
  effect-names d p (BulkLoadFilterData payload) = tells _
  effect-names d p (SwitchMux mux) = tells _
  effect-names d p (Unknown id payload) = tells _
