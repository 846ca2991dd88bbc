-- The change that a packet of a save comes to makes the write that the packet means.
use Rattle.std.proofs.Common.{◌≡◌, ℕ, List, [], ◌∷◌, drop, refl, ap, ◌∙◌}
use Rattle.octets.specs.Outcome.{Outcome, accepted, refused, on_accepted}
use Rattle.octets.proofs.Choosing.{either_lt, either-eq, refused-accepted, accepted-refused}
use Rattle.octets.proofs.Outcomes.{same-value}
use Rattle.octets.proofs.Parts.{part-rest}
use Rattle.processor.specs.Memory.{Store, to_eeprom, to_settings}
use Rattle.processor.specs.Change.{writes_in}
use Rattle.processor.specs.declared.change.Change.{Change}
use Rattle.streams.specs.Means.{packet_means, in_packet}
use Rattle.streams.specs.Inside.{or_nothing}

module _ (p : List ℕ) where
  abbrev Makes : Outcome Store → Type 0
  Makes o = (c : Change) → accepted c ≡ on_accepted (in_packet p) o → writes_in p c ≡ or_nothing o

  never : (k : ℕ) → Makes (refused k)
  never k c h = absurd (accepted-refused h)

  of-memory : (a : ℕ) → Makes (accepted (to_eeprom a (drop 3 p)))
  of-memory a c h = ap (writes_in p) (same-value h) ∙ ap (λ (b : List ℕ). to_eeprom a b ∷ []) (part-rest p 3)

  of_word : (a w : ℕ) → Makes (accepted (to_settings a w))
  of_word a w c h = ap (writes_in p) (same-value h)

  module _ (e s : ℕ) where
    pub change-writes : Makes (packet_means e s p)
    unfolding packet_means
    change-writes =
        either_lt Makes _ _ _ _ (λ h. never _)
        (λ h. either-eq Makes _ _ _ _
        (λ h. either_lt Makes _ _ _ _ (λ h. never _) (λ h. either_lt Makes _ _ _ _ (λ h. never _) (λ h. of-memory _)))
        (λ h. either-eq Makes _ _ _ _
        (λ h. either_lt Makes _ _ _ _ (λ h. never _) (λ h. either-eq Makes _ _ _ _ (λ h. either_lt Makes _ _ _ _ (λ h. of_word _ _) (λ h. never _)) (λ h. never _)))
        (λ h. never _)))

-- and one that means none writes nothing
pub none-writes : (p : List ℕ) (o : Outcome Store) {k : ℕ} → refused k ≡ on_accepted (in_packet p) o → [] ≡ or_nothing o
none-writes p (accepted w) h = absurd (refused-accepted h)
none-writes p (refused j) h = refl
