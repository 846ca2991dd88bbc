-- Laws of sources: their numbers tell them apart, a device has at most seven, and what a search of the entries of a
-- device finds is the first one under a key.
use Prim.Native.Nat.{ℕ, zero, suc, ◌+◌, ◌-◌, ◌<◌, ◌≤◌}
use mathlib.Core.Path.{◌≡◌, refl, sym, ap, ◌∙◌}
use mathlib.Core.List.{List, [], ◌∷◌, ◌++◌}
use native.Mathlib.Omega.{arith}
use lib.ListN.{length, take, get_or, set, replicate}
use lib.Seq.{take_at, take_all}
use mathlib.Core.Bool.{true, false}
use denote.Enum.Bare.{sameb, same_true, same_false}
use Rattle.facts.specs.contracts.source.Source.{the_type}
use borrow.Author.Rules.{rules}
use Rattle.std.specs.List.{HoldsAt, AllWithin}
use Rattle.octets.specs.Choice.{if_eq}
use Rattle.octets.proofs.Choosing.{same, other, either-eq}
use Rattle.facts.specs.Source.{entry, numbered, mapping_of, seven_of, source_number, first_of, to_id}
use Rattle.facts.specs.declared.source.Entry.{Entry}
use Rattle.facts.specs.declared.source.Mapping.{Mapping}
use Rattle.facts.specs.declared.source.Source.{Source}
use Rattle.facts.specs.declared.source.Source.TheVariants.{NotInstalled, Analog, Toslink, Spdif, Usb, Aesebu, Rca, Xlr, Lan, I2S, Bluetooth, Hdmi}

-- the source of a number
abbrev source_of : ℕ → Source
source_of n =
    get_or (NotInstalled ∷ Analog ∷ Toslink ∷ Spdif ∷ Usb ∷ Aesebu ∷ Rca ∷ Xlr ∷ Lan ∷ I2S ∷ Bluetooth ∷ Hdmi ∷ []) n NotInstalled

back : (s : Source) → source_of (source_number s) ≡ s
back NotInstalled = refl
back Analog = refl
back Toslink = refl
back Spdif = refl
back Usb = refl
back Aesebu = refl
back Rca = refl
back Xlr = refl
back Lan = refl
back I2S = refl
back Bluetooth = refl
back Hdmi = refl

-- two sources with one number are the same source
pub number-once : (s t : Source) → source_number s ≡ source_number t → s ≡ t
number-once s t e = sym (back s) ∙ ap source_of e ∙ back t

-- so that the id is that of the first entry with the source itself
pub own-id : (s : Source) (i : ℕ) (l : List Entry) → to_id s (entry s i ∷ l) ≡ i
unfolding first_of
own-id s i l = sym (same _ _ _ _ _ refl refl)

pub other-id : (s t : Source) (i : ℕ) (l : List Entry) → (t ≡ s → ⊥) → to_id s (entry t i ∷ l) ≡ to_id s l
unfolding first_of
other-id s t i l h = sym (other _ _ _ _ _ (λ e. h (number-once t s e)) refl)

chosen : {A : Type 0} (a b n : ℕ) (x y : List A) → length x ≤ n → length y ≤ n → length (if_eq a b x y) ≤ n
chosen a b n x y h k = either-eq (λ l. length l ≤ n) a b x y (λ e. h) (λ e. k)

-- a device has at most seven sources
pub at_most : (hw dsp : ℕ) → length (mapping_of hw dsp) ≤ 7
unfolding mapping_of
at_most hw dsp = search (chosen, rules) depth 20

-- a list under its numbers, as the loop fills it in
abbrev filler : Entry
filler = entry NotInstalled 0

length_numbered : (n : ℕ) (l : List Source) → length (numbered n l) ≡ length l
length_numbered n [] = refl
length_numbered n (s ∷ l) = ap suc (length_numbered (n + 1) l)

pub numbered_next : (n i k m : ℕ) (l : List Source) (d : Source) → m ≡ n + i → i < length l
    → set (numbered n (take i l) ++ replicate (suc k) filler) i (entry (get_or l i d) m) ≡ numbered n (take (suc i) l) ++ replicate k filler
numbered_next n i k m [] d e h = absurd (omega arith)
numbered_next n zero k m (s ∷ l) d e h = let same : m ≡ n = omega arith in ap (λ (j : ℕ). entry s j ∷ replicate k filler) same
numbered_next n (suc i) k m (s ∷ l) d e h = ap (λ (rest : List Entry). entry s n ∷ rest) (numbered_next (n + 1) i k m l d (omega arith) (omega arith))

pub numbered_all : (n i : ℕ) (l : List Source) {es : List Entry} → i ≡ length l → n ≡ length l → es ≡ numbered 0 (take i l) ++ replicate (7 - i) filler
    → ◌≡◌ {A = Mapping} (record { count = n; entries = es }) (seven_of (numbered 0 l))
numbered_all n i l a b e = rw (e, b, a, take_all (length l) l (omega arith), length_numbered 0 l)

-- equal sources have one number, and others have others
pub same_number : (s t : Source) → true ≡ sameb the_type s t → source_number s ≡ source_number t
same_number s t e = ap source_number (same_true the_type (search rules) s t (sym e))

pub other_number : (s t : Source) → false ≡ sameb the_type s t → source_number s ≡ source_number t → ⊥
other_number s t e h = same_false the_type s t (sym e) (number-once s t h)

-- the entries of an answer are the list that it was made of
pub entries_of : (l : List Entry) {m : Mapping} {x : List Entry} → m ≡ seven_of l → x ≡ take m.count m.entries → x ≡ l
entries_of l e h = rw e at h ∙ take_at l _ (length l) refl

-- what a search for the first entry under a key finds
module _ {A : Type 0} (key : Entry → ℕ) (k : ℕ) (value : Entry → A) (none : A) where
  abbrev pub Other : Entry → Type 0
  Other e = key e ≡ k → ⊥

  pub not_found : (l : List Entry) → AllWithin Other l 0 (length l) → none ≡ first_of key k value none l
  unfolding first_of
  not_found [] h = refl
  not_found (e ∷ l) h = other _ _ _ _ _ (h 0 e (omega arith) (omega arith)) (not_found l (λ i d g j. h (suc i) d (omega arith) (omega arith)))

  pub found : (l : List Entry) (x : Entry) → key x ≡ k → (i : ℕ) → i < length l → HoldsAt (λ y. y ≡ x) l i → AllWithin Other l 0 i → value x ≡ first_of key k value none l
  unfolding first_of
  found [] x h i g at before = absurd (omega arith)
  found (e ∷ l) x h zero g at before = let is : e ≡ x = at e in same _ _ _ _ _ (ap key is ∙ h) (ap value (sym is))
  found (e ∷ l) x h (suc i) g at before =
      other _ _ _ _ _ (before 0 e (omega arith) (omega arith)) (found l x h i (omega arith) at (λ j d f m. before (suc j) d (omega arith) (omega arith)))
