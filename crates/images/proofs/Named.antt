-- The bytes that rows name, as bits: a row is apart from others exactly if none of its bits is set.
use Rattle.std.proofs.Common.{◌≡◌, ℕ, ◌/◌, ◌%◌, ◌^◌, false, ◌⊎◌, List, [], ◌∷◌, ◌++◌, length, replicate, sym, refl, ◌∙◌, inl, inr, ⊎_elim, arith}
use mathlib.Core.List.Memᴰ
use native.Mathlib.Nat.{zero-div}
use lib.ListN.{get_or-replicate, length-replicate}
use Rattle.intel_hex.specs.Format.{HexRow, row_end, Names, ApartFrom}
use Rattle.intel_hex.specs.Faults.{Twice}
use Rattle.images.specs.Inside.{one_in, named_bit, Marked, MarksRow}
use Rattle.intel_hex.proofs.Fitting.{names-or-not, later}
use Rattle.images.proofs.Marking.{one_inside, one_outside}

module _ (r : HexRow) (i o : ℕ) where
  bit-there : Names r i → one_in r.start (row_end r) i o ≡ 1
  bit-there n = one_inside r.start (row_end r) i o n.0 n.1

  bit_kept : (Names r i → ⊥) → one_in r.start (row_end r) i o ≡ o
  bit_kept never = one_outside r.start (row_end r) i o (λ h g. never (h, g))

-- the order of two rows does not matter
swapped : (r s : HexRow) (i o : ℕ) → one_in r.start (row_end r) i (one_in s.start (row_end s) i o) ≡ one_in s.start (row_end s) i (one_in r.start (row_end r) i o)
swapped r s i o = go (names-or-not r i) (names-or-not s i)
  where
    go : Names r i ⊎ (Names r i → ⊥) → Names s i ⊎ (Names s i → ⊥) → one_in r.start (row_end r) i (one_in s.start (row_end s) i o) ≡ one_in s.start (row_end s) i (one_in r.start (row_end r) i o)
    go (inl h) (inl g) = bit-there r i _ h ∙ sym (bit-there s i _ g)
    go (inl h) (inr g) = bit-there r i _ h ∙ sym (bit_kept s i _ g ∙ bit-there r i o h)
    go (inr h) (inl g) = bit_kept r i _ h ∙ bit-there s i o g ∙ sym (bit-there s i _ g)
    go (inr h) (inr g) = bit_kept r i _ h ∙ bit_kept s i o g ∙ sym (bit_kept s i _ g ∙ bit_kept r i o h)

pub named_more : (rows : List HexRow) (r : HexRow) (i : ℕ) → named_bit (rows ++ (r ∷ [])) i ≡ one_in r.start (row_end r) i (named_bit rows i)
unfolding named_bit
named_more [] r i = refl
named_more (s ∷ rows) r i = rw (named_more rows r i) (swapped s r i (named_bit rows i))

-- a bit that is 0 is no row's, and one that is 1 is some row's
not_named : (rows : List HexRow) (r s : HexRow) → ((i : ℕ) → Names r i → named_bit (s ∷ rows) i ≡ 0) → (i : ℕ) → Names s i → Names r i → ⊥
unfolding named_bit
not_named rows r s clear i there here = omega (arith, bit-there s i (named_bit rows i) there, clear i here)

clear-rest : (rows : List HexRow) (r s : HexRow) → ((i : ℕ) → Names r i → named_bit (s ∷ rows) i ≡ 0) → (i : ℕ) → Names r i → named_bit rows i ≡ 0
unfolding named_bit
clear-rest rows r s clear i here = go (names-or-not s i)
  where
    go : Names s i ⊎ (Names s i → ⊥) → named_bit rows i ≡ 0
    go (inl there) = absurd (not_named rows r s clear i there here)
    go (inr not) = sym (bit_kept s i (named_bit rows i) not) ∙ clear i here

pub clear_apart : (rows : List HexRow) (r : HexRow) → ((i : ℕ) → Names r i → named_bit rows i ≡ 0) → ApartFrom r rows
clear_apart [] r clear = tt
clear_apart (s ∷ rows) r clear = (not_named rows r s clear, clear_apart rows r (clear-rest rows r s clear))

pub set_twice : (rows : List HexRow) (r : HexRow) (i : ℕ) → Names r i → named_bit rows i ≡ 1 → Twice r rows
unfolding named_bit
set_twice [] r i here set = absurd (omega arith)
set_twice (s ∷ rows) r i here set =
    ⊎_elim
    (λ there. record { row = s; among = Memᴰ.head refl; byte = i; there = there; here = here })
    (λ not. later r s rows (set_twice rows r i here (sym (bit_kept s i (named_bit rows i) not) ∙ set)))
    (names-or-not s i)

-- ---- marks
-- none at first
pub unmarked : (marks : List ℕ) → marks ≡ replicate 8192 0 → Marked marks []
unfolding named_bit
unmarked marks h =
    (rw h (length-replicate {A = ℕ} 8192 0), λ i small. rw (h, get_or-replicate {A = ℕ} 8192 (i / 8) 0 0 (omega arith)) (rw (zero-div (2 ^ (i % 8)))))

-- those of one row more
pub one-more-marked : (rows : List HexRow) (r : HexRow) (before after : List ℕ) → Marked before rows → MarksRow r.start (length r.bytes) before after false → Marked after (rows ++ (r ∷ []))
one-more-marked rows r before after marked h = (h.1 ∙ marked.0, λ i small. h.2 i ∙ rw (marked.1 i small) (sym (named_more rows r i)))
