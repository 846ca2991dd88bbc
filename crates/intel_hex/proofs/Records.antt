-- A record's bytes: the row that they hold, or the end record, or what is wrong with them.
use Prim.Native.Nat.{ℕ, zero, suc, ◌+◌, ◌<◌}
use mathlib.Core.Path.{◌≡◌, refl, sym, ap, ◌∙◌, subst}
use mathlib.Core.Logic.{◌⊎◌, inl, inr}
use mathlib.Core.Option.{Option, none, some}
use mathlib.Core.List.{List, [], ◌∷◌, ◌++◌}
use native.Mathlib.Nat.{mod-lt}
use native.Mathlib.Omega.{arith}
use lib.Dec.{lit<}
use lib.ListN.{length, take, length-append}
use lib.Seq.{take-suc, take_all, take_at, length-take-le}
use Rattle.octets.specs.Refusals.{malformed, record_checksum}
use Rattle.octets.specs.Outcome.{Outcome, accepted, refused}
use Rattle.octets.specs.Choice.{if_lt, if_eq}
use Rattle.octets.specs.Number.{at, Octets, big_at, big_bytes}
use Rattle.octets.specs.Place.{place_at, part_of}
use Rattle.octets.proofs.Choosing.{above, same, other, either_lt, either-eq, missed, matched, accepted-refused, was-above, was-same}
use Rattle.octets.proofs.Outcomes.{same-value}
use Rattle.octets.proofs.InBytes.{big-behind, big-back, big_lt, big-again}
use Rattle.octets.proofs.Bytes.{no-octets, one_more, both-octets, part-octets}
use Rattle.packet.specs.Frame.{total, checksum_of}
use Rattle.packet.proofs.Frames.{total-append}
use Rattle.intel_hex.specs.Format.{HexRow, hex_row, Sayable, record_of, with_sum, complement, closed_record}
use Rattle.intel_hex.specs.Reading.{end_in, data_in, record_in}

-- ---- sums
-- one byte more makes it 0, and no other does
module _ (l : List ℕ) where
  pub closes : checksum_of (l ++ (complement (checksum_of l) ∷ [])) ≡ 0
  unfolding total
  closes = rw total-append (omega arith)

  pub closing : (c : ℕ) → c < 256 → checksum_of (l ++ (c ∷ [])) ≡ 0 → c ≡ complement (checksum_of l)
  unfolding total
  closing c h e = let f = rw total-append at e in omega arith

-- ---- records
pub record-octets : (r : HexRow) (c : ℕ) → Sayable r → c < 256 → Octets (with_sum r c)
unfolding big_bytes
record-octets r c says h zero = says.1
record-octets r c says h (suc zero) = mod-lt _ (lit< tt)
record-octets r c says h (suc (suc zero)) = mod-lt _ (lit< tt)
record-octets r c says h (suc (suc (suc zero))) = lit< tt
record-octets r c says h (suc (suc (suc (suc i)))) = both-octets r.bytes (c ∷ []) says.0 (one_more c [] h no-octets) i

-- the row that a record's bytes hold, whatever their sum
abbrev pub row_in : List ℕ → HexRow
row_in bytes = hex_row (big_at 2 bytes 1) (part_of bytes (place_at 4 (at bytes 0)))

pub record Holds (bytes : List ℕ) (r : HexRow) : Type 0 where
  pub sum : ℕ
  pub whole : bytes ≡ with_sum r sum
  pub small : sum < 256
  pub says : Sayable r

pub holds : (bytes : List ℕ) → Octets bytes → at bytes 0 + 5 ≡ length bytes → at bytes 3 ≡ 0 → Holds bytes (row_in bytes)
unfolding part_of
holds [] octets long type = absurd (omega arith)
holds (n ∷ []) octets long type = absurd (omega arith)
holds (n ∷ a ∷ []) octets long type = absurd (omega arith)
holds (n ∷ a ∷ b ∷ []) octets long type = absurd (omega arith)
holds (n ∷ a ∷ b ∷ t ∷ l) octets long type =
    let bytes : List ℕ = n ∷ a ∷ b ∷ t ∷ l in
    let count : length (take n l) ≡ n = length-take-le n l (omega arith) in
    let behind : l ≡ take n l ++ (at l n ∷ []) = sym (take_all (suc n) l (omega arith)) ∙ take-suc l n 0 (omega arith) in
    let small : n < 256 = octets 0 in
    record {
      sum = at l n;
      whole = rw (count, big-again bytes octets 2 1 (omega arith), type) (ap (λ (k : List ℕ). n ∷ a ∷ b ∷ 0 ∷ k) behind);
      small = octets (suc (suc (suc (suc n))));
      says = (part-octets l (place_at 0 n) (λ i. octets (suc (suc (suc (suc i))))), omega arith, big_lt bytes octets 2 1);
    }

-- and what is read of the bytes of a record
module _ (r : HexRow) (c : ℕ) (says : Sayable r) where
  row_read : row_in (with_sum r c) ≡ r
  unfolding part_of big_bytes
  row_read =
      let l : List ℕ = r.bytes ++ (c ∷ []) in
      let start : big_at 2 (with_sum r c) 1 ≡ r.start = big-behind (length r.bytes ∷ []) (big_bytes 2 r.start ++ (0 ∷ l)) 2 0 ∙ big-back 2 r.start (0 ∷ l) ∙ omega arith in
      let bytes : take (length r.bytes) l ≡ r.bytes = take_at r.bytes (c ∷ []) (length r.bytes) refl in
      λ i. hex_row (start i) (bytes i)

  pub record-read : record_in (with_sum r c) ≡ if_eq (checksum_of (with_sum r c)) 0 (accepted (some r)) (refused record_checksum)
  unfolding record_in big_bytes
  record-read =
      let long : length (r.bytes ++ (c ∷ [])) ≡ length r.bytes + 1 = length-append r.bytes (c ∷ []) in
      sym (above _ _ _ _ _ (omega arith) (same _ _ _ _ _ (omega arith) (other _ _ _ _ _ (λ e. omega arith) (same _ _ _ _ _ refl (rw row_read)))))

pub row-of-record : (bytes : List ℕ) (r : HexRow) → Octets bytes → record_in bytes ≡ accepted (some r) → (bytes ≡ closed_record r) × Sayable r
unfolding record_in
row-of-record bytes r octets e =
    let long = was-above _ _ _ _ e in
    let count = was-same _ _ _ _ long.1 in
    let type = missed _ _ _ _ _ (λ f. no_row f) count.1 in
    let kind = was-same _ _ _ _ type.1 in
    let sum = was-same _ _ _ _ kind.1 in
    let is : row_in bytes ≡ r = cc (same-value sum.1) in
    go (subst (Holds bytes) is (holds bytes octets count.0 kind.0)) sum.0
  where
    no_row : end_in bytes ≡ accepted (some r) → ⊥
    no_row f =
        let g : accepted none ≡ accepted (some r) = (was-same _ _ _ _ (was-same _ _ _ _ f).1).1 in
        let z : ◌≡◌ {A = ℕ} 0 1 = cc in omega arith

    go : Holds bytes r → checksum_of bytes ≡ 0 → (bytes ≡ closed_record r) × Sayable r
    go p f = (p.whole ∙ ap (with_sum r) (closing (record_of r) p.sum p.small (rw p.whole at f)), p.says)

-- ---- the end record
abbrev pub end_bytes : List ℕ
end_bytes = 0 ∷ 0 ∷ 0 ∷ 1 ∷ 255 ∷ []

pub end_read : record_in end_bytes ≡ accepted none
unfolding record_in big_at if_lt if_eq
end_read = refl

end-bytes : (bytes : List ℕ) → at bytes 0 + 5 ≡ length bytes → at bytes 3 ≡ 1 → big_at 3 bytes 0 ≡ 0 → at bytes 4 ≡ 255 → bytes ≡ end_bytes
unfolding big_at
end-bytes [] long type zeros sum = absurd (omega arith)
end-bytes (n ∷ []) long type zeros sum = absurd (omega arith)
end-bytes (n ∷ a ∷ []) long type zeros sum = absurd (omega arith)
end-bytes (n ∷ a ∷ b ∷ []) long type zeros sum = absurd (omega arith)
end-bytes (n ∷ a ∷ b ∷ t ∷ []) long type zeros sum = absurd (omega arith)
end-bytes (n ∷ a ∷ b ∷ t ∷ c ∷ x ∷ l) long type zeros sum = absurd (omega arith)
end-bytes (n ∷ a ∷ b ∷ t ∷ c ∷ []) long type zeros sum =
    let count : n ≡ 0 = omega arith in
    let high : a ≡ 0 = omega arith in
    let low : b ≡ 0 = omega arith in
    rw (count, high, low, type, sum)

pub end-of-record : (bytes : List ℕ) → record_in bytes ≡ accepted none → bytes ≡ end_bytes
unfolding record_in
end-of-record bytes e =
    let count = was-same _ _ _ _ (was-above _ _ _ _ e).1 in
    let type = matched _ _ _ _ _ (λ f. no_end f) count.1 in
    let zeros = was-same _ _ _ _ type.1 in
    end-bytes bytes count.0 type.0 zeros.0 (was-same _ _ _ _ zeros.1).0
  where
    no_end : data_in bytes ≡ accepted none → ⊥
    no_end f =
        let g : accepted (some (row_in bytes)) ≡ accepted none = (was-same _ _ _ _ (was-same _ _ _ _ f).1).1 in
        let z : ◌≡◌ {A = ℕ} 0 1 = cc in omega arith

-- ---- what is refused
-- with 17 a data record, whatever its sum
pub record-fault : (bytes : List ℕ) (k : ℕ) → record_in bytes ≡ refused k → (k ≡ malformed) ⊎ ((k ≡ record_checksum) × (at bytes 0 + 5 ≡ length bytes) × (at bytes 3 ≡ 0))
unfolding record_in
record-fault bytes k =
    either_lt P _ _ _ _ (λ h. bad)
    (λ h. either-eq P _ _ _ _ (λ count. either-eq P _ _ _ _ (λ t. end)
    (λ t. either-eq P _ _ _ _ (λ type. either-eq P _ _ _ _ (λ s e. absurd (accepted-refused e)) (λ s e. inr (cc, count, type)))
    (λ n. bad))) (λ n. bad))
  where
    P : Outcome (Option HexRow) → Type 0
    P o = o ≡ refused k → (k ≡ malformed) ⊎ ((k ≡ record_checksum) × (at bytes 0 + 5 ≡ length bytes) × (at bytes 3 ≡ 0))

    bad : P (refused malformed)
    bad e = inl (cc)

    end : P (end_in bytes)
    end = either-eq P _ _ _ _ (λ z. either-eq P _ _ _ _ (λ c e. absurd (accepted-refused e)) (λ c. bad)) (λ z. bad)
