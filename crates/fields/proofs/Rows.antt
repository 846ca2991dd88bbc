-- Laws of rows: what a loop over a row finds, field by field.
use Rattle.std.proofs.Common.{◌≡◌, ℕ, zero, suc, ◌+◌, ◌-◌, ◌<◌, ◌≤◌, Bool, true, false, ◌||◌, List, [], ◌∷◌, ◌++◌, length, get_or, take, drop, sym, refl, ◌∙◌, true≢false, append_assoc, append-nil, le_of_suc-le-suc, add-one, arith, length-append, take-append-drop, take_all, take-suc}
use Rattle.std.specs.List.{list_any}
use Rattle.octets.specs.Choice.{pick}
use Rattle.octets.specs.Place.{place_at, part_of}
use Rattle.octets.proofs.Parts.{part-between}
use Rattle.fields.specs.declared.row.Field.{Field}
use Rattle.fields.specs.declared.row.Field.TheVariants.{Nothing}
use Rattle.fields.specs.Row.{field_bytes, packet_of, misaddressed, misplaced, any_of, encoded_of, nothings, padded}
use Rattle.fields.specs.Inside.{Writable, AllWritable}

-- ---- is there any
neither : (a b : Bool) → pick a true b ≡ false → (a ≡ false) × (b ≡ false)
neither true b e = absurd (true≢false e)
neither false b e = (refl, e)

module _ (test : Field → Bool) where
  -- as the library has it
  pub any_row : (row : List Field) → any_of test row ≡ list_any test row
  unfolding any_of
  any_row [] = refl
  any_row (f ∷ fs) = either (test f) (any_row fs)
    where
      either : {x y : Bool} (b : Bool) → x ≡ y → pick b true x ≡ (b || y)
      either true e = refl
      either false e = e

  none-at : (row : List Field) (i : ℕ) → any_of test row ≡ false → i < length row → test (get_or row i Nothing) ≡ false
  unfolding any_of
  none-at [] i e h = absurd (omega arith)
  none-at (f ∷ fs) zero e h = (neither (test f) (any_of test fs) e).0
  none-at (f ∷ fs) (suc i) e h = none-at fs i (neither (test f) (any_of test fs) e).1 (le_of_suc-le-suc h)

pub sound-at : (p : List ℕ) (row : List Field) (i : ℕ) → AllWritable p row → i < length row → Writable p (get_or row i Nothing)
sound-at p row i s h =
    record {
      addressed = none-at misaddressed row i s.addressed h;
      placed = none-at (misplaced (length p)) row i s.placed h;
    }

-- a field of a writable row
module _ (test : Field → Bool) (f : Field) (after : List Field) where
  none_of : (before : List Field) → any_of test (before ++ (f ∷ after)) ≡ false → test f ≡ false
  unfolding any_of
  none_of [] e = (neither (test f) (any_of test after) e).0
  none_of (g ∷ gs) e = none_of gs (neither (test g) (any_of test (gs ++ (f ∷ after))) e).1

pub sound-of : (p : List ℕ) (before : List Field) (f : Field) (after : List Field) → AllWritable p (before ++ (f ∷ after)) → Writable p f
sound-of p before f after s =
    record { addressed = none_of misaddressed f after before s.addressed; placed = none_of (misplaced (length p)) f after before s.placed }

-- ---- the packet of a row
module _ (p : List ℕ) where
  pub packet-append : (a b : List Field) → packet_of p (a ++ b) ≡ packet_of p a ++ packet_of p b
  unfolding packet_of
  packet-append [] b = refl
  packet-append (f ∷ fs) b = rw (packet-append fs b, append_assoc)

  -- where a field's bytes stand
  pub stands : (before after : List Field) (f : Field) (n m : ℕ) → n ≡ length (packet_of p before) → m ≡ length (field_bytes p f) → part_of (packet_of p (before ++ (f ∷ after))) (place_at n m) ≡ field_bytes p f
  unfolding packet_of
  stands before after f n m h g = rw packet-append (part-between (packet_of p before) (field_bytes p f) (packet_of p after) n m h g)

  -- one field more
  pub packet-more : (row : List Field) (i : ℕ) → i < length row → packet_of p (take (i + 1) row) ≡ packet_of p (take i row) ++ field_bytes p (get_or row i Nothing)
  unfolding packet_of
  packet-more row i h = rw (add-one, take-suc row i Nothing h, packet-append, append-nil)

  pub packet-all : (row : List Field) (i : ℕ) → length row ≤ i → packet_of p (take i row) ≡ packet_of p row
  packet-all row i h = rw (take_all i row h)

  pub packet-length : (row : List Field) (i : ℕ) → i < length row → length (packet_of p (take (i + 1) row)) ≡ length (packet_of p (take i row)) + length (field_bytes p (get_or row i Nothing))
  packet-length row i h = rw (packet-more row i h, length-append)

  pub packet-prefix : (row : List Field) (i : ℕ) → length (packet_of p (take i row)) ≤ length (packet_of p row)
  packet-prefix row i =
      let whole : length (packet_of p (take i row)) + length (packet_of p (drop i row)) ≡ length (packet_of p row) = sym (length-append (packet_of p (take i row)) (packet_of p (drop i row))) ∙ rw (← packet-append, take-append-drop) in
      omega arith

  -- the next field ends within the packet
  pub next-ends : (row : List Field) (i : ℕ) → i < length row → length (packet_of p (take i row)) + length (field_bytes p (get_or row i Nothing)) ≤ length (packet_of p row)
  next-ends row i h = rw (← packet-length row i h) (packet-prefix row (i + 1))

  -- what is Nothing takes no byte
  packet-nothings : (k : ℕ) → packet_of p (nothings k) ≡ []
  unfolding packet_of nothings
  packet-nothings zero = refl
  packet-nothings (suc k) = packet-nothings k

-- and asks for no refusal
module _ (test : Field → Bool) (fine : test Nothing ≡ false) where
  any_append : (a b : List Field) → any_of test b ≡ false → any_of test (a ++ b) ≡ any_of test a
  unfolding any_of
  any_append [] b e = e
  any_append (f ∷ fs) b e = rw (any_append fs b e)

  any-nothings : (k : ℕ) → any_of test (nothings k) ≡ false
  unfolding any_of nothings
  any-nothings zero = refl
  any-nothings (suc k) = rw (fine, any-nothings k)

pub encoded_padded : (p : List ℕ) (row : List Field) → encoded_of p (padded row) ≡ encoded_of p row
unfolding encoded_of padded
encoded_padded p row =
    let rest = nothings (8 - length row) in
    rw (any_append misaddressed refl row rest (any-nothings misaddressed refl _), any_append (misplaced (length p)) refl row rest (any-nothings (misplaced (length p)) refl _), packet-append, packet-nothings, append-nil)
