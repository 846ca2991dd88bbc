-- What it tells that a row was settled, or refused.
use Rattle.std.proofs.Common.{◌≡◌, ℕ, ◌≤◌, Bool, true, false, List, length, sym, refl, ap, ◌∙◌, arith}
use Rattle.octets.specs.Refusals.{address_length, outside, too_long}
use Rattle.octets.specs.Outcome.{Outcome, accepted, refused}
use Rattle.octets.specs.Choice.{pick, if_lt}
use Rattle.octets.specs.Over.{into}
use Rattle.octets.proofs.Choosing.{above, either_lt}
use Rattle.fields.specs.declared.row.Field.{Field}
use Rattle.fields.specs.Row.{packet_of, misaddressed, misplaced, any_of, encoded_of}
use Rattle.fields.specs.Inside.{AllWritable, encoded_length}

pub record Ready (p : List ℕ) (row : List Field) (n : ℕ) : Type 0 where
  pub sound : AllWritable p row
  pub is : encoded_of p row ≡ accepted (packet_of p row)
  pub count : n ≡ length (packet_of p row)
  pub short : n ≤ 254

clash : {A : Type 0} {n k : ℕ} → ◌≡◌ {A = Outcome ℕ} (accepted n) (refused k) → A
clash e = let z : ◌≡◌ {A = ℕ} 0 1 = cc in absurd (omega arith)

module _ (p : List ℕ) (row : List Field) where
  pub was_settled : (n : ℕ) → accepted n ≡ encoded_length (encoded_of p row) → Ready p row n
  unfolding encoded_of
  was_settled n = go (any_of misaddressed row) refl (any_of (misplaced (length p)) row) refl
    where
      go : (a : Bool) → any_of misaddressed row ≡ a → (b : Bool) → any_of (misplaced (length p)) row ≡ b
          → accepted n ≡ encoded_length (pick a (refused address_length) (pick b (refused outside) (if_lt 254 (length (packet_of p row)) (refused too_long) (accepted (packet_of p row))))) → Ready p row n
      go true i b j = λ e. clash e
      go false i true j = λ e. clash e
      go false i false j =
          either_lt (λ (o : Outcome (List ℕ)). accepted n ≡ encoded_length o → Ready p row n) 254 (length (packet_of p row)) (refused too_long) (accepted (packet_of p row))
          (λ h e. clash e)
          (λ h e. let f : n ≡ length (packet_of p row) = cc in record { sound = record { addressed = i; placed = j }; is = rw (i, j) (sym (above _ _ _ _ _ h refl)); count = f; short = omega arith })

-- where there is room, all is written
pub room-written : (w l : List ℕ) {r : Outcome ℕ} {o : List ℕ} → (r, o) ≡ into w l → length w ≤ length l → r ≡ accepted (length w)
room-written w l e h = ap (λ (p : Outcome ℕ × List ℕ). p.0) (e ∙ sym (above _ _ _ _ _ h refl))

-- what is known of a packet that was written
pub record Written (p : List ℕ) (row : List Field) (packet : List ℕ) : Type 0 where
  pub is : packet ≡ packet_of p row
  pub sound : AllWritable p row
  pub short : length packet ≤ 254

pub was-written : (p : List ℕ) (row : List Field) (packet : List ℕ) → encoded_of p row ≡ accepted packet → Written p row packet
was-written p row packet e =
    let ready = was_settled p row (length packet) (sym (ap encoded_length e)) in
    record { is = cc ready.is; sound = ready.sound; short = ready.short }
