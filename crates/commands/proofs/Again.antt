-- Writing what was read gives the bytes back, of a packet that is `Tidy` (specs/RoundTrip.antt).
use Prim.Native.Nat.{ℕ, zero, suc, ◌+◌, ◌-◌, ◌%◌, ◌≤◌, ◌<◌}
use mathlib.Core.Path.{◌≡◌, refl, sym, ◌∙◌, subst}
use mathlib.Core.Logic.{◌⊎◌, inl, inr}
use mathlib.Core.Bool.{Bool, true, false}
use mathlib.Core.List.{List, [], ◌∷◌}
use native.Mathlib.Omega.{arith}
use borrow.Author.Tests.{le-leb, lt-leb}
use lib.Dec.{leb, ltb}
use lib.ListN.{length}
use Rattle.octets.specs.Outcome.{Outcome, accepted}
use Rattle.octets.specs.Choice.{if_eq}
use Rattle.octets.specs.Number.{at, Octets, big_at}
use Rattle.octets.specs.Reading.{needing, rest}
use Rattle.octets.proofs.Choosing.{above, same, either-eq, lt-or-le, was-above}
use Rattle.numbers.proofs.Gains.{gain-back}
use Rattle.fields.specs.Addr.{bit, width_if, wrong_length, addr_at}
use Rattle.fields.specs.Value.{value_at}
use Rattle.fields.specs.Back.{Clear}
use Rattle.fields.specs.Row.{encoded_of}
use Rattle.fields.specs.declared.row.Field.{Field}
use Rattle.fields.specs.declared.row.Field.TheVariants.{Byte, Word, Address, Coded, Payload}
use Rattle.fields.proofs.Addrs.{is-two, is-three}
use Rattle.fields.proofs.Again.{From, whole, ended, byte, word, part, unknown, floats, address, value}
use Rattle.commands.specs.Decode.{command_of, command_by, r, is_set, values_at, five_from}
use Rattle.commands.specs.Encode.{command_row, mux_byte, values_of}
use Rattle.commands.specs.RoundTrip.{Tidy}
use Rattle.commands.specs.declared.Commands.{Commands}

truth-again : (n : ℕ) → n ≤ 1 → bit (is_set n) ≡ n
truth-again zero h = refl
truth-again (suc zero) h = refl
truth-again (suc (suc n)) h = absurd (omega arith)

mux-again : (n : ℕ) → n < 256 → mux_byte (n % 128) (leb 128 n) ≡ n
mux-again n h = go (lt-or-le n 128)
  where
    go : (n < 128) ⊎ (128 ≤ n) → mux_byte (n % 128) (leb 128 n) ≡ n
    go (inl l) = rw (lt-leb 128 n l) (omega arith)
    go (inr l) = rw (le-leb 128 n l) (omega arith)

right : (wide : Bool) → wrong_length (width_if wide) ≡ false
right true = is-three 3 (λ e. omega arith) refl
right false = is-two 2 refl

module _ (p : List ℕ) (bytes : Octets p) (short : length p ≤ 254) (c : Commands) where
  abbrev Goal : Type 0
  Goal = Tidy p c → encoded_of p (command_row c (values_at p)) ≡ accepted p

  -- the command that was read, and its row
  always : (d : Commands) → accepted d ≡ accepted c → (Tidy p d → From p 0 (command_row d (values_at p))) → Goal
  always d e f =
      let same : d ≡ c = cc in
      subst (λ (c : Commands). Tidy p c → encoded_of p (command_row c (values_at p)) ≡ accepted p) same (λ t. whole p (command_row d (values_at p)) short (f t))

  given : (n : ℕ) (d : Commands) → needing n p d ≡ accepted c → (n ≤ length p → Tidy p d → From p 0 (command_row d (values_at p))) → Goal
  given n d e f = let b = was-above _ _ _ _ e in always d b.1 (f b.0)

  -- a place under another name
  from : {i j : ℕ} {fs : List Field} → i ≡ j → From p i fs → From p j fs
  from e f = rw (← e) f

  -- ---- with an address
  module _ (wide : Bool) (clear : Clear (width_if wide) p 1) where
    addressed : (fs : List Field) → width_if wide + 1 ≤ length p → From p (width_if wide + 1) fs → From p 1 (Address (addr_at (width_if wide) p 1) ∷ fs)
    addressed fs h t = address p 1 fs bytes (width_if wide) (right wide) clear (omega arith) (from (omega arith) t)

    read-row : length p ≡ width_if wide + 2 → From p 1 (Address (addr_at (width_if wide) p 1) ∷ Byte (at p (width_if wide + 1)) ∷ [])
    read-row h = addressed _ (omega arith) (byte p (width_if wide + 1) [] _ refl (omega arith) (ended p _ (omega arith)))

    write-row : width_if wide + 1 ≤ length p → From p 1 (Address (addr_at (width_if wide) p 1) ∷ Coded (value_at p (rest (width_if wide + 1) p)) ∷ [])
    write-row h = addressed _ h (value p (width_if wide + 1) [] bytes (length p - (width_if wide + 1)) (omega arith) (ended p _ (omega arith)))

    bypass-row : length p ≡ width_if wide + 1 → From p 1 (Address (addr_at (width_if wide) p 1) ∷ [])
    bypass-row h = addressed _ (omega arith) (ended p _ (omega arith))

  mux-row : Clear 2 p 1 → length p ≡ 5 → From p 1 (Address (addr_at 2 p 1) ∷ Byte (mux_byte (at p 3 % 128) (leb 128 (at p 3))) ∷ Byte (at p 4) ∷ [])
  mux-row clear h = addressed false clear _ (omega arith) (byte p 3 _ _ (mux-again (at p 3) (bytes 3)) (omega arith) (byte p 4 [] _ refl (omega arith) (ended p 5 (omega arith))))

  -- ---- with the five values
  five : (n : ℕ) → length p ≡ n + 20 → From p n (values_of (five_from n))
  five n h =
      unknown p n _ 4 (omega arith)
      (unknown p (n + 4) _ 4 (omega arith)
      (from {i = n + 8} (omega arith) (unknown p (n + 8) _ 4 (omega arith)
      (from {i = n + 12} (omega arith) (unknown p (n + 12) _ 4 (omega arith)
      (from {i = n + 16} (omega arith) (unknown p (n + 16) [] 4 (omega arith) (ended p _ (omega arith)))))))))

  biquad-row : at p 0 ≡ 0x30 → Clear (width_if (ltb 24 (r p))) p 1 → big_at 2 p (width_if (ltb 24 (r p)) + 1) ≡ 0 → length p ≡ width_if (ltb 24 (r p)) + 23
      → From p 1 (Address (addr_at (width_if (ltb 24 (r p))) p 1) ∷ Word 0 ∷ values_of (values_at p))
  unfolding values_at
  biquad-row is clear none h =
      let k : ℕ = width_if (ltb 24 (r p)) in
      let values : values_at p ≡ five_from (k + 3) = sym (above _ _ _ _ _ short (same _ _ _ _ _ is (above _ _ _ _ _ (omega arith) refl))) in
      rw values
      (addressed (ltb 24 (r p)) clear _ (omega arith) (word p (k + 1) _ bytes 0 (sym none) (omega arith) (from {i = k + 3} (omega arith) (five (k + 3) (omega arith)))))

  by_kind : (k : ℕ) → k ≡ at p 0 → 1 ≤ length p → command_by k p ≡ accepted c → Goal
  unfolding command_by addr_at
  by_kind k is some =
      kind 0x02 (λ h e. given _ _ e (λ n t. first h (read-row (leb 3 (r p)) t.1 t.0)))
      (kind 0x04 (λ h e. given _ _ e (λ n t. first h (word p 1 _ bytes _ refl n (part p 3 _ _ (omega arith) (ended p _ (omega arith))))))
      (kind 0x05 (λ h e. given _ _ e (λ n t. first h (word_byte t)))
      (kind 0x06 (λ h e. always _ e (λ t. first h behind))
      (kind 0x07 (λ h e. given _ _ e (λ n t. first h (one t refl)))
      (kind 0x12 (λ h e. always _ e (λ t. first h behind))
      (kind 0x13 (λ h e. given _ _ e (λ n t. first h (write-row (leb 7 (r p)) t n)))
      (kind 0x14 (λ h e. given _ _ e (λ n t. first h (word_byte t)))
      (kind 0x17 (λ h e. given _ _ e (λ n t. first h (one t.0 (truth-again (at p 1) t.1))))
      (kind 0x19 (λ h e. given _ _ e (λ n t. first h (bypass-row (ltb 2 (r p)) t.1 t.0)))
      (kind 0x25 (λ h e. given _ _ e (λ n t. first h (byte p 1 _ _ refl (omega arith) (byte p 2 _ _ (truth-again (at p 2) t.1) (omega arith) (ended p _ (omega arith))))))
      (kind 0x31 (λ h e. always _ e (λ t. first h (ended p 1 (omega arith))))
      (kind 0x29 (λ h e. given _ _ e (λ n t. first h (mux-row t.1 t.0)))
      (kind 0x30 (λ h e. let b = was-above _ _ _ _ (was-above _ _ _ _ e).1 in always _ b.1 (λ t. first h (biquad-row (sym is ∙ h) t.1 t.2 t.0)))
      (kind 0x34 (λ h e. given _ _ e (λ n t. first h (one t refl)))
      (kind 0x39 (λ h e. given _ _ e (λ n t. first h (one t refl)))
      (kind 0x3A (λ h e. given _ _ e (λ n t. first h (byte p 1 _ _ refl (omega arith) (floats p 2 _ _ (omega arith) (ended p _ (omega arith))))))
      (kind 0x3B (λ h e. always _ e (λ t. first h (ended p 1 (omega arith))))
      (kind 0x42 (λ h e. given _ _ e (λ n t. first h (one t (gain-back (at p 1) (bytes 1)))))
      (λ e. always _ e (λ t. first refl behind))))))))))))))))))))
    where
      G : Outcome Commands → Type 0
      G o = o ≡ accepted c → Goal

      kind : {x y : Outcome Commands} (b : ℕ) → (k ≡ b → G x) → G y → G (if_eq k b x y)
      kind b f g = either-eq G k b _ _ f (λ n. g)

      first : {fs : List Field} {b : ℕ} → k ≡ b → From p 1 fs → From p 0 (Byte b ∷ fs)
      first h t = byte p 0 _ _ (sym h ∙ is) some t

      behind : From p 1 (Payload (rest 1 p) ∷ [])
      behind = part p 1 [] (length p - 1) (omega arith) (ended p _ (omega arith))

      one : {n : ℕ} → length p ≡ 2 → n ≡ at p 1 → From p 1 (Byte n ∷ [])
      one h e = byte p 1 [] _ e (omega arith) (ended p 2 (omega arith))

      word_byte : length p ≡ 4 → From p 1 (Word (big_at 2 p 1) ∷ Byte (at p 3) ∷ [])
      word_byte h = word p 1 _ bytes _ refl (omega arith) (byte p 3 [] _ refl (omega arith) (ended p 4 (omega arith)))

pub read-written : (p : List ℕ) (c : Commands) → Octets p → command_of p ≡ accepted c → Tidy p c → encoded_of p (command_row c (values_at p)) ≡ accepted p
unfolding command_of
read-written p c bytes e =
    let short = was-above _ _ _ _ e in
    let some = was-above _ _ _ _ short.1 in
    by_kind p bytes short.0 c (at p 0) refl some.0 some.1
