-- A write to the EEPROM by `put_at`, under the test of its size.
use Prim.Native.Nat.{ℕ, ◌+◌, ◌%◌, ◌^◌, ◌≤◌}
use mathlib.Core.Path.{◌≡◌, ap, ◌∙◌}
use mathlib.Core.List.{List}
use native.Mathlib.Omega.{arith}
use lib.ListN.{length}
use Rattle.octets.specs.Refusals.{outside}
use Rattle.octets.specs.Outcome.{Outcome, accepted, refused, on_accepted}
use Rattle.octets.specs.Over.{into_at, over_at}
use Rattle.octets.specs.Number.{big_bytes}
use Rattle.octets.proofs.InBytes.{length-big}
use Rattle.octets.proofs.Overlay.{put-at-over, length-over-at}
use Rattle.octets.proofs.Choosing.{above, if-of}
use Rattle.facts.specs.Eeprom.{at_timestamp, at_timestamp2x4}
use Rattle.processor.specs.Calls.{write_bytes, set_timestamp}

-- how many bytes it takes is not told
abbrev uncounted : Outcome ℕ × List ℕ → Outcome Unit × List ℕ
uncounted (r, o) = (on_accepted (λ n. tt) r, o)

pub told : (a : ℕ) (bytes e : List ℕ) {r : Outcome ℕ} {o : List ℕ} → (r, o) ≡ into_at a bytes e → length e ≤ 65536 → (on_accepted (λ n. tt) r, o) ≡ write_bytes a bytes e
told a bytes e h small = above _ _ _ _ _ small (ap uncounted h ∙ if-of uncounted (length e) (a + length bytes) (refused outside, e) (accepted (length bytes), over_at a bytes e))

-- two of them, of which the first has the higher place
pub stamped : (value : ℕ) (e : List ℕ) {r q : Outcome ℕ} {o x : List ℕ} → length e ≤ 65536 → at_timestamp + 4 ≤ length e
    → (r, o) ≡ into_at at_timestamp (big_bytes 4 value) e → (q, x) ≡ into_at at_timestamp2x4 (big_bytes 2 (value % 2 ^ 16)) o → (accepted tt, x) ≡ set_timestamp value e
stamped value e {o = o} small room h g =
    let first = big_bytes 4 value in
    let second = big_bytes 2 (value % 2 ^ 16) in
    let fits : at_timestamp + length first ≤ length e = rw (length-big 4 value) room in
    let one : o ≡ over_at at_timestamp first e = put-at-over e at_timestamp first h fits in
    let long : length o ≡ length e = ap length one ∙ length-over-at e at_timestamp first fits in
    let two = put-at-over o at_timestamp2x4 second g (rw (length-big 2 (value % 2 ^ 16)) (omega arith)) in
    above _ _ _ _ _ small (above _ _ _ _ _ room (above _ _ _ _ _ (omega arith) (λ i. (accepted tt, (two ∙ ap (over_at at_timestamp2x4 second) one) i))))
