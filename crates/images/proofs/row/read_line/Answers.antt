-- Its digits are read to the buffer, and the record from there.
use Rattle.std.proofs.Common.{◌≡◌, ℕ, ◌-◌, ◌≤◌, List, [], ◌∷◌, length, take, drop, sym, ◌∙◌, arith, length-drop, refl, take_all, length-take-le, rules}
use Rattle.octets.specs.Number.{at}
use Rattle.images.proofs.OneLine.{no-colon, well-read, badly-read, line_read}
use Rattle.images.proofs.row.read_line.Goals as goal

-- a line with a colon has a byte
colon-first : (l : List ℕ) → at l 0 ≡ 58 → 1 ≤ length l
colon-first [] h = absurd (omega arith)
colon-first (b ∷ l) h = omega arith

digits_are : (l : List ℕ) → take (length l - 1) (drop 1 l) ≡ drop 1 l
digits_are l = take_all (length l - 1) (drop 1 l) (omega (arith, length-drop 1 l))

pub returns-then-byte-ne58 : goal.returns-then-byte-ne58
returns-then-byte-ne58 c = (no-colon _ (λ e. c.if-byte-ne58.true (c.byte.ensures ∙ e)), tt)

pub slice_bounds-record_of-end : goal.slice_bounds-record_of-end
slice_bounds-record_of-end c =
    let a = c.args in
    let colon = sym c.byte.ensures ∙ c.if-byte-ne58.false in
    let reading = well-read a.line.now colon a.bytes.now (search rules) _ _ (rw (digits_are a.line.now, c.in-Some.is) at c.read_pairs.ensures) in
    omega (arith, reading.room)

pub slice_bounds-record_of-end-2 : goal.slice_bounds-record_of-end-2
slice_bounds-record_of-end-2 c =
    let a = c.args in
    let colon = sym c.byte.ensures ∙ c.if-byte-ne58.false in
    let reading = well-read a.line.now colon a.bytes.now (search rules) _ _ (rw (digits_are a.line.now, c.in-Some.is) at c.read_pairs.ensures) in
    sym (length-take-le c.in-Some.n _ reading.room)

pub returns : goal.returns
returns c =
    let a = c.args in
    let colon = sym c.byte.ensures ∙ c.if-byte-ne58.false in
    let reading = well-read a.line.now colon a.bytes.now (search rules) _ _ (rw (digits_are a.line.now, c.in-Some.is) at c.read_pairs.ensures) in
    line_read a.line.now colon _ _ reading _ refl c.record_of.result c.record_of.ensures

pub returns-in_default : goal.returns-in_default
returns-in_default c =
    let a = c.args in
    let colon = sym c.byte.ensures ∙ c.if-byte-ne58.false in
    (badly-read a.line.now colon a.bytes.now (search rules) _ (rw (digits_are a.line.now, c.in_default.is) at c.read_pairs.ensures), tt)
