-- A place within the payload, four bytes, and a word within the settings.
use native.Mathlib.Omega.{arith}
use Prim.Native.Nat.{ℕ}
use mathlib.Core.Path.{◌≡◌, refl, sym, ◌∙◌}
use mathlib.Core.Bool.{Bool, true, false}
use mathlib.Core.List.{List}
use lib.Dec.{eqb}
use lib.ListN.{length}
use borrow.Author.Tests.{eqb-true, eqb-false}
use Rattle.octets.proofs.Choosing.{below, above, same, other}
use Rattle.fields.specs.Value.{value_bytes, value_outside}
use Rattle.fields.specs.declared.value.Value.{Value}
use Rattle.device.proofs.effect.write_word.Goals as goal

-- what the two tests tell of the value
module _ (v : Value) (p : List ℕ) {out four : Bool} (o : out ≡ value_outside v (length p)) (n : out ≡ false)
    (f : (p : List ℕ) → value_outside v (length p) ≡ false → four ≡ eqb (length (value_bytes v p)) 4) where
  inside : value_outside v (length p) ≡ false
  inside = sym o ∙ n

  is-four : four ≡ true → length (value_bytes v p) ≡ 4
  is-four t = eqb-true _ _ (sym (f p inside) ∙ t)

  not-four : four ≡ false → length (value_bytes v p) ≡ 4 → ⊥
  not-four t = eqb-false _ _ (sym (f p inside) ∙ t)

pub returns-then-is_outside : goal.returns-then-is_outside
returns-then-is_outside c = (rw (← c.is_outside.ensures, c.if-is_outside.true), omega arith)

pub returns-then-s-addr : goal.returns-then-s-addr
returns-then-s-addr c = (rw (inside c.args.value c.args.payload.now c.is_outside.ensures c.if-is_outside.false c.is_four.ensures) (same _ _ _ _ _ (is-four c.args.value c.args.payload.now c.is_outside.ensures c.if-is_outside.false c.is_four.ensures c.if-is_four.true) (above _ _ _ _ _ c.if-s-addr.true refl)), omega arith)

pub word_of-word-requires : goal.word_of-word-requires
word_of-word-requires c = (inside c.args.value c.args.payload.now c.is_outside.ensures c.if-is_outside.false c.is_four.ensures, is-four c.args.value c.args.payload.now c.is_outside.ensures c.if-is_outside.false c.is_four.ensures c.if-is_four.true)

pub returns-then-is_four : goal.returns-then-is_four
returns-then-is_four c = (rw (inside c.args.value c.args.payload.now c.is_outside.ensures c.if-is_outside.false c.is_four.ensures, c.word_of-word.ensures) (same _ _ _ _ _ (is-four c.args.value c.args.payload.now c.is_outside.ensures c.if-is_outside.false c.is_four.ensures c.if-is_four.true) (below _ _ _ _ _ c.if-s-addr.false refl)), omega arith)

pub returns : goal.returns
returns c = rw c.tells.ensures (rw (inside c.args.value c.args.payload.now c.is_outside.ensures c.if-is_outside.false c.is_four.ensures) (other _ _ _ _ _ (not-four c.args.value c.args.payload.now c.is_outside.ensures c.if-is_outside.false c.is_four.ensures c.if-is_four.false) refl), omega arith)
