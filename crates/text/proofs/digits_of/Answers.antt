-- Each turn sets the last digit of what is left before those that stand there.
use Rattle.std.proofs.Common.{◌+◌, ◌-◌, ◌/◌, ◌%◌, [], ◌∷◌, drop, length, ap, ◌∙◌, append_assoc, append-nil, arith, length-set, length-append, length-drop, drop_of_length-le, take_all}
use Rattle.text.specs.Digits.{decimal}
use Rattle.text.proofs.Digits.{decimal-length, decimal-short, decimal-snoc, decimal-one, set_before}
use Rattle.text.proofs.digits_of.Goals as goal

pub loop-rest-init : goal.loop-rest-init
loop-rest-init c =
    (c.told-bytes, omega arith, decimal-short 19 c.args.n (omega arith), rw (drop_of_length-le c.args.bytes.now {i = 20} (omega arith), append-nil))

pub overflow_sub-start : goal.overflow_sub-start
overflow_sub-start c = omega (arith, decimal-length c.loop-rest.rest)

pub loop-rest-preserved : goal.loop-rest-preserved
loop-rest-preserved c =
    let l = c.loop-rest in
    let snoc = decimal-snoc l.rest (omega (arith, c.if-rest-eq0.false)) in (
      simp length-set l.invariant.0,
      omega arith,
      omega (arith, simp length-append at (ap length snoc)),
      rw (set_before l.bytes l.start (48 + l.rest % 10) (omega (arith, decimal-length l.rest)) (omega arith), ← append_assoc (decimal (l.rest / 10)) ((48 + l.rest % 10) ∷ []) (drop l.start l.bytes), ← snoc) l.invariant.3,
    )

pub returns-then-rest-eq0 : goal.returns-then-rest-eq0
returns-then-rest-eq0 c =
    let l = c.loop-rest in
    let one = decimal-one l.rest c.if-rest-eq0.true in
    let set = set_before l.bytes l.start (48 + l.rest % 10) (omega (arith, decimal-length l.rest)) (omega arith) in
    take_all (20 - (l.start - 1)) _ (simp (length-drop, length-set) (omega arith)) ∙ rw set (rw one at l.invariant.3)
