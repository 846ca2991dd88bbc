-- As in `read_at`, where what is outside is refused.
use Rattle.std.proofs.Common.{◌≡◌, refl, ap, sym, ◌∙◌, arith}
use Rattle.std.specs.Option.{option_map}
use Rattle.std.proofs.lemmas.Result.{err_from_is_err_and}
use Rattle.octets.specs.declared.refusal.Refusal.TheVariants.{Outside}
use Rattle.octets.proofs.Choosing.{below, above}
use Rattle.octets.proofs.Parts.{found-outside, found_inside}
use Rattle.views.specs.Reading.{bits_at, or_outside}
use Rattle.views.proofs.Found.{found-held}
use Rattle.views.proofs.floats.FloatView.get.Goals as goal

pub returns-then-is_outside : goal.returns-then-is_outside
unfolding bits_at
returns-then-is_outside c = ap or_outside (ap (option_map _) (below _ _ _ _ _ (found-outside _ _ c.is_outside.ensures c.if-is_outside.true) refl))

pub overflow_mul-place : goal.overflow_mul-place
overflow_mul-place c =
    let found = sym c.in_ok-place.ensures.ok_part ∙ c.view_part.ensures in
    record { fits = omega (arith, found-held _ _ _ _ _ _ c.is_outside.ensures c.if-is_outside.false found) }

pub overflow_add-self : goal.overflow_add-self
overflow_add-self c =
    let found = sym c.in_ok-place.ensures.ok_part ∙ c.view_part.ensures in
    record { fits = omega (arith, found-held _ _ _ _ _ _ c.is_outside.ensures c.if-is_outside.false found) }

pub returns-in_err-place : goal.returns-in_err-place
unfolding bits_at
returns-in_err-place c =
    let h = found_inside _ _ c.is_outside.ensures c.if-is_outside.false in
    let none = c.in_err-place.ensures.ok_part in
    let value = rw none at c.in_err-place.ensures.value in
    let refusal : c.in_err-place.field-0.0 ≡ Outside = cc in
    let p = err_from_is_err_and c.from_residual.result c.from_residual.ensures.1 in
    rw (p.1, p.2, refusal) (ap or_outside (ap (option_map _) (above _ _ _ _ _ h (sym none ∙ c.view_part.ensures))))

pub returns : goal.returns
unfolding bits_at
returns c =
    let h = found_inside _ _ c.is_outside.ensures c.if-is_outside.false in
    let found = sym c.in_ok-place.ensures.ok_part ∙ c.view_part.ensures in
    rw c.little32.ensures (ap or_outside (ap (option_map _) (above _ _ _ _ _ h found)))
