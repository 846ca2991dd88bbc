-- Bit 27 flipped and the wrapping difference, then its lower or its upper half as a signed number.
use Rattle.std.proofs.Common.{◌∙◌}
use Rattle.numbers.proofs.Words.{xor-flip, differs, low_half, turned-fits, high_half}
use Rattle.numbers.proofs.fixed_point.around_zero.Goals as goal

pub returns-then-difference-lt2147483648 : goal.returns-then-difference-lt2147483648
returns-then-difference-lt2147483648 c =
    let d = c.wrapping_sub_u32-difference in
    low_half d.result c.if-difference-lt2147483648.true ∙ differs _ d.result d.type_inv (d.ensures.value ∙ xor-flip _)

pub overflow_sub-result-2 : goal.overflow_sub-result-2
overflow_sub-result-2 c = let d = c.wrapping_sub_u32-difference in turned-fits d.result c.if-difference-lt2147483648.false d.type_inv

pub returns : goal.returns
returns c =
    let d = c.wrapping_sub_u32-difference in
    high_half d.result c.if-difference-lt2147483648.false d.type_inv ∙ differs _ d.result d.type_inv (d.ensures.value ∙ xor-flip _)
