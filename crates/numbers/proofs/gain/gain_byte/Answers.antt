-- A law of proofs/Gains.antt for each branch.
use Rattle.numbers.proofs.Gains.{at-nan, at_low, at_high, at_mid, mid-fits}
use Rattle.numbers.proofs.gain.gain_byte.Goals as goal

pub returns-then-p-gt2139095040 : goal.returns-then-p-gt2139095040
returns-then-p-gt2139095040 c = at-nan _ c.if-p-gt2139095040.true

pub returns-then-p-lt1056964608 : goal.returns-then-p-lt1056964608
returns-then-p-lt1056964608 c = at_low _ c.if-p-lt1056964608.true

pub returns-then-p-ge1124073472 : goal.returns-then-p-ge1124073472
returns-then-p-ge1124073472 c = at_high _ c.if-p-gt2139095040.false c.if-p-ge1124073472.true

pub overflow_cast-result : goal.overflow_cast-result
overflow_cast-result c = record { fits = mid-fits c.args.bits c.if-p-lt1056964608.false c.if-p-ge1124073472.false }

pub returns : goal.returns
returns c = at_mid _ c.if-p-lt1056964608.false c.if-p-ge1124073472.false
