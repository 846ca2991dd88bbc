-- Whether one is no digit.
use Rattle.std.proofs.Common.{ℕ, nat_eq, ◌∙◌, rules}
use Rattle.std.proofs.lemmas.Iterator.{YieldsList-from_slice}
use Rattle.std.proofs.lemmas.Iterator.Search.{any_from_yields_List}
use borrow.Author.Tests.{tests}
use Rattle.text.specs.Digits.{digit_value}
use Rattle.text.proofs.Reading.{any-not-digit}
use Rattle.text.proofs.not_digits.Goals as goal

pub returns : goal.returns
returns c =
    any_from_yields_List (λ (b : ℕ). nat_eq (digit_value b) 16) _ _ _ c.any.ensures.ran (YieldsList-from_slice c.args.word.now cc) (λ x b q k. search (rules, tests))
    ∙ any-not-digit c.args.word.now
