-- The first other, where there is one.
use Rattle.std.proofs.Common.{ℕ, nat_eq, not, rules}
use Rattle.std.proofs.lemmas.Iterator.{YieldsList-from_slice}
use Rattle.std.proofs.lemmas.Iterator.Search.{position_from_yields_List}
use borrow.Author.Tests.{tests}
use Rattle.text.proofs.Reading.{run-found}
use Rattle.text.proofs.run.Goals as goal

pub returns : goal.returns
returns c =
    let found = position_from_yields_List (λ (b : ℕ). not (nat_eq b c.args.byte)) _ _ c.position.result c.position.ensures.ran (YieldsList-from_slice c.args.text.now cc) (λ x b q k. search (rules, tests)) in
    run-found c.args.byte c.args.text.now _ _ c.unwrap_or.ensures found
