-- The closure says of each meter on which side it is.
use Prim.Native.Nat.{◌≤◌, ◌<◌}
use borrow.Author.Rules.{rules}
use borrow.Author.Tests.{tests}
use Rattle.std.proofs.lemmas.Iterator.{cases_from_any, YieldsList-from_slice}
use Rattle.processor.proofs.Meters.{beyond-found}
use Rattle.processor.proofs.create.any_beyond.Goals as goal

pub returns : goal.returns
returns c =
    let s = c.args.settings in
    let l = c.args.meters.now in
    beyond-found s l _ (cases_from_any _ _ _ (λ a. s ≤ a) (λ a. a < s) c.any.ensures.ran (YieldsList-from_slice l cc) (λ x q k. search (rules, tests)) (λ x q k. search (rules, tests)))
