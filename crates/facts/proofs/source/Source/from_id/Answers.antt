-- The first entry that the search stops at, or none.
use mathlib.Core.Path.{◌≡◌}
use borrow.Author.Rules.{rules}
use borrow.Author.Tests.{tests}
use Rattle.std.proofs.Common.{Some, None}
use Rattle.std.proofs.lemmas.Iterator.{first_from_find, YieldsList-from_slice}
use Rattle.facts.specs.Source.{mapping_of}
use Rattle.facts.specs.declared.source.Source.TheVariants.{NotInstalled}
use Rattle.facts.proofs.Sources.{Other, entries_of, found, not_found}
use Rattle.facts.proofs.source.Source.from_id.Goals as goal

pub returns-in-Some : goal.returns-in-Some
returns-in-Some c =
    let l = mapping_of c.args.info.hw_id c.args.info.dsp_version in
    let e = entries_of l c.mapping-mapping.ensures c.used.ensures in
    let first = first_from_find c.find.new.self _ (Some c.in-Some.entry) (λ e. e.id ≡ c.args.id) (Other (λ e. e.id) c.args.id (λ e. e.source) NotInstalled) c.in-Some.ensures.ran (YieldsList-from_slice l cc) (λ x q h. search (rules, tests)) (λ x q h. search (rules, tests)) in
    found (λ e. e.id) c.args.id (λ e. e.source) NotInstalled l c.in-Some.entry.now first.0 first.1 first.2 first.3 first.4

pub returns-in-None : goal.returns-in-None
returns-in-None c =
    let l = mapping_of c.args.info.hw_id c.args.info.dsp_version in
    let e = entries_of l c.mapping-mapping.ensures c.used.ensures in
    not_found (λ e. e.id) c.args.id (λ e. e.source) NotInstalled l
    (first_from_find c.find.new.self _ None (λ e. e.id ≡ c.args.id) (Other (λ e. e.id) c.args.id (λ e. e.source) NotInstalled) c.in-None.ensures.ran (YieldsList-from_slice l cc) (λ x q h. search (rules, tests)) (λ x q h. search (rules, tests)))
