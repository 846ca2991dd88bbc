-- The first entry that the search stops at, or none.
use mathlib.Core.Path.{◌≡◌}
use borrow.Author.Rules.{rules}
use Rattle.std.proofs.Common.{Some, None}
use Rattle.std.proofs.lemmas.Iterator.{first_from_find, YieldsList-from_slice}
use Rattle.facts.specs.Source.{mapping_of, source_number}
use Rattle.facts.proofs.Sources.{Other, entries_of, found, not_found, same_number, other_number}
use Rattle.facts.proofs.source.Source.to_id.Goals as goal

pub returns-in-Some : goal.returns-in-Some
returns-in-Some c =
    let l = mapping_of c.args.info.hw_id c.args.info.dsp_version in
    let e = entries_of l c.mapping-mapping.ensures c.used.ensures in
    let first = first_from_find c.find.new.self _ (Some c.in-Some.entry) (λ e. source_number e.source ≡ (source_number c.args.self)) (Other (λ e. source_number e.source) (source_number c.args.self) (λ e. e.id) 0) c.in-Some.ensures.ran (YieldsList-from_slice l cc) (λ x q h. search (rules, same_number)) (λ x q h. search (rules, other_number)) in
    found (λ e. source_number e.source) (source_number c.args.self) (λ e. e.id) 0 l c.in-Some.entry.now first.0 first.1 first.2 first.3 first.4

pub returns-in-None : goal.returns-in-None
returns-in-None c =
    let l = mapping_of c.args.info.hw_id c.args.info.dsp_version in
    let e = entries_of l c.mapping-mapping.ensures c.used.ensures in
    not_found (λ e. source_number e.source) (source_number c.args.self) (λ e. e.id) 0 l
    (first_from_find c.find.new.self _ None (λ e. source_number e.source ≡ (source_number c.args.self)) (Other (λ e. source_number e.source) (source_number c.args.self) (λ e. e.id) 0) c.in-None.ensures.ran (YieldsList-from_slice l cc) (λ x q h. search (rules, same_number)) (λ x q h. search (rules, other_number)))
