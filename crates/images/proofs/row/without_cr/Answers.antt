-- What stands before the CR, where there is one.
use Rattle.std.proofs.Common.{◌≡◌, ℕ, List, [], ◌∷◌, ◌++◌, Option, None, Some, Bor, MatchOption, sym, ap, ◌∙◌}
use Rattle.std.specs.Option.{unwrap_or}
use Rattle.std.proofs.lemmas.Bool.Decides.{Decides-eqb}
use Rattle.std.proofs.lemmas.Slice.Eq.{strip_suffix_is}
use Rattle.intel_hex.specs.Reading.{without_cr}
use Rattle.intel_hex.proofs.Cut.{cr-cut, cr-kept}
use Rattle.images.proofs.row.without_cr.Goals as goal

stripped : (l : Bor (List ℕ)) (r : Option (Bor (List ℕ))) → MatchOption r ((front : List ℕ) → l.now ≡ front ++ (13 ∷ []) → ⊥) (λ x. l.now ≡ x.now ++ (13 ∷ [])) → (unwrap_or r l).now ≡ without_cr l.now
stripped l None h = sym (cr-kept l.now h)
stripped l (Some x) h = sym (ap without_cr h ∙ cr-cut x.now)

pub returns : goal.returns
returns c =
    ap (λ (b : Bor (List ℕ)). b.now) c.unwrap_or.ensures
    ∙ stripped c.args.line c.strip_suffix.result (strip_suffix_is Decides-eqb c.args.line.now (13 ∷ []) c.strip_suffix.result c.strip_suffix.ensures.cases)
