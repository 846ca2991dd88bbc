-- The answer of the replay, as a number.
use Rattle.std.proofs.Common.{◌≡◌, refl, ap, ◌∙◌}
use Rattle.octets.specs.Outcome.{Outcome, accepted, refused, on_accepted}
use Rattle.exports.specs.Answer.{number_of, in_number}
use Rattle.exports.proofs.wovenpike_replay.Goals as goal

no_more : (o : Outcome Unit) → number_of (on_accepted (λ value. tt) o) ≡ number_of o
no_more (accepted value) = refl
no_more (refused k) = refl

pub returns : goal.returns
returns c = rw (c.number_of.ensures, no_more) (ap in_number c.replay.ensures)
