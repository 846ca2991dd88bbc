-- Each test is one branch of the definition; past the end every byte is 0.
use Rattle.std.proofs.Common.{refl, arith, rules}
use Rattle.octets.proofs.Choosing.{tests, same}
use Rattle.octets.proofs.InBytes.{little-past}
use Rattle.fields.specs.Value.{value_at}
use Rattle.fields.proofs.value.Value.at.Goals as goal
use Rattle.fields.proofs.value.Value.at.Goals.{then-place-ne4-via-then-place-ne4, then-place-ne4-via-else-place-ne4+then-packet-start, then-place-ne4-via-else-place-ne4+else-packet-start+then-little16-ne0}

pub returns-then-place-ne4 : goal.returns-then-place-ne4
unfolding value_at
returns-then-place-ne4 c =
    elim c.then-place-ne4.branch [
      | then-place-ne4-via-then-place-ne4 w ↦ search tests
      | then-place-ne4-via-else-place-ne4+then-packet-start w ↦ same _ _ _ _ _ (search rules) (same _ _ _ _ _ (little-past _ 2 _ (omega arith)) (same _ _ _ _ _ (little-past _ 2 _ (omega arith)) refl))
      | then-place-ne4-via-else-place-ne4+else-packet-start+then-little16-ne0 w ↦ rw (← w.little16.ensures) (search tests)
    ]
