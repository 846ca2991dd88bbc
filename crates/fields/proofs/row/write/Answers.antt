-- What was settled tells that the row can be written, and how long it is.
use Rattle.std.proofs.Common.{refl, arith, rules}
use Rattle.octets.proofs.Choosing.{below}
use Rattle.fields.proofs.Settled.{Ready, was_settled}
use Rattle.fields.proofs.row.write.Goals as goal
use Rattle.fields.proofs.row.write.Goals.{In_ok-n}

ready : (c : In_ok-n) → Ready c.args.payload.now c.args.row c.in_ok-n.n
ready c = was_settled _ _ _ c.in_ok-n.ensures

pub returns-then-out-n : goal.returns-then-out-n
returns-then-out-n c = let r = ready (goal.at.returns-then-out-n c).In_ok-n in rw r.is (below _ _ _ _ _ (omega (arith, r.count)) refl)

pub put_row-requires : goal.put_row-requires
put_row-requires c = let r = ready (goal.at.put_row-requires c).In_ok-n in record {
  all_writable = r.sound;
  row_len_bound = omega (arith, r.count, r.short);
  row_in_bounds = omega (arith, r.count);
}

pub returns : goal.returns
returns c = rw (ready (goal.at.returns c).In_ok-n).is (search rules)
