-- Two or three bytes of the masked value with the top bit, or the refusal.
use Rattle.std.proofs.Common.{arith, rules}
use Rattle.fields.proofs.Addrs.{is-two, is-three, is-wrong, addr-bytes}
use Rattle.fields.proofs.addr.Addr.put.Goals as goal

pub returns-in-2 : goal.returns-in-2
returns-in-2 c =
    rw (is-two _ c.in-2.is, addr-bytes c.args.self 2 c.in-2.is) (rw (c.big_bytes.ensures, c.top.ensures.0) at c.copy.ensures)

pub returns-in-3 : goal.returns-in-3
returns-in-3 c =
    rw (is-three _ (λ e. omega arith) c.in-3.is, addr-bytes c.args.self 3 c.in-3.is) (rw (c.big_bytes-in-3.ensures, c.top-in-3.ensures.0) at c.copy-in-3.ensures)

pub returns-in_default-clause-out_after : goal.returns-in_default-clause-out_after
returns-in_default-clause-out_after c = rw (is-wrong c.args.self.len (λ e. search rules) (λ e. search rules))
