-- Each way out is one branch of the definition; the capped length passes 254 where the length does.
use Rattle.std.proofs.Common.{◌≡◌, length, sym, refl, ap, ◌∙◌, arith}
use Rattle.octets.proofs.Choosing.{below, above}
use Rattle.octets.specs.Outcome.{accepted}
use Rattle.fields.specs.Row.{packet_of, misaddressed, misplaced, encoded_of}
use Rattle.fields.specs.Inside.{encoded_length}
use Rattle.fields.proofs.Rows.{any_row}
use Rattle.fields.proofs.row.settled.Goals as goal

pub returns-then-any_misaddressed : goal.returns-then-any_misaddressed
unfolding encoded_of
returns-then-any_misaddressed c = rw (any_row misaddressed c.args.row, ← c.any_misaddressed.ensures, c.if-any_misaddressed.true)

pub returns-then-any_misplaced : goal.returns-then-any_misplaced
unfolding encoded_of
returns-then-any_misplaced c = rw (any_row misaddressed c.args.row, ← c.any_misaddressed.ensures, c.if-any_misaddressed.false, any_row (misplaced (length c.args.payload.now)) c.args.row, ← c.any_misplaced.ensures, c.if-any_misplaced.true)

pub row_len-n-requires : goal.row_len-n-requires
unfolding encoded_of
row_len-n-requires c = record { addressed = any_row _ _ ∙ sym c.any_misaddressed.ensures ∙ c.if-any_misaddressed.false; placed = any_row _ _ ∙ sym c.any_misplaced.ensures ∙ c.if-any_misplaced.false }

pub returns-then-n-gt-LONGEST_PACKET : goal.returns-then-n-gt-LONGEST_PACKET
unfolding encoded_of
returns-then-n-gt-LONGEST_PACKET c = rw (any_row misaddressed c.args.row, ← c.any_misaddressed.ensures, c.if-any_misaddressed.false, any_row (misplaced (length c.args.payload.now)) c.args.row, ← c.any_misplaced.ensures, c.if-any_misplaced.false) (ap encoded_length (below _ _ _ _ _ (omega (arith, c.row_len-n.ensures)) refl))

pub returns : goal.returns
unfolding encoded_of
returns c =
    let a = c.args in
    let n : c.row_len-n.result ≡ length (packet_of a.payload.now a.row) = omega (arith, c.row_len-n.ensures) in
    rw (any_row misaddressed c.args.row, ← c.any_misaddressed.ensures, c.if-any_misaddressed.false, any_row (misplaced (length c.args.payload.now)) c.args.row, ← c.any_misplaced.ensures, c.if-any_misplaced.false)
    (ap accepted n ∙ ap encoded_length (above _ _ _ _ _ (omega (arith, c.row_len-n.ensures)) refl))
