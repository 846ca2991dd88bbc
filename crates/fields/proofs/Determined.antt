-- Each public function's contract fixes its answer and what it leaves.
use Rattle.std.specs.Prelude.{Result}
use Rattle.octets.specs.declared.refusal.Refusal.{Refusal}
use Rattle.std.proofs.Common.{ℕ, Bool, List}
use Rattle.octets.specs.Outcome.{outcome}
use Rattle.octets.proofs.Agree.{Fixes, agree, both}
use Rattle.octets.proofs.Determined.{outcome_once}
use Rattle.fields.specs.declared.addr.Addr.{Addr}
use Rattle.fields.specs.declared.value.Value.{Value}
use Rattle.fields.specs.declared.row.Field.{Field}
use Rattle.fields.proofs.addr.Addr.new.Reads as new
use Rattle.fields.proofs.addr.Addr.new_with_extra_bit.Reads as new-with-extra-bit
use Rattle.fields.proofs.addr.Addr.width.Reads as width
use Rattle.fields.proofs.addr.Addr.at.Reads as addr_at
use Rattle.fields.proofs.addr.Addr.read.Reads as read
use Rattle.fields.proofs.addr.Addr.read_u16.Reads as read-u16
use Rattle.fields.proofs.addr.Addr.read_u24.Reads as read-u24
use Rattle.fields.proofs.addr.Addr.has_wrong_length.Reads as has-wrong-length
use Rattle.fields.proofs.addr.Addr.write.Reads as addr-write
use Rattle.fields.proofs.value.Value.from_bytes.Reads as from_bytes
use Rattle.fields.proofs.value.Value.at.Reads as value-at
use Rattle.fields.proofs.value.Value.is_outside.Reads as is-outside
use Rattle.fields.proofs.value.Value.into_bytes.Reads as into-bytes
use Rattle.fields.proofs.row.write.Reads as row_write
use Rattle.fields.proofs.row.frame.Reads as row-frame
use Rattle.fields.proofs.row.row1.Reads as row1
use Rattle.fields.proofs.row.row2.Reads as row2
use Rattle.fields.proofs.row.row3.Reads as row3
use Rattle.fields.proofs.row.row4.Reads as row4
use Rattle.fields.proofs.value.ValueDefault.default.Reads as value-default
use Rattle.fields.proofs.value.Value.from_f32.Reads as from-f32
use Rattle.fields.proofs.value.Value.from_fixed_point.Reads as from-fixed-point
use Rattle.fields.proofs.value.Value.from_u16.Reads as from-u16

pub new-fixed : Fixes Addr new.Post (λ κs answer left. answer)
new-fixed κs args a b x y p q = agree p q

pub new-with-extra-bit-fixed : Fixes Addr new-with-extra-bit.Post (λ κs answer left. answer)
new-with-extra-bit-fixed κs args a b x y p q = agree p q

pub width-fixed : Fixes ℕ width.Post (λ κs answer left. answer)
width-fixed κs args a b x y p q = agree p.0 q.0

pub addr-at-fixed : Fixes Addr addr_at.Post (λ κs answer left. answer)
addr-at-fixed κs args a b x y p q = agree p q

pub read-fixed : Fixes (Result Addr Refusal) read.Post (λ κs answer left. answer)
read-fixed κs args a b x y p q = outcome_once a b (agree p q)

pub read-u16-fixed : Fixes (Result Addr Refusal) read-u16.Post (λ κs answer left. answer)
read-u16-fixed κs args a b x y p q = outcome_once a b (agree p q)

pub read-u24-fixed : Fixes (Result Addr Refusal) read-u24.Post (λ κs answer left. answer)
read-u24-fixed κs args a b x y p q = outcome_once a b (agree p q)

pub has-wrong-length-fixed : Fixes Bool has-wrong-length.Post (λ κs answer left. answer)
has-wrong-length-fixed κs args a b x y p q = agree p q

pub addr-write-fixed : Fixes (Result ℕ Refusal × List ℕ) addr-write.Post (λ κs answer left. (answer, left.1.0.now))
addr-write-fixed κs args a b x y p q = both outcome outcome_once (agree p q)

pub from-bytes-fixed : Fixes (Result Value Refusal) from_bytes.Post (λ κs answer left. answer)
from-bytes-fixed κs args a b x y p q = outcome_once a b (agree p q)

pub value-at-fixed : Fixes Value value-at.Post (λ κs answer left. answer)
value-at-fixed κs args a b x y p q = agree p q

pub is-outside-fixed : Fixes Bool is-outside.Post (λ κs answer left. answer)
is-outside-fixed κs args a b x y p q = agree p q

pub into-bytes-fixed : Fixes (Result ℕ Refusal × List ℕ) into-bytes.Post (λ κs answer left. (answer, left.1.1.0.now))
into-bytes-fixed κs args a b x y p q = both outcome outcome_once (agree p q)

pub row-write-fixed : Fixes (Result ℕ Refusal × List ℕ) row_write.Post (λ κs answer left. (answer, left.1.1.0.now))
row-write-fixed κs args a b x y p q = both outcome outcome_once (agree p q)

pub row-frame-fixed : Fixes (Result ℕ Refusal × List ℕ) row-frame.Post (λ κs answer left. (answer, left.1.1.0.now))
row-frame-fixed κs args a b x y p q = both outcome outcome_once (agree p q)

pub row1-fixed : Fixes (List Field) row1.Post (λ κs answer left. answer)
row1-fixed κs args a b x y p q = agree p q

pub row2-fixed : Fixes (List Field) row2.Post (λ κs answer left. answer)
row2-fixed κs args a b x y p q = agree p q

pub row3-fixed : Fixes (List Field) row3.Post (λ κs answer left. answer)
row3-fixed κs args a b x y p q = agree p q

pub row4-fixed : Fixes (List Field) row4.Post (λ κs answer left. answer)
row4-fixed κs args a b x y p q = agree p q

pub value-default-fixed : Fixes Value value-default.Post (λ κs answer left. answer)
value-default-fixed κs args a b x y p q = agree p q

pub from-f32-fixed : Fixes Value from-f32.Post (λ κs answer left. answer)
from-f32-fixed κs args a b x y p q = agree p q

pub from-fixed-point-fixed : Fixes Value from-fixed-point.Post (λ κs answer left. answer)
from-fixed-point-fixed κs args a b x y p q = agree p q

pub from-u16-fixed : Fixes Value from-u16.Post (λ κs answer left. answer)
from-u16-fixed κs args a b x y p q = agree p q
