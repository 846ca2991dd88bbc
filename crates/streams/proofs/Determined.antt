-- Each public function's contract fixes its answer and what it leaves.
use Rattle.std.specs.Prelude.{Result}
use Rattle.octets.specs.declared.refusal.Refusal.{Refusal}
use Rattle.std.proofs.Common.{ℕ, List}
use Rattle.octets.proofs.Agree.{Fixes, agree}
use Rattle.octets.proofs.Determined.{outcome_once}
use Rattle.processor.specs.declared.change.Change.{Change}
use Rattle.streams.specs.declared.shape.Shape.{Shape}
use Rattle.streams.proofs.stream.fields_of.Reads as fields-of
use Rattle.streams.proofs.stream.tag_of.Reads as tag_of
use Rattle.streams.proofs.stream.content_of.Reads as content-of
use Rattle.streams.proofs.stream.field_end.Reads as field_end
use Rattle.streams.proofs.stream.end_of.Reads as end_of_lem
use Rattle.streams.proofs.stream.packet_in.Reads as packet-in
use Rattle.streams.proofs.shape.shape_of.Reads as shape_of
use Rattle.streams.proofs.means.meaning_of.Reads as meaning-of
use Rattle.streams.proofs.judge.judge.Reads as judge
use Rattle.streams.proofs.judge.check_for.Reads as check-for

pub fields-of-fixed : Fixes (List ℕ) fields-of.Post (λ κs answer left. answer.now)
fields-of-fixed κs args a b x y p q = agree p q

pub tag-of-fixed : Fixes ℕ tag_of.Post (λ κs answer left. answer)
tag-of-fixed κs args a b x y p q = agree p q

pub content-of-fixed : Fixes (List ℕ) content-of.Post (λ κs answer left. answer.now)
content-of-fixed κs args a b x y p q = agree p q

pub field-end-fixed : Fixes ℕ field_end.Post (λ κs answer left. answer)
field-end-fixed κs args a b x y p q = agree p q

pub end-of-fixed : Fixes (Result Unit Refusal) end_of_lem.Post (λ κs answer left. answer)
end-of-fixed κs args a b x y p q = outcome_once a b (agree p q)

pub packet-in-fixed : Fixes (List ℕ) packet-in.Post (λ κs answer left. answer.now)
packet-in-fixed κs args a b x y p q = agree p q

pub shape-of-fixed : Fixes (Result Shape Refusal) shape_of.Post (λ κs answer left. answer)
shape-of-fixed κs args a b x y p q = outcome_once a b (agree p q)

pub meaning-of-fixed : Fixes (Result Change Refusal) meaning-of.Post (λ κs answer left. answer)
meaning-of-fixed κs args a b x y p q = outcome_once a b (agree p q)

pub judge-fixed : Fixes (Result Shape Refusal) judge.Post (λ κs answer left. answer)
judge-fixed κs args a b x y p q = outcome_once a b (agree p q)

pub check-for-fixed : Fixes (Result Unit Refusal) check-for.Post (λ κs answer left. answer)
check-for-fixed κs args a b x y p q = outcome_once a b (agree p q)
