-- Each public function's contract fixes its answer and what it leaves.
use Rattle.std.specs.Prelude.{Option}
use Rattle.std.specs.Prelude.{Result}
use Rattle.octets.specs.declared.refusal.Refusal.{Refusal}
use Prim.Native.Nat.{ℕ}
use mathlib.Core.List.{List}
use Rattle.octets.specs.Outcome.{outcome}
use Rattle.octets.proofs.Agree.{Fixes, agree, both}
use Rattle.octets.proofs.Determined.{outcome_once}
use Rattle.text.proofs.hex_digit.Reads as hex-digit
use Rattle.text.proofs.hex8.Reads as hex8
use Rattle.text.proofs.digit_value.Reads as digit_value
use Rattle.text.proofs.put_decimal.Reads as put-decimal
use Rattle.text.proofs.put_pairs.Reads as put-pairs
use Rattle.text.proofs.read_decimal.Reads as read-decimal
use Rattle.text.proofs.read_word.Reads as read_word
use Rattle.text.proofs.read_pairs.Reads as read_pairs
use Rattle.text.proofs.until.Reads as until
use Rattle.text.proofs.run.Reads as run

pub hex-digit-fixed : Fixes ℕ hex-digit.Post (λ κs answer left. answer)
hex-digit-fixed κs args a b x y p q = agree p q

pub hex8-fixed : Fixes (List ℕ) hex8.Post (λ κs answer left. answer)
hex8-fixed κs args a b x y p q = agree p q

pub digit-value-fixed : Fixes ℕ digit_value.Post (λ κs answer left. answer)
digit-value-fixed κs args a b x y p q = agree p.0 q.0

pub put-decimal-fixed : Fixes (Result ℕ Refusal × List ℕ) put-decimal.Post (λ κs answer left. (answer, left.1.0.now))
put-decimal-fixed κs args a b x y p q = both outcome outcome_once (agree p q)

pub put-pairs-fixed : Fixes (Result ℕ Refusal × List ℕ) put-pairs.Post (λ κs answer left. (answer, left.1.0.now))
put-pairs-fixed κs args a b x y p q = both outcome outcome_once (agree p q)

pub read-decimal-fixed : Fixes (Option ℕ) read-decimal.Post (λ κs answer left. answer)
read-decimal-fixed κs args a b x y p q = agree p q

pub read-word-fixed : Fixes (Option ℕ) read_word.Post (λ κs answer left. answer)
read-word-fixed κs args a b x y p q = agree p q

pub read-pairs-fixed : Fixes (Option ℕ × List ℕ) read_pairs.Post (λ κs answer left. (answer, left.1.0.now))
read-pairs-fixed κs args a b x y p q = agree p q

pub until-fixed : Fixes ℕ until.Post (λ κs answer left. answer)
until-fixed κs args a b x y p q = agree p.0 q.0

pub run-fixed : Fixes ℕ run.Post (λ κs answer left. answer)
run-fixed κs args a b x y p q = agree p.0 q.0
