-- Each public function's contract fixes its answer and what it leaves.
use Prim.Native.Nat.{ℕ}
use Rattle.std.specs.Prelude.{Result, Ok, Err}
use mathlib.Core.Path.{◌≡◌, refl, sym, ap, ◌∙◌}
use mathlib.Core.Bool.{Bool}
use denote.RattleType.{RattleType}
use denote.Param.Laws.{Laws}
use mir.Syntax.{Dict}
use Rattle.std.proofs.Common.{Fits, w64}
use mathlib.Core.List.{List, [], ◌∷◌}
use lib.ListN.{get_or}
use Rattle.octets.specs.Outcome.{outcome}
use Rattle.octets.specs.Refusals.{number_of}
use Rattle.octets.specs.declared.refusal.Refusal.{Refusal}
use Rattle.octets.specs.declared.refusal.Refusal.TheVariants.{Empty, Short, Ends, FewValues, TooLong, NoRoom, Outside, AddressLength, WrongChecksum, Trailing, Apart, OtherKind, WrongField, WrongSizes, PastEnd, Malformed, RecordChecksum, NamedTwice}
use Rattle.octets.specs.declared.Place.{Place}
use Rattle.octets.proofs.Agree.{Fixes, agree, both}
use Rattle.octets.proofs.put.Reads as put
use Rattle.octets.proofs.put_word.Reads as put_word
use Rattle.octets.proofs.put_at.Reads as put-at
use Rattle.octets.proofs.is_outside.Reads as is-outside
use Rattle.octets.proofs.floats_outside.Reads as floats-outside
use Rattle.octets.proofs.rest_of.Reads as rest_of
use Rattle.octets.proofs.part.Reads as part
use Rattle.octets.proofs.number.byte.Reads as byte
use Rattle.octets.proofs.number.big16.Reads as big16
use Rattle.octets.proofs.number.big24.Reads as big24
use Rattle.octets.proofs.number.big32.Reads as big32
use Rattle.octets.proofs.number.little16.Reads as little16
use Rattle.octets.proofs.number.little32.Reads as little32
use Rattle.octets.proofs.number.big_bytes.Reads as big-bytes
use Rattle.octets.proofs.number.little_bytes.Reads as little-bytes
use Rattle.octets.proofs.needing.Reads as needing
use Rattle.octets.proofs.refusal.U8FromRefusal.from.Reads as number-from

-- a refusal is known by its number
by_number : List Refusal
by_number =
    Empty ∷ Empty ∷ Short ∷ Ends ∷ FewValues ∷ TooLong ∷ NoRoom ∷ Outside ∷ AddressLength ∷ WrongChecksum ∷ Trailing ∷ Apart ∷ OtherKind ∷ WrongField ∷ WrongSizes ∷ PastEnd ∷ Malformed ∷ RecordChecksum ∷ NamedTwice ∷ []

of_number : ℕ → Refusal
of_number n = get_or by_number n Empty

back : (r : Refusal) → of_number (number_of r) ≡ r
unfolding of_number by_number
back Empty = refl
back Short = refl
back Ends = refl
back FewValues = refl
back TooLong = refl
back NoRoom = refl
back Outside = refl
back AddressLength = refl
back WrongChecksum = refl
back Trailing = refl
back Apart = refl
back OtherKind = refl
back WrongField = refl
back WrongSizes = refl
back PastEnd = refl
back Malformed = refl
back RecordChecksum = refl
back NamedTwice = refl

pub number_once : (a b : Refusal) → number_of a ≡ number_of b → a ≡ b
number_once a b e = sym (back a) ∙ ap of_number e ∙ back b

-- an answer is known by its reading
pub outcome_once : {A : Type 0} (a b : Result A Refusal) → outcome a ≡ outcome b → a ≡ b
outcome_once (Ok m) (Ok n) e = cc
outcome_once (Ok m) (Err k) e = cc
outcome_once (Err k) (Ok m) e = cc
outcome_once (Err j) (Err k) e = ap Err (number_once j k cc)

pub put-fixed : Fixes (Result ℕ Refusal × List ℕ) put.Post (λ κs answer left. (answer, left.1.0.now))
put-fixed κs args a b x y p q = both outcome outcome_once (agree p q)

pub put-at-fixed : Fixes (Result ℕ Refusal × List ℕ) put-at.Post (λ κs answer left. (answer, left.1.1.0.now))
put-at-fixed κs args a b x y p q = both outcome outcome_once (agree p q)

pub is-outside-fixed : Fixes Bool is-outside.Post (λ κs answer left. answer)
is-outside-fixed κs args a b x y p q = agree p q

pub floats-outside-fixed : Fixes Bool floats-outside.Post (λ κs answer left. answer)
floats-outside-fixed κs args a b x y p q = agree p q

pub rest-of-fixed : Fixes Place rest_of.Post (λ κs answer left. answer)
rest-of-fixed κs args a b x y p q = agree p q

pub part-fixed : Fixes (List ℕ) part.Post (λ κs answer left. answer.now)
part-fixed κs args a b x y p q = agree p q

pub put-word-fixed : Fixes (List ℕ) put_word.Post (λ κs answer left. left.1.1.0.now)
put-word-fixed κs args a b x y p q = agree p q

pub byte-fixed : Fixes ℕ byte.Post (λ κs answer left. answer)
byte-fixed κs args a b x y p q = agree p q

pub big16-fixed : Fixes ℕ big16.Post (λ κs answer left. answer)
big16-fixed κs args a b x y p q = agree p q

pub big24-fixed : Fixes ℕ big24.Post (λ κs answer left. answer)
big24-fixed κs args a b x y p q = agree p q

pub big32-fixed : Fixes ℕ big32.Post (λ κs answer left. answer)
big32-fixed κs args a b x y p q = agree p q

pub little16-fixed : Fixes ℕ little16.Post (λ κs answer left. answer)
little16-fixed κs args a b x y p q = agree p q

pub little32-fixed : Fixes ℕ little32.Post (λ κs answer left. answer)
little32-fixed κs args a b x y p q = agree p q

pub big-bytes-fixed : (width : ℕ) (fits : Fits w64 width) → Fixes (List ℕ) (big-bytes.Post width fits) (λ κs answer left. answer)
big-bytes-fixed width fits κs args a b x y p q = agree p q

pub little-bytes-fixed : (width : ℕ) (fits : Fits w64 width) → Fixes (List ℕ) (little-bytes.Post width fits) (λ κs answer left. answer)
little-bytes-fixed width fits κs args a b x y p q = agree p q

pub number-from-fixed : Fixes ℕ number-from.Post (λ κs answer left. answer)
number-from-fixed κs args a b x y p q = agree p q

pub needing-fixed : (T : RattleType) (laws : Laws T) (drop : Dict) → Fixes (Result T.Denot Refusal) (needing.Post T laws drop) (λ κs answer left. answer)
needing-fixed T laws drop κs args a b x y p q = outcome_once a b (agree p q)
