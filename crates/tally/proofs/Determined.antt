-- Each public function's contract fixes its answer and what it leaves.
use Rattle.std.specs.Prelude.{Result}
use Rattle.octets.specs.declared.refusal.Refusal.{Refusal}
use mathlib.Core.Path.{◌≡◌, refl, sym, ap, ◌∙◌}
use mathlib.Core.List.{List}
use Prim.Native.Nat.{ℕ}
use seplogic.Ra.Ura.{Ura}
use base.Logic.{SProp}
use prog.Memory as Cells
use prog.Routine.{Routine}
use types.Logic.{Logic}
use contract.Lifetimes.{Lfts}
use contract.Monad.{Fun, fact}
use denote.RattleType.{RattleType}
use denote.Param.Laws.{Laws}
use mir.Syntax.{Dict}
use denote.Triple.Clauses.{AtExit}
use denote.Triple.Entry.{Args, Res}
use Rattle.octets.specs.Outcome.{outcome}
use Rattle.octets.proofs.Agree.{Fixes, agree, three}
use Rattle.octets.proofs.Determined.{outcome_once}
use Rattle.processor.specs.Memory.{Memory, memory}
use Rattle.device.specs.Execute.{received_into}
use Rattle.tally.specs.Tally.{after}
use Rattle.tally.specs.declared.Tally.{Tally}
use Rattle.tally.proofs.Tally.zeroed.Reads as zeroed
use Rattle.tally.proofs.Tally.count.Reads as count
use Rattle.tally.proofs.receive.receive_counted.Reads as receive-counted
use Rattle.tally.specs.contracts.receive.receive_lent as receive-lent
use Rattle.tally.proofs.receive.receive_lending.Reads as receive-lending

-- where the answer fixes the tally f, what is left with it
with-tally : (f : Result ℕ Refusal → Tally) {a b : Result ℕ Refusal} {m n : Memory} {x y : List ℕ} {s t : Tally} → ◌≡◌ {A = Result ℕ Refusal × Memory × List ℕ} (a, m, x) (b, n, y) → s ≡ f a → t ≡ f b → ◌≡◌ {A = Result ℕ Refusal × Memory × List ℕ × Tally} (a, m, x, s) (b, n, y, t)
with-tally f same p q = let told = ap (λ (left : Result ℕ Refusal × Memory × List ℕ). f left.0) same in λ i. ((same i).0, (same i).1, (same i).2, (p ∙ told ∙ sym q) i)

pub zeroed-fixed : Fixes Tally zeroed.Post (λ κs answer left. answer)
zeroed-fixed κs args a b x y p q = agree p q

pub count-fixed : (E : RattleType) (laws : Laws E) (drop : Dict) → Fixes Tally (count.Post E laws drop) (λ κs answer left. answer)
count-fixed E laws drop κs args a b x y p q = agree (p (λ refusal. 0)) (q (λ refusal. 0))

pub receive-counted-fixed : Fixes (Result ℕ Refusal × Memory × List ℕ × Tally) receive-counted.Post (λ κs answer left. (answer.answer, memory left.1.1.1.0.now left.1.1.1.1.0.now, left.1.1.1.1.1.0.now, answer.tally))
receive-counted-fixed κs args a b x y p q = with-tally (λ w. after args.0 (outcome w)) (three outcome outcome_once (agree p.0 q.0)) p.1 q.1

-- What `receive_lent` promises, written once more; `..-says` says that it is that.
abbrev pub ReceiveLent : (κs : Lfts 5) → Args receive-lent.signature κs → Res receive-lent.signature κs → AtExit receive-lent.ended κs → Type 0
ReceiveLent κs args answer left =
    ((outcome answer, memory left.1.1.1.0.now left.1.1.1.1.0.now, left.1.1.1.1.1.0.now) ≡ received_into args.1.0 args.1.1.0.now (memory args.1.1.1.0.now args.1.1.1.1.0.now) args.1.1.1.1.1.0.now)
    × (left.0.now ≡ after args.0.now (outcome answer))

module _ {M : Type 1} {𝓤 : Ura M} (𝓛 : Logic 𝓤) (mem : Cells.Memory → SProp 𝓤) (run : Routine → Fun 𝓤) where
  pub receive-lent-says : (κs : Lfts 5) (args : Args receive-lent.signature κs) (answer : Res receive-lent.signature κs) (left : AtExit receive-lent.ended κs)
      → (receive-lent.clauses 𝓛 mem run κs args).ensures tt answer left ≡ fact 𝓤 (ReceiveLent κs args answer left)
  receive-lent-says κs args answer left = refl

pub receive-lent-fixed : Fixes (Result ℕ Refusal × Memory × List ℕ × Tally) ReceiveLent (λ κs answer left. (answer, memory left.1.1.1.0.now left.1.1.1.1.0.now, left.1.1.1.1.1.0.now, left.0.now))
receive-lent-fixed κs args a b x y p q = with-tally (λ w. after args.0.now (outcome w)) (three outcome outcome_once (agree p.0 q.0)) p.1 q.1

pub receive-lending-fixed : Fixes (Result ℕ Refusal × Memory × List ℕ × Tally) receive-lending.Post (λ κs answer left. (answer.answer, memory left.1.1.1.0.now left.1.1.1.1.0.now, left.1.1.1.1.1.0.now, answer.tally))
receive-lending-fixed κs args a b x y p q = with-tally (λ w. after args.0 (outcome w)) (three outcome outcome_once (agree p.0 q.0)) p.1 q.1
