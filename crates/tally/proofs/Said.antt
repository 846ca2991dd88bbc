-- What a walk has at exit of a parameter that it passed to a callee and does not need again, whatever its kind: what the
-- callee's contract says of its last value. Of a `&`, or of plain data, that is nothing; of a `&mut` it is what it holds
-- then. So a callee's `lasts`, as its `ensured` gives them, are at once what `ends_at` asks of those parameters.
use Prim.Native.Nat.{ℕ}
use mathlib.Core.List.{List, [], ◌∷◌}
use seplogic.Ra.Ura.{Ura}
use types.Logic.{Logic, sem}
use denote.Exit.{Kept, left}
use denote.Signature.{Slot, types_at}
use contract.Lifetimes.{Lfts}
use denote.RattleType.{Denots}
use denote.Triple.End.{Kepts, Fins}
use denote.Triple.Walked.{Stay, Stays, AllGo, fits_of}

-- of one parameter, and of each of a list
abbrev pub said : {n : ℕ} (s : Slot n) (k : Kept) → Stay s k
said s k = record { fit = λ κs x f. Unit {0}; has = λ κs x f vs. left ((s.row κs).exit k) x f }

abbrev pub all_said : {n : ℕ} (ss : List (Slot n)) (ks : Kepts ss) → Stays ss ks
all_said [] ks = tt
all_said (s ∷ ss) ks = (said s ks.0, all_said ss ks.1)

-- the list's tail
abbrev pub rest : {n : ℕ} → List (Slot n) → List (Slot n)
rest [] = []
rest (s ∷ ss) = ss

-- nothing is asked of the last values
pub all_fit : {n : ℕ} (κs : Lfts n) (ss : List (Slot n)) (ks : Kepts ss) (a : Denots (types_at ss κs)) (ws : Fins κs ss ks a) → fits_of κs ss ks (all_said ss ks) a ws
all_fit κs [] ks a ws = tt
all_fit κs (s ∷ ss) ks a ws = (tt, all_fit κs ss ks.1 a.1 ws.1)

pub all-goes : {M : Type 1} {𝓤 : Ura M} (𝓛 : Logic 𝓤) (n : ℕ) (ss : List (Slot n)) (ks : Kepts ss) → AllGo 𝓛 n ss ks (all_said ss ks)
all-goes 𝓛 n [] ks = tt
all-goes 𝓛 n (s ∷ ss) ks = (λ κs x f vs fits. 𝓛.laws.⇛_intro (sem 𝓛 (left ((s.row κs).exit ks.0) x f)), all-goes 𝓛 n ss ks.1)
