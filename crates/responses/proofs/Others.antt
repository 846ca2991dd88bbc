-- A response of another kind than the one asked for holds nothing of it. Kinds go by their numbers in the enum.
use Prim.Native.Nat.{ℕ}
use mathlib.Core.Bool.{not}
use mathlib.Core.Path.{◌≡◌, refl}
use mathlib.Core.List.{List, [], ◌∷◌}
use lib.Dec.{T, eqb}
use mir.Val.{has_key}
use types.Run.{OneOf, miss}
use denote.Enum.Declared.{tag_of}
use Rattle.octets.specs.Outcome.{Outcome}
use Rattle.octets.specs.Choice.{pick}
use Rattle.responses.specs.ByKind.{by_kind, no}
use Rattle.responses.specs.declared.Responses.{Responses}
use Rattle.responses.specs.declared.Responses.TheVariants.{Ack, Read, MemoryData, FloatData, HardwareId, FirLoadSize, ConfigChanged, Unk02, Unknown}
use Rattle.responses.specs.contracts.Responses.{the_type}

abbrev pub without : ℕ → List ℕ → List ℕ
without k [] = []
without k (n ∷ ns) = pick (eqb n k) (without k ns) (n ∷ without k ns)

abbrev pub kinds : List ℕ
kinds = 0 ∷ 1 ∷ 2 ∷ 3 ∷ 4 ∷ 5 ∷ 6 ∷ 7 ∷ 8 ∷ []

-- where a response is not of kind number k, the answer is a refusal
abbrev pub Unless : {A : Type 0} → ℕ → Responses → Outcome A → Type 0
Unless k s answer = OneOf (without k kinds) (tag_of the_type s) → answer ≡ no

pub record Others (s : Responses) : Type 0 where
  pub ack : Unless 0 s (by_kind s).ack
  pub read : Unless 1 s (by_kind s).read
  pub memory : Unless 2 s (by_kind s).memory
  pub floats : Unless 3 s (by_kind s).floats
  pub hardware : Unless 4 s (by_kind s).hardware
  pub size : Unless 5 s (by_kind s).size
  pub config : Unless 6 s (by_kind s).config
  pub unk02 : Unless 7 s (by_kind s).unk02

-- what a response of this kind would hold is not asked
never : (k : ℕ) {A : Type 0} → T (not (has_key (without k kinds) k)) → OneOf (without k kinds) k → A
never k t h = absurd (miss (without k kinds) k t h)

pub others : (s : Responses) → Others s
others Ack = record { ack = never 0 tt; read = λ h. refl; memory = λ h. refl; floats = λ h. refl; hardware = λ h. refl; size = λ h. refl; config = λ h. refl; unk02 = λ h. refl }
others (Read addr values) = record { ack = λ h. refl; read = never 1 tt; memory = λ h. refl; floats = λ h. refl; hardware = λ h. refl; size = λ h. refl; config = λ h. refl; unk02 = λ h. refl }
others (MemoryData view) = record { ack = λ h. refl; read = λ h. refl; memory = never 2 tt; floats = λ h. refl; hardware = λ h. refl; size = λ h. refl; config = λ h. refl; unk02 = λ h. refl }
others (FloatData view) = record { ack = λ h. refl; read = λ h. refl; memory = λ h. refl; floats = never 3 tt; hardware = λ h. refl; size = λ h. refl; config = λ h. refl; unk02 = λ h. refl }
others (HardwareId id) = record { ack = λ h. refl; read = λ h. refl; memory = λ h. refl; floats = λ h. refl; hardware = never 4 tt; size = λ h. refl; config = λ h. refl; unk02 = λ h. refl }
others (FirLoadSize n) = record { ack = λ h. refl; read = λ h. refl; memory = λ h. refl; floats = λ h. refl; hardware = λ h. refl; size = never 5 tt; config = λ h. refl; unk02 = λ h. refl }
others ConfigChanged = record { ack = λ h. refl; read = λ h. refl; memory = λ h. refl; floats = λ h. refl; hardware = λ h. refl; size = λ h. refl; config = never 6 tt; unk02 = λ h. refl }
others Unk02 = record { ack = λ h. refl; read = λ h. refl; memory = λ h. refl; floats = λ h. refl; hardware = λ h. refl; size = λ h. refl; config = λ h. refl; unk02 = never 7 tt }
others (Unknown id payload) = record { ack = λ h. refl; read = λ h. refl; memory = λ h. refl; floats = λ h. refl; hardware = λ h. refl; size = λ h. refl; config = λ h. refl; unk02 = λ h. refl }
