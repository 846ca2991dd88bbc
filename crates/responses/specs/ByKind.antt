-- What a response holds, by kind: "response is not the kind asked for" gives 12.
use Rattle.std.specs.Prelude.{ℕ, Bool, true, false}
use Rattle.octets.specs.Refusals.{other_kind}
use Rattle.octets.specs.Outcome.{Outcome, accepted, refused}
use Rattle.facts.specs.declared.HardwareId.{HardwareId}
use Rattle.views.specs.declared.memory.MemoryView.{MemoryView}
use Rattle.views.specs.declared.floats.FloatView.{FloatView}
use Rattle.responses.specs.declared.Responses.{Responses}
use Rattle.responses.specs.declared.Responses.TheVariants.{Ack, Read, MemoryData, FloatData, HardwareId as Identity, FirLoadSize, ConfigChanged, Unk02, Unknown}

abbrev pub is_accepted : {A : Type 0} → Outcome A → Bool
is_accepted (accepted a) = true
is_accepted (refused k) = false

-- what is asked for under each kind
pub record ByKind : Type 0 where
  pub memory : Outcome MemoryView
  pub floats : Outcome FloatView
  pub hardware : Outcome HardwareId
  pub ack : Outcome Unit
  pub config : Outcome Unit
  pub size : Outcome ℕ
  pub read : Outcome Unit
  pub unk02 : Outcome Unit

abbrev pub each_kind : Outcome MemoryView → Outcome FloatView → Outcome HardwareId → Outcome Unit → Outcome Unit → Outcome ℕ → Outcome Unit → Outcome Unit → ByKind
each_kind memory floats hardware ack config size read unk02 =
    record { memory = memory; floats = floats; hardware = hardware; ack = ack; config = config; size = size; read = read; unk02 = unk02 }

abbrev pub no : {A : Type 0} → Outcome A
no = refused other_kind

abbrev pub by_kind : Responses → ByKind
by_kind Ack = each_kind no no no (accepted tt) no no no no
by_kind (Read addr values) = each_kind no no no no no no (accepted tt) no
by_kind (MemoryData view) = each_kind (accepted view) no no no no no no no
by_kind (FloatData view) = each_kind no (accepted view) no no no no no no
by_kind (Identity id) = each_kind no no (accepted id) no no no no no
by_kind (FirLoadSize size) = each_kind no no no no no (accepted size) no no
by_kind ConfigChanged = each_kind no no no no (accepted tt) no no no
by_kind Unk02 = each_kind no no no no no no no (accepted tt)
by_kind (Unknown id payload) = each_kind no no no no no no no no
