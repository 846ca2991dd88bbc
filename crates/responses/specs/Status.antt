-- The master status of a device, out of a view of its memory: `MasterStatus::from_memory`.
use Rattle.std.specs.Prelude.{ℕ, Bool, List, Option, None, eqb}
use Rattle.std.specs.Option.{option_or, option_map}
use Rattle.octets.specs.Choice.{pick}
use Rattle.commands.specs.Decode.{gain_of}
use Rattle.facts.specs.Eeprom.{at_preset, at_source, at_source_async, at_master_volume, at_mute, at_dirac_bypass}
use Rattle.facts.specs.DeviceInfo.{supports_dirac}
use Rattle.facts.specs.Source.{from_id, mapping_of}
use Rattle.facts.specs.declared.DeviceInfo.{DeviceInfo}
use Rattle.views.specs.Reading.{byte_at}
use Rattle.views.specs.declared.memory.MemoryView.{MemoryView}
use Rattle.responses.specs.declared.status.MasterStatus.{MasterStatus}

-- only of a device that has Dirac Live; a bypass of 0 is on
abbrev pub dirac_in : DeviceInfo → Option ℕ → Option Bool
dirac_in info bypass = pick (supports_dirac info.dsp_version) (option_map (λ n. eqb n 0) bypass) None

-- the Rust's `Default`
abbrev pub unknown : MasterStatus
unknown = record { preset = None; source = None; volume = None; mute = None; dirac = None }

-- the source has a fallback address
abbrev pub status_of : DeviceInfo → MemoryView → List ℕ → MasterStatus
status_of info view bytes =
    record {
      preset = byte_at view bytes at_preset;
      source = option_map (λ n. from_id n (mapping_of info.hw_id info.dsp_version)) (option_or (byte_at view bytes at_source) (byte_at view bytes at_source_async));
      volume = option_map gain_of (byte_at view bytes at_master_volume);
      mute = option_map (λ n. eqb n 1) (byte_at view bytes at_mute);
      dirac = dirac_in info (byte_at view bytes at_dirac_bypass);
    }
