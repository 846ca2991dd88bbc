-- What hardware id and dsp version tell of a device, as the Rust has it, "all device features on".
use Rattle.std.specs.Prelude.{ℕ, Bool, true, false, [], ◌∷◌}
use Rattle.octets.specs.Choice.{if_eq, if_both, if_in}
use Rattle.facts.specs.declared.probe.DeviceKind.{DeviceKind}
use Rattle.facts.specs.declared.probe.DeviceKind.TheVariants.{Generic, M4x10Hd, M10x10Hd, MSharc4x8, M2x4Hd, Shd, DDRC24, DDRC88BM, Nanodigi2x8, C8x12v2, M2x4, Flex, FlexHtx}

-- its kind: the match of device/probe.rs, an entry a line
unfoldable pub device_kind : ℕ → ℕ → DeviceKind
device_kind hw dsp =
    if_both hw 1 dsp 51 M10x10Hd
    (if_eq hw 1 M4x10Hd
    (if_eq hw 4 MSharc4x8
    (if_both hw 10 dsp 100 M2x4Hd
    (if_both hw 10 dsp 101 DDRC24
    (if_both hw 6 dsp 95 DDRC88BM
    (if_eq hw 14 Shd
    (if_both hw 2 dsp 54 Nanodigi2x8
    (if_both hw 11 dsp 97 C8x12v2
    (if_both hw 2 dsp 22 M2x4
    (if_both hw 27 dsp 100 Flex
    (if_both hw 32 dsp 115 FlexHtx
    Generic)))))))))))

-- whether it has Dirac Live: "matches!(self.dsp_version, 61 | 94 | 95 | 101 | 105)"
unfoldable pub supports_dirac : ℕ → Bool
supports_dirac dsp = if_in dsp (61 ∷ 94 ∷ 95 ∷ 101 ∷ 105 ∷ []) true false
