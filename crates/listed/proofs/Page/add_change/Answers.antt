-- By the change's kind.
use mathlib.Core.List.{append-nil}
use Rattle.listed.proofs.Adding.{adds_none}
use Rattle.listed.proofs.Page.add_change.Goals as goal

pub returns-in-Nothing : goal.returns-in-Nothing
returns-in-Nothing c = rw c.in-Nothing.is (adds_none _ _)

pub returns-in-EepromByte : goal.returns-in-EepromByte
returns-in-EepromByte c = rw (c.in-EepromByte.is, append-nil) c.add_pair.ensures

pub returns-in-EepromBytes : goal.returns-in-EepromBytes
returns-in-EepromBytes c = rw (c.in-EepromBytes.is, append-nil, ← c.part-bytes.ensures) c.add_pair-in-EepromBytes.ensures

pub returns-in-SettingsWord : goal.returns-in-SettingsWord
returns-in-SettingsWord c = rw (c.in-SettingsWord.is, append-nil) c.add_setting.ensures
