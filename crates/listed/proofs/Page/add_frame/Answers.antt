-- The line of its change, if it means one.
use Rattle.streams.specs.Means.{packet_means}
use Rattle.streams.proofs.Meaning.{change-writes, none-writes}
use Rattle.listed.proofs.Adding.{adds_none}
use Rattle.listed.proofs.Page.add_frame.Goals as goal

pub returns-in-Ok : goal.returns-in-Ok
returns-in-Ok c =
    let a = c.args in
    rw (← c.packet_in-packet.ensures, ← change-writes _ a.shape.eeprom a.shape.settings _ c.in-Ok.ensures) c.add_change.ensures

pub returns-in_default : goal.returns-in_default
returns-in_default c =
    let a = c.args in
    let p = c.packet_in-packet.result.now in
    let means = rw c.in_default.is at c.meaning_of.ensures in
    rw (← c.packet_in-packet.ensures, ← none-writes p (packet_means a.shape.eeprom a.shape.settings p) means) (adds_none _ _)
