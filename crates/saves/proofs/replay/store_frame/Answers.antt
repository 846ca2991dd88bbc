-- What it means, if anything.
use lib.ListN.{length}
use Rattle.streams.proofs.Meaning.{change-writes}
use Rattle.saves.proofs.replay.store_frame.Goals as goal

pub returns-in-Ok : goal.returns-in-Ok
returns-in-Ok c =
    let a = c.args in
    rw (← c.packet_in-packet.ensures, ← change-writes _ (length a.eeprom.now) (length a.settings.now) _ c.in-Ok.ensures) c.store.ensures
