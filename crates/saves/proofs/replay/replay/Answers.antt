-- Checked whole, then stored.
use lib.ListN.{length}
use Rattle.std.proofs.lemmas.Result.{err_from_is_err_and}
use Rattle.processor.specs.Memory.{memory}
use Rattle.saves.specs.Replay.{replay_of}
use Rattle.saves.proofs.Storing.{replay-stores, replay-refuses}
use Rattle.saves.proofs.replay.replay.Goals as goal

pub returns : goal.returns
unfolding replay_of
returns c =
    let a = c.args in
    let stores = replay-stores (length a.eeprom.now) (length a.settings.now) a.save.now (memory a.eeprom.now a.settings.now) c.in_ok-check_for.ensures in
    rw (c.store_frames.ensures, c.fields_of.ensures) stores

pub returns-in_err-check_for : goal.returns-in_err-check_for
unfolding replay_of
returns-in_err-check_for c =
    let a = c.args in
    let p = err_from_is_err_and c.from_residual.result c.from_residual.ensures.1 in
    rw (p.1, p.2) (replay-refuses (length a.eeprom.now) (length a.settings.now) a.save.now _ c.in_err-check_for.ensures)
