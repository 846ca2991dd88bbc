-- Each exported function's contract fixes its answer and what it leaves.
use Prim.Native.Nat.{ℕ}
use mathlib.Core.Path.{◌≡◌}
use mathlib.Core.List.{List}
use Rattle.octets.proofs.Agree.{Fixes, agree}
use Rattle.processor.specs.Memory.{Memory, memory}
use Rattle.exports.proofs.wovenpike_from_f32.Reads as from-f32
use Rattle.exports.proofs.wovenpike_to_f32.Reads as to-f32
use Rattle.exports.proofs.wovenpike_frame.Reads as frame
use Rattle.exports.proofs.wovenpike_command.Reads as command
use Rattle.exports.proofs.wovenpike_save.Reads as save
use Rattle.exports.proofs.wovenpike_replay.Reads as replay

pub from-f32-fixed : Fixes ℕ from-f32.Post (λ κs answer left. answer)
from-f32-fixed κs args a b x y p q = agree p q

pub to-f32-fixed : Fixes ℕ to-f32.Post (λ κs answer left. answer)
to-f32-fixed κs args a b x y p q = agree p q

pub frame-fixed : Fixes (ℕ × List ℕ) frame.Post (λ κs answer left. (answer, left.1.0.now))
frame-fixed κs args a b x y p q = agree p q

pub command-fixed : Fixes (ℕ × List ℕ) command.Post (λ κs answer left. (answer, left.1.1.0.now))
command-fixed κs args a b x y p q = agree p q

pub save-fixed : Fixes (ℕ × List ℕ) save.Post (λ κs answer left. (answer, left.1.1.0.now))
save-fixed κs args a b x y p q = agree p q

pub replay-fixed : Fixes (ℕ × Memory) replay.Post (λ κs answer left. (answer, memory left.0.now left.1.0.now))
replay-fixed κs args a b x y p q = agree p q
