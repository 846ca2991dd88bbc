-- Document 02, Ask 3: "it walks the packet once to copy it and once more to add it up. Do both on one walk."
use Rattle.std.specs.Prelude.{◌≡◌, Result, IfOk, ℕ, ◌+◌, ◌%◌, List, [], ◌∷◌, ◌++◌, length, take, drop}
use Rattle.octets.specs.Refusals.{too_long, no_room}
use Rattle.octets.specs.Outcome.{Outcome, accepted, refused, on_accepted, outcome}
use Rattle.octets.specs.Choice.{if_lt}
use Rattle.octets.specs.Over.{over}
use Rattle.packet.specs.Frame.{checksum_of}
use Rattle.octets.specs.declared.refusal.Refusal.{Refusal}
use Rattle.packet.specs.declared.Summed.{Summed}

-- how many bytes it wrote
abbrev pub wrote : Result Summed Refusal → Outcome ℕ
wrote answer = on_accepted (λ summed. summed.len) (outcome answer)

-- what each writer promises that adds up as it writes, beside what it leaves in the output
abbrev pub SumOf : List ℕ → Result Summed Refusal → Type 0
SumOf bytes answer = IfOk answer (λ summed. summed.sum ≡ checksum_of bytes)

-- `closed_into` where the packet's bytes add up to sum
abbrev pub closed_with : ℕ → ℕ → List ℕ → Outcome ℕ × List ℕ
closed_with n sum out =
    if_lt 254 n (refused too_long, out)
    (if_lt (length out) (n + 2) (refused no_room, out) (accepted (n + 2), over (((n + 1) ∷ take n (drop 1 out)) ++ ((n + 1 + sum) % 256 ∷ [])) out))
