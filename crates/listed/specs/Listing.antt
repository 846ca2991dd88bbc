-- The listing of a save. "The listing program reads one save from standard input, checks 5, judges it against the save's own
-- sizes (over 65,536: 14), and prints it, or only `refused N`."
use Rattle.std.specs.Prelude.{ℕ, List, [], ◌∷◌, ◌++◌, length}
use Rattle.octets.specs.Refusals.{too_long}
use Rattle.octets.specs.Outcome.{Outcome, refused, on_accepted}
use Rattle.octets.specs.Choice.{if_lt}
use Rattle.octets.specs.Over.{settle}
use Rattle.text.specs.Digits.{decimal, hex_digits}
use Rattle.processor.specs.Memory.{Store, to_eeprom, to_settings}
use Rattle.streams.specs.declared.shape.Shape.{Shape}
use Rattle.streams.specs.Judge.{Save, judged_of}

abbrev pub space : ℕ
space = 32

-- "each line ends with LF"
abbrev pub line_end : List ℕ
line_end = 10 ∷ []

-- `shape `, `memory `, `setting `, `end `
abbrev pub shape_name : List ℕ
shape_name = 115 ∷ 104 ∷ 97 ∷ 112 ∷ 101 ∷ 32 ∷ []

abbrev pub memory_name : List ℕ
memory_name = 109 ∷ 101 ∷ 109 ∷ 111 ∷ 114 ∷ 121 ∷ 32 ∷ []

abbrev pub setting_name : List ℕ
setting_name = 115 ∷ 101 ∷ 116 ∷ 116 ∷ 105 ∷ 110 ∷ 103 ∷ 32 ∷ []

abbrev pub end_name : List ℕ
end_name = 101 ∷ 110 ∷ 100 ∷ 32 ∷ []

-- two numbers behind a name: "All other numbers are decimal"
unfoldable pub pair_line : List ℕ → ℕ → ℕ → List ℕ
pair_line name a b = name ++ (decimal a ++ (space ∷ (decimal b ++ line_end)))

unfoldable pub setting_line : ℕ → ℕ → List ℕ
setting_line a w = setting_name ++ (decimal a ++ (space ∷ (hex_digits 8 w ++ line_end)))

unfoldable pub end_line : ℕ → List ℕ
end_line n = end_name ++ (decimal n ++ line_end)

-- "address and byte count; address and word in eight upper-case hex digits"
abbrev pub write_line : Store → List ℕ
write_line (to_eeprom a b) = pair_line memory_name a (length b)
write_line (to_settings a w) = setting_line a w

abbrev pub write_lines : List Store → List ℕ
write_lines [] = []
write_lines (w ∷ ws) = write_line w ++ write_lines ws

-- "E and S; .. frame count"
unfoldable pub text_for : Shape → List Store → ℕ → List ℕ
text_for shape ws n = pair_line shape_name shape.eeprom shape.settings ++ (write_lines ws ++ end_line n)

-- each frame is one write
abbrev pub text_of : Save → List ℕ
text_of save = text_for save.shape save.writes (length save.writes)

-- "listing input over 32,768" 5
abbrev pub listed_into : List ℕ → List ℕ → Outcome ℕ × List ℕ
listed_into l out = if_lt 32768 (length l) (refused too_long, out) (settle (on_accepted text_of (judged_of l)) (λ text. text) out)
