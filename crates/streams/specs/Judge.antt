-- Judging a save: "the first fault going forward".
use Rattle.std.specs.Prelude.{ℕ, List, length, drop}
use Rattle.octets.specs.Refusals.{too_long, wrong_sizes}
use Rattle.octets.specs.Outcome.{Outcome, accepted, refused, and_then}
use Rattle.octets.specs.Choice.{pick, if_lt, if_eq}
use Rattle.processor.specs.Memory.{Store, too_large}
use Rattle.streams.specs.Stream.{stream_of, end_of, shape_of}
use Rattle.streams.specs.declared.shape.Shape.{Shape}
use Rattle.streams.specs.Means.{all_mean}

-- the writes of the fields behind the first
unfoldable pub fields_mean : ℕ → ℕ → List ℕ → Outcome (List Store)
fields_mean e s l =
    and_then (all_mean e s (stream_of l).frames) (λ (ws : List Store). and_then (end_of (length ws) (stream_of l).tail) (λ u. accepted ws))

pub record Save : Type 0 where
  pub shape : Shape
  pub writes : List Store

-- the writes of a whole save, for memories of the sizes in its first field
abbrev pub read_for : List ℕ → Shape → Outcome Save
read_for l shape = and_then (fields_mean shape.eeprom shape.settings (drop 11 l)) (λ (ws : List Store). accepted (record { shape = shape; writes = ws }))

-- "5", before a field is looked at
abbrev pub if_short : List ℕ → Outcome Save → Outcome Save
if_short l next = if_lt 16777216 (length l) (refused too_long) next

-- "checks 5, judges it against the save's own sizes (over 65,536: 14)"
abbrev pub judged_sized : List ℕ → Shape → Outcome Save
judged_sized l shape = pick (too_large shape.eeprom shape.settings) (refused wrong_sizes) (read_for l shape)

unfoldable pub judged_of : List ℕ → Outcome Save
judged_of l = if_short l (and_then (shape_of l) (judged_sized l))

-- For memories of E bytes and S words: "Order: 14, 5, then the first fault going forward", in it "sizes different 14"
abbrev pub read_sized : ℕ → ℕ → List ℕ → Shape → Outcome Save
read_sized e s l shape = if_eq shape.eeprom e (if_eq shape.settings s (read_for l shape) (refused wrong_sizes)) (refused wrong_sizes)

unfoldable pub checked_for : ℕ → ℕ → List ℕ → Outcome Save
checked_for e s l = pick (too_large e s) (refused wrong_sizes) (if_short l (and_then (shape_of l) (read_sized e s l)))
