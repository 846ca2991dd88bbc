-- Memories that are too large are refused.
use mathlib.Core.Path.{sym, ◌∙◌}
use Rattle.processor.proofs.Stores.{right-sizes}
use Rattle.saves.proofs.save.save.Goals as goal

pub save_sized-requires : goal.save_sized-requires
save_sized-requires c = right-sizes _ _ (sym c.too_large.ensures ∙ c.if-too_large.false)
