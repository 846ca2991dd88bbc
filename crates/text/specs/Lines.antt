-- Where a word of a line ends.
use Rattle.std.specs.Prelude.{ℕ, suc, List, [], ◌∷◌}
use Rattle.octets.specs.Choice.{if_eq}

-- how many bytes come before the first that is b, all of them where there is none
unfoldable pub until_of : ℕ → List ℕ → ℕ
until_of b [] = 0
until_of b (c ∷ l) = if_eq c b 0 (suc (until_of b l))

-- how many come first that are all b
unfoldable pub run_of : ℕ → List ℕ → ℕ
run_of b [] = 0
run_of b (c ∷ l) = if_eq c b (suc (run_of b l)) 0
