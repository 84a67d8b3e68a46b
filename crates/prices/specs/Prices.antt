-- Prices after a move, as the code holds them: 32 places of 16 bits. Assumes nothing: this is a definition.
use Rattle.std.specs.Prelude.{ℕ, ◌+◌, min, List}
use Rattle.sets.specs.Bit.{has}
use Rattle.sets.specs.Count.{to_nat}
use Rattle.sets.specs.Lists.{tabulate}
use Rattle.rule.specs.Sheet.{amount}

-- the rule's `raise` at 32 items, but that a price of 65,535, the highest that 16 bits hold, stays; no auction has prices above 4,095
unfoldable pub raise_places : List ℕ → ℕ → List ℕ
raise_places prices s = tabulate 32 (λ i. min 65535 (amount prices i + to_nat (has s i))) 1
