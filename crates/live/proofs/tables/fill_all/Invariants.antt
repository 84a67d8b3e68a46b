-- `live::tables::fill_all` meets its contract: the tables of the bidders done are the opening's. Assumes nothing.
use Prim.Native.Nat.{◌*◌}
use mathlib.Core.Path.{◌≡◌}
use lib.ListN.{take}
use Rattle.differences.specs.Table.{opening}
use Rattle.differences.specs.Lent.{flat_all}
use Rattle.live.proofs.tables.fill_all.Given as goal

abbrev pub invariant-loop-k : goal.invariant-loop-k
invariant-loop-k l = take (l.k * 1089) l.tables ≡ flat_all l.k (λ k. opening l.items)
