-- A report, and when 8 refuses it: document 01, "The live letting" and "Turned down by the input". Assumes nothing: these are definitions.
use Rattle.std.specs.Prelude.{ℕ, suc, Bool, true, false, ◌&&◌, ◌||◌, not, leb, eqb}
use Rattle.sets.specs.Count.{any_below}
use Rattle.sets.specs.Bit.{has}
use Rattle.rule.specs.Demand.{Demand}

-- a report that says null yes or no, beside an item set
unfoldable pub saying : (null : Bool) (items : ℕ) → Demand
saying null items = record { null = null; items = items }

-- a report is empty if it says no and the set is empty
unfoldable pub is_empty : Demand → Bool
is_empty d = not d.null && eqb d.items 0

-- it holds an item beyond the count m
unfoldable pub beyond : ℕ → Demand → Bool
beyond m d = any_below 32 λ k. leb m k && has d.items (suc k)

-- 8: a report that is empty or holds an item beyond the count
unfoldable pub unfit : ℕ → Demand → Bool
unfit m d = is_empty d || beyond m d

-- ---- two reports, or a report and a demand, are the same

unfoldable pub same_bool : Bool → Bool → Bool
same_bool true b = b
same_bool false b = not b

unfoldable pub same_demand : Demand → Demand → Bool
same_demand d e = same_bool d.null e.null && eqb d.items e.items
