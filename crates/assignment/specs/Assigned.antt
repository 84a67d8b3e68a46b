-- The names in 64 places: document 01, "Names". Assumes nothing: this is a definition.
use Rattle.std.specs.Prelude.{ℕ, true, false, List, leb, replicate}
use Rattle.sets.specs.Lists.{places}
use Rattle.rule.specs.Assignment.{assignment}
use Rattle.round.specs.Reports.{reports}

-- the names of the reports of n bidders, `above` being the items of price above the floor, and zeros past them. More than 64 bidders have no places: zeros only
unfoldable pub assigned : List ℕ → ℕ → ℕ → ℕ → List ℕ
assigned sets nulls above n = elim (leb n 64) [ true ↦ places 64 (assignment 32 above (reports n sets nulls)) | false ↦ replicate 64 0 ]
