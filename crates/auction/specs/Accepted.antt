-- The sheet that accepted numbers are. Assumes nothing: these are definitions.
use Rattle.rule.specs.Sheet.{Sheet}
use Rattle.bids.specs.Lent.{sheet_above}
use Rattle.auction.specs.declared.Accepted.{Accepted}

abbrev pub sheet : Accepted → Sheet
sheet a = sheet_above a.items a.bidders a.start.now a.floors.now a.bids.now
