-- The matching's theorems for the floors above, all about matches and sets, with no code. d has one item set for each of 64 bidders.

-- the decomposition. `decompose d` is a match of which `Decomposition` says, for x the largest set in excess demand: each item of x is held, by a
-- bidder that wants nothing outside x (`inside`), and who wants something outside x holds something outside x (`outside`); since nobody holds
-- two, those are placed one to one. `largest-holds`: every set in excess demand is a part of the largest
pub use Rattle.matching.proofs.Decomposition.{Seat, Decomposition, decompose, largest-holds}
-- Hall's theorem. `hall`: if no set is in excess demand, some match places every bidder that wants something. `hall-back`: and only then
unfoldable pub use Rattle.matching.proofs.Hall.{AllPlaced}
pub use Rattle.matching.proofs.Hall.{hall, hall-back}
-- `both-sides`: if some match places these bidders, and some match holds these items, one match does both
pub use Rattle.matching.proofs.BothSides.{both-sides}
-- `largest-wide`: the largest set over m items and n bidders is the one over 32 and 64, if the other bidders want nothing and nobody wants
-- the other items
pub use Rattle.matching.proofs.Wider.{largest-wide}
