-- `live::Auction::well_formed` meets its contract. Assumes nothing.
use mathlib.Core.Path.{◌≡◌, refl, sym, ◌∙◌}
use mathlib.Core.Bool.{Bool, true, false, ◌&&◌}
use mathlib.Core.Logic.{◌⊎◌, inl, inr}
use lib.ListN.{length}
use borrow.Author.Rules.{rules}
use Rattle.std.proofs.Common.{arith}
use Rattle.std.proofs.lemmas.Grind.{common_steps}
use Rattle.sets.proofs.Counting.{and_left, and_right}
use Rattle.reports.specs.Places.{all_fit}
use Rattle.live.specs.Auction.{counts_fit, unused_places, unused_bits, reported_fit, others_empty, well_formed}
use Rattle.live.specs.declared.Auction.{Auction}
use Rattle.live.proofs.Formed.{items-range, bidders-placed}
use Rattle.live.proofs.Places.{fits-clauses}
use Rattle.live.proofs.Auction.well_formed.Goals as goal

-- ---- the clauses, as the code groups them
abbrev report_clauses : Auction → Bool
report_clauses r = unused_places r && unused_bits r && reported_fit r && others_empty r

-- either the counts fail, or the test of the reports is that of their clauses
tested : (r : Auction) → length r.sets ≡ 64 → (counts_fit r ≡ false) ⊎ (all_fit r.items r.bidders r.sets r.nulls r.reported ≡ report_clauses r)
tested r long = go (counts_fit r) refl
  where
    go : (b : Bool) → counts_fit r ≡ b → (counts_fit r ≡ false) ⊎ (all_fit r.items r.bidders r.sets r.nulls r.reported ≡ report_clauses r)
    go true e = inr (fits-clauses r long (bidders-placed r e))
    go false e = inl e

pub rounds_fit-requires : goal.rounds_fit-requires
rounds_fit-requires c =
    let counts : counts_fit c.args.self ≡ true = grind (arith, common_steps) in
    (items-range c.args.self counts).1

pub tidied-requires : goal.tidied-requires
tidied-requires c =
    let r = c.args.self in
    let long : length r.sets ≡ 64 = search rules in
    let counts : counts_fit r ≡ true = grind (arith, common_steps) in
    let said : all_fit r.items r.bidders r.sets r.nulls r.reported ≡ true = grind (arith, common_steps) in
    let all : report_clauses r ≡ true = sym (fits-clauses r long (bidders-placed r counts)) ∙ said in
    let three = and_left (unused_places r && unused_bits r && reported_fit r) (others_empty r) all in
    let two = and_left (unused_places r && unused_bits r) (reported_fit r) three in
    record {
      counts = counts;
      prices = grind (arith, common_steps);
      places = and_left (unused_places r) (unused_bits r) two;
      bits = and_right (unused_places r) (unused_bits r) two;
    }

pub returns-then-rounds_fit : goal.returns-then-rounds_fit
unfolding well_formed
returns-then-rounds_fit c =
    let long : length c.args.self.sets ≡ 64 = search rules in
    let t = tested c.args.self long in
    grind (arith, common_steps)

pub returns-else-rounds_fit : goal.returns-else-rounds_fit
unfolding well_formed
returns-else-rounds_fit c =
    let long : length c.args.self.sets ≡ 64 = search rules in
    let t = tested c.args.self long in
    grind (arith, common_steps)
