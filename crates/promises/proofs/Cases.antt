-- The customer's examples: K1 to K9, example 6 as bytes, and those on numbers, from `cases`, the definitions and the examples of `agreement`. Assumes nothing.
use Prim.Native.Nat.{ℕ, ◌*◌}
use mathlib.Core.Path.{◌≡◌, refl, ap, ◌∙◌}
use mathlib.Core.Bool.{false}
use mathlib.Core.List.{List, [], ◌∷◌}
use lib.ListN.{length}
use Rattle.sets.specs.Count.{any_below}
use Rattle.rule.specs.Refusal.{first, bad_items, bad_bidders, bad_length, any_over}
use Rattle.rule.proofs.Refusal.{passed, first-nil, exact}
use Rattle.bids.specs.Refusal.{sealed_refusal}
use Rattle.reports.specs.Report.{saying}
use Rattle.differences.specs.Table.{opening}
use Rattle.differences.specs.Lent.{flat_all}
use Rattle.live.specs.Tables.{open_tables}
use Rattle.live.specs.declared.Auction.{Auction}
use Rattle.agreement.specs.Calls.{reporting, ending, Ran, run}
use Rattle.agreement.specs.Agreement.{opened_with}
use Rattle.agreement.proofs.Examples as examples
use Rattle.promises.specs.Cases.{Also, Reports, Cases}
use Rattle.promises.proofs.Tried.{tried}
use Rattle.promises.proofs.Example6.{example6}

-- 32 pans and 64 rakers: no number where lengths and amounts are in order
most : (start bids : List ℕ) → length start ≡ 32 → length bids ≡ 64 * 32 → any_over start ≡ false → any_over bids ≡ false → sealed_refusal 32 64 start bids ≡ 0
unfolding bad_items bad_bidders sealed_refusal
most start bids ls lb os ob =
    passed 1 (bad_items 32) _ refl ∙ passed 2 (bad_bidders 64) _ refl ∙ passed 3 (bad_length start 32) _ (exact start 32 ls)
    ∙ passed 3 (bad_length bids (64 * 32)) _ (exact bids (64 * 32) lb) ∙ passed 4 (any_over start) _ os ∙ passed 5 (any_over bids) _ ob ∙ first-nil

also : Also
unfolding first any_below bad_items bad_bidders bad_length any_over sealed_refusal
also =
    record {
      most = most;
      thirty_three = λ n start bids. refl;
      sixty_five = λ start bids. refl;
      both_above = refl;
    }

-- the record after the fallen rent, and the tables filled anew
reports : Reports
unfolding opened_with open_tables
reports =
    record {
      sixteen_nineteen = λ lent fit. examples.first-report-answers lent fit;
      sixteen_anew = λ lent fit.
          ap (λ (r : Auction). (run (record { auction = r; tables = flat_all 2 λ k. opening 1 }) (reporting 1 (saying false 1) ∷ reporting 2 (saying false 1) ∷ ending ∷ [])).answers)
          (examples.first-report-record lent fit)
          ∙ ap (λ (r : Ran). r.answers) examples.sixteen_anew;
      seventeen_nineteen = λ lent fit. examples.seventeen-answers lent fit;
    }

pub cases : Cases
cases = record { tried = tried; example6 = example6; also = also; reports = reports }
