-- Request #107, from the theorems of `differences`, `live` and `agreement`. Assumes nothing.
use Prim.Native.Nat.{ℕ, zero, suc}
use mathlib.Core.Path.{◌≡◌, refl, ap, ◌∙◌}
use mathlib.Core.Bool.{true, not}
use mathlib.Core.List.{List, [], ◌∷◌}
use lib.Dec.{eqb}
use lib.IntN.{ℤ}
use Rattle.sets.proofs.Tests.{and_right}
use Rattle.rule.specs.Sheet.{Sheet}
use Rattle.rule.specs.Round.{Round, raised, lowered, closed}
use Rattle.differences.specs.Table.{meets, largest_table, reached, opening, is_difference, zero_beyond, in_range, table_fits}
use Rattle.differences.specs.Allowed.{explains, allows, narrowed, unexplained}
use Rattle.differences.specs.Lent.{flat, rows_of, part, table_at, flat_all}
use Rattle.differences.proofs.Laws as laws
use Rattle.live.specs.Tables.{tables_fit, open_tables, narrowed_tables}
use Rattle.reports.proofs.Same as same
use Rattle.live.specs.Calls.{Ending, gives, refused, end_number, end_answer, end_tables, narrowed_by, round_by}
use Rattle.live.specs.declared.Auction.{Auction}
use Rattle.live.proofs.Opening as opens
use Rattle.live.proofs.Explaining as explaining
use Rattle.agreement.specs.Calls.{Call, Answer, told, ended, shown, call, run}
use Rattle.agreement.specs.Agreement.{opened_with}
use Rattle.agreement.specs.Explained.{ExplainsStanding, never_at_end}
use Rattle.agreement.specs.Explained as claim
use Rattle.agreement.proofs.Coherent as lists
use Rattle.promises.specs.Tables.{WithoutAtEnd, TableLaws, Lent, Explains, Coherent, Request107}
use Rattle.promises.specs.Demand3Live.{after_opening}
use Rattle.promises.proofs.Live.{no-round, given_by}
use Rattle.promises.proofs.Demand3Live.{other, without, closes_as}

tables : TableLaws
unfolding tables_fit rows_of part table_at flat flat_all meets largest_table reached opening is_difference zero_beyond in_range narrowed allows explains table_fits unexplained
tables =
    record {
      table-at = λ ts k. refl;
      tables_none = λ f. refl;
      tables_next = λ n f. refl;
      rows_next = λ row rows. refl;
      meets_is = λ m t b. refl;
      largest_is = λ m f. refl;
      opening_is = λ m. refl;
      opening_met = laws.opening_met;
      narrowed_is = λ m t p d. refl;
      narrowed_met = laws.narrow-meets;
      zero-beyond = λ m t. refl;
      in-range = λ m t. refl;
      all-fit = λ r ts. refl;
      fits_is = λ m t. refl;
      same_said = same.same-demand;
      same_self = same.same_self;
      nineteen_is = λ m t p d. refl;
    }

-- what an end that gives this round, or this number, leaves
left_by : (r : Auction) (ts : List ℤ) (x : Round) → end_answer r ts ≡ gives x → end_tables r ts ≡ narrowed_by r ts x
unfolding end_tables
left_by r ts x e = let g = given_by r ts x e in ap (λ (n : ℕ). elim n [ zero ↦ narrowed_by r ts (round_by r) | suc j ↦ ts ]) g.0 ∙ ap (narrowed_by r ts) g.1

left-refused : (r : Auction) (ts : List ℤ) (x : ℕ) → end_answer r ts ≡ refused x → end_tables r ts ≡ ts
unfolding end_answer end_tables
left-refused r ts x e = go (end_number r ts) e
  where
    go : (n : ℕ) → ◌≡◌ {A = Ending} (elim n [ zero ↦ gives (round_by r) | suc j ↦ refused (suc j) ]) (refused x)
        → ◌≡◌ {A = List ℤ} (elim n [ zero ↦ narrowed_by r ts (round_by r) | suc j ↦ ts ]) ts
    go zero h = absurd (no-round (round_by r) x h)
    go (suc j) h = refl

lent : Lent
unfolding call open_tables narrowed_by narrowed_tables
lent =
    record {
      filled = λ m n start floors ts e. opens.fills m n start floors ts e;
      by_report = λ h b d. refl;
      by_clear = λ h. refl;
      by_read = λ h out. refl;
      by_end = λ h. refl;
      by_raise = λ r ts x e. left_by r ts (raised x) e;
      by_lower = λ r ts x e. left_by r ts (lowered x) e;
      by_close = λ r ts e. left_by r ts closed e;
      by_refusal = left-refused;
    }

at-end : (n : ℕ) (xs : List Answer) → never_at_end n xs ≡ true → WithoutAtEnd n xs
unfolding WithoutAtEnd never_at_end
at-end n [] e = tt
at-end n (told x ∷ rest) e = at-end n rest e
at-end n (ended (gives r) ∷ rest) e = at-end n rest e
at-end n (ended (refused x) ∷ rest) e = (other n x (never_at_end n rest) e, at-end n rest (and_right (not (eqb x n)) (never_at_end n rest) e))
at-end n (shown x out ∷ rest) e = at-end n rest e

module _ (m n : ℕ) (start floors : List ℕ) (ts : List ℤ) (calls : List Call) (c : claim.Coherent m n start floors ts calls) where
  to : (s : Sheet) → Explains m n start floors ts calls s → claim.ExplainedBy m n start floors ts calls s
  unfolding opened_with ExplainsStanding
  to s x =
      record {
        within = x.within;
        same_items = x.same_items;
        same_bidders = x.same_bidders;
        same_start = x.same_start;
        same_floors = x.same_floors;
        rounds = x.rounds;
        standing = x.standing;
      }

  hangs-together : Coherent m n start floors ts calls
  unfolding opened_with ExplainsStanding
  hangs-together =
      let y = c.explained in
      record {
        allows_just = c.allows_just;
        no_eleven = without 11 _ c.no_eleven;
        no_sixteen = without 16 _ c.no_sixteen;
        no_seventeen = without 17 _ c.no_seventeen;
        no_nineteen = at-end 19 _ c.no_nineteen;
        some_sheet = (
          c.sheet,
          record {
            within = y.within;
            same_items = y.same_items;
            same_bidders = y.same_bidders;
            same_start = y.same_start;
            same_floors = y.same_floors;
            rounds = y.rounds;
            standing = y.standing;
          },
        );
        same_answers = λ s x. ((c.let_as s (to s x)).after, (c.let_as s (to s x)).stays);
        same_close = λ s x shut. closes_as s (run (after_opening m n start floors ts) calls).last.auction ((c.let_as s (to s x)).closes shut);
      }

pub request107 : Request107
request107 =
    record {
      tables = tables;
      lent = lent;
      coherent = λ m n start floors ts e calls. hangs-together m n start floors ts calls (lists.coherent m n start floors ts e calls);
      no_seventeen = explaining.no_seventeen;
    }
