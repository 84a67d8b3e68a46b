-- Demand 2, from the definitions and the theorems of `rule`. Assumes nothing.
use Prim.Native.Nat.{ℕ, zero, suc, ◌+◌}
use mathlib.Core.Path.{◌≡◌, refl, sym, ◌∙◌, subst}
use mathlib.Core.Bool.{true}
use mathlib.Core.List.{List, [], ◌∷◌}
use mathlib.Core.Logic.{inl, inr}
use native.Mathlib.Omega.{arith}
use lib.ListN.{length}
use native.Mathlib.Nat.{not-suc-le-zero}
use Rattle.sets.specs.Count.{count}
use Rattle.sets.specs.Bit.{bit, is_set, has, size}
use Rattle.sets.proofs.Members as members
use Rattle.rule.specs.Sheet.{Sheet, amount}
use Rattle.rule.specs.Demand.{Demand, surplus_at_least, best, demands, wants}
use Rattle.rule.specs.Excess.{bidders, overdemanded, weakly_underdemanded, crowded, in_excess, in_positive_excess}
use Rattle.rule.specs.Round.{opening, after, path}
use Rattle.rule.specs.Assignment.{option, holders, is_assignment, fits, assignment, lower, over_null, NotAfter, same, here, later, total, floor_total}
use Rattle.rule.specs.Closing.{assignment_at, Closing, excess_demand_at, excess_supply_at, round_of}
use Rattle.rule.proofs.Zeros as zeros
use Rattle.rule.proofs.Largest as largest
use Rattle.rule.proofs.EmptySets as empty
use Rattle.rule.proofs.Closing.{closing}
use Rattle.rule.proofs.Order as order
use Rattle.rule.proofs.Fitting as fitting
use Rattle.promises.specs.Demand2.{Demands, Sets, NoLater, Names, AtPrices, Rounds, Demand2}
use Rattle.promises.proofs.AtClose.{at_close, raised_by, lowered_by}
use Rattle.promises.proofs.Live.{live}

demanded : Demands
unfolding amount surplus_at_least best wants
demanded =
    record {
      null_is_free = λ xs. refl;
      amount_is = λ xs k. refl;
      best_is = λ m p b i. refl;
      null_demanded = zeros.null_is;
      item_demanded = zeros.item-is;
      null_said = λ d. refl;
      item_said = λ d k. refl;
    }

sets : Sets
unfolding bit is_set has count size bidders overdemanded weakly_underdemanded crowded in_excess in_positive_excess
sets =
    record {
      null_outside = λ s. refl;
      first_bit = λ s. refl;
      next_bit = λ s k. refl;
      set-of = members.has-set_of;
      set_of_these = members.set_of-lt;
      size_none = λ s. refl;
      size_next = λ m s. refl;
      counted = λ ds f. refl;
      part_is = λ m t s. refl;
      something_is = λ m t d. refl;
      nothing_is = λ m s d. refl;
      nothing_above_is = λ m above s d. refl;
      in-excess = λ m ds s. refl;
      rising_in_excess = largest.demand-excess;
      rising_largest = largest.demand-has;
      rising_unique = largest.demand-only;
      in_tilde = λ m above ds s. refl;
      tilde_in_excess = largest.positive-excess;
      tilde_largest = largest.positive_has;
      tilde_unique = largest.positive-only;
      falling_is = largest.supply-has;
      over_is = λ m ds s. refl;
      under_is = λ m above ds s. refl;
      rising_empty = empty.rising-empty-at;
      falling_empty = empty.falling_empty;
    }

-- the order of names is that of `rule`
to-order : (xs ys : List ℕ) → NotAfter xs ys → NoLater xs ys
unfolding NoLater
to-order [] [] same = tt
to-order [] (y ∷ ys) never = elim never [ ]
to-order (x ∷ xs) [] never = elim never [ ]
to-order (x ∷ xs) (y ∷ ys) (here (lower l)) = inl (omega arith, inr l)
to-order (x ∷ xs) (y ∷ ys) (here over_null) = inl (omega arith, inl refl)
to-order (x ∷ xs) (y ∷ ys) (later h) = inr (refl, to-order xs ys h)

from-order : (xs ys : List ℕ) → NoLater xs ys → NotAfter xs ys
unfolding NoLater
from-order [] [] h = same
from-order [] (y ∷ ys) h = absurd h
from-order (x ∷ xs) [] h = absurd h
from-order (zero ∷ xs) (y ∷ ys) (inl (p, q)) = absurd (not-suc-le-zero p)
from-order (suc x ∷ xs) (y ∷ ys) (inl (p, inl e)) = subst (λ (z : ℕ). NotAfter (suc x ∷ xs) (z ∷ ys)) (sym e) (here over_null)
from-order (suc x ∷ xs) (y ∷ ys) (inl (p, inr l)) = here (lower l)
from-order (x ∷ xs) (y ∷ ys) (inr (e, h)) = subst (λ (z : ℕ). NotAfter (x ∷ xs) (z ∷ ys)) e (later (from-order xs ys h))

-- of any demands or reports, the first in order of those that fit
module _ (m above : ℕ) (ds : List Demand) (xs : List ℕ) (e : fits m above ds xs ≡ true) where
  listed : order.Listed m (length ds) xs
  listed = fitting.assigns-listed m (length ds) xs (fitting.fits-use m above ds xs e).assigns

  first_fits : fits m above ds (assignment m above ds) ≡ true
  unfolding assignment
  first_fits = (order.choose-passes m (length ds) (fits m above ds) (order.some-make m (length ds) (fits m above ds) xs listed e)).1

  none_before : NoLater (assignment m above ds) xs
  unfolding assignment
  none_before = to-order (assignment m above ds) xs (order.choose-first m (length ds) (fits m above ds) xs listed e)

names : Names
unfolding option holders is_assignment fits total floor_total
names =
    record {
      option_is = λ xs b. refl;
      holders_are = λ xs i. refl;
      assignment_is = λ m n xs. refl;
      fits_is = λ m above ds xs. refl;
      first_fits = first_fits;
      none_before = none_before;
      total_is = λ bids xs. refl;
      floors_are = λ floors xs. refl;
    }

at_prices : AtPrices
unfolding demands
at_prices =
    record {
      demands_are = λ s p. refl;
      rising_is = λ s p. refl;
      falling_is = λ s p. refl;
      fits_if = λ s p xs e. e;
      fits_only_if = λ s p xs e. e;
      names_are = λ s p. refl;
    }

rounds : (s : Sheet) → (c : Closing s) → Rounds s c.ups c.downs c.prices
unfolding opening after path
rounds s c =
    record {
      from_start = refl;
      rises = c.rises;
      up_by_one = λ k l. raised_by s.items (path s k) (excess_demand_at s (path s k).prices) (round_of s k) (c.rises k l);
      before_turn = c.before_turn;
      from_turn = c.calm;
      falls = c.falls;
      down_by_one = λ k l. lowered_by s.items (path s (c.ups + k)) (excess_supply_at s (path s (c.ups + k)).prices) (round_of s (c.ups + k)) (c.falls k l);
      closes_if = c.closes_where;
      closes_only_if = c.closes_only;
      closes = c.closes;
      not_before = c.before_close;
      stays = c.stays;
      at_close = c.at_close ∙ sym c.close_is;
      no_excess = c.no_excess;
      no_supply = c.no_supply;
      names_fit = c.fitting;
      names_first = λ xs e. to-order (assignment_at s c.prices) xs (c.first xs e);
      names_only = λ xs e h. c.only_first xs e (λ ys f. from-order xs ys (h ys f));
    }

pub demand2 : Demand2
demand2 = record { demands = demanded; sets = sets; names = names; at_prices = at_prices; rounds = λ s e. at_close s (closing s e) (Rounds s) (rounds s (closing s e)); live = live }
