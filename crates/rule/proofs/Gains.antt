-- Who has an option of their demand has their highest surplus from it: so the gains from names that fit are the surpluses found with the demands. THEORY.md 2.16.
-- Assumes nothing.
use Prim.Native.Nat.{ℕ, suc, ◌+◌, ◌<◌}
use mathlib.Core.Path.{◌≡◌, sym, ap, ◌∙◌}
use mathlib.Core.Bool.{true}
use mathlib.Core.List.{List}
use native.Mathlib.Omega.{arith}
use native.Mathlib.Nat.{zero-add}
use lib.ListN.{length, get_or, length-map}
use Rattle.sets.proofs.Lists.{tabulate-at, is-tabulate}
use Rattle.rule.specs.Sheet.{amount, row, Sheet}
use Rattle.rule.specs.Demand.{Demand, surplus, demands, surpluses, wants}
use Rattle.rule.specs.Excess.{above_floors}
use Rattle.rule.specs.Assignment.{option, fits}
use Rattle.rule.specs.Closing.{FitsAt, assignment_at}
use Rattle.rule.specs.Gains.{gain, gains_at, Gains}
use Rattle.rule.proofs.Zeros.{demanded-best}
use Rattle.rule.proofs.AtPrices.{map_at, nth-demands, demands-length}
use Rattle.rule.proofs.Highest.{surplus-most, surplus-some, best-surplus}
use Rattle.rule.proofs.Fitting.{fits-use}

module _ (m : ℕ) (bids : List (List ℕ)) (p : List ℕ) where
  pub surpluses-length : length (surpluses m bids p) ≡ length bids
  unfolding surpluses
  surpluses-length = length-map bids (surplus m p)

  pub surplus-at : (b : ℕ) → b < length bids → get_or (surpluses m bids p) b 0 ≡ surplus m p (row bids b)
  unfolding surpluses
  surplus-at b l = map_at (surplus m p) 0 bids b l

-- options that fit, at prices p: price and highest surplus make up the bid for each bidder's
module _ (m above : ℕ) (bids : List (List ℕ)) (p xs : List ℕ) (fitting : fits m above (demands m bids p) xs ≡ true) (b : ℕ) (l : b < length bids) where
  has-highest : amount (row bids b) (option xs b) ≡ amount p (option xs b) + surplus m p (row bids b)
  has-highest =
      let f = fits-use m above (demands m bids p) xs fitting in
      let lb : b < length (demands m bids p) = omega (arith, l, demands-length m bids p) in
      let small : option xs b < suc m = f.assigns.small b lb in
      best-surplus m p (row bids b) (option xs b) small
      (demanded-best m p (row bids b) (option xs b) small (sym (ap (λ (d : Demand). wants d (option xs b)) (nth-demands m bids p b l)) ∙ f.wanted b lb))

  gain-is : gain bids p xs b ≡ surplus m p (row bids b)
  unfolding gain
  gain-is = omega (arith, has-highest)

pub gains : (s : Sheet) (p : List ℕ) → FitsAt s p (assignment_at s p) → Gains s p
unfolding gains_at
gains s p fitting = record { found = found; exact = λ b l. omega (arith, at b l, highest b l); most = λ b i l k. omega (arith, at b l, surplus-most s.items p (row s.bids b) i k) }
  where
    above : ℕ
    above = above_floors s.items s.floors p

    highest : (b : ℕ) → b < length s.bids
        → amount (row s.bids b) (option (assignment_at s p) b) ≡ amount p (option (assignment_at s p) b) + surplus s.items p (row s.bids b)
    highest = has-highest s.items above s.bids p (assignment_at s p) fitting

    at : (b : ℕ) → b < length s.bids → get_or (gains_at s p) b 0 ≡ surplus s.items p (row s.bids b)
    at b l =
        tabulate-at (length s.bids) (gain s.bids p (assignment_at s p)) 0 b 0 l
        ∙ ap (gain s.bids p (assignment_at s p)) (zero-add b)
        ∙ gain-is s.items above s.bids p (assignment_at s p) fitting b l

    found : gains_at s p ≡ surpluses s.items s.bids p
    found =
        sym (is-tabulate (length s.bids) (surpluses s.items s.bids p) (gain s.bids p (assignment_at s p)) 0 (surpluses-length s.items s.bids p) one)
      where
        one : (b : ℕ) → b < length s.bids → get_or (surpluses s.items s.bids p) b 0 ≡ gain s.bids p (assignment_at s p) (0 + b)
        one b l =
            surplus-at s.items s.bids p b l
            ∙ sym (gain-is s.items above s.bids p (assignment_at s p) fitting b l)
            ∙ ap (gain s.bids p (assignment_at s p)) (sym (zero-add b))

-- the last two sentences leave nothing open: whatever gains they hold of are the highest surpluses. One says that some option leaves as much, the other that none
-- leaves more
pub exact-most : (s : Sheet) (p : List ℕ) → FitsAt s p (assignment_at s p) → Gains s p → (b : ℕ) → b < length s.bids
    → get_or (gains_at s p) b 0 ≡ surplus s.items p (row s.bids b)
exact-most s p fitting g b l =
    let line : List ℕ = row s.bids b in
    let has : ℕ = option (assignment_at s p) b in
    let named = fits-use s.items (above_floors s.items s.floors p) (demands s.items s.bids p) (assignment_at s p) fitting in
    let small : has < suc s.items = named.assigns.small b (omega (arith, l, demands-length s.items s.bids p)) in
    let w = surplus-some s.items p line in
    omega (arith, g.exact b l, surplus-most s.items p line has small, g.most b w.0 l w.1, w.2)
