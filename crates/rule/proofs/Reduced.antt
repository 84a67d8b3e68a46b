-- Bids reduced at prices: at all prices from there down the falling set is the same as with the bids themselves, and at those prices themselves no set is
-- overdemanded. So the falls of falling first are the falls of an auction that has no rises. THEORY.md 2.14. Assumes nothing.
use Prim.Native.Nat.{ℕ, zero, suc, ◌+◌, ◌-◌, ◌≤◌, ◌<◌}
use mathlib.Core.Path.{◌≡◌, refl, sym, ap, ap₂, ◌∙◌, subst, fun_ext}
use mathlib.Core.Bool.{Bool, true, false, ◌&&◌, not}
use mathlib.Core.List.{List, [], ◌∷◌, map}
use native.Mathlib.Omega.{arith}
use native.Mathlib.Nat.{not-suc-le-zero, le_of_suc-le-suc}
use native.Mathlib.Decide.{dec_le}
use lib.ListN.{length, length-map}
use Rattle.sets.specs.Bit.{has, set_of}
use Rattle.sets.specs.Lists.{tabulate}
use Rattle.sets.proofs.Counting.{is_false, not-both, count_none, and-right-false, together}
use Rattle.sets.proofs.Members.{set_of-cong}
use Rattle.sets.proofs.Lists.{tabulate-length, tabulate-at}
use Rattle.rule.specs.Sheet.{amount, row, Sheet, greatest}
use Rattle.rule.specs.Demand.{surplus, demand, demands, wants}
use Rattle.rule.specs.Excess.{excess_supply}
use Rattle.rule.specs.Reduced.{reduced_line, reduced_bids, reduced}
use Rattle.rule.proofs.Limits.{Amounts, rows-most, Limits, amount-null, amount-beyond}
use Rattle.rule.proofs.Union.{Part, sub-use}
use Rattle.rule.proofs.Overdemand.{within, Enough}
use Rattle.rule.proofs.Surplus.{bid_of, wanted, wants-make}
use Rattle.rule.proofs.Profile.{inside, excess_of, positive-profile}
use Rattle.rule.proofs.Zeros.{best-use, best-make, demanded-best, best-demanded}
use Rattle.rule.proofs.Highest.{surplus-most, surplus-some}

-- ---- the highest surplus of a line at prices, and the line less it

module _ (m : ℕ) (p r : List ℕ) where
  abbrev top : ℕ
  top = surplus m p r

  pub reduced-at : (i : ℕ) → i < suc m → amount (reduced_line m p r) i ≡ amount r i - top
  unfolding reduced_line amount
  reduced-at zero l = omega arith
  reduced-at (suc k) l =
      let e : 1 + k ≡ suc k = omega arith in
      tabulate-at m (λ i. amount r i - top) 1 k 0 (omega arith) ∙ ap (λ (i : ℕ). amount r i - top) e

  -- an item of price above 0 is demanded, at prices from there down, with the one line if and only if with the other
  module _ (q : List ℕ) (down : (i : ℕ) → i < suc m → amount q i ≤ amount p i) (i : ℕ) (l : i < suc m) (up : 0 < amount q i) where
    abbrev less : List ℕ
    less = reduced_line m p r

    to-reduced : wants (demand m q r) i ≡ true → wants (demand m q less) i ≡ true
    to-reduced e = best-demanded m q less i l (omega (arith, up, high, reduced-at i l)) (best-make m q less i (λ j lj. omega (arith, high, best-i j lj, reduced-at i l, reduced-at j lj)))
      where
        best-i : (j : ℕ) → j < suc m → amount r j + amount q i ≤ amount r i + amount q j
        best-i = best-use m q r i (demanded-best m q r i l e)

        high : top + amount q i ≤ amount r i
        high = let w = surplus-some m p r in omega (arith, best-i w.0 w.1, w.2, down w.0 w.1)

    from-reduced : wants (demand m q less) i ≡ true → wants (demand m q r) i ≡ true
    from-reduced e = best-demanded m q r i l (omega (arith, up, high, reduced-at i l)) (best-make m q r i (λ j lj. omega (arith, up, high, best-i j lj, reduced-at i l, reduced-at j lj)))
      where
        best-i : (j : ℕ) → j < suc m → amount less j + amount q i ≤ amount less i + amount q j
        best-i = best-use m q less i (demanded-best m q less i l e)

        high : amount q i ≤ amount less i
        high = omega (arith, best-i 0 (omega arith), amount-null less, amount-null q)

    same-wants : wants (demand m q less) i ≡ wants (demand m q r) i
    same-wants = together _ _ from-reduced to-reduced

  -- and of `above`, whose prices are above 0, the same is demanded
  module _ (q : List ℕ) (down : (i : ℕ) → i < suc m → amount q i ≤ amount p i) (above : ℕ) (up : (i : ℕ) → i < suc m → has above i ≡ true → 0 < amount q i) where
    same-inside : inside m above (demand m q (reduced_line m p r)) ≡ inside m above (demand m q r)
    unfolding inside wants
    same-inside = set_of-cong m _ _ (λ k l. at k (omega arith) (has above (suc k)) refl)
      where
        at : (k : ℕ) → suc k < suc m → (b : Bool) → has above (suc k) ≡ b
            → wants (demand m q (reduced_line m p r)) (suc k) && has above (suc k) ≡ wants (demand m q r) (suc k) && has above (suc k)
        at k l true e = ap (λ (x : Bool). x && has above (suc k)) (same-wants q down (suc k) l (up (suc k) l e))
        at k l false e = and-right-false (wants (demand m q (reduced_line m p r)) (suc k)) (has above (suc k)) e ∙ sym (and-right-false (wants (demand m q r) (suc k)) (has above (suc k)) e)

-- only the prices of the options matter
pub same-reduced : (m : ℕ) (p q : List ℕ) → ((i : ℕ) → amount p i ≡ amount q i) → (bids : List (List ℕ)) → reduced_bids m p bids ≡ reduced_bids m q bids
unfolding reduced_bids reduced_line surplus
same-reduced m p q e bids =
    ap (λ (f : ℕ → ℕ). map (λ (r : List ℕ). tabulate m (λ i. amount r i - greatest m (λ j. amount r j - f j)) 1) bids) (fun_ext e)

-- ---- all bidders

module _ (m : ℕ) (p q : List ℕ) (down : (i : ℕ) → i < suc m → amount q i ≤ amount p i) (above : ℕ) (up : (i : ℕ) → i < suc m → has above i ≡ true → 0 < amount q i) where
  same_map : (bids : List (List ℕ)) → map (inside m above) (demands m (reduced_bids m p bids) q) ≡ map (inside m above) (demands m bids q)
  unfolding demands reduced_bids
  same_map [] = refl
  same_map (r ∷ bids) = ap₂ (λ (x : ℕ) (xs : List ℕ). x ∷ xs) (same-inside m p r q down above up) (same_map bids)

  -- the falling set is the same
  pub same-supply : (bids : List (List ℕ)) → excess_supply m above (demands m (reduced_bids m p bids) q) ≡ excess_supply m above (demands m bids q)
  unfolding excess_supply
  same-supply bids =
      ap (λ (s : ℕ). set_of m λ i. has above i && not (has s i))
      (positive-profile m above (demands m (reduced_bids m p bids) q) ∙ ap (excess_of m) (same_map bids) ∙ sym (positive-profile m above (demands m bids q)))

module _ (m : ℕ) (p : List ℕ) where
  pub reduced-row : (bids : List (List ℕ)) (b : ℕ) → b < length bids → row (reduced_bids m p bids) b ≡ reduced_line m p (row bids b)
  unfolding reduced_bids row
  reduced-row [] b l = absurd (not-suc-le-zero l)
  reduced-row (r ∷ bids) zero l = refl
  reduced-row (r ∷ bids) (suc b) l = reduced-row bids b (le_of_suc-le-suc l)

  pub reduced-length : (bids : List (List ℕ)) → length (reduced_bids m p bids) ≡ length bids
  unfolding reduced_bids
  reduced-length bids = length-map bids (reduced_line m p)

  pub reduced-bid : (bids : List (List ℕ)) (b i : ℕ) → b < length bids → i < suc m → bid_of (reduced_bids m p bids) b i ≡ bid_of bids b i - surplus m p (row bids b)
  unfolding bid_of
  reduced-bid bids b i lb l = ap (λ (r : List ℕ). amount r i) (reduced-row bids b lb) ∙ reduced-at m p (row bids b) i l

  most-bid : (bids : List (List ℕ)) (b i : ℕ) → i < suc m → bid_of bids b i ≤ surplus m p (row bids b) + amount p i
  unfolding bid_of
  most-bid bids b = surplus-most m p (row bids b)

  -- everybody demands null at the prices themselves, so no set is overdemanded there
  pub reduced-calm : (bids : List (List ℕ)) → Enough m (length (reduced_bids m p bids)) (wanted m (reduced_bids m p bids) p)
  unfolding Enough Part
  reduced-calm bids t z =
      omega (
        arith,
        count_none (length less) (within m (wanted m less p) t)
            (λ b lb. is_false _ λ e. not-both (t 0) (sub-use m (wanted m less p b) t e 0 (omega arith) (null b lb)) z),
      )
    where
      less : List (List ℕ)
      less = reduced_bids m p bids

      at : (b j : ℕ) → b < length bids → j < suc m → bid_of (reduced_bids m p bids) b j ≤ amount p j
      at b j lb lj = omega (arith, reduced-bid bids b j lb lj, most-bid bids b j lj)

      null : (b : ℕ) → b < length (reduced_bids m p bids) → wanted m (reduced_bids m p bids) p b 0 ≡ true
      null b lb =
          wants-make m (bid_of (reduced_bids m p bids)) (amount p) b 0
          (λ j lj. omega (arith, at b j (omega (arith, lb, reduced-length bids)) lj, amount-null p))

-- ---- a sheet's reduced bids are within the limits as well

reduced-amounts : (m : ℕ) (p r : List ℕ) → Amounts m r → Amounts m (reduced_line m p r)
reduced-amounts m p r a = record { long = long; most = λ i. go i (dec_le i m) }
  where
    long : length (reduced_line m p r) ≡ m
    long = unfold reduced_line in tabulate-length m _ 1

    go : (i : ℕ) → Dec (i ≤ m) → amount (reduced_line m p r) i ≤ 4095
    go i (yes l) = omega (arith, reduced-at m p r i (omega arith), a.most i)
    go i (no l) = omega (arith, amount-beyond m (reduced_line m p r) long i (omega arith))

pub reduced-limits : (s : Sheet) → Limits s → Limits (reduced s)
reduced-limits s lim =
    record {
      some_item = lim.some_item;
      max_items = lim.max_items;
      some-bidder = omega (arith, lim.some-bidder, same);
      max_bidders = omega (arith, lim.max_bidders, same);
      start = lim.start;
      floors = lim.floors;
      floor-le = lim.floor-le;
      rows = rows;
      bid-max = rows-most s.items (reduced_bids s.items s.start s.bids) rows;
    }
  where
    same : length (reduced_bids s.items s.start s.bids) ≡ length s.bids
    same = reduced-length s.items s.start s.bids

    rows : (b : ℕ) → b < length (reduced_bids s.items s.start s.bids) → Amounts s.items (row (reduced_bids s.items s.start s.bids) b)
    rows b l =
        let lb : b < length s.bids = omega (arith, l, same) in
        subst (λ (r : List ℕ). Amounts s.items r) (sym (reduced-row s.items s.start s.bids b lb))
        (reduced-amounts s.items s.start (row s.bids b) (lim.rows b lb))
