-- The table of reduced bids, line after line, and that its lines are the reduced bids of the rule. Assumes nothing.
use Prim.Native.Nat.{ℕ, suc, ◌+◌, ◌-◌, ◌*◌, ◌≤◌, ◌<◌}
use mathlib.Core.Path.{◌≡◌, refl, sym, ap, ap₂, ◌∙◌, subst}
use mathlib.Core.List.{List}
use mathlib.Core.Logic.{◌⊎◌, inl, inr}
use native.Mathlib.Omega.{arith}
use lib.ListN.{length, get_or, take}
use lib.Seq.{length-take-le, get_or-take}
use Rattle.sets.specs.Lists.{places}
use Rattle.sets.proofs.Counting.{below_suc}
use Rattle.sets.proofs.Lists.{tabulate-same, is-tabulate}
use Rattle.rule.specs.Sheet.{amount, Sheet}
use Rattle.rule.specs.Equilibrium.{Below}
use Rattle.rule.specs.Demand.{surplus}
use Rattle.rule.specs.Reduced.{reduced_line, reduced_bids, reduced}
use Rattle.rule.proofs.Limits.{Limits, limits, starting_at, starting-limits}
use Rattle.rule.proofs.Reduced.{same-reduced, reduced-limits}
use Rattle.prices.proofs.Moving.{places-amount}
use Rattle.round.proofs.Reporting.{map-tabulate}
use Rattle.bids.specs.Lent.{line_of, rows_of, sheet_above}
use Rattle.bids.specs.Fit.{Fit}
use Rattle.bids.specs.Refusal.{sealed_above_refusal}
use Rattle.bids.specs.Line.{row_shown}
use Rattle.bids.proofs.Lent.{line-inside, line-length, line-at}
use Rattle.bids.proofs.Rows.{row_is}
use Rattle.bids.proofs.Fitting.{bids-fit}
use Rattle.bids.proofs.Limits.{Fine, fine, accepted-within, limits-accepted}
use Rattle.demands.specs.Demands.{surplus_of}
use Rattle.demands.proofs.Surplus.{line-surplus}
use Rattle.demands.proofs.Demanding.{few}
use Rattle.auction.specs.Reduced.{ReducedTo, ReducedLines}
use Rattle.auction.specs.declared.Accepted.{Accepted}

-- ---- the table as it is filled, line after line

pub accepted-fit : (a : Accepted) → Fit a.items a.bidders a.bids.now
accepted-fit a = bids-fit (fine a.items a.bidders a.start.now a.floors.now a.bids.now a.accepted)

-- the table has room for them
pub bids_room : (a : Accepted) → length a.bids.now ≤ 2048
bids_room a = let f = accepted-fit a in omega (arith, f.long, few a.items a.bidders f.max_items f.max_bidders)

module _ {m n : ℕ} {bids : List ℕ} (f : Fit m n bids) (prices : List ℕ) where
  most : n * m ≤ 2048
  most = few m n f.max_items f.max_bidders

  -- the next bidder's line, and the surplus that it is reduced by
  module _ (b : ℕ) (l : b < n) (line : List ℕ) (e : line ≡ row_shown m b bids) where
    inside : b * m + m ≤ length bids
    inside = line-inside m n b (length bids) f.long l

    line-is : line ≡ line_of m bids b
    line-is = e ∙ row_is m b bids (omega (arith, f.max_items)) inside

    line-long : length line ≡ m
    line-long = ap length line-is ∙ line-length m bids b inside

    pub line-fits : b * m + length line ≤ 2048
    line-fits = omega (arith, line-long, inside, most, f.long)

    surplus-is : surplus_of prices line ≡ surplus m prices (line_of m bids b)
    surplus-is = sym (line-surplus prices line (omega (arith, line-long, f.max_items))) ∙ ap₂ (λ (k : ℕ) (x : List ℕ). surplus k prices x) line-long line-is

    pub lines_more : (top : ℕ) → top ≡ surplus_of prices line → (before table : List ℕ) → ReducedLines m prices bids b before
        → ReducedTo line top (b * m) (length line) before table → ReducedLines m prices bids (b + 1) table
    unfolding ReducedLines
    lines_more top et before table h t j c lj lc = go (below_suc (omega arith))
      where
        own : get_or table (b * m + c) 0 ≡ get_or (line_of m bids b) c 0 - surplus m prices (line_of m bids b)
        own = t.done c (omega (arith, lc, line-long)) ∙ ap₂ (λ (x : List ℕ) (y : ℕ). get_or x c 0 - y) line-is (et ∙ surplus-is)

        go : (j ≡ b) ⊎ (j < b) → get_or table (j * m + c) 0 ≡ get_or (line_of m bids j) c 0 - surplus m prices (line_of m bids j)
        go (inl q) = subst (λ (k : ℕ). get_or table (k * m + c) 0 ≡ get_or (line_of m bids k) c 0 - surplus m prices (line_of m bids k)) (sym q) own
        go (inr q) = t.rest (j * m + c) (omega (arith, line-inside m b j (b * m) refl q, lc)) ∙ h j c q lc

  pub lines_none : (table : List ℕ) → ReducedLines m prices bids 0 table
  unfolding ReducedLines
  lines_none table j c lj = absurd (omega arith)

  -- ---- as the rule has them

  module _ (table : List ℕ) (long : length table ≡ 2048) (h : ReducedLines m prices bids n table) where
    abbrev less : List ℕ
    less = take (n * m) table

    pub less-long : length less ≡ n * m
    less-long = length-take-le (n * m) table (omega (arith, most, long))

    less-line : (b : ℕ) → b < n → line_of m less b ≡ reduced_line m prices (line_of m bids b)
    unfolding reduced_line ReducedLines amount
    less-line b l =
        is-tabulate m (line_of m less b) (λ i. amount (line_of m bids b) i - surplus m prices (line_of m bids b)) 1 (line-length m less b (omega (arith, inside, less-long)))
        (λ k lk.
        let e : suc k ≡ 1 + k = omega arith in
        line-at m less b k lk ∙ get_or-take (n * m) table (b * m + k) 0 (omega (arith, inside, lk)) ∙ h b k l lk
        ∙ ap (λ (i : ℕ). amount (line_of m bids b) i - surplus m prices (line_of m bids b)) e)
      where
        inside : b * m + m ≤ n * m
        inside = line-inside m n b (n * m) refl l

    pub rows_are : rows_of m n less ≡ reduced_bids m prices (rows_of m n bids)
    unfolding rows_of reduced_bids
    rows_are = tabulate-same n (line_of m less) (λ b. reduced_line m prices (line_of m bids b)) less-line ∙ map-tabulate (reduced_line m prices) n (line_of m bids) 0

-- ---- with reduced bids, and from the floors up, no number turns the sheet down

module _ (m n : ℕ) (start floors bids : List ℕ) (z : sealed_above_refusal m n start floors bids ≡ 0) where
  abbrev sheet : Sheet
  sheet = record { items = m; start = start; floors = floors; bids = rows_of m n bids }

  fits : Fine m n start floors bids
  fits = fine m n start floors bids z

  within : Limits sheet
  within = limits sheet (unfold sheet_above in (accepted-within m n start floors bids z).1)

  from-floors : (s : Sheet) → Limits s → s.floors ≡ floors → Limits (starting_at s floors)
  from-floors s lim e = subst (λ (p : List ℕ). Limits (starting_at s p)) e (starting-limits s lim s.floors lim.floors (unfold Below in λ i. omega arith))

  pub floors-accepted : sealed_above_refusal m n floors floors bids ≡ 0
  floors-accepted = limits-accepted m n floors floors bids fits.bids-long (from-floors sheet within refl)

  module _ (first table : List ℕ) (ef : first ≡ places 32 start) (long : length table ≡ 2048) (h : ReducedLines m first bids n table) where
    exact-rows : rows_of m n (take (n * m) table) ≡ reduced_bids m start (rows_of m n bids)
    exact-rows =
        rows_are (bids-fit fits) first table long h
        ∙ same-reduced m first start (λ i. ap (λ (p : List ℕ). amount p i) ef ∙ places-amount m fits.max_items start fits.start-long i) (rows_of m n bids)

    exact-accepted : sealed_above_refusal m n floors floors (take (n * m) table) ≡ 0
    exact-accepted =
        limits-accepted m n floors floors (take (n * m) table) (less-long (bids-fit fits) first table long h)
        (subst (λ (rows : List (List ℕ)). Limits (record { items = m; start = floors; floors = floors; bids = rows })) (sym exact-rows)
        (from-floors (reduced sheet) (reduced-limits sheet within) refl))

    -- as many as there are bids
    pub rows-reduced : rows_of m n (take (length bids) table) ≡ reduced_bids m start (rows_of m n bids)
    rows-reduced = ap (λ (k : ℕ). rows_of m n (take k table)) fits.bids-long ∙ exact-rows

    pub reduced-accepted : sealed_above_refusal m n floors floors (take (length bids) table) ≡ 0
    reduced-accepted = subst (λ (k : ℕ). sealed_above_refusal m n floors floors (take k table) ≡ 0) (sym fits.bids-long) exact-accepted
