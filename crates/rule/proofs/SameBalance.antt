-- Prices balance with #102 of document 02 if and only if they do without. THEORY.md 1.9. Assumes nothing.
use Prim.Native.Nat.{ℕ, suc, ◌<◌}
use mathlib.Core.Path.{◌≡◌, sym, ap, ◌∙◌}
use mathlib.Core.Bool.{Bool, true, cond}
use mathlib.Core.List.{List}
use mathlib.Core.Logic.{◌⊎◌, inl, inr}
use native.Mathlib.Omega.{arith}
use native.Mathlib.Nat.{zero-add}
use native.Mathlib.Decide.{ℕ_discrete}
use lib.Dec.{eqb}
use lib.ListN.{length}
use borrow.Author.Tests.{eq-eqb, ne_eqb}
use Rattle.sets.specs.Bit.{has}
use Rattle.sets.specs.Lists.{tabulate}
use Rattle.sets.proofs.Lists.{tabulate-length, tabulate-at}
use Rattle.rule.specs.Sheet.{amount, row}
use Rattle.rule.specs.Demand.{Demand, best, surplus_at_least, demand, demands, wants, nth}
use Rattle.rule.specs.Excess.{above_floors}
use Rattle.rule.specs.Assignment.{option}
use Rattle.rule.specs.Equilibrium.{Below, Equilibrium}
use Rattle.rule.specs.Former.{former_demands, FormerEquilibrium}
use Rattle.rule.proofs.Limits.{above_floors-up}
use Rattle.rule.proofs.Surplus.{wants_at, bid_of, wanted}
use Rattle.rule.proofs.Zeros.{zero-price, zero-null, null_is, best-demanded}
use Rattle.rule.proofs.AtPrices.{nth-demands, demands-length, former-length, former-wanted}
use Rattle.rule.proofs.Fitting.{Fits, fits-to, fits-from}
use Rattle.rule.proofs.Balance.{fits-at}

module _ (m : ℕ) (floors : List ℕ) (bids : List (List ℕ)) (q : List ℕ) where
  pub to-former : Equilibrium m floors bids q → FormerEquilibrium m floors bids q
  to-former e =
      record {
        from-floors = e.from-floors;
        assigned = e.assigned;
        balances =
            fits-from m (length bids) (above_floors m floors q) (former_demands m bids q) (former-length m bids q) (wanted m bids q) e.assigned
            (λ b i lb li w. former-wanted m bids q b i lb li ∙ w) (fits-at m bids q (above_floors m floors q) e.assigned e.balances);
      }

  -- back: whoever has an item that they bid 0 for has null instead
  module _ (xs : List ℕ) (low : Below floors q) (f : Fits m (length bids) (wanted m bids q) (has (above_floors m floors q)) xs) where
    abbrev kept : ℕ → ℕ
    kept b = cond (eqb (amount (row bids b) (option xs b)) 0) 0 (option xs b)

    abbrev given : List ℕ
    given = tabulate (length bids) kept 0

    given-at : (b : ℕ) → b < length bids → option given b ≡ kept b
    unfolding option
    given-at b l = tabulate-at (length bids) kept 0 b 0 l ∙ ap kept (zero-add b)

    -- null for an item with bid 0, and otherwise the same
    abbrev Split : ℕ → Type 0
    Split b = ((option given b ≡ 0) × (amount (row bids b) (option xs b) ≡ 0)) ⊎ ((option given b ≡ option xs b) × (0 < amount (row bids b) (option xs b)))

    split : (b : ℕ) → b < length bids → Split b
    split b l = go (ℕ_discrete (amount (row bids b) (option xs b)) 0)
      where
        go : Dec (amount (row bids b) (option xs b) ≡ 0) → Split b
        go (yes z) = inl (given-at b l ∙ ap (λ (t : Bool). cond t 0 (option xs b)) (eq-eqb (amount (row bids b) (option xs b)) 0 z), z)
        go (no nz) = inr (given-at b l ∙ ap (λ (t : Bool). cond t 0 (option xs b)) (ne_eqb (amount (row bids b) (option xs b)) 0 nz), omega arith)

    -- who has an item has the same as before
    same_item : (b : ℕ) → b < length bids → 0 < option given b → option given b ≡ option xs b
    same_item b l pos = go (split b l)
      where
        go : Split b → option given b ≡ option xs b
        go (inl w) = absurd (omega (arith, pos, w.0))
        go (inr w) = w.0

    best-at : (b : ℕ) → b < length bids → best m q (row bids b) (option xs b) ≡ true
    unfolding wants_at bid_of best surplus_at_least
    best-at b l = f.wanted b l

    given-small : (b : ℕ) → b < length bids → option given b < suc m
    given-small b l = go (split b l)
      where
        go : Split b → option given b < suc m
        go (inl w) = omega (arith, w.0)
        go (inr w) = omega (arith, w.0, f.assigns.small b l)

    given-once : (b c : ℕ) → b < length bids → c < length bids → 0 < option given b → option given b ≡ option given c → b ≡ c
    given-once b c lb lc pos e =
        let eb = same_item b lb pos in
        let ec = same_item c lc (omega (arith, pos, e)) in
        f.assigns.once b c lb lc (omega (arith, pos, eb)) (omega (arith, e, eb, ec))

    given-wanted : (b : ℕ) → b < length bids → wants (nth (demands m bids q) b) (option given b) ≡ true
    given-wanted b l = ap (λ (d : Demand). wants d (option given b)) (nth-demands m bids q b l) ∙ go (split b l)
      where
        go : Split b → wants (demand m q (row bids b)) (option given b) ≡ true
        go (inl w) = ap (wants (demand m q (row bids b))) w.0 ∙ null_is m q (row bids b) ∙ zero-null m q (row bids b) (option xs b) (best-at b l) w.1
        go (inr w) = ap (wants (demand m q (row bids b))) w.0 ∙ best-demanded m q (row bids b) (option xs b) (f.assigns.small b l) w.1 (best-at b l)

    -- an item with bid 0 was at price 0
    given-covers : (i : ℕ) → i < suc m → has (above_floors m floors q) i ≡ true → (b : ℕ) × (b < length bids) × (option given b ≡ i)
    given-covers i l e = go (f.covers i l e)
      where
        go : ((b : ℕ) × (b < length bids) × (option xs b ≡ i)) → (b : ℕ) × (b < length bids) × (option given b ≡ i)
        go c = pick (split c.0 c.1)
          where
            pick : Split c.0 → (b : ℕ) × (b < length bids) × (option given b ≡ i)
            pick (inl w) = absurd (omega (arith, above_floors-up m floors q i l e, zero-price m q (row bids c.0) (option xs c.0) (best-at c.0 c.1) w.1, ap (amount q) c.2))
            pick (inr w) = (c.0, c.1, w.0 ∙ c.2)

    given-balances : Equilibrium m floors bids q
    given-balances =
        record {
          from-floors = low;
          assigned = given;
          balances =
              fits-from m (length bids) (above_floors m floors q) (demands m bids q) (demands-length m bids q) (λ b. wants (nth (demands m bids q) b)) given (λ b i lb li w. w)
              (record {
                assigns = record { all = tabulate-length (length bids) kept 0; small = given-small; once = given-once };
                wanted = given-wanted;
                covers = given-covers;
              });
        }

  pub from-former : FormerEquilibrium m floors bids q → Equilibrium m floors bids q
  from-former e =
      given-balances e.assigned e.from-floors
      (fits-to m (length bids) (above_floors m floors q) (former_demands m bids q) (former-length m bids q) (wanted m bids q) e.assigned
      (λ b i lb li w. sym (former-wanted m bids q b i lb li) ∙ w) e.balances)
