-- Prices in 32 places: what is least among them is one list, and the least prices in 64 places are brought into 32. THEORY.md 2.11 and 2.13. Assumes nothing.
use Prim.Native.Nat.{ℕ, zero, suc, ◌≤◌, ◌<◌}
use mathlib.Core.Path.{◌≡◌, refl, sym, ap, ◌∙◌}
use mathlib.Core.List.{List}
use mathlib.Core.Logic.{◌⊎◌, inl, inr}
use native.Mathlib.Omega.{arith}
use native.Mathlib.Nat.{le_antisymm}
use lib.ListN.{length, get_or, get_or-eq_default}
use Rattle.sets.specs.Lists.{places}
use Rattle.sets.proofs.Counting.{lt-or-le}
use Rattle.sets.proofs.Lists.{places-length, places-at}
use Rattle.rule.specs.Sheet.{amount}
use Rattle.rule.specs.Excess.{excess_demand}
use Rattle.rule.specs.Equilibrium.{Below}
use Rattle.rule.proofs.Limits.{prices-ext}
use Rattle.prices.proofs.Moving.{demands-same, places-amount}
use Rattle.least.specs.Least.{LeastFrom, Least}

-- there is one such list
pub one_least : (m : ℕ) (rows : List (List ℕ)) (base p q : List ℕ) → Least m rows base p → Least m rows base q → p ≡ q
unfolding Below
one_least m rows base p q a b =
    prices-ext 32 p q a.long b.long
    (λ i l. le_antisymm (a.least.least q b.least.above b.least.empty i) (b.least.least p a.least.above a.least.empty i))

-- lists with the same amounts are least alike
least-same : (m : ℕ) (rows : List (List ℕ)) (base base' p p' : List ℕ) → ((i : ℕ) → amount base i ≡ amount base' i) → ((i : ℕ) → amount p i ≡ amount p' i)
    → LeastFrom m rows base p → LeastFrom m rows base' p'
unfolding Below
least-same m rows base base' p p' eb ep l =
    record {
      above = λ i. omega (arith, l.above i, eb i, ep i);
      empty = ap (excess_demand m) (demands-same p' p (λ i. sym (ep i)) m rows) ∙ l.empty;
      least = λ q from e i. omega (arith, l.least q (λ j. omega (arith, from j, eb j)) e i, ep i);
    }

-- a list in 32 places, where nothing is past them
narrow-amount : (xs : List ℕ) → ((x : ℕ) → 32 ≤ x → get_or xs x 0 ≡ 0) → (i : ℕ) → amount xs i ≡ amount (places 32 xs) i
unfolding amount
narrow-amount xs past zero = refl
narrow-amount xs past (suc x) = go (lt-or-le x 32)
  where
    go : (x < 32) ⊎ (32 ≤ x) → get_or xs x 0 ≡ get_or (places 32 xs) x 0
    go (inl l) = sym (places-at 32 xs x l)
    go (inr l) = past x l ∙ sym (get_or-eq_default (places 32 xs) 0 {n = x} (omega (arith, l, places-length 32 xs)))

pub narrow-least : (m : ℕ) (rows : List (List ℕ)) (start first prices : List ℕ) → first ≡ places 32 start → length start ≤ 32 → ((x : ℕ) → 32 ≤ x → get_or prices x 0 ≡ 0)
    → LeastFrom m rows first prices → (r : List ℕ) → r ≡ places 32 prices → Least m rows start r
narrow-least m rows start first prices ef short past l r e =
    record {
      least = least-same m rows first start prices r from (λ i. narrow-amount prices past i ∙ ap (λ (z : List ℕ). amount z i) (sym e)) l;
      long = ap length e ∙ places-length 32 prices;
    }
  where
    from : (i : ℕ) → amount first i ≡ amount start i
    from i = ap (λ (z : List ℕ). amount z i) ef ∙ places-amount (length start) short start refl i
