-- Prices in 32 places: what the code computes place by place, and that only the items' places matter. Assumes nothing.
use Prim.Native.Nat.{ℕ, zero, suc, ◌+◌, ◌-◌, ◌^◌, ◌≤◌, ◌<◌, min}
use mathlib.Core.Path.{◌≡◌, refl, sym, ap, ap₂, ◌∙◌, fun_ext}
use mathlib.Core.Bool.{Bool, false, ◌&&◌}
use mathlib.Core.List.{List, map}
use mathlib.Core.Logic.{◌⊎◌, inl, inr}
use native.Mathlib.Omega.{arith}
use native.Mathlib.Nat.{zero-add}
use native.Mathlib.Numerals.{add-one}
use lib.Dec.{ltb, leb}
use lib.ListN.{length, get_or, get_or-eq_default}
use Rattle.sets.specs.Bit.{has, set_of, each}
use Rattle.sets.specs.Count.{to_nat}
use Rattle.sets.specs.Lists.{tabulate, places}
use Rattle.sets.proofs.Counting.{lt-or-le}
use Rattle.sets.proofs.Lists.{tabulate-length, tabulate-at, tabulate-shift, places-length, places-at, is-tabulate}
use Rattle.sets.proofs.Members.{has-past}
use Rattle.rule.specs.Sheet.{amount, greatest}
use Rattle.rule.specs.Demand.{surplus_at_least, best, surplus, demand, demands, surpluses}
use Rattle.rule.specs.Excess.{above_floors}
use Rattle.rule.specs.Round.{raise, lower}
use Rattle.prices.specs.Prices.{raise_places}

-- ---- what the code computes, place by place

pub raised_is : (p : List ℕ) (s : ℕ) → tabulate 32 (λ k. min 65535 (get_or p k 0 + to_nat (has s (k + 1)))) 0 ≡ raise_places p s
unfolding raise_places amount
raised_is p s =
    ap (λ (f : ℕ → ℕ). tabulate 32 (λ k. min 65535 (get_or p k 0 + to_nat (has s (f k)))) 0) (fun_ext add-one)
    ∙ tabulate-shift 32 (λ i. min 65535 (amount p i + to_nat (has s i))) 0

pub lowered_is : (p : List ℕ) (s : ℕ) → tabulate 32 (λ k. get_or p k 0 - to_nat (has s (k + 1))) 0 ≡ lower 32 p s
unfolding lower amount
lowered_is p s =
    ap (λ (f : ℕ → ℕ). tabulate 32 (λ k. get_or p k 0 - to_nat (has s (f k))) 0) (fun_ext add-one)
    ∙ tabulate-shift 32 (λ i. amount p i - to_nat (has s i)) 0

-- where no price of the set is 65,535, the code raises as the rule does
pub raise-room : (p : List ℕ) (s : ℕ) → ((i : ℕ) → amount p i + to_nat (has s i) ≤ 65535) → raise_places p s ≡ raise 32 p s
unfolding raise_places raise
raise-room p s room = ap (λ (f : ℕ → ℕ). tabulate 32 f 1) (fun_ext (λ i. under (amount p i + to_nat (has s i)) (room i)))
  where
    under : (x : ℕ) → x ≤ 65535 → min 65535 x ≡ x
    under x l = omega arith

-- ---- prices of m items in 32 places, with zeros past them

-- only the amounts of prices matter
module _ (p q : List ℕ) (h : (i : ℕ) → amount p i ≡ amount q i) where
  pub demands-same : (m : ℕ) (bids : List (List ℕ)) → demands m bids p ≡ demands m bids q
  unfolding demands demand best surplus_at_least
  demands-same m bids =
      ap (λ (f : ℕ → ℕ). map (λ b. record { null = each m (λ j. leb (amount b j + f 0) (amount b 0 + f j)); items = set_of m (λ i. ltb 0 (amount b i) && each m (λ j. leb (amount b j + f i) (amount b i + f j))) }) bids)
      (fun_ext h)

  pub surpluses-same : (m : ℕ) (bids : List (List ℕ)) → surpluses m bids p ≡ surpluses m bids q
  unfolding surpluses surplus
  surpluses-same m bids = ap (λ (f : ℕ → ℕ). map (λ b. greatest m (λ i. amount b i - f i)) bids) (fun_ext h)

-- and of floors
pub above_floors-same : (m : ℕ) (f g p q : List ℕ) → ((i : ℕ) → amount f i ≡ amount g i) → ((i : ℕ) → amount p i ≡ amount q i) → above_floors m f p ≡ above_floors m g q
unfolding above_floors
above_floors-same m f g p q hf hp = ap₂ (λ (x y : ℕ → ℕ). set_of m (λ i. ltb (x i) (y i))) (fun_ext hf) (fun_ext hp)

module _ (m : ℕ) (lm : m ≤ 32) (p : List ℕ) (long : length p ≡ m) where
  past : (k : ℕ) → m ≤ k → get_or p k 0 ≡ 0
  past k l = get_or-eq_default p 0 {n = k} (omega (arith, long, l))

  pub places-amount : (i : ℕ) → amount (places 32 p) i ≡ amount p i
  unfolding amount
  places-amount zero = refl
  places-amount (suc k) = go (lt-or-le k 32)
    where
      go : (k < 32) ⊎ (32 ≤ k) → get_or (places 32 p) k 0 ≡ get_or p k 0
      go (inl l) = places-at 32 p k l
      go (inr l) = get_or-eq_default (places 32 p) 0 {n = k} (omega (arith, places-length 32 p)) ∙ sym (past k (omega arith))

  pub demands-places : (bids : List (List ℕ)) → demands m bids (places 32 p) ≡ demands m bids p
  demands-places bids = demands-same (places 32 p) p places-amount m bids

  pub surpluses-places : (bids : List (List ℕ)) → surpluses m bids (places 32 p) ≡ surpluses m bids p
  surpluses-places bids = surpluses-same (places 32 p) p places-amount m bids

  -- a move that leaves a price of 0 of an item that is not in the set: it moves the m items' places, and leaves zeros past them
  moved : (s : ℕ) (f : ℕ → Bool → ℕ) → f 0 false ≡ 0 → s < 2 ^ m
      → tabulate 32 (λ i. f (amount (places 32 p) i) (has s i)) 1 ≡ places 32 (tabulate m (λ i. f (amount p i) (has s i)) 1)
  unfolding places
  moved s f z ls =
      is-tabulate 32 (tabulate 32 next 1) (λ k. get_or (tabulate m kept 1) k 0) 0 (tabulate-length 32 next 1)
      (λ k l. tabulate-at 32 next 1 k 0 l ∙ ap (λ (x : ℕ). f x (has s (1 + k))) (places-amount (1 + k)) ∙ go k (lt-or-le k m) ∙ ap (λ (j : ℕ). get_or (tabulate m kept 1) j 0) (sym (zero-add k)))
    where
      kept : ℕ → ℕ
      kept i = f (amount p i) (has s i)

      next : ℕ → ℕ
      next i = f (amount (places 32 p) i) (has s i)

      beyond : (k : ℕ) → m ≤ k → amount p (1 + k) ≡ 0
      beyond k l = let e : 1 + k ≡ suc k = omega arith in ap (amount p) e ∙ (unfold amount in past k l)

      outside : (k : ℕ) → m ≤ k → has s (1 + k) ≡ false
      outside k l = let e : 1 + k ≡ suc k = omega arith in ap (has s) e ∙ has-past m s (suc k) ls (omega arith)

      go : (k : ℕ) → (k < m) ⊎ (m ≤ k) → kept (1 + k) ≡ get_or (tabulate m kept 1) k 0
      go k (inl l) = sym (tabulate-at m kept 1 k 0 l)
      go k (inr l) = ap₂ f (beyond k l) (outside k l) ∙ z ∙ sym (get_or-eq_default (tabulate m kept 1) 0 {n = k} (omega (arith, tabulate-length m kept 1)))

  pub lower-places : (s : ℕ) → s < 2 ^ m → lower 32 (places 32 p) s ≡ places 32 (lower m p s)
  unfolding lower
  lower-places s ls = moved s (λ x b. x - to_nat b) refl ls

  pub raise-places : (s : ℕ) → s < 2 ^ m → raise 32 (places 32 p) s ≡ places 32 (raise m p s)
  unfolding raise
  raise-places s ls = moved s (λ x b. x + to_nat b) refl ls

pub above_floors-places : (m : ℕ) → m ≤ 32 → (floors p : List ℕ) → length floors ≡ m → length p ≡ m → (n : ℕ)
    → above_floors n (places 32 floors) (places 32 p) ≡ above_floors n floors p
above_floors-places m lm floors p lf lp n = above_floors-same n (places 32 floors) floors (places 32 p) p (places-amount m lm floors lf) (places-amount m lm p lp)
