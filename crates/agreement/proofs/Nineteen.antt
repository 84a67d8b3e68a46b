-- 19 where there is one item: what a report says of the one bid, and reports that no bids of 0 to 4,095 explain. Assumes nothing.
use Prim.Native.Nat.{ℕ, suc, ◌+◌, ◌-◌, ◌≤◌}
use mathlib.Core.Path.{◌≡◌, refl}
use mathlib.Core.Bool.{Bool, true, false}
use mathlib.Core.List.{List, [], ◌∷◌}
use native.Mathlib.Omega.{arith}
use lib.Dec.{leb, eqb}
use lib.IntN.{ℤ}
use lib.ListN.{length}
use borrow.Author.Tests.{leb-true}
use Rattle.sets.specs.Count.{all_below}
use Rattle.sets.specs.Bit.{bit, is_set, has}
use Rattle.sets.proofs.Counting.{and_left, and_right, all-use}
use Rattle.rule.specs.Sheet.{amount, each4095}
use Rattle.rule.specs.Demand.{Demand}
use Rattle.rule.specs.Assignment.{choose}
use Rattle.reports.specs.Report.{saying}
use Rattle.differences.specs.Table.{meets}
use Rattle.differences.specs.Allowed.{explains, allows, unexplained}
use Rattle.differences.proofs.Laws.{explained-some, chosen-bids}
use Rattle.differences.proofs.Explaining.{by-null, by-item}
use Rattle.differences.proofs.Allowing.{explains-use}

pub allows-parts : (m : ℕ) (t : List (List ℤ)) (p : List ℕ) (d : Demand) (b : List ℕ) → allows m t p d b ≡ true → (meets m t b ≡ true) × (explains m p d b ≡ true)
unfolding allows
allows-parts m t p d b e = (and_left (meets m t b) (explains m p d b) e, and_right (meets m t b) (explains m p d b) e)

-- 19 applies where no bids of 0 to 4,095 meet the table and explain the report
pub none-explain : (m : ℕ) (t : List (List ℤ)) (p : List ℕ) (d : Demand)
    → ((b : List ℕ) → each4095 m b ≡ true → meets m t b ≡ true → explains m p d b ≡ true → ⊥) → unexplained m t p d ≡ true
none-explain m t p d h = go (unexplained m t p d) refl
  where
    go : (x : Bool) → unexplained m t p d ≡ x → unexplained m t p d ≡ true
    go true e = e
    go false e =
        let w = chosen-bids m (allows m t p d) (explained-some m t p d e) in
        let b : List ℕ = choose 4095 m (allows m t p d) in
        let q = allows-parts m t p d b w.1 in
        absurd (h b w.0 q.0 q.1)

-- the bid is at most 4,095
pub bid-most : (b : List ℕ) → each4095 1 b ≡ true → amount b 1 ≤ 4095
unfolding each4095
bid-most b e =
    leb-true (amount b 1) 4095 (all-use 1 (λ k. leb (amount b (suc k)) 4095) (and_right (eqb (length b) 1) (all_below 1 (λ k. leb (amount b (suc k)) 4095)) e) 0 (omega arith))

amount-null : (xs : List ℕ) → amount xs 0 ≡ 0
unfolding amount
amount-null xs = refl

-- the item alone, at p: the bid is above p
pub item-alone : (p : ℕ) (b : List ℕ) → explains 1 (p ∷ []) (saying false 1) b ≡ true → p + 1 ≤ amount b 1
unfolding saying
item-alone p b e =
    let at : amount (p ∷ []) 1 ≡ p = unfold amount in refl in
    let x = explains-use 1 (p ∷ []) (saying false 1) (omega arith) b e in
    let w = (by-item 1 (amount (p ∷ [])) (amount b) (amount-null (p ∷ [])) (amount-null b) (has 1) 0 (omega arith) (unfold has is_set bit in refl) x).null in
    omega (arith, at, w)

-- null alone, at p: the bid is below p, or 0
pub null-alone : (p : ℕ) (b : List ℕ) → explains 1 (p ∷ []) (saying true 0) b ≡ true → amount b 1 ≤ p - 1
unfolding saying
null-alone p b e =
    let at : amount (p ∷ []) 1 ≡ p = unfold amount in refl in
    let x = explains-use 1 (p ∷ []) (saying true 0) (omega arith) b e in
    let w = (by-null 1 (amount (p ∷ [])) (amount b) (amount-null (p ∷ [])) (amount-null b) (has 0) x).outside 0 (omega arith) (unfold has is_set bit in refl) in
    omega (arith, at, w)

-- null beside an item of price 0
pub null-and-free : (b : List ℕ) → explains 1 (0 ∷ []) (saying true 1) b ≡ true → ⊥
unfolding saying
null-and-free b e =
    let at : amount (0 ∷ []) 1 ≡ 0 = unfold amount in refl in
    let x = explains-use 1 (0 ∷ []) (saying true 1) (omega arith) b e in
    let w = by-null 1 (amount (0 ∷ [])) (amount b) (amount-null (0 ∷ [])) (amount-null b) (has 1) x in
    let above = w.under 0 (omega arith) (unfold has is_set bit in refl) in
    let below = w.over 0 (omega arith) (unfold has is_set bit in refl) in
    omega (arith, at, above, below)
