-- The lent lists after the call. Assumes nothing.
use Prim.Native.Nat.{ℕ, zero, suc, ◌*◌, ◌≤◌}
use mathlib.Core.Path.{◌≡◌, refl, sym, ap, ◌∙◌, subst}
use mathlib.Core.List.{List, [], ◌∷◌}
use lib.ListN.{replicate}
use Rattle.sets.specs.Lists.{places}
use Rattle.rule.specs.Refusal.{bad_items, bad_bidders, bad_length, any_over, bad_floors}
use Rattle.bids.specs.Refusal.{sealed_refusal, sealed_above_refusal}
use Rattle.bids.proofs.Limits.{fine}
use Rattle.auction.specs.Sealed.{sealed_of, sealed_above_of, falling_first_of}
use Rattle.auction.proofs.Sealing.{sealed_number, above-number, falling-number, zero-floors}
use Rattle.sheet.specs.Close.{by_number}
use Rattle.auction.specs.declared.Closing.{Closing}
use Rattle.dewgneiss.specs.Lent.{unfit, lent_refusal, lent_above_refusal, with_lengths}
use Rattle.dewgneiss.proofs.Lent.{in_order, in-order-above}

-- the number of the call, and the counts of an auction that is not turned down
pub lent-sealed : (m n : ℕ) (start bids rounds prices options gains : List ℕ)
    → with_lengths (sealed_of m n start bids).refusal (unfit m n rounds prices options gains) ≡ lent_refusal m n start bids rounds prices options gains
unfolding lent_refusal sealed_refusal
lent-sealed m n start bids rounds prices options gains =
    ap (λ (k : ℕ). with_lengths k (unfit m n rounds prices options gains)) (sealed_number m n start bids)
    ∙ in_order (bad_items m) (bad_bidders n) (bad_length start m) (bad_length bids (n * m)) (any_over start) (any_over bids) (unfit m n rounds prices options gains)

-- with floors, whatever the outcome is, if it has the number of the sheet
above-in-order : (m n : ℕ) (start floors bids rounds prices options gains : List ℕ) (why : ℕ) → why ≡ sealed_above_refusal m n start floors bids
    → with_lengths why (unfit m n rounds prices options gains) ≡ lent_above_refusal m n start floors bids rounds prices options gains
unfolding lent_above_refusal sealed_above_refusal
above-in-order m n start floors bids rounds prices options gains why e =
    ap (λ (k : ℕ). with_lengths k (unfit m n rounds prices options gains)) e
    ∙ in-order-above (bad_items m) (bad_bidders n) (bad_length start m) (bad_length floors m) (bad_length bids (n * m)) (any_over start) (bad_floors start floors) (any_over bids)
    (unfit m n rounds prices options gains)

above-counts : (m n : ℕ) (start floors bids : List ℕ) (why : ℕ) → why ≡ sealed_above_refusal m n start floors bids → why ≡ 0 → (m ≤ 32) × (n ≤ 64)
above-counts m n start floors bids why e z = let f = fine m n start floors bids (sym e ∙ z) in (f.max_items, f.max_bidders)

module _ (m n : ℕ) (start floors bids : List ℕ) where
  pub lent_above : (rounds prices options gains : List ℕ)
      → with_lengths (sealed_above_of m n start floors bids).refusal (unfit m n rounds prices options gains) ≡ lent_above_refusal m n start floors bids rounds prices options gains
  lent_above rounds prices options gains = above-in-order m n start floors bids rounds prices options gains _ (above-number m n start floors bids)

  pub counts-above : (sealed_above_of m n start floors bids).refusal ≡ 0 → (m ≤ 32) × (n ≤ 64)
  counts-above = above-counts m n start floors bids _ (above-number m n start floors bids)

  pub lent-falling : (rounds prices options gains : List ℕ)
      → with_lengths (falling_first_of m n start floors bids).refusal (unfit m n rounds prices options gains) ≡ lent_above_refusal m n start floors bids rounds prices options gains
  lent-falling rounds prices options gains = above-in-order m n start floors bids rounds prices options gains _ (falling-number m n start floors bids)

  pub counts-falling : (falling_first_of m n start floors bids).refusal ≡ 0 → (m ≤ 32) × (n ≤ 64)
  counts-falling = above-counts m n start floors bids _ (falling-number m n start floors bids)

pub counts-sealed : (m n : ℕ) (start bids : List ℕ) → (sealed_of m n start bids).refusal ≡ 0 → (m ≤ 32) × (n ≤ 64)
counts-sealed m n start bids z = counts-above m n start (replicate m 0) bids (ap (λ (x : Closing). x.refusal) (zero-floors m n start bids) ∙ z)

-- beside a number, a lent list is as it came
pub kept : (why : ℕ) (a b : List ℕ) → (why ≡ 0 → ⊥) → b ≡ by_number why a b
kept zero a b h = absurd (h refl)
kept (suc why) a b h = refl

-- what a call answers, which is the number, and leaves of an outcome
abbrev Lends : (number m n : ℕ) (c : Closing) (rounds prices options gains : List ℕ) (why : ℕ) (rounds' prices' options' gains' : List ℕ) → Type 0
Lends number m n c rounds prices options gains why rounds' prices' options' gains' =
    (why ≡ number)
    × ((rounds' ≡ by_number why (c.raised ∷ c.lowered ∷ []) rounds)
    × ((prices' ≡ by_number why (places m c.prices) prices)
    × ((options' ≡ by_number why (places n c.assignment) options) × (gains' ≡ by_number why (places n c.gains) gains))))

-- what `lend` promises of the code's outcome, said of the outcome that it is
pub lent : (m n : ℕ) (rounds prices options gains : List ℕ) {r c : Closing} {number why : ℕ} {rounds' prices' options' gains' : List ℕ} → r ≡ c
    → with_lengths c.refusal (unfit m n rounds prices options gains) ≡ number
    → Lends (with_lengths r.refusal (unfit m n rounds prices options gains)) m n r rounds prices options gains why rounds' prices' options' gains'
    → Lends number m n c rounds prices options gains why rounds' prices' options' gains'
lent m n rounds prices options gains {why = why} {rounds' = rounds'} {prices' = prices'} {options' = options'} {gains' = gains'} e q l =
    let k = subst (λ (x : Closing). Lends (with_lengths x.refusal (unfit m n rounds prices options gains)) m n x rounds prices options gains why rounds' prices' options' gains') e l in
    (k.0 ∙ q, k.1)
