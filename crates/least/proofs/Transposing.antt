-- The items put in over the bidders: read the other way round, each bidder then has an item that they demand, or null. What a bidder costs is their surplus, and
-- what is left of the bid for them is the item's price. THEORY.md 2.13. Assumes nothing.
use Prim.Native.Nat.{ℕ, zero, suc, ◌+◌, ◌≤◌, ◌<◌}
use mathlib.Core.Path.{◌≡◌, refl, sym, ◌∙◌}
use mathlib.Core.Bool.{Bool, true}
use mathlib.Core.Logic.{◌⊎◌, inl, inr}
use native.Mathlib.Omega.{arith}
use Rattle.least.specs.Holding.{Holds, Demands, Held}

-- what item r + 1 bids for bidder number c, and 0 for null
unfoldable pub transposed_bid : (ℕ → ℕ → ℕ) → ℕ → ℕ → ℕ
transposed_bid bid r zero = 0
transposed_bid bid r (suc b) = bid b (suc r)

pub transposed-at : (bid : ℕ → ℕ → ℕ) (r b : ℕ) → transposed_bid bid r (suc b) ≡ bid b (suc r)
unfolding transposed_bid
transposed-at bid r b = refl

pub transposed-null : (bid : ℕ → ℕ → ℕ) (r : ℕ) → transposed_bid bid r 0 ≡ 0
unfolding transposed_bid
transposed-null bid r = refl

-- the bidders' surpluses and options, with all m items put in; and the items' prices and holders
pub record Transpose (m n : ℕ) (bid : ℕ → ℕ → ℕ) (items bidders : ℕ → Bool) (surplus option q own : ℕ → ℕ) : Type 0 where
  pub bid-null : (b : ℕ) → bid b 0 ≡ 0
  pub all-items : (r : ℕ) → r < m → items r ≡ true
  pub items-below : (r : ℕ) → items r ≡ true → r < m
  pub all-bidders : (b : ℕ) → b < n → bidders b ≡ true
  pub bidders-below : (b : ℕ) → bidders b ≡ true → b < n
  pub held : Held n (transposed_bid bid) items surplus option
  pub surplus-null : surplus 0 ≡ 0
  pub free : (b : ℕ) → b < n → option (suc b) ≡ 0 → surplus (suc b) ≡ 0
  pub q-null : q 0 ≡ 0
  pub own-null : own 0 ≡ 0
  pub own_is : (i b : ℕ) → i < suc m → own i ≡ suc b → (b < n) × (option (suc b) ≡ i)
  pub is-own : (b i : ℕ) → b < n → option (suc b) ≡ suc i → own (suc i) ≡ suc b
  pub priced : (b i : ℕ) → b < n → option (suc b) ≡ suc i → q (suc i) + surplus (suc b) ≡ bid b (suc i)

module _ {m n : ℕ} {bid : ℕ → ℕ → ℕ} {items bidders : ℕ → Bool} {surplus option q own : ℕ → ℕ} (t : Transpose m n bid items bidders surplus option q own) where
  -- no item is worth more to a bidder than their surplus
  enough : (b j : ℕ) → b < n → j < suc m → bid b j ≤ surplus (suc b) + q j
  enough b zero lb lj = omega (arith, t.bid-null b)
  enough b (suc r) lb lj = go (t.held.placed r (t.all-items r (omega arith)))
    where
      go : Demands n (transposed_bid bid) surplus r 0 ⊎ Holds n option r → bid b (suc r) ≤ surplus (suc b) + q (suc r)
      go (inl w) = omega (arith, w (suc b) (omega arith), transposed-at bid r b, transposed-null bid r, t.surplus-null)
      go (inr w) = by w.0 w.1 w.2
        where
          by : (c : ℕ) → c < suc n → option c ≡ suc r → bid b (suc r) ≤ surplus (suc b) + q (suc r)
          by zero lc e = absurd (omega (arith, e, t.held.null))
          by (suc d) lc e =
              omega (
                arith,
                (t.held.known (suc d) r lc e).1 (suc b) (omega arith),
                transposed-at bid r b,
                transposed-at bid r d,
                t.priced d r (omega arith) e,
              )

  pub transposed-held : Held m bid bidders q own
  transposed-held =
      record {
        null = t.own-null;
        known = λ i b l e. known i b l e (t.own_is i b l e);
        placed = λ b on. placed b (t.bidders-below b on) (option (suc b)) refl;
        once = λ i j b li lj e f. sym (t.own_is i b li e).1 ∙ (t.own_is j b lj f).1;
      }
    where
      wants : (b i : ℕ) → b < n → option (suc b) ≡ suc i → Demands m bid q b (suc i)
      wants b i lb e j lj = omega (arith, enough b j lb lj, t.priced b i lb e)

      known : (i b : ℕ) → i < suc m → own i ≡ suc b → (b < n) × (option (suc b) ≡ i) → (bidders b ≡ true) × Demands m bid q b i
      known zero b l e w = absurd (omega (arith, e, t.own-null))
      known (suc i) b l e w = (t.all-bidders b w.0, wants b i w.0 w.1)

      placed : (b : ℕ) → b < n → (i : ℕ) → option (suc b) ≡ i → Demands m bid q b 0 ⊎ Holds m own b
      placed b lb zero e = inl (λ j lj. omega (arith, enough b j lb lj, t.free b lb e, t.bid-null b, t.q-null))
      placed b lb (suc i) e = inr (suc i, omega (arith, t.items-below i (t.held.known (suc b) i (omega arith) e).0), t.is-own b i lb e)
