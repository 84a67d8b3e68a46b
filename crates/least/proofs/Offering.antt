-- Who holds an item, place by place, and what those who hold none offer, bidder by bidder. THEORY.md 2.13. Assumes nothing.
use Prim.Native.Nat.{ℕ, zero, suc, ◌+◌, ◌≤◌, ◌<◌, max}
use mathlib.Core.Path.{◌≡◌, sym, ap, ◌∙◌}
use mathlib.Core.Bool.{true, false, ◌||◌}
use mathlib.Core.List.{List}
use mathlib.Core.Logic.{◌⊎◌, inl, inr}
use native.Mathlib.Omega.{arith}
use native.Mathlib.Decide.{dec_le}
use lib.Dec.{eqb}
use lib.ListN.{length, get_or}
use Rattle.sets.specs.Bit.{is_set, has, set_of}
use Rattle.sets.proofs.Counting.{below_suc, not-both}
use Rattle.sets.proofs.Members.{empty-has}
use Rattle.sets.proofs.Taking.{with-use, with-old, with-new}
use Rattle.rule.specs.Sheet.{amount}
use Rattle.bids.specs.Lent.{line_of}
use Rattle.least.specs.Searching.{Item}
use Rattle.least.specs.Putting.{bid_at, Changed}
use Rattle.least.specs.Falling.{Seated, Offered}

-- ---- who holds an item

pub seated-none : (own : List ℕ) → Seated 0 own 0
seated-none own = record { holds = λ b h. absurd (not-both (has 0 (suc b)) h (empty-has (suc b))); seated = λ x b l lb e. absurd (omega arith) }

pub seated-more : (n : ℕ) (own : List ℕ) (s r : ℕ) → Seated n own s → (h : ℕ) → h ≡ get_or own n 0 → r ≡ set_of 64 (λ k. has s k || eqb k h) → Seated (n + 1) own r
unfolding has
seated-more n own s r t h eh e =
    record { holds = λ b on. holds b (with-use 64 s h r e b on); seated = λ x b lx lb ex. seated x b lb ex (below_suc (omega arith)) }
  where
    holds : (b : ℕ) → (is_set s b ≡ true) ⊎ (suc b ≡ h) → (x : ℕ) × (x < n + 1) × (get_or own x 0 ≡ suc b)
    holds b (inl w) = let v = t.holds b (unfold has in w) in (v.0, omega (arith, v.1), v.2)
    holds b (inr w) = (n, omega arith, sym eh ∙ sym w)

    seated : (x b : ℕ) → b < 64 → get_or own x 0 ≡ suc b → (x ≡ n) ⊎ (x < n) → is_set r b ≡ true
    seated x b lb ex (inl q) = with-new 64 s h r e b lb (sym ex ∙ ap (λ (z : ℕ). get_or own z 0) q ∙ sym eh)
    seated x b lb ex (inr l) = with-old 64 s h r e b lb (unfold has in t.seated x b l lb ex)

-- ---- what the others offer

module _ (m : ℕ) (bids : List ℕ) (seats k : ℕ) (base best : List ℕ) (o : Offered m bids seats k base best) where
  later : (i : ℕ) → (b : ℕ) × (b < k) × (has seats (suc b) ≡ false) × (bid_at m bids b i ≡ amount best i)
      → (b : ℕ) × (b < k + 1) × (has seats (suc b) ≡ false) × (bid_at m bids b i ≡ amount best i)
  later i w = (w.0, omega (arith, w.1), w.2, w.3)

  -- bidder k holds an item
  pub offered-skip : has seats (suc k) ≡ true → Offered m bids seats (k + 1) base best
  offered-skip on = record { long = o.long; from_base = o.from_base; from_bid = λ b i l e x. bid b i e x (below_suc (omega arith)); is = λ i x. is i (o.is i x) }
    where
      bid : (b i : ℕ) → has seats (suc b) ≡ false → Item m i → (b ≡ k) ⊎ (b < k) → bid_at m bids b i ≤ amount best i
      bid b i e x (inl q) = absurd (not-both (has seats (suc k)) on (ap (λ (z : ℕ). has seats (suc z)) (sym q) ∙ e))
      bid b i e x (inr l) = o.from_bid b i l e x

      is : (i : ℕ) → (amount best i ≡ amount base i) ⊎ ((b : ℕ) × (b < k) × (has seats (suc b) ≡ false) × (bid_at m bids b i ≡ amount best i))
          → (amount best i ≡ amount base i) ⊎ ((b : ℕ) × (b < k + 1) × (has seats (suc b) ≡ false) × (bid_at m bids b i ≡ amount best i))
      is i (inl e) = inl e
      is i (inr w) = inr (later i w)

  -- bidder k does not
  pub offered-more : has seats (suc k) ≡ false → (line : List ℕ) → line ≡ line_of m bids k → length line ≡ m → (next : List ℕ)
      → Changed (length line) (λ x. max (get_or best x 0) (get_or line x 0)) best next → Offered m bids seats (k + 1) base next
  offered-more off line el len next c =
      record {
        long = c.long;
        from_base = λ i x. omega (arith, o.from_base i x, high i x);
        from_bid = λ b i l e x. bid b i e x (below_suc (omega arith));
        is = λ i x. is i x (dec_le (bid_at m bids k i) (amount best i)) (o.is i x);
      }
    where
      high : (i : ℕ) → Item m i → amount next i ≡ max (amount best i) (bid_at m bids k i)
      high zero x = absurd (omega (arith, x.0))
      high (suc y) x = unfold amount in c.done y (omega (arith, x.1, len)) ∙ ap (λ (l : List ℕ). max (get_or best y 0) (get_or l y 0)) el

      bid : (b i : ℕ) → has seats (suc b) ≡ false → Item m i → (b ≡ k) ⊎ (b < k) → bid_at m bids b i ≤ amount next i
      bid b i e x (inl q) = omega (arith, high i x, ap (λ (z : ℕ). bid_at m bids z i) q)
      bid b i e x (inr l) = omega (arith, high i x, o.from_bid b i l e x)

      is : (i : ℕ) → Item m i → Dec (bid_at m bids k i ≤ amount best i) → (amount best i ≡ amount base i) ⊎ ((b : ℕ) × (b < k) × (has seats (suc b) ≡ false) × (bid_at m bids b i ≡ amount best i))
          → (amount next i ≡ amount base i) ⊎ ((b : ℕ) × (b < k + 1) × (has seats (suc b) ≡ false) × (bid_at m bids b i ≡ amount next i))
      is i x (no h) s = inr (k, omega arith, off, omega (arith, high i x, h))
      is i x (yes h) (inl e) = inl (omega (arith, high i x, h, e))
      is i x (yes h) (inr w) = inr (w.0, omega (arith, w.1), w.2, omega (arith, high i x, h, w.3))
