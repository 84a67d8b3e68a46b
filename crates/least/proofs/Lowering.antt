-- Prices that balance fall to the least from the base up, in lists. THEORY.md 2.13. Assumes nothing.
use Prim.Native.Nat.{ℕ, zero, suc, ◌-◌, ◌≤◌, ◌<◌}
use mathlib.Core.Path.{◌≡◌, sym, ap, ◌∙◌, subst}
use mathlib.Core.Bool.{false}
use mathlib.Core.List.{List}
use mathlib.Core.Logic.{◌⊎◌, inl, inr}
use native.Mathlib.Omega.{arith}
use native.Mathlib.Decide.{dec_le}
use lib.ListN.{length, get_or, take}
use lib.Seq.{length-take-le, get_or-take}
use Rattle.sets.specs.Bit.{has}
use Rattle.sets.proofs.Counting.{not-both, is_false}
use Rattle.rule.specs.Sheet.{amount}
use Rattle.rule.specs.Equilibrium.{Below}
use Rattle.rule.proofs.Overdemand.{Enough}
use Rattle.rule.proofs.Surplus.{wants_at}
use Rattle.rule.proofs.Surplus.{bid_of}
use Rattle.rule.proofs.AtPrices.{enough-of-empty, empty-of-enough}
use Rattle.rule.proofs.Limits.{amount-null}
use Rattle.bids.specs.Lent.{rows_of}
use Rattle.bids.proofs.Lent.{rows-length, row_at}
use Rattle.bids.specs.Fit.{Small}
use Rattle.least.specs.Least.{LeastFrom}
use Rattle.least.specs.Holding.{Demands, Holds, Held}
use Rattle.least.specs.Searching.{Item}
use Rattle.least.specs.Putting.{bid_at, Changed, everyone}
use Rattle.least.specs.Transposing.{Balanced}
use Rattle.least.specs.Falling.{Idle, Seated, Offered, Descends, Descended, Lowered}
use Rattle.least.proofs.Falling.{KeptUp, Fall, from_base, fall-held, fall-least}
use Rattle.least.proofs.Calming.{held-enough, enough-same}
use Rattle.least.proofs.Holders.{bid-null}
use Rattle.least.proofs.Joining.{everyone-use, everyone-make}

-- the bids of the sheet
pub rows-bid : (m n : ℕ) (bids : List ℕ) (b i : ℕ) → b < n → bid_of (rows_of m n bids) b i ≡ bid_at m bids b i
unfolding bid_of
rows-bid m n bids b i l = ap (λ (z : List ℕ). amount z i) (row_at m n bids b l)

-- everybody holds what they demand, and prices are below all from the base up at which no set is overdemanded: so they are the least
pub least-from : (m n : ℕ) (bids base prices own : List ℕ) → Held m (bid_at m bids) (everyone n) (amount prices) (amount own) → ((i : ℕ) → amount base i ≤ amount prices i)
    → ((q : List ℕ) → ((i : ℕ) → amount base i ≤ amount q i) → Enough m n (wants_at m (bid_at m bids) (amount q)) → (i : ℕ) → amount prices i ≤ amount q i)
    → LeastFrom m (rows_of m n bids) base prices
unfolding Below
least-from m n bids base prices own held above least =
    record {
      above = above;
      empty = empty-of-enough m (rows_of m n bids) prices (calm (held-enough n (everyone-make n) held));
      least = λ q from e. least q from (calm-back q (enough-of-empty m (rows_of m n bids) q e));
    }
  where
    calm : Enough m n (wants_at m (bid_at m bids) (amount prices)) → Enough m (length (rows_of m n bids)) (wants_at m (bid_of (rows_of m n bids)) (amount prices))
    calm o =
        subst (λ (k : ℕ). Enough m k (wants_at m (bid_of (rows_of m n bids)) (amount prices))) (sym (rows-length m n bids))
        (enough-same m n (bid_at m bids) (bid_of (rows_of m n bids)) (amount prices) (λ b i l li. sym (rows-bid m n bids b i l)) o)

    calm-back : (q : List ℕ) → Enough m (length (rows_of m n bids)) (wants_at m (bid_of (rows_of m n bids)) (amount q)) → Enough m n (wants_at m (bid_at m bids) (amount q))
    calm-back q o =
        enough-same m n (bid_of (rows_of m n bids)) (bid_at m bids) (amount q) (λ b i l li. rows-bid m n bids b i l)
        (subst (λ (k : ℕ). Enough m k (wants_at m (bid_of (rows_of m n bids)) (amount q))) (rows-length m n bids) o)

module _ {m n : ℕ} {bids base prices own : List ℕ} (b : Balanced m n bids base prices own) (seats : ℕ) (t : Seated m (own) seats) (best : List ℕ) (o : Offered m bids seats n base best) where
  -- who is not seated holds nothing, and the other way round
  idle-of : (c : ℕ) → c < n → has seats (suc c) ≡ false → Idle m (amount own) c
  idle-of c l off zero li e = omega (arith, e, amount-null own)
  idle-of c l off (suc x) li e =
      not-both (has seats (suc c)) (t.seated x c (omega arith) (omega (arith, l, b.standing.table.max_bidders)) (let z : get_or own x 0 ≡ suc c = unfold amount in e in z)) off

  of-idle : (c : ℕ) → Idle m (amount own) c → has seats (suc c) ≡ false
  of-idle c idle = is_false (has seats (suc c)) (λ on. let w = t.holds c on in idle (suc w.0) (omega (arith, w.1)) (unfold amount in w.2))

  part_at : (i : ℕ) → Item m i → amount (take m best) i ≡ amount best i
  unfolding amount
  part_at zero x = absurd (omega (arith, x.0))
  part_at (suc y) x = get_or-take m best y 0 (omega (arith, x.1))

  abbrev Kept : ℕ → Type 0
  Kept = KeptUp m (bid_at m bids) (everyone n) (amount own) (amount base) (amount (take m best))

  best_is : (i : ℕ) → Item m i → Kept i
  best_is i x = go (o.is i x)
    where
      go : (amount best i ≡ amount base i) ⊎ ((c : ℕ) × (c < n) × (has seats (suc c) ≡ false) × (bid_at m bids c i ≡ amount best i)) → Kept i
      go (inl e) = inl (part_at i x ∙ e)
      go (inr w) = inr (w.0, everyone-make n w.0 w.1, idle-of w.0 w.1 w.2, w.3 ∙ sym (part_at i x))

  -- no offer is above its price
  below : (i : ℕ) → Item m i → amount (take m best) i ≤ amount prices i
  below i x = go (best_is i x)
    where
      go : Kept i → amount (take m best) i ≤ amount prices i
      go (inl e) = omega (arith, e, b.above i x)
      go (inr w) = by (b.standing.held.placed w.0 w.1)
        where
          by : Demands m (bid_at m bids) (amount prices) w.0 0 ⊎ Holds m (amount own) w.0
              → amount (take m best) i ≤ amount prices i
          by (inl d) = omega (arith, d i x.1, w.3, bid-null m bids w.0, amount-null prices)
          by (inr v) = absurd (w.2 v.0 v.1 v.2)

  pub descends : Descends m bids prices own (take m best)
  descends =
      record {
        bidders = n;
        standing = b.standing;
        long = length-take-le m best (omega (arith, o.long, b.standing.table.max_items));
        below = below;
      }

  module _ (dist via : List ℕ) (d : Descended m bids prices own (take m best) dist via) (after : List ℕ) (c : Changed m (λ x. get_or prices x 0 - get_or dist x 0) prices after) where
    after_is : (i : ℕ) → Item m i → amount after i ≡ amount prices i - amount dist i
    unfolding amount
    after_is zero x = absurd (omega (arith, x.0))
    after_is (suc y) x = c.done y (omega (arith, x.1))

    fall : Fall m n (bid_at m bids) (everyone n) (amount prices) (amount own) (amount base) (amount (take m best)) (amount dist) d.mask (amount via) (amount after)
    fall =
        record {
          below = everyone-use n;
          held = b.standing.held;
          bid-null = bid-null m bids;
          q-null = amount-null prices;
          above = b.above;
          free = b.free;
          best-base = λ i x. omega (arith, part_at i x, o.from_base i x);
          best-bid = λ e i on idle x. omega (arith, part_at i x, o.from_bid e i (everyone-use n e on) (of-idle e idle) x);
          best_is = best_is;
          search = d.search;
          entered = d.entered;
          flat = λ i x e. d.flat i x e (omega (arith, below i x, part_at i x, o.from_base i x, b.free i x e));
          p-null = amount-null after;
          p-is = after_is;
        }

    past : (x : ℕ) → m ≤ x → get_or after x 0 ≡ get_or base x 0
    past x l = c.rest x l ∙ b.past x l

    -- at null, at an item, and past the items
    everywhere : (z : List ℕ) → ((i : ℕ) → Item m i → amount after i ≤ amount z i) → ((i : ℕ) → amount base i ≤ amount z i) → (i : ℕ) → amount after i ≤ amount z i
    everywhere z items from zero = omega (arith, amount-null after)
    everywhere z items from (suc y) = go (dec_le (suc y) m)
      where
        go : Dec (suc y ≤ m) → amount after (suc y) ≤ amount z (suc y)
        go (yes l) = items (suc y) (omega arith, omega arith)
        go (no l) = let e : amount after (suc y) ≡ amount base (suc y) = unfold amount in past y (omega arith) in omega (arith, e, from (suc y))

    above : (i : ℕ) → amount base i ≤ amount after i
    above zero = omega (arith, amount-null base)
    above (suc y) = go (dec_le (suc y) m)
      where
        go : Dec (suc y ≤ m) → amount base (suc y) ≤ amount after (suc y)
        go (yes l) = from_base fall (suc y) (omega arith, omega arith)
        go (no l) = let e : amount after (suc y) ≡ amount base (suc y) = unfold amount in past y (omega arith) in omega (arith, e)

    small : (x : ℕ) → get_or after x 0 ≤ 4095
    small x = go (dec_le (suc x) m)
      where
        old : get_or prices x 0 ≤ 4095
        old = unfold Small in b.standing.small x

        go : Dec (suc x ≤ m) → get_or after x 0 ≤ 4095
        go (yes l) = omega (arith, c.done x (omega arith), old)
        go (no l) = omega (arith, c.rest x (omega arith), old)

    pub lowered : Lowered m n bids base after own
    lowered =
        record {
          standing = record {
            table = b.standing.table;
            long = c.long;
            long_own = b.standing.long_own;
            small = unfold Small in small;
            held = fall-held fall;
          };
          least = least-from m n bids base after own (fall-held fall) above
              (λ q from calm. everywhere q (λ i x. fall-least fall (amount q) (λ y iy. from y) calm i x.1) from);
          past = past;
        }
