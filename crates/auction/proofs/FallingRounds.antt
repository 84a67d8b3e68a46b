-- Where the least prices lie, falling first: the close of rising first, and as many rounds lowered and raised as the largest fall up to the turn and the largest rise
-- after it. THEORY.md 2.14. Assumes nothing.
use Prim.Native.Nat.{ℕ, ◌-◌}
use mathlib.Core.Path.{◌≡◌, sym, ap, ◌∙◌}
use mathlib.Core.List.{List}
use lib.ListN.{length}
use Rattle.sets.specs.Lists.{places}
use Rattle.rule.specs.Sheet.{Sheet, amount, greatest}
use Rattle.rule.specs.Round.{State, close}
use Rattle.rule.specs.FallingFirst.{falling_close, FallingClosing}
use Rattle.rule.specs.Reduced.{reduced_bids}
use Rattle.least.specs.Least.{Least}
use Rattle.auction.proofs.LeastPrices.{least-close, least-falling-turn}
use Rattle.auction.proofs.Settling.{Ready, close-long, first-at, far-is}

pub same_close : (s : Sheet) (c : FallingClosing s) → (falling_close s).prices ≡ (close s).prices
same_close s c = ap (λ (t : State). t.prices) c.close_is ∙ c.same-prices ∙ sym (ap (λ (t : State). t.prices) c.rising_first.close_is)

-- the least prices that the code finds, from the floors up: with the bids, and with reduced bids
module _ (s : Sheet) (g : Ready s) (c : FallingClosing s) (last : List ℕ) (end : Least s.items s.bids s.floors last)
    (turn : List ℕ) (low : Least s.items (reduced_bids s.items s.start s.bids) s.floors turn) where
  last-at : (i : ℕ) → amount last i ≡ amount c.prices i
  last-at i = least-close s g.limits c.rising_first last end.least i ∙ sym (ap (λ (p : List ℕ). amount p i) c.same-prices)

  turn_at : (i : ℕ) → amount turn i ≡ amount c.turn i
  turn_at = least-falling-turn s g.limits c turn low.least

  prices-long : length c.prices ≡ s.items
  prices-long = ap length (sym (ap (λ (t : State). t.prices) c.close_is) ∙ same_close s c) ∙ close-long s g

  pub falling-raised : (r : ℕ) → r ≡ greatest 32 (λ i. amount last i - amount turn i) → r ≡ (falling_close s).ups
  falling-raised r e =
      e ∙ far-is s.items g.limits.max_items last c.prices turn c.turn prices-long last-at turn_at ∙ sym c.largest-rise
      ∙ sym (ap (λ (t : State). t.ups) c.close_is)

  pub falling-lowered : (first : List ℕ) → first ≡ places 32 s.start → (r : ℕ) → r ≡ greatest 32 (λ i. amount first i - amount turn i) → r ≡ (falling_close s).downs
  falling-lowered first ef r e =
      e ∙ far-is s.items g.limits.max_items first s.start turn c.turn g.limits.start.long (first-at s g first ef) turn_at ∙ sym c.largest-fall
      ∙ sym (ap (λ (t : State). t.downs) c.close_is)
