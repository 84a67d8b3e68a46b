-- The search among the items that are held, in lists, from what keeps their prices up from outside. THEORY.md 2.13. Assumes nothing.
use Prim.Native.Nat.{ℕ, zero, suc, ◌-◌, ◌≤◌, ◌<◌}
use mathlib.Core.Path.{◌≡◌, refl, ◌∙◌, subst}
use mathlib.Core.List.{List}
use mathlib.Core.Logic.{inl, inr}
use native.Mathlib.Omega.{arith}
use native.Mathlib.Decide.{ℕ_discrete}
use lib.ListN.{length, get_or, replicate}
use Rattle.rule.specs.Sheet.{amount}
use Rattle.bids.specs.Line.{row_shown}
use Rattle.least.specs.Searching.{line_at, Item, Relaxed}
use Rattle.least.specs.Steps.{Reached, Lowest, Numbered, HeldLeft, IsLeft, Nearest, Enters, Entered, at_option}
use Rattle.least.specs.Putting.{bid_at, left_count, Searching}
use Rattle.least.specs.Falling.{HeldItem, Descends, Descended}
use Rattle.least.proofs.Searching.{line-start, reach-start}
use Rattle.least.proofs.Distances.{option-amount}
use Rattle.least.proofs.Numbering.{held-numbered, held-left, left-held}
use Rattle.least.proofs.Entering.{amount-small, start-dist, start-searching, Entry, later, entered-searching, fewer}
use Rattle.least.proofs.Holders.{Holder, holder-long, holder-enters, holder-entry, holder-lowest}
use Rattle.least.proofs.Joining.{everyone-use}

-- where the search stands
pub record Falling (m : ℕ) (bids prices own best dist via left : List ℕ) (next : ℕ) : Type 0 where
  pub mask : ℕ → ℕ
  pub turns : ℕ
  pub searching : Searching m (HeldItem m (amount own)) 0 (line_at (bid_at m bids) (amount own) (amount best)) prices dist via left mask turns
  pub flat : (i : ℕ) → Item m i → amount own i ≡ 0 → amount best i ≡ amount prices i → amount dist i ≡ 0
  pub nearest : Nearest m 65535 dist left next

module _ {m : ℕ} {bids prices own best : List ℕ} (d : Descends m bids prices own best) where
  abbrev line : ℕ → ℕ → ℕ
  line = line_at (bid_at m bids) (amount own) (amount best)

  most : m ≤ 64
  most = d.standing.table.max_items

  pub fall-lowest : (dist left : List ℕ) (low : ℕ) → HeldLeft own left → Lowest dist left (length best) low → Numbered left × Lowest dist left m low
  fall-lowest dist left low h t = (held-numbered m own left most h, subst (λ (n : ℕ). Lowest dist left n low) d.long t)

  pub fall-start : (dist₀ via₀ left : List ℕ) → dist₀ ≡ replicate 64 16384 → via₀ ≡ replicate 64 0 → HeldLeft own left → (dist via : List ℕ)
      → Reached 0 0 best prices dist₀ via₀ (length best) dist via → (next : ℕ) → Nearest m 65535 dist left next → Falling m bids prices own best dist via left next
  fall-start dist₀ via₀ left ed ev h dist via t next near =
      record {
        mask = λ x. 0;
        turns = 0;
        searching = start-searching m (HeldItem m (amount own)) (λ x i. i.0) 0 (omega arith) line prices d.standing.small most best (line-start (bid_at m bids) (amount own) (amount best))
            (λ x i. omega (arith, d.below x i.0)) dist via left reached (held-numbered m own left most h) h.long (held-left m own left most h) (left-held m own left most h);
        flat = λ i x e q.
            omega (
              arith,
              start-dist m (HeldItem m (amount own)) (λ x i. i.0) 0 (omega arith) line prices d.standing.small most best (line-start (bid_at m bids) (amount own) (amount best)) (λ x i. omega (arith, d.below x i.0)) dist via left reached i x,
              q,
            );
        nearest = near;
      }
    where
      reached : Reached 0 0 best prices (replicate 64 16384) (replicate 64 0) m dist via
      reached =
          subst (λ (n : ℕ). Reached 0 0 best prices (replicate 64 16384) (replicate 64 0) n dist via) d.long
          (subst (λ (v : List ℕ). Reached 0 0 best prices (replicate 64 16384) v (length best) dist via) ev
          (subst (λ (z : List ℕ). Reached 0 0 best prices z via₀ (length best) dist via) ed t))

  module _ {dist via left : List ℕ} {next : ℕ} (s : Falling m bids prices own best dist via left next) where
    pub fall-small : next ≤ 64
    fall-small = go (ℕ_discrete next 0)
      where
        go : Dec (next ≡ 0) → next ≤ 64
        go (yes e) = omega (arith, e)
        go (no ne) = omega (arith, (s.nearest.at_item (omega (arith, ne))).0.1, most)

    -- no distance is above the price
    price-above : (i : ℕ) → HeldItem m (amount own) i → amount dist i ≤ amount prices i
    price-above i x = omega (arith, s.searching.search.reach i 0 x (omega arith) (inl refl), reach-start 0 line (amount prices) (amount dist))

    -- none is left
    pub fall-end : next ≡ 0 → Descended m bids prices own best dist via
    fall-end e = record { mask = s.mask; search = s.searching.search; entered = entered; flat = s.flat }
      where
        entered : (i : ℕ) → HeldItem m (amount own) i → 0 < s.mask i
        entered i x = go (ℕ_discrete (s.mask i) 0)
          where
            go : Dec (s.mask i ≡ 0) → 0 < s.mask i
            go (no ne) = omega (arith, ne)
            go (yes z) =
                absurd (omega (arith, s.nearest.at_null e i x.0 (s.searching.opens i x z), price-above i x, amount-small prices d.standing.small i))

    -- the nearest item, and who holds it
    module _ (some : 0 < next) (h : ℕ) (eh : h ≡ at_option 0 own next) where
      near : Item m next × IsLeft left next × (amount dist next < 65535) × ((i : ℕ) → Item m i → IsLeft left i → amount dist next ≤ amount dist i)
      near = s.nearest.at_item some

      is_held : HeldItem m (amount own) next
      is_held = (s.searching.closed next near.0 near.1).0

      abbrev b : ℕ
      b = h - 1

      own_is : amount own next ≡ suc b
      own_is = omega (arith, eh, option-amount own next, is_held.1)

      pub fall-holder : (0 < h) × (b < d.bidders)
      fall-holder = (omega (arith, eh, option-amount own next, is_held.1), everyone-use d.bidders b (d.standing.held.known next b near.0.1 own_is).0)

      holder : Holder m d.bidders (HeldItem m (amount own)) 0 (amount best) bids prices own dist via left s.mask s.turns next b
      holder =
          record {
            table = d.standing.table;
            small = d.standing.small;
            inside = λ x i. i.0;
            searching = s.searching;
            item = near.0;
            is-left = near.1;
            near = omega (arith, price-above next is_held, amount-small prices d.standing.small next);
            nearest = near.3;
            member = fall-holder.1;
            own_is = own_is;
            demands = (d.standing.held.known next b near.0.1 own_is).1;
          }

      module _ (hers : List ℕ) (lent : hers ≡ row_shown m b bids) where
        pub fall-enters : Enters next hers prices dist via left
        fall-enters = holder-enters holder hers lent

        module _ (dist' via' left' : List ℕ) (u low : ℕ) (e : Entered next hers prices dist via left dist' via' left' u low) where
          entry : Entry m (HeldItem m (amount own)) 0 line prices dist via left s.mask s.turns next dist' via' left' u
          entry = holder-entry holder hers lent dist' via' left' u low e

          pub fall-fewer : left_count left' < left_count left
          fall-fewer = fewer entry

          pub fall-nearest : Numbered left' × Lowest dist' left' m low
          fall-nearest = holder-lowest holder hers lent dist' via' left' u low e

          pub fall-next : (next' : ℕ) → Nearest m 65535 dist' left' next' → Falling m bids prices own best dist' via' left' next'
          fall-next next' near' = record { mask = later entry; turns = suc s.turns; searching = entered-searching entry; flat = flat; nearest = near' }
            where
              flat : (i : ℕ) → Item m i → amount own i ≡ 0 → amount best i ≡ amount prices i → amount dist' i ≡ 0
              flat zero x z q = absurd (omega (arith, x.0))
              flat (suc y) x z q = go (e.reached.done y (omega (arith, x.1, holder-long holder hers lent)))
                where
                  old : get_or dist y 0 ≡ 0
                  old = unfold amount in s.flat (suc y) x z q

                  go : Relaxed u next (get_or hers y 0) (get_or prices y 0) (get_or dist y 0) (get_or via y 0) (get_or dist' y 0) (get_or via' y 0) → amount dist' (suc y) ≡ 0
                  go (inl r) = absurd (omega (arith, r.0, old))
                  go (inr r) = unfold amount in r.1 ∙ old
