-- The nearest item that is left, and who holds it: what entering it asks, and what it gives. THEORY.md 2.12. Assumes nothing.
use Prim.Native.Nat.{ℕ, suc, ◌≤◌, ◌<◌}
use mathlib.Core.Path.{◌≡◌, sym, ap, ◌∙◌, subst}
use mathlib.Core.List.{List}
use native.Mathlib.Omega.{arith}
use lib.ListN.{length}
use Rattle.rule.specs.Sheet.{amount}
use Rattle.rule.proofs.Limits.{amount-null}
use Rattle.bids.specs.Lent.{line_of}
use Rattle.bids.specs.Line.{row_shown}
use Rattle.bids.proofs.Lent.{line-length}
use Rattle.bids.proofs.Rows.{row_is}
use Rattle.bids.specs.Fit.{Small}
use Rattle.bids.proofs.Fitting.{line_small}
use Rattle.least.specs.Holding.{Demands}
use Rattle.least.specs.Searching.{line_at, Item}
use Rattle.least.specs.Steps.{Lowest, Numbered, IsLeft, Enters, Entered}
use Rattle.least.specs.Putting.{Table, bid_at, Searching}
use Rattle.least.proofs.Searching.{line-own}
use Rattle.least.proofs.Raising.{pays}
use Rattle.least.proofs.Entering.{amount-item, amount-small, Entry, entered-searching}

-- ---- the bids

pub bid-small : (m : ℕ) (bids : List ℕ) → Small bids → (b i : ℕ) → bid_at m bids b i ≤ 4095
bid-small m bids h b i = amount-small (line_of m bids b) (line_small m bids h b) i

pub bid-null : (m : ℕ) (bids : List ℕ) (b : ℕ) → bid_at m bids b 0 ≡ 0
bid-null m bids b = amount-null (line_of m bids b)

-- the row that is lent is the bidder's line
pub table-row : (m n : ℕ) (bids : List ℕ) → Table m n bids → (b : ℕ) → b < n → row_shown m b bids ≡ line_of m bids b
table-row m n bids t b l = row_is m b bids t.max_items (t.inside b l)

pub line-long : (m n : ℕ) (bids : List ℕ) → Table m n bids → (b : ℕ) → b < n → length (line_of m bids b) ≡ m
line-long m n bids t b l = line-length m bids b (t.inside b l)

-- ---- bidder b holds item j, which they demand, and which is the nearest of those that are left

pub record Holder (m n : ℕ) (In : ℕ → Type 0) (top : ℕ) (first : ℕ → ℕ) (bids prices own dist via left : List ℕ) (mask : ℕ → ℕ) (turns j b : ℕ) : Type 0 where
  pub table : Table m n bids
  pub small : Small prices
  pub inside : (x : ℕ) → In x → Item m x
  pub searching : Searching m In top (line_at (bid_at m bids) (amount own) first) prices dist via left mask turns
  pub item : Item m j
  pub is-left : IsLeft left j
  pub near : amount dist j ≤ 4095
  pub nearest : (i : ℕ) → Item m i → IsLeft left i → amount dist j ≤ amount dist i
  pub member : b < n
  pub own_is : amount own j ≡ suc b
  pub demands : Demands m (bid_at m bids) (amount prices) b j

module _ {m n : ℕ} {In : ℕ → Type 0} {top : ℕ} {first : ℕ → ℕ} {bids prices own dist via left : List ℕ} {mask : ℕ → ℕ} {turns j b : ℕ}
    (h : Holder m n In top first bids prices own dist via left mask turns j b) where
  abbrev line : ℕ → ℕ → ℕ
  line = line_at (bid_at m bids) (amount own) first

  her-line : (x : ℕ) → line j x ≡ bid_at m bids b x
  her-line x = line-own (bid_at m bids) (amount own) first j b x h.own_is (amount-null own)

  priced : amount prices j ≤ bid_at m bids b j
  priced = pays m (bid_at m bids) (amount prices) b j (bid-null m bids b) (amount-null prices) h.demands

  module _ (hers : List ℕ) (lent : hers ≡ row_shown m b bids) where
    eh : hers ≡ line_of m bids b
    eh = lent ∙ table-row m n bids h.table b h.member

    pub holder-long : length hers ≡ m
    holder-long = ap length eh ∙ line-long m n bids h.table b h.member

    at-hers : (x : ℕ) → amount hers x ≡ bid_at m bids b x
    at-hers x = ap (λ (l : List ℕ). amount l x) eh

    pub holder-enters : Enters j hers prices dist via left
    holder-enters =
        record {
          some = h.item.0;
          within = omega (arith, holder-long, h.item.1);
          short = omega (arith, holder-long, h.table.max_items);
          line_small = subst (λ (l : List ℕ). Small l) (sym eh) (line_small m bids h.table.small b);
          prices_small = h.small;
          near = omega (arith, amount-item dist j h.item.0, h.near);
          priced = omega (arith, amount-item prices j h.item.0, amount-item hers j h.item.0, at-hers j, priced);
          long_dist = h.searching.long_dist;
          long_via = h.searching.long_via;
          long_left = h.searching.long_left;
        }

    module _ (dist' via' left' : List ℕ) (u low : ℕ) (e : Entered j hers prices dist via left dist' via' left' u low) where
      pub holder-entry : Entry m In top line prices dist via left mask turns j dist' via' left' u
      holder-entry =
          record {
            inside = h.inside;
            most = h.table.max_items;
            searching = h.searching;
            item = h.item;
            is-left = h.is-left;
            nearest = h.nearest;
            prefers = λ x i. omega (arith, her-line x, her-line j, h.demands x (h.inside x i).1);
            priced = omega (arith, her-line j, priced);
            hers = hers;
            len = holder-long;
            line-hers = λ x. her-line x ∙ sym (at-hers x);
            low = low;
            entered = e;
          }

      pub holder-lowest : Numbered left' × Lowest dist' left' m low
      holder-lowest = ((entered-searching holder-entry).numbered, subst (λ (k : ℕ). Lowest dist' left' k low) holder-long e.lowest)
