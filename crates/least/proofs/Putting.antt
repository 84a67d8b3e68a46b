-- Where bidder k's search has ended: the prices, the holders, and that bidder k is then put in. THEORY.md 2.12. Assumes nothing.
use Prim.Native.Nat.{ℕ, zero, suc, ◌+◌, ◌-◌, ◌≤◌, ◌<◌}
use mathlib.Core.Path.{◌≡◌, refl, sym, ap, ◌∙◌, subst}
use mathlib.Core.Bool.{Bool, true, false, ◌||◌}
use mathlib.Core.List.{List}
use mathlib.Core.Logic.{◌⊎◌, inl, inr}
use native.Mathlib.Omega.{arith}
use native.Mathlib.Decide.{ℕ_discrete, dec_le}
use lib.Dec.{eqb}
use lib.ListN.{length, get_or}
use borrow.Author.Tests.{eqb-true, eq-eqb}
use Rattle.sets.proofs.Counting.{not-both, or_cases, or_left, or_right}
use Rattle.rule.specs.Sheet.{amount}
use Rattle.rule.proofs.Limits.{amount-null}
use Rattle.bids.specs.Fit.{Small}
use Rattle.least.specs.Holding.{Joins}
use Rattle.least.specs.Searching.{who, Source, Item}
use Rattle.least.specs.Shifting.{Hole, From, Chain}
use Rattle.least.specs.Steps.{IsLeft, at_option}
use Rattle.least.specs.Putting.{bid_at, Ready, Seeking, Changed, Chained, Shifted, Put}
use Rattle.least.proofs.Holding.{hole-free, hole-null}
use Rattle.least.proofs.Raising.{Rise, from-wants, null-wants, search-held, search-range, free-flat}
use Rattle.least.proofs.Distances.{option-null, option-item}
use Rattle.least.proofs.Entering.{amount-item, amount-small}
use Rattle.least.proofs.Holders.{bid-small, bid-null}
use Rattle.least.proofs.Seeking.{null-small}

-- everybody who took part, and bidder k
unfoldable pub with_bidder : (ℕ → Bool) → ℕ → ℕ → Bool
with_bidder on k b = on b || eqb b k

pub joins-with : (on : ℕ → Bool) (k : ℕ) → on k ≡ false → Joins k on (with_bidder on k)
unfolding with_bidder
joins-with on k off =
    record {
      joined = or_right (on k) (eqb k k) (eq-eqb k k refl);
      stays = λ b t. (or_left (on b) (eqb b k) t, λ e. not-both (on k) (ap on (sym e) ∙ t) off);
      was = λ b t ne. go b ne (or_cases (on b) (eqb b k) t);
    }
  where
    go : (b : ℕ) → (b ≡ k → ⊥) → (on b ≡ true) ⊎ (eqb b k ≡ true) → on b ≡ true
    go b ne (inl t) = t
    go b ne (inr e) = absurd (ne (eqb-true b k e))

module _ {m k : ℕ} {bids prices own : List ℕ} (r : Ready m k bids prices own) {dist via left : List ℕ} {null last next : ℕ}
    (s : Seeking m k bids prices own dist via left null last next) (free : amount own next ≡ 0) (level : ℕ) (el : level ≡ at_option null dist next) where
  -- the nearest option is null, or an item
  abbrev Level : Type 0
  Level = ((next ≡ 0) × (level ≡ null)) ⊎ ((0 < next) × (level ≡ amount dist next))

  null-or-item : Level
  null-or-item = go (ℕ_discrete next 0)
    where
      go : Dec (next ≡ 0) → Level
      go (yes e) = inl (e, el ∙ sym (option-null null dist next e))
      go (no ne) = let pos : 0 < next = omega (arith, ne) in inr (pos, el ∙ sym (option-item null dist next ne) ∙ amount-item dist next pos)

  level-null : level ≤ null
  level-null = go null-or-item
    where
      go : Level → level ≤ null
      go (inl w) = omega (arith, w.1)
      go (inr w) = omega (arith, w.1, (s.nearest.at_item w.0).2)

  pub level-small : level ≤ 4095
  level-small = omega (arith, level-null, null-small r s)

  ahead : (x : ℕ) → Item m x → s.mask x ≡ 0 → level ≤ amount dist x
  ahead x i o = go null-or-item
    where
      is-left : IsLeft left x
      is-left = s.searching.opens x i o

      go : Level → level ≤ amount dist x
      go (inl w) = omega (arith, w.1, s.nearest.at_null w.0 x i is-left)
      go (inr w) = omega (arith, w.1, (s.nearest.at_item w.0).3 x i is-left)

  behind : (y : ℕ) → y < suc m → 0 < s.mask y → amount dist y ≤ level
  behind y l h = go null-or-item
    where
      go : Level → amount dist y ≤ level
      go (inl w) = omega (arith, w.1, s.behind y l h)
      go (inr w) =
          let n = s.nearest.at_item w.0 in
          omega (arith, w.1, s.searching.search.near next y n.0 l (s.searching.closed next n.0 n.1).1 h)

  module _ (after : List ℕ) (ea : Changed m (λ x. get_or prices x 0 + (level - get_or dist x 0)) prices after) where
    after_is : (i : ℕ) → Item m i → amount after i ≡ amount prices i + (level - amount dist i)
    unfolding amount
    after_is zero i = absurd (omega (arith, i.0))
    after_is (suc x) i = ea.done x (omega (arith, i.1))

    rise : Rise m (bid_at m bids) k 4095 r.on (amount prices) (amount own) (amount dist) s.mask (amount via) level (amount after)
    rise =
        record {
          held = r.held;
          bid-null = bid-null m bids;
          p-null = amount-null prices;
          search = s.searching.search;
          holds = s.holds;
          null_far = λ y l h. omega (arith, level-null, s.null_far y l h);
          ahead = ahead;
          behind = behind;
          q-null = amount-null after;
          q-is = after_is;
        }

    after_small : Small after
    unfolding Small amount
    after_small x = go (dec_le (suc x) m)
      where
        go : Dec (suc x ≤ m) → get_or after x 0 ≤ 4095
        go (yes l) = search-range rise (bid-small m bids r.table.small) (suc x) (omega arith, omega arith) (amount-small prices r.small (suc x))
        go (no l) = omega (arith, ea.rest x (omega arith), r.small x)

    module _ (first : ℕ) (ef : (next ≡ 0 → first ≡ last) × ((next ≡ 0 → ⊥) → first ≡ next)) (on : ℕ → Bool) (joins : Joins k r.on on) where
      holder : (y : ℕ) → y < suc m → Source s.mask y → From k (amount own) y (who k (amount own) y)
      unfolding who
      holder zero l h = inl (refl, refl)
      holder (suc y) l (inl e) = absurd (omega (arith, e))
      holder (suc y) l (inr h) = inr (omega arith, omega (arith, s.holds (suc y) l h))

      -- the item that is filled first is a hole
      hole : (first < suc m) × Hole m (bid_at m bids) on k (amount after) (amount own) first
      hole = go null-or-item
        where
          go : Level → (first < suc m) × Hole m (bid_at m bids) on k (amount after) (amount own) first
          go (inl w) =
              subst (λ (x : ℕ). (x < suc m) × Hole m (bid_at m bids) on k (amount after) (amount own) x) (sym (ef.0 w.0)) (
                s.last_small,
                hole-null joins (search-held rise) last (who k (amount own) last) (holder last s.last_small s.last_source)
                    (null-wants rise last s.last_small s.last_source (s.last_exact ∙ sym w.1)),
              )
          go (inr w) =
              subst (λ (x : ℕ). (x < suc m) × Hole m (bid_at m bids) on k (amount after) (amount own) x) (sym (ef.1 (λ z. omega (arith, z, w.0))))
              ((s.nearest.at_item w.0).0.1, hole-free joins (search-held rise) next w.0 free)

      near : (x : ℕ) → Item m x → (x ≡ first) ⊎ (0 < s.mask x) → amount dist x ≤ level
      near x i (inr h) = behind x i.1 h
      near x i (inl e) = go null-or-item
        where
          go : Level → amount dist x ≤ level
          go (inr w) = omega (arith, w.1, ap (amount dist) (e ∙ ef.1 (λ z. omega (arith, z, w.0))))
          go (inl w) = from s.last_source
            where
              same : x ≡ last
              same = e ∙ ef.0 w.0

              from : Source s.mask last → amount dist x ≤ level
              from (inl z) = absurd (omega (arith, z, same, i.0))
              from (inr h) = behind x i.1 (omega (arith, h, ap s.mask same))

      chain : Chain m (bid_at m bids) on k (amount after) (amount own) s.mask (amount via) first
      chain =
          record {
            small = hole.0;
            joined = joins.joined;
            bounded = λ x l. omega (arith, s.searching.early x, s.searching.few);
            source = s.searching.search.source;
            order = s.searching.search.order;
            holder = holder;
            wants = λ x i h. from-wants rise x i (near x i h);
            hole = hole.1;
          }

      pub chained : Chained k own via first
      chained =
          record {
            items = m;
            bid = bid_at m bids;
            on = on;
            prices = amount after;
            mask = s.mask;
            max_items = r.table.max_items;
            max_bidders = omega (arith, r.member, r.table.max_bidders);
            long = r.long_own;
            chain = chain;
          }

      pub put : (holders : List ℕ) → length holders ≡ 64 → ((t : Chained k own via first) → Shifted t holders) → Put m bids on prices own after holders
      unfolding chained
      put holders long h =
          let t = h chained in
          record {
            long = ea.long;
            long_own = long;
            small = after_small;
            held = t.held;
            rises = λ i x. omega (arith, after_is i x);
            free = λ i x e. (t.kept i e, free-flat rise i x (t.kept i e));
            past = ea.rest;
          }
