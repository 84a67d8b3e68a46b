-- Bidder k's search: how it starts, and how the nearest item is entered; and the distance of null. THEORY.md 2.12. Assumes nothing.
use Prim.Native.Nat.{ℕ, zero, suc, ◌-◌, ◌≤◌, ◌<◌, min}
use mathlib.Core.Path.{◌≡◌, refl, sym, ap, ◌∙◌, subst}
use mathlib.Core.List.{List}
use mathlib.Core.Logic.{◌⊎◌, inl, inr}
use native.Mathlib.Omega.{arith}
use native.Mathlib.Decide.{ℕ_discrete}
use lib.ListN.{length, replicate}
use Rattle.rule.specs.Sheet.{amount}
use Rattle.bids.specs.Lent.{line_of}
use Rattle.bids.specs.Line.{row_shown}
use Rattle.least.specs.Searching.{line_at, reach_of, Source, Item}
use Rattle.least.specs.Steps.{Reached, Lowest, Numbered, IsLeft, Nearest, Enters, Entered, at_option}
use Rattle.least.specs.Putting.{bid_at, Ready, Unsearched, left_count, Searching, Seeking}
use Rattle.least.proofs.Searching.{line-start, reach-start}
use Rattle.least.proofs.Distances.{option-null, option-item}
use Rattle.least.proofs.Numbering.{all-numbered, all_left}
use Rattle.least.proofs.Entering.{amount-item, start-searching, Entry, later, entered-searching, entered-sources, entered-old, entered-new, entered-behind, fewer}
use Rattle.least.proofs.Holders.{bid-small, table-row, line-long, Holder, holder-enters, holder-entry, holder-lowest}

module _ {m k : ℕ} {bids prices own : List ℕ} (r : Ready m k bids prices own) where
  abbrev pub line : ℕ → ℕ → ℕ
  line = line_at (bid_at m bids) (amount own) (bid_at m bids k)

  abbrev pub reach : (dist : List ℕ) → ℕ → ℕ
  reach dist = reach_of 4095 line (amount prices) (amount dist)

  -- ---- the start

  first-line : (first : List ℕ) → first ≡ row_shown m k bids → first ≡ line_of m bids k
  first-line first lent = lent ∙ table-row m r.bidders bids r.table k r.member

  pub first-long : (first : List ℕ) → first ≡ row_shown m k bids → length first ≡ m
  first-long first lent = ap length (first-line first lent) ∙ line-long m r.bidders bids r.table k r.member

  pub first-lowest : (dist₀ via₀ left : List ℕ) → Unsearched own dist₀ via₀ left → (first : List ℕ) → first ≡ row_shown m k bids → (dist : List ℕ) (low : ℕ)
      → Lowest dist left (length first) low → Numbered left × Lowest dist left m low
  first-lowest dist₀ via₀ left z first lent dist low t =
      (all-numbered m own left r.table.max_items z.all, subst (λ (n : ℕ). Lowest dist left n low) (first-long first lent) t)

  pub seek-start : (dist₀ via₀ left : List ℕ) → Unsearched own dist₀ via₀ left → (first : List ℕ) → first ≡ row_shown m k bids → (dist via : List ℕ)
      → Reached 4095 0 first prices dist₀ via₀ (length first) dist via → (next : ℕ) → Nearest m 4095 dist left next → Seeking m k bids prices own dist via left 4095 0 next
  seek-start dist₀ via₀ left z first lent dist via t next near =
      record {
        mask = λ x. 0;
        turns = 0;
        searching = searching;
        holds = λ x l h. absurd (omega (arith, h));
        null_far = λ y l h. far y h;
        behind = λ y l h. absurd (omega (arith, h));
        last_small = omega arith;
        last_source = inl refl;
        last_exact = reach-start 4095 line (amount prices) (amount dist);
        nearest = near;
      }
    where
      reached : Reached 4095 0 first prices (replicate 64 16384) (replicate 64 0) m dist via
      reached =
          subst (λ (n : ℕ). Reached 4095 0 first prices (replicate 64 16384) (replicate 64 0) n dist via) (first-long first lent)
          (subst (λ (v : List ℕ). Reached 4095 0 first prices (replicate 64 16384) v (length first) dist via) z.from
          (subst (λ (d : List ℕ). Reached 4095 0 first prices d via₀ (length first) dist via) z.far t))

      searching : Searching m (Item m) 4095 line prices dist via left (λ x. 0) 0
      searching =
          start-searching m (Item m) (λ x i. i) 4095 (omega arith) line prices r.small r.table.max_items first
          (λ x. line-start (bid_at m bids) (amount own) (bid_at m bids k) x ∙ ap (λ (l : List ℕ). amount l x) (sym (first-line first lent)))
          (λ x i. omega (arith, ap (λ (l : List ℕ). amount l x) (first-line first lent), bid-small m bids r.table.small k x)) dist via left reached
          (all-numbered m own left r.table.max_items z.all) z.all.long (all_left m own left r.table.max_items z.all) (λ x i o. i)

      far : (y : ℕ) → Source (λ x. 0) y → 4095 ≤ reach dist y
      far y (inl e) = omega (arith, ap (reach dist) e, reach-start 4095 line (amount prices) (amount dist))
      far y (inr h) = absurd (omega (arith, h))

  -- ---- the nearest option is an item that somebody holds

  module _ {dist via left : List ℕ} {null last next : ℕ} (s : Seeking m k bids prices own dist via left null last next) where
    pub null-small : null ≤ 4095
    null-small = omega (arith, s.null_far 0 (omega arith) (inl refl), reach-start 4095 line (amount prices) (amount dist))

    pub next_small : next < suc m
    next_small = go (ℕ_discrete next 0)
      where
        go : Dec (next ≡ 0) → next < suc m
        go (yes e) = omega (arith, e)
        go (no ne) = (s.nearest.at_item (omega (arith, ne))).0.1

    module _ (h : ℕ) (eh : h ≡ at_option 0 own next) (some : 0 < h) where
      pos : 0 < next
      pos = go next eh
        where
          go : (i : ℕ) → h ≡ at_option 0 own i → 0 < i
          go zero e = absurd (omega (arith, e, some, option-null 0 own 0 refl))
          go (suc i) e = omega arith

      abbrev b : ℕ
      b = h - 1

      own_is : amount own next ≡ suc b
      own_is = omega (arith, eh, option-item 0 own next (λ z. omega (arith, z, pos)), amount-item own next pos, some)

      near : Item m next × IsLeft left next × (amount dist next < null) × ((i : ℕ) → Item m i → IsLeft left i → amount dist next ≤ amount dist i)
      near = s.nearest.at_item pos

      pub holder-below : b < r.bidders
      holder-below = r.below b (r.held.known next b next_small own_is).0

      holder : Holder m r.bidders (Item m) 4095 (bid_at m bids k) bids prices own dist via left s.mask s.turns next b
      holder =
          record {
            table = r.table;
            small = r.small;
            inside = λ x i. i;
            searching = s.searching;
            item = near.0;
            is-left = near.1;
            near = omega (arith, near.2, null-small);
            nearest = near.3;
            member = holder-below;
            own_is = own_is;
            demands = (r.held.known next b next_small own_is).1;
          }

      module _ (hers : List ℕ) (lent : hers ≡ row_shown m b bids) where
        pub enters : Enters next hers prices dist via left
        enters = holder-enters holder hers lent

        module _ (dist' via' left' : List ℕ) (u low : ℕ) (e : Entered next hers prices dist via left dist' via' left' u low) where
          entry : Entry m (Item m) 4095 line prices dist via left s.mask s.turns next dist' via' left' u
          entry = holder-entry holder hers lent dist' via' left' u low e

          pub seek-fewer : left_count left' < left_count left
          seek-fewer = fewer entry

          pub seek-lowest : Numbered left' × Lowest dist' left' m low
          seek-lowest = holder-lowest holder hers lent dist' via' left' u low e

          pub seek-next : (null' last' next' : ℕ) → null' ≡ min u null → (null' ≡ null → last' ≡ last) × ((null' ≡ null → ⊥) → last' ≡ next) → Nearest m null' dist' left' next'
              → Seeking m k bids prices own dist' via' left' null' last' next'
          seek-next null' last' next' en el near' =
              record {
                mask = later entry;
                turns = suc s.turns;
                searching = entered-searching entry;
                holds = λ x l h. holds x l h (entered-sources entry x (inr h));
                null_far = λ y l h. far y l (entered-sources entry y h);
                behind = λ y l h. behind y l h (entered-sources entry y (inr h));
                last_small = new-last.0;
                last_source = new-last.1;
                last_exact = new-last.2;
                nearest = near';
              }
            where
              holds : (x : ℕ) → x < suc m → 0 < later entry x → (x ≡ next) ⊎ Source s.mask x → 0 < amount own x
              holds x l h (inl q) = omega (arith, ap (amount own) q, own_is)
              holds x l h (inr (inl z)) = absurd (omega (arith, h, ap (later entry) z, (entered-searching entry).search.null))
              holds x l h (inr (inr w)) = s.holds x l w

              far : (y : ℕ) → y < suc m → (y ≡ next) ⊎ Source s.mask y → null' ≤ reach dist' y
              far y l (inl q) = omega (arith, ap (reach dist') q, (entered-new entry).1, en)
              far y l (inr w) = omega (arith, (entered-old entry y l w).1, s.null_far y l w, en)

              behind : (y : ℕ) → y < suc m → 0 < later entry y → (y ≡ next) ⊎ Source s.mask y → amount dist' y ≤ null'
              behind y l h (inl q) = let o = entered-behind entry y l (inl q) in omega (arith, o.0, o.1, o.2, near.2, en)
              behind y l h (inr (inl z)) = absurd (omega (arith, h, ap (later entry) z, (entered-searching entry).search.null))
              behind y l h (inr (inr w)) = let o = entered-behind entry y l (inr w) in omega (arith, o.0, o.1, o.2, s.behind y l w, en)

              new-last : (last' < suc m) × Source (later entry) last' × (reach dist' last' ≡ null')
              new-last = go (ℕ_discrete null' null)
                where
                  go : Dec (null' ≡ null) → (last' < suc m) × Source (later entry) last' × (reach dist' last' ≡ null')
                  go (yes q) =
                      let o = entered-old entry last s.last_small s.last_source in
                      subst (λ (z : ℕ). (z < suc m) × Source (later entry) z × (reach dist' z ≡ null')) (sym (el.0 q)) (s.last_small, o.0, o.1 ∙ s.last_exact ∙ sym q)
                  go (no ne) =
                      subst (λ (z : ℕ). (z < suc m) × Source (later entry) z × (reach dist' z ≡ null')) (sym (el.1 ne))
                      (next_small, (entered-new entry).0, omega (arith, (entered-new entry).1, en, ne))
