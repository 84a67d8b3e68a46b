-- Ending a round keeps a record well formed. Assumes nothing.
use Prim.Native.Nat.{ℕ, suc, ◌+◌, ◌*◌, ◌^◌, ◌≤◌, ◌<◌}
use mathlib.Core.Path.{◌≡◌, refl, sym, ap, ◌∙◌, subst}
use mathlib.Core.Bool.{Bool, true, false, ◌&&◌, not}
use mathlib.Core.List.{List}
use native.Mathlib.Omega.{arith}
use lib.Dec.{eqb, leb}
use lib.ListN.{length}
use borrow.Author.Tests.{eqb-true, leb-true, le-leb, eq-eqb}
use borrow.Author.Tests.{not-false as not-false-is}
use Rattle.sets.specs.Bit.{has}
use Rattle.sets.specs.Count.{any_below}
use Rattle.sets.proofs.Counting.{and_left, and_right, and_both, any-make, not-both}
use Rattle.rule.specs.Sheet.{amount, price_sum}
use Rattle.rule.specs.Round.{rising, falling, Round, raised, lowered, closed}
use Rattle.rule.specs.Round.{Phase as RulePhase}
use Rattle.rule.proofs.Largest.{demand-bound, supply-bound, supply-above}
use Rattle.live.specs.Auction.{place, has_reported, missing, reports_of, items_above, rising_set, falling_set, rounds_fit, close_fits}
use Rattle.live.specs.Calls.{is_closed, is_falling, is_rising, at_top, ruled, round_by, settled}
use Rattle.live.specs.declared.Auction.{Auction}
use Rattle.live.specs.declared.Phase.{Phase}
use Rattle.live.specs.declared.Phase.TheVariants.{Rising, Falling, Closed}
use Rattle.live.proofs.Formed.{Formed}
use Rattle.agreement.proofs.Rounds.{Takes, raises, lowers, closes, takes, raise-floors, lower-floors, raise-past, lower-past, raise-range, lower-range, raise-more, lower-less, sum-max}
use Rattle.agreement.proofs.Keeps.{without-reports, not-closed}

-- ---- phases

ruled-rising : (ph : Phase) → is_closed ph ≡ false → ruled ph ≡ rising → ph ≡ Rising
ruled-rising Rising o e = refl
ruled-rising Falling o e = absurd (let z : ◌≡◌ {A = ℕ} 0 1 = cc in omega arith)
ruled-rising Closed o e = absurd (not-both true refl o)

is-falling : (ph : Phase) → is_closed ph ≡ false → (ruled ph ≡ rising → ⊥) → is_falling ph ≡ true
is-falling Rising o ne = absurd (ne refl)
is-falling Falling o ne = refl
is-falling Closed o ne = absurd (not-both true refl o)

-- ---- counts of rounds

module _ (r : Auction) where
  abbrev total : ℕ
  total = price_sum r.items r.prices

  abbrev low : ℕ
  low = price_sum r.items r.floors

  rising-rounds : rounds_fit Rising r ≡ true → (r.lowered ≡ 0) × (r.raised + low ≤ total)
  unfolding rounds_fit
  rising-rounds e = (
    eqb-true r.lowered 0 (and_left (eqb r.lowered 0) (leb (r.raised + low) total) e),
    leb-true (r.raised + low) total (and_right (eqb r.lowered 0) (leb (r.raised + low) total) e),
  )

  falling-rounds : rounds_fit Falling r ≡ true → (r.raised ≤ 4095 * r.items) × (total + r.lowered ≤ 4095 * r.items)
  unfolding rounds_fit
  falling-rounds e = (
    leb-true r.raised (4095 * r.items) (and_left (leb r.raised (4095 * r.items)) (leb (total + r.lowered) (4095 * r.items)) e),
    leb-true (total + r.lowered) (4095 * r.items) (and_right (leb r.raised (4095 * r.items)) (leb (total + r.lowered) (4095 * r.items)) e),
  )

  -- before the close: from the turn on no more than these
  open-rounds : (ph : Phase) → is_closed ph ≡ false → rounds_fit ph r ≡ true → total ≤ 4095 * r.items
      → (r.raised ≤ 4095 * r.items) × (total + r.lowered ≤ 4095 * r.items)
  open-rounds Rising o e top = let q = rising-rounds e in (omega (arith, q.1, top), omega (arith, q.0, top))
  open-rounds Falling o e top = falling-rounds e
  open-rounds Closed o e top = absurd (not-both true refl o)

pub rising-make : (r : Auction) → r.lowered ≡ 0 → r.raised + price_sum r.items r.floors ≤ price_sum r.items r.prices → rounds_fit Rising r ≡ true
unfolding rounds_fit
rising-make r a b = and_both (eqb r.lowered 0) (leb (r.raised + low r) (total r)) (eq-eqb r.lowered 0 a) (le-leb (r.raised + low r) (total r) b)

-- falling or closed
late-make : (ph : Phase) (r : Auction) → is_rising ph ≡ false → r.raised ≤ 4095 * r.items → price_sum r.items r.prices + r.lowered ≤ 4095 * r.items → rounds_fit ph r ≡ true
unfolding rounds_fit
late-make ph r o a b = go ph o
  where
    both : leb r.raised (4095 * r.items) && leb (total r + r.lowered) (4095 * r.items) ≡ true
    both =
        and_both (leb r.raised (4095 * r.items)) (leb (total r + r.lowered) (4095 * r.items)) (le-leb r.raised (4095 * r.items) a)
        (le-leb (total r + r.lowered) (4095 * r.items) b)

    go : (ph : Phase) → is_rising ph ≡ false → rounds_fit ph r ≡ true
    go Rising o = absurd (not-both true refl o)
    go Falling o = unfold rounds_fit in both
    go Closed o = unfold rounds_fit in both

-- no item of the set stands at 4,095
top-free : (m : ℕ) (p : List ℕ) (x : ℕ) → at_top m p x ≡ false → (k : ℕ) → k < m → has x (suc k) ≡ true → amount p (suc k) ≡ 4095 → ⊥
unfolding at_top
top-free m p x e k l h q =
    not-both (any_below m (λ k. has x (suc k) && eqb (amount p (suc k)) 4095))
    (any-make m (λ k. has x (suc k) && eqb (amount p (suc k)) 4095) k l (and_both (has x (suc k)) (eqb (amount p (suc k)) 4095) h (eq-eqb (amount p (suc k)) 4095 q))) e

-- ---- the three rounds

module _ (r : Auction) (f : Formed r) (floored : length r.floors ≡ 32) (before : is_closed r.phase ≡ false) where
  abbrev m : ℕ
  m = r.items

  raised-formed : (x : ℕ) → x < 2 ^ m → (x ≡ 0 → ⊥) → r.phase ≡ Rising → at_top m r.prices x ≡ false → Formed (settled r (raised x))
  unfolding settled
  raised-formed x small ne q top =
      let few = f.max_items in
      let w = rising-rounds r (subst (λ (ph : Phase). rounds_fit ph r ≡ true) q f.rounds) in
      let more = raise-more m few r.prices x small ne in
      without-reports (settled r (raised x)) refl refl refl f.some_item f.max_items f.some-bidder f.max_bidders
      (raise-range m few r.prices x small f.price-max (top-free m r.prices x top))
      (λ k l h. raise-past m few r.prices x small k l h ∙ f.unused-price k l h)
      (raise-floors m few r.prices x small r.floors floored f.floor-le)
      (rising-make (settled r (raised x)) w.0 (omega (arith, w.1, more))) (not-closed Rising (settled r (raised x)) refl)

  lowered-formed : (x : ℕ) → x < 2 ^ m → (x ≡ 0 → ⊥) → ((i : ℕ) → i < suc m → has x i ≡ true → amount r.floors i < amount r.prices i) → Formed (settled r (lowered x))
  unfolding settled
  lowered-formed x small ne above =
      let few = f.max_items in
      let w = open-rounds r r.phase before f.rounds (sum-max m r.prices f.price-max) in
      let less = lower-less m few r.prices x small ne (λ i l h. let more = above i l h in omega arith) in
      without-reports (settled r (lowered x)) refl refl refl f.some_item f.max_items f.some-bidder f.max_bidders
      (lower-range m few r.prices x small f.price-max)
      (λ k l h. lower-past m few r.prices x small k l (f.unused-price k l h))
      (lower-floors m few r.prices x small r.floors floored f.floor-le above)
      (late-make Falling (settled r (lowered x)) refl w.0 (omega (arith, w.1, less))) (not-closed Falling (settled r (lowered x)) refl)

  closed-fits : missing r ≡ false → rising_set r ≡ 0 → falling_set r ≡ 0 → close_fits Closed (settled r closed) ≡ true
  unfolding close_fits settled missing has_reported rising_set falling_set reports_of items_above
  closed-fits a b c =
      and_both (not (missing r) && eqb (rising_set r) 0) (eqb (falling_set r) 0) (and_both (not (missing r)) (eqb (rising_set r) 0) (ap not a) (eq-eqb (rising_set r) 0 b))
      (eq-eqb (falling_set r) 0 c)

  closed-formed : missing r ≡ false → rising_set r ≡ 0 → falling_set r ≡ 0 → Formed (settled r closed)
  unfolding settled place has_reported
  closed-formed a b c =
      let w = open-rounds r r.phase before f.rounds (sum-max m r.prices f.price-max) in
      record {
        some_item = f.some_item;
        max_items = f.max_items;
        some-bidder = f.some-bidder;
        max_bidders = f.max_bidders;
        price-max = f.price-max;
        unused-price = f.unused-price;
        floor-max = f.floor-max;
        floor-le = f.floor-le;
        unused-floor = f.unused-floor;
        unused-place = f.unused-place;
        within = f.within;
        reported-fit = f.reported-fit;
        other-empty = f.other-empty;
        rounds = late-make Closed (settled r closed) refl w.0 w.1;
        at_close = closed-fits a b c;
      }

  -- ---- the round that the reports give, if neither 14 nor 16 nor 17 applies

  pub settled-formed : missing r ≡ false → is_falling r.phase && not (eqb (rising_set r) 0) ≡ false → is_rising r.phase && at_top m r.prices (rising_set r) ≡ false
      → Formed (settled r (round_by r))
  settled-formed full no_sixteen no_seventeen = go (takes m (items_above r) (reports_of r) (ruled r.phase))
    where
      top : r.phase ≡ Rising → at_top m r.prices (rising_set r) ≡ false
      top q = subst (λ (ph : Phase). is_rising ph && at_top m r.prices (rising_set r) ≡ false) q no_seventeen

      -- while falling 16 says that the rising set is empty
      empty-falling : (ruled r.phase ≡ rising → ⊥) → rising_set r ≡ 0
      empty-falling ne =
          eqb-true (rising_set r) 0
          (not-false-is (eqb (rising_set r) 0) (subst (λ (b : Bool). b && not (eqb (rising_set r) 0) ≡ false) (is-falling r.phase before ne) no_sixteen))

      empty : (ph : RulePhase) → ruled r.phase ≡ ph → (ruled r.phase ≡ rising → rising_set r ≡ 0) → rising_set r ≡ 0
      empty rising q h = h q
      empty falling q h = empty-falling (λ e. let z : ◌≡◌ {A = ℕ} 0 1 = cc in omega arith)

      go : Takes m (items_above r) (reports_of r) (ruled r.phase) → Formed (settled r (round_by r))
      go (raises q ne e) =
          let e' : round_by r ≡ raised (rising_set r) = unfold round_by rising_set in e in
          subst (λ (x : Round). Formed (settled r x)) (sym e')
          (raised-formed (rising_set r) (unfold rising_set in demand-bound m (reports_of r)) (unfold rising_set in ne) (ruled-rising r.phase before q) (top (ruled-rising r.phase before q)))
      go (lowers h ne e) =
          let e' : round_by r ≡ lowered (falling_set r) = unfold round_by falling_set in e in
          subst (λ (x : Round). Formed (settled r x)) (sym e')
          (lowered-formed (falling_set r) (unfold falling_set in supply-bound m (items_above r) (reports_of r)) (unfold falling_set in ne)
          (unfold falling_set items_above in supply-above m r.floors r.prices (reports_of r)))
      go (closes h z e) =
          let e' : round_by r ≡ closed = unfold round_by in e in
          subst (λ (x : Round). Formed (settled r x)) (sym e')
          (closed-formed full (empty (ruled r.phase) refl (unfold rising_set in h)) (unfold falling_set in z))
