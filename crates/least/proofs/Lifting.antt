-- From the least prices from some base up: prices lifted to the start of a rise where that is higher, and the least from there up. THEORY.md 2.13. Assumes nothing.
use Prim.Native.Nat.{ℕ, zero, suc, ◌+◌, ◌≤◌, ◌<◌}
use mathlib.Core.Path.{◌≡◌, refl, sym, ap, ◌∙◌, subst}
use mathlib.Core.Bool.{true, false, ◌||◌}
use mathlib.Core.List.{List}
use mathlib.Core.Logic.{◌⊎◌, inl, inr}
use native.Mathlib.Omega.{arith}
use native.Mathlib.Decide.{dec_le}
use lib.Dec.{eqb}
use lib.ListN.{length, get_or, set, replicate, length-set, get_or-eq_default}
use lib.Seq.{get_or-set_same, get_or-set_other}
use Rattle.sets.specs.Bit.{is_set, has, set_of}
use Rattle.sets.proofs.Counting.{lt-or-le, below_suc, not-both, is_false}
use Rattle.sets.proofs.Filling.{zeros-at}
use Rattle.sets.proofs.Members.{empty-has}
use Rattle.sets.proofs.Taking.{with-use, with-old, with-new}
use Rattle.rule.specs.Sheet.{amount}
use Rattle.rule.specs.Demand.{demands}
use Rattle.rule.specs.Excess.{excess_demand}
use Rattle.rule.specs.Equilibrium.{Below}
use Rattle.rule.proofs.Limits.{amount-null}
use Rattle.bids.specs.Lent.{rows_of}
use Rattle.bids.specs.Fit.{Small}
use Rattle.least.specs.Least.{LeastFrom}
use Rattle.least.specs.Holding.{Held, Holds, Demands}
use Rattle.least.specs.Putting.{bid_at, Put, everyone, others, Standing}
use Rattle.least.specs.Transposing.{Balanced}
use Rattle.least.specs.Falling.{Lowered}
use Rattle.least.specs.Lifting.{Lifted, Starts, From}
use Rattle.least.proofs.Entering.{amount-suc}
use Rattle.least.proofs.Joining.{everyone-use, everyone-make, others-use, others-make, held_same}
use Rattle.least.proofs.Lowering.{least-from}

-- ---- place after place

pub lifted-none : (start prices own : List ℕ) → length prices ≡ 64 → length own ≡ 64 → Lifted 0 start prices own prices own 0
lifted-none start prices own l lo =
    record {
      long = l;
      long_own = lo;
      kept = λ x lx e. absurd (omega arith);
      lifted = λ x lx e. absurd (omega arith);
      rest = λ x lx. (refl, refl);
      waits = λ b h. absurd (not-both (has 0 (suc b)) h (empty-has (suc b)));
      released = λ x b lx lb e h. absurd (omega arith);
    }

module _ (n : ℕ) (ln : n < 64) (start prices own next holders : List ℕ) (waiting : ℕ) (t : Lifted n start prices own next holders waiting) (next' holders' : List ℕ) (waiting' : ℕ) where
  -- the start is not above this price
  lifted-skip : get_or start n 0 ≤ get_or prices n 0 → Lifted (n + 1) start prices own next holders waiting
  lifted-skip low =
      record {
        long = t.long;
        long_own = t.long_own;
        kept = λ x lx e. kept x e (below_suc (omega arith));
        lifted = λ x lx e. lifted x e (below_suc (omega arith));
        rest = λ x lx. t.rest x (omega arith);
        waits = λ b h. let w = t.waits b h in (w.0, omega (arith, w.1), w.2, w.3);
        released = λ x b lx lb e h. released x b lb e h (below_suc (omega arith));
      }
    where
      kept : (x : ℕ) → get_or start x 0 ≤ get_or prices x 0 → (x ≡ n) ⊎ (x < n) → (get_or next x 0 ≡ get_or prices x 0) × (get_or holders x 0 ≡ get_or own x 0)
      kept x e (inl q) = t.rest x (omega arith)
      kept x e (inr l) = t.kept x l e

      lifted : (x : ℕ) → get_or prices x 0 < get_or start x 0 → (x ≡ n) ⊎ (x < n) → (get_or next x 0 ≡ get_or start x 0) × (get_or holders x 0 ≡ 0)
      lifted x e (inl q) = absurd (omega (arith, e, low, ap (λ (z : ℕ). get_or start z 0) q, ap (λ (z : ℕ). get_or prices z 0) q))
      lifted x e (inr l) = t.lifted x l e

      released : (x b : ℕ) → b < 64 → get_or prices x 0 < get_or start x 0 → get_or own x 0 ≡ suc b → (x ≡ n) ⊎ (x < n) → has waiting (suc b) ≡ true
      released x b lb e h (inl q) = absurd (omega (arith, e, low, ap (λ (z : ℕ). get_or start z 0) q, ap (λ (z : ℕ). get_or prices z 0) q))
      released x b lb e h (inr l) = t.released x b l lb e h

  -- it is
  lifted-more : get_or prices n 0 < get_or start n 0 → next' ≡ set next n (get_or start n 0) → holders' ≡ set holders n 0
      → waiting' ≡ set_of 64 (λ k. has waiting k || eqb k (get_or own n 0)) → Lifted (n + 1) start prices own next' holders' waiting'
  unfolding has
  lifted-more high en eh ew =
      record {
        long = ap length en ∙ length-set next n (get_or start n 0) ∙ t.long;
        long_own = ap length eh ∙ length-set holders n 0 ∙ t.long_own;
        kept = λ x lx e. kept x e (below_suc (omega arith));
        lifted = λ x lx e. lifted x e (below_suc (omega arith));
        rest = λ x lx. let w = t.rest x (omega arith) in (next-off x (λ q. omega arith) ∙ w.0, own-off x (λ q. omega arith) ∙ w.1);
        waits = λ b h. waits b (with-use 64 waiting (get_or own n 0) waiting' ew b h);
        released = λ x b lx lb e h. released x b lb e h (below_suc (omega arith));
      }
    where
      next-off : (x : ℕ) → (x ≡ n → ⊥) → get_or next' x 0 ≡ get_or next x 0
      next-off x ne = ap (λ (z : List ℕ). get_or z x 0) en ∙ get_or-set_other next n x (get_or start n 0) 0 ne

      own-off : (x : ℕ) → (x ≡ n → ⊥) → get_or holders' x 0 ≡ get_or holders x 0
      own-off x ne = ap (λ (z : List ℕ). get_or z x 0) eh ∙ get_or-set_other holders n x 0 0 ne

      kept : (x : ℕ) → get_or start x 0 ≤ get_or prices x 0 → (x ≡ n) ⊎ (x < n) → (get_or next' x 0 ≡ get_or prices x 0) × (get_or holders' x 0 ≡ get_or own x 0)
      kept x e (inl q) = absurd (omega (arith, e, high, ap (λ (z : ℕ). get_or start z 0) q, ap (λ (z : ℕ). get_or prices z 0) q))
      kept x e (inr l) = let w = t.kept x l e in (next-off x (λ q. omega arith) ∙ w.0, own-off x (λ q. omega arith) ∙ w.1)

      lifted : (x : ℕ) → get_or prices x 0 < get_or start x 0 → (x ≡ n) ⊎ (x < n) → (get_or next' x 0 ≡ get_or start x 0) × (get_or holders' x 0 ≡ 0)
      lifted x e (inl q) =
          subst (λ (y : ℕ). (get_or next' y 0 ≡ get_or start y 0) × (get_or holders' y 0 ≡ 0)) (sym q) (
            ap (λ (z : List ℕ). get_or z n 0) en ∙ get_or-set_same next n (get_or start n 0) 0 (omega (arith, t.long)),
            ap (λ (z : List ℕ). get_or z n 0) eh ∙ get_or-set_same holders n 0 0 (omega (arith, t.long_own)),
          )
      lifted x e (inr l) = let w = t.lifted x l e in (next-off x (λ q. omega arith) ∙ w.0, own-off x (λ q. omega arith) ∙ w.1)

      waits : (b : ℕ) → (is_set waiting b ≡ true) ⊎ (suc b ≡ get_or own n 0) → (x : ℕ) × (x < n + 1) × (get_or prices x 0 < get_or start x 0) × (get_or own x 0 ≡ suc b)
      waits b (inl w) = let v = t.waits b (unfold has in w) in (v.0, omega (arith, v.1), v.2, v.3)
      waits b (inr w) = (n, omega arith, high, sym w)

      released : (x b : ℕ) → b < 64 → get_or prices x 0 < get_or start x 0 → get_or own x 0 ≡ suc b → (x ≡ n) ⊎ (x < n) → is_set waiting' b ≡ true
      released x b lb e h (inl q) = with-new 64 waiting (get_or own n 0) waiting' ew b lb (sym h ∙ ap (λ (z : ℕ). get_or own z 0) q)
      released x b lb e h (inr l) = with-old 64 waiting (get_or own n 0) waiting' ew b lb (unfold has in t.released x b l lb e h)

  pub lifted-next : (get_or start n 0 ≤ get_or next n 0 → (next' ≡ next) × (holders' ≡ holders) × (waiting' ≡ waiting))
      → (get_or next n 0 < get_or start n 0 → (next' ≡ set next n (get_or start n 0)) × (holders' ≡ set holders n 0) × (waiting' ≡ set_of 64 (λ k. has waiting k || eqb k (get_or holders n 0))))
      → Lifted (n + 1) start prices own next' holders' waiting'
  lifted-next low high = go (dec_le (get_or start n 0) (get_or next n 0))
    where
      same : (get_or next n 0 ≡ get_or prices n 0) × (get_or holders n 0 ≡ get_or own n 0)
      same = t.rest n (omega arith)

      go : Dec (get_or start n 0 ≤ get_or next n 0) → Lifted (n + 1) start prices own next' holders' waiting'
      go (yes l) =
          let w = low l in
          subst (λ (z : List ℕ). Lifted (n + 1) start prices own z holders' waiting') (sym w.0)
          (subst (λ (z : List ℕ). Lifted (n + 1) start prices own next z waiting') (sym w.1)
          (subst (λ (z : ℕ). Lifted (n + 1) start prices own next holders z) (sym w.2) (lifted-skip (omega (arith, l, same.0)))))
      go (no l) =
          let w = high (omega arith) in
          lifted-more (omega (arith, l, same.0)) w.0 w.1 (w.2 ∙ ap (λ (h : ℕ). set_of 64 (λ k. has waiting k || eqb k h)) same.1)

-- ---- the prices lifted, and who still holds what

module _ {m n : ℕ} {bids base prices own : List ℕ} (c : From m n bids base prices own) {start : List ℕ} (low : Below base start) (g : Starts m start) {next holders : List ℕ} {waiting : ℕ}
    (t : Lifted 32 start prices own next holders waiting) where
  s : Standing m n bids (everyone n) prices own
  s = c.standing

  -- each price is kept, with its holder, or lifted, with none
  abbrev Kept : ℕ → Type 0
  Kept x = (get_or start x 0 ≤ get_or prices x 0) × (get_or next x 0 ≡ get_or prices x 0) × (get_or holders x 0 ≡ get_or own x 0)

  abbrev Raised : ℕ → Type 0
  Raised x = (x < 32) × (get_or prices x 0 < get_or start x 0) × (get_or next x 0 ≡ get_or start x 0) × (get_or holders x 0 ≡ 0)

  each : (x : ℕ) → Kept x ⊎ Raised x
  each x = go (lt-or-le x 32)
    where
      go : (x < 32) ⊎ (32 ≤ x) → Kept x ⊎ Raised x
      go (inr l) = let w = t.rest x l in inl (omega (arith, get_or-eq_default start 0 {n = x} (omega (arith, l, g.long))), w.0, w.1)
      go (inl l) = by (lt-or-le (get_or prices x 0) (get_or start x 0))
        where
          by : (get_or prices x 0 < get_or start x 0) ⊎ (get_or start x 0 ≤ get_or prices x 0) → Kept x ⊎ Raised x
          by (inl h) = let w = t.lifted x l h in inr (l, h, w.0, w.1)
          by (inr h) = let w = t.kept x l h in inl (h, w.0, w.1)

  -- so the prices are the higher of the start and what they were
  higher : (i : ℕ) → (amount start i ≤ amount next i) × (amount prices i ≤ amount next i) × ((amount next i ≡ amount start i) ⊎ (amount next i ≡ amount prices i))
  unfolding amount
  higher zero = (omega arith, omega arith, inl refl)
  higher (suc x) = go (each x)
    where
      go : Kept x ⊎ Raised x → (get_or start x 0 ≤ get_or next x 0) × (get_or prices x 0 ≤ get_or next x 0) × ((get_or next x 0 ≡ get_or start x 0) ⊎ (get_or next x 0 ≡ get_or prices x 0))
      go (inl w) = (omega (arith, w.0, w.1), omega (arith, w.1), inr w.1)
      go (inr w) = (omega (arith, w.2), omega (arith, w.1, w.2), inl w.2)

  small-next : (x : ℕ) → get_or next x 0 ≤ 4095
  unfolding Small
  small-next x = go (each x)
    where
      go : Kept x ⊎ Raised x → get_or next x 0 ≤ 4095
      go (inl w) = omega (arith, w.1, s.small x)
      go (inr w) = omega (arith, w.2, g.small x)

  -- who still holds an item held it before, and it was not lifted
  held-before : (i b : ℕ) → amount holders i ≡ suc b → (amount own i ≡ suc b) × (amount next i ≡ amount prices i)
  unfolding amount
  held-before zero b e = absurd (omega arith)
  held-before (suc x) b e = go (each x)
    where
      go : Kept x ⊎ Raised x → (get_or own x 0 ≡ suc b) × (get_or next x 0 ≡ get_or prices x 0)
      go (inl w) = (sym w.2 ∙ e, w.1)
      go (inr w) = absurd (omega (arith, w.3, e))

  not-waiting : (i b : ℕ) → i < suc m → amount holders i ≡ suc b → has waiting (suc b) ≡ false
  not-waiting i b l e = is_false (has waiting (suc b)) (λ on. go (t.waits b on))
    where
      go : (x : ℕ) × (x < 32) × (get_or prices x 0 < get_or start x 0) × (get_or own x 0 ≡ suc b) → ⊥
      go w = by (lt-or-le w.0 m)
        where
          at_x : amount own (suc w.0) ≡ suc b
          at_x = unfold amount in w.3

          by : (w.0 < m) ⊎ (m ≤ w.0) → ⊥
          by (inr h) = omega (arith, g.past w.0 h, w.2)
          by (inl h) =
              let same : i ≡ suc w.0 = s.held.once i (suc w.0) b l (omega arith) (held-before i b e).0 at_x in
              let up : get_or next w.0 0 ≡ get_or start w.0 0 = (t.lifted w.0 w.1 w.2).0 in
              let flat : amount next (suc w.0) ≡ amount prices (suc w.0) = ap (amount next) (sym same) ∙ (held-before i b e).1 ∙ ap (amount prices) same in
              omega (arith, up, flat, amount-suc next w.0, amount-suc prices w.0, w.2)

  pub lifted-standing : Standing m n bids (others n waiting) next holders
  lifted-standing =
      record {
        table = s.table;
        long = t.long;
        long_own = t.long_own;
        small = unfold Small in small-next;
        held = record {
          null = amount-null holders;
          known = λ i b l e.
              let w = s.held.known i b l (held-before i b e).0 in
              (others-make n waiting b (everyone-use n b w.0) (not-waiting i b l e), stays i b (held-before i b e).1 w.1);
          placed = λ b on. let w = others-use n waiting b on in placed b w.0 w.1 (s.held.placed b (everyone-make n b w.0));
          once = λ i j b li lj e f. s.held.once i j b li lj (held-before i b e).0 (held-before j b f).0;
        };
      }
    where
      stays : (i b : ℕ) → amount next i ≡ amount prices i → Demands m (bid_at m bids) (amount prices) b i → Demands m (bid_at m bids) (amount next) b i
      stays i b e d j lj = omega (arith, d j lj, e, (higher j).1)

      placed : (b : ℕ) → b < n → has waiting (suc b) ≡ false → Demands m (bid_at m bids) (amount prices) b 0 ⊎ Holds m (amount own) b
          → Demands m (bid_at m bids) (amount next) b 0 ⊎ Holds m (amount holders) b
      placed b lb off (inl d) = inl (stays 0 b (amount-null next ∙ sym (amount-null prices)) d)
      placed b lb off (inr w) = go w.0 w.1 w.2
        where
          go : (i : ℕ) → i < suc m → amount own i ≡ suc b → Demands m (bid_at m bids) (amount next) b 0 ⊎ Holds m (amount holders) b
          go zero l e = absurd (omega (arith, e, amount-null own))
          go (suc x) l e = by (each x)
            where
              at_x : get_or own x 0 ≡ suc b
              at_x = unfold amount in e

              by : Kept x ⊎ Raised x → Demands m (bid_at m bids) (amount next) b 0 ⊎ Holds m (amount holders) b
              by (inl v) = inr (suc x, l, amount-suc holders x ∙ v.2 ∙ at_x)
              by (inr v) = absurd (not-both (has waiting (suc b)) (t.released x b v.0 (omega (arith, lb, s.table.max_bidders)) v.1 at_x) off)

  -- ---- the least from there up are the least from the start up

  from_start : (p : List ℕ) → LeastFrom m (rows_of m n bids) next p → LeastFrom m (rows_of m n bids) start p
  unfolding Below
  from_start p l =
      record {
        above = λ i. omega (arith, l.above i, (higher i).0);
        empty = l.empty;
        least = λ q from e. l.least q (λ i. both q from e i (higher i).2) e;
      }
    where
      both : (q : List ℕ) → ((i : ℕ) → amount start i ≤ amount q i) → excess_demand m (demands m (rows_of m n bids) q) ≡ 0 → (i : ℕ)
          → (amount next i ≡ amount start i) ⊎ (amount next i ≡ amount prices i) → amount next i ≤ amount q i
      both q from e i (inl h) = omega (arith, h, from i)
      both q from e i (inr h) = omega (arith, h, c.least.least q (λ j. omega (arith, low j, from j)) e i)

  past-zero : (x : ℕ) → 32 ≤ x → get_or next x 0 ≡ 0
  past-zero x l = (t.rest x l).0 ∙ c.past x l

  -- nobody waits
  pub rise-calm : waiting ≡ 0 → From m n bids start next holders
  rise-calm z =
      record {
        max_items = c.max_items;
        standing = record { table = s.table; long = t.long; long_own = t.long_own; small = unfold Small in small-next; held = held };
        least = from_start next (least-from m n bids next next holders held (λ i. omega arith) (λ q from calm i. from i));
        past = past-zero;
      }
    where
      back : (b : ℕ) → everyone n b ≡ true → others n waiting b ≡ true
      back b on = others-make n waiting b (everyone-use n b on) (ap (λ (w : ℕ). has w (suc b)) z ∙ empty-has (suc b))

      held : Held m (bid_at m bids) (everyone n) (amount next) (amount holders)
      held = held_same (λ b on. everyone-make n b (others-use n waiting b on).0) back lifted-standing.held

  -- those who wait are put in
  module _ (p o : List ℕ) (put : Put m bids (everyone n) next holders p o) where
    pub rise-balanced : Balanced m n bids next p o
    rise-balanced =
        record {
          standing = record { table = s.table; long = put.long; long_own = put.long_own; small = put.small; held = put.held };
          above = put.rises;
          free = λ i x e. (put.free i x e).1;
          past = put.past;
        }

    pub rise-least : (q r : List ℕ) → Lowered m n bids next q r → From m n bids start q r
    rise-least q r l =
        record {
          max_items = c.max_items;
          standing = l.standing;
          least = from_start q l.least;
          past = λ x h. l.past x (omega (arith, h, c.max_items)) ∙ past-zero x h;
        }

-- the least from 0 up
pub from_zero : {m n : ℕ} {bids prices own : List ℕ} → m ≤ 32 → Lowered m n bids (replicate 64 0) prices own → From m n bids (replicate 64 0) prices own
from_zero lm l = record { max_items = lm; standing = l.standing; least = l.least; past = λ x h. l.past x (omega arith) ∙ zeros-at 64 x }
