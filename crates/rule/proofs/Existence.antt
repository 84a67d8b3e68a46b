-- Where both sets are empty some assignment fits, by the matching's theorems: the rising set empty gives, by Hall's theorem, a match that places every
-- bidder who does not demand null; the falling set empty says that the items of `above` are the largest set in excess of the demands within them, all of
-- which the decomposition holds; and then one match does both. THEORY.md 2.9. Assumes nothing.
use Prim.Native.Nat.{ℕ, zero, suc, ◌+◌, ◌-◌, ◌^◌, ◌≤◌, ◌<◌}
use mathlib.Core.Path.{◌≡◌, sym, ap, ◌∙◌}
use mathlib.Core.Bool.{true, false, ◌&&◌, not, true≢false}
use mathlib.Core.List.{List, [], map}
use mathlib.Core.Logic.{◌⊎◌, inl, inr}
use native.Mathlib.Omega.{arith}
use native.Mathlib.Nat.{not-suc-le-zero}
use lib.Dec.{ltb}
use lib.ListN.{length, get_or}
use borrow.Author.Tests.{ltb-true, lt-ltb}
use Rattle.sets.specs.Bit.{is_set, has}
use Rattle.sets.proofs.Members.{is_set-empty, is_set-above, bits_of, is_set-bits_of}
use Rattle.sets.proofs.Counting.{lt-or-le, and_left, and_right, and_both, not-both, not_is}
use Rattle.matching.specs.Demand.{largest_excess, Fair, Matching, Covering}
use Rattle.matching.proofs.Theorems.{AllPlaced, hall, decompose, both-sides}
use Rattle.rule.specs.Demand.{Demand, wants, nth}
use Rattle.rule.specs.Excess.{excess_demand, positive_excess_demand, excess_supply}
use Rattle.rule.specs.Assignment.{option, fits, some_list, assignment}
use Rattle.rule.proofs.Largest.{supply-empty}
use Rattle.rule.proofs.Profile.{active, inside, map_at, item-bit, active-items, active-part, active-small, inside-part}
use Rattle.rule.proofs.Lower.{map-past, rising-wide, positive-wide}
use Rattle.rule.proofs.Order.{choose-passes}
use Rattle.rule.proofs.Completion.{Begun}
use Rattle.rule.proofs.Asking.{Asked, completes-is}

-- a match over smaller sets is one over larger sets
more : (m n : ℕ) (v w : List ℕ) (h : ℕ → ℕ) → ((b i : ℕ) → is_set (get_or v b 0) i ≡ true → is_set (get_or w b 0) i ≡ true) → Matching m n v h → Matching m n w h
unfolding Fair
more m n v w h up g = record { fair = λ i li. go i (g.fair i li); once = g.once }
  where
    go : (i : ℕ) → (h i ≡ 0) ⊎ ((h i ≤ n) × (is_set (get_or v (h i - 1) 0) i ≡ true)) → (h i ≡ 0) ⊎ ((h i ≤ n) × (is_set (get_or w (h i - 1) 0) i ≡ true))
    go i (inl z) = inl z
    go i (inr q) = inr (q.0, up (h i - 1) i q.1)

module _ (m above : ℕ) (ds : List Demand) (lm : m ≤ 32) (ln : length ds ≤ 64)
    -- each bidder demands something, and no item above m
    (some : (b : ℕ) → b < length ds → (i : ℕ) × (i < suc m) × (wants (nth ds b) i ≡ true))
    (small : (b : ℕ) → b < length ds → (nth ds b).items < 2 ^ m)
    (no_excess : excess_demand m ds ≡ 0) (no_supply : excess_supply m above ds ≡ 0) where
  abbrev sets : List ℕ
  sets = map (λ d. d.items) ds

  -- what is in f of a demand is demanded
  into : (f : Demand → ℕ) → ((d : Demand) (i : ℕ) → is_set (f d) i ≡ true → is_set d.items i ≡ true)
      → (b i : ℕ) → is_set (get_or (map f ds) b 0) i ≡ true → is_set (get_or sets b 0) i ≡ true
  into f up b i e = go (lt-or-le b (length ds))
    where
      go : (b < length ds) ⊎ (length ds ≤ b) → is_set (get_or sets b 0) i ≡ true
      go (inl l) =
          ap (λ (x : ℕ). is_set x i) (map_at ds (λ d. d.items) b l)
          ∙ up (nth ds b) i (sym (ap (λ (x : ℕ). is_set x i) (map_at ds f b l)) ∙ e)
      go (inr l) = absurd (not-both (is_set 0 i) (sym (ap (λ (x : ℕ). is_set x i) (map-past ds f b l)) ∙ e) (is_set-empty i))

  -- the bidders who do not demand null, and the items of `above`
  must : ℕ
  must = bits_of 64 (λ b. ltb b (length ds) && not (nth ds b).null)

  need : ℕ
  need = bits_of 32 (λ k. ltb k m && has above (suc k))

  must-use : (b : ℕ) → b < 64 → is_set must b ≡ true → (b < length ds) × ((nth ds b).null ≡ false)
  unfolding must
  must-use b l e =
      let q = sym (is_set-bits_of 64 (λ b. ltb b (length ds) && not (nth ds b).null) b l) ∙ e in
      (ltb-true b (length ds) (and_left (ltb b (length ds)) _ q), not_is (nth ds b).null (and_right (ltb b (length ds)) _ q))

  must-make : (b : ℕ) → b < length ds → (nth ds b).null ≡ false → is_set must b ≡ true
  unfolding must
  must-make b l e =
      is_set-bits_of 64 (λ b. ltb b (length ds) && not (nth ds b).null) b (omega arith)
      ∙ and_both (ltb b (length ds)) (not (nth ds b).null) (lt-ltb b (length ds) l) (ap not e)

  need-use : (k : ℕ) → k < 32 → is_set need k ≡ true → (k < m) × (has above (suc k) ≡ true)
  unfolding need
  need-use k l e =
      let q = sym (is_set-bits_of 32 (λ k. ltb k m && has above (suc k)) k l) ∙ e in
      (ltb-true k m (and_left (ltb k m) _ q), and_right (ltb k m) _ q)

  need-make : (k : ℕ) → k < m → has above (suc k) ≡ true → is_set need k ≡ true
  unfolding need
  need-make k l e =
      is_set-bits_of 32 (λ k. ltb k m && has above (suc k)) k (omega arith) ∙ and_both (ltb k m) (has above (suc k)) (lt-ltb k m l) e

  -- ---- both matches, and one that does both

  no-sole : largest_excess 32 64 (map active ds) ≡ 0
  no-sole =
      rising-wide m ds (map active ds) lm ln (map_at ds active) (map-past ds active) (λ b l. active-small m (nth ds b) (small b l)) ∙ no_excess

  placed : (g : ℕ → ℕ) → AllPlaced (map active ds) g → (b : ℕ) → b < 64 → is_set must b ≡ true → (i : ℕ) × (i < 32) × (g i ≡ b + 1)
  unfolding AllPlaced wants
  placed g all b lb e = let t = must-use b lb e in let w = some b t.0 in go t.0 t.1 w.0 w.1 w.2
    where
      go : b < length ds → (nth ds b).null ≡ false → (i : ℕ) → i < suc m → wants (nth ds b) i ≡ true → (i : ℕ) × (i < 32) × (g i ≡ b + 1)
      go l off zero li w = absurd (not-both (nth ds b).null w off)
      go l off (suc k) li w =
          all b k lb (omega arith)
          (ap (λ (x : ℕ). is_set x k) (map_at ds active b l ∙ active-items (nth ds b) off) ∙ sym (item-bit (nth ds b).items k) ∙ w)

  held : (k : ℕ) → k < 32 → is_set need k ≡ true → is_set (largest_excess 32 64 (map (inside m above) ds)) k ≡ true
  held k lk e =
      let t = need-use k lk e in
      ap (λ (x : ℕ). is_set x k) (positive-wide m above ds (map (inside m above) ds) lm ln (map_at ds (inside m above)) (map-past ds (inside m above)))
      ∙ sym (item-bit (positive_excess_demand m above ds) k) ∙ supply-empty m above ds no_supply (suc k) (omega (arith, t.0)) t.1

  matched : (h : ℕ → ℕ) × Matching 32 64 sets h × Covering 32 64 sets must need h
  matched =
      let g = hall (map active ds) no-sole in
      let h = decompose (map (inside m above) ds) in
      both-sides sets must need g.0 h.0
      (more 32 64 (map active ds) sets g.0 (into active active-part) g.1) (placed g.0 g.2)
      (more 32 64 (map (inside m above) ds) sets h.0 (into (inside m above) (inside-part m above)) h.1.matching)
      (λ k lk e. (h.1.inside k lk (held k lk e)).0)

  -- ---- it is an assignment, with nothing chosen before

  begun : Begun m (length ds) (λ b. wants (nth ds b)) (has above) []
  begun =
      record {
        small = λ b l. absurd (not-suc-le-zero l);
        wanted = λ b l. absurd (not-suc-le-zero l);
        once = λ b c l. absurd (not-suc-le-zero l);
      }

  asked : Asked m (length ds) (λ b. wants (nth ds b)) (has above) [] sets must need
  unfolding wants
  asked =
      record {
        sets = λ c k lc lk e. own c k lk e (lt-or-le c (length ds));
        sets-all = λ c k lo l lk e free. ap (λ (x : ℕ). is_set x k) (map_at ds (λ d. d.items) c l) ∙ sym (item-bit (nth ds c).items k) ∙ e;
        musts = λ c lc e. let t = must-use c lc e in (omega arith, t.0, t.1);
        musts-all = λ c lo l e. must-make c l e;
        needs = λ k lk e. let t = need-use k lk e in (t.0, t.1, λ a l. absurd (not-suc-le-zero l));
        needs-all = λ k lk e free. need-make k lk e;
      }
    where
      own : (c k : ℕ) → k < 32 → is_set (get_or sets c 0) k ≡ true → (c < length ds) ⊎ (length ds ≤ c)
          → (0 ≤ c) × (c < length ds) × (k < m) × (has (nth ds c).items (suc k) ≡ true) × ((a : ℕ) → a < 0 → option [] a ≡ suc k → ⊥)
      own c k lk e (inr l) = absurd (not-both (is_set 0 k) (sym (ap (λ (x : ℕ). is_set x k) (map-past ds (λ d. d.items) c l)) ∙ e) (is_set-empty k))
      own c k lk e (inl l) =
          let in_c : is_set (nth ds c).items k ≡ true = sym (ap (λ (x : ℕ). is_set x k) (map_at ds (λ d. d.items) c l)) ∙ e in
          (omega arith, l, low in_c (lt-or-le k m), item-bit (nth ds c).items k ∙ in_c, λ a la. absurd (not-suc-le-zero la))
        where
          low : is_set (nth ds c).items k ≡ true → (k < m) ⊎ (m ≤ k) → k < m
          low h (inl q) = q
          low h (inr q) = absurd (not-both (is_set (nth ds c).items k) h (is_set-above m (nth ds c).items k (small c l) q))

  some_fits : some_list m (length ds) (fits m above ds) ≡ true
  some_fits =
      let t = matched in
      completes-is m above ds [] (length ds) (omega arith) lm ln sets must need begun asked true t.0
      (record { matching = λ e. t.1; covering = λ e. t.2; none = λ e. absurd (true≢false e) })

  -- the first in order fits
  pub assignment-fits : fits m above ds (assignment m above ds) ≡ true
  unfolding assignment
  assignment-fits = (choose-passes m (length ds) (fits m above ds) some_fits).1
