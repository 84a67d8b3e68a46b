-- Prices are full if each non-empty set of items above their lower bounds is wanted by more bidders than it has items. That is where the falling set is empty, and
-- full prices stay full while a set in excess demand goes up: falling first, no fall comes after a rise. THEORY.md 2.15. Assumes nothing.
use Prim.Native.Nat.{ℕ, suc, ◌+◌, ◌≤◌, ◌<◌}
use mathlib.Core.Path.{◌≡◌, refl, sym, ap, ◌∙◌}
use mathlib.Core.Bool.{Bool, true, false, ◌&&◌, ◌||◌, not}
use mathlib.Core.List.{List}
use mathlib.Core.Logic.{◌⊎◌, inl, inr}
use native.Mathlib.Omega.{arith}
use native.Mathlib.Decide.{dec_le}
use lib.ListN.{length}
use Rattle.sets.specs.Count.{count}
use Rattle.sets.specs.Bit.{has}
use Rattle.sets.proofs.Counting.{count-mono, count_none, count-or, count-parts, least, Least, and_left, and_right, and_both, not-both, not_is, is_false, less-make, or_cases}
use Rattle.sets.proofs.Members.{has-zero, none-zero}
use Rattle.rule.specs.Sheet.{amount}
use Rattle.rule.specs.Demand.{demands}
use Rattle.rule.specs.Excess.{excess_demand, excess_supply, above_floors}
use Rattle.rule.specs.Round.{raise}
use Rattle.rule.proofs.Limits.{above_floors-at, above_floors-over, above_floors-up}
use Rattle.rule.proofs.Union.{Part, likes, likes-use, likes-make, Crowd, with, less, sub, sub-use, sub-make}
use Rattle.rule.proofs.Overdemand.{within}
use Rattle.rule.proofs.Surplus.{wants_at, wants-use, wants-make, bid_of, wanted}
use Rattle.rule.proofs.Largest.{supply-bound}
use Rattle.rule.proofs.AtPrices.{rising-crowd, tilde, tilde-max, falling_is}
use Rattle.rule.proofs.Moves.{raised-in, raised-out}
use Rattle.rule.proofs.Balance.{crowd-above}

unfoldable pub Full : (m n : ℕ) (bid : ℕ → ℕ → ℕ) (low p : ℕ → ℕ) → Type 0
Full m n bid low p =
    (t : ℕ → Bool) → t 0 ≡ false → (i : ℕ) → i < suc m → t i ≡ true → ((j : ℕ) → j < suc m → t j ≡ true → low j < p j)
    → count (suc m) t < count n (likes m (wants_at m bid p) t)

-- ---- a set in excess demand goes up

-- q is p, with the prices of es up by 1
module _ (m n : ℕ) (bid : ℕ → ℕ → ℕ) (low p q : ℕ → ℕ) (es : ℕ → Bool)
    (up : (i : ℕ) → i < suc m → es i ≡ true → q i ≡ p i + 1) (level : (i : ℕ) → i < suc m → es i ≡ false → q i ≡ p i)
    (crowd : Crowd m n (wants_at m bid p) (within m (wants_at m bid p) es) es) where
  -- who wants something outside the set still does: nothing is cheaper
  still-out : (b j : ℕ) → j < suc m → es j ≡ false → wants_at m bid p b j ≡ true → wants_at m bid q b j ≡ true
  still-out b j l e w = wants-make m bid q b j (λ k lk. at k lk (es k) refl)
    where
      at : (k : ℕ) → k < suc m → (x : Bool) → es k ≡ x → bid b k + q j ≤ bid b j + q k
      at k lk true h = omega (arith, level j l e, up k lk h, wants-use m bid p b j w k lk)
      at k lk false h = omega (arith, level j l e, level k lk h, wants-use m bid p b j w k lk)

  -- and so does who wants nothing outside it: what is outside was worse by 1 at least
  still-in : (b j : ℕ) → j < suc m → es j ≡ true → within m (wants_at m bid p) es b ≡ true → wants_at m bid p b j ≡ true → wants_at m bid q b j ≡ true
  unfolding Part
  still-in b j l e o w = wants-make m bid q b j (λ k lk. at k lk (es k) refl)
    where
      at : (k : ℕ) → k < suc m → (x : Bool) → es k ≡ x → bid b k + q j ≤ bid b j + q k
      at k lk true h = omega (arith, up j l e, up k lk h, wants-use m bid p b j w k lk)
      at k lk false h = go (dec_le (bid b j + p k) (bid b k + p j))
        where
          go : Dec (bid b j + p k ≤ bid b k + p j) → bid b k + q j ≤ bid b j + q k
          go (no r) = omega (arith, up j l e, level k lk h)
          go (yes r) =
              absurd
              (not-both (es k)
              (sub-use m (wants_at m bid p b) es o k lk (wants-make m bid p b k (λ i li. omega (arith, wants-use m bid p b j w i li)))) h)

  -- the bidders who want something of a set within es, and nothing outside es, and those who want something of it outside: different ones, and enough of either
  pub up-full : Full m n bid low p → Full m n bid low q
  unfolding Full Crowd Part
  up-full full t z i l ti over = go (least (suc m) (with t es)) (least (suc m) (less t es))
    where
      ins : ℕ → Bool
      ins b = likes m (wants_at m bid p) (with t es) b && within m (wants_at m bid p) es b

      outs : ℕ → Bool
      outs = likes m (wants_at m bid p) (less t es)

      ins-still : (b : ℕ) → b < n → ins b ≡ true → likes m (wants_at m bid q) t b ≡ true
      ins-still b lb e =
          let w = likes-use m (wants_at m bid p) (with t es) b (and_left (likes m (wants_at m bid p) (with t es) b) _ e) in
          likes-make m (wants_at m bid q) t b w.0 w.1
          (still-in b w.0 w.1 (and_right (t w.0) (es w.0) w.3) (and_right (likes m (wants_at m bid p) (with t es) b) _ e) w.2)
          (and_left (t w.0) (es w.0) w.3)

      outs-still : (b : ℕ) → b < n → outs b ≡ true → likes m (wants_at m bid q) t b ≡ true
      outs-still b lb e =
          let w = likes-use m (wants_at m bid p) (less t es) b e in
          likes-make m (wants_at m bid q) t b w.0 w.1 (still-out b w.0 w.1 (not_is (es w.0) (and_right (t w.0) _ w.3)) w.2) (and_left (t w.0) _ w.3)

      apart : (b : ℕ) → b < n → ins b ≡ true → outs b ≡ true → ⊥
      apart b lb e f =
          let w = likes-use m (wants_at m bid p) (less t es) b f in
          not-both (es w.0) (sub-use m (wants_at m bid p b) es (and_right (likes m (wants_at m bid p) (with t es) b) _ e) w.0 w.1 w.2)
          (not_is (es w.0) (and_right (t w.0) _ w.3))

      split : count (suc m) t ≡ count (suc m) (with t es) + count (suc m) (less t es)
      split = count-parts (suc m) t es

      both : count n ins + count n outs ≤ count n (likes m (wants_at m bid q) t)
      both =
          omega (
            arith,
            count-or n ins outs apart,
            count-mono n (λ b. ins b || outs b) (likes m (wants_at m bid q) t)
                (λ b lb e. elim (or_cases (ins b) (outs b) e) [ inl h ↦ ins-still b lb h | inr h ↦ outs-still b lb h ]),
          )

      ins-many : Least (suc m) (with t es) → count (suc m) (with t es) < count n ins
      ins-many w = crowd (with t es) (ap (λ (x : Bool). x && es 0) z) w.at w.small w.here (λ j lj e. and_right (t j) (es j) e)

      outs-many : Least (suc m) (less t es) → count (suc m) (less t es) < count n outs
      outs-many w =
          full (less t es) (ap (λ (x : Bool). x && not (es 0)) z) w.at w.small w.here
          (λ j lj e. omega (arith, over j lj (and_left (t j) _ e), level j lj (not_is (es j) (and_right (t j) _ e))))

      go : Least (suc m) (with t es) ⊎ ((i : ℕ) → i < suc m → with t es i ≡ false) → Least (suc m) (less t es) ⊎ ((i : ℕ) → i < suc m → less t es i ≡ false)
          → count (suc m) t < count n (likes m (wants_at m bid q) t)
      go (inl w) (inl v) = omega (arith, split, both, ins-many w, outs-many v)
      go (inl w) (inr h) = omega (arith, split, both, ins-many w, count_none (suc m) (less t es) h)
      go (inr h) (inl v) = omega (arith, split, both, outs-many v, count_none (suc m) (with t es) h)
      go (inr h) (inr g) = absurd (nowhere (es i) refl)
        where
          nowhere : (x : Bool) → es i ≡ x → ⊥
          nowhere true e = not-both (with t es i) (and_both (t i) (es i) ti e) (h i l)
          nowhere false e = not-both (less t es i) (less-make (t i) (es i) ti (λ q. not-both (es i) q e)) (g i l)

-- ---- at prices of items with floors

module _ (m : ℕ) (floors : List ℕ) (bids : List (List ℕ)) where
  abbrev pub FullAt : List ℕ → Type 0
  FullAt p = Full m (length bids) (bid_of bids) (amount floors) (amount p)

  abbrev supply : List ℕ → ℕ
  supply p = excess_supply m (above_floors m floors p) (demands m bids p)

  -- the falling set is empty where prices are full, and only there
  pub full-of-empty : (p : List ℕ) → supply p ≡ 0 → FullAt p
  unfolding Full Part
  full-of-empty p e t z i l ti over =
      crowd-above m bids p (above_floors m floors p) (above_floors-up m floors p) e t z i l ti (λ j lj q. above_floors-at m floors p j lj (over j lj q))

  pub empty-of-full : (p : List ℕ) → FullAt p → supply p ≡ 0
  unfolding Full Crowd Part
  empty-of-full p full =
      none-zero m (supply p) (supply-bound m above (demands m bids p))
      (λ i l. is_false (has (supply p) i) λ e.
      let q = sym (falling_is m bids p above i l) ∙ e in
      not-both (tilde m bids p above i)
      (tilde-max m bids p above (above_floors-up m floors p) (has above) (has-zero above) (λ j lj r. r) all i l (and_left (has above i) _ q))
      (not_is (tilde m bids p above i) (and_right (has above i) _ q)))
    where
      above : ℕ
      above = above_floors m floors p

      all : (t : ℕ → Bool) → t 0 ≡ false → (i : ℕ) → i < suc m → t i ≡ true
          → ((j : ℕ) → j < suc m → t j ≡ true → has (above_floors m floors p) j ≡ true)
          → count (suc m) t < count (length bids) (λ b. likes m (wanted m bids p) t b && sub m (λ i. wanted m bids p b i && has (above_floors m floors p) i) (has (above_floors m floors p)))
      all t z i l ti part =
          omega (
            arith,
            full t z i l ti (λ j lj q. above_floors-over m floors p j lj (part j lj q)),
            count-mono (length bids) (likes m (wanted m bids p) t)
                (λ b. likes m (wanted m bids p) t b && sub m (λ i. wanted m bids p b i && has (above_floors m floors p) i) (has (above_floors m floors p)))
                (λ b lb q. and_both (likes m (wanted m bids p) t b) _ q
                (sub-make m (λ i. wanted m bids p b i && has above i) (has above) (λ j lj r. and_right (wanted m bids p b j) (has above j) r))),
          )

  -- and stays so while the rising set goes up
  pub raised-full : (p : List ℕ) → FullAt p → FullAt (raise m p (excess_demand m (demands m bids p)))
  raised-full p full =
      up-full m (length bids) (bid_of bids) (amount floors) (amount p) (amount (raise m p e)) (has e) (λ i l. raised-in m p e i l) (λ i l. raised-out m p e i l) (rising-crowd m bids p) full
    where
      e : ℕ
      e = excess_demand m (demands m bids p)
