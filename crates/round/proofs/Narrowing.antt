-- Fewer than 32 items and 64 bidders: where nothing is reported past m items and n bidders, and every price past m is 0, the sets at 32 and 64 are
-- those at m and n. Assumes nothing.
use Prim.Native.Nat.{ℕ, zero, suc, ◌^◌, ◌≤◌, ◌<◌}
use mathlib.Core.Path.{◌≡◌, refl, sym, ap, ◌∙◌, subst}
use mathlib.Core.Bool.{Bool, true, false, ◌&&◌, not}
use mathlib.Core.List.{List, map}
use mathlib.Core.Logic.{◌⊎◌, inl, inr}
use native.Mathlib.Omega.{arith}
use native.Mathlib.Nat.{lt_of_lt_of_le}
use lib.Dec.{ltb}
use lib.ListN.{length, get_or, length-map, get_or-eq_default}
use lib.Pow.{pow_mono}
use borrow.Author.Tests.{le-ltb}
use Rattle.sets.specs.Count.{◌⇒◌, all_below, any_below}
use Rattle.sets.specs.Bit.{is_set, has, set_of, each, any}
use Rattle.sets.proofs.Counting.{lt-or-le, and_left, and_right, imp-make, not-both, is_false, together, all-use, all-make, any-use, any-make}
use Rattle.sets.proofs.Members.{is_set-above, empty-has, has-past, set_of-lt, is_set-set_of, is-set_of}
use Rattle.rule.specs.Sheet.{amount}
use Rattle.rule.specs.Demand.{Demand, wants, nth}
use Rattle.rule.specs.Excess.{something_in, nothing_outside, excess_demand, positive_excess_demand, excess_supply, above_floors}
use Rattle.rule.proofs.Profile.{active, inside, active-small}
use Rattle.rule.proofs.Lower.{rising-wide, positive-wide}
use Rattle.round.specs.Reports.{reports, Reported}
use Rattle.round.proofs.Reporting.{reports-length, report, map-report, rising_is, kept-is}

-- a set that is given by a test which fails past m
pub set_of-narrow : (m w : ℕ) (f : ℕ → Bool) → m ≤ w → ((k : ℕ) → m ≤ k → k < w → f (suc k) ≡ false) → set_of w f ≡ set_of m f
set_of-narrow m w f l off = sym (is-set_of w (set_of m f) f (lt_of_lt_of_le (set_of-lt m f) (pow_mono l)) (λ k lk. go k lk (lt-or-le k m)))
  where
    go : (k : ℕ) → k < w → (k < m) ⊎ (m ≤ k) → is_set (set_of m f) k ≡ f (suc k)
    go k lk (inl q) = is_set-set_of m f k q
    go k lk (inr q) = is_set-above m (set_of m f) k (set_of-lt m f) q ∙ sym (off k q lk)

-- the items of price above the floor are items
pub above_floors-lt : (m : ℕ) (floors p : List ℕ) → above_floors m floors p < 2 ^ m
unfolding above_floors
above_floors-lt m floors p = set_of-lt m (λ i. ltb (amount floors i) (amount p i))

pub above_floors-narrow : (m : ℕ) (floors p : List ℕ) → m ≤ 32 → ((k : ℕ) → m ≤ k → get_or p k 0 ≡ 0) → above_floors 32 floors p ≡ above_floors m floors p
unfolding above_floors amount
above_floors-narrow m floors p l z =
    set_of-narrow m 32 (λ i. ltb (amount floors i) (amount p i)) l (λ k lo lk. le-ltb (get_or floors k 0) (get_or p k 0) (omega (arith, z k lo)))

module _ (m n : ℕ) (sets : List ℕ) (r : Reported m n sets) (nulls : ℕ) where
  len : length (reports n sets nulls) ≡ n
  len = reports-length n sets nulls

  -- the list of f of each of 64 reports has f of each of n, and nothing past them
  module _ (f : Demand → ℕ) (none : (said : Bool) → f (record { null = said; items = 0 }) ≡ 0) where
    here : (b : ℕ) → b < length (reports n sets nulls) → get_or (map f (reports 64 sets nulls)) b 0 ≡ f (nth (reports n sets nulls) b)
    here b l =
        let lb : b < n = omega (arith, l, len) in
        map-report f 64 sets nulls b (omega (arith, lb, r.max_bidders)) ∙ ap f (sym (report n sets nulls b lb))

    past : (b : ℕ) → length (reports n sets nulls) ≤ b → get_or (map f (reports 64 sets nulls)) b 0 ≡ 0
    past b l = go (lt-or-le b 64)
      where
        go : (b < 64) ⊎ (64 ≤ b) → get_or (map f (reports 64 sets nulls)) b 0 ≡ 0
        go (inl q) =
            map-report f 64 sets nulls b q ∙ ap (λ (s : ℕ). f (record { null = has nulls (suc b); items = s })) (r.idle b (omega (arith, l, len))) ∙ none (has nulls (suc b))
        go (inr q) = get_or-eq_default (map f (reports 64 sets nulls)) 0 {n = b} (omega (arith, q, length-map (reports 64 sets nulls) f, reports-length 64 sets nulls))

  -- ---- the rising set

  active-none : (said : Bool) → active (record { null = said; items = 0 }) ≡ 0
  unfolding active
  active-none true = refl
  active-none false = refl

  active-lt : (b : ℕ) → b < length (reports n sets nulls) → active (nth (reports n sets nulls) b) < 2 ^ m
  active-lt b l =
      let lb : b < n = omega (arith, l, len) in
      active-small m (nth (reports n sets nulls) b) (subst (λ (d : Demand). d.items < 2 ^ m) (sym (report n sets nulls b lb)) (r.small b lb))

  pub rising-narrow : excess_demand 32 (reports 64 sets nulls) ≡ excess_demand m (reports n sets nulls)
  rising-narrow =
      sym (rising_is sets nulls)
      ∙ rising-wide m (reports n sets nulls) (map active (reports 64 sets nulls)) r.max_items (omega (arith, len, r.max_bidders)) (here active active-none) (past active active-none) active-lt

  -- ---- the falling set

  module _ (above : ℕ) (la : above < 2 ^ m) where
    inside-narrow : (d : Demand) → inside 32 above d ≡ inside m above d
    unfolding inside
    inside-narrow d =
        set_of-narrow m 32 (λ i. has d.items i && has above i) r.max_items (λ k l lk. is_false (has d.items (suc k) && has above (suc k)) (λ h. not-both (has above (suc k)) (and_right (has d.items (suc k)) (has above (suc k)) h) (has-past m above (suc k) la (omega arith))))

    inside-none : (said : Bool) → inside 32 above (record { null = said; items = 0 }) ≡ 0
    unfolding inside set_of
    inside-none said = set_of-narrow 0 32 (λ i. has 0 i && has above i) (omega arith) (λ k l lk. ap (λ (b : Bool). b && has above (suc k)) (empty-has (suc k)))

    kept-narrow : positive_excess_demand 32 above (reports 64 sets nulls) ≡ positive_excess_demand m above (reports n sets nulls)
    kept-narrow =
        sym (kept-is sets above nulls)
        ∙ positive-wide m above (reports n sets nulls) (map (inside 32 above) (reports 64 sets nulls)) r.max_items (omega (arith, len, r.max_bidders))
        (λ b l. here (inside 32 above) inside-none b l ∙ inside-narrow (nth (reports n sets nulls) b)) (past (inside 32 above) inside-none)

    pub falling-narrow : excess_supply 32 above (reports 64 sets nulls) ≡ excess_supply m above (reports n sets nulls)
    unfolding excess_supply
    falling-narrow =
        ap (λ (s : ℕ). set_of 32 (λ i. has above i && not (has s i))) kept-narrow
        ∙ set_of-narrow m 32 (λ i. has above i && not (has (positive_excess_demand m above (reports n sets nulls)) i)) r.max_items
        (λ k l lk. ap (λ (b : Bool). b && not (has (positive_excess_demand m above (reports n sets nulls)) (suc k))) (has-past m above (suc k) la (omega arith)))

-- ---- what a demand holds

module _ (m : ℕ) (lm : m ≤ 32) (s : ℕ) (d : Demand) (small : d.items < 2 ^ m) where
  -- no item past m is demanded
  not-past : (i : ℕ) → m < i → wants d i ≡ true → ⊥
  unfolding wants
  not-past zero l h = omega arith
  not-past (suc k) l h = not-both (has d.items (suc k)) h (has-past m d.items (suc k) small l)

  pub outside-narrow : nothing_outside 32 s d ≡ nothing_outside m s d
  unfolding each
  outside-narrow = together (nothing_outside 32 s d) (nothing_outside m s d) to back
    where
      test : ℕ → Bool
      test i = wants d i ⇒ has s i

      to : all_below 33 test ≡ true → all_below (suc m) test ≡ true
      to h = all-make (suc m) test (λ i l. all-use 33 test h i (omega arith))

      back : all_below (suc m) test ≡ true → all_below 33 test ≡ true
      back h = all-make 33 test (λ i l. elim (lt-or-le i (suc m)) [ inl q ↦ all-use (suc m) test h i q | inr q ↦ imp-make (wants d i) (has s i) (λ w. absurd (not-past i q w)) ])

  pub something-narrow : something_in 32 s d ≡ something_in m s d
  unfolding any
  something-narrow = together (something_in 32 s d) (something_in m s d) to back
    where
      test : ℕ → Bool
      test i = wants d i && has s i

      to : any_below 33 test ≡ true → any_below (suc m) test ≡ true
      to h =
          let w = any-use 33 test h in
          elim (lt-or-le w.0 (suc m)) [ inl q ↦ any-make (suc m) test w.0 q w.2 | inr q ↦ absurd (not-past w.0 q (and_left (wants d w.0) (has s w.0) w.2)) ]

      back : any_below (suc m) test ≡ true → any_below 33 test ≡ true
      back h = let w = any-use (suc m) test h in any-make 33 test w.0 (omega (arith, w.1)) w.2
