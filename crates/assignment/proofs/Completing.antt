-- A complete assignment, which the search starts from, is what the matching finds. THEORY.md 3.2. Assumes nothing.
use Prim.Native.Nat.{ℕ, suc, ◌-◌, ◌≤◌, ◌<◌}
use mathlib.Core.Path.{◌≡◌, sym, ap, ◌∙◌, subst}
use mathlib.Core.Bool.{Bool, true, false, ◌&&◌, not}
use mathlib.Core.List.{List, [], ◌++◌}
use mathlib.Core.Logic.{◌⊎◌, inl, inr}
use native.Mathlib.Omega.{arith}
use native.Mathlib.Nat.{not-suc-le-zero}
use lib.ListN.{length, get_or, take, drop, replicate, get_or-eq_default}
use lib.Seq.{get_or-take, length-take-le}
use Rattle.sets.specs.Lists.{places}
use Rattle.sets.proofs.Lists.{places-at, places-length}
use Rattle.sets.proofs.Filling.{front-places}
use Rattle.sets.specs.Bit.{is_set, has, set_of}
use Rattle.sets.proofs.Counting.{lt-or-le, and_left, and_right, and_both, not-both, not_is}
use Rattle.sets.proofs.Members.{is_set-set_of, is_set-empty, set_of-lt, has-zero}
use Rattle.sets.proofs.Taking.{below-width}
use Rattle.matching.specs.Demand.{Fair, Covered}
use Rattle.rule.specs.Demand.{Demand, wants, nth}
use Rattle.rule.proofs.Asking.{Asked, completes-is, rest_of}
use Rattle.round.specs.Reports.{reports}
use Rattle.round.proofs.Reporting.{report, reports-length}
use Rattle.assignment.specs.Choice.{completed}
use Rattle.assignment.specs.Turn.{Seat, Complete}

-- a report's items, and its word on null
pub wants-item : (n : ℕ) (sets : List ℕ) (nulls c k : ℕ) → c < n → wants (nth (reports n sets nulls) c) (suc k) ≡ has (get_or sets c 0) (suc k)
unfolding wants
wants-item n sets nulls c k l = ap (λ (d : Demand). has d.items (suc k)) (report n sets nulls c l)

wants-null : (n : ℕ) (sets : List ℕ) (nulls c : ℕ) → c < n → wants (nth (reports n sets nulls) c) 0 ≡ has nulls (suc c)
unfolding wants
wants-null n sets nulls c l = ap (λ (d : Demand). d.null) (report n sets nulls c l)

-- the sets of the first bidders, before empty ones
module _ (n : ℕ) (ln : n ≤ 64) (sets : List ℕ) (long : length sets ≡ 64) (own : List ℕ) (e : own ≡ take n sets) where
  all-own : List ℕ
  all-own = own ++ drop n (replicate 64 0)

  count : length own ≡ n
  count = ap (λ (xs : List ℕ). length xs) e ∙ length-take-le n sets (omega arith)

  in-places : all-own ≡ places 64 own
  unfolding all-own
  in-places = front-places 64 n own ln count

  pub own-known : (b : ℕ) → b < n → get_or (own ++ drop n (replicate 64 0)) b 0 ≡ get_or sets b 0
  unfolding all-own
  own-known b l = ap (λ (xs : List ℕ). get_or xs b 0) in-places ∙ places-at 64 own b (omega arith) ∙ ap (λ (xs : List ℕ). get_or xs b 0) e ∙ get_or-take n sets b 0 l

  pub own-idle : (b : ℕ) → n ≤ b → get_or (own ++ drop n (replicate 64 0)) b 0 ≡ 0
  unfolding all-own
  own-idle b l = ap (λ (xs : List ℕ). get_or xs b 0) in-places ∙ go (lt-or-le b 64)
    where
      go : (b < 64) ⊎ (64 ≤ b) → get_or (places 64 own) b 0 ≡ 0
      go (inl q) = places-at 64 own b q ∙ get_or-eq_default own 0 {n = b} (omega (arith, count))
      go (inr q) = get_or-eq_default (places 64 own) 0 {n = b} (omega (arith, places-length 64 own))

module _ (n : ℕ) (ln : n ≤ 64) (sets : List ℕ) (nulls above : ℕ) (own : List ℕ) (known : (b : ℕ) → b < n → get_or own b 0 ≡ get_or sets b 0) (idle : (b : ℕ) → n ≤ b → get_or own b 0 ≡ 0)
    (all must : ℕ) (ea : all ≡ set_of n (λ j. true)) (em : must ≡ set_of 64 (λ k. has all k && not (has nulls k))) where
  abbrev D : ℕ → ℕ → Bool
  D b = wants (nth (reports n sets nulls) b)

  own-use : (c k : ℕ) → is_set (get_or own c 0) k ≡ true → (c < n) × (D c (suc k) ≡ true)
  unfolding has
  own-use c k e = go (lt-or-le c n)
    where
      go : (c < n) ⊎ (n ≤ c) → (c < n) × (D c (suc k) ≡ true)
      go (inl l) = (l, wants-item n sets nulls c k l ∙ ap (λ (s : ℕ). is_set s k) (sym (known c l)) ∙ e)
      go (inr l) = absurd (not-both (is_set 0 k) (ap (λ (s : ℕ). is_set s k) (sym (idle c l)) ∙ e) (is_set-empty k))

  must-at : (c : ℕ) → c < 64 → is_set must c ≡ is_set (set_of n (λ j. true)) c && not (has nulls (suc c))
  unfolding has
  must-at c l =
      ap (λ (s : ℕ). is_set s c) em ∙ is_set-set_of 64 (λ k. has all k && not (has nulls k)) c l ∙ ap (λ (s : ℕ). is_set s c && not (has nulls (suc c))) ea

  asked : Asked 32 n D (has above) [] own must above
  unfolding has
  asked =
      record {
        sets = λ c k lc lk e. let v = own-use c k e in (omega arith, v.0, lk, v.1, λ a la. absurd (not-suc-le-zero la));
        sets-all = λ c k lo l lk e free. ap (λ (s : ℕ). is_set s k) (known c l) ∙ sym (wants-item n sets nulls c k l) ∙ e;
        musts = λ c lc e. musts c lc (sym (must-at c lc) ∙ e);
        musts-all = λ c lo l e. must-at c (omega arith)
            ∙ and_both (is_set (set_of n (λ j. true)) c) (not (has nulls (suc c))) (is_set-set_of n (λ j. true) c l) (ap not (sym (wants-null n sets nulls c l) ∙ e));
        needs = λ k lk e. (lk, e, λ a la. absurd (not-suc-le-zero la));
        needs-all = λ k lk e free. e;
      }
    where
      musts : (c : ℕ) → c < 64 → is_set (set_of n (λ j. true)) c && not (has nulls (suc c)) ≡ true → (0 ≤ c) × (c < n) × (D c 0 ≡ false)
      musts c lc e =
          let l = below-width n (set_of n (λ j. true)) c (set_of-lt n (λ j. true)) (and_left (is_set (set_of n (λ j. true)) c) (not (has nulls (suc c))) e) in
          (omega arith, l, wants-null n sets nulls c l ∙ not_is (has nulls (suc c)) (and_right (is_set (set_of n (λ j. true)) c) (not (has nulls (suc c))) e))

  pub complete-of : (found : Bool) (holder : List ℕ) → Covered 32 64 own must above found (λ i. get_or holder i 0) → Complete n sets nulls above found holder
  unfolding completed Seat Fair
  complete-of found holder c =
      record {
        is = sym (completes-is 32 above (reports n sets nulls) [] (n - 0) (omega (arith, len)) (omega arith) (omega (arith, len)) own must above
            (record { small = λ b l. absurd (not-suc-le-zero l); wanted = λ b l. absurd (not-suc-le-zero l); once = λ b c l. absurd (not-suc-le-zero l) })
            (subst (λ (m : ℕ). Asked 32 m D (has above) [] own must above) (sym len) asked) found (λ i. get_or holder i 0) c);
        small = λ e k l. small k ((c.matching e).fair k l);
        completes = λ e x s. rest_of 32 n D (has above) [] (omega arith) ln (has-zero above) own must above asked (λ i. get_or holder i 0) (c.matching e) (c.covering e) (λ b. get_or x b 0)
            (λ b l. s b (omega arith));
      }
    where
      len : length (reports n sets nulls) ≡ n
      len = reports-length n sets nulls

      small : (k : ℕ) → (get_or holder k 0 ≡ 0) ⊎ ((get_or holder k 0 ≤ 64) × (is_set (get_or own (get_or holder k 0 - 1) 0) k ≡ true)) → get_or holder k 0 ≤ 64
      small k (inl z) = omega arith
      small k (inr v) = v.0
