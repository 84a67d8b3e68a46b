-- The reports as the code holds them, and what the matching makes of them: the rising set and the falling set. Assumes nothing.
use Prim.Native.Nat.{ℕ, zero, suc, ◌+◌, ◌<◌}
use mathlib.Core.Path.{◌≡◌, refl, sym, ap, ◌∙◌, subst, fun_ext}
use mathlib.Core.Bool.{false, ◌&&◌, not, cond}
use mathlib.Core.List.{List, ◌∷◌, map}
use native.Mathlib.Nat.{zero-add}
use native.Mathlib.Numerals.{add-one}
use lib.ListN.{length, get_or, length-map}
use lib.Seq.{ext_get_or}
use Rattle.sets.specs.Bit.{has, set_of}
use Rattle.sets.specs.Lists.{tabulate}
use Rattle.sets.proofs.Lists.{tabulate-length, tabulate-at}
use Rattle.matching.specs.Demand.{largest_excess}
use Rattle.rule.specs.Demand.{Demand, nth}
use Rattle.rule.specs.Excess.{excess_demand, positive_excess_demand, excess_supply}
use Rattle.rule.proofs.Profile.{excess_of, active, inside, rising-profile, positive-profile}
use Rattle.rule.proofs.Lower.{largest-same}
use Rattle.round.specs.Reports.{reports}

pub reports-length : (n : ℕ) (sets : List ℕ) (nulls : ℕ) → length (reports n sets nulls) ≡ n
unfolding reports
reports-length n sets nulls = tabulate-length n (λ b. record { null = has nulls (suc b); items = get_or sets b 0 }) 0

-- bidder b + 1's report
pub report : (n : ℕ) (sets : List ℕ) (nulls b : ℕ) → b < n → nth (reports n sets nulls) b ≡ record { null = has nulls (suc b); items = get_or sets b 0 }
unfolding reports nth
report n sets nulls b l =
    tabulate-at n (λ b. record { null = has nulls (suc b); items = get_or sets b 0 }) 0 b _ l
    ∙ ap (λ (k : ℕ). record { null = has nulls (suc k); items = get_or sets k 0 }) (zero-add b)

-- demands are those of each bidder in turn
pub tabulate-nth : (ds : List Demand) → tabulate (length ds) (nth ds) 0 ≡ ds
unfolding nth
tabulate-nth ds =
    let z : Demand = record { null = false; items = 0 } in
    ext_get_or z (tabulate (length ds) (nth ds) 0) ds (tabulate-length (length ds) (nth ds) 0)
    (λ k l. tabulate-at (length ds) (nth ds) 0 k z (subst (λ (x : ℕ). k < x) (tabulate-length (length ds) (nth ds) 0) l) ∙ ap (λ (j : ℕ). get_or ds j z) (zero-add k))

pub map-tabulate : {A B : Type 0} (g : A → B) (n : ℕ) (f : ℕ → A) (i : ℕ) → tabulate n (λ k. g (f k)) i ≡ map g (tabulate n f i)
unfolding tabulate
map-tabulate g zero f i = refl
map-tabulate {A} {B} g (suc n) f i = ap (λ (xs : List B). g (f i) ∷ xs) (map-tabulate g n f (suc i))

-- f of bidder b + 1's report
pub map-report : (f : Demand → ℕ) (n : ℕ) (sets : List ℕ) (nulls b : ℕ) → b < n
    → get_or (map f (reports n sets nulls)) b 0 ≡ f (record { null = has nulls (suc b); items = get_or sets b 0 })
unfolding reports
map-report f n sets nulls b l =
    ap (λ (xs : List ℕ). get_or xs b 0) (sym (map-tabulate f n (λ b. record { null = has nulls (suc b); items = get_or sets b 0 }) 0))
    ∙ tabulate-at n (λ b. f (record { null = has nulls (suc b); items = get_or sets b 0 })) 0 b 0 l
    ∙ ap (λ (k : ℕ). f (record { null = has nulls (suc k); items = get_or sets k 0 })) (zero-add b)

-- what the code hands to the matching, place by place: each bidder's items, or none where null is said; and each bidder's items of `above`
abbrev pub active_sets : List ℕ → ℕ → List ℕ
active_sets sets nulls = tabulate 64 (λ b. cond (has nulls (b + 1)) 0 (get_or sets b 0)) 0

abbrev pub inside_sets : List ℕ → ℕ → List ℕ
inside_sets sets above = tabulate 64 (λ b. set_of 32 (λ k. has (get_or sets b 0) k && has above k)) 0

active-reports : (sets : List ℕ) (nulls : ℕ) → active_sets sets nulls ≡ map active (reports 64 sets nulls)
unfolding reports active
active-reports sets nulls =
    ap (λ (f : ℕ → ℕ). tabulate 64 (λ b. cond (has nulls (f b)) 0 (get_or sets b 0)) 0) (fun_ext add-one)
    ∙ map-tabulate active 64 (λ b. record { null = has nulls (suc b); items = get_or sets b 0 }) 0

inside-reports : (sets : List ℕ) (above nulls : ℕ) → inside_sets sets above ≡ map (inside 32 above) (reports 64 sets nulls)
unfolding reports inside
inside-reports sets above nulls = map-tabulate (inside 32 above) 64 (λ b. record { null = has nulls (suc b); items = get_or sets b 0 }) 0

-- the largest set in excess demand of the sets that are handed over
largest-of : (f : Demand → ℕ) (sets : List ℕ) (nulls : ℕ) → largest_excess 32 64 (map f (reports 64 sets nulls)) ≡ excess_of 32 (map f (reports 64 sets nulls))
largest-of f sets nulls =
    ap (λ (n : ℕ). largest_excess 32 n (map f (reports 64 sets nulls))) (sym (length-map (reports 64 sets nulls) f ∙ reports-length 64 sets nulls))
    ∙ sym (largest-same 32 (map f (reports 64 sets nulls)))

pub rising_is : (sets : List ℕ) (nulls : ℕ) → largest_excess 32 64 (map active (reports 64 sets nulls)) ≡ excess_demand 32 (reports 64 sets nulls)
rising_is sets nulls = largest-of active sets nulls ∙ sym (rising-profile 32 (reports 64 sets nulls))

pub kept-is : (sets : List ℕ) (above nulls : ℕ) → largest_excess 32 64 (map (inside 32 above) (reports 64 sets nulls)) ≡ positive_excess_demand 32 above (reports 64 sets nulls)
kept-is sets above nulls = largest-of (inside 32 above) sets nulls ∙ sym (positive-profile 32 above (reports 64 sets nulls))

-- from what the code's steps answer
pub rising-found : (sets : List ℕ) (nulls : ℕ) (own : List ℕ) (r : ℕ) → own ≡ active_sets sets nulls → r ≡ largest_excess 32 64 own → r ≡ excess_demand 32 (reports 64 sets nulls)
rising-found sets nulls own r e q = q ∙ ap (largest_excess 32 64) (e ∙ active-reports sets nulls) ∙ rising_is sets nulls

pub falling-found : (sets : List ℕ) (above nulls : ℕ) (own : List ℕ) (kept r : ℕ) → own ≡ inside_sets sets above → kept ≡ largest_excess 32 64 own
    → r ≡ set_of 32 (λ k. has above k && not (has kept k)) → r ≡ excess_supply 32 above (reports 64 sets nulls)
unfolding excess_supply
falling-found sets above nulls own kept r e q s =
    s ∙ ap (λ (t : ℕ). set_of 32 (λ k. has above k && not (has t k))) (q ∙ ap (largest_excess 32 64) (e ∙ inside-reports sets above nulls) ∙ kept-is sets above nulls)
