-- What the definitions say of demands in the words of the theory: sets as tests, and for each bidder the test which options they demand. The rising set is empty
-- exactly where no set is overdemanded. THEORY.md 1.5. Assumes nothing.
use Prim.Native.Nat.{ℕ, suc, ◌<◌}
use mathlib.Core.Path.{◌≡◌, refl, sym, ap, ◌∙◌, subst}
use mathlib.Core.Bool.{Bool, true, false, ◌&&◌}
use mathlib.Core.List.{List}
use lib.ListN.{length}
use Rattle.sets.specs.Count.{◌⇒◌}
use Rattle.sets.specs.Bit.{has, set_of, each}
use Rattle.sets.proofs.Counting.{is_false, not-both, imp_use, imp-make, all-use, all-make}
use Rattle.sets.proofs.Members.{agree, has-zero, empty-has, none-zero}
use Rattle.rule.specs.Demand.{Demand, wants, nth}
use Rattle.rule.specs.Excess.{nothing_outside, nothing_above_outside, crowded, in_excess, excess_demand, positive_excess_demand}
use Rattle.rule.proofs.Union.{Part, Crowd, sub, sub-use, sub-make}
use Rattle.rule.proofs.Overdemand.{within, Calm, Enough, enough, calm}
use Rattle.rule.proofs.Tests.{CrowdOf, crowded-use, crowded-make, crowd-mono}
use Rattle.rule.proofs.Largest.{demand-excess, demand-bound, demand-has, positive-crowded, positive_has, positive-make}

-- the demands of n bidders, of whom b demands the options that `wanted b` passes
pub record ByTest (m n : ℕ) (wanted : ℕ → ℕ → Bool) (ds : List Demand) : Type 0 where
  pub count-is : length ds ≡ n
  pub wanted-is : (b i : ℕ) → b < n → i < suc m → wants (nth ds b) i ≡ wanted b i

module _ {m n : ℕ} {wanted : ℕ → ℕ → Bool} {ds : List Demand} (by : ByTest m n wanted ds) where
  -- the tests of the definitions: a bidder counts all of whose options that `keep` passes lie in the set. For the rising set those are the demanded
  -- options, for S~ the demanded items of `above`
  module _ (keep : Bool → ℕ → Bool) (counts : Demand → Bool) (s : ℕ) (t : ℕ → Bool) (agrees : (i : ℕ) → i < suc m → has s i ≡ t i)
      (counts-is : (b : ℕ) → counts (nth ds b) ≡ (each m λ i. keep (wants (nth ds b) i) i ⇒ has s i)) where
    to-crowd : crowded m ds counts s ≡ true → Crowd m n wanted (λ b. sub m (λ i. keep (wanted b i) i) t) t
    unfolding CrowdOf sub each Part
    to-crowd e =
        crowd-mono m n (λ b. wants (nth ds b)) wanted (λ b. counts (nth ds b)) (λ b. sub m (λ i. keep (wanted b i) i) t) (has s) t
        (λ b i lb li w. sym (by.wanted-is b i lb li) ∙ w)
        (λ b lb c. sub-make m (λ i. keep (wanted b i) i) t
        (λ i li w. sym (agrees i li) ∙ imp_use (keep (wants (nth ds b) i) i) (has s i)
        (all-use (suc m) _ (sym (counts-is b) ∙ c) i li)
        (ap (λ (x : Bool). keep x i) (by.wanted-is b i lb li) ∙ w)))
        (λ i li w. agrees i li ∙ w)
        (subst (λ (n : ℕ). Crowd m n (λ b. wants (nth ds b)) (λ b. counts (nth ds b)) (has s)) by.count-is (crowded-use m ds counts s e))

    of-crowd : Crowd m n wanted (λ b. sub m (λ i. keep (wanted b i) i) t) t → crowded m ds counts s ≡ true
    unfolding CrowdOf sub each Part
    of-crowd c =
        crowded-make m ds counts s
        (subst (λ (n : ℕ). Crowd m n (λ b. wants (nth ds b)) (λ b. counts (nth ds b)) (has s)) (sym by.count-is)
        (crowd-mono m n wanted (λ b. wants (nth ds b)) (λ b. sub m (λ i. keep (wanted b i) i) t) (λ b. counts (nth ds b)) t (has s)
        (λ b i lb li w. by.wanted-is b i lb li ∙ w)
        (λ b lb e. counts-is b ∙ all-make (suc m) _
        (λ i li. imp-make (keep (wants (nth ds b) i) i) (has s i)
        (λ w. agrees i li ∙ sub-use m (λ i. keep (wanted b i) i) t e i li (ap (λ (x : Bool). keep x i) (sym (by.wanted-is b i lb li)) ∙ w))))
        (λ i li w. sym (agrees i li) ∙ w)
        c))

  -- ---- the rising set

  pub rising-crowd : Crowd m n wanted (within m wanted (has (excess_demand m ds))) (has (excess_demand m ds))
  unfolding in_excess
  rising-crowd =
      to-crowd (λ x i. x) (nothing_outside m (excess_demand m ds)) (excess_demand m ds) (has (excess_demand m ds))
      (λ i l. refl) (λ b. refl) (demand-excess m ds)

  pub rising-max : (t : ℕ → Bool) → t 0 ≡ false → Crowd m n wanted (within m wanted t) t → Part m t (has (excess_demand m ds))
  unfolding in_excess Part
  rising-max t z c i l e =
      demand-has m ds (set_of m t)
      (of-crowd (λ x i. x) (nothing_outside m (set_of m t)) (set_of m t) t (agree m t z) (λ b. refl) c)
      i l (agree m t z i l ∙ e)

  -- it is empty where no set is overdemanded, and only there
  pub enough-of-empty : ((b : ℕ) → b < n → (i : ℕ) × (i < suc m) × (wanted b i ≡ true)) → excess_demand m ds ≡ 0 → Enough m n wanted
  unfolding Calm Part
  enough-of-empty some e =
      enough m n wanted some
      (λ t z c i l. is_false (t i) (λ q. not-both (has 0 i) (ap (λ (x : ℕ). has x i) (sym e) ∙ rising-max t z c i l q) (empty-has i)))

  pub empty-of-enough : Enough m n wanted → excess_demand m ds ≡ 0
  unfolding Calm
  empty-of-enough o =
      none-zero m (excess_demand m ds) (demand-bound m ds) (calm m n wanted o (has (excess_demand m ds)) (has-zero (excess_demand m ds)) rising-crowd)

  -- ---- S~, of the items of `above`

  module _ (above : ℕ) where
    abbrev pub tilde : ℕ → Bool
    tilde = has (positive_excess_demand m above ds)

    pub tilde-crowd : Crowd m n wanted (λ b. sub m (λ i. wanted b i && has above i) tilde) tilde
    tilde-crowd =
        to-crowd (λ x i. x && has above i) (nothing_above_outside m above (positive_excess_demand m above ds)) (positive_excess_demand m above ds) tilde
        (λ i l. refl) (λ b. refl) (positive-crowded m above ds)

    pub tilde-max : (t : ℕ → Bool) → t 0 ≡ false → Part m t (has above) → Crowd m n wanted (λ b. sub m (λ i. wanted b i && has above i) t) t → Part m t tilde
    unfolding Part
    tilde-max t z inside c i l e =
        positive_has m above ds (set_of m t)
        (positive-make m above ds (set_of m t) (λ j lj q. inside j lj (sym (agree m t z j lj) ∙ q))
        (of-crowd (λ x i. x && has above i) (nothing_above_outside m above (set_of m t)) (set_of m t) t (agree m t z) (λ b. refl) c))
        i l (agree m t z i l ∙ e)
