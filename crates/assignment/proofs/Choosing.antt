-- The next bidder's option: one that is completed is demanded and open, and the lowest such is the option. THEORY.md 3.2. Assumes nothing.
use Prim.Native.Nat.{ℕ, zero, suc, ◌-◌, ◌≤◌, ◌<◌}
use mathlib.Core.Path.{◌≡◌, refl, sym, ap, ◌∙◌, subst}
use mathlib.Core.Bool.{Bool, true}
use mathlib.Core.List.{List, [], ◌∷◌, ◌++◌}
use mathlib.Core.Logic.{◌⊎◌, inl, inr}
use native.Mathlib.Omega.{arith}
use native.Mathlib.Nat.{not-suc-le-zero}
use lib.ListN.{length, get_or}
use Rattle.sets.specs.Bit.{is_set, has, lowest}
use Rattle.sets.proofs.Counting.{not-both, is_false}
use Rattle.sets.proofs.Lowest.{Lowest, item, is-null, lowest_is, lowest-le, lowest-unique}
use Rattle.rule.specs.Demand.{wants, nth}
use Rattle.rule.specs.Assignment.{option, fits}
use Rattle.rule.specs.Completion.{Rest}
use Rattle.rule.proofs.Order.{Listed}
use Rattle.rule.proofs.Completion as R
use Rattle.rule.proofs.Completion.{option-low, option-at, snoc-length, Snoc, snoc-split}
use Rattle.rule.proofs.Fitting.{Fits, fits-use}
use Rattle.round.specs.Reports.{reports}
use Rattle.round.proofs.Reporting.{reports-length}
use Rattle.assignment.specs.Choice.{completed, next_option, Begins}
use Rattle.assignment.specs.Search.{Open}
use Rattle.assignment.specs.Turn.{FirstOf, Turn}
use Rattle.assignment.proofs.Places.{both-use, both-make}
use Rattle.assignment.proofs.Walking.{demands_are}

module _ (n : ℕ) (sets : List ℕ) (nulls above : ℕ) where
  -- at first nobody has an option
  pub begins-none : Begins n sets nulls above []
  begins-none = record { small = λ b l. absurd (not-suc-le-zero l); wanted = λ b l. absurd (not-suc-le-zero l); once = λ b c l. absurd (not-suc-le-zero l) }

  -- what can be completed is begun
  pub begins-of : (ys : List ℕ) → length ys ≤ n → completed n sets nulls above ys ≡ true → Begins n sets nulls above ys
  unfolding completed
  begins-of ys l e = record { small = small; wanted = wanted; once = once }
    where
      w : (xs : List ℕ) × Listed 32 (n - length ys) xs × (fits 32 above (reports n sets nulls) (ys ++ xs) ≡ true)
      w = R.some-use 32 (n - length ys) (λ xs. fits 32 above (reports n sets nulls) (ys ++ xs)) e

      f : Fits 32 (length (reports n sets nulls)) (λ b. wants (nth (reports n sets nulls) b)) (has above) (ys ++ w.0)
      f = fits-use 32 above (reports n sets nulls) (ys ++ w.0) w.2

      low : (b : ℕ) → b < length ys → option (ys ++ w.0) b ≡ option ys b
      low b lb = option-low ys w.0 b lb

      inner : (b : ℕ) → b < length ys → b < length (reports n sets nulls)
      inner b lb = omega (arith, lb, l, reports-length n sets nulls)

      small : (b : ℕ) → b < length ys → option ys b < 33
      small b lb = omega (arith, low b lb, f.assigns.small b (inner b lb))

      wanted : (b : ℕ) → b < length ys → wants (nth (reports n sets nulls) b) (option ys b) ≡ true
      wanted b lb = ap (wants (nth (reports n sets nulls) b)) (sym (low b lb)) ∙ f.wanted b (inner b lb)

      once : (b c : ℕ) → b < length ys → c < length ys → 0 < option ys b → option ys b ≡ option ys c → b ≡ c
      once b c lb lc pos q = f.assigns.once b c (inner b lb) (inner c lc) (omega (arith, pos, low b lb)) (low b lb ∙ q ∙ sym (low c lc))

  -- a completion, and the definition's test for one
  completes-use : (ys : List ℕ) → length ys ≤ n → completed n sets nulls above ys ≡ true → (to : ℕ → ℕ) × Rest 32 n (λ b. wants (nth (reports n sets nulls) b)) (has above) ys to
  unfolding completed
  completes-use ys l e =
      subst (λ (c : ℕ). (to : ℕ → ℕ) × Rest 32 c (λ b. wants (nth (reports n sets nulls) b)) (has above) ys to) (reports-length n sets nulls)
      (R.completes-use 32 above (reports n sets nulls) ys (n - length ys) (omega (arith, l, reports-length n sets nulls)) e)

  pub completes-make : (ys : List ℕ) → length ys ≤ n → Begins n sets nulls above ys
      → (to : ℕ → ℕ) → Rest 32 n (λ b. wants (nth (reports n sets nulls) b)) (has above) ys to → completed n sets nulls above ys ≡ true
  unfolding completed
  completes-make ys l b to r =
      R.completes-make 32 above (reports n sets nulls) ys (n - length ys) (omega (arith, l, reports-length n sets nulls)) to
      (subst (λ (c : ℕ). R.Begun 32 c (λ b. wants (nth (reports n sets nulls) b)) (has above) ys) (sym (reports-length n sets nulls)) b)
      (subst (λ (c : ℕ). Rest 32 c (λ b. wants (nth (reports n sets nulls) b)) (has above) ys to) (sym (reports-length n sets nulls)) r)

module _ {w who x : List ℕ} {above opens later k n : ℕ} (t : Turn w who x above opens later k n) where
  abbrev D : ℕ → ℕ → Bool
  D b = wants (nth (reports n t.sets t.nulls) b)

  abbrev pub Completed : ℕ → Bool
  Completed i = completed n t.sets t.nulls above (t.ys ++ (i ∷ []))

  short : (i : ℕ) → length (t.ys ++ (i ∷ [])) ≤ n
  short i = omega (arith, snoc-length t.ys i, t.count, t.more)

  -- an option that is completed is demanded and open
  done : (i : ℕ) → Completed i ≡ true → Begins n t.sets t.nulls above (t.ys ++ (i ∷ []))
  done i c = begins-of n t.sets t.nulls above (t.ys ++ (i ∷ [])) (short i) c

  last : (i : ℕ) → option (t.ys ++ (i ∷ [])) k ≡ i
  last i = ap (option (t.ys ++ (i ∷ []))) (sym t.count) ∙ option-at t.ys [] i

  pub completed-wanted : (i : ℕ) → Completed i ≡ true → is_set (get_or w k 0) i ≡ true
  completed-wanted i c =
      sym (demands_are t k i t.more) ∙ ap (D k) (sym (last i)) ∙ (done i c).wanted k (omega (arith, snoc-length t.ys i, t.count))

  pub completed-open : (i : ℕ) → Completed i ≡ true → Open t.ys i
  completed-open i c b lb pos e =
      let low = option-low t.ys (i ∷ []) b lb ∙ e in
      let same = (done i c).once b k (omega (arith, lb, snoc-length t.ys i)) (omega (arith, snoc-length t.ys i, t.count)) (omega (arith, low, pos)) (low ∙ sym (last i)) in
      omega (arith, same, lb, t.count)

  pub completed-rest : (i : ℕ) → Completed i ≡ true → (to : ℕ → ℕ) × Rest 32 n D (has above) (t.ys ++ (i ∷ [])) to
  completed-rest i c = completes-use n t.sets t.nulls above (t.ys ++ (i ∷ [])) (short i) c

  -- with a completion, such an option is completed
  module _ (i : ℕ) (li : i < 33) (on : is_set (get_or w k 0) i ≡ true) (free : Open t.ys i) where
    begins-more : Begins n t.sets t.nulls above (t.ys ++ (i ∷ []))
    begins-more =
        record {
          small = λ b l. small b (snoc-split t.ys i b l);
          wanted = λ b l. wanted b (snoc-split t.ys i b l);
          once = λ b c l o pos q. once b c pos q (snoc-split t.ys i b l) (snoc-split t.ys i c o);
        }
      where
        small : (b : ℕ) → Snoc t.ys i b → option (t.ys ++ (i ∷ [])) b < 33
        small b (inl v) = omega (arith, v.1, t.begun.small b v.0)
        small b (inr v) = omega (arith, v.1, li)

        wanted : (b : ℕ) → Snoc t.ys i b → D b (option (t.ys ++ (i ∷ [])) b) ≡ true
        wanted b (inl v) = ap (D b) v.1 ∙ t.begun.wanted b v.0
        wanted b (inr v) = ap (D b) v.1 ∙ ap (λ (c : ℕ). D c i) (v.0 ∙ t.count) ∙ demands_are t k i t.more ∙ on

        once : (b c : ℕ) → 0 < option (t.ys ++ (i ∷ [])) b → option (t.ys ++ (i ∷ [])) b ≡ option (t.ys ++ (i ∷ [])) c → Snoc t.ys i b → Snoc t.ys i c → b ≡ c
        once b c pos q (inl u) (inl v) = t.begun.once b c u.0 v.0 (omega (arith, pos, u.1)) (sym u.1 ∙ q ∙ v.1)
        once b c pos q (inl u) (inr v) = absurd (free b u.0 (omega (arith, pos, q, v.1)) (sym u.1 ∙ q ∙ v.1))
        once b c pos q (inr u) (inl v) = absurd (free c v.0 (omega (arith, pos, u.1)) (sym v.1 ∙ sym q ∙ u.1))
        once b c pos q (inr u) (inr v) = u.0 ∙ sym v.0

    pub completed-make : (to : ℕ → ℕ) → Rest 32 n D (has above) (t.ys ++ (i ∷ [])) to → Completed i ≡ true
    completed-make to r = completes-make n t.sets t.nulls above (t.ys ++ (i ∷ [])) (short i) begins-more to r

  -- the option is the lowest that is completed
  pub option_is : (i : ℕ) → i < 33 → Completed i ≡ true → ((j : ℕ) → 0 < j → j < 33 → (i ≡ 0) ⊎ (j < i) → Completed j ≡ true → ⊥) → i ≡ next_option n t.sets t.nulls above t.ys
  unfolding next_option
  option_is zero li on low = lowest-unique 32 Completed 0 (is-null (λ j l. is_false (Completed (suc j)) (low (suc j) (omega arith) (omega arith) (inl refl))))
  option_is (suc i) li on low =
      lowest-unique 32 Completed (suc i) (item i (omega arith) on (λ j l. is_false (Completed (suc j)) (low (suc j) (omega arith) (omega arith) (inr (omega arith)))))

-- ---- the lowest item of a set of places that has place a, and null if it has none

lowest-in : (s a r : ℕ) → a < 64 → is_set s a ≡ true → r ≡ lowest 63 (is_set s) → is_set s r ≡ true
lowest-in s a r la o e = ap (is_set s) e ∙ go (lowest 63 (is_set s)) (lowest_is 63 (is_set s)) a la o
  where
    go : (m : ℕ) → Lowest 63 (is_set s) m → (a : ℕ) → a < 64 → is_set s a ≡ true → is_set s m ≡ true
    go m (item k l h b) a la o = h
    go m (is-null none) zero la o = o
    go m (is-null none) (suc a) la o = absurd (not-both (is_set s (suc a)) o (none a (omega arith)))

lowest-none : (s r : ℕ) → r ≡ lowest 63 (is_set s) → (j : ℕ) → 0 < j → j < 33 → (r ≡ 0) ⊎ (j < r) → is_set s j ≡ true → ⊥
lowest-none s r e zero pos l low o = absurd (let no : ⊥ = omega arith in no)
lowest-none s r e (suc j) pos l low o = go (lowest 63 (is_set s)) (lowest_is 63 (is_set s)) e low
  where
    go : (m : ℕ) → Lowest 63 (is_set s) m → r ≡ m → (r ≡ 0) ⊎ (suc j < r) → ⊥
    go m (is-null none) q low = not-both (is_set s (suc j)) o (none j (omega arith))
    go m (item k lk h b) q (inl z) = omega arith
    go m (item k lk h b) q (inr lt) = not-both (is_set s (suc j)) o (b j (omega arith))

-- the same for what s and t have both
module _ {s t i : ℕ} (f : FirstOf s t i) where
  pub first-in : (a : ℕ) → a < 64 → is_set s a ≡ true → is_set t a ≡ true → (is_set s i ≡ true) × (is_set t i ≡ true)
  first-in a la o d = both-use s t f.both f.both_is i (lowest-in f.both a i la (both-make s t f.both f.both_is a la o d) f.lowest_is)

  pub first_none : (j : ℕ) → 0 < j → j < 33 → (i ≡ 0) ⊎ (j < i) → is_set s j ≡ true → is_set t j ≡ true → ⊥
  first_none j pos l low o d = lowest-none f.both i f.lowest_is j pos l low (both-make s t f.both f.both_is j (omega arith) o d)

  pub first_small : i < 64
  first_small = let l = lowest-le (lowest_is 63 (is_set f.both)) in omega (arith, f.lowest_is)
