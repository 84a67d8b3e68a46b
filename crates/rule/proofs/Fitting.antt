-- What it says, bidder by bidder, that a list of options is an assignment, and that it fits. THEORY.md 2.9. Assumes nothing.
use Prim.Native.Nat.{ℕ, zero, suc, ◌≤◌, ◌<◌}
use mathlib.Core.Path.{◌≡◌, refl, sym, subst}
use mathlib.Core.Bool.{Bool, true, ◌&&◌}
use mathlib.Core.List.{List, [], ◌∷◌}
use native.Mathlib.Omega.{arith}
use native.Mathlib.Nat.{not-suc-le-zero, suc_inj, zero-lt-suc}
use lib.Dec.{leb, eqb}
use lib.ListN.{length, get_or}
use borrow.Author.Tests.{eqb-true, eq-eqb, leb-true, le-leb}
use Rattle.sets.specs.Count.{◌⇒◌, all_below, count}
use Rattle.sets.specs.Bit.{has}
use Rattle.sets.proofs.Counting.{and_left, and_right, and_both, imp_use, imp-make, all-use, all-make, count-pos, count-witness, count-once, once-count, not-both}
use Rattle.sets.proofs.Members.{has-zero}
use Rattle.rule.specs.Demand.{Demand, wants, nth}
use Rattle.rule.specs.Assignment.{option, holders, is_assignment, fits}
use Rattle.rule.proofs.Order.{Listed, none, listed}

-- three tests at once
and3-use : (a b c : Bool) → a && b && c ≡ true → (a ≡ true) × (b ≡ true) × (c ≡ true)
and3-use a b c e = let ab = and_left (a && b) c e in (and_left a b ab, and_right a b ab, and_right (a && b) c e)

and3-make : (a b c : Bool) → a ≡ true → b ≡ true → c ≡ true → a && b && c ≡ true
and3-make a b c p q r = and_both (a && b) c (and_both a b p q) r

-- each of n bidders has an option 0 to m, and no item goes to two
pub record Assigns (m n : ℕ) (xs : List ℕ) : Type 0 where
  pub all : length xs ≡ n
  pub small : (b : ℕ) → b < n → option xs b < suc m
  pub once : (b c : ℕ) → b < n → c < n → 0 < option xs b → option xs b ≡ option xs c → b ≡ c

-- of each bidder's options, d, and every item of `above` is assigned
pub record Fits (m n : ℕ) (d : ℕ → ℕ → Bool) (above : ℕ → Bool) (xs : List ℕ) : Type 0 where
  pub assigns : Assigns m n xs
  pub wanted : (b : ℕ) → b < n → d b (option xs b) ≡ true
  pub covers : (i : ℕ) → i < suc m → above i ≡ true → (b : ℕ) × (b < n) × (option xs b ≡ i)

module _ (m n : ℕ) (xs : List ℕ) where
  pub assigns-use : is_assignment m n xs ≡ true → Assigns m n xs
  unfolding is_assignment holders
  assigns-use e =
      let q = and3-use (eqb (length xs) n) (all_below n λ b. leb (option xs b) m) _ e in
      let len : length xs ≡ n = eqb-true (length xs) n q.0 in
      let low : (b : ℕ) → b < n → option xs b ≤ m = λ b l. leb-true (option xs b) m (all-use n (λ b. leb (option xs b) m) q.1 b l) in
      let one : (k : ℕ) → k < m → count (length xs) (λ b. eqb (option xs b) (suc k)) ≤ 1 =
      λ k l. leb-true (count (length xs) (λ b. eqb (option xs b) (suc k))) 1
      (all-use m (λ k. leb (count (length xs) (λ b. eqb (option xs b) (suc k))) 1) q.2 k l) in
      record { all = len; small = λ b l. omega (arith, low b l); once = λ b c lb lc pos r. go len low one b c lb lc (option xs b) refl pos (sym r) }
    where
      go : length xs ≡ n → ((b : ℕ) → b < n → option xs b ≤ m) → ((k : ℕ) → k < m → count (length xs) (λ b. eqb (option xs b) (suc k)) ≤ 1)
          → (b c : ℕ) → b < n → c < n → (x : ℕ) → option xs b ≡ x → 0 < x → option xs c ≡ x → b ≡ c
      go len low one b c lb lc zero p pos q = absurd (not-suc-le-zero pos)
      go len low one b c lb lc (suc k) p pos q =
          once-count (length xs) (λ b. eqb (option xs b) (suc k)) (one k (omega (arith, low b lb))) b c (omega arith) (omega arith)
          (eq-eqb (option xs b) (suc k) p) (eq-eqb (option xs c) (suc k) q)

  pub assigns-make : Assigns m n xs → is_assignment m n xs ≡ true
  unfolding is_assignment holders
  assigns-make a =
      let len = a.all in
      and3-make (eqb (length xs) n) (all_below n λ b. leb (option xs b) m) _ (eq-eqb (length xs) n len)
      (all-make n (λ b. leb (option xs b) m) (λ b l. le-leb (option xs b) m (omega (arith, a.small b l))))
      (all-make m (λ k. leb (count (length xs) (λ b. eqb (option xs b) (suc k))) 1) (λ k l. le-leb _ 1
      (count-once (length xs) (λ b. eqb (option xs b) (suc k))
      (λ b c lb lc p q.
      let pb = eqb-true (option xs b) (suc k) p in
      let pc = eqb-true (option xs c) (suc k) q in
      a.once b c (omega arith) (omega arith) (omega arith) (omega arith)))))

module _ (m above : ℕ) (ds : List Demand) (xs : List ℕ) where
  pub fits-use : fits m above ds xs ≡ true → Fits m (length ds) (λ b. wants (nth ds b)) (has above) xs
  unfolding fits holders
  fits-use e =
      let q = and3-use (is_assignment m (length ds) xs) (all_below (length ds) λ b. wants (nth ds b) (option xs b)) _ e in
      let a = assigns-use m (length ds) xs q.0 in
      record {
        assigns = a;
        wanted = all-use (length ds) (λ b. wants (nth ds b) (option xs b)) q.1;
        covers = go a.all (all-use m (λ k. has above (suc k) ⇒ leb 1 (count (length xs) λ b. eqb (option xs b) (suc k))) q.2);
      }
    where
      go : length xs ≡ length ds → ((k : ℕ) → k < m → (has above (suc k) ⇒ leb 1 (count (length xs) λ b. eqb (option xs b) (suc k))) ≡ true)
          → (i : ℕ) → i < suc m → has above i ≡ true → (b : ℕ) × (b < length ds) × (option xs b ≡ i)
      go len h zero l u = absurd (no-null u)
        where
          no-null : has above 0 ≡ true → ⊥
          no-null u = not-both (has above 0) u (has-zero above)
      go len h (suc k) l u =
          let some = leb-true 1 _ (imp_use (has above (suc k)) _ (h k (omega arith)) u) in
          let w = count-witness (length xs) (λ b. eqb (option xs b) (suc k)) some in
          (w.0, omega (arith, w.1, len), eqb-true (option xs w.0) (suc k) w.2)

  pub fits-make : Fits m (length ds) (λ b. wants (nth ds b)) (has above) xs → fits m above ds xs ≡ true
  unfolding fits holders
  fits-make f =
      and3-make (is_assignment m (length ds) xs) (all_below (length ds) λ b. wants (nth ds b) (option xs b)) _ (assigns-make m (length ds) xs f.assigns)
      (all-make (length ds) (λ b. wants (nth ds b) (option xs b)) f.wanted)
      (all-make m (λ k. has above (suc k) ⇒ leb 1 (count (length xs) λ b. eqb (option xs b) (suc k)))
      (λ k l. imp-make (has above (suc k)) _
      (λ u. let w = f.covers (suc k) (omega arith) u in
      le-leb 1 _ (count-pos (length xs) (λ b. eqb (option xs b) (suc k)) w.0 (omega (arith, w.1, f.assigns.all)) (eq-eqb (option xs w.0) (suc k) w.2)))))

-- what n bidders demand, by a test d of each bidder's options
module _ (m n above : ℕ) (ds : List Demand) (count-is : length ds ≡ n) (d : ℕ → ℕ → Bool) (xs : List ℕ) where
  pub fits-to : ((b i : ℕ) → b < n → i < suc m → wants (nth ds b) i ≡ true → d b i ≡ true) → fits m above ds xs ≡ true → Fits m n d (has above) xs
  fits-to is e =
      let f = subst (λ (k : ℕ). Fits m k (λ b. wants (nth ds b)) (has above) xs) count-is (fits-use m above ds xs e) in
      record { assigns = f.assigns; wanted = λ b l. is b (option xs b) l (f.assigns.small b l) (f.wanted b l); covers = f.covers }

  pub fits-from : ((b i : ℕ) → b < n → i < suc m → d b i ≡ true → wants (nth ds b) i ≡ true) → Fits m n d (has above) xs → fits m above ds xs ≡ true
  fits-from is f =
      fits-make m above ds xs
      (subst (λ (k : ℕ). Fits m k (λ b. wants (nth ds b)) (has above) xs) (sym count-is)
      (record { assigns = f.assigns; wanted = λ b l. is b (option xs b) l (f.assigns.small b l) (f.wanted b l); covers = f.covers }))

-- ---- a list from a function

pub assigns-listed : (m n : ℕ) (xs : List ℕ) → Assigns m n xs → Listed m n xs
unfolding option
assigns-listed m n xs a = go n xs a.all a.small
  where
    go : (n : ℕ) (xs : List ℕ) → length xs ≡ n → ((b : ℕ) → b < n → get_or xs b 0 < suc m) → Listed m n xs
    go zero [] e h = none
    go zero (x ∷ xs) e h = absurd (omega arith)
    go (suc n) [] e h = absurd (omega arith)
    go (suc n) (x ∷ xs) e h = listed x (omega (arith, h 0 (zero-lt-suc n))) (go n xs (suc_inj e) (λ b l. h (suc b) (omega arith)))
