-- A bidder's turn: the sets of places that the code makes, and what the search and the moves then give. THEORY.md 3.2. Assumes nothing.
use Prim.Native.Nat.{ℕ, zero, suc, ◌≤◌, ◌<◌}
use mathlib.Core.Path.{◌≡◌, refl, sym, ap, ◌∙◌, subst}
use mathlib.Core.Bool.{Bool, true, false, ◌&&◌, ◌||◌, not}
use mathlib.Core.List.{List, [], ◌∷◌, ◌++◌}
use mathlib.Core.Logic.{◌⊎◌, inl, inr}
use native.Mathlib.Omega.{arith}
use native.Mathlib.Decide.{ℕ_discrete}
use lib.Dec.{eqb}
use lib.ListN.{length, get_or}
use Rattle.sets.specs.Bit.{is_set, has, set_of}
use Rattle.sets.proofs.Counting.{lt-or-le, not-both, is_false}
use Rattle.sets.proofs.Members.{has-zero}
use Rattle.sets.proofs.Taking.{member-lt}
use Rattle.rule.specs.Demand.{wants, nth}
use Rattle.assignment.proofs.Reaching.{Closed, blocked, rest_more}
use Rattle.round.specs.Reports.{reports}
use Rattle.assignment.specs.Choice.{next_option, Completes}
use Rattle.assignment.specs.Search.{Open, Sorted, goes_on, Seated, Tree, Expanded, Start}
use Rattle.assignment.specs.Turn.{Held, FirstOf, Turn, Way}
use Rattle.assignment.proofs.Places.{with-use, with-old, with-new, other-use, other-make, Goes, goes-cases}
use Rattle.assignment.proofs.Choosing.{Completed, completed-wanted, completed-open, completed-rest, completed-make, option_is, first-in, first_none}
use Rattle.assignment.proofs.Walking.{demands_are}

-- the places of items alone
wants-item : (items p : ℕ) → wants (record { null = false; items = items }) p ≡ has items p
unfolding wants has
wants-item items zero = refl
wants-item items (suc k) = refl

-- the sets of places that a search is given: unpriced has those that may be left, and spare null and the items that nobody has
pub record Given (x : List ℕ) (above opens k n unpriced spare : ℕ) : Type 0 where
  pub priced : ℕ
  pub holds : ℕ
  pub rest : ℕ
  pub priced-is : (p : ℕ) → is_set priced p ≡ wants (record { null = false; items = above }) p
  pub unpriced-is : unpriced ≡ set_of 64 (λ j. has opens j && not (has priced j))
  pub holds-is : Held x k n holds
  pub rest-is : rest ≡ set_of 64 (λ j. has opens j && not (has holds j))
  pub spare-is : spare ≡ set_of 64 (λ j. has rest j || eqb j 1)

-- what it finds: all that leads to what bidder k has, or its wish; and i, the lowest item there that it demands
pub record Found (w x : List ℕ) (opens unpriced spare k n wish : ℕ) (next entered : List ℕ) (i : ℕ) : Type 0 where
  pub seen : ℕ
  pub enough : (is_set seen wish ≡ true) ⊎ Expanded w x unpriced spare k n seen seen
  pub tree : Tree w x opens unpriced spare (get_or x k 0) k n next entered seen 65536
  pub first : FirstOf seen (get_or w k 0) i

module _ {w who x : List ℕ} {above opens later k n : ℕ} (t : Turn w who x above opens later k n) where
  abbrev D : ℕ → ℕ → Bool
  D b = wants (nth (reports n t.sets t.nulls) b)

  from : (b : ℕ) → k ≤ b → length t.ys ≤ b
  from b l = omega (arith, t.count)

  pub x-small : (b : ℕ) → k ≤ b → b < n → get_or x b 0 < 33
  x-small b lo l = t.completes.small b (from b lo) l

  x-wanted : is_set (get_or w k 0) (get_or x k 0) ≡ true
  x-wanted = sym (demands_are t k (get_or x k 0) t.more) ∙ t.completes.wanted k (from k (omega arith)) t.more

  open_use : (p : ℕ) → is_set opens p ≡ true → Open t.ys p
  open_use p o = (t.open_places.only p o).1

  open_make : (p : ℕ) → p < 33 → Open t.ys p → is_set opens p ≡ true
  open_make p l f = t.open_places.all p l f

  x-open : (b : ℕ) → k ≤ b → b < n → is_set opens (get_or x b 0) ≡ true
  x-open b lo l = open_make (get_or x b 0) (x-small b lo l) (λ c lc pos e. t.completes.left b c (from b lo) l lc pos e)

  -- bidder k keeps what it has, the lowest open item that it demands
  pub kept : {r : ℕ} → FirstOf opens (get_or w k 0) r → r ≡ get_or x k 0
      → (get_or x k 0 ≡ next_option n t.sets t.nulls above t.ys) × Completes n t.sets t.nulls above (t.ys ++ (get_or x k 0 ∷ [])) x
  kept f ra = (option_is t (get_or x k 0) small on low, more)
    where
      small : get_or x k 0 < 33
      small = x-small k (omega arith) t.more

      more : Completes n t.sets t.nulls above (t.ys ++ (get_or x k 0 ∷ [])) x
      more = rest_more t.completes (omega (arith, t.count, t.more)) (get_or x k 0) (ap (λ (b : ℕ). get_or x b 0) t.count)

      on : Completed t (get_or x k 0) ≡ true
      on = completed-make t (get_or x k 0) small x-wanted (open_use (get_or x k 0) (x-open k (omega arith) t.more)) (λ b. get_or x b 0) more

      low : (j : ℕ) → 0 < j → j < 33 → (get_or x k 0 ≡ 0) ⊎ (j < get_or x k 0) → Completed t j ≡ true → ⊥
      low j pos l le c = first_none f j pos l (subst (λ (a : ℕ). (a ≡ 0) ⊎ (j < a)) (sym ra) le) (open_make j l (completed-open t j c)) (completed-wanted t j c)

  -- the same, where a is what it has
  pub kept-as : {r a : ℕ} → FirstOf opens (get_or w k 0) r → a ≡ get_or x k 0 → r ≡ a
      → (a ≡ next_option n t.sets t.nulls above t.ys) × Completes n t.sets t.nulls above (t.ys ++ (a ∷ [])) x
  kept-as {r} f ea q = subst (λ (o : ℕ). (o ≡ next_option n t.sets t.nulls above t.ys) × Completes n t.sets t.nulls above (t.ys ++ (o ∷ [])) x) (sym ea) (kept f (q ∙ ea))

  module _ {unpriced spare : ℕ} (g : Given x above opens k n unpriced spare) where
    is-priced : (p : ℕ) → is_set g.priced p ≡ has above p
    is-priced p = g.priced-is p ∙ wants-item above p

    spare_use : (p : ℕ) → is_set spare p ≡ true → (p ≡ 0) ⊎ ((is_set opens p ≡ true) × (is_set g.holds p ≡ false))
    spare_use p o = go (with-use g.rest 0 spare g.spare-is p o)
      where
        go : (is_set g.rest p ≡ true) ⊎ (p ≡ 0) → (p ≡ 0) ⊎ ((is_set opens p ≡ true) × (is_set g.holds p ≡ false))
        go (inl h) = inr (other-use opens g.holds g.rest g.rest-is p h)
        go (inr h) = inl h

    spare-item : (p : ℕ) → 0 < p → is_set spare p ≡ true → (is_set opens p ≡ true) × ((b : ℕ) → k ≤ b → b < n → get_or x b 0 ≡ p → ⊥)
    spare-item p pos o = go (spare_use p o)
      where
        go : (p ≡ 0) ⊎ ((is_set opens p ≡ true) × (is_set g.holds p ≡ false)) → (is_set opens p ≡ true) × ((b : ℕ) → k ≤ b → b < n → get_or x b 0 ≡ p → ⊥)
        go (inl z) = absurd (let no : ⊥ = omega arith in no)
        go (inr v) = (v.0, λ b lo l e. not-both (is_set g.holds p) (ap (is_set g.holds) (sym e) ∙ g.holds-is.all b lo l) v.1)

    spare_null : is_set spare 0 ≡ true
    spare_null = with-new g.rest 0 spare g.spare-is (omega arith)

    sorted : Sorted 32 n (has above) t.ys (λ b. get_or x b 0) (is_set opens) (is_set unpriced) (is_set spare)
    sorted =
        record {
          open_use = λ p l o. open_use p o;
          open_make = open_make;
          zero_use = λ p l o. let v = other-use opens g.priced unpriced g.unpriced-is p o in (v.0, sym (is-priced p) ∙ v.1);
          zero_make = λ p l o off. other-make opens g.priced unpriced g.unpriced-is p (omega arith) o (is-priced p ∙ off);
          spare_use = λ p l pos o. let v = spare-item p pos o in (v.0, λ b lo bn e. v.1 b (omega (arith, lo, t.count)) bn e);
          spare_make = λ p l pos o none. with-old g.rest 0 spare g.spare-is (member-lt 64 g.rest (λ j. has opens j && not (has g.holds j)) g.rest-is) p
              (other-make opens g.holds g.rest g.rest-is p (omega arith) o (is_false (is_set g.holds p) (λ h. let v = g.holds-is.only p h in none v.0 (from v.0 v.1) v.2 v.3)));
          spare_null = spare_null;
        }

    seated : Seated x opens spare k n
    seated = record { small = x-small; opened = x-open; taken = λ b lo l. stays b lo l (goes-cases spare (get_or x b 0)); spares = λ f o. spares f (spare_use f o); null = spare_null }
      where
        stays : (b : ℕ) → k ≤ b → b < n → Goes spare (get_or x b 0)
            → goes_on spare (get_or x b 0) ≡ get_or x b 0
        stays b lo l (inr v) = v.1
        stays b lo l (inl v) = v.1 ∙ go (get_or x b 0) refl
          where
            go : (p : ℕ) → get_or x b 0 ≡ p → 0 ≡ get_or x b 0
            go zero e = sym e
            go (suc p) e = absurd ((spare-item (get_or x b 0) (omega (arith, e)) v.0).1 b lo l refl)

        spares : (f : ℕ) → (f ≡ 0) ⊎ ((is_set opens f ≡ true) × (is_set g.holds f ≡ false)) → (f < 33) × (is_set opens f ≡ true)
        spares f (inl z) = (omega arith, ap (is_set opens) z ∙ open_make 0 (omega arith) (λ c lc pos e. omega arith))
        spares f (inr v) = ((t.open_places.only f v.0).0, v.0)

    pub start : Start who x spare later k
    start =
        record {
          w = w;
          n = n;
          opens = opens;
          most = t.most;
          more = t.more;
          asked = λ b q bn lq. t.demands.by_place b q bn lq ∙ sym (t.demands.by_bidder b q (omega (arith, bn, t.most)));
          rest = t.rest;
          seated = seated;
        }

    pub found : {next entered : List ℕ} {wish i seen : ℕ}
        → ((s : Start who x spare later k) → ((is_set seen wish ≡ true) ⊎ Expanded s.w x unpriced spare k s.n seen seen)
        × Tree s.w x s.opens unpriced spare (get_or x k 0) k s.n next entered seen 65536)
        → FirstOf seen (get_or w k 0) i → Found w x opens unpriced spare k n wish next entered i
    unfolding start
    found {seen = seen} h f = let v = h start in record { seen = seen; enough = v.0; tree = v.1; first = f }

    -- where this leads
    module _ {next entered : List ℕ} {wish i : ℕ} (f : Found w x opens unpriced spare k n wish next entered i) where
      i-in : (is_set f.seen i ≡ true) × (is_set (get_or w k 0) i ≡ true)
      i-in = let small = x-small k (omega arith) t.more in first-in f.first (get_or x k 0) (omega arith) f.tree.root x-wanted

      pub i-small : i < 33
      i-small = (f.tree.opened i i-in.0).0

      pub way : Way x next entered spare (get_or x k 0) i k
      way =
          record {
            w = w;
            who = who;
            above = above;
            opens = opens;
            later = later;
            n = n;
            turn = t;
            unpriced = unpriced;
            seen = f.seen;
            sorted = sorted;
            seated = seated;
            had = refl;
            tree = f.tree;
            reached = i-in.0;
            wanted = i-in.1;
          }

      -- no lower item can be had, if all that leads to what bidder k has is seen
      module _ (all : Expanded w x unpriced spare k n f.seen f.seen) where
        closed : Closed 32 n D t.ys (λ b. get_or x b 0) (is_set unpriced) (is_set spare) (is_set f.seen)
        closed =
            record {
              moves = λ b q lo l lq d o. all.moves b q (omega (arith, lo, t.count)) l (sym (demands_are t b q l) ∙ d) o;
              frees = λ q v lq lv z o h. all.frees q v z o h;
            }

        none-lower : (j : ℕ) → 0 < j → j < 33 → (i ≡ 0) ⊎ (j < i) → Completed t j ≡ true → ⊥
        none-lower j pos l le c =
            blocked (has-zero above) t.completes (omega (arith, t.count, t.more)) sorted closed (ap (λ (b : ℕ). is_set f.seen (get_or x b 0)) t.count ∙ f.tree.root) j l pos
            (open_make j l (completed-open t j c)) (is_false (is_set f.seen j) (λ h. first_none f.first j pos l le h (completed-wanted t j c))) (completed-rest t j c).1

      -- nor if its wish is, the lowest open item that it demands
      module _ (lowest-open : FirstOf opens (get_or w k 0) wish) where
        wish-in : (is_set opens wish ≡ true) × (is_set (get_or w k 0) wish ≡ true)
        wish-in = let small = x-small k (omega arith) t.more in first-in lowest-open (get_or x k 0) (omega arith) (x-open k (omega arith) t.more) x-wanted

        none-lower-yet : is_set f.seen wish ≡ true → (j : ℕ) → 0 < j → j < 33 → (i ≡ 0) ⊎ (j < i) → Completed t j ≡ true → ⊥
        none-lower-yet o j pos l le c = go (lt-or-le j wish) (ℕ_discrete wish 0)
          where
            free : (wish ≡ 0) ⊎ (j < wish) → ⊥
            free low = first_none lowest-open j pos l low (open_make j l (completed-open t j c)) (completed-wanted t j c)

            past : wish ≤ j → (i ≡ 0) ⊎ (j < i) → (i ≡ 0) ⊎ (wish < i)
            past h (inl z) = inl z
            past h (inr q) = inr (omega arith)

            go : (j < wish) ⊎ (wish ≤ j) → Dec (wish ≡ 0) → ⊥
            go (inl h) d = free (inr h)
            go (inr h) (yes z) = free (inl z)
            go (inr h) (no ne) = first_none f.first wish (omega (arith, ne)) (t.open_places.only wish wish-in.0).0 (past h le) o wish-in.1

        lower : (is_set f.seen wish ≡ true) ⊎ Expanded w x unpriced spare k n f.seen f.seen → (j : ℕ) → 0 < j → j < 33 → (i ≡ 0) ⊎ (j < i) → Completed t j ≡ true → ⊥
        lower (inl o) = none-lower-yet o
        lower (inr all) = none-lower all

        pub moved : (y : List ℕ) → ((s : Way x next entered spare (get_or x k 0) i k) → Completes s.n s.turn.sets s.turn.nulls s.above (s.turn.ys ++ (i ∷ [])) y)
            → (i ≡ next_option n t.sets t.nulls above t.ys) × Completes n t.sets t.nulls above (t.ys ++ (i ∷ [])) y
        unfolding way
        moved y h =
            let r = h way in
            (option_is t i i-small (completed-make t i i-small i-in.1 (open_use i (f.tree.opened i i-in.0).1) (λ b. get_or y b 0) r) (lower f.enough), r)
