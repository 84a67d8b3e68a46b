-- The moves along a way: what holds at each place that it comes to. THEORY.md 3.2. Assumes nothing.
use Prim.Native.Nat.{ℕ, suc, ◌-◌, ◌%◌, ◌≤◌, ◌<◌}
use mathlib.Core.Path.{◌≡◌, refl, sym, ap, ◌∙◌, subst}
use mathlib.Core.Bool.{Bool, true}
use mathlib.Core.List.{List, [], ◌∷◌, ◌++◌}
use mathlib.Core.Logic.{◌⊎◌, inl, inr}
use native.Mathlib.Omega.{arith}
use native.Mathlib.Decide.{ℕ_discrete}
use native.Mathlib.Numerals.{add-one}
use lib.ListN.{length, get_or, set, length-set}
use lib.Seq.{get_or-set_same, get_or-set_other}
use Rattle.sets.specs.Bit.{is_set, has}
use Rattle.sets.proofs.Counting.{not-both}
use Rattle.sets.proofs.Members.{has-zero}
use Rattle.rule.specs.Demand.{Demand, wants, nth}
use Rattle.assignment.proofs.Reaching.{Hole, Walk, hole-start, enters, gives-way, leaves, walk_end, rest_more}
use Rattle.round.specs.Reports.{reports}
use Rattle.round.proofs.Reporting.{report}
use Rattle.assignment.specs.Choice.{Completes}
use Rattle.assignment.specs.Search.{goes_on, Step}
use Rattle.assignment.specs.Turn.{Turn, Way}
use Rattle.assignment.proofs.Places.{Goes, goes-cases, goes-once}

-- the demands, as the code has them
pub demands_are : {w who x : List ℕ} {above opens later k n : ℕ} (t : Turn w who x above opens later k n) (b p : ℕ) → b < n → wants (nth (reports n t.sets t.nulls) b) p ≡ is_set (get_or w b 0) p
demands_are {n = n} t b p l =
    ap (λ (d : Demand). wants d p) (report n t.sets t.nulls b l)
    ∙ ap (λ (j : ℕ). wants (record { null = has t.nulls j; items = get_or t.sets b 0 }) p) (sym (add-one b))
    ∙ sym (t.demands.by_bidder b p (omega (arith, l, t.most)))

module _ {x₀ next entered : List ℕ} {spare a i k : ℕ} (s : Way x₀ next entered spare a i k) where
  abbrev pub D : ℕ → ℕ → Bool
  D b = wants (nth (reports s.n s.turn.sets s.turn.nulls) b)

  abbrev Holed : ℕ → List ℕ → Type 0
  Holed e x = Hole 32 s.n D (has s.above) s.turn.ys a e (λ b. get_or x b 0)

  abbrev pub Walks : ℕ → ℕ → List ℕ → Type 0
  Walks p e x = Walk 32 s.n D (has s.above) s.turn.ys a p e (λ b. get_or x b 0)

  abbrev pub time : ℕ → ℕ
  time p = get_or entered p 0

  -- the way has come to p; b ≡ e is the last that has moved
  pub record Walking (p : ℕ) (x : List ℕ) : Type 0 where
    pub long : length x ≡ 64
    pub e : ℕ
    pub walks : Walks p e x
    pub mine : get_or x k 0 ≡ i
    pub seen : is_set s.seen p ≡ true
    pub still : goes_on spare p ≡ p
    pub moved : (e ≡ k) ⊎ (time p < time (get_or x₀ e 0))
    pub stays : (b : ℕ) → k < b → b < s.n → time (get_or x₀ b 0) ≤ time p → get_or x b 0 ≡ get_or x₀ b 0
    pub fresh : time 0 < time p → (f : ℕ) → 0 < f → is_set spare f ≡ true → (b : ℕ) → k ≤ b → b < s.n → get_or x b 0 ≡ f → ⊥

  from : (b : ℕ) → k ≤ b → length s.turn.ys ≤ b
  from b l = omega (arith, s.turn.count)

  to : (b : ℕ) → length s.turn.ys ≤ b → k ≤ b
  to b l = omega (arith, s.turn.count)

  k64 : k < 64
  k64 = omega (arith, s.turn.more, s.turn.most)

  demanded : (b q : ℕ) → b < s.n → is_set (get_or s.w b 0) q ≡ true → D b q ≡ true
  demanded b q l e = demands_are s.turn b q l ∙ e

  -- a spare item is nobody's
  unheld : (f : ℕ) → 0 < f → is_set spare f ≡ true → (b : ℕ) → k ≤ b → b < s.n → get_or x₀ b 0 ≡ f → ⊥
  unheld f pos o b lo l = (s.sorted.spare_use f (s.seated.spares f o).0 pos o).1 b (from b lo) l

  not_a : (f : ℕ) → 0 < f → is_set spare f ≡ true → f ≡ a → ⊥
  not_a f pos o q = unheld f pos o k (omega arith) s.turn.more (s.had ∙ sym q)

  pub seen-small : (p : ℕ) → is_set s.seen p ≡ true → p < 33
  seen-small p o = (s.tree.opened p o).0

  -- e has entered q, and the way goes on from there
  arrive : (q e : ℕ) (x : List ℕ) → Holed e x → get_or x e 0 ≡ q → (is_set spare q ≡ true → 0 < q → (b : ℕ) → k ≤ b → b < s.n → (b ≡ e → ⊥) → get_or x b 0 ≡ q → ⊥) → Walks (goes_on spare q) e x
  arrive q e x h at alone = go (goes-cases spare q)
    where
      go : Goes spare q → Walks (goes_on spare q) e x
      go (inr v) = record { hole = h; stands = inl (at ∙ sym v.1) }
      go (inl v) =
          record {
            hole = h;
            stands = inr (
              ap (has s.above) v.1 ∙ has-zero s.above,
              (λ b lo l ne pos c. alone v.0 (omega (arith, at)) b (to b lo) l ne (c ∙ at)),
              λ pos c. not_a q (omega (arith, at)) v.0 (sym at ∙ c),
            );
          }

  -- bidder k takes i
  pub walk_start : (x : List ℕ) → x ≡ set x₀ k i → Walking (goes_on spare i) x
  walk_start x ex =
      record {
        long = long;
        e = k;
        walks = arrive i k x hole mine (λ o pos b lo l ne c. unheld i pos o b lo l (sym (other b ne) ∙ c));
        mine = mine;
        seen = s.tree.pooled i s.reached;
        still = goes-once spare i;
        moved = inl refl;
        stays = λ b kb l t. other b (λ q. omega arith);
        fresh = fresh;
      }
    where
      long : length x ≡ 64
      long = ap length ex ∙ length-set x₀ k i ∙ s.turn.size

      mine : get_or x k 0 ≡ i
      mine = ap (λ (z : List ℕ). get_or z k 0) ex ∙ get_or-set_same x₀ k i 0 (omega (arith, s.turn.size, k64))

      other : (b : ℕ) → (b ≡ k → ⊥) → get_or x b 0 ≡ get_or x₀ b 0
      other b ne = ap (λ (z : List ℕ). get_or z b 0) ex ∙ get_or-set_other x₀ k b i 0 ne

      hole₀ : Holed k x₀
      hole₀ =
          subst (λ (c : ℕ). Hole 32 s.n D (has s.above) s.turn.ys c k (λ b. get_or x₀ b 0)) s.had
          (subst (λ (c : ℕ). Hole 32 s.n D (has s.above) s.turn.ys (get_or x₀ c 0) c (λ b. get_or x₀ b 0)) s.turn.count
          (hole-start s.turn.completes (omega (arith, s.turn.count, s.turn.more))))

      hole : Holed k x
      hole =
          enters hole₀ i (seen-small i s.reached) (demanded k i s.turn.more s.wanted)
          (s.sorted.open_use i (seen-small i s.reached) (s.tree.opened i s.reached).1) (λ b. get_or x b 0) mine other

      fresh : time 0 < time (goes_on spare i) → (f : ℕ) → 0 < f → is_set spare f ≡ true → (b : ℕ) → k ≤ b → b < s.n → get_or x b 0 ≡ f → ⊥
      fresh t f pos o b lo l c = go (goes-cases spare i) (ℕ_discrete b k)
        where
          go : Goes spare i → Dec (b ≡ k) → ⊥
          go (inl v) q = let z = ap time v.1 in omega arith
          go (inr v) (yes q) = not-both (is_set spare f) o (ap (is_set spare) (sym c ∙ ap (λ (j : ℕ). get_or x j 0) q ∙ mine) ∙ v.0)
          go (inr v) (no ne) = unheld f pos o b lo l (sym (other b ne) ∙ c)

  -- what the tree says at p
  module _ {p : ℕ} {x : List ℕ} (g : Walking p x) (pa : p ≡ a → ⊥) where
    q : ℕ
    q = get_or next p 0

    here : (is_set s.seen q ≡ true) × (time (goes_on spare q) < time p) × Step s.w x₀ s.unpriced k s.n p q (time p)
    unfolding q
    here = s.tree.steps p g.seen g.still pa

    -- the step that is taken: nobody moves, or bidder b
    abbrev Taken : Type 0
    Taken = ((time p % 128 ≡ 0) × (p ≡ 0) × (is_set s.unpriced q ≡ true)) ⊎ ((b : ℕ) × (time p % 128 ≡ suc b) × (k < b) × (b < s.n) × (get_or x₀ b 0 ≡ p) × (is_set (get_or s.w b 0) q ≡ true))

    pub next_small : get_or next p 0 < 33
    unfolding q
    next_small = seen-small q here.0

    pub time-falls : get_or entered (goes_on spare (get_or next p 0)) 0 < get_or entered p 0
    unfolding q
    time-falls = here.1

    pub mover-small : get_or entered p 0 % 128 ≤ 64
    unfolding q Step
    mover-small = go here.2
      where
        go : Taken → time p % 128 ≤ 64
        go (inl v) = omega (arith, v.0)
        go (inr v) = omega (arith, v.1, v.3, s.turn.most)

    -- nobody moves
    walk_none : p ≡ 0 → is_set s.unpriced q ≡ true → Walking (goes_on spare q) x
    walk_none p0 z = go (goes-cases spare q)
      where
        later : goes_on spare q ≡ 0 → ⊥
        later e = let f = here.1 in let t = ap time e in let u = ap time p0 in omega arith

        go : Goes spare q → Walking (goes_on spare q) x
        go (inl v) = absurd (later v.1)
        go (inr v) =
            record {
              long = g.long;
              e = g.e;
              walks = subst (λ (c : ℕ). Walks c g.e x) (sym v.1)
                  (leaves (subst (λ (c : ℕ). Walks c g.e x) p0 g.walks) q
                  (s.sorted.zero_use q (seen-small q here.0) z).1);
              mine = g.mine;
              seen = s.tree.pooled q here.0;
              still = goes-once spare q;
              moved = moved g.moved;
              stays = λ b kb l t. let f = here.1 in g.stays b kb l (omega arith);
              fresh = λ t. let f = here.1 in let u = ap time p0 in absurd (let no : ⊥ = omega arith in no);
            }
          where
            moved : (g.e ≡ k) ⊎ (time p < time (get_or x₀ g.e 0)) → (g.e ≡ k) ⊎ (time (goes_on spare q) < time (get_or x₀ g.e 0))
            moved (inl h) = inl h
            moved (inr h) = let f = here.1 in inr (omega arith)

    -- bidder b moves
    walk-move : (b : ℕ) → k < b → b < s.n → get_or x₀ b 0 ≡ p → is_set (get_or s.w b 0) q ≡ true → (y : List ℕ) → y ≡ set x b q → Walking (goes_on spare q) y
    walk-move b kb bn at dq y ey =
        record {
          long = ap length ey ∙ length-set x b q ∙ g.long;
          e = b;
          walks = arrive q b y hole mine alone;
          mine = other k (λ c. omega arith) ∙ g.mine;
          seen = s.tree.pooled q here.0;
          still = goes-once spare q;
          moved = inr (let f = here.1 in let t = ap time at in omega arith);
          stays = stays;
          fresh = fresh;
        }
      where
        mine : get_or y b 0 ≡ q
        mine = ap (λ (z : List ℕ). get_or z b 0) ey ∙ get_or-set_same x b q 0 (omega (arith, bn, g.long, s.turn.most))

        other : (c : ℕ) → (c ≡ b → ⊥) → get_or y c 0 ≡ get_or x c 0
        other c ne = ap (λ (z : List ℕ). get_or z c 0) ey ∙ get_or-set_other x b c q 0 ne

        has_p : get_or x b 0 ≡ p
        has_p = let t = ap time at in g.stays b kb bn (omega arith) ∙ at

        not-e : b ≡ g.e → ⊥
        not-e c = go g.moved
          where
            go : (g.e ≡ k) ⊎ (time p < time (get_or x₀ g.e 0)) → ⊥
            go (inl h) = omega arith
            go (inr h) = let t = ap time (sym (ap (λ (j : ℕ). get_or x₀ j 0) c) ∙ at) in omega arith

        hole : Holed b y
        hole =
            enters
            (gives-way g.walks pa b (from b (omega arith)) bn not-e has_p)
            q (seen-small q here.0) (demanded b q bn dq) (s.sorted.open_use q (seen-small q here.0) (s.tree.opened q here.0).1) (λ c. get_or y c 0) mine other

        alone : is_set spare q ≡ true → 0 < q → (c : ℕ) → k ≤ c → c < s.n → (c ≡ b → ⊥) → get_or y c 0 ≡ q → ⊥
        alone o pos c lo l ne h = go (goes-cases spare q)
          where
            go : Goes spare q → ⊥
            go (inl v) = let f = here.1 in let t = ap time v.1 in g.fresh (omega arith) q pos o c lo l (sym (other c ne) ∙ h)
            go (inr v) = not-both (is_set spare q) o v.0

        stays : (c : ℕ) → k < c → c < s.n → time (get_or x₀ c 0) ≤ time (goes_on spare q) → get_or y c 0 ≡ get_or x₀ c 0
        stays c kc l t =
            let f = here.1 in
            other c (λ e. let u = ap time (ap (λ (j : ℕ). get_or x₀ j 0) e ∙ at) in omega arith) ∙ g.stays c kc l (omega arith)

        fresh : time 0 < time (goes_on spare q) → (f : ℕ) → 0 < f → is_set spare f ≡ true → (c : ℕ) → k ≤ c → c < s.n → get_or y c 0 ≡ f → ⊥
        fresh t f pos o c lo l h = go (goes-cases spare q) (ℕ_discrete c b)
          where
            go : Goes spare q → Dec (c ≡ b) → ⊥
            go (inl v) r = let z = ap time v.1 in omega arith
            go (inr v) (yes r) = not-both (is_set spare f) o (ap (is_set spare) (sym h ∙ ap (λ (j : ℕ). get_or y j 0) r ∙ mine) ∙ v.0)
            go (inr v) (no ne) = let u = here.1 in g.fresh (omega arith) f pos o c lo l (sym (other c ne) ∙ h)

    -- the code's step: the bidder that the time tells
    pub walk-next : (y : List ℕ) → (get_or entered p 0 % 128 ≡ 0 → y ≡ x) → (0 < get_or entered p 0 % 128 → y ≡ set x (get_or entered p 0 % 128 - 1) (get_or next p 0)) → Walking (goes_on spare (get_or next p 0)) y
    unfolding q Step
    walk-next y none some = go here.2
      where
        go : Taken → Walking (goes_on spare q) y
        go (inl v) = subst (λ (z : List ℕ). Walking (goes_on spare q) z) (sym (none v.0)) (walk_none v.1 v.2)
        go (inr v) =
            let one : time p % 128 - 1 ≡ v.0 = omega (arith, v.1) in
            walk-move v.0 v.2 v.3 v.4 v.5 y (some (omega (arith, v.1)) ∙ ap (λ (b : ℕ). set x b q) one)

    -- where b is the time, and v the place, that are noted at p
    pub walk-on : (b v : ℕ) → b ≡ get_or entered p 0 → v ≡ get_or next p 0 → (y : List ℕ) → (b % 128 ≡ 0 → y ≡ x) → (0 < b % 128 → y ≡ set x (b % 128 - 1) v) → Walking (goes_on spare v) y
    walk-on b v eb ev y =
        subst (λ (o : ℕ). (b % 128 ≡ 0 → y ≡ x) → (0 < b % 128 → y ≡ set x (b % 128 - 1) o) → Walking (goes_on spare o) y) (sym ev)
        (subst (λ (t : ℕ). (t % 128 ≡ 0 → y ≡ x) → (0 < t % 128 → y ≡ set x (t % 128 - 1) (get_or next p 0)) → Walking (goes_on spare (get_or next p 0)) y) (sym eb) (walk-next y))

  -- the way ends at a
  pub walk-done : (x : List ℕ) → Walking a x → Completes s.n s.turn.sets s.turn.nulls s.above (s.turn.ys ++ (i ∷ [])) x
  walk-done x g =
      rest_more (walk_end g.walks)
      (omega (arith, s.turn.count, s.turn.more)) i (ap (λ (b : ℕ). get_or x b 0) s.turn.count ∙ g.mine)
