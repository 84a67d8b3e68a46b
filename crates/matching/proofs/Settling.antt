-- Bidders placed one after the other: one more keeps what `Settled` says, whether its chain succeeds or fails. Assumes nothing.
use Prim.Native.Nat.{ℕ, ◌+◌, ◌-◌, ◌≤◌, ◌<◌}
use mathlib.Core.Path.{◌≡◌, refl, sym, ap, ◌∙◌, subst}
use mathlib.Core.Bool.{Bool, true, false, ◌&&◌, not}
use mathlib.Core.List.{List}
use mathlib.Core.Logic.{inl, inr}
use native.Mathlib.Decide.{ℕ_discrete}
use native.Mathlib.Nat.{le_refl}
use native.Mathlib.Omega.{arith}
use lib.Dec.{eqb}
use lib.ListN.{get_or, replicate, length-replicate, get_or-replicate}
use borrow.Author.Tests.{not-true, eq-eqb, ne_eqb}
use Rattle.sets.specs.Bit.{is_set}
use Rattle.sets.specs.Count.{to_nat, any_below}
use Rattle.sets.proofs.Counting.{Least, least, and_left, and_right, and_both, any-use, any-make}
use Rattle.sets.proofs.Members.{is_set-empty}
use Rattle.matching.specs.Demand.{Fair}
use Rattle.matching.specs.Chain as C
use Rattle.matching.specs.Chain.{held, Sub, Within, Stuck, AllStuck, Closed, Won, Failed, Spare, Settled}
use Rattle.matching.proofs.Holdings.{no_both, holds-one, holds-none, holds_same, holder-is, wants-held, held_by}
use Rattle.matching.proofs.Outcomes.{stuck-mono}

-- ---- the first bidder

-- nobody holds anything
abbrev nobody : List ℕ
nobody = replicate 32 0

pub none-settled : (d : List ℕ) → Settled d nobody 0 0
unfolding Fair
none-settled d =
    record {
      kept = record { size = length-replicate {A = ℕ} 32 0; fair = λ i li. inl (free i li) };
      once = λ c. omega (arith, none c);
      later = λ c lc. none c;
      placed = λ c lc. absurd (let n : ⊥ = omega arith in n);
      closed = λ i li h. no_both h (is_set-empty i);
      spare = λ f i li fi sub. no_both (sub i li fi) (is_set-empty i);
    }
  where
    free : (i : ℕ) → i < 32 → get_or nobody i 0 ≡ 0
    free i li = get_or-replicate 32 i 0 0 li

    none : (c : ℕ) → held nobody c ≡ 0
    none c = holds-none nobody c (λ i li q. omega (arith, free i li))

-- ---- a success

pub one_at : (b : ℕ) → to_nat (eqb b b) ≡ 1
one_at b = ap to_nat (eq-eqb b b refl)

pub none-at : (c b : ℕ) → (c ≡ b → ⊥) → to_nat (eqb c b) ≡ 0
none-at c b f = ap to_nat (ne_eqb c b f)

pub settle-won : (d l n : List ℕ) (w b : ℕ) → Settled d l w b → Won d 0 l b n
    → ((i : ℕ) → i < 32 → is_set w i ≡ true → get_or n i 0 ≡ get_or l i 0) → Settled d n w (b + 1)
unfolding Spare Stuck
settle-won d l n w b s v apart =
    record {
      kept = v.kept;
      once = λ c. once c (ℕ_discrete c b);
      later = λ c lc. let z : held l c ≡ 0 = s.later c (omega arith) in omega (arith, v.most c, none-at c b (λ q. omega arith));
      placed = λ c lc f. placed c f (ℕ_discrete c b) lc;
      closed = λ i li h. subst (λ (x : ℕ). (x ≡ 0 → ⊥) × (is_set 0 (x - 1) ≡ false) × Sub (get_or d (x - 1) 0) w) (sym (apart i li h)) (s.closed i li h);
      spare = λ f i li fi sub. let t = s.spare f i li fi sub in
          (t.0, t.1, t.2, t.3, λ k lk fk e. t.4 k lk fk (sym (apart k lk (sub k lk fk)) ∙ e));
    }
  where
    once : (c : ℕ) → Dec (c ≡ b) → held n c ≤ 1
    once c (yes q) =
        let z : held l c ≡ 0 = s.later c (omega arith) in
        omega (arith, v.most c, ap (λ (x : ℕ). to_nat (eqb x b)) q, one_at b)
    once c (no f) = omega (arith, v.most c, none-at c b f, s.once c)

    placed : (c : ℕ) → (Sub (get_or d c 0) w → ⊥) → Dec (c ≡ b) → c < b + 1 → 1 ≤ held n c
    placed c f (yes q) lc = omega (arith, v.least c (is_set-empty c), ap (λ (x : ℕ). to_nat (eqb x b)) q, one_at b)
    placed c f (no g) lc = omega (arith, v.least c (is_set-empty c), s.placed c (omega arith) f)

-- ---- a failure: z is what is entered then. z is the least set that has w and what b wants, and with each item outside w what its holder
-- wants; so nothing of z can be left out, and each part of z has a bidder that wants something there and holds nothing there

module _ (d l : List ℕ) (w b : ℕ) (n : List ℕ) (z : ℕ) (lb : b < 64) (s : Settled d l w b)
    (v : Failed d 0 l w (get_or d b 0) n z) (more : Sub w z) where
  abbrev set : ℕ → ℕ
  set c = get_or d c 0

  -- f lies in z, and not in w
  module _ (f : ℕ → Bool) (i : ℕ) (li : i < 32) (fi : f i ≡ true) (sub : (k : ℕ) → k < 32 → f k ≡ true → is_set z k ≡ true)
      (new : (k : ℕ) → k < 32 → f k && is_set w k ≡ false) where
    -- the bidder at place c wants k, an item of f
    abbrev meeting : ℕ → ℕ → Bool
    meeting c k = is_set (set c) k && f k

    -- j lies in z, not in w and not in f, and its holder wants something in f
    abbrev reached : ℕ → Bool
    reached j = (is_set z j && not (is_set w j)) && (not (f j) && any_below 32 (meeting (get_or l j 0 - 1)))

    abbrev rest : ℕ → Bool
    rest k = is_set z k && not (f k)

    stuck_at : (j : ℕ) → j < 32 → is_set z j ≡ true → is_set w j ≡ false → Stuck d 0 l z j
    unfolding AllStuck
    stuck_at j lj h n = elim (v.stuck j lj h) [ inl q ↦ no_both q n | inr q ↦ q ]

    -- the new bidder wants something in f
    by-self : Least 32 (meeting b) → Spare d l z f
    unfolding Spare
    by-self q =
        let k = q.at in (
          b,
          lb,
          v.wants,
          (k, q.small, and_left (is_set (set b) k) (f k) q.here, and_right (is_set (set b) k) (f k) q.here),
          λ k lk fk e. absurd (omega (arith, holds-one l b k lk e, s.later b (le_refl b))),
        )

    -- the holder of an item that was entered wants something in f
    by-holder : Least 32 reached → Spare d l z f
    unfolding Spare Stuck
    by-holder q =
        let j = q.at in
        let lj = q.small in
        let first = and_left (is_set z j && not (is_set w j)) (not (f j) && any_below 32 (meeting (get_or l j 0 - 1))) q.here in
        let second = and_right (is_set z j && not (is_set w j)) (not (f j) && any_below 32 (meeting (get_or l j 0 - 1))) q.here in
        let out : f j ≡ false = not-true (f j) (and_left (not (f j)) (any_below 32 (meeting (get_or l j 0 - 1))) second) in
        let some = any-use 32 (meeting (get_or l j 0 - 1)) (and_right (not (f j)) (any_below 32 (meeting (get_or l j 0 - 1))) second) in
        let at = stuck_at j lj (and_left (is_set z j) (not (is_set w j)) first) (not-true (is_set w j) (and_right (is_set z j) (not (is_set w j)) first)) in
        let who = holder-is d l j s.kept lj at.0 in (
          get_or l j 0 - 1,
          who.0,
          at.2,
          (
            some.0,
            some.1,
            and_left (is_set (set (get_or l j 0 - 1)) some.0) (f some.0) some.2,
            and_right (is_set (set (get_or l j 0 - 1)) some.0) (f some.0) some.2,
          ),
          λ k lk fk e.
              let same : k ≡ j = holds_same l (get_or l j 0 - 1) k j (s.once (get_or l j 0 - 1)) lk lj e who.1 in
              no_both (sym (ap f same) ∙ fk) out,
        )

    -- there is no third case: else the rest of z would be closed
    neither : ((k : ℕ) → k < 32 → meeting b k ≡ false) → ((j : ℕ) → j < 32 → reached j ≡ false) → Spare d l z f
    unfolding Within Closed C.Least Sub Stuck
    neither p q =
        no_both fi (not-true (f i)
        (and_right (is_set z i) (not (f i)) (v.least rest
        (λ k lk h. and_both (is_set z k) (not (f k)) (more k lk h) (ap not (off (f k) (is_set w k) (new k lk) h)))
        (λ k lk h. and_both (is_set z k) (not (f k)) (v.wants k lk h) (ap not (off' (is_set (set b) k) (f k) (p k lk) h)))
        (λ j lj h n ne k lk g.
        let hz = and_left (is_set z j) (not (f j)) h in
        let at = stuck_at j lj hz n in
        let none : meeting (get_or l j 0 - 1) k ≡ false =
        unmet j (and_both (is_set z j) (not (is_set w j)) hz (ap not n)) (and_right (is_set z j) (not (f j)) h) (q j lj) k lk in
        and_both (is_set z k) (not (f k)) (at.2 k lk g) (ap not (off' (is_set (set (get_or l j 0 - 1)) k) (f k) none g)))
        i li (sub i li fi))))
      where
        off : (a b : Bool) → a && b ≡ false → b ≡ true → a ≡ false
        off true b e h = sym h ∙ e
        off false b e h = refl

        off' : (a b : Bool) → a && b ≡ false → a ≡ true → b ≡ false
        off' true b e h = e
        off' false b e h = no_both h refl

        unmet : (j : ℕ) → is_set z j && not (is_set w j) ≡ true → not (f j) ≡ true → reached j ≡ false
            → (k : ℕ) → k < 32 → meeting (get_or l j 0 - 1) k ≡ false
        unmet j x y e k lk = go (meeting (get_or l j 0 - 1) k) refl
          where
            go : (c : Bool) → meeting (get_or l j 0 - 1) k ≡ c → c ≡ false
            go false g = refl
            go true g =
                no_both
                (and_both (is_set z j && not (is_set w j)) (not (f j) && any_below 32 (meeting (get_or l j 0 - 1))) x
                (and_both (not (f j)) (any_below 32 (meeting (get_or l j 0 - 1))) y (any-make 32 (meeting (get_or l j 0 - 1)) k lk g)))
                e

    spare-new : Spare d l z f
    spare-new =
        elim (least 32 (meeting b)) [
          | inl q ↦ by-self q
          | inr p ↦ elim (least 32 reached) [ inl q ↦ by-holder q | inr q ↦ neither p q ]
        ]

  -- f meets w
  spare-old : (f : ℕ → Bool) → Least 32 (λ k. f k && is_set w k) → Spare d l z f
  unfolding Spare Sub
  spare-old f q =
      let g : ℕ → Bool = λ k. f k && is_set w k in
      let t = s.spare g q.at q.small q.here (λ k lk h. and_right (f k) (is_set w k) h) in (
        t.0,
        t.1,
        (λ k lk h. more k lk (t.2 k lk h)),
        (t.3.0, t.3.1, t.3.2, and_left (f t.3.0) (is_set w t.3.0) t.3.3),
        λ k lk fk e. t.4 k lk (and_both (f k) (is_set w k) fk (t.2 k lk (wants-held d (held_by l) k t.0 (s.kept.fair k lk) e))) e,
      )

  spare-all : (f : ℕ → Bool) (i : ℕ) → i < 32 → f i ≡ true → ((k : ℕ) → k < 32 → f k ≡ true → is_set z k ≡ true) → Spare d l z f
  spare-all f i li fi sub = elim (least 32 (λ k. f k && is_set w k)) [ inl q ↦ spare-old f q | inr n ↦ spare-new f i li fi sub n ]

  closed_all : (i : ℕ) → i < 32 → is_set z i ≡ true → Stuck d 0 l z i
  unfolding AllStuck
  closed_all i li h = elim (v.stuck i li h) [ inl q ↦ stuck-mono d 0 l w z i more (s.closed i li q) | inr q ↦ q ]

  settled_here : Settled d l z (b + 1)
  unfolding Sub
  settled_here =
      record {
        kept = s.kept;
        once = s.once;
        later = λ c lc. s.later c (omega arith);
        placed = λ c lc f. placed c lc f (ℕ_discrete c b);
        closed = closed_all;
        spare = spare-all;
      }
    where
      placed : (c : ℕ) → c < b + 1 → (Sub (get_or d c 0) z → ⊥) → Dec (c ≡ b) → 1 ≤ held l c
      placed c lc f (yes q) = absurd (f (subst (λ (x : ℕ). Sub (get_or d x 0) z) (sym q) v.wants))
      placed c lc f (no g) = s.placed c (omega arith) (λ h. f (λ k lk i. more k lk (h k lk i)))

  pub settle-failed : Settled d n z (b + 1)
  settle-failed = subst (λ (x : List ℕ). Settled d x z (b + 1)) (sym v.still) settled_here
