-- The next bidder's options from one completion. x completes ys, and the next bidder, at place length ys, has a. Item i can be had instead exactly
-- where a is reachable from i, if a later bidder moves from what they have to what they demand, and if null, or an item that nobody has, takes one
-- more while null, or an item at its floor, is left. THEORY.md 3.2. Assumes nothing.
use Prim.Native.Nat.{ℕ, zero, suc, ◌≤◌, ◌<◌}
use mathlib.Core.Path.{◌≡◌, refl, sym, ap, ◌∙◌}
use mathlib.Core.Bool.{Bool, true, false, ◌&&◌, not}
use mathlib.Core.List.{List, [], ◌∷◌, ◌++◌}
use mathlib.Core.Logic.{◌⊎◌, inl, inr}
use native.Mathlib.Omega.{arith}
use native.Mathlib.Nat.{lt_irrefl}
use native.Mathlib.Decide.{ℕ_discrete}
use lib.Dec.{eqb, ltb, leb}
use lib.ListN.{length}
use borrow.Author.Tests.{eqb-true, eq-eqb, ltb-true, lt-ltb, leb-true, le-leb}
use Rattle.sets.specs.Count.{count}
use Rattle.sets.proofs.Counting.{Least, least, and_left, and_right, and_both, not-both, not_is, is_false, pigeonhole-strict}
use Rattle.rule.specs.Assignment.{option}
use Rattle.rule.specs.Completion.{Rest}
use Rattle.assignment.specs.Search.{Open, Sorted}
use Rattle.rule.proofs.Completion.{option-low, option-at, snoc-length, Snoc, snoc-split}

-- ---- the pigeonhole: of the bidders after k, somebody has each item of s in u, and in v something of s but j, no two the same

module _ (m n k : ℕ) (s : ℕ → Bool) (u v : ℕ → ℕ) where
  test : ℕ → ℕ → Bool
  test i b = ltb k b && eqb (u b) i

  who : (i : ℕ) → Least n (test i) ⊎ ((b : ℕ) → b < n → test i b ≡ false) → ℕ
  who i (inl w) = w.at
  who i (inr none) = 0

  who-is : (i b : ℕ) → k < b → b < n → u b ≡ i → (w : Least n (test i) ⊎ ((b : ℕ) → b < n → test i b ≡ false)) → (k < who i w) × (who i w < n) × (u (who i w) ≡ i)
  unfolding who test
  who-is i b lo l e (inl w) = (ltb-true k w.at (and_left (ltb k w.at) (eqb (u w.at) i) w.here), w.small, eqb-true (u w.at) i (and_right (ltb k w.at) (eqb (u w.at) i) w.here))
  who-is i b lo l e (inr none) = absurd (not-both (ltb k b && eqb (u b) i) (and_both (ltb k b) (eqb (u b) i) (lt-ltb k b lo) (eq-eqb (u b) i e)) (none b l))

  crowded : (j : ℕ) → j < suc m → s j ≡ true → ((i : ℕ) → i < suc m → s i ≡ true → (b : ℕ) × (k < b) × (b < n) × (u b ≡ i))
      → ((b : ℕ) → k < b → b < n → s (u b) ≡ true → (v b < suc m) × (s (v b) ≡ true) × (v b ≡ j → ⊥))
      → ((b c : ℕ) → k < b → b < n → k < c → c < n → s (v b) ≡ true → v b ≡ v c → b ≡ c) → ⊥
  crowded j lj sj held goes once =
      lt_irrefl (count (suc m) s) (pigeonhole-strict (suc m) (suc m) s s (λ i. v (at i)) j lj sj (λ i l e. (step i l e).2)
      (record { lands = λ i l e. (step i l e).0; hits = λ i l e. (step i l e).1; apart = apart }))
    where
      at : ℕ → ℕ
      at i = who i (least n (test i))

      at-is : (i : ℕ) → i < suc m → s i ≡ true → (k < at i) × (at i < n) × (u (at i) ≡ i)
      at-is i l e = let w = held i l e in who-is i w.0 w.1 w.2 w.3 (least n (test i))

      step : (i : ℕ) → i < suc m → s i ≡ true → (v (at i) < suc m) × (s (v (at i)) ≡ true) × (v (at i) ≡ j → ⊥)
      step i l e = let w = at-is i l e in goes (at i) w.0 w.1 (ap s w.2 ∙ e)

      apart : (i l : ℕ) → i < suc m → l < suc m → s i ≡ true → s l ≡ true → v (at i) ≡ v (at l) → i ≡ l
      apart i l li ll ei el q =
          let a = at-is i li ei in
          let b = at-is l ll el in
          sym a.2 ∙ ap u (once (at i) (at l) a.0 a.1 b.0 b.1 (step i li ei).1 q) ∙ b.2

-- ---- who has item i: a bidder of ys, one of the others, one of these but e, one after the next bidder

abbrev pub ByFirst : List ℕ → ℕ → Type 0
ByFirst ys i = (c : ℕ) × (c < length ys) × (option ys c ≡ i)

abbrev pub ByRest : ℕ → List ℕ → (ℕ → ℕ) → ℕ → Type 0
ByRest n ys x i = (b : ℕ) × (length ys ≤ b) × (b < n) × (x b ≡ i)

abbrev pub ByOther : ℕ → List ℕ → ℕ → (ℕ → ℕ) → ℕ → Type 0
ByOther n ys e x i = (b : ℕ) × (length ys ≤ b) × (b < n) × (b ≡ e → ⊥) × (x b ≡ i)

abbrev ByLater : ℕ → List ℕ → (ℕ → ℕ) → ℕ → Type 0
ByLater n ys x i = (b : ℕ) × (length ys < b) × (b < n) × (x b ≡ i)

-- with each place of s, those from which it is entered
pub record Closed (m n : ℕ) (d : ℕ → ℕ → Bool) (ys : List ℕ) (x : ℕ → ℕ) (zeros spares s : ℕ → Bool) : Type 0 where
  pub moves : (b q : ℕ) → length ys < b → b < n → q < suc m → d b q ≡ true → s q ≡ true → s (x b) ≡ true
  pub frees : (q f : ℕ) → q < suc m → f < suc m → zeros q ≡ true → s q ≡ true → spares f ≡ true → s f ≡ true

module _ (m n : ℕ) (d : ℕ → ℕ → Bool) (above : ℕ → Bool) (ys : List ℕ) where
  -- bidder e looks for another place, the others are placed without a, which is the one item of `above` that may be missing
  pub record Hole (a e : ℕ) (x : ℕ → ℕ) : Type 0 where
    pub first : length ys ≤ e
    pub last : e < n
    pub small : (b : ℕ) → length ys ≤ b → b < n → x b < suc m
    pub wanted : (b : ℕ) → length ys ≤ b → b < n → d b (x b) ≡ true
    pub left : (b c : ℕ) → length ys ≤ b → b < n → c < length ys → 0 < x b → option ys c ≡ x b → ⊥
    pub once : (b c : ℕ) → length ys ≤ b → b < n → length ys ≤ c → c < n → (b ≡ e → ⊥) → (c ≡ e → ⊥) → 0 < x b → x b ≡ x c → b ≡ c
    pub empty : (b : ℕ) → length ys ≤ b → b < n → (b ≡ e → ⊥) → 0 < a → x b ≡ a → ⊥
    pub covers : (i : ℕ) → i < suc m → above i ≡ true
        → (i ≡ a) ⊎ ByFirst ys i ⊎ ByOther n ys e x i

  -- e has what nobody else has, or null, and p may be left
  abbrev pub Placed : ℕ → ℕ → ℕ → (ℕ → ℕ) → Type 0
  Placed a p e x = (above p ≡ false) × ((b : ℕ) → length ys ≤ b → b < n → (b ≡ e → ⊥) → 0 < x e → x b ≡ x e → ⊥) × (0 < x e → x e ≡ a → ⊥)

  -- the way has come to place p: e has entered it, or is placed elsewhere and p may be left
  pub record Walk (a p e : ℕ) (x : ℕ → ℕ) : Type 0 where
    pub hole : Hole a e x
    pub stands : (x e ≡ p) ⊎ Placed a p e x

module _ {m n : ℕ} {d : ℕ → ℕ → Bool} {above : ℕ → Bool} {ys : List ℕ} where
  -- one bidder more, who has i
  pub rest_more : {x : ℕ → ℕ} → Rest m n d above ys x → length ys < n → (i : ℕ) → x (length ys) ≡ i → Rest m n d above (ys ++ (i ∷ [])) x
  rest_more {x} r ln i at =
      record {
        small = λ b lo l. r.small b (later b lo) l;
        wanted = λ b lo l. r.wanted b (later b lo) l;
        once = λ b c lb l lc k. r.once b c (later b lb) l (later c lc) k;
        left = λ b c lb l lc pos e. left b c lb l pos e (snoc-split ys i c lc);
        covers = λ j l u. covers j (r.covers j l u);
      }
    where
      later : (b : ℕ) → length (ys ++ (i ∷ [])) ≤ b → length ys ≤ b
      later b lo = omega (arith, snoc-length ys i)

      left : (b c : ℕ) → length (ys ++ (i ∷ [])) ≤ b → b < n → 0 < x b → option (ys ++ (i ∷ [])) c ≡ x b → Snoc ys i c → ⊥
      left b c lb l pos e (inl v) = r.left b c (later b lb) l v.0 pos (sym v.1 ∙ e)
      left b c lb l pos e (inr v) =
          let same = r.once b (length ys) (later b lb) l (omega arith) ln pos (sym e ∙ v.1 ∙ sym at) in
          omega (arith, lb, same, snoc-length ys i)

      covers : (j : ℕ) → ByFirst ys j ⊎ ByRest n ys x j
          → ByFirst (ys ++ (i ∷ [])) j ⊎ ByRest n (ys ++ (i ∷ [])) x j
      covers j (inl w) = inl (w.0, omega (arith, w.1, snoc-length ys i), option-low ys (i ∷ []) w.0 w.1 ∙ w.2)
      covers j (inr w) = go (ℕ_discrete w.0 (length ys))
        where
          go : Dec (w.0 ≡ length ys) → ByFirst (ys ++ (i ∷ [])) j ⊎ ByRest n (ys ++ (i ∷ [])) x j
          go (yes e) = inl (length ys, omega (arith, snoc-length ys i), option-at ys [] i ∙ sym at ∙ ap x (sym e) ∙ w.3)
          go (no ne) = inr (w.0, omega (arith, w.1, ne, snoc-length ys i), w.2, w.3)

  -- ---- nothing else: a set of places that has a, and with each place those from which it is entered, has every item that can be had

  module _ {x y : ℕ → ℕ} {opens zeros spares s : ℕ → Bool} (null-out : above 0 ≡ false) (rest : Rest m n d above ys x) (ln : length ys < n) (sorted : Sorted m n above ys x opens zeros spares)
      (closed : Closed m n d ys x zeros spares s) (root : s (x (length ys)) ≡ true) (i : ℕ) (li : i < suc m) (pos : 0 < i) (oi : opens i ≡ true) (si : s i ≡ false)
      (other : Rest m n d above (ys ++ (i ∷ [])) y) where
    after : (b : ℕ) → length ys < b → length (ys ++ (i ∷ [])) ≤ b
    after b lo = omega (arith, snoc-length ys i)

    opens-x : (b : ℕ) → length ys ≤ b → b < n → opens (x b) ≡ true
    opens-x b lo l = sorted.open_make (x b) (rest.small b lo l) (λ c lc p e. rest.left b c lo l lc p e)

    y-small : (b : ℕ) → length ys < b → b < n → y b < suc m
    y-small b lo l = other.small b (after b lo) l

    opens-y : (b : ℕ) → length ys < b → b < n → opens (y b) ≡ true
    opens-y b lo l = sorted.open_make (y b) (y-small b lo l) (λ c lc p e. other.left b c (after b lo) l (omega (arith, lc, snoc-length ys i)) p (option-low ys (i ∷ []) c lc ∙ e))

    -- nobody else has i
    y-other : (b : ℕ) → length ys < b → b < n → y b ≡ i → ⊥
    y-other b lo l e = other.left b (length ys) (after b lo) l (omega (arith, snoc-length ys i)) (omega (arith, e)) (option-at ys [] i ∙ sym e)

    y-once : (b c : ℕ) → length ys < b → b < n → length ys < c → c < n → 0 < y b → y b ≡ y c → b ≡ c
    y-once b c lb l lc k = other.once b c (after b lb) l (after c lc) k

    -- every spare place is in s: the items outside s are too few
    outside : ℕ → Bool
    outside p = opens p && not (s p)

    module _ (all : (f : ℕ) → f < suc m → spares f ≡ true → s f ≡ true) where
      out-use : (p : ℕ) → outside p ≡ true → (opens p ≡ true) × (s p ≡ false)
      unfolding outside
      out-use p e = (and_left (opens p) (not (s p)) e, not_is (s p) (and_right (opens p) (not (s p)) e))

      out-make : (p : ℕ) → opens p ≡ true → s p ≡ false → outside p ≡ true
      unfolding outside
      out-make p o e = and_both (opens p) (not (s p)) o (ap not e)

      out-pos : (p : ℕ) → s p ≡ false → 0 < p
      out-pos zero e = absurd (not-both (s 0) (all 0 (omega arith) sorted.spare_null) e)
      out-pos (suc p) e = omega arith

      held : (p : ℕ) → p < suc m → outside p ≡ true → ByLater n ys x p
      held p l e = go (least n (λ b. leb (length ys) b && eqb (x b) p))
        where
          o : (opens p ≡ true) × (s p ≡ false)
          o = out-use p e

          go : Least n (λ b. leb (length ys) b && eqb (x b) p) ⊎ ((b : ℕ) → b < n → leb (length ys) b && eqb (x b) p ≡ false) → ByLater n ys x p
          go (inr none) =
              absurd (not-both (s p) (all p l (sorted.spare_make p l (out-pos p o.1) o.0
              (λ b lo lb q. not-both (leb (length ys) b && eqb (x b) p) (and_both (leb (length ys) b) (eqb (x b) p) (le-leb (length ys) b lo) (eq-eqb (x b) p q)) (none b lb)))) o.1)
          go (inl w) = found w.at w.small (leb-true (length ys) w.at (and_left (leb (length ys) w.at) (eqb (x w.at) p) w.here)) (eqb-true (x w.at) p (and_right (leb (length ys) w.at) (eqb (x w.at) p) w.here))
            where
              found : (b : ℕ) → b < n → length ys ≤ b → x b ≡ p → ByLater n ys x p
              found b lb lo q = later (ℕ_discrete b (length ys))
                where
                  later : Dec (b ≡ length ys) → ByLater n ys x p
                  later (yes same) = absurd (not-both (s p) (sym (ap s (sym (ap x same) ∙ q)) ∙ root) o.1)
                  later (no ne) = (b, omega arith, lb, q)

      goes : (b : ℕ) → length ys < b → b < n → outside (x b) ≡ true → (y b < suc m) × (outside (y b) ≡ true) × (y b ≡ i → ⊥)
      goes b lo l e =
          let off = is_false (s (y b)) (λ h. not-both (s (x b)) (closed.moves b (y b) lo l (y-small b lo l) (other.wanted b (after b lo) l) h) (out-use (x b) e).1) in
          (y-small b lo l, out-make (y b) (opens-y b lo l) off, y-other b lo l)

      few-outside : ⊥
      few-outside =
          crowded m n (length ys) outside x y i li (out-make i oi si) held goes (λ b c lb l lc k e q. y-once b c lb l lc k (out-pos (y b) (out-use (y b) e).1) q)

    -- no place at its floor is in s: the bidders for its items are too few
    inside : ℕ → Bool
    inside p = opens p && s p

    module _ (none : (q : ℕ) → q < suc m → zeros q ≡ true → s q ≡ false) where
      in_use : (p : ℕ) → inside p ≡ true → (opens p ≡ true) × (s p ≡ true)
      unfolding inside
      in_use p e = (and_left (opens p) (s p) e, and_right (opens p) (s p) e)

      in-make : (p : ℕ) → opens p ≡ true → s p ≡ true → inside p ≡ true
      unfolding inside
      in-make p o e = and_both (opens p) (s p) o e

      in_pos : (p : ℕ) → s p ≡ true → 0 < p
      in_pos zero e = absurd (not-both (s 0) e (none 0 (omega arith) (sorted.zero_make 0 (omega arith) (sorted.open_make 0 (omega arith) (λ c lc p q. omega arith)) null-out)))
      in_pos (suc p) e = omega arith

      -- an item of s is above its floor, so somebody has it
      must : (p : ℕ) → p < suc m → inside p ≡ true → above p ≡ true
      must p l e = go (above p) refl
        where
          go : (b : Bool) → above p ≡ b → above p ≡ true
          go true q = q
          go false q = absurd (not-both (s p) (in_use p e).1 (none p l (sorted.zero_make p l (in_use p e).0 q)))

      let-to : (p : ℕ) → p < suc m → inside p ≡ true → ByLater n ys y p
      let-to p l e = go (other.covers p l (must p l e))
        where
          o : (opens p ≡ true) × (s p ≡ true)
          o = in_use p e

          go : ByFirst (ys ++ (i ∷ [])) p ⊎ ByRest n (ys ++ (i ∷ [])) y p → ByLater n ys y p
          go (inr w) = (w.0, omega (arith, w.1, snoc-length ys i), w.2, w.3)
          go (inl w) = had (snoc-split ys i w.0 w.1)
            where
              had : Snoc ys i w.0 → ByLater n ys y p
              had (inl v) = absurd (sorted.open_use p l o.0 w.0 v.0 (in_pos p o.1) (sym v.1 ∙ w.2))
              had (inr v) = absurd (not-both (s i) (ap s (sym v.1 ∙ w.2) ∙ o.1) si)

      comes : (b : ℕ) → length ys < b → b < n → inside (y b) ≡ true → (x b < suc m) × (inside (x b) ≡ true) × (x b ≡ x (length ys) → ⊥)
      comes b lo l e =
          let on = closed.moves b (y b) lo l (y-small b lo l) (other.wanted b (after b lo) l) (in_use (y b) e).1 in (
            rest.small b (omega arith) l,
            in-make (x b) (opens-x b (omega arith) l) on,
            λ q. let same = rest.once b (length ys) (omega arith) l (omega arith) ln (in_pos (x b) on) q in omega (arith, lo, same),
          )

      few-inside : ⊥
      few-inside =
          crowded m n (length ys) inside y x (x (length ys)) (rest.small (length ys) (omega arith) ln) (in-make (x (length ys)) (opens-x (length ys) (omega arith) ln) root) let-to comes
          (λ b c lb l lc k e q. rest.once b c (omega arith) l (omega arith) k (in_pos (x b) (in_use (x b) e).1) q)

    pub blocked : ⊥
    blocked = go (least (suc m) (λ q. zeros q && s q))
      where
        go : Least (suc m) (λ q. zeros q && s q) ⊎ ((q : ℕ) → q < suc m → zeros q && s q ≡ false) → ⊥
        go (inl w) = few-outside (λ f l e. closed.frees w.at f w.small l (and_left (zeros w.at) (s w.at) w.here) (and_right (zeros w.at) (s w.at) w.here) e)
        go (inr none) = few-inside (λ q l z. is_false (s q) (λ h. not-both (zeros q && s q) (and_both (zeros q) (s q) z h) (none q l)))

  -- ---- and these: the bidders move one after the other along the way from i to a

  pub hole-start : {x : ℕ → ℕ} → Rest m n d above ys x → length ys < n → Hole m n d above ys (x (length ys)) (length ys) x
  hole-start {x} r ln =
      record {
        first = omega arith;
        last = ln;
        small = r.small;
        wanted = r.wanted;
        left = r.left;
        once = λ b c lb l lc k nb nc. r.once b c lb l lc k;
        empty = λ b lo l ne pos e. ne (r.once b (length ys) lo l (omega arith) ln (omega (arith, e)) e);
        covers = λ i l u. covers i (r.covers i l u);
      }
    where
      covers : (i : ℕ) → ByFirst ys i ⊎ ByRest n ys x i
          → (i ≡ x (length ys)) ⊎ ByFirst ys i ⊎ ByOther n ys (length ys) x i
      covers i (inl w) = inr (inl w)
      covers i (inr w) = go (ℕ_discrete w.0 (length ys))
        where
          go : Dec (w.0 ≡ length ys) → (i ≡ x (length ys)) ⊎ ByFirst ys i ⊎ ByOther n ys (length ys) x i
          go (yes e) = inl (sym w.3 ∙ ap x e)
          go (no ne) = inr (inr (w.0, w.1, w.2, ne, w.3))

  -- e enters q
  pub enters : {a e : ℕ} {x : ℕ → ℕ} → Hole m n d above ys a e x → (q : ℕ) → q < suc m → d e q ≡ true → Open ys q → (y : ℕ → ℕ) → y e ≡ q → ((b : ℕ) → (b ≡ e → ⊥) → y b ≡ x b) → Hole m n d above ys a e y
  enters {a} {e} {x} h q lq dq oq y same other =
      record {
        first = h.first;
        last = h.last;
        small = λ b lo l. small b lo l (ℕ_discrete b e);
        wanted = λ b lo l. wanted b lo l (ℕ_discrete b e);
        left = λ b c lo l lc pos p. left b c lo l lc pos p (ℕ_discrete b e);
        once = λ b c lb l lc k nb nc pos p. h.once b c lb l lc k nb nc (omega (arith, pos, other b nb)) (sym (other b nb) ∙ p ∙ other c nc);
        empty = λ b lo l nb pos p. h.empty b lo l nb pos (sym (other b nb) ∙ p);
        covers = λ i l u. covers i (h.covers i l u);
      }
    where
      small : (b : ℕ) → length ys ≤ b → b < n → Dec (b ≡ e) → y b < suc m
      small b lo l (yes p) = let at = ap y p ∙ same in omega arith
      small b lo l (no ne) = omega (arith, other b ne, h.small b lo l)

      wanted : (b : ℕ) → length ys ≤ b → b < n → Dec (b ≡ e) → d b (y b) ≡ true
      wanted b lo l (yes p) = ap (λ (c : ℕ). d c (y c)) p ∙ ap (d e) same ∙ dq
      wanted b lo l (no ne) = ap (d b) (other b ne) ∙ h.wanted b lo l

      left : (b c : ℕ) → length ys ≤ b → b < n → c < length ys → 0 < y b → option ys c ≡ y b → Dec (b ≡ e) → ⊥
      left b c lo l lc pos p (yes f) = let at = ap y f ∙ same in oq c lc (omega arith) (p ∙ at)
      left b c lo l lc pos p (no ne) = h.left b c lo l lc (omega (arith, pos, other b ne)) (p ∙ other b ne)

      covers : (i : ℕ) → (i ≡ a) ⊎ ByFirst ys i ⊎ ByOther n ys e x i
          → (i ≡ a) ⊎ ByFirst ys i ⊎ ((b : ℕ) × (length ys ≤ b) × (b < n) × (b ≡ e → ⊥) × (y b ≡ i))
      covers i (inl w) = inl w
      covers i (inr (inl w)) = inr (inl w)
      covers i (inr (inr w)) = inr (inr (w.0, w.1, w.2, w.3, other w.0 w.3 ∙ w.4))

  -- r, who has p, gives way to e
  pub gives-way : {a p e : ℕ} {x : ℕ → ℕ} → Walk m n d above ys a p e x → (p ≡ a → ⊥) → (r : ℕ) → length ys ≤ r → r < n → (r ≡ e → ⊥) → x r ≡ p → Hole m n d above ys a r x
  gives-way {a} {p} {e} {x} w pa r lr rn re at =
      record {
        first = lr;
        last = rn;
        small = w.hole.small;
        wanted = w.hole.wanted;
        left = w.hole.left;
        once = λ b c lb l lc k nb nc pos q. once b c lb l lc k nb nc pos q (ℕ_discrete b e) (ℕ_discrete c e);
        empty = λ b lo l nb pos q. empty b lo l pos q (ℕ_discrete b e) w.stands;
        covers = λ i l u. covers i u (w.hole.covers i l u);
      }
    where
      -- nobody else has what e has
      alone : (c : ℕ) → length ys ≤ c → c < n → (c ≡ r → ⊥) → (c ≡ e → ⊥) → 0 < x e → x c ≡ x e → (x e ≡ p) ⊎ Placed m n d above ys a p e x → ⊥
      alone c lc k nr ne pos q (inl s) = nr (w.hole.once c r lc k lr rn ne re (omega (arith, pos, q)) (q ∙ s ∙ sym at))
      alone c lc k nr ne pos q (inr s) = s.1 c lc k ne pos q

      once : (b c : ℕ) → length ys ≤ b → b < n → length ys ≤ c → c < n → (b ≡ r → ⊥) → (c ≡ r → ⊥) → 0 < x b → x b ≡ x c → Dec (b ≡ e) → Dec (c ≡ e) → b ≡ c
      once b c lb l lc k nb nc pos q (yes f) (yes g) = f ∙ sym g
      once b c lb l lc k nb nc pos q (yes f) (no g) = let be = ap x f in absurd (alone c lc k nc g (omega (arith, pos, be)) (sym q ∙ be) w.stands)
      once b c lb l lc k nb nc pos q (no f) (yes g) = let ce = ap x g in absurd (alone b lb l nb f (omega (arith, pos, q, ce)) (q ∙ ce) w.stands)
      once b c lb l lc k nb nc pos q (no f) (no g) = w.hole.once b c lb l lc k f g pos q

      empty : (b : ℕ) → length ys ≤ b → b < n → 0 < a → x b ≡ a → Dec (b ≡ e) → (x e ≡ p) ⊎ Placed m n d above ys a p e x → ⊥
      empty b lo l pos q (no f) s = w.hole.empty b lo l f pos q
      empty b lo l pos q (yes f) (inl s) = pa (sym s ∙ sym (ap x f) ∙ q)
      empty b lo l pos q (yes f) (inr s) = let be = sym (ap x f) ∙ q in s.2 (omega arith) be

      covers : (i : ℕ) → above i ≡ true → (i ≡ a) ⊎ ByFirst ys i ⊎ ByOther n ys e x i
          → (i ≡ a) ⊎ ByFirst ys i ⊎ ByOther n ys r x i
      covers i u (inl v) = inl v
      covers i u (inr (inl v)) = inr (inl v)
      covers i u (inr (inr v)) = go (ℕ_discrete v.0 r) w.stands
        where
          go : Dec (v.0 ≡ r) → (x e ≡ p) ⊎ Placed m n d above ys a p e x → (i ≡ a) ⊎ ByFirst ys i ⊎ ByOther n ys r x i
          go (no f) s = inr (inr (v.0, v.1, v.2, f, v.4))
          go (yes f) (inl s) = inr (inr (e, w.hole.first, w.hole.last, (λ q. re (sym q)), s ∙ sym at ∙ ap x (sym f) ∙ v.4))
          go (yes f) (inr s) = absurd (not-both (above i) u (ap above (sym v.4 ∙ ap x f ∙ at) ∙ s.0))

  -- from null to a place that may be left
  pub leaves : {a e : ℕ} {x : ℕ → ℕ} → Walk m n d above ys a 0 e x → (z : ℕ) → above z ≡ false → Walk m n d above ys a z e x
  leaves {a} {e} {x} w z off = record { hole = w.hole; stands = inr (go w.stands) }
    where
      go : (x e ≡ 0) ⊎ Placed m n d above ys a 0 e x → Placed m n d above ys a z e x
      go (inl s) = (off, (λ b lo l ne pos q. omega (arith, s, pos)), λ pos q. omega (arith, s, pos))
      go (inr s) = (off, s.1, s.2)

  -- the way ends at a
  pub walk_end : {a e : ℕ} {x : ℕ → ℕ} → Walk m n d above ys a a e x → Rest m n d above ys x
  walk_end {a} {e} {x} w =
      record {
        small = w.hole.small;
        wanted = w.hole.wanted;
        once = λ b c lb l lc k pos q. once b c lb l lc k pos q (ℕ_discrete b e) (ℕ_discrete c e);
        left = w.hole.left;
        covers = λ i l u. covers i u (w.hole.covers i l u) w.stands;
      }
    where
      alone : (c : ℕ) → length ys ≤ c → c < n → (c ≡ e → ⊥) → 0 < x e → x c ≡ x e → (x e ≡ a) ⊎ Placed m n d above ys a a e x → ⊥
      alone c lc k ne pos q (inl s) = w.hole.empty c lc k ne (omega (arith, pos, s)) (q ∙ s)
      alone c lc k ne pos q (inr s) = s.1 c lc k ne pos q

      once : (b c : ℕ) → length ys ≤ b → b < n → length ys ≤ c → c < n → 0 < x b → x b ≡ x c → Dec (b ≡ e) → Dec (c ≡ e) → b ≡ c
      once b c lb l lc k pos q (yes f) (yes g) = f ∙ sym g
      once b c lb l lc k pos q (yes f) (no g) = let be = ap x f in absurd (alone c lc k g (omega (arith, pos, be)) (sym q ∙ be) w.stands)
      once b c lb l lc k pos q (no f) (yes g) = let ce = ap x g in absurd (alone b lb l f (omega (arith, pos, q, ce)) (q ∙ ce) w.stands)
      once b c lb l lc k pos q (no f) (no g) = w.hole.once b c lb l lc k f g pos q

      covers : (i : ℕ) → above i ≡ true → (i ≡ a) ⊎ ByFirst ys i ⊎ ByOther n ys e x i
          → (x e ≡ a) ⊎ Placed m n d above ys a a e x → ByFirst ys i ⊎ ByRest n ys x i
      covers i u (inl v) (inl s) = inr (e, w.hole.first, w.hole.last, s ∙ sym v)
      covers i u (inl v) (inr s) = absurd (not-both (above i) u (ap above v ∙ s.0))
      covers i u (inr (inl v)) s = inl v
      covers i u (inr (inr v)) s = inr (v.0, v.1, v.2, v.4)
