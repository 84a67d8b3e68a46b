-- How the places seen by a search grow, and with them the tree of the ways from them. THEORY.md 3.2. Assumes nothing.
use Prim.Native.Nat.{ℕ, ◌+◌, ◌^◌, ◌≤◌, ◌<◌}
use mathlib.Core.Path.{◌≡◌, refl, sym, ap, ◌∙◌, subst}
use mathlib.Core.Bool.{true, false, ◌||◌}
use mathlib.Core.List.{List}
use mathlib.Core.Logic.{◌⊎◌, inl, inr}
use native.Mathlib.Omega.{arith}
use lib.Bits.{bit_or}
use lib.Dec.{eqb}
use lib.ListN.{length, get_or, set, replicate, length-set, length-replicate}
use lib.Seq.{get_or-set_same, get_or-set_other}
use Rattle.sets.specs.Bit.{is_set, has, set_of}
use Rattle.sets.proofs.Counting.{not-both, or_cases, or_left, or_right}
use Rattle.sets.proofs.Filling.{zeros-at}
use Rattle.sets.proofs.Members.{is_set-empty, is_set-or}
use Rattle.assignment.specs.Search.{goes_on, Seated, Step, Tree, Sub, Grown}
use Rattle.assignment.proofs.Places.{with-use, with-old, with-new, goes-spare, goes-null}

-- ---- what is entered

module _ {q : ℕ} {enters : ℕ → ℕ → Type 0} where
  -- nothing
  pub grown-same : {next entered : List ℕ} {seen : ℕ} → length next ≡ 33 → length entered ≡ 33 → Grown q enters next entered seen next entered seen
  grown-same ln le = record { next_size = ln; entered_size = le; sub = λ p o. o; stays = λ p o. (refl, refl); new = λ p o. inl o }

  -- some places, and then others
  pub grown-then : {next entered next' entered' next'' entered'' : List ℕ} {seen s r : ℕ} {more : ℕ → ℕ → Type 0}
      → Grown q enters next entered seen next' entered' s → Grown q more next' entered' s next'' entered'' r → ((p t : ℕ) → more p t → enters p t)
      → Grown q enters next entered seen next'' entered'' r
  grown-then {next} {entered} {next'} {entered'} {next''} {entered''} {seen} {s} {r} {more} f g also =
      record {
        next_size = g.next_size;
        entered_size = g.entered_size;
        sub = λ p o. g.sub p (f.sub p o);
        stays = λ p o. let u = g.stays p (f.sub p o) in let v = f.stays p o in (u.0 ∙ v.0, u.1 ∙ v.1);
        new = λ p o. new p (g.new p o);
      }
    where
      old : (p : ℕ) → is_set s p ≡ true → (is_set seen p ≡ true) ⊎ ((get_or next' p 0 ≡ q) × enters p (get_or entered' p 0)) → (is_set seen p ≡ true) ⊎ ((get_or next'' p 0 ≡ q) × enters p (get_or entered'' p 0))
      old p o (inl h) = inl h
      old p o (inr v) = let u = g.stays p o in inr (u.0 ∙ v.0, subst (enters p) (sym u.1) v.1)

      new : (p : ℕ) → (is_set s p ≡ true) ⊎ ((get_or next'' p 0 ≡ q) × more p (get_or entered'' p 0)) → (is_set seen p ≡ true) ⊎ ((get_or next'' p 0 ≡ q) × enters p (get_or entered'' p 0))
      new p (inl o) = old p o (f.new p o)
      new p (inr v) = inr (v.0, also p (get_or entered'' p 0) v.1)

-- one place, which was not seen
pub grown-one : (next entered : List ℕ) (seen p q t : ℕ) → length next ≡ 33 → length entered ≡ 33 → p < 33 → is_set seen p ≡ false → seen < 2 ^ 64 → (r : ℕ) → r ≡ set_of 64 (λ j. has seen j || eqb j (p + 1))
    → Grown q (λ o v. (o ≡ p) × (v ≡ t)) next entered seen (set next p q) (set entered p t) r
grown-one next entered seen p q t ln le lp off ls r er =
    record {
      next_size = length-set next p q ∙ ln;
      entered_size = length-set entered p t ∙ le;
      sub = with-old seen p r er ls;
      stays = λ o h. (get_or-set_other next p o q 0 (old o h), get_or-set_other entered p o t 0 (old o h));
      new = λ o h. new o (with-use seen p r er o h);
    }
  where
    old : (o : ℕ) → is_set seen o ≡ true → o ≡ p → ⊥
    old o h e = not-both (is_set seen p) (ap (is_set seen) (sym e) ∙ h) off

    new : (o : ℕ) → (is_set seen o ≡ true) ⊎ (o ≡ p) → (is_set seen o ≡ true) ⊎ ((get_or (set next p q) o 0 ≡ q) × ((o ≡ p) × (get_or (set entered p t) o 0 ≡ t)))
    new o (inl h) = inl h
    new o (inr e) =
        inr (ap (λ (s : ℕ). get_or (set next p q) s 0) e ∙ get_or-set_same next p q 0 (omega arith), (e, ap (λ (s : ℕ). get_or (set entered p t) s 0) e ∙ get_or-set_same entered p t 0 (omega arith)))

-- the places of both
module _ (s t r : ℕ) (e : r ≡ bit_or s t) where
  pub or-old : Sub s r
  or-old p o = ap (λ (v : ℕ). is_set v p) e ∙ is_set-or s t p ∙ or_left (is_set s p) (is_set t p) o

  pub or_new : Sub t r
  or_new p o = ap (λ (v : ℕ). is_set v p) e ∙ is_set-or s t p ∙ or_right (is_set s p) (is_set t p) o

  or-use : (p : ℕ) → is_set r p ≡ true → (is_set s p ≡ true) ⊎ (is_set t p ≡ true)
  or-use p o = or_cases (is_set s p) (is_set t p) (sym (is_set-or s t p) ∙ ap (λ (v : ℕ). is_set v p) (sym e) ∙ o)

-- ---- the tree

module _ {w x : List ℕ} {opens unpriced spare a k n : ℕ} where
  pub tree-later : {next entered : List ℕ} {seen t u : ℕ} → Tree w x opens unpriced spare a k n next entered seen t → t ≤ u → Tree w x opens unpriced spare a k n next entered seen u
  tree-later tree l =
      record {
        next_size = tree.next_size;
        entered_size = tree.entered_size;
        root = tree.root;
        opened = tree.opened;
        pooled = tree.pooled;
        before = λ p o. omega (arith, l, tree.before p o);
        steps = tree.steps;
      }

  -- new places, whose step leads to q, none before time t and all before u
  module _ {next entered next' entered' : List ℕ} {seen r t u q : ℕ} {enters : ℕ → ℕ → Type 0} (tree : Tree w x opens unpriced spare a k n next entered seen t) (on : is_set seen q ≡ true)
      (l : t ≤ u) (g : Grown q enters next entered seen next' entered' r)
      (fits : (p v : ℕ) → enters p v → (p < 33) × (is_set opens p ≡ true) × (goes_on spare p ≡ p) × (t ≤ v) × (v < u) × Step w x unpriced k n p q v) where
    abbrev New : ℕ → Type 0
    New p = (is_set seen p ≡ true) ⊎ ((get_or next' p 0 ≡ q) × enters p (get_or entered' p 0))

    abbrev Stepped : ℕ → ℕ → ℕ → Type 0
    Stepped p s v = (is_set r s ≡ true) × (get_or entered' (goes_on spare s) 0 < v) × Step w x unpriced k n p s v

    -- a place seen before keeps its time
    time : (p : ℕ) → is_set seen p ≡ true → get_or entered' (goes_on spare p) 0 ≡ get_or entered (goes_on spare p) 0
    time p o = (g.stays (goes_on spare p) (tree.pooled p o)).1

    pub tree-grows : Tree w x opens unpriced spare a k n next' entered' r u
    tree-grows =
        record {
          next_size = g.next_size;
          entered_size = g.entered_size;
          root = g.sub a tree.root;
          opened = λ p o. opened p (g.new p o);
          pooled = λ p o. pooled p o (g.new p o);
          before = λ p o. before p (g.new p o);
          steps = λ p o c ne. steps p c ne (g.new p o);
        }
      where
        opened : (p : ℕ) → New p → (p < 33) × (is_set opens p ≡ true)
        opened p (inl o) = tree.opened p o
        opened p (inr v) = let f = fits p (get_or entered' p 0) v.1 in (f.0, f.1)

        pooled : (p : ℕ) → is_set r p ≡ true → New p → is_set r (goes_on spare p) ≡ true
        pooled p h (inl o) = g.sub (goes_on spare p) (tree.pooled p o)
        pooled p h (inr v) = ap (is_set r) (fits p (get_or entered' p 0) v.1).2 ∙ h

        before : (p : ℕ) → New p → get_or entered' (goes_on spare p) 0 < u
        before p (inl o) = omega (arith, l, time p o, tree.before p o)
        before p (inr v) =
            let f = fits p (get_or entered' p 0) v.1 in
            omega (arith, ap (λ (s : ℕ). get_or entered' s 0) f.2, f.4)

        steps : (p : ℕ) → goes_on spare p ≡ p → (p ≡ a → ⊥) → New p → Stepped p (get_or next' p 0) (get_or entered' p 0)
        steps p c ne (inl o) =
            let s = tree.steps p o c ne in
            let e = g.stays p o in
            subst (λ (v : ℕ). Stepped p (get_or next' p 0) v) (sym e.1)
            (subst (λ (z : ℕ). Stepped p z (get_or entered p 0)) (sym e.0) (g.sub (get_or next p 0) s.0, omega (arith, time (get_or next p 0) s.0, s.1), s.2))
        steps p c ne (inr v) =
            let f = fits p (get_or entered' p 0) v.1 in
            subst (λ (z : ℕ). Stepped p z (get_or entered' p 0)) (sym v.0) (g.sub q on, omega (arith, time q on, tree.before q on, f.3), f.5)

  module _ (seated : Seated x opens spare k n) where
    -- at first a alone is seen
    pub tree-start : k < n → get_or x k 0 ≡ a → (next entered : List ℕ) → next ≡ replicate 33 0 → entered ≡ replicate 33 0 → (seen : ℕ) → seen ≡ set_of 64 (λ j. has 0 j || eqb j (a + 1))
        → Tree w x opens unpriced spare a k n next entered seen 128
    tree-start lk had next entered en ee seen es =
        record {
          next_size = ap length en ∙ length-replicate {A = ℕ} 33 0;
          entered_size = ap length ee ∙ length-replicate {A = ℕ} 33 0;
          root = root;
          opened = λ p o. subst (λ (q : ℕ). (q < 33) × (is_set opens q ≡ true)) (sym (only p o)) (la, ap (is_set opens) (sym had) ∙ seated.opened k (omega arith) lk);
          pooled = λ p o. ap (λ (q : ℕ). is_set seen (goes_on spare q)) (only p o ∙ sym had) ∙ ap (is_set seen) (seated.taken k (omega arith) lk ∙ had) ∙ root;
          before = λ p o. let z = ap (λ (l : List ℕ). get_or l (goes_on spare p) 0) ee ∙ zeros-at 33 (goes_on spare p) in omega arith;
          steps = λ p o g ne. absurd (ne (only p o));
        }
      where
        la : a < 33
        la = omega (arith, had, seated.small k (omega arith) lk)

        root : is_set seen a ≡ true
        root = with-new 0 a seen es (omega (arith, la))

        only : (p : ℕ) → is_set seen p ≡ true → p ≡ a
        only p o = go (with-use 0 a seen es p o)
          where
            go : (is_set 0 p ≡ true) ⊎ (p ≡ a) → p ≡ a
            go (inl h) = absurd (not-both (is_set 0 p) h (is_set-empty p))
            go (inr h) = h

    -- null is seen, and now the items that nobody has are too
    pub tree-wide : {next entered : List ℕ} {seen t : ℕ} → Tree w x opens unpriced spare a k n next entered seen t → is_set seen 0 ≡ true → (r : ℕ) → r ≡ bit_or seen spare
        → Tree w x opens unpriced spare a k n next entered r t
    tree-wide {next} {entered} {seen} {t} tree null r e =
        record {
          next_size = tree.next_size;
          entered_size = tree.entered_size;
          root = old a tree.root;
          opened = λ p o. opened p (or-use seen spare r e p o);
          pooled = λ p o. old (goes_on spare p) (pooled p (or-use seen spare r e p o));
          before = λ p o. before p (or-use seen spare r e p o);
          steps = λ p o g ne. steps p g ne (or-use seen spare r e p o);
        }
      where
        old : Sub seen r
        old = or-old seen spare r e

        opened : (p : ℕ) → (is_set seen p ≡ true) ⊎ (is_set spare p ≡ true) → (p < 33) × (is_set opens p ≡ true)
        opened p (inl o) = tree.opened p o
        opened p (inr f) = seated.spares p f

        pooled : (p : ℕ) → (is_set seen p ≡ true) ⊎ (is_set spare p ≡ true) → is_set seen (goes_on spare p) ≡ true
        pooled p (inl o) = tree.pooled p o
        pooled p (inr f) = ap (is_set seen) (goes-spare spare p f) ∙ null

        before : (p : ℕ) → (is_set seen p ≡ true) ⊎ (is_set spare p ≡ true) → get_or entered (goes_on spare p) 0 < t
        before p (inl o) = tree.before p o
        before p (inr f) = omega (arith, ap (λ (s : ℕ). get_or entered s 0) (goes-spare spare p f ∙ sym (goes-null spare)), tree.before 0 null)

        Stepped : ℕ → Type 0
        Stepped p = (is_set r (get_or next p 0) ≡ true) × (get_or entered (goes_on spare (get_or next p 0)) 0 < get_or entered p 0) × Step w x unpriced k n p (get_or next p 0) (get_or entered p 0)

        from : (p : ℕ) → goes_on spare p ≡ p → (p ≡ a → ⊥) → is_set seen p ≡ true → Stepped p
        from p g ne o = let s = tree.steps p o g ne in (old (get_or next p 0) s.0, s.1, s.2)

        steps : (p : ℕ) → goes_on spare p ≡ p → (p ≡ a → ⊥) → (is_set seen p ≡ true) ⊎ (is_set spare p ≡ true) → Stepped p
        steps p g ne (inl o) = from p g ne o
        steps p g ne (inr f) = from p g ne (ap (is_set seen) (sym g ∙ goes-spare spare p f) ∙ null)
