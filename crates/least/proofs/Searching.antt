-- How the search starts, and how it goes on: the nearest item that is not entered is entered next. Its holder demands it, so nothing that they reach is
-- nearer, and what is entered keeps its distance. THEORY.md 2.12. Assumes nothing.
use Prim.Native.Nat.{ℕ, zero, suc, ◌+◌, ◌-◌, ◌≤◌, ◌<◌}
use mathlib.Core.Path.{◌≡◌, refl, sym, ap, ◌∙◌, subst}
use mathlib.Core.Logic.{◌⊎◌, inl, inr}
use native.Mathlib.Omega.{arith}
use native.Mathlib.Nat.{le_refl}
use native.Mathlib.Decide.{ℕ_discrete}
use Rattle.least.specs.Searching.{line_at, reach_of, Source, Item, Search, Relaxed}

-- an option is null or an item
pub null-or-item : (m i : ℕ) → i < suc m → (i ≡ 0) ⊎ Item m i
null-or-item m zero l = inl refl
null-or-item m (suc i) l = inr (omega arith, l)

-- who reaches further, and how far: from the start, and from item j
pub line-start : (bid : ℕ → ℕ → ℕ) (own first : ℕ → ℕ) (x : ℕ) → line_at bid own first 0 x ≡ first x
unfolding line_at
line-start bid own first x = refl

pub line-own : (bid : ℕ → ℕ → ℕ) (own first : ℕ → ℕ) (y b x : ℕ) → own y ≡ suc b → own 0 ≡ 0 → line_at bid own first y x ≡ bid b x
unfolding line_at
line-own bid own first zero b x e z = absurd (omega (arith, e, z))
line-own bid own first (suc y) b x e z = let w : own (suc y) - 1 ≡ b = omega (arith, e) in ap (λ (c : ℕ). bid c x) w

pub reach-start : (top : ℕ) (line : ℕ → ℕ → ℕ) (p dist : ℕ → ℕ) → reach_of top line p dist 0 ≡ top
unfolding reach_of
reach-start top line p dist = refl

pub reach-at : (top : ℕ) (line : ℕ → ℕ → ℕ) (p dist : ℕ → ℕ) (j : ℕ) → 0 < j → p j ≤ line j j → reach_of top line p dist j + p j ≡ line j j + dist j
unfolding reach_of
reach-at top line p dist zero pos h = absurd (omega arith)
reach-at top line p dist (suc j) pos h = omega arith

reach-same : (top : ℕ) (line : ℕ → ℕ → ℕ) (p dist dist' : ℕ → ℕ) (y : ℕ) → (y ≡ 0) ⊎ (dist' y ≡ dist y) → reach_of top line p dist' y ≡ reach_of top line p dist y
unfolding reach_of
reach-same top line p dist dist' zero h = refl
reach-same top line p dist dist' (suc y) (inl e) = absurd (omega arith)
reach-same top line p dist dist' (suc y) (inr e) = omega (arith, e)

module _ (m : ℕ) (In : ℕ → Type 0) (inside : (x : ℕ) → In x → (0 < x) × (x < suc m)) (top : ℕ) (line : ℕ → ℕ → ℕ) (p : ℕ → ℕ) where
  -- ---- the start

  pub search-start : (dist mask via : ℕ → ℕ) → ((x : ℕ) → In x → line 0 x ≤ top + p x) → ((x : ℕ) → In x → dist x ≡ top + p x - line 0 x)
      → ((x : ℕ) → mask x ≡ 0) → ((x : ℕ) → In x → via x ≡ 0) → Search m In top line p dist mask via
  search-start dist mask via most ed em ev =
      record {
        null = em 0;
        among = λ y l h. absurd (omega (arith, em y, h));
        near = λ x y i l e h. absurd (omega (arith, em y, h));
        reach = λ x y i l s. reach x y i s;
        source = λ x i. (omega (arith, ev x i), inl (ev x i));
        exact = λ x i. subst (λ (v : ℕ). dist x + line v x ≡ reach_of top line p dist v + p x) (sym (ev x i)) (omega (arith, ed x i, most x i, reach-start top line p dist));
        order = λ x i h. absurd (omega (arith, em x, h));
      }
    where
      reach : (x y : ℕ) → In x → Source mask y → dist x + line y x ≤ reach_of top line p dist y + p x
      reach x y i (inr h) = absurd (omega (arith, em y, h))
      reach x y i (inl e) =
          subst (λ (v : ℕ). dist x + line v x ≤ reach_of top line p dist v + p x) (sym e) (omega (arith, ed x i, most x i, reach-start top line p dist))

-- ---- one step: item j is the nearest that is not entered, and who holds it, with reach u, prefers it to the other items. It is entered at turn c

pub record Step (m : ℕ) (In : ℕ → Type 0) (top : ℕ) (line : ℕ → ℕ → ℕ) (p dist mask via : ℕ → ℕ) (j u c : ℕ) (dist' mask' via' : ℕ → ℕ) : Type 0 where
  pub inside : (x : ℕ) → In x → (0 < x) × (x < suc m)
  pub search : Search m In top line p dist mask via
  pub in-j : In j
  pub open-j : mask j ≡ 0
  pub nearest : (x : ℕ) → In x → mask x ≡ 0 → dist j ≤ dist x
  pub prefers : (x : ℕ) → In x → line j x + p j ≤ line j j + p x
  pub priced : p j ≤ line j j
  pub reach : u + p j ≡ line j j + dist j
  pub some : 0 < c
  pub early : (x : ℕ) → In x → mask x < c
  pub here : mask' j ≡ c
  pub off : (x : ℕ) → (x ≡ j → ⊥) → mask' x ≡ mask x
  pub relaxed : (x : ℕ) → In x → Relaxed u j (line j x) (p x) (dist x) (via x) (dist' x) (via' x)

module _ {m : ℕ} {In : ℕ → Type 0} {top : ℕ} {line : ℕ → ℕ → ℕ} {p dist mask via : ℕ → ℕ} {j u c : ℕ} {dist' mask' via' : ℕ → ℕ}
    (t : Step m In top line p dist mask via j u c dist' mask' via') where
  s : Search m In top line p dist mask via
  s = t.search

  pos : 0 < j
  pos = (t.inside j t.in-j).0

  -- nothing that the holder reaches is nearer than j
  far-off : (x : ℕ) → In x → line j x + dist j ≤ u + p x
  far-off x i = omega (arith, t.reach, t.prefers x i)

  -- what is entered keeps its distance
  keeps : (y : ℕ) → In y → dist y ≤ dist j → (dist' y ≡ dist y) × (via' y ≡ via y)
  keeps y i h = go (t.relaxed y i)
    where
      go : Relaxed u j (line j y) (p y) (dist y) (via y) (dist' y) (via' y) → (dist' y ≡ dist y) × (via' y ≡ via y)
      go (inl r) = absurd (omega (arith, r.0, far-off y i, h))
      go (inr r) = (r.1, r.2)

  pub kept-j : (dist' j ≡ dist j) × (via' j ≡ via j)
  kept-j = keeps j t.in-j (le_refl (dist j))

  pub entered : (y : ℕ) → y < suc m → 0 < mask y → (dist' y ≡ dist y) × (via' y ≡ via y)
  entered y l h = keeps y (s.among y l h) (s.near j y t.in-j l t.open-j h)

  pub kept-source : (y : ℕ) → y < suc m → Source mask y → reach_of top line p dist' y ≡ reach_of top line p dist y
  kept-source y l (inl e) = reach-same top line p dist dist' y (inl e)
  kept-source y l (inr h) = reach-same top line p dist dist' y (inr (entered y l h).0)

  pub reach-j : reach_of top line p dist' j ≡ u
  reach-j = omega (arith, reach-at top line p dist' j pos t.priced, kept-j.0, t.reach)

  not-j : (y : ℕ) → Source mask y → y ≡ j → ⊥
  not-j y (inl e) z = omega (arith, e, z, pos)
  not-j y (inr h) z = omega (arith, h, t.open-j, ap mask z)

  source-on : (y : ℕ) → Source mask y → Source mask' y
  source-on y (inl e) = inl e
  source-on y (inr h) = inr (omega (arith, h, t.off y (not-j y (inr h))))

  -- the turns of the sources are early
  before : (y : ℕ) → y < suc m → Source mask y → mask y < c
  before y l (inl e) = omega (arith, ap mask e, s.null, t.some)
  before y l (inr h) = t.early y (s.among y l h)

  dist-min : (x : ℕ) → In x → (dist' x ≤ dist x) × (dist' x + line j x ≤ u + p x) × (dist j ≤ dist x → dist j ≤ dist' x)
  dist-min x i = go (t.relaxed x i)
    where
      go : Relaxed u j (line j x) (p x) (dist x) (via x) (dist' x) (via' x) → (dist' x ≤ dist x) × (dist' x + line j x ≤ u + p x) × (dist j ≤ dist x → dist j ≤ dist' x)
      go (inl r) = (omega (arith, r.0, r.1), omega (arith, r.1, far-off x i), λ h. omega (arith, r.1, far-off x i))
      go (inr r) = (omega (arith, r.1), omega (arith, r.0, r.1, far-off x i), λ h. omega (arith, r.1, h))

  pub search-next : Search m In top line p dist' mask' via'
  search-next =
      record {
        null = t.off 0 (λ z. omega (arith, z, pos)) ∙ s.null;
        among = λ y l h. among y l h (ℕ_discrete y j);
        near = λ x y i l e h. near x y i l e h (ℕ_discrete x j) (ℕ_discrete y j);
        reach = λ x y i l h. reach x y i l h (ℕ_discrete y j);
        source = λ x i. source x i (t.relaxed x i);
        exact = λ x i. exact x i (t.relaxed x i);
        order = λ x i h. order x i h (ℕ_discrete x j);
      }
    where
      among : (y : ℕ) → y < suc m → 0 < mask' y → Dec (y ≡ j) → In y
      among y l h (yes e) = subst In (sym e) t.in-j
      among y l h (no ne) = s.among y l (omega (arith, h, t.off y ne))

      near : (x y : ℕ) → In x → y < suc m → mask' x ≡ 0 → 0 < mask' y → Dec (x ≡ j) → Dec (y ≡ j) → dist' y ≤ dist' x
      near x y i l e h (yes z) d = absurd (omega (arith, e, ap mask' z, t.here, t.some))
      near x y i l e h (no nx) (yes z) = omega (arith, ap dist' z, kept-j.0, (dist-min x i).2 (t.nearest x i (sym (t.off x nx) ∙ e)))
      near x y i l e h (no nx) (no ny) =
          let in-y : 0 < mask y = omega (arith, h, t.off y ny) in
          omega (arith, (entered y l in-y).0, s.near j y t.in-j l t.open-j in-y, (dist-min x i).2 (t.nearest x i (sym (t.off x nx) ∙ e)))

      reach : (x y : ℕ) → In x → y < suc m → Source mask' y → Dec (y ≡ j) → dist' x + line y x ≤ reach_of top line p dist' y + p x
      reach x y i l h (yes e) =
          subst (λ (v : ℕ). dist' x + line v x ≤ reach_of top line p dist' v + p x) (sym e) (omega (arith, (dist-min x i).1, reach-j))
      reach x y i l h (no ne) = old (back h)
        where
          back : Source mask' y → Source mask y
          back (inl e) = inl e
          back (inr q) = inr (omega (arith, q, t.off y ne))

          old : Source mask y → dist' x + line y x ≤ reach_of top line p dist' y + p x
          old q = omega (arith, (dist-min x i).0, s.reach x y i l q, kept-source y l q)

      source : (x : ℕ) → In x → Relaxed u j (line j x) (p x) (dist x) (via x) (dist' x) (via' x) → (via' x < suc m) × Source mask' (via' x)
      source x i (inl r) = (omega (arith, r.2, (t.inside j t.in-j).1), inr (omega (arith, ap mask' r.2, t.here, t.some)))
      source x i (inr r) =
          let o = s.source x i in
          (omega (arith, r.2, o.0), subst (λ (v : ℕ). Source mask' v) (sym r.2) (source-on (via x) o.1))

      exact : (x : ℕ) → In x → Relaxed u j (line j x) (p x) (dist x) (via x) (dist' x) (via' x) → dist' x + line (via' x) x ≡ reach_of top line p dist' (via' x) + p x
      exact x i (inl r) =
          subst (λ (v : ℕ). dist' x + line v x ≡ reach_of top line p dist' v + p x) (sym r.2) (omega (arith, r.1, far-off x i, reach-j))
      exact x i (inr r) =
          let o = s.source x i in
          subst (λ (v : ℕ). dist' x + line v x ≡ reach_of top line p dist' v + p x) (sym r.2)
          (omega (arith, r.1, s.exact x i, kept-source (via x) o.0 o.1))

      order : (x : ℕ) → In x → 0 < mask' x → Dec (x ≡ j) → mask' (via' x) < mask' x
      order x i h (yes e) =
          let o = s.source j t.in-j in
          omega (arith, ap mask' (ap via' e ∙ kept-j.1), t.off (via j) (not-j (via j) o.1), before (via j) o.0 o.1, ap mask' e, t.here)
      order x i h (no ne) =
          let o = s.source x i in
          let in-x : 0 < mask x = omega (arith, h, t.off x ne) in
          omega (arith, ap mask' (entered x (t.inside x i).1 in-x).1, t.off (via x) (not-j (via x) o.1), s.order x i in-x, t.off x ne)
