-- Along the items from which each was reached, back to where the search started, each item goes to who reached it. The turns at which they were entered fall,
-- so it ends, and bidder k is placed. THEORY.md 2.12. Assumes nothing.
use Prim.Native.Nat.{ℕ, zero, suc, ◌≤◌, ◌<◌}
use mathlib.Core.Path.{◌≡◌, refl, sym, ap, ◌∙◌}
use mathlib.Core.Bool.{Bool}
use mathlib.Core.Logic.{◌⊎◌, inl, inr}
use native.Mathlib.Omega.{arith}
use native.Mathlib.Decide.{ℕ_discrete}
use Rattle.least.specs.Holding.{Held}
use Rattle.least.specs.Searching.{who, Source, Item}
use Rattle.least.specs.Shifting.{Hole, From, Chain, steps}
use Rattle.least.proofs.Holding.{hole-next, hole-end}

-- the way back is at x: now is who holds what
pub record Walk (m : ℕ) (bid : ℕ → ℕ → ℕ) (on : ℕ → Bool) (k : ℕ) (p own mask via : ℕ → ℕ) (first : ℕ) (now : ℕ → ℕ) (x : ℕ) : Type 0 where
  pub hole : Hole m bid on k p now x
  pub small : x < suc m
  pub on-way : (x ≡ first) ⊎ Source mask x
  pub kept : (y : ℕ) → now y ≡ 0 → own y ≡ 0
  pub same : 0 < x → (y : ℕ) → y < suc m → 0 < mask y → (mask x ≡ 0) ⊎ (mask y < mask x) → now y ≡ own y

steps_next : (f : ℕ) (via : ℕ → ℕ) (x : ℕ) → 0 < x → steps (suc f) via x ≡ suc (steps f via (via x))
unfolding steps
steps_next f via zero pos = absurd (omega arith)
steps_next f via (suc x) pos = refl

-- who stands at y, where root stands at 0
unfoldable pub at : ℕ → (ℕ → ℕ) → ℕ → ℕ
at root now zero = root
at root now (suc y) = now (suc y)

module _ {m : ℕ} {bid : ℕ → ℕ → ℕ} {on : ℕ → Bool} {k : ℕ} {p own mask via : ℕ → ℕ} {first : ℕ} (c : Chain m bid on k p own mask via first) where
  -- from a source one step more makes no difference
  steps-enough : (f y : ℕ) → y < suc m → Source mask y → mask y ≤ f → steps (suc f) via y ≡ steps f via y
  unfolding steps
  steps-enough zero zero l h e = refl
  steps-enough zero (suc y) l (inl z) e = absurd (omega (arith, z))
  steps-enough zero (suc y) l (inr h) e = absurd (omega (arith, h, e))
  steps-enough (suc f) zero l h e = refl
  steps-enough (suc f) (suc y) l h e =
      let o = c.source (suc y) (omega arith, l) in
      ap suc (steps-enough f (via (suc y)) o.0 o.1 (omega (arith, e, fall h)))
    where
      fall : Source mask (suc y) → mask (via (suc y)) < mask (suc y)
      fall (inl z) = absurd (omega (arith, z))
      fall (inr g) = c.order (suc y) (omega arith, l) g

  pub walk_start : Walk m bid on k p own mask via first own first
  walk_start = record { hole = c.hole; small = c.small; on-way = inl refl; kept = λ y e. e; same = λ z y l h e. refl }

  pub walk_end : (now : ℕ → ℕ) (x : ℕ) → Walk m bid on k p own mask via first now x → x ≡ 0 → Held m bid on p now
  walk_end now x w e = hole-end w.hole e

  module _ {now : ℕ → ℕ} {x : ℕ} (w : Walk m bid on k p own mask via first now x) (pos : 0 < x) where
    item : Item m x
    item = (pos, w.small)

    from : (via x < suc m) × Source mask (via x)
    from = c.source x item

    pub walk-small : via x < suc m
    walk-small = from.0

    pub walk-less : steps 66 via (via x) < steps 66 via x
    walk-less = omega (arith, steps_next 65 via x pos, steps-enough 65 (via x) from.0 from.1 (c.bounded (via x) from.0))

    before : (mask x ≡ 0) ⊎ (mask (via x) < mask x)
    before = go (ℕ_discrete (mask x) 0)
      where
        go : Dec (mask x ≡ 0) → (mask x ≡ 0) ⊎ (mask (via x) < mask x)
        go (yes e) = inl e
        go (no ne) = inr (c.order x item (omega (arith, ne)))

    in-from : 0 < via x → 0 < mask (via x)
    in-from h = go from.1
      where
        go : Source mask (via x) → 0 < mask (via x)
        go (inl e) = absurd (omega (arith, e, h))
        go (inr g) = g

    apart : via x ≡ x → ⊥
    apart e = go before
      where
        go : (mask x ≡ 0) ⊎ (mask (via x) < mask x) → ⊥
        go (inl z) = omega (arith, z, ap mask e, in-from (omega (arith, e, pos)))
        go (inr l) = omega (arith, l, ap mask e)

    holder-now : From k now (via x) (who k own (via x))
    holder-now = go (c.holder (via x) from.0 from.1)
      where
        go : From k own (via x) (who k own (via x)) → From k now (via x) (who k own (via x))
        go (inl e) = inl e
        go (inr e) = inr (e.0, w.same pos (via x) from.0 (in-from e.0) before ∙ e.1)

    module _ (now' : ℕ → ℕ) (here : now' x ≡ at (suc k) now (via x)) (off : (i : ℕ) → (i ≡ x → ⊥) → now' i ≡ now i) where
      taker : at (suc k) now (via x) ≡ suc (who k own (via x))
      taker = go (via x) holder-now
        where
          go : (y : ℕ) → From k now y (who k own y) → at (suc k) now y ≡ suc (who k own y)
          go zero h = unfold at who in refl
          go (suc y) (inl e) = absurd (omega (arith, e.0))
          go (suc y) (inr e) = unfold at in e.1

      pub walk-next : Walk m bid on k p own mask via first now' (via x)
      walk-next =
          record {
            hole = hole-next w.hole c.joined w.small pos (via x) (who k own (via x)) from.0 apart holder-now
                (c.wants x item (filled w.on-way)) now' (here ∙ taker) off;
            small = from.0;
            on-way = inr from.1;
            kept = λ y e. kept y e (ℕ_discrete y x);
            same = λ z y l h e. same y l h e before (in-from z);
          }
        where
          filled : (x ≡ first) ⊎ Source mask x → (x ≡ first) ⊎ (0 < mask x)
          filled (inl e) = inl e
          filled (inr (inl e)) = absurd (omega (arith, e, pos))
          filled (inr (inr h)) = inr h

          kept : (y : ℕ) → now' y ≡ 0 → Dec (y ≡ x) → own y ≡ 0
          kept y e (yes q) = absurd (omega (arith, e, ap now' q, here, taker))
          kept y e (no ne) = w.kept y (sym (off y ne) ∙ e)

          same : (y : ℕ) → y < suc m → 0 < mask y → (mask (via x) ≡ 0) ⊎ (mask y < mask (via x)) → (mask x ≡ 0) ⊎ (mask (via x) < mask x) → 0 < mask (via x) → now' y ≡ own y
          same y l h (inl e) b g = absurd (omega (arith, e, g))
          same y l h (inr e) (inl b) g = off y (λ z. omega (arith, h, b, ap mask z)) ∙ w.same pos y l h (inl b)
          same y l h (inr e) (inr b) g = off y (λ z. omega (arith, e, b, ap mask z)) ∙ w.same pos y l h (inr (omega (arith, e, b)))
