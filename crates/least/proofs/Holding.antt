-- One bidder more takes part: item x is to be filled, and along the way back of the search each item goes to who reached it. THEORY.md 2.12. Assumes nothing.
use Prim.Native.Nat.{ℕ, suc, ◌<◌}
use mathlib.Core.Path.{◌≡◌, sym, ap, ◌∙◌, subst}
use mathlib.Core.Bool.{Bool, true, false}
use mathlib.Core.Logic.{◌⊎◌, inl, inr}
use native.Mathlib.Omega.{arith}
use native.Mathlib.Decide.{ℕ_discrete}
use lib.Dec.{eqb}
use borrow.Author.Tests.{eqb-true, eq-eqb}
use Rattle.sets.proofs.Counting.{Least, least, not-both}
use Rattle.least.specs.Holding.{Holds, Demands, Held, Joins}
use Rattle.least.specs.Falling.{Idle}
use Rattle.least.specs.Shifting.{HoldsBut, Hole, From}

-- a bidder holds an item, or none
pub holds-or-idle : (m : ℕ) (own : ℕ → ℕ) (b : ℕ) → Holds m own b ⊎ Idle m own b
holds-or-idle m own b = go (least (suc m) (λ i. eqb (own i) (suc b)))
  where
    go : Least (suc m) (λ i. eqb (own i) (suc b)) ⊎ ((i : ℕ) → i < suc m → eqb (own i) (suc b) ≡ false) → Holds m own b ⊎ Idle m own b
    go (inl w) = inl (w.at, w.small, eqb-true (own w.at) (suc b) w.here)
    go (inr none) = inr (λ i l e. not-both (eqb (own i) (suc b)) (eq-eqb (own i) (suc b) e) (none i l))

module _ {m : ℕ} {bid : ℕ → ℕ → ℕ} {k : ℕ} {p own : ℕ → ℕ} {before on : ℕ → Bool} (joins : Joins k before on) (held : Held m bid before p own) where
  -- a free item is a hole
  pub hole-free : (x : ℕ) → 0 < x → own x ≡ 0 → Hole m bid on k p own x
  hole-free x pos free =
      record {
        null = held.null;
        known = λ i b l ne e. let w = held.known i b l e in ((joins.stays b w.0).0, w.1, λ z. (joins.stays b w.0).1);
        placed = λ b t. go b t (ℕ_discrete b k);
        once = λ i j b li lj ni nj e f. held.once i j b li lj e f;
      }
    where
      go : (b : ℕ) → on b ≡ true → Dec (b ≡ k) → Demands m bid p b 0 ⊎ HoldsBut m own x b ⊎ ((b ≡ k) × (0 < x))
      go b t (yes e) = inr (inr (e, pos))
      go b t (no ne) = by (held.placed b (joins.was b t ne))
        where
          by : Demands m bid p b 0 ⊎ Holds m own b → Demands m bid p b 0 ⊎ HoldsBut m own x b ⊎ ((b ≡ k) × (0 < x))
          by (inl w) = inl w
          by (inr w) = inr (inl (w.0, w.1, (λ z. omega (arith, w.2, free, ap own z)), w.2))

  -- who comes from y takes null
  pub hole-null : (y b : ℕ) → From k own y b → Demands m bid p b 0 → Hole m bid on k p own y
  hole-null y b from w =
      record {
        null = held.null;
        known = λ i c l ne e. let v = held.known i c l e in ((joins.stays c v.0).0, v.1, λ z. (joins.stays c v.0).1);
        placed = λ c t. go c t (ℕ_discrete c b) (ℕ_discrete c k) from;
        once = λ i j c li lj ni nj e f. held.once i j c li lj e f;
      }
    where
      go : (c : ℕ) → on c ≡ true → Dec (c ≡ b) → Dec (c ≡ k) → From k own y b → Demands m bid p c 0 ⊎ HoldsBut m own y c ⊎ ((c ≡ k) × (0 < y))
      go c t (yes e) d f = inl (subst (λ (z : ℕ). Demands m bid p z 0) (sym e) w)
      go c t (no ne) (yes e) (inl f) = absurd (ne (e ∙ sym f.1))
      go c t (no ne) (yes e) (inr f) = inr (inr (e, f.0))
      go c t (no ne) (no nk) f = by f (held.placed c (joins.was c t nk))
        where
          by : From k own y b → Demands m bid p c 0 ⊎ Holds m own c
              → Demands m bid p c 0 ⊎ HoldsBut m own y c ⊎ ((c ≡ k) × (0 < y))
          by f (inl v) = inl v
          by (inl f) (inr v) = inr (inl (v.0, v.1, (λ z. omega (arith, v.2, held.null, ap own (z ∙ f.0))), v.2))
          by (inr f) (inr v) = inr (inl (v.0, v.1, (λ z. ne (omega (arith, v.2, f.1, ap own z))), v.2))

module _ {m : ℕ} {bid : ℕ → ℕ → ℕ} {on : ℕ → Bool} {k : ℕ} {p own : ℕ → ℕ} {x : ℕ} (h : Hole m bid on k p own x) where
  -- no hole is left
  pub hole-end : x ≡ 0 → Held m bid on p own
  hole-end e =
      record {
        null = h.null;
        known = λ i b l f. let w = h.known i b l (apart i b f) f in (w.0, w.1);
        placed = λ b t. go b (h.placed b t);
        once = λ i j b li lj f g. h.once i j b li lj (apart i b f) (apart j b g) f g;
      }
    where
      apart : (i b : ℕ) → own i ≡ suc b → i ≡ x → ⊥
      apart i b f z = omega (arith, f, h.null, ap own (z ∙ e))

      go : (b : ℕ) → Demands m bid p b 0 ⊎ HoldsBut m own x b ⊎ ((b ≡ k) × (0 < x))
          → Demands m bid p b 0 ⊎ Holds m own b
      go b (inl w) = inl w
      go b (inr (inl w)) = inr (w.0, w.1, w.3)
      go b (inr (inr w)) = absurd (omega (arith, e, w.1))

  -- who comes from y takes item x
  pub hole-next : on k ≡ true → x < suc m → 0 < x → (y b : ℕ) → y < suc m → (y ≡ x → ⊥) → From k own y b → Demands m bid p b x
      → (own' : ℕ → ℕ) → own' x ≡ suc b → ((i : ℕ) → (i ≡ x → ⊥) → own' i ≡ own i) → Hole m bid on k p own' y
  hole-next joined lx pos y b ly apart from w own' here off =
      record {
        null = off 0 (λ z. omega (arith, pos, z)) ∙ h.null;
        known = λ i c l ne e. known i c l ne e (ℕ_discrete i x) from;
        placed = λ c t. placed c (ℕ_discrete c b) from (h.placed c t);
        once = λ i j c li lj ni nj e f. once i j c li lj ni nj e f (ℕ_discrete i x) (ℕ_discrete j x);
      }
    where
      in_b : From k own y b → on b ≡ true
      in_b (inl f) = ap on f.1 ∙ joined
      in_b (inr f) = (h.known y b ly apart f.1).0

      not-k : From k own y b → 0 < y → b ≡ k → ⊥
      not-k (inl f) z = absurd (omega (arith, f.0, z))
      not-k (inr f) z = (h.known y b ly apart f.1).2 pos

      -- no other item goes to b
      fresh : From k own y b → (i : ℕ) → i < suc m → (i ≡ x → ⊥) → (i ≡ y → ⊥) → own i ≡ suc b → ⊥
      fresh (inl f) i l nx ny e = (h.known i b l nx e).2 pos f.1
      fresh (inr f) i l nx ny e = ny (h.once i y b l ly nx apart e f.1)

      known : (i c : ℕ) → i < suc m → (i ≡ y → ⊥) → own' i ≡ suc c → Dec (i ≡ x) → From k own y b → (on c ≡ true) × Demands m bid p c i × (0 < y → c ≡ k → ⊥)
      known i c l ne e (yes z) f =
          let same : c ≡ b = omega (arith, e, ap own' z, here) in
          subst (λ (v : ℕ). (on v ≡ true) × Demands m bid p v i × (0 < y → v ≡ k → ⊥)) (sym same)
          (subst (λ (v : ℕ). (on b ≡ true) × Demands m bid p b v × (0 < y → b ≡ k → ⊥)) (sym z) (in_b f, w, not-k f))
      known i c l ne e (no nx) f = let v = h.known i c l nx (sym (off i nx) ∙ e) in (v.0, v.1, λ z. v.2 pos)

      placed : (c : ℕ) → Dec (c ≡ b) → From k own y b → Demands m bid p c 0 ⊎ HoldsBut m own x c ⊎ ((c ≡ k) × (0 < x))
          → Demands m bid p c 0 ⊎ HoldsBut m own' y c ⊎ ((c ≡ k) × (0 < y))
      placed c (yes e) f s = inr (inl (x, lx, (λ z. apart (sym z)), here ∙ ap suc (sym e)))
      placed c (no ne) f (inl v) = inl v
      placed c (no ne) (inl f) (inr (inl v)) = inr (inl (v.0, v.1, (λ z. omega (arith, v.3, h.null, ap own (z ∙ f.0))), off v.0 v.2 ∙ v.3))
      placed c (no ne) (inr f) (inr (inl v)) = inr (inl (v.0, v.1, (λ z. ne (omega (arith, v.3, f.1, ap own z))), off v.0 v.2 ∙ v.3))
      placed c (no ne) (inl f) (inr (inr v)) = absurd (ne (v.0 ∙ sym f.1))
      placed c (no ne) (inr f) (inr (inr v)) = inr (inr (v.0, f.0))

      once : (i j c : ℕ) → i < suc m → j < suc m → (i ≡ y → ⊥) → (j ≡ y → ⊥) → own' i ≡ suc c → own' j ≡ suc c → Dec (i ≡ x) → Dec (j ≡ x) → i ≡ j
      once i j c li lj ni nj e f (yes a) (yes z) = a ∙ sym z
      once i j c li lj ni nj e f (yes a) (no z) = absurd (fresh from j lj z nj (sym (off j z) ∙ f ∙ sym e ∙ ap own' a ∙ here))
      once i j c li lj ni nj e f (no a) (yes z) = absurd (fresh from i li a ni (sym (off i a) ∙ e ∙ sym f ∙ ap own' z ∙ here))
      once i j c li lj ni nj e f (no a) (no z) = h.once i j c li lj a z (sym (off i a) ∙ e) (sym (off j z) ∙ f)
