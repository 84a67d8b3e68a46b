-- Where the search of bidder k ends, at the level of the nearest option that is free: each price goes up by what the level is above its distance. Then who
-- holds an item still demands it, and every option up to the level is demanded by who reached it. THEORY.md 2.12. Assumes nothing.
use Prim.Native.Nat.{ℕ, zero, suc, ◌+◌, ◌-◌, ◌≤◌, ◌<◌}
use mathlib.Core.Path.{◌≡◌, refl, sym, ap, ◌∙◌}
use mathlib.Core.Bool.{Bool}
use mathlib.Core.Logic.{◌⊎◌, inl, inr}
use native.Mathlib.Omega.{arith}
use native.Mathlib.Nat.{eq-zero-or-pos}
use native.Mathlib.Decide.{dec_le}
use Rattle.least.specs.Holding.{Holds, Demands, Held}
use Rattle.least.specs.Searching.{line_at, who, reach_of, Source, Item, Search}
use Rattle.least.proofs.Searching.{null-or-item, line-own, reach-at}

line-who : (bid : ℕ → ℕ → ℕ) (k : ℕ) (own : ℕ → ℕ) (y x : ℕ) → line_at bid own (bid k) y x ≡ bid (who k own y) x
unfolding line_at who
line-who bid k own zero x = refl
line-who bid k own (suc y) x = refl

-- who holds an item can pay for it
pub pays : (m : ℕ) (bid : ℕ → ℕ → ℕ) (p : ℕ → ℕ) (b i : ℕ) → bid b 0 ≡ 0 → p 0 ≡ 0 → Demands m bid p b i → p i ≤ bid b i
pays m bid p b i b0 p0 d = omega (arith, d 0 (omega arith), b0, p0)

-- the search has ended at a level that neither null nor an item that is not entered is below: prices q
pub record Rise (m : ℕ) (bid : ℕ → ℕ → ℕ) (k top : ℕ) (on : ℕ → Bool) (p own dist mask via : ℕ → ℕ) (level : ℕ) (q : ℕ → ℕ) : Type 0 where
  pub held : Held m bid on p own
  pub bid-null : (b : ℕ) → bid b 0 ≡ 0
  pub p-null : p 0 ≡ 0
  pub search : Search m (Item m) top (line_at bid own (bid k)) p dist mask via
  pub holds : (y : ℕ) → y < suc m → 0 < mask y → 0 < own y
  pub null_far : (y : ℕ) → y < suc m → Source mask y → level ≤ reach_of top (line_at bid own (bid k)) p dist y
  pub ahead : (x : ℕ) → Item m x → mask x ≡ 0 → level ≤ dist x
  pub behind : (y : ℕ) → y < suc m → 0 < mask y → dist y ≤ level
  pub q-null : q 0 ≡ 0
  pub q-is : (x : ℕ) → Item m x → q x ≡ p x + (level - dist x)

module _ {m : ℕ} {bid : ℕ → ℕ → ℕ} {k top : ℕ} {on : ℕ → Bool} {p own dist mask via : ℕ → ℕ} {level : ℕ} {q : ℕ → ℕ} (t : Rise m bid k top on p own dist mask via level q) where
  abbrev line : ℕ → ℕ → ℕ
  line = line_at bid own (bid k)

  abbrev reach : ℕ → ℕ
  reach = reach_of top line p dist

  -- at the prices q nobody who reaches further has a higher surplus than their reach less the level
  bound : (i y : ℕ) → i < suc m → y < suc m → Source mask y → line y i + level ≤ reach y + q i
  bound i y li ly h = go (null-or-item m i li)
    where
      go : (i ≡ 0) ⊎ Item m i → line y i + level ≤ reach y + q i
      go (inl e) = omega (arith, line-who bid k own y i, ap (bid (who k own y)) e, t.bid-null (who k own y), t.null_far y ly h)
      go (inr x) = omega (arith, t.search.reach i y x ly h, t.q-is i x)

  -- who reached an item demands it
  pub from-wants : (x : ℕ) → Item m x → dist x ≤ level → Demands m bid q (who k own (via x)) x
  from-wants x i h j lj =
      let o = t.search.source x i in
      omega (arith, bound j (via x) lj o.0 o.1, t.search.exact x i, t.q-is x i, h, line-who bid k own (via x) x, line-who bid k own (via x) j)

  -- and null, if it was reached at the level
  pub null-wants : (y : ℕ) → y < suc m → Source mask y → reach y ≡ level → Demands m bid q (who k own y) 0
  null-wants y ly h e j lj = omega (arith, bound j y lj ly h, e, line-who bid k own y j, t.bid-null (who k own y), t.q-null)

  rises : (i : ℕ) → i < suc m → p i ≤ q i
  rises i l = go (null-or-item m i l)
    where
      go : (i ≡ 0) ⊎ Item m i → p i ≤ q i
      go (inl e) = omega (arith, ap p e, t.p-null)
      go (inr x) = omega (arith, t.q-is i x)

  -- a price that is not entered stays
  pub flat : (x : ℕ) → Item m x → mask x ≡ 0 → q x ≡ p x
  flat x i e = omega (arith, t.q-is x i, t.ahead x i e)

  -- so a free item keeps its price
  pub free-flat : (x : ℕ) → Item m x → own x ≡ 0 → q x ≡ p x
  free-flat x i e = go (eq-zero-or-pos (mask x))
    where
      go : (mask x ≡ 0) ⊎ (0 < mask x) → q x ≡ p x
      go (inl z) = flat x i z
      go (inr h) = absurd (omega (arith, e, t.holds x i.1 h))

  -- the holder of an item that is entered demands it
  own-wants : (x b : ℕ) → Item m x → 0 < mask x → own x ≡ suc b → Demands m bid q b x
  own-wants x b i h e j lj =
      omega (
        arith,
        bound j x lj i.1 (inr h),
        line-own bid own (bid k) x b j e t.held.null,
        reach-at top line p dist x i.0 (omega (arith, line-own bid own (bid k) x b x e t.held.null, pays m bid p b x (t.bid-null b) t.p-null (t.held.known x b i.1 e).1)),
        line-own bid own (bid k) x b x e t.held.null,
        t.q-is x i,
        t.behind x i.1 h,
      )

  -- the holder of another item, or who has null, still does
  stays : (x b : ℕ) → q x ≡ p x → Demands m bid p b x → Demands m bid q b x
  stays x b e w j lj = omega (arith, w j lj, e, rises j lj)

  pub search-held : Held m bid on q own
  search-held =
      record {
        null = t.held.null;
        known = λ i b l e. let w = t.held.known i b l e in (w.0, known i b e w.1 (null-or-item m i l));
        placed = λ b z. placed b (t.held.placed b z);
        once = t.held.once;
      }
    where
      known : (i b : ℕ) → own i ≡ suc b → Demands m bid p b i → (i ≡ 0) ⊎ Item m i → Demands m bid q b i
      known i b e w (inl z) = absurd (omega (arith, e, ap own z, t.held.null))
      known i b e w (inr x) = go (eq-zero-or-pos (mask i))
        where
          go : (mask i ≡ 0) ⊎ (0 < mask i) → Demands m bid q b i
          go (inl z) = stays i b (flat i x z) w
          go (inr h) = own-wants i b x h e

      placed : (b : ℕ) → Demands m bid p b 0 ⊎ Holds m own b → Demands m bid q b 0 ⊎ Holds m own b
      placed b (inl w) = inl (stays 0 b (t.q-null ∙ sym t.p-null) w)
      placed b (inr w) = inr w

  -- and no price goes past the highest bid
  pub search-range : ((b i : ℕ) → bid b i ≤ top) → (x : ℕ) → Item m x → p x ≤ top → q x ≤ top
  search-range most x i h = go (dec_le (dist x) level)
    where
      go : Dec (dist x ≤ level) → q x ≤ top
      go (yes l) = omega (arith, pays m bid q (who k own (via x)) x (t.bid-null (who k own (via x))) t.q-null (from-wants x i l), most (who k own (via x)) x)
      go (no l) = omega (arith, t.q-is x i, h)
