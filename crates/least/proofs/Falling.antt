-- From prices at which everybody holds what they demand, and a free item stands at the base, down to the least such prices. The search starts with what keeps
-- a price up from outside: the base, and the bids of those who hold nothing; and goes on along the holders. Each price then goes down by its distance.
-- THEORY.md 2.13. Assumes nothing.
use Prim.Native.Nat.{ℕ, zero, suc, ◌+◌, ◌-◌, ◌≤◌, ◌<◌}
use mathlib.Core.Path.{◌≡◌, refl, sym, ap, ◌∙◌, subst}
use mathlib.Core.Bool.{Bool, true, false, ◌&&◌}
use mathlib.Core.Logic.{◌⊎◌, inl, inr}
use native.Mathlib.Omega.{arith}
use native.Mathlib.Nat.{eq-zero-or-pos}
use native.Mathlib.Decide.{dec_le}
use lib.Dec.{eqb}
use borrow.Author.Tests.{eqb-true, eq-eqb, ne_eqb}
use Rattle.sets.specs.Count.{any_below, count}
use Rattle.sets.proofs.Counting.{pigeonhole-strict, count-mono, not-both, and_left, and_right, and_both, any-use, any-make, least, Least}
use Rattle.rule.proofs.Union.{Part, likes, likes-use, likes-make, sub-make}
use Rattle.rule.proofs.Overdemand.{within, Enough}
use Rattle.rule.proofs.Surplus.{wants_at, wants-make, Best, some-best}
use Rattle.rule.proofs.Furthest.{far, far-back}
use Rattle.least.specs.Holding.{Holds, Demands, Held}
use Rattle.least.specs.Searching.{line_at, reach_of, Source, Item, Search}
use Rattle.least.specs.Falling.{Idle, HeldItem}
use Rattle.least.proofs.Holding.{holds-or-idle}
use Rattle.least.proofs.Searching.{null-or-item, line-start, line-own, reach-start, reach-at}
use Rattle.least.proofs.Raising.{pays}

-- of the items of t the one that was entered first
abbrev First : (m : ℕ) (mask : ℕ → ℕ) (t : ℕ → Bool) → Type 0
First m mask t = (j : ℕ) × (j < suc m) × (t j ≡ true) × ((x : ℕ) → x < suc m → t x ≡ true → mask j ≤ mask x)

first-entered : (m : ℕ) (mask : ℕ → ℕ) (t : ℕ → Bool) (i : ℕ) → i < suc m → t i ≡ true → First m mask t
first-entered m mask t i l e = go (least (suc (mask i)) some)
  where
    some : ℕ → Bool
    some v = any_below (suc m) (λ x. t x && eqb (mask x) v)

    there : (x v : ℕ) → x < suc m → t x ≡ true → mask x ≡ v → some v ≡ true
    there x v lx ex ev = any-make (suc m) (λ x. t x && eqb (mask x) v) x lx (and_both (t x) (eqb (mask x) v) ex (eq-eqb (mask x) v ev))

    go : Least (suc (mask i)) some ⊎ ((v : ℕ) → v < suc (mask i) → some v ≡ false) → First m mask t
    go (inr none) = absurd (not-both (some (mask i)) (there i (mask i) l e refl) (none (mask i) (omega arith)))
    go (inl w) =
        let j = any-use (suc m) (λ x. t x && eqb (mask x) w.at) w.here in
        let at : mask j.0 ≡ w.at = eqb-true (mask j.0) w.at (and_right (t j.0) _ j.2) in
        (j.0, j.1, and_left (t j.0) _ j.2, λ x lx ex. low x lx ex j.0 at (dec_le w.at (mask x)))
      where
        low : (x : ℕ) → x < suc m → t x ≡ true → (j : ℕ) → mask j ≡ w.at → Dec (w.at ≤ mask x) → mask j ≤ mask x
        low x lx ex j at (yes h) = omega (arith, at, h)
        low x lx ex j at (no h) = absurd (not-both (some (mask x)) (there x (mask x) lx ex refl) (w.before (mask x) (omega (arith, h))))

-- what keeps the price of item x up from outside: the base, or a bid of somebody who holds nothing
abbrev pub KeptUp : (m : ℕ) (bid : ℕ → ℕ → ℕ) (on : ℕ → Bool) (own base best : ℕ → ℕ) → ℕ → Type 0
KeptUp m bid on own base best x = (best x ≡ base x) ⊎ ((b : ℕ) × (on b ≡ true) × Idle m own b × (bid b x ≡ best x))

-- prices q that balance above the base, what keeps them up from outside, the search that has entered every item that is held, and the prices p after it
pub record Fall (m n : ℕ) (bid : ℕ → ℕ → ℕ) (on : ℕ → Bool) (q own base best dist mask via p : ℕ → ℕ) : Type 0 where
  pub below : (b : ℕ) → on b ≡ true → b < n
  pub held : Held m bid on q own
  pub bid-null : (b : ℕ) → bid b 0 ≡ 0
  pub q-null : q 0 ≡ 0
  pub above : (x : ℕ) → Item m x → base x ≤ q x
  pub free : (x : ℕ) → Item m x → own x ≡ 0 → q x ≡ base x
  pub best-base : (x : ℕ) → Item m x → base x ≤ best x
  pub best-bid : (b x : ℕ) → on b ≡ true → Idle m own b → Item m x → bid b x ≤ best x
  pub best_is : (x : ℕ) → Item m x → KeptUp m bid on own base best x
  pub search : Search m (HeldItem m own) 0 (line_at bid own best) q dist mask via
  pub entered : (x : ℕ) → HeldItem m own x → 0 < mask x
  pub flat : (x : ℕ) → Item m x → own x ≡ 0 → dist x ≡ 0
  pub p-null : p 0 ≡ 0
  pub p-is : (x : ℕ) → Item m x → p x ≡ q x - dist x

module _ {m n : ℕ} {bid : ℕ → ℕ → ℕ} {on : ℕ → Bool} {q own base best dist mask via p : ℕ → ℕ} (f : Fall m n bid on q own base best dist mask via p) where
  abbrev line : ℕ → ℕ → ℕ
  line = line_at bid own best

  -- an idle bidder demands null, so they keep no price up past its height
  idle-null : (b : ℕ) → on b ≡ true → Idle m own b → Demands m bid q b 0
  idle-null b t idle = go (f.held.placed b t)
    where
      go : Demands m bid q b 0 ⊎ Holds m own b → Demands m bid q b 0
      go (inl w) = w
      go (inr w) = absurd (idle w.0 w.1 w.2)

  best-below : (x : ℕ) → Item m x → best x ≤ q x
  best-below x i = go (f.best_is x i)
    where
      go : KeptUp m bid on own base best x → best x ≤ q x
      go (inl e) = omega (arith, e, f.above x i)
      go (inr w) = omega (arith, w.3, idle-null w.0 w.1 w.2 x i.1, f.q-null, f.bid-null w.0)

  fallen : (x : ℕ) → Item m x → (p x + dist x ≡ q x) × (best x ≤ p x)
  fallen x i = go (eq-zero-or-pos (own x))
    where
      go : (own x ≡ 0) ⊎ (0 < own x) → (p x + dist x ≡ q x) × (best x ≤ p x)
      go (inl e) = (omega (arith, f.p-is x i, f.flat x i e), omega (arith, f.p-is x i, f.flat x i e, best-below x i))
      go (inr h) =
          let r = f.search.reach x 0 (i, h) (omega arith) (inl refl) in
          (omega (arith, r, line-start bid own best x, reach-start 0 line q dist, f.p-is x i), omega (arith, r, line-start bid own best x, reach-start 0 line q dist, f.p-is x i))

  pub from_base : (x : ℕ) → Item m x → base x ≤ p x
  from_base x i = omega (arith, (fallen x i).1, f.best-base x i)

  -- ---- everybody still holds what they demand

  reach-own : (y b : ℕ) → Item m y → own y ≡ suc b → reach_of 0 line q dist y + q y ≡ bid b y + dist y
  reach-own y b i e =
      let w = line-own bid own best y b y e f.held.null in
      omega (arith, w, reach-at 0 line q dist y i.0 (omega (arith, w, pays m bid q b y (f.bid-null b) f.q-null (f.held.known y b i.1 e).1)))

  -- who holds y, at the new prices
  own-wants : (y b : ℕ) → Item m y → own y ≡ suc b → Demands m bid p b y
  own-wants y b i e j lj = go (null-or-item m j lj)
    where
      old : Demands m bid q b y
      old = (f.held.known y b i.1 e).1

      some : 0 < own y
      some = omega (arith, e)

      go : (j ≡ 0) ⊎ Item m j → bid b j + p y ≤ bid b y + p j
      go (inl z) = omega (arith, ap (bid b) z, f.bid-null b, ap p z, f.p-null, (fallen y i).0, pays m bid q b y (f.bid-null b) f.q-null old)
      go (inr x) = by (eq-zero-or-pos (own j))
        where
          by : (own j ≡ 0) ⊎ (0 < own j) → bid b j + p y ≤ bid b y + p j
          by (inl z) = omega (arith, old j lj, (fallen y i).0, (fallen j x).0, f.flat j x z)
          by (inr h) =
              omega (
                arith,
                f.search.reach j y (x, h) i.1 (inr (f.entered y (i, some))),
                line-own bid own best y b j e f.held.null,
                reach-own y b i e,
                (fallen y i).0,
                (fallen j x).0,
              )

  idle-wants : (b : ℕ) → on b ≡ true → Idle m own b → Demands m bid p b 0
  idle-wants b t idle j lj = go (null-or-item m j lj)
    where
      go : (j ≡ 0) ⊎ Item m j → bid b j + p 0 ≤ bid b 0 + p j
      go (inl z) = omega (arith, ap (bid b) z, ap p z)
      go (inr x) = omega (arith, f.best-bid b j t idle x, (fallen j x).1, f.p-null)

  pub fall-held : Held m bid on p own
  fall-held =
      record {
        null = f.held.null;
        known = λ i b l e. ((f.held.known i b l e).0, known i b e (null-or-item m i l));
        placed = λ b t. placed b t (holds-or-idle m own b);
        once = f.held.once;
      }
    where
      known : (i b : ℕ) → own i ≡ suc b → (i ≡ 0) ⊎ Item m i → Demands m bid p b i
      known i b e (inl z) = absurd (omega (arith, e, ap own z, f.held.null))
      known i b e (inr x) = own-wants i b x e

      placed : (b : ℕ) → on b ≡ true → Holds m own b ⊎ Idle m own b → Demands m bid p b 0 ⊎ Holds m own b
      placed b t (inl w) = inr w
      placed b t (inr idle) = inl (idle-wants b t idle)

  -- ---- and each set of items above the base is wanted by more bidders than it has items: by their holders, and by who reached the one that was entered first

  -- who keeps the price of j up: somebody who demands it, and holds nothing or an item that was entered before
  abbrev Keeper : ℕ → Type 0
  Keeper j = (b : ℕ) × (on b ≡ true) × Demands m bid p b j × ((x : ℕ) → x < suc m → own x ≡ suc b → mask x < mask j)

  keeper : (j : ℕ) → HeldItem m own j → base j < p j → Keeper j
  keeper j h up = by (via j) refl
    where
      o : (via j < suc m) × Source mask (via j)
      o = f.search.source j h

      by : (y : ℕ) → via j ≡ y → Keeper j
      by zero e = go (f.best_is j h.0)
        where
          there : p j ≡ best j
          there = omega (arith, f.search.exact j h, ap (λ (v : ℕ). line v j) e, line-start bid own best j, ap (reach_of 0 line q dist) e, reach-start 0 line q dist, (fallen j h.0).0)

          go : KeptUp m bid on own base best j → Keeper j
          go (inl z) = absurd (omega (arith, z, there, up))
          go (inr w) =
              (w.0, w.1, (λ i li. omega (arith, idle-wants w.0 w.1 w.2 i li, w.3, there, f.p-null, f.bid-null w.0)), λ x lx ex. absurd (w.2 x lx ex))
      by (suc y) e = go (own (suc y)) refl
        where
          src : Source mask (suc y)
          src = subst (λ (v : ℕ). Source mask v) e o.1

          in-y : 0 < mask (suc y)
          in-y = from src
            where
              from : Source mask (suc y) → 0 < mask (suc y)
              from (inl z) = absurd (omega (arith, z))
              from (inr g) = g

          ly : suc y < suc m
          ly = omega (arith, o.0, e)

          some : 0 < own (suc y)
          some = (f.search.among (suc y) ly in-y).1

          go : (c : ℕ) → own (suc y) ≡ c → Keeper j
          go zero z = absurd (omega (arith, z, some))
          go (suc b) z = (
            b,
            (f.held.known (suc y) b ly z).0,
            (λ i li. omega (arith, own-wants (suc y) b (omega arith, ly) z i li, tight)),
            λ x lx ex. omega (arith, ap mask (f.held.once x (suc y) b lx ly ex z), f.search.order j h (f.entered j h), ap mask e),
          )
            where
              tight : bid b j + p (suc y) ≡ bid b (suc y) + p j
              tight =
                  omega (
                    arith,
                    f.search.exact j h,
                    ap (λ (v : ℕ). line v j) e,
                    ap (reach_of 0 line q dist) e,
                    line-own bid own best (suc y) b j z f.held.null,
                    reach-own (suc y) b (omega arith, ly) z,
                    (fallen j h.0).0,
                    (fallen (suc y) (omega arith, ly)).0,
                  )

  many : (t : ℕ → Bool) → t 0 ≡ false → (i : ℕ) → i < suc m → t i ≡ true → ((x : ℕ) → x < suc m → t x ≡ true → base x < p x)
      → count (suc m) t < count n (likes m (wants_at m bid p) t)
  many t t0 i l e up = by (first-entered m mask t i l e)
    where
      item : (x : ℕ) → x < suc m → t x ≡ true → Item m x
      item x lx ex = go (null-or-item m x lx)
        where
          go : (x ≡ 0) ⊎ Item m x → Item m x
          go (inl z) = absurd (not-both (t 0) (ap t (sym z) ∙ ex) t0)
          go (inr w) = w

      some : (x : ℕ) → x < suc m → t x ≡ true → 0 < own x
      some x lx ex = go (eq-zero-or-pos (own x))
        where
          go : (own x ≡ 0) ⊎ (0 < own x) → 0 < own x
          go (inl z) = absurd (omega (arith, up x lx ex, f.free x (item x lx ex) z, f.p-is x (item x lx ex)))
          go (inr h) = h

      own_at : (x : ℕ) → x < suc m → t x ≡ true → own x ≡ suc (own x - 1)
      own_at x lx ex = omega (arith, some x lx ex)

      likes-own : (x : ℕ) → x < suc m → t x ≡ true → likes m (wants_at m bid p) t (own x - 1) ≡ true
      likes-own x lx ex = likes-make m (wants_at m bid p) t (own x - 1) x lx (wants-make m bid p (own x - 1) x (own-wants x (own x - 1) (item x lx ex) (own_at x lx ex))) ex

      by : First m mask t → count (suc m) t < count n (likes m (wants_at m bid p) t)
      by j = go (keeper j.0 (item j.0 j.1 j.2, some j.0 j.1 j.2) (up j.0 j.1 j.2))
        where
          go : Keeper j.0 → count (suc m) t < count n (likes m (wants_at m bid p) t)
          go b =
              pigeonhole-strict (suc m) n t (likes m (wants_at m bid p) t) (λ x. own x - 1) b.0 (f.below b.0 b.1)
              (likes-make m (wants_at m bid p) t b.0 j.0 j.1 (wants-make m bid p b.0 j.0 b.2) j.2)
              (λ x lx ex z. omega (arith, b.3 x lx (own_at x lx ex ∙ ap suc z), j.3 x lx ex))
              (record {
                lands = λ x lx ex. f.below (own x - 1) (f.held.known x (own x - 1) lx (own_at x lx ex)).0;
                hits = likes-own;
                apart = λ x y lx ly ex ey z. f.held.once x y (own x - 1) lx ly (own_at x lx ex) (own_at y ly ey ∙ ap suc (sym z));
              })

  -- so all prices from the base up at which no set is overdemanded are from p up
  pub fall-least : (z : ℕ → ℕ) → ((x : ℕ) → Item m x → base x ≤ z x) → Enough m n (wants_at m bid z) → (i : ℕ) → i < suc m → p i ≤ z i
  unfolding Enough Part
  fall-least z from calm i l = go (some-best m p z)
    where
      go : Best m p z → p i ≤ z i
      go w = by (dec_le (p w.at) (z w.at))
        where
          by : Dec (p w.at ≤ z w.at) → p i ≤ z i
          by (yes h) = omega (arith, h, w.top i l)
          by (no h) = absurd no_more
            where
              mu : ℕ
              mu = p w.at - z w.at

              near : (x : ℕ) → x < suc m → p x ≤ z x + mu
              near x lx = omega (arith, w.top x lx, h)

              t : ℕ → Bool
              t = far m bid z p mu near

              t0 : t 0 ≡ false
              t0 = ne_eqb (p 0) (z 0 + mu) (λ e. omega (arith, e, f.p-null, h))

              up : (x : ℕ) → x < suc m → t x ≡ true → base x < p x
              up x lx e = at (null-or-item m x lx)
                where
                  at : (x ≡ 0) ⊎ Item m x → base x < p x
                  at (inl q) = absurd (not-both (t 0) (ap t (sym q) ∙ e) t0)
                  at (inr q) = omega (arith, eqb-true (p x) (z x + mu) e, h, from x q)

              back : (b : ℕ) → b < n → likes m (wants_at m bid p) t b ≡ true → within m (wants_at m bid z) t b ≡ true
              back b lb e =
                  let v = likes-use m (wants_at m bid p) t b e in
                  sub-make m (wants_at m bid z b) t (λ x lx g. (far-back m bid z p mu near b v.0 x v.1 lx v.3 v.2 g).0)

              no_more : ⊥
              no_more =
                  omega (
                    arith,
                    calm t t0,
                    many t t0 w.at w.small (eq-eqb (p w.at) (z w.at + mu) (omega (arith, h))) up,
                    count-mono n (likes m (wants_at m bid p) t) (within m (wants_at m bid z) t) back,
                  )
