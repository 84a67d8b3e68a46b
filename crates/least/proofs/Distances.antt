-- Distances, place by place, and the nearest item. THEORY.md 2.12. Assumes nothing.
use Prim.Native.Nat.{ℕ, zero, suc, ◌+◌, ◌-◌, ◌≤◌, ◌<◌, min, max}
use mathlib.Core.Path.{◌≡◌, refl, sym, ap, ◌∙◌, subst}
use mathlib.Core.Bool.{Bool, cond}
use mathlib.Core.List.{List}
use mathlib.Core.Logic.{◌⊎◌, inl, inr}
use native.Mathlib.Omega.{arith}
use native.Mathlib.Decide.{ℕ_discrete, dec_le}
use lib.Dec.{eqb}
use lib.ListN.{length, get_or, set, length-set}
use lib.Seq.{get_or-set_same, get_or-set_other}
use borrow.Author.Count.{below_more}
use borrow.Author.Tests.{eq-eqb, ne_eqb}
use Rattle.rule.specs.Sheet.{amount}
use Rattle.least.specs.Searching.{Item, Relaxed}
use Rattle.least.specs.Steps.{Reached, LeftAt, IsLeft, Lowest, NumberOf, Numbered, WithDistance, Nearest, at_option}

-- ---- two numbers compared

-- what `if_same` gives, case by case
pub same_or : (a b x y r : ℕ) → r ≡ cond (eqb a b) x y → (a ≡ b → r ≡ x) × ((a ≡ b → ⊥) → r ≡ y)
same_or a b x y r e = ((λ q. e ∙ ap (λ (t : Bool). cond t x y) (eq-eqb a b q)), λ n. e ∙ ap (λ (t : Bool). cond t x y) (ne_eqb a b n))

-- ---- what stands for an option

pub option-null : (null : ℕ) (xs : List ℕ) (i : ℕ) → i ≡ 0 → null ≡ at_option null xs i
unfolding at_option
option-null null xs zero e = refl
option-null null xs (suc k) e = absurd (omega arith)

pub option-item : (null : ℕ) (xs : List ℕ) (i : ℕ) → (i ≡ 0 → ⊥) → get_or xs (i - 1) 0 ≡ at_option null xs i
unfolding at_option
option-item null xs zero ne = absurd (ne refl)
option-item null xs (suc k) ne = let e : suc k - 1 ≡ k = omega arith in ap (λ (j : ℕ). get_or xs j 0) e

pub option-amount : (xs : List ℕ) (i : ℕ) → at_option 0 xs i ≡ amount xs i
unfolding amount at_option
option-amount xs zero = refl
option-amount xs (suc k) = refl

-- ---- somebody with this line and reach u is entered at j

module _ (u j : ℕ) (line prices dist via : List ℕ) where
  abbrev At : (x d w : ℕ) → Type 0
  At x d w = Relaxed u j (get_or line x 0) (get_or prices x 0) (get_or dist x 0) (get_or via x 0) d w

  pub reached-more : (n : ℕ) (near from : List ℕ) → n < 64 → Reached u j line prices dist via n near from
      → (v d w : ℕ) → v ≡ u + get_or prices n 0 - get_or line n 0 → d ≡ min v (get_or near n 0)
      → (d ≡ get_or near n 0 → w ≡ get_or from n 0) × ((d ≡ get_or near n 0 → ⊥) → w ≡ j)
      → Reached u j line prices dist via (n + 1) (set near n d) (set from n w)
  reached-more n near from l t v d w ev ed ew =
      record {
        long_dist = length-set near n d ∙ t.long_dist;
        long_via = length-set from n w ∙ t.long_via;
        done = below_more _ _ before here;
        rest = λ x lx.
            let o = t.rest x (omega arith) in
            (get_or-set_other near n x d 0 (λ q. omega arith) ∙ o.0, get_or-set_other from n x w 0 (λ q. omega arith) ∙ o.1);
      }
    where
      before : (x : ℕ) → x < n → At x (get_or (set near n d) x 0) (get_or (set from n w) x 0)
      before x lx =
          subst (λ (z : ℕ). At x z (get_or (set from n w) x 0)) (sym (get_or-set_other near n x d 0 (λ q. omega arith)))
          (subst (λ (z : ℕ). At x (get_or near x 0) z) (sym (get_or-set_other from n x w 0 (λ q. omega arith))) (t.done x lx))

      old : (get_or near n 0 ≡ get_or dist n 0) × (get_or from n 0 ≡ get_or via n 0)
      old = t.rest n (omega arith)

      this : Dec (get_or near n 0 ≤ v) → At n d w
      this (yes h) =
          let same : d ≡ get_or near n 0 = omega (arith, h, ed) in
          inr (omega (arith, h, ev, old.0), same ∙ old.0, ew.0 same ∙ old.1)
      this (no h) = inl (omega (arith, h, ev, old.0), omega (arith, h, ed, ev), ew.1 (λ z. omega (arith, z, h, ed)))

      here : At n (get_or (set near n d) n 0) (get_or (set from n w) n 0)
      here =
          subst (λ (z : ℕ). At n z (get_or (set from n w) n 0)) (sym (get_or-set_same near n d 0 (omega (arith, t.long_dist))))
          (subst (λ (z : ℕ). At n d z) (sym (get_or-set_same from n w 0 (omega (arith, t.long_via)))) (this (dec_le (get_or near n 0) v)))

-- ---- the least distance of the places that are left

-- one place more, whose distance d is set first
pub lowest-more : (dist left : List ℕ) (n r d k v : ℕ) → n < length dist → Lowest dist left n r
    → (get_or left n 0 ≡ 0 → k ≡ 65535) × ((get_or left n 0 ≡ 0 → ⊥) → k ≡ d) → v ≡ min r k → v ≤ 65535 → Lowest (set dist n d) left (n + 1) v
lowest-more dist left n r d k v l t ek ev most =
    record {
      least = below_more _ _ (λ x lx h. omega (arith, t.least x lx h, ev, off x lx)) (λ h. omega (arith, ek.1 h, ev, same));
      some = go (ℕ_discrete (get_or left n 0) 0) (dec_le r k) t.some;
    }
  where
    same : get_or (set dist n d) n 0 ≡ d
    same = get_or-set_same dist n d 0 l

    off : (x : ℕ) → x < n → get_or (set dist n d) x 0 ≡ get_or dist x 0
    off x lx = get_or-set_other dist n x d 0 (λ q. omega arith)

    go : Dec (get_or left n 0 ≡ 0) → Dec (r ≤ k) → (r ≡ 65535) ⊎ ((x : ℕ) × (x < n) × LeftAt left x × (get_or dist x 0 ≡ r))
        → (v ≡ 65535) ⊎ ((x : ℕ) × (x < n + 1) × LeftAt left x × (get_or (set dist n d) x 0 ≡ v))
    go z (yes h) (inl e) = inl (omega (arith, ev, h, e))
    go z (yes h) (inr w) = inr (w.0, omega (arith, w.1), w.2, omega (arith, off w.0 w.1, w.3, ev, h))
    go (yes z) (no h) s = inl (omega (arith, ek.0 z, ev, h))
    go (no z) (no h) s = inr (n, omega arith, z, omega (arith, same, ek.1 z, ev, h))

-- ---- a place at that distance

pub with-more : (dist left : List ℕ) (low n r w v : ℕ) → WithDistance dist left low n r
    → (get_or dist n 0 ≡ low → w ≡ get_or left n 0) × ((get_or dist n 0 ≡ low → ⊥) → w ≡ 0) → v ≡ max r w → WithDistance dist left low (n + 1) v
with-more dist left low n r w v t ew ev =
    record {
      found = below_more _ _ (λ x l h e. omega (arith, t.found x l h e, ev)) (λ h e. omega (arith, ew.0 e, h, ev));
      there = λ pos. go pos (dec_le w r) (ℕ_discrete (get_or dist n 0) low);
    }
  where
    go : 0 < v → Dec (w ≤ r) → Dec (get_or dist n 0 ≡ low) → (x : ℕ) × (x < n + 1) × (get_or left x 0 ≡ v) × (get_or dist x 0 ≡ low)
    go pos (yes h) d = let o = t.there (omega (arith, pos, ev, h)) in (o.0, omega (arith, o.1), omega (arith, o.2, ev, h), o.3)
    go pos (no h) (yes e) = (n, omega arith, omega (arith, ew.0 e, ev, h), e)
    go pos (no h) (no ne) = absurd (omega (arith, ew.1 ne, h))

-- ---- the nearest item

pub nearest-null : (m null : ℕ) (dist left : List ℕ) (low : ℕ) → Lowest dist left m low → null ≤ low → Nearest m null dist left 0
unfolding amount
nearest-null m null dist left low t h = record { at_null = λ z i x o. go i x o; at_item = λ z. absurd (omega arith) }
  where
    go : (i : ℕ) → Item m i → IsLeft left i → null ≤ amount dist i
    go zero x o = absurd (o refl)
    go (suc k) x o = omega (arith, h, t.least k (omega (arith, x.1)) o)

pub nearest-item : (m null : ℕ) (dist left : List ℕ) (low n r : ℕ) → m ≤ 64 → null ≤ 65535 → Numbered left → Lowest dist left m low → (null ≤ low → ⊥)
    → WithDistance dist left low m n → (n ≤ 64 → r ≡ n) × (64 < n → r ≡ n - 64) → Nearest m null dist left r
unfolding amount Numbered
nearest-item m null dist left low n r lm small numbered t h p er = by t.some
  where
    Is : ℕ → Type 0
    Is i = (0 < i) × Item m i × IsLeft left i × (amount dist i < null) × ((k : ℕ) → Item m k → IsLeft left k → amount dist i ≤ amount dist k)

    least : (i : ℕ) → Item m i → IsLeft left i → low ≤ amount dist i
    least zero y o = absurd (o refl)
    least (suc k) y o = t.least k (omega (arith, y.1)) o

    -- the place that has this number is that of the item
    there : (x : ℕ) → x < m → get_or left x 0 ≡ n → 0 < n → get_or dist x 0 ≡ low
        → Is r
    there x l e pos d = go (numbered x)
      where
        at : r ≡ suc x → Is r
        at q =
            subst (λ (i : ℕ). Is i) (sym q)
            (omega arith, (omega arith, omega (arith, l)), (λ z. omega (arith, z, e, pos)), omega (arith, d, h), λ i y o. omega (arith, d, least i y o))

        go : NumberOf x (get_or left x 0) → Is r
        go (inl z) = absurd (omega (arith, z, e, pos))
        go (inr (inl z)) = at (er.0 (omega (arith, z, e, l, lm)) ∙ sym e ∙ z)
        go (inr (inr z)) = at (omega (arith, er.1 (omega (arith, z, e)), z, e))

    by : (low ≡ 65535) ⊎ ((x : ℕ) × (x < m) × LeftAt left x × (get_or dist x 0 ≡ low)) → Nearest m null dist left r
    by (inl e) = absurd (omega (arith, e, small, h))
    by (inr w) =
        let pos = p.found w.0 w.1 w.2 w.3 in
        let o = p.there pos in
        let v = there o.0 o.1 o.2 pos o.3 in
        record { at_null = λ z. absurd (omega (arith, z, v.0)); at_item = λ z. (v.1, v.2, v.3, v.4) }
