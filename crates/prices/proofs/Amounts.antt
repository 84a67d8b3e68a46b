-- Whether the largest of some amounts is above a limit; and whether a price is below its floor, by how far the floors are above their prices. Assumes nothing.
use Prim.Native.Nat.{ℕ, ◌+◌, ◌-◌, ◌≤◌, ◌<◌, min, max}
use mathlib.Core.Path.{◌≡◌, sym, ap, ap₂, ◌∙◌}
use mathlib.Core.Bool.{Bool, true, false, ◌||◌}
use mathlib.Core.List.{List}
use mathlib.Core.Logic.{◌⊎◌, inl, inr}
use native.Mathlib.Omega.{arith}
use native.Mathlib.Numerals.{add-one}
use lib.Dec.{ltb}
use lib.ListN.{length, get_or, drop, length-drop, get_or-eq_default}
use lib.Seq.{get_or-drop}
use borrow.Author.Tests.{ltb-true, lt-ltb, le-ltb}
use Rattle.sets.specs.Count.{any_below}
use Rattle.sets.proofs.Counting.{lt-or-le, any-use, any-make, not-both}
use Rattle.rule.specs.Refusal.{any_under}
use Rattle.rule.proofs.Refusal.{under_some, under-not}

-- the larger of two is above h where one of them is
over-max : (h a b : ℕ) → ltb h (max a b) ≡ ltb h b || ltb h a
over-max h a b = go (lt-or-le h b) (lt-or-le h a)
  where
    go : (h < b) ⊎ (b ≤ h) → (h < a) ⊎ (a ≤ h) → ltb h (max a b) ≡ ltb h b || ltb h a
    go (inl l) _ = lt-ltb h (max a b) (omega arith) ∙ sym (ap (λ (x : Bool). x || ltb h a) (lt-ltb h b l))
    go (inr l) (inl m) = lt-ltb h (max a b) (omega arith) ∙ sym (ap₂ ◌||◌ (le-ltb h b l) (lt-ltb h a m))
    go (inr l) (inr m) = le-ltb h (max a b) (omega arith) ∙ sym (ap₂ ◌||◌ (le-ltb h b l) (le-ltb h a m))

-- the largest so far of f 0, f 1, … is above the limit just where one of them is
module _ (limit : ℕ) (f : ℕ → ℕ) where
  abbrev past : ℕ → Bool
  past k = ltb limit (f k)

  pub past_more : (i most next : ℕ) → ltb limit most ≡ any_below i past → next ≡ max most (f i) → ltb limit next ≡ any_below (i + 1) past
  unfolding any_below
  past_more i most next e en =
      ap (ltb limit) en ∙ over-max limit most (f i) ∙ ap (λ (x : Bool). past i || x) e ∙ sym (ap (λ (k : ℕ). any_below k past) (add-one i))

  pub past_end : (i n most : ℕ) → i ≤ n → n ≤ i → ltb limit most ≡ any_below i past → ltb limit most ≡ any_below n past
  past_end i n most l h e = let same : i ≡ n = omega arith in e ∙ ap (λ (k : ℕ). any_below k past) same

  none-past : (n : ℕ) → any_below n past ≡ false → (k : ℕ) → k < n → f k ≤ limit
  none-past n e k l = go (lt-or-le limit (f k))
    where
      go : (limit < f k) ⊎ (f k ≤ limit) → f k ≤ limit
      go (inr q) = q
      go (inl q) = absurd (not-both (any_below n past) (any-make n past k l (lt-ltb limit (f k) q)) e)

-- prices and floors that stand side by side are asked first, and then the floors past the last price
module _ (prices floors : List ℕ) (n : ℕ) (least : n ≡ min (length prices) (length floors)) where
  abbrev far : ℕ → ℕ
  far k = get_or floors k 0 - get_or prices k 0

  pub under_first : any_below n (past 0 far) ≡ true → true ≡ any_under prices floors
  under_first e =
      let w = any-use n (past 0 far) e in
      let more = ltb-true 0 (far w.0) w.2 in
      sym (under_some prices floors w.0 (omega (arith, w.1, least)) (omega (arith, more)))

  pub under_rest : any_below n (past 0 far) ≡ false → (b : Bool) → b ≡ any_below (length (drop n floors)) (past 0 (λ k. get_or (drop n floors) k 0)) → b ≡ any_under prices floors
  under_rest e true q =
      let w = any-use (length (drop n floors)) (past 0 (λ k. get_or (drop n floors) k 0)) (sym q) in
      let more = ltb-true 0 (get_or (drop n floors) w.0 0) w.2 in
      let here : n + w.0 < length floors = omega (arith, w.1, length-drop {A = ℕ} n floors) in
      sym (under_some prices floors (n + w.0) here
      (omega (arith, more, get_or-drop n floors w.0 0, get_or-eq_default prices 0 {n = n + w.0} (omega (arith, here, least)))))
  under_rest e false q = sym (under-not prices floors (λ k l. go k l (lt-or-le k n)))
    where
      go : (k : ℕ) → k < length floors → (k < n) ⊎ (n ≤ k) → get_or floors k 0 ≤ get_or prices k 0
      go k l (inl h) = omega (arith, none-past 0 far n e k h)
      go k l (inr h) =
          let there : n + (k - n) ≡ k = omega arith in
          let none = none-past 0 (λ j. get_or (drop n floors) j 0) (length (drop n floors)) (sym q) (k - n) (omega (arith, l, h, length-drop {A = ℕ} n floors)) in
          omega (arith, none, get_or-drop n floors (k - n) 0, ap (λ (j : ℕ). get_or floors j 0) there)
