-- Whether a demand counts, by the set that the code makes of it: what it has in common with the set that moves, or what it has beyond it. Assumes nothing.
use Prim.Native.Nat.{ℕ, zero, suc, ◌<◌}
use mathlib.Core.Path.{◌≡◌, refl, sym, ap, ◌∙◌}
use mathlib.Core.Bool.{Bool, true, false, ◌&&◌, not}
use native.Mathlib.Omega.{arith}
use lib.Dec.{eqb}
use borrow.Author.Tests.{eqb-true, eq-eqb, ne_eqb}
use Rattle.sets.specs.Count.{◌⇒◌, all_below, any_below}
use Rattle.sets.specs.Bit.{has, set_of, each, any}
use Rattle.sets.proofs.Counting.{and_left, and_right, and_both, imp_use, imp-make, not-both, not_is, is_false, together, all-use, all-make, any-use, any-make}
use Rattle.sets.proofs.Members.{set_of-lt, has-zero, empty-has, agree, none-zero}
use Rattle.rule.specs.Demand.{Demand, wants}
use Rattle.rule.specs.Excess.{something_in, nothing_outside}
use Rattle.rule.proofs.Moves.{some_item}

module _ (d : Demand) (s : ℕ) where
  abbrev common : ℕ → Bool
  common i = has d.items i && has s i

  abbrev beyond : ℕ → Bool
  beyond i = has d.items i && not (has s i)

  -- null is in no set
  null-not : (b : Bool) → has d.items 0 && b ≡ false
  null-not b = ap (λ (a : Bool). a && b) (has-zero d.items)

  -- an item of the demand is demanded
  item : (i : ℕ) → has d.items i ≡ true → wants d i ≡ true
  unfolding wants
  item zero e = absurd (not-both (has d.items 0) e (has-zero d.items))
  item (suc k) e = e

  -- and what is demanded is such an item, or null
  item_of : (i : ℕ) → (i ≡ 0 → d.null ≡ true → ⊥) → wants d i ≡ true → has d.items i ≡ true
  unfolding wants
  item_of zero not_null e = absurd (not_null refl e)
  item_of (suc k) not_null e = e

  -- something in the set
  pub in-test : not (eqb (set_of 32 (λ k. has d.items k && has s k)) 0) ≡ something_in 32 s d
  unfolding any
  in-test = together _ _ to back
    where
      test : ℕ → Bool
      test i = wants d i && has s i

      to : not (eqb (set_of 32 common) 0) ≡ true → any_below 33 test ≡ true
      to h =
          let w = some_item 32 (set_of 32 common) (set_of-lt 32 common) (λ e. not-both (eqb (set_of 32 common) 0) (eq-eqb (set_of 32 common) 0 e) (not_is _ h)) in
          let t : common w.0 ≡ true = sym (agree 32 common (null-not (has s 0)) w.0 w.1) ∙ w.2 in
          any-make 33 test w.0 w.1 (and_both (wants d w.0) _ (item w.0 (and_left (has d.items w.0) _ t)) (and_right (has d.items w.0) _ t))

      back : any_below 33 test ≡ true → not (eqb (set_of 32 common) 0) ≡ true
      back h =
          let w = any-use 33 test h in
          let in-set : has s w.0 ≡ true = and_right (wants d w.0) _ w.2 in
          let own = item_of w.0 (λ z n. not-both (has s w.0) in-set (ap (has s) z ∙ has-zero s)) (and_left (wants d w.0) _ w.2) in
          let there : has (set_of 32 common) w.0 ≡ true = agree 32 common (null-not (has s 0)) w.0 w.1 ∙ and_both (has d.items w.0) _ own in-set in
          ap not (ne_eqb (set_of 32 common) 0 (λ e. not-both (has 0 w.0) (ap (λ (x : ℕ). has x w.0) (sym e) ∙ there) (empty-has w.0)))

  -- nothing outside it: null lies outside
  pub null-test : d.null ≡ true → false ≡ nothing_outside 32 s d
  unfolding each wants
  null-test n = sym (is_false (nothing_outside 32 s d) (λ h. not-both (has s 0) (imp_use (wants d 0) (has s 0) (all-use 33 (λ i. wants d i ⇒ has s i) h 0 (omega arith)) n) (has-zero s)))

  pub out-test : d.null ≡ false → eqb (set_of 32 (λ k. has d.items k && not (has s k))) 0 ≡ nothing_outside 32 s d
  unfolding each
  out-test n = together _ _ to back
    where
      test : ℕ → Bool
      test i = wants d i ⇒ has s i

      at : (i : ℕ) → i < 33 → has (set_of 32 beyond) i ≡ beyond i
      at = agree 32 beyond (null-not (not (has s 0)))

      to : eqb (set_of 32 beyond) 0 ≡ true → all_below 33 test ≡ true
      to h = all-make 33 test (λ i l. imp-make (wants d i) (has s i) (λ w. inside i l (has s i) refl (item_of i (λ z null. not-both d.null null n) w)))
        where
          inside : (i : ℕ) → i < 33 → (b : Bool) → has s i ≡ b → has d.items i ≡ true → has s i ≡ true
          inside i l true q own = q
          inside i l false q own =
              absurd (not-both (has 0 i) (ap (λ (x : ℕ). has x i) (sym (eqb-true (set_of 32 beyond) 0 h)) ∙ at i l ∙ and_both (has d.items i) _ own (ap not q)) (empty-has i))

      back : all_below 33 test ≡ true → eqb (set_of 32 beyond) 0 ≡ true
      back h =
          eq-eqb (set_of 32 beyond) 0
          (none-zero 32 (set_of 32 beyond) (set_of-lt 32 beyond) (λ i l. at i l ∙ is_false (beyond i) (λ t.
          not-both (has s i) (imp_use (wants d i) (has s i) (all-use 33 test h i l) (item i (and_left (has d.items i) _ t))) (not_is (has s i) (and_right (has d.items i) _ t)))))
