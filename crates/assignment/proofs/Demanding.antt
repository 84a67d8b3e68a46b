-- Who demands each place: the bidders' demands are added one after the other, item after item. Assumes nothing.
use Prim.Native.Nat.{ℕ, zero, suc, ◌+◌, ◌-◌, ◌^◌, ◌≤◌, ◌<◌}
use mathlib.Core.Path.{◌≡◌, refl, sym, ap, ap₂, ◌∙◌}
use mathlib.Core.Bool.{Bool, true, false, ◌&&◌, ◌||◌, not}
use mathlib.Core.List.{List, []}
use mathlib.Core.Logic.{◌⊎◌, inl, inr}
use native.Mathlib.Omega.{arith}
use native.Mathlib.Decide.{ℕ_discrete}
use lib.Bits.{bit_or}
use lib.Dec.{eqb}
use lib.ListN.{length, get_or, set, replicate, length-set, length-replicate}
use lib.Seq.{get_or-set_same, get_or-set_other}
use borrow.Author.Count.{below_more}
use borrow.Author.Tests.{eq-eqb, ne_eqb}
use Rattle.sets.specs.Bit.{is_set, has, set_of, lowest, size}
use Rattle.sets.proofs.Counting.{or-false, and-true, and-right-false, not-both, is_false}
use Rattle.sets.proofs.Filling.{zeros-at}
use Rattle.sets.proofs.Members.{is_set-empty, is_set-or, is_set-set_of, has-zero, has-one-more, has-place, empty-has}
use Rattle.sets.proofs.Taking.{member-lt, lowest-of, without-less}
use Rattle.rule.specs.Demand.{wants}
use Rattle.assignment.specs.Turn.{asks}
use Rattle.assignment.proofs.Places.{with-use, with-new}

-- ---- the items of one bidder

-- the bidder, which is alone in the set s, is added for the items that are not in `rest`
pub record Adding (who₀ : List ℕ) (items s : ℕ) (who : List ℕ) (rest : ℕ) : Type 0 where
  pub long : length who ≡ 33
  pub fits : rest < 2 ^ 32
  pub same : (p c : ℕ) → p < 33 → is_set (get_or who p 0) c || (is_set s c && has rest p) ≡ is_set (get_or who₀ p 0) c || (is_set s c && has items p)

pub add_start : (who : List ℕ) (items s : ℕ) → length who ≡ 33 → items < 2 ^ 32 → Adding who items s who items
add_start who items s long l = record { long = long; fits = l; same = λ p c lp. refl }

module _ {who₀ : List ℕ} {items s : ℕ} {who : List ℕ} {rest : ℕ} (g : Adding who₀ items s who rest) where
  -- item i is added
  adds : (i : ℕ) → 0 < i → i ≤ 32 → is_set rest (i - 1) ≡ true → (rest' : ℕ) → rest' ≡ set_of 32 (λ k. has rest k && not (eqb k i)) → Adding who₀ items s (set who i (bit_or (get_or who i 0) s)) rest'
  adds i pos li on rest' er =
      record {
        long = length-set who i _ ∙ g.long;
        fits = member-lt 32 rest' (λ k. has rest k && not (eqb k i)) er;
        same = λ p c lp. at p c lp (ℕ_discrete p i) ∙ g.same p c lp;
      }
    where
      v : ℕ
      v = bit_or (get_or who i 0) s

      joins : (a e : Bool) → (a || e) || (e && false) ≡ a || (e && true)
      joins true e = refl
      joins false true = refl
      joins false false = refl

      rest_at : (p : ℕ) → p < 33 → (b : Bool) → eqb p i ≡ b → has rest' p ≡ has rest p && not b
      rest_at zero lp b e = has-zero rest' ∙ sym (ap (λ (a : Bool). a && not b) (has-zero rest))
      rest_at (suc j) lp b e = unfold has in ap (λ (t : ℕ). is_set t j) er ∙ is_set-set_of 32 (λ k. has rest k && not (eqb k i)) j (omega arith) ∙ ap (λ (a : Bool). is_set rest j && not a) e

      new : (p c : ℕ) → p ≡ i → is_set (get_or (set who i v) p 0) c ≡ is_set (get_or who p 0) c || is_set s c
      new p c e =
          let long = g.long in
          ap (λ (j : ℕ). is_set (get_or (set who i v) j 0) c) e ∙ ap (λ (t : ℕ). is_set t c) (get_or-set_same who i v 0 (omega arith)) ∙ is_set-or (get_or who i 0) s c
          ∙ ap (λ (j : ℕ). is_set (get_or who j 0) c || is_set s c) (sym e)

      at : (p c : ℕ) → p < 33 → Dec (p ≡ i) → is_set (get_or (set who i v) p 0) c || (is_set s c && has rest' p) ≡ is_set (get_or who p 0) c || (is_set s c && has rest p)
      at p c lp (no ne) = ap₂ (λ (t : ℕ) (h : Bool). is_set t c || (is_set s c && h)) (get_or-set_other who i p v 0 ne) (rest_at p lp false (ne_eqb p i ne) ∙ and-true (has rest p))
      at p c lp (yes e) =
          ap₂ (λ (a h : Bool). a || (is_set s c && h)) (new p c e) (rest_at p lp true (eq-eqb p i e) ∙ and-right-false (has rest p) false refl)
          ∙ joins (is_set (get_or who p 0) c) (is_set s c) ∙ ap (λ (h : Bool). is_set (get_or who p 0) c || (is_set s c && h)) (sym (ap (has rest) e ∙ has-place rest i (λ z. omega arith) ∙ on))

  -- the lowest item that is left
  module _ (some : rest ≡ 0 → ⊥) (i : ℕ) (low : i ≡ lowest 32 (has rest)) where
    pub next-item : (0 < i) × (i ≤ 32) × (is_set rest (i - 1) ≡ true)
    next-item = lowest-of 32 rest g.fits some i low

    module _ (rest' : ℕ) (er : rest' ≡ set_of 32 (λ k. has rest k && not (eqb k i))) where
      pub add-less : size 32 rest' < size 32 rest
      add-less = let v = next-item in without-less 32 rest i rest' er v.0 v.1 v.2

      pub add-next : Adding who₀ items s (set who i (bit_or (get_or who i 0) s)) rest'
      add-next = let v = next-item in adds i v.0 v.1 v.2 rest' er

  -- nothing is left
  pub add-end : rest ≡ 0 → (p c : ℕ) → p < 33 → is_set (get_or who p 0) c ≡ is_set (get_or who₀ p 0) c || (is_set s c && has items p)
  add-end z p c lp =
      sym (ap (λ (h : Bool). is_set (get_or who p 0) c || (is_set s c && h)) (ap (λ (t : ℕ). has t p) z ∙ empty-has p) ∙ ap (λ (h : Bool). is_set (get_or who p 0) c || h) (and-right-false (is_set s c) false refl) ∙ or-false (is_set (get_or who p 0) c))
      ∙ g.same p c lp

-- ---- the bidders one after the other

module _ (sets : List ℕ) (nulls : ℕ) where
  -- the items of the first b bidders are added, and who says null
  pub record Wanting (who : List ℕ) (b : ℕ) : Type 0 where
    pub long : length who ≡ 33
    pub done : (c : ℕ) → c < b → (p : ℕ) → p < 33 → is_set (get_or who p 0) c ≡ asks sets nulls c p
    pub rest : (c : ℕ) → b ≤ c → (p : ℕ) → p < 33 → is_set (get_or who p 0) c ≡ asks [] nulls c p

  pub wanting-start : Wanting (set (replicate 33 0) 0 nulls) 0
  unfolding wants
  wanting-start =
      record {
        long = length-set (replicate 33 0) 0 nulls ∙ length-replicate {A = ℕ} 33 0;
        done = λ c l. absurd (let no : ⊥ = omega arith in no);
        rest = λ c l p lp. at c p;
      }
    where
      at : (c p : ℕ) → is_set (get_or (set (replicate 33 0) 0 nulls) p 0) c ≡ asks [] nulls c p
      at c zero = sym (has-one-more nulls c)
      at c (suc j) = ap (λ (s : ℕ). is_set s c) (get_or-set_other (replicate 33 0) 0 (suc j) nulls 0 (λ q. omega arith) ∙ zeros-at 33 (suc j)) ∙ is_set-empty c ∙ sym (empty-has (suc j))

  -- bidder b's are added
  pub wanting-next : {who : List ℕ} {b : ℕ} → Wanting who b → b < 64 → (s : ℕ) → s ≡ set_of 64 (λ j. has 0 j || eqb j (b + 1)) → (who' : List ℕ) → length who' ≡ 33
      → ((p c : ℕ) → p < 33 → is_set (get_or who' p 0) c ≡ is_set (get_or who p 0) c || (is_set s c && has (get_or sets b 0) p)) → Wanting who' (b + 1)
  unfolding wants
  wanting-next {who} {b} g lb s es who' long h =
      record {
        long = long;
        done = below_more _ _ (λ c l p lp. other c p lp (λ q. omega arith) ∙ g.done c l p lp) here;
        rest = λ c l p lp. other c p lp (λ q. omega arith) ∙ g.rest c (omega arith) p lp;
      }
    where
      joins : (p : ℕ) → asks [] nulls b p || (true && has (get_or sets b 0) p) ≡ asks sets nulls b p
      joins zero = ap (λ (h : Bool). has nulls (b + 1) || h) (has-zero (get_or sets b 0)) ∙ or-false (has nulls (b + 1))
      joins (suc j) = ap (λ (h : Bool). h || has (get_or sets b 0) (suc j)) (empty-has (suc j))

      here : (p : ℕ) → p < 33 → is_set (get_or who' p 0) b ≡ asks sets nulls b p
      here p lp = h p b lp ∙ ap₂ (λ (a e : Bool). a || (e && has (get_or sets b 0) p)) (g.rest b (omega arith) p lp) (with-new 0 b s es lb) ∙ joins p

      alone : (c : ℕ) → (c ≡ b → ⊥) → (is_set 0 c ≡ true) ⊎ (c ≡ b) → ⊥
      alone c ne (inl o) = not-both (is_set 0 c) o (is_set-empty c)
      alone c ne (inr e) = ne e

      other : (c p : ℕ) → p < 33 → (c ≡ b → ⊥) → is_set (get_or who' p 0) c ≡ is_set (get_or who p 0) c
      other c p lp ne =
          h p c lp ∙ ap (λ (e : Bool). is_set (get_or who p 0) c || (e && has (get_or sets b 0) p)) (is_false (is_set s c) (λ o. alone c ne (with-use 0 b s es c o))) ∙ or-false (is_set (get_or who p 0) c)
