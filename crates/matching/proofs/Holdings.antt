-- Who holds what: how many items a bidder holds, which, and how that changes when an item is given away. Assumes nothing.
use Prim.Native.Nat.{ℕ, zero, suc, ◌+◌, ◌-◌, ◌≤◌, ◌<◌}
use mathlib.Core.Path.{◌≡◌, refl, ◌∙◌, ap, sym}
use mathlib.Core.Bool.{Bool, true, false}
use mathlib.Core.Logic.{◌⊎◌, inl, inr}
use mathlib.Core.List.{List}
use native.Mathlib.Nat.{not-suc-le-zero}
use native.Mathlib.Decide.{ℕ_discrete}
use native.Mathlib.Omega.{arith}
use lib.Dec.{eqb}
use lib.ListN.{length, get_or, set, length-set}
use lib.Seq.{get_or-set_same, get_or-set_other}
use borrow.Author.Tests.{eqb-true, eq-eqb, ne_eqb}
use Rattle.sets.specs.Bit.{is_set}
use Rattle.sets.specs.Count.{to_nat, count}
use Rattle.sets.proofs.Counting.{Least, least, count-cong, count_none, once-count, count-pos, count-witness, below_suc, not-both}
use Rattle.matching.specs.Demand.{Fair}
use Rattle.matching.specs.Chain.{held, Kept}

pub no_both : {A : Type 0} {b : Bool} → b ≡ true → b ≡ false → A
no_both {A} {b} p q = absurd (not-both b p q)

-- ---- how many items the bidder at place c holds

pub holds-one : (l : List ℕ) (c i : ℕ) → i < 32 → get_or l i 0 ≡ c + 1 → 1 ≤ held l c
unfolding held
holds-one l c i li e = count-pos 32 (λ i. eqb (get_or l i 0) (c + 1)) i li (eq-eqb (get_or l i 0) (c + 1) e)

pub holds-none : (l : List ℕ) (c : ℕ) → ((i : ℕ) → i < 32 → get_or l i 0 ≡ c + 1 → ⊥) → held l c ≡ 0
unfolding held
holds-none l c f = count_none 32 (λ i. eqb (get_or l i 0) (c + 1)) (λ i li. ne_eqb (get_or l i 0) (c + 1) (f i li))

-- who holds one item at most holds no other
pub holds_same : (l : List ℕ) (c i k : ℕ) → held l c ≤ 1 → i < 32 → k < 32 → get_or l i 0 ≡ c + 1 → get_or l k 0 ≡ c + 1 → i ≡ k
unfolding held
holds_same l c i k once li lk e g =
    once-count 32 (λ i. eqb (get_or l i 0) (c + 1)) once i k li lk (eq-eqb (get_or l i 0) (c + 1) e) (eq-eqb (get_or l k 0) (c + 1) g)

pub holds_at : (l : List ℕ) (c : ℕ) → 1 ≤ held l c → (i : ℕ) × (i < 32) × (get_or l i 0 ≡ c + 1)
unfolding held
holds_at l c h =
    let w = count-witness 32 (λ i. eqb (get_or l i 0) (c + 1)) h in
    (w.0, w.1, eqb-true (get_or l w.0 0) (c + 1) w.2)

-- ---- an item that the bidder at place b holds, if there is one

unfoldable pub item_of : (ℕ → ℕ) → ℕ → ℕ
item_of h b = elim (least 32 (λ i. eqb (h i) (b + 1))) [ inl q ↦ q.at | inr n ↦ 0 ]

pub item_of-is : (h : ℕ → ℕ) (b i : ℕ) → i < 32 → h i ≡ b + 1 → (item_of h b < 32) × (h (item_of h b) ≡ b + 1)
unfolding item_of
item_of-is h b i li e = go (least 32 (λ i. eqb (h i) (b + 1)))
  where
    go : (q : Least 32 (λ i. eqb (h i) (b + 1)) ⊎ ((k : ℕ) → k < 32 → eqb (h k) (b + 1) ≡ false))
        → (elim q [ inl q ↦ q.at | inr n ↦ 0 ] < 32) × (h (elim q [ inl q ↦ q.at | inr n ↦ 0 ]) ≡ b + 1)
    go (inl q) = (q.small, eqb-true (h q.at) (b + 1) q.here)
    go (inr n) = no_both (eq-eqb (h i) (b + 1) e) (n i li)

-- the match that a list of holders is
abbrev pub held_by : List ℕ → ℕ → ℕ
held_by l i = get_or l i 0

pub held-item : (l : List ℕ) (b : ℕ) → 1 ≤ held l b → (item_of (held_by l) b < 32) × (get_or l (item_of (held_by l) b) 0 ≡ b + 1)
held-item l b h = let w = holds_at l b h in item_of-is (held_by l) b w.0 w.1 w.2

-- ---- the bidder that holds an item

-- x - 1 is its place, and it wants the item
pub fair-is : (d : List ℕ) (i x : ℕ) → Fair 64 d i x → (x ≡ 0 → ⊥) → (x - 1 < 64) × (x ≡ x - 1 + 1) × (is_set (get_or d (x - 1) 0) i ≡ true)
unfolding Fair
fair-is d i x k ne = elim k [ inl z ↦ absurd (ne z) | inr w ↦ let up : 0 < x = positive x ne in (omega (arith, w.0), omega arith, w.1) ]
  where
    positive : (x : ℕ) → (x ≡ 0 → ⊥) → 0 < x
    positive zero f = absurd (f refl)
    positive (suc x) f = omega arith

pub holder-is : (d l : List ℕ) (i : ℕ) → Kept d l → i < 32 → (get_or l i 0 ≡ 0 → ⊥)
    → (get_or l i 0 - 1 < 64) × (get_or l i 0 ≡ get_or l i 0 - 1 + 1) × (is_set (get_or d (get_or l i 0 - 1) 0) i ≡ true)
holder-is d l i k li ne = fair-is d i (get_or l i 0) (k.fair i li) ne

pub holder-small : (d l : List ℕ) (i : ℕ) → Kept d l → i < 32 → get_or l i 0 ≤ 64
unfolding Fair
holder-small d l i k li = elim (k.fair i li) [ inl e ↦ omega arith | inr w ↦ omega (arith, w.0) ]

-- the bidder at place c holds the item, and wants it
pub wants-held : (d : List ℕ) (h : ℕ → ℕ) (i c : ℕ) → Fair 64 d i (h i) → h i ≡ c + 1 → is_set (get_or d c 0) i ≡ true
wants-held d h i c f e =
    let w = fair-is d i (h i) f (λ z. omega arith) in
    let q : h i - 1 ≡ c = omega arith in
    sym (ap (λ (x : ℕ). is_set (get_or d x 0) i) q) ∙ w.2

-- ---- the item at place i is given to the bidder at place b

count-change : (n i : ℕ) (f g : ℕ → Bool) → i < n → ((k : ℕ) → (k ≡ i → ⊥) → f k ≡ g k) → count n f + to_nat (g i) ≡ count n g + to_nat (f i)
unfolding count
count-change zero i f g l h = absurd (not-suc-le-zero l)
count-change (suc n) i f g l h = go (λ q. count-change n i f g q h) (below_suc l)
  where
    go : (i < n → count n f + to_nat (g i) ≡ count n g + to_nat (f i)) → (i ≡ n) ⊎ (i < n)
        → count n f + to_nat (f n) + to_nat (g i) ≡ count n g + to_nat (g n) + to_nat (f i)
    go ih (inl q) =
        let same : count n f ≡ count n g = count-cong n f g (λ k lk. h k (λ r. omega arith)) in
        omega (arith, ap (λ (x : ℕ). to_nat (f x)) q, ap (λ (x : ℕ). to_nat (g x)) q)
    go ih (inr q) = omega (arith, ih q, ap to_nat (h n (λ r. omega arith)))

pub eqb-suc : (b c : ℕ) → eqb (b + 1) (c + 1) ≡ eqb c b
eqb-suc b c = go (ℕ_discrete c b)
  where
    go : Dec (c ≡ b) → eqb (b + 1) (c + 1) ≡ eqb c b
    go (yes q) = eq-eqb (b + 1) (c + 1) (omega arith) ∙ sym (eq-eqb c b q)
    go (no f) = ne_eqb (b + 1) (c + 1) (λ r. f (omega arith)) ∙ sym (ne_eqb c b f)

pub held-set : (l : List ℕ) (i b c : ℕ) → i < 32 → length l ≡ 32
    → held (set l i (b + 1)) c + to_nat (eqb (get_or l i 0) (c + 1)) ≡ held l c + to_nat (eqb c b)
unfolding held
held-set l i b c li n =
    count-change 32 i (λ k. eqb (get_or (set l i (b + 1)) k 0) (c + 1)) (λ k. eqb (get_or l k 0) (c + 1)) li
    (λ k f. ap (λ (x : ℕ). eqb x (c + 1)) (get_or-set_other l i k (b + 1) 0 f))
    ∙ ap (λ (x : Bool). count 32 (λ k. eqb (get_or l k 0) (c + 1)) + to_nat x)
    (ap (λ (x : ℕ). eqb x (c + 1)) (get_or-set_same l i (b + 1) 0 (omega arith)) ∙ eqb-suc b c)

module _ (d l : List ℕ) (i b : ℕ) (kept : Kept d l) (li : i < 32) (lb : b < 64) (wants : is_set (get_or d b 0) i ≡ true) where
  fair-set : (k : ℕ) → k < 32 → Dec (k ≡ i) → Fair 64 d k (get_or (set l i (b + 1)) k 0)
  unfolding Fair
  fair-set k hk (yes e) =
      let same : get_or (set l i (b + 1)) k 0 ≡ b + 1 = ap (λ (j : ℕ). get_or (set l i (b + 1)) j 0) e ∙ get_or-set_same l i (b + 1) 0 (omega (arith, kept.size)) in
      let back : get_or (set l i (b + 1)) k 0 - 1 ≡ b = omega arith in
      inr (omega arith, ap (λ (j : ℕ). is_set (get_or d j 0) k) back ∙ ap (is_set (get_or d b 0)) e ∙ wants)
  fair-set k hk (no f) = rw (get_or-set_other l i k (b + 1) 0 f) (kept.fair k hk)

  pub kept_set : Kept d (set l i (b + 1))
  kept_set = record { size = length-set l i (b + 1) ∙ kept.size; fair = λ k hk. fair-set k hk (ℕ_discrete k i) }
