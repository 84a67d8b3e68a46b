-- The steps of a displacement chain: an item entered, an item given, and going on after a failure. Assumes nothing.
use Prim.Native.Nat.{ℕ, suc, ◌+◌, ◌-◌, ◌^◌, ◌≤◌, ◌<◌}
use mathlib.Core.Path.{◌≡◌, refl, ◌∙◌, ap, sym, subst}
use mathlib.Core.Bool.{Bool, true, false, ◌&&◌, ◌||◌, not}
use mathlib.Core.List.{List}
use native.Mathlib.Decide.{ℕ_discrete}
use native.Mathlib.Omega.{arith}
use lib.Dec.{eqb}
use lib.ListN.{get_or, set}
use lib.Seq.{get_or-set_same, get_or-set_other}
use borrow.Author.Tests.{not-true, eq-eqb, ne_eqb}
use Rattle.sets.specs.Bit.{is_set, has, set_of, lowest}
use Rattle.sets.specs.Count.{to_nat}
use Rattle.sets.proofs.Counting.{count-mono, count_less, and_left, and_right, or_right}
use Rattle.sets.proofs.Members.{is_set-set_of, set_of-lt}
use Rattle.sets.proofs.Lowest.{lowest-found}
use Rattle.matching.specs.Chain.{left, held, Kept, Filled, Sub, Won}
use Rattle.matching.proofs.Holdings.{no_both, eqb-suc, held-set, kept_set}

-- ---- sets of items

pub sub_refl : (a : ℕ) → Sub a a
unfolding Sub
sub_refl a i l h = h

pub sub_trans : (a b c : ℕ) → Sub a b → Sub b c → Sub a c
unfolding Sub
sub_trans a b c f g i l h = g i l (f i l h)

-- what is not yet entered becomes less
flip : (a b : Bool) → (a ≡ true → b ≡ true) → not b ≡ true → not a ≡ true
flip true b f q = no_both (f refl) (not-true b q)
flip false b f q = refl

pub left-mono : (e z : ℕ) → Sub e z → left z ≤ left e
unfolding left Sub
left-mono e z s = count-mono 32 (λ i. not (is_set z i)) (λ i. not (is_set e i)) (λ i li q. flip (is_set e i) (is_set z i) (s i li) q)

pub left_less : (e z i : ℕ) → i < 32 → Sub e z → is_set e i ≡ false → is_set z i ≡ true → left z < left e
unfolding left Sub
left_less e z i l s he hz =
    count_less 32 (λ i. not (is_set z i)) (λ i. not (is_set e i)) (λ i li q. flip (is_set e i) (is_set z i) (s i li) q) i l (ap not he) (ap not hz)

-- ---- the next item of the bidder's set

-- what of the set s is not entered yet
abbrev pub rest_of : ℕ → ℕ → ℕ
rest_of s e = set_of 32 λ k. has s k && not (has e k)

-- i is the place of an item of s that is not in e, and e' is e with that item
pub record Chosen (s e i e' : ℕ) : Type 0 where
  pub small : i < 32
  pub wants : is_set s i ≡ true
  pub new : is_set e i ≡ false
  pub entered : is_set e' i ≡ true
  pub else : (k : ℕ) → k < 32 → (k ≡ i → ⊥) → is_set e' k ≡ is_set e k

pub rest_has : (s e k : ℕ) → k < 32 → is_set (rest_of s e) k ≡ is_set s k && not (is_set e k)
unfolding has
rest_has s e k l = is_set-set_of 32 (λ k. has s k && not (has e k)) k l

pub chosen : (s e rest item e' : ℕ) → rest ≡ rest_of s e → (rest ≡ 0 → ⊥) → item ≡ lowest 32 (has rest)
    → e' ≡ set_of 32 (λ k. has e k || eqb k item) → (0 < item) × (item ≤ 32) × Chosen s e (item - 1) e'
unfolding has
chosen s e rest item e' is ne low with =
    let f = lowest-found 32 rest (subst (λ (x : ℕ). x < 2 ^ 32) (sym is) (set_of-lt 32 (λ k. has s k && not (has e k)))) ne in
    let at : item - 1 ≡ f.0 = omega (arith, low ∙ f.1) in
    let up : item ≡ suc (item - 1) = omega (arith, low ∙ f.1) in
    let small : item - 1 < 32 = omega (arith, f.2) in
    let in_rest : is_set (rest_of s e) (item - 1) ≡ true = sym (ap (λ (x : ℕ). is_set x (item - 1)) is) ∙ ap (is_set rest) at ∙ f.3 in
    let both : is_set s (item - 1) && not (is_set e (item - 1)) ≡ true = sym (rest_has s e (item - 1) small) ∙ in_rest in
    let is-with : (k : ℕ) → k < 32 → is_set e' k ≡ is_set e k || eqb (suc k) item = λ k lk. ap (λ (x : ℕ). is_set x k) with ∙ is_set-set_of 32 (λ k. has e k || eqb k item) k lk in (
      omega arith,
      omega arith,
      record {
        small = small;
        wants = and_left (is_set s (item - 1)) (not (is_set e (item - 1))) both;
        new = not-true (is_set e (item - 1)) (and_right (is_set s (item - 1)) (not (is_set e (item - 1))) both);
        entered = is-with (item - 1) small ∙ or_right (is_set e (item - 1)) (eqb (suc (item - 1)) item) (eq-eqb (suc (item - 1)) item (sym up));
        else = λ k lk f. is-with k lk ∙ off (is_set e k) (eqb (suc k) item) (ne_eqb (suc k) item (λ q. f (omega arith)));
      },
    )
  where
    off : (a b : Bool) → b ≡ false → a || b ≡ a
    off true b e = refl
    off false b e = e

pub chosen-sub : (s e i e' : ℕ) → Chosen s e i e' → Sub e e'
unfolding Sub
chosen-sub s e i e' ch k l h = go (ℕ_discrete k i)
  where
    go : Dec (k ≡ i) → is_set e' k ≡ true
    go (yes q) = ap (is_set e') q ∙ ch.entered
    go (no f) = ch.else k l f ∙ h

-- with it entered, z has fewer items left than e
pub chosen_less : (s e i e' z : ℕ) → Chosen s e i e' → Sub e' z → left z < left e
unfolding Sub
chosen_less s e i e' z ch sub =
    left_less e z i ch.small (sub_trans e e' z (chosen-sub s e i e' ch) sub) ch.new (sub i ch.small ch.entered)

-- ---- the bidder at place b gets the item at place i

-- n is l but that the holder of the item in n holds one more; that one gives it up for b
module _ (d : List ℕ) (may : ℕ) (l n : List ℕ) (i b : ℕ) (kept : Kept d n) (li : i < 32) (lb : b < 64) (wants : is_set (get_or d b 0) i ≡ true)
    (up : (c : ℕ) → held n c ≤ held l c + to_nat (eqb (get_or n i 0) (c + 1)))
    (down : (c : ℕ) → is_set may c ≡ false → held l c + to_nat (eqb (get_or n i 0) (c + 1)) ≤ held n c)
    (filled : Filled l n) where
  filled-set : (k : ℕ) → Dec (k ≡ i) → k < 32 → (get_or l k 0 ≡ 0 → ⊥) → get_or (set n i (b + 1)) k 0 ≡ 0 → ⊥
  unfolding Filled
  filled-set k (yes q) lk ne z =
      let same : get_or (set n i (b + 1)) k 0 ≡ b + 1 = ap (λ (j : ℕ). get_or (set n i (b + 1)) j 0) q ∙ get_or-set_same n i (b + 1) 0 (omega (arith, kept.size)) in
      omega arith
  filled-set k (no f) lk ne z = filled k lk ne (sym (get_or-set_other n i k (b + 1) 0 f) ∙ z)

  won-set : Won d may l b (set n i (b + 1))
  unfolding Filled
  won-set =
      record {
        kept = kept_set d n i b kept li lb wants;
        most = λ c. omega (arith, held-set n i b c li kept.size, up c);
        least = λ c q. omega (arith, held-set n i b c li kept.size, down c q);
        filled = λ k. filled-set k (ℕ_discrete k i);
      }

not-held : (x c : ℕ) → (x ≡ c + 1 → ⊥) → to_nat (eqb x (c + 1)) ≡ 0
not-held x c f = ap to_nat (ne_eqb x (c + 1) f)

pub filled-self : (l : List ℕ) → Filled l l
unfolding Filled
filled-self l i li f = f

module _ (d : List ℕ) (may : ℕ) (l : List ℕ) (i b : ℕ) (kept : Kept d l) (li : i < 32) (lb : b < 64) (wants : is_set (get_or d b 0) i ≡ true) where
  -- nobody holds it
  pub won-free : get_or l i 0 ≡ 0 → Won d may l b (set l i (b + 1))
  won-free z =
      won-set d may l l i b kept li lb wants
      (λ c. omega arith)
      (λ c q. omega (arith, not-held (get_or l i 0) c (λ r. omega arith)))
      (filled-self l)

  -- its holder may go without
  pub won-may : is_set may (get_or l i 0 - 1) ≡ true → Won d may l b (set l i (b + 1))
  won-may t =
      won-set d may l l i b kept li lb wants
      (λ c. omega arith)
      (λ c q. omega (arith, not-held (get_or l i 0) c (λ r. let e : get_or l i 0 - 1 ≡ c = omega arith in no_both t (ap (is_set may) e ∙ q))))
      (filled-self l)

-- its holder, placed elsewhere, holds two, and gives it up
pub won-step : (d : List ℕ) (may : ℕ) (l n : List ℕ) (i b : ℕ) → i < 32 → b < 64 → is_set (get_or d b 0) i ≡ true
    → (get_or l i 0 ≡ 0 → ⊥) → get_or n i 0 ≡ get_or l i 0 → Won d may l (get_or l i 0 - 1) n → Won d may l b (set n i (b + 1))
won-step d may l n i b li lb wants ne same w =
    won-set d may l n i b w.kept li lb wants
    (λ c. omega (arith, w.most c, is c))
    (λ c q. omega (arith, w.least c q, is c))
    w.filled
  where
    is : (c : ℕ) → to_nat (eqb (get_or n i 0) (c + 1)) ≡ to_nat (eqb c (get_or l i 0 - 1))
    is c =
        let e : get_or n i 0 ≡ get_or l i 0 - 1 + 1 = omega arith in
        ap to_nat (ap (λ (x : ℕ). eqb x (c + 1)) e ∙ eqb-suc (get_or l i 0 - 1) c)
