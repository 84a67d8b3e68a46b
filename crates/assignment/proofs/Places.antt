-- Sets of places as the code makes them: what they have. Assumes nothing.
use Prim.Native.Nat.{ℕ, zero, suc, ◌+◌, ◌-◌, ◌*◌, ◌/◌, ◌%◌, ◌^◌, ◌≤◌, ◌<◌}
use mathlib.Core.Path.{◌≡◌, refl, sym, ap, ◌∙◌}
use mathlib.Core.Bool.{Bool, true, false, ◌&&◌, ◌||◌, not, cond}
use mathlib.Core.List.{List}
use mathlib.Core.Logic.{◌⊎◌, inl, inr}
use native.Mathlib.Omega.{arith}
use native.Mathlib.Nat.{not-suc-le-zero}
use native.Mathlib.Numerals.{add-one}
use lib.Dec.{eqb}
use lib.ListN.{length, get_or, take, drop, set, replicate, length-set, length-drop}
use lib.Seq.{get_or-set_same, get_or-set_other, get_or-take, get_or-drop, length-take-le}
use borrow.Author.Count.{below_more}
use native.Mathlib.Decide.{ℕ_discrete}
use Rattle.std.specs.Int.{from_bool}
use Rattle.sets.specs.Bit.{bit, is_set, has, set_of, lowest, size}
use Rattle.sets.proofs.Counting.{lt-or-le, and_left, and_right, and_both, not-both, not_is, is_false, count-le, count-mono}
use Rattle.sets.proofs.Members.{is_set-empty}
use Rattle.sets.proofs.Taking as T
use Rattle.sets.proofs.Taking.{below-width, member-use, member-make, without-use, without-make}
use Rattle.sets.proofs.Lowest.{Lowest, item, is-null, lowest_is, lowest-unique}
use Rattle.sets.proofs.Filling.{zeros-at}
use Rattle.rule.specs.Demand.{wants}
use Rattle.assignment.specs.Search.{goes_on, Remaining, Sub}
use Rattle.assignment.specs.Turn.{Seat, Held}

-- ---- s and place p, the places of both, those of g alone

module _ (s p r : ℕ) (e : r ≡ set_of 64 (λ j. has s j || eqb j (p + 1))) where
  pub with-use : (q : ℕ) → is_set r q ≡ true → (is_set s q ≡ true) ⊎ (q ≡ p)
  with-use q h = go (T.with-use 64 s (p + 1) r e q h)
    where
      go : (is_set s q ≡ true) ⊎ (suc q ≡ p + 1) → (is_set s q ≡ true) ⊎ (q ≡ p)
      go (inl o) = inl o
      go (inr o) = inr (omega arith)

  pub with-old : s < 2 ^ 64 → Sub s r
  with-old l q h = T.with-old 64 s (p + 1) r e q (below-width 64 s q l h) h

  pub with-new : p < 64 → is_set r p ≡ true
  with-new l = T.with-new 64 s (p + 1) r e p l (omega arith)

module _ (g h r : ℕ) (e : r ≡ set_of 64 (λ j. has g j && has h j)) where
  pub both-use : (q : ℕ) → is_set r q ≡ true → (is_set g q ≡ true) × (is_set h q ≡ true)
  unfolding has
  both-use q o = let a = (member-use 64 r (λ j. has g j && has h j) e q o).1 in (and_left (is_set g q) (is_set h q) a, and_right (is_set g q) (is_set h q) a)

  pub both-make : (q : ℕ) → q < 64 → is_set g q ≡ true → is_set h q ≡ true → is_set r q ≡ true
  unfolding has
  both-make q l a b = member-make 64 r (λ j. has g j && has h j) e q l (and_both (is_set g q) (is_set h q) a b)

module _ (g h r : ℕ) (e : r ≡ set_of 64 (λ j. has g j && not (has h j))) where
  pub other-use : (q : ℕ) → is_set r q ≡ true → (is_set g q ≡ true) × (is_set h q ≡ false)
  unfolding has
  other-use q o =
      let a = (member-use 64 r (λ j. has g j && not (has h j)) e q o).1 in
      (and_left (is_set g q) (not (is_set h q)) a, not_is (is_set h q) (and_right (is_set g q) (not (is_set h q)) a))

  pub other-make : (q : ℕ) → q < 64 → is_set g q ≡ true → is_set h q ≡ false → is_set r q ≡ true
  unfolding has
  other-make q l a b = member-make 64 r (λ j. has g j && not (has h j)) e q l (and_both (is_set g q) (not (is_set h q)) a (ap not b))

-- ---- how many members

pub size_mono : (w s t : ℕ) → Sub s t → size w s ≤ size w t
unfolding size
size_mono w s t sub = count-mono w (is_set s) (is_set t) (λ q l. sub q)

pub size-le : (w s : ℕ) → size w s ≤ w
unfolding size
size-le w s = count-le w (is_set s)

-- ---- items and null as places

half : (k b : ℕ) → b < 2 → ((k * 2 + b) / 2 ≡ k) × ((k * 2 + b) % 2 ≡ b)
half k b l = (omega arith, omega arith)

places-are : (items b : ℕ) (null : Bool) → b < 2 → eqb b 1 ≡ null → (p : ℕ) → is_set (items * 2 + b) p ≡ wants (record { null = null; items = items }) p
unfolding is_set bit wants has
places-are items b null l e zero = ap (λ (x : ℕ). eqb x 1) (half items b l).1 ∙ e
places-are items b null l e (suc k) = ap (λ (x : ℕ). eqb (bit x k) 1) (half items b l).0

pub places_have : (items s : ℕ) (null : Bool) → s ≡ items * 2 + from_bool null → (p : ℕ) → is_set s p ≡ wants (record { null = null; items = items }) p
places_have items s true e p = ap (λ (r : ℕ). is_set r p) e ∙ places-are items 1 true (omega arith) refl p
places_have items s false e p = ap (λ (r : ℕ). is_set r p) e ∙ places-are items 0 false (omega arith) refl p

-- ---- the lowest item among places: t is s without null

module _ (s t : ℕ) (e : t ≡ set_of 64 (λ k. has s k && not (eqb k 1))) where
  off : (j : ℕ) → suc j < 64 → is_set t (suc j) ≡ false → is_set s (suc j) ≡ false
  off j l none = is_false (is_set s (suc j)) (λ o. not-both (is_set t (suc j)) (without-make 64 s 1 t e (suc j) l o (λ q. omega arith)) none)

  at : (k : ℕ) → k < 64 → is_set t k ≡ true → ((j : ℕ) → j < k → is_set t j ≡ false) → Lowest 63 (is_set s) k
  at zero l h b = absurd ((without-use 64 s 1 t e 0 h).1 refl)
  at (suc k) l h b = item k (omega arith) (without-use 64 s 1 t e (suc k) h).0 (λ j lj. off j (omega arith) (b (suc j) (omega arith)))

  pub first-null : lowest 64 (has t) ≡ 0 → 0 ≡ lowest 63 (is_set s)
  unfolding has
  first-null z = go (lowest 64 (has t)) (lowest_is 64 (has t)) z
    where
      go : (r : ℕ) → Lowest 64 (has t) r → r ≡ 0 → 0 ≡ lowest 63 (is_set s)
      go r (item k l h b) q = absurd (let no : ⊥ = omega arith in no)
      go r (is-null none) q = lowest-unique 63 (is_set s) 0 (is-null (λ j l. off j (omega arith) (none (suc j) (omega arith))))

  pub first-place : (r : ℕ) → r ≡ lowest 64 (has t) → (r ≡ 0 → ⊥) → r - 1 ≡ lowest 63 (is_set s)
  unfolding has
  first-place r q ne = go (lowest 64 (has t)) (lowest_is 64 (has t)) q
    where
      go : (m : ℕ) → Lowest 64 (has t) m → r ≡ m → r - 1 ≡ lowest 63 (is_set s)
      go m (is-null none) q = absurd (ne q)
      go m (item k l h b) q = let one : r - 1 ≡ k = omega arith in one ∙ lowest-unique 63 (is_set s) k (at k l h b)

-- ---- where the way goes on

pub goes-spare : (spare q : ℕ) → is_set spare q ≡ true → goes_on spare q ≡ 0
unfolding goes_on
goes-spare spare q e = ap (λ (b : Bool). cond b 0 q) e

pub goes_other : (spare q : ℕ) → is_set spare q ≡ false → goes_on spare q ≡ q
unfolding goes_on
goes_other spare q e = ap (λ (b : Bool). cond b 0 q) e

-- it goes on from there, or q is spare and it goes on from null
abbrev pub Goes : ℕ → ℕ → Type 0
Goes spare q = ((is_set spare q ≡ true) × (goes_on spare q ≡ 0)) ⊎ ((is_set spare q ≡ false) × (goes_on spare q ≡ q))

pub goes-cases : (spare q : ℕ) → Goes spare q
goes-cases spare q = go (is_set spare q) refl
  where
    go : (b : Bool) → is_set spare q ≡ b → Goes spare q
    go true e = inl (e, goes-spare spare q e)
    go false e = inr (e, goes_other spare q e)

pub goes-null : (spare : ℕ) → goes_on spare 0 ≡ 0
goes-null spare = go (goes-cases spare 0)
  where
    go : Goes spare 0 → goes_on spare 0 ≡ 0
    go (inl v) = v.1
    go (inr v) = v.1

pub goes-once : (spare q : ℕ) → goes_on spare (goes_on spare q) ≡ goes_on spare q
goes-once spare q = go (goes-cases spare q)
  where
    go : Goes spare q → goes_on spare (goes_on spare q) ≡ goes_on spare q
    go (inl v) = ap (goes_on spare) v.1 ∙ goes-null spare ∙ sym v.1
    go (inr v) = ap (goes_on spare) v.1

-- ---- the places that the bidders k to b have

-- what the bidder at place j of those from k on, below n, has
pub part-at : (x : List ℕ) (k n j : ℕ) → j < n - k → get_or (take (n - k) (drop k x)) j 0 ≡ get_or x (k + j) 0
part-at x k n j l = get_or-take (n - k) (drop k x) j 0 l ∙ get_or-drop k x j 0

pub part-long : (x : List ℕ) (k n : ℕ) → n ≤ length x → length (take (n - k) (drop k x)) ≡ n - k
part-long x k n l = length-take-le (n - k) (drop k x) (omega (arith, length-drop {A = ℕ} k x))

pub held_none : (x : List ℕ) (k : ℕ) → Held x k k 0
held_none x k = record { only = λ p h. absurd (not-both (is_set 0 p) h (is_set-empty p)); all = λ c lo hi. absurd (let no : ⊥ = omega arith in no) }

pub held_next : (x : List ℕ) (k b : ℕ) → k ≤ b → (s r : ℕ) → s < 2 ^ 64 → get_or x b 0 < 33 → Held x k b s → r ≡ set_of 64 (λ j. has s j || eqb j (get_or x b 0 + 1)) → Held x k (b + 1) r
held_next x k b l s r ls small h e = record { only = λ p o. come p (with-use s (get_or x b 0) r e p o); all = λ c lo hi. make c lo (lt-or-le c b) hi }
  where
    come : (p : ℕ) → (is_set s p ≡ true) ⊎ (p ≡ get_or x b 0) → (c : ℕ) × (k ≤ c) × (c < b + 1) × (get_or x c 0 ≡ p)
    come p (inl o) = let w = h.only p o in (w.0, w.1, omega (arith, w.2), w.3)
    come p (inr q) = (b, l, omega arith, sym q)

    make : (c : ℕ) → k ≤ c → (c < b) ⊎ (b ≤ c) → c < b + 1 → is_set r (get_or x c 0) ≡ true
    make c lo (inl q) hi = with-old s (get_or x b 0) r e ls (get_or x c 0) (h.all c lo q)
    make c lo (inr q) hi =
        let same : c ≡ b = omega arith in
        let at = ap (λ (j : ℕ). get_or x j 0) same in
        ap (is_set r) at ∙ with-new s (get_or x b 0) r e (omega arith)

-- ---- the bidders who remain

pub remain-all : (n s : ℕ) → s ≡ set_of n (λ j. true) → Remaining s 0 n
remain-all n s e = record { only = λ b o. (omega arith, (member-use n s (λ j. true) e b o).0); all = λ b lo l. member-make n s (λ j. true) e b l refl }

pub remain-next : {s k n : ℕ} → Remaining s k n → n ≤ 64 → (r : ℕ) → r ≡ set_of 64 (λ j. has s j && not (eqb j (k + 1))) → Remaining r (k + 1) n
remain-next {s} {k} {n} h l r e =
    record {
      only = λ b o. let v = without-use 64 s (k + 1) r e b o in let u = h.only b v.0 in (omega (arith, u.0, v.1), u.1);
      all = λ b lo bn. without-make 64 s (k + 1) r e b (omega arith) (h.all b (omega arith) bn) (λ q. omega arith);
    }

-- ---- what each bidder has in a match, item after item

pub seats-none : (holder : List ℕ) (c : ℕ) → Seat 0 holder c (get_or (replicate 64 0) c 0)
unfolding Seat
seats-none holder c = inr (zeros-at 64 c, λ j l. absurd (not-suc-le-zero l))

module _ (holder : List ℕ) (k : ℕ) (x y : List ℕ) (c : ℕ) (lc : c < 64) (long : length y ≡ 64) (s : Seat k holder c (get_or x c 0)) where
  seat-past : get_or y c 0 ≡ get_or x c 0 → (get_or holder k 0 ≡ c + 1 → ⊥) → Seat (k + 1) holder c (get_or y c 0)
  unfolding Seat
  seat-past e ne = go s
    where
      go : ((j : ℕ) × (j < k) × (get_or x c 0 ≡ suc j) × (get_or holder j 0 ≡ c + 1)) ⊎ ((get_or x c 0 ≡ 0) × ((j : ℕ) → j < k → get_or holder j 0 ≡ c + 1 → ⊥))
          → ((j : ℕ) × (j < k + 1) × (get_or y c 0 ≡ suc j) × (get_or holder j 0 ≡ c + 1)) ⊎ ((get_or y c 0 ≡ 0) × ((j : ℕ) → j < k + 1 → get_or holder j 0 ≡ c + 1 → ⊥))
      go (inl v) = inl (v.0, omega (arith, v.1), e ∙ v.2, v.3)
      go (inr v) = inr (e ∙ v.0, below_more _ _ v.1 ne)

  -- the bidder that holds item k + 1 has it
  pub seats-next : (h : ℕ) → h ≡ get_or holder k 0 → h ≤ 64 → (h ≡ 0 → y ≡ x) → (0 < h → y ≡ set x (h - 1) (k + 1)) → Seat (k + 1) holder c (get_or y c 0)
  unfolding Seat
  seats-next zero e l none some = seat-past (ap (λ (z : List ℕ). get_or z c 0) (none refl)) (λ q. omega arith)
  seats-next (suc h) e l none some = go (ℕ_discrete c h)
    where
      is : y ≡ set x h (k + 1)
      is = let one : suc h - 1 ≡ h = omega arith in some (omega arith) ∙ ap (λ (j : ℕ). set x j (k + 1)) one

      go : Dec (c ≡ h) → Seat (k + 1) holder c (get_or y c 0)
      go (yes q) =
          inl (k, omega arith, ap (λ (z : List ℕ). get_or z c 0) is ∙ ap (λ (j : ℕ). get_or (set x j (k + 1)) c 0) (sym q) ∙ get_or-set_same x c (k + 1) 0 (omega (arith, ap (λ (z : List ℕ). length z) is, length-set x h (k + 1))) ∙ add-one k, omega arith)
      go (no ne) = seat-past (ap (λ (z : List ℕ). get_or z c 0) is ∙ get_or-set_other x h c (k + 1) 0 ne) (λ q. ne (omega arith))
