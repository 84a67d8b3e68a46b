-- The search in lists: how it starts, and how an item is entered. THEORY.md 2.12. Assumes nothing.
use Prim.Native.Nat.{ℕ, zero, suc, ◌+◌, ◌-◌, ◌≤◌, ◌<◌}
use mathlib.Core.Path.{◌≡◌, refl, sym, ap, ◌∙◌, subst}
use mathlib.Core.Bool.{Bool, true, not, cond}
use mathlib.Core.List.{List}
use mathlib.Core.Logic.{◌⊎◌, inl, inr}
use native.Mathlib.Omega.{arith}
use native.Mathlib.Decide.{ℕ_discrete}
use lib.Dec.{eqb}
use lib.ListN.{length, get_or, replicate, length-set, get_or-replicate}
use lib.Seq.{get_or-set_same, get_or-set_other}
use borrow.Author.Tests.{eq-eqb, ne_eqb}
use Rattle.sets.specs.Count.{to_nat}
use Rattle.sets.proofs.Counting.{count-le, count_less, not_is}
use Rattle.rule.specs.Sheet.{amount}
use Rattle.bids.specs.Fit.{Small}
use Rattle.least.specs.Searching.{reach_of, Source, Item, Relaxed}
use Rattle.least.specs.Steps.{Reached, NumberOf, Numbered, IsLeft, Entered}
use Rattle.least.specs.Putting.{left_count, Searching}
use Rattle.least.proofs.Searching.{search-start, Step, search-next, kept-source, kept-j, reach-j}
use Rattle.least.proofs.Searching as S

pub amount-item : (xs : List ℕ) (i : ℕ) → 0 < i → get_or xs (i - 1) 0 ≡ amount xs i
unfolding amount
amount-item xs zero l = absurd (omega arith)
amount-item xs (suc k) l = let e : suc k - 1 ≡ k = omega arith in ap (λ (j : ℕ). get_or xs j 0) e

pub amount-suc : (xs : List ℕ) (x : ℕ) → amount xs (suc x) ≡ get_or xs x 0
unfolding amount
amount-suc xs x = refl

pub amount-small : (xs : List ℕ) → Small xs → (i : ℕ) → amount xs i ≤ 4095
unfolding amount Small
amount-small xs h zero = omega arith
amount-small xs h (suc k) = h k

-- an item is a place
at_place : (P : ℕ → Type 0) (m : ℕ) → ((x : ℕ) → x < m → P (suc x)) → (i : ℕ) → Item m i → P i
at_place P m h zero i = absurd (omega (arith, i.0))
at_place P m h (suc x) i = h x (omega (arith, i.1))

-- ---- the start

module _ (m : ℕ) (In : ℕ → Type 0) (inside : (x : ℕ) → In x → Item m x) (top : ℕ) (near : top ≤ 4095) (line : ℕ → ℕ → ℕ) (prices : List ℕ) (small : Small prices) (lm : m ≤ 64)
    (first : List ℕ) (line_first : (x : ℕ) → line 0 x ≡ amount first x) (fits : (x : ℕ) → In x → amount first x ≤ top + amount prices x)
    (dist via left : List ℕ) (t : Reached top 0 first prices (replicate 64 16384) (replicate 64 0) m dist via) where
  -- every item is reached from the start
  both : (i : ℕ) → Item m i → (amount dist i ≡ top + amount prices i - amount first i) × (amount via i ≡ 0)
  unfolding amount Small
  both i x = at_place (λ i. (amount dist i ≡ top + amount prices i - amount first i) × (amount via i ≡ 0)) m go i x
    where
      go : (y : ℕ) → y < m → (get_or dist y 0 ≡ top + get_or prices y 0 - get_or first y 0) × (get_or via y 0 ≡ 0)
      go y l = by (t.done y l)
        where
          by : Relaxed top 0 (get_or first y 0) (get_or prices y 0) (get_or (replicate 64 16384) y 0) (get_or (replicate 64 0) y 0) (get_or dist y 0) (get_or via y 0)
              → (get_or dist y 0 ≡ top + get_or prices y 0 - get_or first y 0) × (get_or via y 0 ≡ 0)
          by (inl h) = (h.1, h.2)
          by (inr h) = absurd (omega (arith, h.0, near, small y, get_or-replicate {A = ℕ} 64 y 16384 0 (omega (arith, l, lm))))

  pub start-dist : (i : ℕ) → Item m i → amount dist i ≡ top + amount prices i - amount first i
  start-dist i x = (both i x).0

  pub start-searching : Numbered left → length left ≡ 64 → ((x : ℕ) → In x → IsLeft left x) → ((x : ℕ) → Item m x → IsLeft left x → In x) → Searching m In top line prices dist via left (λ x. 0) 0
  unfolding left_count
  start-searching numbered long opens closed =
      record {
        search = search-start m In inside top line (amount prices) (amount dist) (λ x. 0) (amount via)
            (λ x i. omega (arith, line_first x, fits x i)) (λ x i. omega (arith, (both x (inside x i)).0, line_first x)) (λ x. refl) (λ x i. (both x (inside x i)).1);
        numbered = numbered;
        opens = λ x i e. opens x i;
        closed = λ x i o. (closed x i o, refl);
        early = λ x. omega arith;
        few = omega (arith, count-le 64 (λ x. not (eqb (get_or left x 0) 0)));
        long_dist = t.long_dist;
        long_via = t.long_via;
        long_left = long;
      }

-- ---- item j is entered

-- when each item was entered, then
unfoldable pub entering : (mask : ℕ → ℕ) (turns j : ℕ) → ℕ → ℕ
entering mask turns j x = cond (eqb x j) (suc turns) (mask x)

entering-here : (mask : ℕ → ℕ) (turns j : ℕ) → entering mask turns j j ≡ suc turns
unfolding entering
entering-here mask turns j = ap (λ (b : Bool). cond b (suc turns) (mask j)) (eq-eqb j j refl)

entering-off : (mask : ℕ → ℕ) (turns j x : ℕ) → (x ≡ j → ⊥) → entering mask turns j x ≡ mask x
unfolding entering
entering-off mask turns j x ne = ap (λ (b : Bool). cond b (suc turns) (mask x)) (ne_eqb x j ne)

-- item j, the nearest that is left, is entered with its holder's line
pub record Entry (m : ℕ) (In : ℕ → Type 0) (top : ℕ) (line : ℕ → ℕ → ℕ) (prices dist via left : List ℕ) (mask : ℕ → ℕ) (turns j : ℕ) (dist' via' left' : List ℕ) (u : ℕ) : Type 0 where
  pub inside : (x : ℕ) → In x → Item m x
  pub most : m ≤ 64
  pub searching : Searching m In top line prices dist via left mask turns
  pub item : Item m j
  pub is-left : IsLeft left j
  pub nearest : (i : ℕ) → Item m i → IsLeft left i → amount dist j ≤ amount dist i
  pub prefers : (x : ℕ) → In x → line j x + amount prices j ≤ line j j + amount prices x
  pub priced : amount prices j ≤ line j j
  pub hers : List ℕ
  pub len : length hers ≡ m
  pub line-hers : (x : ℕ) → line j x ≡ amount hers x
  pub low : ℕ
  pub entered : Entered j hers prices dist via left dist' via' left' u low

module _ {m : ℕ} {In : ℕ → Type 0} {top : ℕ} {line : ℕ → ℕ → ℕ} {prices dist via left : List ℕ} {mask : ℕ → ℕ} {turns j : ℕ} {dist' via' left' : List ℕ} {u : ℕ}
    (t : Entry m In top line prices dist via left mask turns j dist' via' left' u) where
  s : Searching m In top line prices dist via left mask turns
  s = t.searching

  open-j : mask j ≡ 0
  open-j = (s.closed j t.item t.is-left).1

  reach : u + amount prices j ≡ line j j + amount dist j
  reach =
      omega (
        arith,
        t.entered.reach,
        amount-item t.hers j t.item.0,
        amount-item prices j t.item.0,
        amount-item dist j t.item.0,
        t.line-hers j,
        t.priced,
      )

  relaxed : (x : ℕ) → In x → Relaxed u j (line j x) (amount prices x) (amount dist x) (amount via x) (amount dist' x) (amount via' x)
  relaxed x i =
      subst (λ (z : ℕ). Relaxed u j z (amount prices x) (amount dist x) (amount via x) (amount dist' x) (amount via' x)) (sym (t.line-hers x))
      (at_place (λ x. Relaxed u j (amount t.hers x) (amount prices x) (amount dist x) (amount via x) (amount dist' x) (amount via' x)) m
      (λ z l. unfold amount in t.entered.reached.done z (omega (arith, l, t.len))) x (t.inside x i))

  abbrev pub later : ℕ → ℕ
  later = entering mask turns j

  step : Step m In top line (amount prices) (amount dist) mask (amount via) j u (suc turns) (amount dist') later (amount via')
  step =
      record {
        inside = t.inside;
        search = s.search;
        in-j = (s.closed j t.item t.is-left).0;
        open-j = open-j;
        nearest = λ x i o. t.nearest x (t.inside x i) (s.opens x i o);
        prefers = t.prefers;
        priced = t.priced;
        reach = reach;
        some = omega arith;
        early = λ x i. omega (arith, s.early x);
        here = entering-here mask turns j;
        off = entering-off mask turns j;
        relaxed = relaxed;
      }

  -- the places that are left

  place : j - 1 < length left
  place = omega (arith, s.long_left, t.item.1, t.item.0, t.most)

  gone : get_or left' (j - 1) 0 ≡ 0
  gone = ap (λ (z : List ℕ). get_or z (j - 1) 0) t.entered.closed ∙ get_or-set_same left (j - 1) 0 0 place

  others : (x : ℕ) → (x ≡ j - 1 → ⊥) → get_or left' x 0 ≡ get_or left x 0
  others x ne = ap (λ (z : List ℕ). get_or z x 0) t.entered.closed ∙ get_or-set_other left (j - 1) x 0 0 ne

  other_items : (i : ℕ) → 0 < i → (i ≡ j → ⊥) → amount left' i ≡ amount left i
  other_items i pos ne = sym (amount-item left' i pos) ∙ others (i - 1) (λ q. ne (omega (arith, q, pos, t.item.0))) ∙ amount-item left i pos

  pub fewer : left_count left' < left_count left
  unfolding left_count
  fewer =
      count_less 64 (λ x. not (eqb (get_or left' x 0) 0)) (λ x. not (eqb (get_or left x 0) 0)) (λ x l h. still x h (ℕ_discrete x (j - 1))) (j - 1) (omega (arith, place, s.long_left))
      (ap not (ne_eqb (get_or left (j - 1) 0) 0 (λ z. t.is-left (sym (amount-item left j t.item.0) ∙ z)))) (ap not (eq-eqb (get_or left' (j - 1) 0) 0 gone))
    where
      still : (x : ℕ) → not (eqb (get_or left' x 0) 0) ≡ true → Dec (x ≡ j - 1) → not (eqb (get_or left x 0) 0) ≡ true
      still x h (yes q) = absurd (let z = not_is (eqb (get_or left' x 0) 0) h in omega (arith, ap to_nat z, ap to_nat (eq-eqb (get_or left' x 0) 0 (ap (λ (y : ℕ). get_or left' y 0) q ∙ gone))))
      still x h (no ne) = ap (λ (v : ℕ). not (eqb v 0)) (sym (others x ne)) ∙ h

  numbered : Numbered left'
  unfolding Numbered
  numbered x = go (ℕ_discrete x (j - 1))
    where
      go : Dec (x ≡ j - 1) → NumberOf x (get_or left' x 0)
      go (yes q) = inl (ap (λ (y : ℕ). get_or left' y 0) q ∙ gone)
      go (no ne) = subst (λ (v : ℕ). NumberOf x v) (sym (others x ne)) (s.numbered x)

  pub entered-searching : Searching m In top line prices dist' via' left' later (suc turns)
  entered-searching =
      record {
        search = search-next step;
        numbered = numbered;
        opens = λ x i o. opens x i o (ℕ_discrete x j);
        closed = λ x i o. closed x i o (ℕ_discrete x j);
        early = λ x. early x (ℕ_discrete x j);
        few = omega (arith, s.few, fewer);
        long_dist = t.entered.reached.long_dist;
        long_via = t.entered.reached.long_via;
        long_left = ap length t.entered.closed ∙ length-set left (j - 1) 0 ∙ s.long_left;
      }
    where
      opens : (x : ℕ) → In x → later x ≡ 0 → Dec (x ≡ j) → IsLeft left' x
      opens x i o (yes q) = absurd (omega (arith, o, ap later q, entering-here mask turns j))
      opens x i o (no ne) = λ z. s.opens x i (sym (entering-off mask turns j x ne) ∙ o) (sym (other_items x (t.inside x i).0 ne) ∙ z)

      closed : (x : ℕ) → Item m x → IsLeft left' x → Dec (x ≡ j) → In x × (later x ≡ 0)
      closed x i o (yes q) = absurd (o (ap (amount left') q ∙ sym (amount-item left' j t.item.0) ∙ gone))
      closed x i o (no ne) =
          let w = s.closed x i (λ z. o (other_items x i.0 ne ∙ z)) in
          (w.0, entering-off mask turns j x ne ∙ w.1)

      early : (x : ℕ) → Dec (x ≡ j) → later x ≤ suc turns
      early x (yes q) = omega (arith, ap later q, entering-here mask turns j)
      early x (no ne) = omega (arith, entering-off mask turns j x ne, s.early x)

  -- ---- who reaches further: j, or who did before

  pub entered-sources : (y : ℕ) → Source later y → (y ≡ j) ⊎ Source mask y
  entered-sources y h = go (ℕ_discrete y j) h
    where
      go : Dec (y ≡ j) → Source later y → (y ≡ j) ⊎ Source mask y
      go (yes q) w = inl q
      go (no ne) (inl z) = inr (inl z)
      go (no ne) (inr w) = inr (inr (omega (arith, w, entering-off mask turns j y ne)))

  pub entered-old : (y : ℕ) → y < suc m → Source mask y → Source later y × (reach_of top line (amount prices) (amount dist') y ≡ reach_of top line (amount prices) (amount dist) y)
  entered-old y l h = (
    still h,
    kept-source step y l h,
  )
    where
      still : Source mask y → Source later y
      still (inl z) = inl z
      still (inr w) = inr (omega (arith, w, entering-off mask turns j y (λ q. omega (arith, w, open-j, ap mask q))))

  pub entered-new : Source later j × (reach_of top line (amount prices) (amount dist') j ≡ u)
  entered-new = (
    inr (omega (arith, entering-here mask turns j)),
    reach-j step,
  )

  -- what is entered keeps its distance, and lies behind the reach of who holds j
  pub entered-behind : (y : ℕ) → y < suc m → (y ≡ j) ⊎ (0 < mask y) → (amount dist' y ≡ amount dist y) × (amount dist y ≤ amount dist j) × (amount dist j ≤ u)
  entered-behind y l (inl q) = (ap (amount dist') q ∙ (kept-j step).0 ∙ ap (amount dist) (sym q), omega (arith, ap (amount dist) q), omega (arith, reach, t.priced))
  entered-behind y l (inr h) = ((S.entered step y l h).0, s.search.near j y (s.closed j t.item t.is-left).0 l open-j h, omega (arith, reach, t.priced))
