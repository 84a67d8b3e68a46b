-- A free item looked for, the lowest first, and given to a bidder who is to be placed. Assumes nothing.
use Prim.Native.Nat.{ℕ, suc, ◌+◌, ◌-◌, ◌^◌, ◌≤◌, ◌<◌}
use mathlib.Core.Path.{◌≡◌, refl, sym, ap, ◌∙◌, subst}
use mathlib.Core.Bool.{Bool, true, false, ◌&&◌, not}
use mathlib.Core.List.{List}
use native.Mathlib.Omega.{arith}
use native.Mathlib.Decide.{ℕ_discrete}
use lib.Dec.{eqb}
use lib.ListN.{get_or, set}
use lib.Seq.{get_or-set_other}
use borrow.Author.Tests.{eqb-true, eq-eqb}
use Rattle.std.specs.Prelude.{Option, Some, None, MatchOption, is_some}
use Rattle.sets.specs.Bit.{is_set, has, set_of, lowest}
use Rattle.sets.proofs.Counting.{and_left, and_right, and_both, not_is, not-both, is_false}
use Rattle.sets.proofs.Members.{is_set-empty}
use Rattle.sets.proofs.Lowest.{Lowest, item, is-null, lowest_is, lowest-unique}
use Rattle.sets.proofs.Taking.{member-use, member-lt, without-use, without-make}
use Rattle.matching.specs.Chain.{Settled}
use Rattle.matching.proofs.Steps.{won-free}
use Rattle.matching.proofs.Settling.{settle-won}

module _ (items : ℕ) (l : List ℕ) where
  abbrev free : ℕ → Bool
  free i = has items i && eqb (get_or l (i - 1) 0) 0

  -- the items that are looked at no more are held
  pub record Looked (rest : ℕ) : Type 0 where
    pub fits : rest < 2 ^ 32
    pub sub : (k : ℕ) → is_set rest k ≡ true → is_set items k ≡ true
    pub held : (k : ℕ) → k < 32 → is_set items k ≡ true → is_set rest k ≡ false → get_or l k 0 ≡ 0 → ⊥

  pub look-start : items < 2 ^ 32 → Looked items
  look-start f = record { fits = f; sub = λ k o. o; held = λ k lk o n z. not-both (is_set items k) o n }

  module _ (rest : ℕ) (t : Looked rest) where
    pub look-next : (i : ℕ) → (get_or l (i - 1) 0 ≡ 0 → ⊥) → (r : ℕ) → r ≡ set_of 32 (λ k. has rest k && not (eqb k i)) → Looked r
    look-next i ne r e =
        record {
          fits = member-lt 32 r _ e;
          sub = λ k o. t.sub k (without-use 32 rest i r e k o).0;
          held = λ k lk o n. held k lk o n (ℕ_discrete (suc k) i);
        }
      where
        held : (k : ℕ) → k < 32 → is_set items k ≡ true → is_set r k ≡ false → Dec (suc k ≡ i) → get_or l k 0 ≡ 0 → ⊥
        held k lk o n (yes q) z = let at : i - 1 ≡ k = omega arith in ne (ap (λ (j : ℕ). get_or l j 0) at ∙ z)
        held k lk o n (no d) z =
            t.held k lk o (is_false (is_set rest k) (λ on. not-both (is_set r k) (without-make 32 rest i r e k lk on d) n)) z

    -- what is not left is not free
    not_free : (k : ℕ) → k < 32 → is_set rest k ≡ false → free (suc k) ≡ false
    unfolding has
    not_free k lk n =
        is_false (free (suc k)) (λ o.
        let here : suc k - 1 ≡ k = omega arith in
        t.held k lk (and_left (is_set items k) _ o) n (sym (ap (λ (j : ℕ). get_or l j 0) here) ∙ eqb-true (get_or l (suc k - 1) 0) 0 (and_right (is_set items k) _ o)))

    pub look-found : (rest ≡ 0 → ⊥) → (i : ℕ) → i ≡ lowest 32 (has rest) → 0 < i → get_or l (i - 1) 0 ≡ 0 → i ≡ lowest 32 free
    unfolding has
    look-found ne i e pos z = lowest-unique 32 free i (go i (subst (Lowest 32 (has rest)) (sym e) (lowest_is 32 (has rest))) pos z)
      where
        go : (i : ℕ) → Lowest 32 (has rest) i → 0 < i → get_or l (i - 1) 0 ≡ 0 → Lowest 32 free i
        go i (is-null h) pos z = absurd (omega arith)
        go i (item k lk on h) pos z =
            item k lk (and_both (is_set items k) (eqb (get_or l (suc k - 1) 0) 0) (t.sub k on) (eq-eqb (get_or l (suc k - 1) 0) 0 z)) (λ j lj. not_free j (omega arith) (h j lj))

    pub look_none : rest ≡ 0 → 0 ≡ lowest 32 free
    look_none z = lowest-unique 32 free 0 (is-null (λ j lj. not_free j lj (ap (λ (s : ℕ). is_set s j) z ∙ is_set-empty j)))

  -- whether there is a free item, as `free_item` answers it
  abbrev Found_free : Option ℕ → Type 0
  Found_free o = MatchOption o (lowest 32 free ≡ 0) (λ i. (0 < i) × (i ≡ lowest 32 free))

  pub some-free : (o : Option ℕ) → Found_free o → is_some o ≡ true → (k : ℕ) × (k < 32) × (is_set items k ≡ true) × (get_or l k 0 ≡ 0)
  unfolding has
  some-free None f q = absurd cc
  some-free (Some i) f q = go i f.0 (subst (Lowest 32 free) (sym f.1) (lowest_is 32 free))
    where
      go : (i : ℕ) → 0 < i → Lowest 32 free i → (k : ℕ) × (k < 32) × (is_set items k ≡ true) × (get_or l k 0 ≡ 0)
      go i pos (is-null h) = absurd (omega arith)
      go i pos (item k lk on h) =
          let here : k ≡ suc k - 1 = omega arith in
          (k, lk, and_left (is_set items k) _ on, ap (λ (j : ℕ). get_or l j 0) here ∙ eqb-true (get_or l (suc k - 1) 0) 0 (and_right (is_set items k) _ on))

  pub none-free : (o : Option ℕ) → Found_free o → is_some o ≡ false → (k : ℕ) → k < 32 → is_set items k ≡ true → get_or l k 0 ≡ 0 → ⊥
  unfolding has
  none-free (Some i) f q k lk o z = absurd cc
  none-free None f q k lk o z = go 0 (subst (Lowest 32 free) f (lowest_is 32 free)) refl
    where
      go : (i : ℕ) → Lowest 32 free i → i ≡ 0 → ⊥
      go i (is-null h) n =
          let here : suc k - 1 ≡ k = omega arith in
          not-both (free (suc k)) (and_both (is_set items k) (eqb (get_or l (suc k - 1) 0) 0) o (eq-eqb (get_or l (suc k - 1) 0) 0 (ap (λ (j : ℕ). get_or l j 0) here ∙ z))) (h k lk)
      go i (item j lj on h) n = absurd (let f : ⊥ = omega arith in f)

-- a free item of the bidder's set that no failed chain has entered is given to it
module _ (d l : List ℕ) (w b : ℕ) (lb : b < 64) (s : Settled d l w b) (rest : ℕ) (er : rest ≡ set_of 32 (λ k. has (get_or d b 0) k && not (has w k))) where
  record Found (i : ℕ) : Type 0 where
    pub some : 0 < i
    pub most : i ≤ 32
    pub wants : is_set (get_or d b 0) (i - 1) ≡ true
    pub not_entered : is_set w (i - 1) ≡ false
    pub nobody : get_or l (i - 1) 0 ≡ 0

  found : (i : ℕ) → i ≡ lowest 32 (free rest l) → (i ≡ 0 → ⊥) → Found i
  unfolding has
  found i e ne = go i (subst (Lowest 32 (free rest l)) (sym e) (lowest_is 32 (free rest l))) ne
    where
      go : (i : ℕ) → Lowest 32 (free rest l) i → (i ≡ 0 → ⊥) → Found i
      go i (is-null h) ne = absurd (ne refl)
      go i (item k lk on h) ne =
          let here : k ≡ suc k - 1 = omega arith in
          let both = (member-use 32 rest _ er k (and_left (is_set rest k) _ on)).1 in
          record {
            some = omega arith;
            most = omega arith;
            wants = ap (is_set (get_or d b 0)) (sym here) ∙ and_left (is_set (get_or d b 0) k) _ both;
            not_entered = ap (is_set w) (sym here) ∙ not_is (is_set w k) (and_right (is_set (get_or d b 0) k) _ both);
            nobody = eqb-true (get_or l (suc k - 1) 0) 0 (and_right (is_set rest k) _ on);
          }

  module _ (i : ℕ) (e : i ≡ lowest 32 (free rest l)) (ne : i ≡ 0 → ⊥) where
    f : Found i
    f = found i e ne

    pub free-item : (0 < i) × (i ≤ 32)
    free-item = (f.some, f.most)

    pub settle-free : Settled d (set l (i - 1) (b + 1)) w (b + 1)
    settle-free = settle-won d l _ w b s (won-free d 0 l (i - 1) b s.kept (omega (arith, f.some, f.most)) lb f.wants f.nobody) apart
      where
        apart : (k : ℕ) → k < 32 → is_set w k ≡ true → get_or (set l (i - 1) (b + 1)) k 0 ≡ get_or l k 0
        apart k lk o = get_or-set_other l (i - 1) k (b + 1) 0 (λ q. not-both (is_set w k) o (ap (is_set w) q ∙ f.not_entered))
