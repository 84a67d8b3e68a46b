-- The bidders who wait are put in one after the other. THEORY.md 2.12. Assumes nothing.
use Prim.Native.Nat.{ℕ, suc, ◌+◌, ◌≤◌, ◌<◌}
use mathlib.Core.Path.{◌≡◌, refl, sym, ap, ◌∙◌, subst}
use mathlib.Core.Bool.{Bool, true, false, ◌&&◌, ◌||◌, not}
use mathlib.Core.List.{List}
use mathlib.Core.Logic.{◌⊎◌, inl, inr}
use native.Mathlib.Omega.{arith}
use native.Mathlib.Decide.{ℕ_discrete}
use lib.Dec.{ltb}
use borrow.Author.Tests.{ltb-true, lt-ltb}
use Rattle.sets.specs.Bit.{has}
use Rattle.sets.proofs.Counting.{and_left, and_right, and_both, or_cases, or_left, or_right, not-both, not_is, is_false}
use Rattle.least.specs.Holding.{Held, Joins}
use Rattle.least.specs.Putting.{Ready, Put, everyone, others, Standing}

-- who is in when the bidders below k were put in
unfoldable pub in_at : (n waiting k : ℕ) → ℕ → Bool
in_at n waiting k b = ltb b n && (ltb b k || not (has waiting (suc b)))

pub in_use : (n waiting k b : ℕ) → in_at n waiting k b ≡ true → (b < n) × ((b < k) ⊎ (has waiting (suc b) ≡ false))
unfolding in_at
in_use n waiting k b t = (ltb-true b n (and_left (ltb b n) _ t), go (or_cases (ltb b k) (not (has waiting (suc b))) (and_right (ltb b n) _ t)))
  where
    go : (ltb b k ≡ true) ⊎ (not (has waiting (suc b)) ≡ true) → (b < k) ⊎ (has waiting (suc b) ≡ false)
    go (inl e) = inl (ltb-true b k e)
    go (inr e) = inr (not_is (has waiting (suc b)) e)

pub in-make : (n waiting k b : ℕ) → b < n → (b < k) ⊎ (has waiting (suc b) ≡ false) → in_at n waiting k b ≡ true
unfolding in_at
in-make n waiting k b l h = and_both (ltb b n) _ (lt-ltb b n l) (go h)
  where
    go : (b < k) ⊎ (has waiting (suc b) ≡ false) → ltb b k || not (has waiting (suc b)) ≡ true
    go (inl e) = or_left (ltb b k) _ (lt-ltb b k e)
    go (inr e) = or_right (ltb b k) _ (ap not e)

pub everyone-use : (n b : ℕ) → everyone n b ≡ true → b < n
unfolding everyone
everyone-use n b t = ltb-true b n t

pub everyone-make : (n b : ℕ) → b < n → everyone n b ≡ true
unfolding everyone
everyone-make n b l = lt-ltb b n l

pub others-use : (n waiting b : ℕ) → others n waiting b ≡ true → (b < n) × (has waiting (suc b) ≡ false)
unfolding others
others-use n waiting b t = (ltb-true b n (and_left (ltb b n) _ t), not_is (has waiting (suc b)) (and_right (ltb b n) _ t))

pub others-make : (n waiting b : ℕ) → b < n → has waiting (suc b) ≡ false → others n waiting b ≡ true
unfolding others
others-make n waiting b l e = and_both (ltb b n) _ (lt-ltb b n l) (ap not e)

-- ---- bidder k joins, or nobody does

pub joins-next : (n waiting k : ℕ) → k < n → has waiting (suc k) ≡ true → Joins k (in_at n waiting k) (in_at n waiting (k + 1))
joins-next n waiting k l waits =
    record {
      joined = in-make n waiting (k + 1) k l (inl (omega arith));
      stays = λ b t. let w = in_use n waiting k b t in (in-make n waiting (k + 1) b w.0 (later b w.1), apart b w.1);
      was = λ b t ne. let w = in_use n waiting (k + 1) b t in in-make n waiting k b w.0 (before b ne w.1);
    }
  where
    later : (b : ℕ) → (b < k) ⊎ (has waiting (suc b) ≡ false) → (b < k + 1) ⊎ (has waiting (suc b) ≡ false)
    later b (inl h) = inl (omega arith)
    later b (inr h) = inr h

    apart : (b : ℕ) → (b < k) ⊎ (has waiting (suc b) ≡ false) → b ≡ k → ⊥
    apart b (inl h) e = omega arith
    apart b (inr h) e = not-both (has waiting (suc k)) waits (ap (λ (x : ℕ). has waiting (suc x)) (sym e) ∙ h)

    before : (b : ℕ) → (b ≡ k → ⊥) → (b < k + 1) ⊎ (has waiting (suc b) ≡ false) → (b < k) ⊎ (has waiting (suc b) ≡ false)
    before b ne (inl h) = inl (omega (arith, ne))
    before b ne (inr h) = inr h

-- where the same bidders take part, the same holds
pub held_same : {m : ℕ} {bid : ℕ → ℕ → ℕ} {on on' : ℕ → Bool} {p own : ℕ → ℕ} → ((b : ℕ) → on b ≡ true → on' b ≡ true) → ((b : ℕ) → on' b ≡ true → on b ≡ true)
    → Held m bid on p own → Held m bid on' p own
held_same to from h =
    record {
      null = h.null;
      known = λ i b l e. let w = h.known i b l e in (to b w.0, w.1);
      placed = λ b t. h.placed b (from b t);
      once = h.once;
    }

put_same : {m : ℕ} {bids : List ℕ} {on on' : ℕ → Bool} {prices own next holders : List ℕ} → ((b : ℕ) → on b ≡ true → on' b ≡ true) → ((b : ℕ) → on' b ≡ true → on b ≡ true)
    → Put m bids on prices own next holders → Put m bids on' prices own next holders
put_same to from p =
    record {
      long = p.long;
      long_own = p.long_own;
      small = p.small;
      held = held_same to from p.held;
      rises = p.rises;
      free = p.free;
      past = p.past;
    }

put_then : {m : ℕ} {bids : List ℕ} {on on' : ℕ → Bool} {prices own mid between next holders : List ℕ} → Put m bids on prices own mid between → Put m bids on' mid between next holders
    → Put m bids on' prices own next holders
put_then p q =
    record {
      long = q.long;
      long_own = q.long_own;
      small = q.small;
      held = q.held;
      rises = λ i x. omega (arith, p.rises i x, q.rises i x);
      free = λ i x e.
          let w = q.free i x e in
          let v = p.free i x w.0 in
          (v.0, w.1 ∙ v.1);
      past = λ x l. q.past x l ∙ p.past x l;
    }

module _ {m n : ℕ} {bids : List ℕ} (waiting : ℕ) {prices own : List ℕ} (s : Standing m n bids (others n waiting) prices own) where
  -- at first those who do not wait are in
  pub put-start : Put m bids (in_at n waiting 0) prices own prices own
  put-start =
      record {
        long = s.long;
        long_own = s.long_own;
        small = s.small;
        held = held_same (λ b t. let w = others-use n waiting b t in in-make n waiting 0 b w.0 (inr w.1)) (λ b t. back b (in_use n waiting 0 b t)) s.held;
        rises = λ i x. omega arith;
        free = λ i x e. (e, refl);
        past = λ x l. refl;
      }
    where
      back : (b : ℕ) → (b < n) × ((b < 0) ⊎ (has waiting (suc b) ≡ false)) → others n waiting b ≡ true
      back b w = go w.1
        where
          go : (b < 0) ⊎ (has waiting (suc b) ≡ false) → others n waiting b ≡ true
          go (inl l) = absurd (omega arith)
          go (inr e) = others-make n waiting b w.0 e

  module _ (k : ℕ) {next holders : List ℕ} (p : Put m bids (in_at n waiting k) prices own next holders) where
    pub put-ready : k < n → has waiting (suc k) ≡ true → Ready m k bids next holders
    put-ready l waits =
        record {
          bidders = n;
          table = s.table;
          member = l;
          on = in_at n waiting k;
          below = λ b t. (in_use n waiting k b t).0;
          waits = is_false (in_at n waiting k k) (λ t. go (in_use n waiting k k t).1);
          long = p.long;
          long_own = p.long_own;
          small = p.small;
          held = p.held;
        }
      where
        go : (k < k) ⊎ (has waiting (suc k) ≡ false) → ⊥
        go (inl h) = omega arith
        go (inr h) = not-both (has waiting (suc k)) waits h

    put-joined : (l : k < n) (waits : has waiting (suc k) ≡ true) (next' holders' : List ℕ)
        → ((r : Ready m k bids next holders) (on : ℕ → Bool) → Joins k r.on on → Put m bids on next holders next' holders') → Put m bids (in_at n waiting (k + 1)) prices own next' holders'
    unfolding put-ready
    put-joined l waits next' holders' h = put_then p (h (put-ready l waits) (in_at n waiting (k + 1)) (joins-next n waiting k l waits))

    -- who does not wait is in already
    put-skipped : has waiting (suc k) ≡ false → (next' holders' : List ℕ) → next' ≡ next → holders' ≡ holders → Put m bids (in_at n waiting (k + 1)) prices own next' holders'
    put-skipped off next' holders' en eh =
        subst (λ (x : List ℕ). Put m bids (in_at n waiting (k + 1)) prices own x holders') (sym en)
        (subst (λ (x : List ℕ). Put m bids (in_at n waiting (k + 1)) prices own next x) (sym eh) (put_same to from p))
      where
        to : (b : ℕ) → in_at n waiting k b ≡ true → in_at n waiting (k + 1) b ≡ true
        to b t = let w = in_use n waiting k b t in in-make n waiting (k + 1) b w.0 (go w.1)
          where
            go : (b < k) ⊎ (has waiting (suc b) ≡ false) → (b < k + 1) ⊎ (has waiting (suc b) ≡ false)
            go (inl h) = inl (omega arith)
            go (inr h) = inr h

        from : (b : ℕ) → in_at n waiting (k + 1) b ≡ true → in_at n waiting k b ≡ true
        from b t = let w = in_use n waiting (k + 1) b t in in-make n waiting k b w.0 (go (ℕ_discrete b k) w.1)
          where
            go : Dec (b ≡ k) → (b < k + 1) ⊎ (has waiting (suc b) ≡ false) → (b < k) ⊎ (has waiting (suc b) ≡ false)
            go (yes e) h = inr (ap (λ (x : ℕ). has waiting (suc x)) e ∙ off)
            go (no ne) (inl h) = inl (omega (arith, ne))
            go (no ne) (inr h) = inr h

    pub put_next : k < n → (waits : Bool) → has waiting (suc k) ≡ waits → (next' holders' : List ℕ) → (waits ≡ false → (next' ≡ next) × (holders' ≡ holders))
        → (waits ≡ true → (r : Ready m k bids next holders) (on : ℕ → Bool) → Joins k r.on on → Put m bids on next holders next' holders')
        → Put m bids (in_at n waiting (k + 1)) prices own next' holders'
    put_next l true e next' holders' off on = put-joined l e next' holders' (on refl)
    put_next l false e next' holders' off on = let w = off refl in put-skipped e next' holders' w.0 w.1

    pub put-end : n ≤ k → Put m bids (everyone n) prices own next holders
    put-end l = put_same (λ b t. everyone-make n b (in_use n waiting k b t).0) (λ b t. let lb = everyone-use n b t in in-make n waiting k b lb (inl (omega (arith, lb, l)))) p
