-- What holds of the auction's own number and of the lent lists where no number applies. Assumes nothing.
use Prim.Native.Nat.{ℕ}
use mathlib.Core.Path.{◌≡◌, refl, sym, ap, ◌∙◌}
use mathlib.Core.Bool.{Bool, true, false, ◌||◌, cond}
use mathlib.Core.List.{List}
use native.Mathlib.Omega.{arith}
use lib.Dec.{eqb}
use lib.ListN.{length}
use Rattle.sets.proofs.Counting.{not-both, or_left_false, or_right_false}
use Rattle.rule.specs.Refusal.{bad_length}
use Rattle.rule.proofs.Refusal.{exact-is}
use Rattle.dewgneiss.specs.Lent.{unfit, with_lengths}

-- the auction gives no number, and the lists fit
pub no_number : (why : ℕ) (u : Bool) → with_lengths why u ≡ 0 → (why ≡ 0) × (u ≡ false)
unfolding with_lengths
no_number why false e = (sym (same (eqb why 1 || eqb why 2)) ∙ e, refl)
  where
    same : (b : Bool) → cond b why why ≡ why
    same true = refl
    same false = refl
no_number why true e = absurd (go (eqb why 1 || eqb why 2) refl e)
  where
    go : (b : Bool) → eqb why 1 || eqb why 2 ≡ b → cond b why 3 ≡ 0 → ⊥
    go true q z = not-both true refl (sym q ∙ ap (λ (x : ℕ). eqb x 1 || eqb x 2) z)
    go false q z = omega arith

pub no_refusal : (why : ℕ) (u : Bool) → with_lengths why u ≡ 0 → why ≡ 0
no_refusal why u e = (no_number why u e).0

pub record Accepted (m n : ℕ) (rounds prices options gains : List ℕ) : Type 0 where
  pub two : length rounds ≡ 2
  pub as_items : length prices ≡ m
  pub as-bidders : length options ≡ n
  pub gain-each : length gains ≡ n

pub accepted : (m n : ℕ) (rounds prices options gains : List ℕ) → unfit m n rounds prices options gains ≡ false → Accepted m n rounds prices options gains
unfolding unfit
accepted m n rounds prices options gains u =
    let w = or_left_false (bad_length rounds 2 || bad_length prices m || bad_length options n) (bad_length gains n) u in
    let v = or_left_false (bad_length rounds 2 || bad_length prices m) (bad_length options n) w in
    record {
      two = exact-is rounds 2 (or_left_false (bad_length rounds 2) (bad_length prices m) v);
      as_items = exact-is prices m (or_right_false (bad_length rounds 2) (bad_length prices m) v);
      as-bidders = exact-is options n (or_right_false (bad_length rounds 2 || bad_length prices m) (bad_length options n) w);
      gain-each = exact-is gains n (or_right_false (bad_length rounds 2 || bad_length prices m || bad_length options n) (bad_length gains n) u);
    }

-- and so where the call itself is answered 0
pub lendable : {m n : ℕ} {rounds prices options gains : List ℕ} {why w : ℕ} {u : Bool} → w ≡ with_lengths why u → u ≡ unfit m n rounds prices options gains → w ≡ 0
    → (why ≡ 0) × Accepted m n rounds prices options gains
lendable {m = m} {n = n} {rounds = rounds} {prices = prices} {options = options} {gains = gains} {why = why} {u = u} ew eu z =
    let none = no_number why u (sym ew ∙ z) in (none.0, accepted m n rounds prices options gains (sym eu ∙ none.1))
