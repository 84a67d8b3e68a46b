-- K1 to K9, from the table of `cases`. Assumes nothing.
use Prim.Native.Nat.{ℕ, ◌+◌, ◌≤◌, ◌<◌}
use mathlib.Core.Path.{◌≡◌, sym, ap, ◌∙◌}
use mathlib.Core.List.{List}
use mathlib.Core.Logic.{◌⊎◌, inl, inr}
use native.Mathlib.Omega.{arith}
use Rattle.sets.proofs.Counting.{lt-or-le}
use Rattle.rule.specs.Sheet.{Sheet}
use Rattle.rule.specs.Round.{Round, closed, State, path, close}
use Rattle.rule.specs.Closing.{round_of, assignment_at, phase_after}
use Rattle.rule.specs.FallingFirst.{falling_path, falling_round_of, falling_close, rising_after}
use Rattle.rule.proofs.Closing.{closing}
use Rattle.rule.proofs.FallingClosing.{falling-closing}
use Rattle.cases.specs.Cases as table
use Rattle.cases.proofs.Cases as rows
use Rattle.promises.specs.Cases.{Closes, ClosesFalling, Tried}

-- a path that closes after k rounds, and another count e of which the same is known: they are the same
module _ (at : ℕ → Round) (j k : ℕ) (closes-j : at j ≡ closed) (before-j : (i : ℕ) → i < j → at i ≡ closed → ⊥) (closes-k : at k ≡ closed) (before-k : (i : ℕ) → i < k → at i ≡ closed → ⊥) where
  same_count : j ≡ k
  same_count = go (lt-or-le j k) (lt-or-le k j)
    where
      go : (j < k) ⊎ (k ≤ j) → (k < j) ⊎ (j ≤ k) → j ≡ k
      go (inl l) h = absurd (before-k j l closes-j)
      go (inr m) (inl l) = absurd (before-j k l closes-k)
      go (inr m) (inr n) = omega (arith, m, n)

closes : (s : Sheet) (n u d : ℕ) (p xs : List ℕ) → table.Closes s n u d p xs → Closes s u d p xs
closes s n u d p xs k =
    let c = closing s k.limits in
    let e : c.ups + c.downs ≡ u + d = same_count (round_of s) (c.ups + c.downs) (u + d) c.closes c.before_close k.closes k.not_before in
    let q : close s ≡ record { phase = phase_after d; prices = p; ups = u; downs = d } = c.close_is ∙ sym c.at_close ∙ ap (path s) e ∙ k.at_close in
    let r = ap (λ (t : State). t.prices) q in
    record {
      within = k.limits;
      raised = ap (λ (t : State). t.ups) q;
      lowered = ap (λ (t : State). t.downs) q;
      prices = r;
      names = ap (assignment_at s) r ∙ k.assigned;
    }

closes-falling : (s : Sheet) (n d : ℕ) (t : List ℕ) (u : ℕ) (p xs : List ℕ) → table.FallingCloses s n d t u p xs → ClosesFalling s d t u p xs
closes-falling s n d t u p xs k =
    let c = falling-closing s k.limits in
    let e : c.downs + c.ups ≡ d + u = same_count (falling_round_of s) (c.downs + c.ups) (d + u) c.closes c.before_close k.closes k.not_before in
    let q : falling_close s ≡ record { phase = rising_after u; prices = p; ups = u; downs = d } = c.close_is ∙ sym c.at_close ∙ ap (falling_path s) e ∙ k.at_close in
    let r = ap (λ (t : State). t.prices) q in
    record {
      lowered = ap (λ (t : State). t.downs) q;
      turn = ap (λ (t : State). t.prices) k.at_turn;
      raised = ap (λ (t : State). t.ups) q;
      prices = r;
      names = ap (assignment_at s) r ∙ k.assigned;
    }

-- the rows of the table, one behind the other, each with what it finds
pub tried : Tried
tried =
    let k1 = rows.cases in
    let k2 = k1.1 in
    let k3 = k2.1 in
    let k4 = k3.1 in
    let k5 = k4.1 in
    let k6 = k5.1 in
    let k7 = k6.1 in
    let k8 = k7.1 in
    let k9 = k8.1 in
    let unmet = k9.1 in
    let floored = unmet.1 in
    let unfloored = floored.1 in
    let last = unfloored.1 in
    record {
      K1 = closes _ _ _ _ _ _ k1.0.0;
      K1-falling-first = closes-falling _ _ _ _ _ _ _ k1.0.1.0;
      K2-rising = k2.0.0;
      K2-tilde = k2.0.1.0;
      K2-falling = k2.0.1.1.0;
      K3-rising = k3.0.0;
      K3-falling = k3.0.1.0;
      K4-falling = k4.0.0;
      K4 = closes _ _ _ _ _ _ k4.0.1.0;
      K4-falling-first = closes-falling _ _ _ _ _ _ _ k4.0.1.1.0;
      K5 = closes _ _ _ _ _ _ k5.0.0;
      K6 = closes _ _ _ _ _ _ k6.0.0;
      K7 = closes _ _ _ _ _ _ k7.0.0;
      K8 = closes _ _ _ _ _ _ k8.0.0;
      K9 = closes _ _ _ _ _ _ k9.0.0;
      K9-falling-first = closes-falling _ _ _ _ _ _ _ k9.0.1.0;
      unmet = closes _ _ _ _ _ _ unmet.0.0;
      floored = closes _ _ _ _ _ _ floored.0.1.0;
      unfloored = closes _ _ _ _ _ _ unfloored.0.1.0;
      more_of_bids = rows.higher-without;
      less_of_floors = rows.lower-with;
      K9-floored = closes _ _ _ _ _ _ last.0.0;
      K9-floored-falling-first = closes-falling _ _ _ _ _ _ _ last.0.1.0;
    }
