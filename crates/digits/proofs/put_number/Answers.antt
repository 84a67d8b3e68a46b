-- `digits::put_number` meets its contract: what is left to write, written to the bytes as they are, makes the same bytes at each turn. Assumes nothing.
use Prim.Native.Nat.{ℕ, zero, suc, ◌+◌, ◌-◌, ◌/◌, ◌%◌, ◌≤◌, ◌<◌}
use mathlib.Core.Path.{◌≡◌, refl, sym, ap, ◌∙◌}
use mathlib.Core.List.{List, [], ◌∷◌, ◌++◌}
use native.Mathlib.Omega.{arith}
use native.Mathlib.Nat.{add-zero, lt_irrefl}
use lib.ListN.{length, set}
use lib.Seq.{sets, set_comm}
use Rattle.digits.specs.Digits.{digit, hex}
use Rattle.digits.proofs.Digits.{hex-length}
use Rattle.digits.proofs.put_number.Goals as goal

-- the last of a run may be stored first
sets_last : (l : List ℕ) (i : ℕ) (vs : List ℕ) (v : ℕ) → sets l i (vs ++ v ∷ []) ≡ sets (set l (i + length vs) v) i vs
sets_last l i [] v = ap (λ (k : ℕ). set l k v) (sym (add-zero i))
sets_last l i (a ∷ vs) v =
    let e : suc i + length vs ≡ i + suc (length vs) = omega arith in
    sets_last (set l i a) (suc i) vs v
    ∙ ap (λ (k : ℕ). sets (set (set l i a) k v) (suc i) vs) e
    ∙ ap (λ (r : List ℕ). sets r (suc i) vs) (set_comm l i (i + suc (length vs)) a v (omega arith))

-- the last of k digits is stored, and those before it are left
step : (l : List ℕ) (at k x : ℕ) → 0 < k → sets (set l (at + (k - 1)) (digit (x % 16))) at (hex (k - 1) (x / 16)) ≡ sets l at (hex k x)
unfolding hex
step l at zero x h = absurd (lt_irrefl 0 h)
step l at (suc k) x h =
    let e : suc k - 1 ≡ k = omega arith in
    rw e
    (sym
    (sets_last l at (hex k (x / 16)) (digit (x % 16))
    ∙ ap (λ (n : ℕ). sets (set l (at + n) (digit (x % 16))) at (hex k (x / 16))) (hex-length k (x / 16))))

-- no digits are left
done : (l : List ℕ) (at k x : ℕ) → k ≤ 0 → sets l at (hex k x) ≡ l
unfolding hex
done l at zero x h = refl
done l at (suc k) x h = absurd (lt_irrefl 0 (omega arith))

pub loop-k-preserved : goal.loop-k-preserved
loop-k-preserved c =
    let l = c.loop-k in
    let at : ℕ = c.args.at in
    ap (λ (b : ℕ). sets (set l.out (at + (l.k - 1)) b) at (hex (l.k - 1) (l.rest / 16))) c.digit.ensures
    ∙ step l.out at l.k l.rest c.loop-k-test.true
    ∙ l.invariant

pub returns : goal.returns
returns c =
    let l = c.loop-k in
    sym (done l.out c.args.at l.k l.rest c.loop-k-test.false) ∙ l.invariant
