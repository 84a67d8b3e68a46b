-- `live::open` meets its contract: the floors that it lends are 0. Assumes nothing.
use Prim.Native.Nat.{ℕ, ◌≤◌, ◌<◌}
use mathlib.Core.Path.{◌≡◌, refl, sym, ap, ◌∙◌}
use mathlib.Core.Bool.{true}
use mathlib.Core.List.{List}
use native.Mathlib.Omega.{arith}
use lib.ListN.{length, take, replicate, length-replicate}
use lib.Seq.{length-take-le}
use borrow.Author.Tests.{eqb-false}
use Rattle.sets.proofs.Filling.{take-zeros}
use Rattle.rule.specs.Refusal.{bad_items}
use Rattle.rule.proofs.Refusal.{over-range}
use Rattle.live.specs.Calls.{open_above_number, open_above, filled_by}
use Rattle.live.proofs.Opening.{one, turned-down, number-zero, zero-floors}
use Rattle.live.proofs.open.Goals as goal

too_many : (m : ℕ) → 32 < m → bad_items m ≡ true
unfolding bad_items
too_many m l = over-range 32 m (omega arith) l

-- of 32 places so many are lent
lent : (x m : ℕ) → m ≤ 32 → m ≡ length (take m (replicate {A = ℕ} 32 x))
lent x m l = sym (length-take-le m (replicate {A = ℕ} 32 x) (omega (arith, length-replicate {A = ℕ} 32 x, l)))

pub returns-then-items-gt32 : goal.returns-then-items-gt32
returns-then-items-gt32 c =
    let a = c.args in
    let ts = a.tables.now in
    let e = one a.items a.bidders a.start.now (replicate a.items 0) ts (too_many a.items c.if-items-gt32.true) in
    let q = turned-down a.items a.bidders a.start.now (replicate a.items 0) ts 1 (sym e) (eqb-false 1 0 refl) in (
      c.refused.ensures ∙ q.0 ∙ zero-floors a.items a.bidders a.start.now ts,
      q.1 ∙ ap (λ (x : ℕ). filled_by x a.items a.bidders ts) (number-zero a.items a.bidders a.start.now ts),
    )

pub returns : goal.returns
returns c =
    let a = c.args in
    let ts = a.tables.now in
    let z = take-zeros a.items 32 c.if-items-gt32.false in (
      c.open_above.ensures.0 ∙ ap (λ (x : List ℕ). open_above a.items a.bidders a.start.now x ts) z ∙ zero-floors a.items a.bidders a.start.now ts,
      c.open_above.ensures.1
          ∙ ap (λ (x : List ℕ). filled_by (open_above_number a.items a.bidders a.start.now x ts) a.items a.bidders ts) z
          ∙ ap (λ (x : ℕ). filled_by x a.items a.bidders ts) (number-zero a.items a.bidders a.start.now ts),
    )
