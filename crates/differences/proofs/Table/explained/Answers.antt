-- `differences::Table::explained` meets its contract. Assumes nothing.
use Prim.Native.Nat.{ℕ, ◌≤◌, min}
use mathlib.Core.Path.{◌≡◌, refl, sym, subst}
use mathlib.Core.List.{List, []}
use native.Mathlib.Omega.{arith}
use lib.ListN.{length, get_or}
use lib.IntN.{ℤ, pos}
use borrow.Author.Rules.{rules}
use Rattle.sets.specs.Bit.{has}
use Rattle.rule.specs.Sheet.{amount}
use Rattle.differences.specs.Table.{entry}
use Rattle.differences.specs.Shifted.{up, shifted, RowMade}
use Rattle.differences.specs.Constraint.{pivot, limit, limited}
use Rattle.differences.proofs.Signs.{row_small}
use Rattle.differences.proofs.Filling.{start, more, end}
use Rattle.differences.proofs.Constraints.{pivot-most}
use Rattle.differences.proofs.Table.explained.Goals as goal

row-limited : (t : List (List ℤ)) (f : ℕ → ℕ → ℕ) (n i l k : ℕ) (r : List ℤ) → l ≡ k → RowMade n (get_or t i []) (λ j. min (up (get_or (get_or t i []) j (pos 0))) (f l j)) r → RowMade n (get_or t i []) (λ j. min (shifted t i j) (f k j)) r
unfolding shifted entry
row-limited t f n i l k r e h = subst (λ (x : ℕ). RowMade n (get_or t i []) (λ j. min (shifted t i j) (f x j)) r) e h

pub loop-i-init : goal.loop-i-init
loop-i-init c =
    let s = c.args.self in
    let q = c.args.report.now in
    start s.options s.rows (limited (shifted s.rows) q.null q.set q.prices.now) s.rows (let z : length s.rows ≡ 33 = search rules in z) (λ h k. refl)

pub explained_row-requires : goal.explained_row-requires
explained_row-requires c =
    let s = c.args.self in
    let q = c.args.report.now in
    let few = s.few in
    (few, subst (λ (x : ℕ). x ≤ 32) (sym c.pivot-l.ensures) (pivot-most q.null (has q.set)), omega arith, row_small s.rows s.small c.loop-i.i)

pub loop-i-preserved : goal.loop-i-preserved
loop-i-preserved c =
    let s = c.args.self in
    let q = c.args.report.now in
    let at = c.loop-i in
    more s.options s.rows (limited (shifted s.rows) q.null q.set q.prices.now) at.rows at.i c.explained_row.result s.few at.invariant (omega arith)
    (row-limited s.rows (λ l. limit q.null (has q.set) (amount q.prices.now) l at.i) s.options at.i c.pivot-l.result (pivot q.null (has q.set)) c.explained_row.result c.pivot-l.ensures c.explained_row.ensures)

pub invariant_of-result : goal.invariant_of-result
invariant_of-result c =
    let s = c.args.self in
    let q = c.args.report.now in
    let at = c.loop-i in
    record { few = s.few; small = (end s.options s.rows (limited (shifted s.rows) q.null q.set q.prices.now) at.rows at.i s.small at.invariant (omega arith)).small }

pub returns : goal.returns
returns c =
    let s = c.args.self in
    let q = c.args.report.now in
    let at = c.loop-i in
    (end s.options s.rows (limited (shifted s.rows) q.null q.set q.prices.now) at.rows at.i s.small at.invariant (omega arith), refl)
