-- `differences::Table::turn` meets its contract. Assumes nothing.
use Prim.Native.Nat.{ℕ}
use mathlib.Core.Path.{◌≡◌, refl, ap, ◌∙◌}
use mathlib.Core.List.{List, []}
use native.Mathlib.Omega.{arith}
use lib.ListN.{length, get_or}
use lib.IntN.{ℤ, pos}
use borrow.Author.Rules.{rules}
use Rattle.differences.specs.Table.{entry}
use Rattle.differences.specs.Shifted.{up, shifted, AllSmall, RowMade, via, through}
use Rattle.differences.proofs.Signs.{read, back, again, place-small, row_small}
use Rattle.differences.proofs.Filling.{start, more, end}
use Rattle.differences.proofs.Table.turn.Goals as goal

row-turned : (d : List (List ℤ)) → AllSmall d → (k n i : ℕ) (r : List ℤ)
    → RowMade n (get_or d i []) (λ j. via (up (get_or (get_or d i []) j (pos 0))) (up (read (get_or (get_or d i []) k (pos 0)))) (up (get_or (get_or d k []) j (pos 0)))) r
    → RowMade n (get_or d i []) (through (shifted d) k i) r
unfolding through shifted entry AllSmall
row-turned d s k n i r a =
    record {
      done = λ j l. a.done j l ∙ ap (λ (x : ℤ). via (up (get_or (get_or d i []) j (pos 0))) (up x) (up (get_or (get_or d k []) j (pos 0)))) (back (get_or (get_or d i []) k (pos 0)) (s i k));
      rest = a.rest;
      small = a.small;
    }

pub loop-i-init : goal.loop-i-init
loop-i-init c =
    let s = c.args.self in
    start s.options s.rows (through (shifted s.rows) c.args.k) s.rows (let z : length s.rows ≡ 33 = search rules in z) (λ h k. refl)

pub row-requires : goal.row-requires
row-requires c =
    let s = c.args.self in
    let k = c.args.k in
    let i = c.loop-i.i in
    (s.few, again (get_or (get_or s.rows i []) k (pos 0)) (place-small s.rows s.small i k), row_small s.rows s.small i, row_small s.rows s.small k)

pub loop-i-preserved : goal.loop-i-preserved
loop-i-preserved c =
    let s = c.args.self in
    let at = c.loop-i in
    more s.options s.rows (through (shifted s.rows) c.args.k) at.rows at.i c.row.result s.few at.invariant (omega arith)
    (row-turned s.rows s.small c.args.k s.options at.i c.row.result c.row.ensures)

pub invariant_of-result : goal.invariant_of-result
invariant_of-result c =
    let s = c.args.self in
    let at = c.loop-i in
    record { few = s.few; small = (end s.options s.rows (through (shifted s.rows) c.args.k) at.rows at.i s.small at.invariant (omega arith)).small }

pub returns : goal.returns
returns c =
    let s = c.args.self in
    let at = c.loop-i in
    (end s.options s.rows (through (shifted s.rows) c.args.k) at.rows at.i s.small at.invariant (omega arith), refl)
