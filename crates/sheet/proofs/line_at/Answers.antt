-- `sheet::line_at` meets its contract: the numbers read stand ahead of those left to read. Assumes nothing.
use Prim.Native.Nat.{ℕ, ◌+◌, ◌*◌, ◌-◌}
use mathlib.Core.Path.{◌≡◌, sym, ap, ◌∙◌}
use mathlib.Core.List.{List, [], ◌∷◌, ◌++◌}
use Rattle.std.specs.Prelude.{Option, None, Some}
use native.Mathlib.Omega.{arith}
use native.Mathlib.Numerals.{add-one}
use lib.ListN.{length, set, take}
use lib.Seq.{take_all, take-suc-set}
use Rattle.digits.specs.Reading.{number_at}
use Rattle.lines.specs.Reading.{numbers_at}
use Rattle.digits.proofs.Digits.{hex-length}
use Rattle.digits.proofs.Numbers.{number_read}
use Rattle.digits.proofs.Walking.{was-read}
use Rattle.sheet.proofs.Ahead.{ahead, ahead_none, numbers-stop, numbers-step, numbers-done, no_line, line-by-end}
use Rattle.sheet.proofs.line_at.Goals as goal

pub loop-i-init : goal.loop-i-init
loop-i-init c =
    let a = c.args in
    let n : ℕ = length a.into.now in
    let e : n - 0 ≡ n = omega arith in
    let f : a.at + 4 * 0 ≡ a.at = omega arith in (
      ahead_none (numbers_at n 4 a.s.now a.at) ∙ ap (λ (j : ℕ). ahead [] (numbers_at j 4 a.s.now a.at)) (sym e)
          ∙ ap (λ (j : ℕ). ahead [] (numbers_at (n - 0) 4 a.s.now j)) (sym f),
      omega arith,
    )

pub returns-in_default : goal.returns-in_default
returns-in_default c =
    let a = c.args in
    let l = c.loop-i in
    let n : ℕ = length a.into.now in
    let here : ℕ = a.at + 4 * l.i in
    let e : number_at 4 a.s.now here ≡ None = was-read 4 here a.s.now c.read_number.result _ (omega arith) c.read_number.ensures c.in_default.is in
    no_line a.s.now n a.at
    (l.invariant.0 ∙ ap (ahead (take l.i l.into)) (numbers-stop a.s.now (n - l.i) here (omega arith) e))

pub overflow_cast-amount : goal.overflow_cast-amount
overflow_cast-amount c =
    let read : number_at 4 c.args.s.now (c.args.at + 4 * c.loop-i.i) ≡ Some c.in-Some.x =
    let a = c.args in
    was-read 4 (a.at + 4 * c.loop-i.i) a.s.now c.read_number.result _ (omega arith) c.read_number.ensures c.in-Some.is in
    let a = c.args in
    let l = c.loop-i in
    omega (arith, (number_read a.s.now 4 (a.at + 4 * l.i) c.in-Some.x (omega arith) (read)).0)

pub loop-i-preserved : goal.loop-i-preserved
loop-i-preserved c =
    let read : number_at 4 c.args.s.now (c.args.at + 4 * c.loop-i.i) ≡ Some c.in-Some.x =
    let a = c.args in
    was-read 4 (a.at + 4 * c.loop-i.i) a.s.now c.read_number.result _ (omega arith) c.read_number.ensures c.in-Some.is in
    let a = c.args in
    let l = c.loop-i in
    let n : ℕ = length a.into.now in
    let x : ℕ = c.in-Some.x in
    let here : ℕ = a.at + 4 * l.i in
    let fits = (number_read a.s.now 4 here x (omega arith) (read)).1.fits in
    let t : take (l.i + 1) (set l.into l.i x) ≡ take l.i l.into ++ x ∷ [] = rw add-one (take-suc-set l.into l.i x (omega arith)) in
    let on : here + 4 ≡ a.at + 4 * (l.i + 1) = omega arith in (
      numbers-step a.s.now (numbers_at n 4 a.s.now a.at) (take l.i l.into) n l.i here x (omega arith) (read) l.invariant.0
          ∙ ap (λ (xs : List ℕ). ahead xs (numbers_at (n - (l.i + 1)) 4 a.s.now (here + 4))) (sym t)
          ∙ ap (λ (j : ℕ). ahead (take (l.i + 1) (set l.into l.i x)) (numbers_at (n - (l.i + 1)) 4 a.s.now j)) on,
      omega (arith, hex-length 4 x),
    )

pub returns : goal.returns
returns c =
    let a = c.args in
    let l = c.loop-i in
    let n : ℕ = length a.into.now in
    let here : ℕ = a.at + 4 * l.i in
    let at-end : a.at + 4 * length l.into ≡ a.at + 4 * n = omega arith in
    line-by-end a.s.now n a.at l.into c.ends_at.result
    (numbers-done a.s.now (numbers_at n 4 a.s.now a.at) (take l.i l.into) n l.i here (omega arith) l.invariant.0
    ∙ ap {B = Option (List ℕ)} Some (take_all l.i l.into (omega arith)))
    (rw (← at-end) c.ends_at.ensures)
