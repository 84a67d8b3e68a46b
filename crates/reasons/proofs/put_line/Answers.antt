-- `reasons::put_line` meets its contract. Assumes nothing.
use Prim.Native.Nat.{◌+◌, ◌/◌, ◌%◌, ◌≤◌}
use mathlib.Core.Path.{◌≡◌}
use native.Mathlib.Omega.{arith}
use lib.ListN.{length, length-set}
use Rattle.digits.proofs.Room.{written}
use Rattle.reasons.proofs.Lines.{line-put}
use Rattle.reasons.proofs.put_line.Goals as goal

pub shape_of-out : goal.shape_of-out
shape_of-out c = simp length-set (omega arith)

pub returns : goal.returns
returns c =
    let a = c.args in
    let w = c.write_number in
    let x = c.write_number-2 in
    let y = c.write_number-3 in
    let z = c.write_number-4 in
    let v = c.write_number-5 in
    let room : a.at + 31 ≤ length a.out.now = c.requires in
    let k : length w.new.out ≡ length a.out.now = w.auto.out in
    let l : length x.new.out ≡ length w.new.out = x.auto.out in
    let m : length y.new.out ≡ length x.new.out = y.auto.out in
    let n : length z.new.out ≡ length y.new.out = z.auto.out in
    line-put a.out.now w.new.out x.new.out y.new.out z.new.out v.new.out a.at a.number a.kind a.items a.bidders
    (written a.out.now w.new.out a.at 4 a.number (omega arith) w.ensures.1)
    (written w.new.out x.new.out (a.at + 4) 2 a.kind (omega arith) x.ensures.1)
    (written x.new.out y.new.out (a.at + 6) 8 a.items (omega arith) y.ensures.1)
    (written y.new.out z.new.out (a.at + 14) 8 (a.bidders / 4294967296) (omega arith) z.ensures.1)
    (written z.new.out v.new.out (a.at + 22) 8 (a.bidders % 4294967296) (omega arith) v.ensures.1)
