-- `differences::Part::slack` meets its contract. Assumes nothing.
use Prim.Native.Nat.{◌+◌}
use mathlib.Core.Path.{◌≡◌, ap}
use native.Mathlib.Omega.{arith}
use lib.ListN.{get_or}
use lib.IntN.{pos}
use mir.Syntax.{w16}
use mir.Val.{to_z}
use borrow.Author.Count.{below_more}
use borrow.Author.Rules.{rules}
use Rattle.differences.specs.Shifted.{up, shifted, wide, column_bid}
use Rattle.differences.specs.Lent.{rows_of}
use Rattle.differences.proofs.Signs.{read, all_small}
use Rattle.differences.proofs.Quick.{least-is, slack-less, slack-same}
use Rattle.differences.proofs.Part.slack.Goals as goal

pub slack_row-requires : goal.slack_row-requires
slack_row-requires c = (omega arith, all_small c.column-bids.result c.column-bids.ensures.small)

pub loop-i-preserved : goal.loop-i-preserved
loop-i-preserved c =
    let s = c.args.self.now in
    let at = c.loop-i in
    let i = at.i in
    let n = s.items + 1 in
    let e = shifted (rows_of s.numbers.now) in
    let bids = c.column-bids.result in
    let m = to_z w16 at.m-bits in
    let row : read c.slack_row.result ≡ c.slack_row.result = search rules in
    let least : read c.min-m.result ≡ c.min-m.result = search rules in
    let least' = ap wide least in
    let l = least-is m c.slack_row.result row c.min-m.result c.min-m.ensures.value in
    below_more _ i (λ k lk. slack-less e (column_bid e) n k (wide m) (wide (read c.min-m.result)) (omega arith) (at.invariant k lk))
    (slack-less e (column_bid e) n i (wide c.slack_row.result) (wide (read c.min-m.result)) (omega arith)
    (slack-same e (λ k. up (get_or bids k (pos 0))) (column_bid e) n i (wide c.slack_row.result) (omega arith) c.column-bids.ensures.done c.slack_row.ensures))

pub returns : goal.returns
returns c = record { rows = λ k l. c.loop-i.invariant k (omega arith) }
