-- `sheet::read_counted` meets its contract. Assumes nothing.
use Prim.Native.Nat.{ℕ, ◌+◌, ◌*◌, ◌≤◌}
use mathlib.Core.Path.{◌≡◌, sym, ap, ◌∙◌}
use Rattle.std.specs.Prelude.{None, Some}
use native.Mathlib.Omega.{arith}
use lib.ListN.{length, take, replicate, length-replicate}
use lib.Seq.{length-take-le, take_all}
use Rattle.lines.specs.Reading.{line_at}
use Rattle.sheet.specs.BidSheet.{bids_at}
use Rattle.sheet.specs.Contents.{contents}
use Rattle.sheet.specs.Steps.{read_as}
use Rattle.sheet.proofs.Walking.{four_bytes}
use Rattle.sheet.proofs.Ahead.{said-no, said-yes}
use Rattle.sheet.proofs.Rows.{few, line-inside}
use Rattle.sheet.proofs.Order.{no_start, no-bids, sheet_is, all_read}
use Rattle.sheet.proofs.Reading.{by_lines}
use Rattle.sheet.proofs.Ends.{refused-with, accepted-as}
use Rattle.sheet.proofs.read_counted.Goals as goal

-- the part of so many places that is lent
part : (w m : ℕ) → m ≤ w → length {A = ℕ} (take m (replicate w 0)) ≡ m
part w m l = length-take-le m (replicate w 0) (omega (arith, length-replicate {A = ℕ} w 0))

pub line_at-requires : goal.line_at-requires
line_at-requires c =
    let four : 4 ≤ length c.args.bytes.now =
    let a = c.args in
    let p = c.requires in
    four_bytes a.bytes.now a.items p.0 a.bidders p.1 in
    (four, omega (arith, part 32 c.args.items (omega arith)))

pub returns-then-not-line_at : goal.returns-then-not-line_at
returns-then-not-line_at c =
    let start-said : line_at c.args.items 4 c.args.bytes.now 4 ≡ read_as c.line_at.result c.line_at.new.into =
    let a = c.args in
    ap (λ (k : ℕ). line_at k 4 a.bytes.now 4) (sym (part 32 a.items (omega arith))) ∙ c.line_at.ensures in
    let a = c.args in
    let p = c.requires in
    let said = c.line_at in
    let e : line_at a.items 4 a.bytes.now 4 ≡ None =
    said-no (line_at a.items 4 a.bytes.now 4) said.result said.new.into (start-said) c.if-not-line_at.true in
    refused-with _ 6 _ (λ z. omega arith)
    (no_start a.bytes.now a.items p.0 a.bidders p.1 p.2 p.3 e)

pub bids_at-requires : goal.bids_at-requires
bids_at-requires c =
    let four : 4 ≤ length c.args.bytes.now =
    let a = c.args in
    let p = c.requires in
    four_bytes a.bytes.now a.items p.0 a.bidders p.1 in
    let start-said : line_at c.args.items 4 c.args.bytes.now 4 ≡ read_as c.line_at.result c.line_at.new.into =
    let a = c.args in
    ap (λ (k : ℕ). line_at k 4 a.bytes.now 4) (sym (part 32 a.items (omega arith))) ∙ c.line_at.ensures in
    let start-read : line_at c.args.items 4 c.args.bytes.now 4 ≡ Some c.line_at.new.into =
    let a = c.args in
    said-yes (line_at a.items 4 a.bytes.now 4) c.line_at.result c.line_at.new.into (start-said) c.if-not-line_at.false in
    let size : c.args.bidders * c.args.items ≤ 2048 = few c.args.bidders c.args.items (omega arith) (omega arith) in
    let a = c.args in
    let l = line-inside a.bytes.now a.items 4 _ (four) (start-read) in
    (omega arith, omega arith, omega arith, omega (arith, part 2048 (a.bidders * a.items) (size)))

pub returns-then-not-bids_at : goal.returns-then-not-bids_at
returns-then-not-bids_at c =
    let start-said : line_at c.args.items 4 c.args.bytes.now 4 ≡ read_as c.line_at.result c.line_at.new.into =
    let a = c.args in
    ap (λ (k : ℕ). line_at k 4 a.bytes.now 4) (sym (part 32 a.items (omega arith))) ∙ c.line_at.ensures in
    let start-read : line_at c.args.items 4 c.args.bytes.now 4 ≡ Some c.line_at.new.into =
    let a = c.args in
    said-yes (line_at a.items 4 a.bytes.now 4) c.line_at.result c.line_at.new.into (start-said) c.if-not-line_at.false in
    let a = c.args in
    let p = c.requires in
    let said = c.bids_at in
    let e : bids_at a.bidders a.items a.bytes.now (5 + 4 * a.items) ≡ None =
    said-no (bids_at a.bidders a.items a.bytes.now (5 + 4 * a.items)) said.result (take (a.bidders * a.items) said.new.into) said.ensures c.if-not-bids_at.true in
    refused-with _ 6 _ (λ z. omega arith)
    (no-bids a.bytes.now a.items p.0 a.bidders p.1 p.2 p.3 c.line_at.new.into (start-read) e)

pub returns : goal.returns
returns c =
    let start-said : line_at c.args.items 4 c.args.bytes.now 4 ≡ read_as c.line_at.result c.line_at.new.into =
    let a = c.args in
    ap (λ (k : ℕ). line_at k 4 a.bytes.now 4) (sym (part 32 a.items (omega arith))) ∙ c.line_at.ensures in
    let start-read : line_at c.args.items 4 c.args.bytes.now 4 ≡ Some c.line_at.new.into =
    let a = c.args in
    said-yes (line_at a.items 4 a.bytes.now 4) c.line_at.result c.line_at.new.into (start-said) c.if-not-line_at.false in
    let size : c.args.bidders * c.args.items ≤ 2048 = few c.args.bidders c.args.items (omega arith) (omega arith) in
    let a = c.args in
    let p = c.requires in
    let start = c.line_at.new.into in
    let said = c.bids_at in
    let bids = said.new.into in
    let long : length bids ≡ a.bidders * a.items = said.auto.into ∙ part 2048 (a.bidders * a.items) (size) in
    let e : bids_at a.bidders a.items a.bytes.now (5 + 4 * a.items) ≡ Some bids =
    said-yes (bids_at a.bidders a.items a.bytes.now (5 + 4 * a.items)) said.result (take (a.bidders * a.items) bids) said.ensures c.if-not-bids_at.false
    ∙ ap Some (take_all (a.bidders * a.items) bids (omega arith)) in
    accepted-as _ _ _ (all_read a.bytes.now a.items p.0 a.bidders p.1 p.2 p.3 start (start-read) bids e)
    (by_lines a.items a.bidders start bids (omega arith) (size) (c.line_at.auto.into ∙ part 32 a.items (omega arith)) long
    ∙ ap (contents 0) (sym (sheet_is a.bytes.now a.items p.0 a.bidders p.1 p.2 p.3 start (start-read) bids e)))
