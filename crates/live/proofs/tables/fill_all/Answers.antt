-- `live::tables::fill_all` meets its contract: the tables of the bidders done are the opening's. Assumes nothing.
use Prim.Native.Nat.{ℕ, ◌*◌}
use mathlib.Core.Path.{◌≡◌, sym, ap, ◌∙◌}
use mathlib.Core.List.{List}
use native.Mathlib.Omega.{arith}
use lib.ListN.{length, take}
use lib.IntN.{ℤ}
use Rattle.differences.specs.Table.{opening}
use Rattle.differences.specs.Lent.{flat_all}
use Rattle.live.specs.Tables.{open_tables}
use Rattle.live.proofs.Lent.{part_length, lent-part, fills-at, none_done, all_done, one_more}
use Rattle.live.proofs.tables.fill_all.Goals as goal

pub loop-k-init : goal.loop-k-init
loop-k-init c = none_done (λ k. opening c.args.items) c.args.tables.now

pub loop-k-preserved : goal.loop-k-preserved
loop-k-preserved c =
    let a = c.args in
    let k = c.loop-k.k in
    let l = c.loop-k-test.true in
    let ts = c.loop-k.tables in
    let long = c.loop-k.auto.tables ∙ c.requires.0 in
    let xs : List ℤ = c.fill.new.part in
    let full : length xs ≡ 1089 = c.fill.auto.part ∙ ap length (lent-part ts k) ∙ part_length ts a.bidders k long l in
    one_more ts xs a.bidders k l long full (λ k. opening a.items) c.loop-k.invariant (c.fill.ensures ∙ fills-at ts a.bidders k long l a.items c.requires.2)

pub returns : goal.returns
unfolding open_tables
returns c =
    let a = c.args in
    let ts = c.loop-k.tables in
    let e : c.loop-k.k ≡ a.bidders = omega arith in
    all_done (λ k. opening a.items) ts a.bidders (c.loop-k.auto.tables ∙ c.requires.0)
    (ap (λ (n : ℕ). take (n * 1089) ts) (sym e) ∙ c.loop-k.invariant ∙ ap (λ (n : ℕ). flat_all n (λ k. opening a.items)) e)
