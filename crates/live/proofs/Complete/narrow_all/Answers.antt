-- `live::Complete::narrow_all` meets its contract: the tables of the bidders done are narrowed, and those of the others are as they came. Assumes nothing.
use Prim.Native.Nat.{ℕ, ◌*◌}
use mathlib.Core.Path.{◌≡◌, refl, sym, ap, ◌∙◌}
use mathlib.Core.List.{List}
use native.Mathlib.Omega.{arith}
use lib.ListN.{length, get_or, take}
use lib.IntN.{ℤ}
use Rattle.reports.specs.Report.{saying}
use Rattle.differences.specs.Allowed.{narrowed}
use Rattle.differences.specs.Lent.{table_at, flat_all}
use Rattle.live.specs.Auction.{place}
use Rattle.live.specs.Tables.{narrowed_tables}
use Rattle.live.proofs.Opening.{tables_long}
use Rattle.live.proofs.Formed.{formed}
use Rattle.live.proofs.Lent.{inside, part_length, lent-part, said_at, none_done, all_done, one_more, rest-same, narrows-at}
use Rattle.live.proofs.Complete.narrow_all.Goals as goal

pub loop-k-init : goal.loop-k-init
loop-k-init c =
    let r = c.args.self.auction in
    let ts = c.args.tables.now in
    (none_done (λ k. narrowed r.items (table_at ts k) r.prices (place r k)) ts, refl)

pub overflow_mul-a : goal.overflow_mul-a
overflow_mul-a c = omega (arith, (formed c.args.self.auction c.requires.0.formed).max_bidders)

pub overflow_add-table : goal.overflow_add-table
overflow_add-table c = omega (arith, (formed c.args.self.auction c.requires.0.formed).max_bidders)

pub offset_bounds-tables-a : goal.offset_bounds-tables-a
offset_bounds-tables-a c = omega (arith, (formed c.args.self.auction c.requires.0.formed).max_bidders)

pub slice_bounds-table-end : goal.slice_bounds-table-end
slice_bounds-table-end c =
    let a = c.args in
    omega (arith, inside c.loop-k.k a.self.auction.bidders c.loop-k-test.true, c.loop-k.auto.tables, tables_long a.self.auction.bidders a.tables.now c.requires.0.long)

pub bounds-self-k : goal.bounds-self-k
bounds-self-k c = omega (arith, (formed c.args.self.auction c.requires.0.formed).max_bidders)

pub loop-k-preserved : goal.loop-k-preserved
loop-k-preserved c =
    let r = c.args.self.auction in
    let ts₀ = c.args.tables.now in
    let k = c.loop-k.k in
    let l = c.loop-k-test.true in
    let ts = c.loop-k.tables in
    let long = c.loop-k.auto.tables ∙ tables_long r.bidders ts₀ c.requires.0.long in
    let xs : List ℤ = c.narrow.new.part in
    let full : length xs ≡ 1089 = c.narrow.auto.part ∙ ap length (lent-part ts k) ∙ part_length ts r.bidders k long l in
    let null = c.has-null.result in (
      one_more ts xs r.bidders k l long full (λ k. narrowed r.items (table_at ts₀ k) r.prices (place r k)) c.loop-k.invariant.0
          (c.narrow.ensures.1 ∙ narrows-at r ts₀ c.requires.0 c.args.self.ready c.requires.1 ts k l c.loop-k.invariant.1 (saying null (get_or r.sets k 0)) (said_at r k null c.has-null.ensures)),
      rest-same ts xs r.bidders k l long full ts₀ c.loop-k.invariant.1,
    )

pub returns : goal.returns
unfolding narrowed_tables
returns c =
    let r = c.args.self.auction in
    let ts₀ = c.args.tables.now in
    let ts = c.loop-k.tables in
    let f : ℕ → List (List ℤ) = λ k. narrowed r.items (table_at ts₀ k) r.prices (place r k) in
    let same : flat_all r.bidders f ≡ narrowed_tables r ts₀ = refl in
    let e : c.loop-k.k ≡ r.bidders = omega arith in
    all_done f ts r.bidders (c.loop-k.auto.tables ∙ tables_long r.bidders ts₀ c.requires.0.long)
    (ap (λ (n : ℕ). take (n * 1089) ts) (sym e) ∙ c.loop-k.invariant.0 ∙ ap (λ (n : ℕ). flat_all n f) e) ∙ same
