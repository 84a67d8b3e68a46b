-- The reason of a round at prices, from what the code's steps answer. Assumes nothing.
use Prim.Native.Nat.{ℕ, ◌^◌, ◌<◌}
use mathlib.Core.Path.{◌≡◌, sym, ap, ap₂, ◌∙◌, subst}
use mathlib.Core.List.{List}
use lib.ListN.{length}
use Rattle.rule.specs.Demand.{Demand, demands, surpluses, nth}
use Rattle.rule.specs.Excess.{excess_demand, excess_supply, above_floors, something_in, nothing_outside}
use Rattle.rule.specs.Reasons.{bidders_with, reason_of}
use Rattle.rule.proofs.Reasons.{with-same}
use Rattle.round.specs.Reports.{reports}
use Rattle.round.proofs.Reporting.{reports-length, report}
use Rattle.round.proofs.Narrowing.{above_floors-lt, rising-narrow, falling-narrow, outside-narrow, something-narrow}
use Rattle.bids.specs.Lent.{rows_of}
use Rattle.demands.specs.Demands.{demands_of, surpluses_of, held}
use Rattle.demands.specs.declared.Demands.{Demands}
use Rattle.demands.proofs.Demanding.{Complete, Demanded, demanded}
use Rattle.reasons.specs.Steps.{counts_for, moving_set, kind_of, ReasonIs}
use Rattle.reasons.specs.declared.Move.{Move}
use Rattle.reasons.specs.declared.Move.TheVariants.{Rise, Fall}

module _ (m n : ℕ) (floors prices bids : List ℕ) (c : Complete m n (length bids)) (past : above_floors 32 floors prices ≡ above_floors m floors prices) (step : Move)
    (d : Demands) (e : d ≡ held (demands_of m n prices bids) (surpluses_of m n prices bids)) where
  abbrev ds : List Demand
  ds = demands m (rows_of m n bids) prices

  abbrev xs : List ℕ
  xs = surpluses m (rows_of m n bids) prices

  abbrev above : ℕ
  above = above_floors m floors prices

  found : Demanded m n prices bids c d
  found = demanded m n prices bids c d e

  -- the set that moves is that of m items and n bidders
  set_is : (a : ℕ) → a ≡ above_floors 32 floors prices → moving_set step 32 a (reports 64 d.sets d.nulls) ≡ moving_set step m above ds
  set_is a ea = by step
    where
      q : a ≡ above
      q = ea ∙ past

      by : (x : Move) → moving_set x 32 a (reports 64 d.sets d.nulls) ≡ moving_set x m above ds
      by Rise = rising-narrow m n d.sets found.reported d.nulls ∙ ap (excess_demand m) found.same
      by Fall =
          falling-narrow m n d.sets found.reported d.nulls a (subst (λ (x : ℕ). x < 2 ^ m) (sym q) (above_floors-lt m floors prices))
          ∙ ap₂ (excess_supply m) q found.same

  -- and so are the bidders
  who-is : (s : ℕ) → bidders_with (reports n d.sets d.nulls) (counts_for step 32 s) ≡ bidders_with ds (counts_for step m s)
  who-is s = with-same said (counts_for step 32 s) (counts_for step m s) at ∙ ap (λ (xs : List Demand). bidders_with xs (counts_for step m s)) found.same
    where
      said : List Demand
      said = reports n d.sets d.nulls

      at : (b : ℕ) → b < length said → counts_for step 32 s (nth said b) ≡ counts_for step m s (nth said b)
      at b l =
          let lb : b < n = subst (λ (k : ℕ). b < k) (reports-length n d.sets d.nulls) l in
          let small = subst (λ (x : Demand). x.items < 2 ^ m) (sym (report n d.sets d.nulls b lb)) (found.reported.small b lb) in
          by step small
        where
          by : (x : Move) → (nth said b).items < 2 ^ m → counts_for x 32 s (nth said b) ≡ counts_for x m s (nth said b)
          by Rise small = outside-narrow m c.max_items s (nth said b) small
          by Fall small = something-narrow m c.max_items s (nth said b) small

  pub reason-is : (a s k w : ℕ) → a ≡ above_floors 32 floors prices → s ≡ moving_set step 32 a (reports 64 d.sets d.nulls) → k ≡ kind_of step
      → w ≡ bidders_with (reports n d.sets d.nulls) (counts_for step 32 s) → ReasonIs m above ds xs step (record { kind = k; items = s; bidders = w; surpluses = d.surpluses })
  unfolding reason_of
  reason-is a s k w ea es ek ew =
      by step (es ∙ set_is a ea) ek (ew ∙ who-is s)
    where
      by : (f : Move) → s ≡ moving_set f m above ds → k ≡ kind_of f → w ≡ bidders_with ds (counts_for f m s)
          → ReasonIs m above ds xs f (record { kind = k; items = s; bidders = w; surpluses = d.surpluses })
      by Fall q ek ew = record { kind = ek; items = q; bidders = ew ∙ ap (λ (x : ℕ). bidders_with ds (something_in m x)) q; surpluses = found.highest }
      by Rise q ek ew = record { kind = ek; items = q; bidders = ew ∙ ap (λ (x : ℕ). bidders_with ds (nothing_outside m x)) q; surpluses = found.highest }
