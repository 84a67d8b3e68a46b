-- From the contracts of the public calls to what `src` says of their outcomes and of lent lists. Assumes nothing.
use Prim.Native.Nat.{ℕ}
use mathlib.Core.Path.{◌≡◌, sym, ap, ◌∙◌, subst}
use mathlib.Core.Bool.{Bool, true}
use mathlib.Core.List.{List, [], ◌∷◌}
use Rattle.sets.specs.Lists.{places}
use Rattle.matching.specs.Demand as matching
use Rattle.rule.specs.Sheet.{Sheet, within_limits}
use Rattle.rule.specs.Round.{State, close}
use Rattle.rule.specs.Equilibrium.{Below}
use Rattle.rule.specs.Closing.{assignment_at}
use Rattle.rule.specs.Gains.{gains_at, Gains}
use Rattle.rule.specs.FallingFirst.{falling_close}
use Rattle.bids.specs.Lent.{sheet_of, sheet_above}
use Rattle.least.specs.Least as lower
use Rattle.auction.specs.Sealed.{closed, sealed_of, sealed_above_of, falling_first_of, Promised, PromisedFalling}
use Rattle.auction.proofs.Sealing as sealing
use Rattle.auction.specs.declared.Closing.{Closing}
use Rattle.sheet.specs.Close.{by_number}
use Rattle.sheet.proofs.Ends.{by-some}
use Rattle.dewgneiss.specs.Lent.{lent_refusal, lent_above_refusal}
use Rattle.live.specs.declared.Auction.{Auction}
use Rattle.bench_exports.specs.Lent as bench
use Rattle.dewgneiss.specs.Back as lists
use Rattle.dewgneiss.proofs.Back as back
use Rattle.promises.specs.Calls.{Stands, Leaves, InLists}
use Rattle.promises.specs.Demand3Sealed.{Least}
use Rattle.promises.specs.Matching.{Covers, MatchOrNone}
use Rattle.promises.proofs.Gains.{gaining}

-- ---- by value

stands_at : (s : Sheet) (c : State) (p : List ℕ) (u d : ℕ) (r : Closing) → within_limits s ≡ true → c.ups ≡ u → c.downs ≡ d → c.prices ≡ p → r.raised ≡ u → r.lowered ≡ d
    → r.prices ≡ places 32 p → r.assignment ≡ places 64 (assignment_at s p) → r.gains ≡ places 64 (gains_at s p) → Gains s p → Stands s c r
stands_at s c p u d r e eu ed ep ru rd rp rn rg g =
    record {
      within = e;
      raised_are = ru ∙ sym eu;
      lowered_are = rd ∙ sym ed;
      prices_are = rp ∙ ap (places 32) (sym ep);
      names_are = rn ∙ ap (λ (q : List ℕ). places 64 (assignment_at s q)) (sym ep);
      gains_are = rg ∙ ap (λ (q : List ℕ). places 64 (gains_at s q)) (sym ep);
      gaining = gaining s c.prices (subst (Gains s) (sym ep) g);
    }

pub stands : (s : Sheet) (r : Closing) → Promised s r → Stands s (close s) r
stands s r p =
    let c = p.closing in
    stands_at s (close s) c.prices c.ups c.downs r p.within (ap (λ (t : State). t.ups) c.close_is) (ap (λ (t : State). t.downs) c.close_is) (ap (λ (t : State). t.prices) c.close_is)
    p.raised p.lowered p.prices p.names p.gains p.gaining

pub stands-falling : (s : Sheet) (r : Closing) → PromisedFalling s r → Stands s (falling_close s) r
stands-falling s r p =
    let c = p.closing in
    stands_at s (falling_close s) c.prices c.ups c.downs r p.within (ap (λ (t : State). t.ups) c.close_is) (ap (λ (t : State). t.downs) c.close_is) (ap (λ (t : State). t.prices) c.close_is)
    p.raised p.lowered p.prices p.names p.gains p.gaining

-- the outcome of rising first where falling first is not turned down
pub rising-too : (m n : ℕ) (start floors bids : List ℕ) (r : Closing) → r ≡ falling_first_of m n start floors bids → r.refusal ≡ 0
    → closed (sheet_above m n start floors bids) ≡ sealed_above_of m n start floors bids
rising-too m n start floors bids r e z = sealing.above-closed m n start floors bids (sym (sealing.falling-number m n start floors bids) ∙ ap (λ (x : Closing). x.refusal) (sym e) ∙ z)

pub least : (m : ℕ) (bids : List (List ℕ)) (base p : List ℕ) → lower.Least m bids base p → Least m bids base p
unfolding Below
least m bids base p l = record { from_base = l.least.above; no_excess = l.least.empty; lowest = l.least.least; places_32 = l.long }

-- ---- into lent lists

module _ (s : Sheet) (t : State) (r : Closing) (m n why : ℕ) (rounds prices options gains rounds' prices' options' gains' : List ℕ)
    (er : rounds' ≡ by_number why (r.raised ∷ r.lowered ∷ []) rounds)
    (ep : prices' ≡ by_number why (places m r.prices) prices)
    (eo : options' ≡ by_number why (places n r.assignment) options)
    (eg : gains' ≡ by_number why (places n r.gains) gains)
    (back : why ≡ 0 → lists.LentBack s t.ups t.downs t.prices rounds' prices' options' gains') where
  leaves : Leaves s t why rounds prices options gains rounds' prices' options' gains'
  leaves =
      record {
        rounds_are = λ z. (back z).played;
        prices_are = λ z. (back z).priced;
        names_are = λ z. (back z).named;
        gains_are = λ z. (back z).gained;
        rounds_kept = λ ne. er ∙ by-some why ne _ rounds;
        prices_kept = λ ne. ep ∙ by-some why ne _ prices;
        names_kept = λ ne. eo ∙ by-some why ne _ options;
        gains_kept = λ ne. eg ∙ by-some why ne _ gains;
      }

module _ (m n : ℕ) (start floors bids rounds prices options gains rounds' prices' options' gains' : List ℕ) (why : ℕ) where
  pub leaves-sealed : why ≡ lent_refusal m n start bids rounds prices options gains
      → rounds' ≡ by_number why ((sealed_of m n start bids).raised ∷ (sealed_of m n start bids).lowered ∷ []) rounds
      → prices' ≡ by_number why (places m (sealed_of m n start bids).prices) prices
      → options' ≡ by_number why (places n (sealed_of m n start bids).assignment) options
      → gains' ≡ by_number why (places n (sealed_of m n start bids).gains) gains
      → let s = sheet_of m n start bids in Leaves s (close s) why rounds prices options gains rounds' prices' options' gains'
  leaves-sealed e er ep eo eg =
      leaves (sheet_of m n start bids) (close (sheet_of m n start bids)) (sealed_of m n start bids) m n why rounds prices options gains rounds' prices' options' gains' er ep eo eg
      λ z.
      let b = back.sealed_back m n start bids rounds prices options gains rounds' prices' options' gains' why e er ep eo eg z in
      subst (λ (t : State). lists.LentBack (sheet_of m n start bids) t.ups t.downs t.prices rounds' prices' options' gains') (sym b.0.closing.close_is) b.1

  pub leaves-above : why ≡ lent_above_refusal m n start floors bids rounds prices options gains
      → rounds' ≡ by_number why ((sealed_above_of m n start floors bids).raised ∷ (sealed_above_of m n start floors bids).lowered ∷ []) rounds
      → prices' ≡ by_number why (places m (sealed_above_of m n start floors bids).prices) prices
      → options' ≡ by_number why (places n (sealed_above_of m n start floors bids).assignment) options
      → gains' ≡ by_number why (places n (sealed_above_of m n start floors bids).gains) gains
      → let s = sheet_above m n start floors bids in Leaves s (close s) why rounds prices options gains rounds' prices' options' gains'
  leaves-above e er ep eo eg =
      leaves (sheet_above m n start floors bids) (close (sheet_above m n start floors bids)) (sealed_above_of m n start floors bids) m n why rounds prices options gains rounds' prices' options' gains' er ep eo eg
      λ z.
      let b = back.above-back m n start floors bids rounds prices options gains rounds' prices' options' gains' why e er ep eo eg z in
      subst (λ (t : State). lists.LentBack (sheet_above m n start floors bids) t.ups t.downs t.prices rounds' prices' options' gains') (sym b.0.closing.close_is) b.1

  pub leaves-falling : why ≡ lent_above_refusal m n start floors bids rounds prices options gains
      → rounds' ≡ by_number why ((falling_first_of m n start floors bids).raised ∷ (falling_first_of m n start floors bids).lowered ∷ []) rounds
      → prices' ≡ by_number why (places m (falling_first_of m n start floors bids).prices) prices
      → options' ≡ by_number why (places n (falling_first_of m n start floors bids).assignment) options
      → gains' ≡ by_number why (places n (falling_first_of m n start floors bids).gains) gains
      → let s = sheet_above m n start floors bids in
      Leaves s (falling_close s) why rounds prices options gains rounds' prices' options' gains'
  leaves-falling e er ep eo eg =
      leaves (sheet_above m n start floors bids) (falling_close (sheet_above m n start floors bids)) (falling_first_of m n start floors bids) m n why rounds prices options gains rounds' prices' options' gains' er ep eo eg
      λ z.
      let b = back.falling-back m n start floors bids rounds prices options gains rounds' prices' options' gains' why e er ep eo eg z in
      subst (λ (t : State). lists.LentBack (sheet_above m n start floors bids) t.ups t.downs t.prices rounds' prices' options' gains') (sym b.0.closing.close_is) b.1

-- ---- a record in lent lists

pub in-lists : (r : Auction) (numbers prices floors sets rounds : List ℕ) → bench.StandsIn r numbers prices floors sets rounds → InLists r numbers prices floors sets rounds
in-lists r numbers prices floors sets rounds s =
    record { numbers_are = s.in_numbers; prices_are = s.in_prices; floors_are = s.in_floors; sets_are = s.in_sets; rounds_are = s.in_rounds }

-- ---- the matching

covers : (ds : List ℕ) (bidders items : ℕ) (h : ℕ → ℕ) → matching.Matching 32 64 ds h → matching.Covering 32 64 ds bidders items h → Covers ds bidders items h
unfolding matching.Fair
covers ds bidders items h m c = record { wanted = m.fair; once = m.once; placed = c.placed; held = c.held }

pub match-or-none : (ds : List ℕ) (bidders items : ℕ) (found : Bool) (h : ℕ → ℕ) → matching.Covered 32 64 ds bidders items found h → MatchOrNone ds bidders items found h
unfolding matching.Fair
match-or-none ds bidders items found h c =
    record {
      one = λ y. covers ds bidders items h (c.matching y) (c.covering y);
      none = λ n g x. c.none n g (record { fair = x.wanted; once = x.once }) (record { placed = x.placed; held = x.held });
    }
