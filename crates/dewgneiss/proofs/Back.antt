-- Where the number of the sealed auction into lent lists is 0, so is the auction's own, and what is lent back is its sheet's closing. Assumes nothing.
use Prim.Native.Nat.{ℕ, ◌≤◌}
use mathlib.Core.Path.{◌≡◌, refl, sym, ap, ap₂, ◌∙◌, subst}
use mathlib.Core.List.{List, [], ◌∷◌}
use native.Mathlib.Omega.{arith}
use native.Mathlib.Nat.{zero-add}
use lib.ListN.{length, get_or}
use Rattle.sets.specs.Lists.{places}
use Rattle.sets.proofs.Lists.{tabulate-length, is-tabulate, places-at}
use Rattle.rule.specs.Sheet.{Sheet}
use Rattle.rule.specs.Excess.{above_floors}
use Rattle.rule.specs.Round.{State}
use Rattle.rule.specs.Closing.{demands_at, FitsAt, assignment_at}
use Rattle.rule.specs.Gains.{gains_at}
use Rattle.rule.proofs.Limits.{Limits, limits}
use Rattle.rule.proofs.Fitting.{fits-use}
use Rattle.rule.proofs.AtPrices.{demands-length}
use Rattle.bids.specs.Lent.{sheet_above, sheet_of}
use Rattle.bids.proofs.Lent.{rows-length}
use Rattle.auction.specs.Sealed.{sealed_of, sealed_above_of, falling_first_of, Promised, PromisedFalling}
use Rattle.auction.specs.declared.Closing.{Closing}
use Rattle.auction.proofs.Settling.{ready, close-long}
use Rattle.auction.proofs.Sealing.{sealed-promised, above-promised, falling-promised}
use Rattle.sheet.specs.Close.{by_number}
use Rattle.dewgneiss.specs.Lent.{unfit, lent_refusal, lent_above_refusal}
use Rattle.dewgneiss.specs.Back.{LentBack}
use Rattle.dewgneiss.proofs.Accepted.{no_number}
use Rattle.dewgneiss.proofs.Results.{lent-sealed, lent_above, lent-falling}

-- a list of m numbers, out of as many places or more
exact-places : (w m : ℕ) (xs : List ℕ) → length xs ≡ m → m ≤ w → places m (places w xs) ≡ xs
unfolding places
exact-places w m xs e l =
    sym
    (is-tabulate m xs (λ k. get_or (places w xs) k 0) 0 e
    (λ k lk. sym (places-at w xs k (omega arith)) ∙ ap (λ (j : ℕ). get_or (places w xs) j 0) (sym (zero-add k))))

-- what a call answers and leaves, by its contract: where it answers 0, the lists hold the close of the sheet that was lent. There is a price for each item, and an
-- option and a gain for each bidder
module _ (s : Sheet) (lim : Limits s) (r : Closing) (u d : ℕ) (q : List ℕ) (fitting : FitsAt s q (assignment_at s q)) (as_items : length q ≡ s.items)
    (er : r.raised ≡ u) (el : r.lowered ≡ d) (ep : r.prices ≡ places 32 q) (en : r.assignment ≡ places 64 (assignment_at s q)) (eg : r.gains ≡ places 64 (gains_at s q)) where
  as-bidders : length (assignment_at s q) ≡ length s.bids
  as-bidders =
      (fits-use s.items (above_floors s.items s.floors q) (demands_at s q) (assignment_at s q) fitting).assigns.all ∙ demands-length s.items s.bids q

  gains-long : length (gains_at s q) ≡ length s.bids
  gains-long = unfold gains_at in tabulate-length (length s.bids) _ 0

  lent_back : (n why : ℕ) (rounds prices options gains rounds' prices' options' gains' : List ℕ) → length s.bids ≡ n
      → rounds' ≡ by_number why (r.raised ∷ r.lowered ∷ []) rounds → prices' ≡ by_number why (places s.items r.prices) prices
      → options' ≡ by_number why (places n r.assignment) options → gains' ≡ by_number why (places n r.gains) gains → why ≡ 0 → LentBack s u d q rounds' prices' options' gains'
  lent_back n why rounds prices options gains rounds' prices' options' gains' count cr cp co cg z =
      record {
        played = cr ∙ by _ rounds ∙ ap₂ (λ (x y : ℕ). x ∷ y ∷ []) er el;
        priced = cp ∙ by _ prices ∙ ap (places s.items) ep ∙ exact-places 32 s.items q as_items lim.max_items;
        named = co ∙ by _ options ∙ ap (λ (k : ℕ). places k r.assignment) (sym count) ∙ ap (places (length s.bids)) en
            ∙ exact-places 64 (length s.bids) (assignment_at s q) as-bidders lim.max_bidders;
        gained = cg ∙ by _ gains ∙ ap (λ (k : ℕ). places k r.gains) (sym count) ∙ ap (places (length s.bids)) eg
            ∙ exact-places 64 (length s.bids) (gains_at s q) gains-long lim.max_bidders;
      }
    where
      by : (a b : List ℕ) → by_number why a b ≡ a
      by a b = ap (λ (k : ℕ). by_number k a b) z

-- rising first
to_back : (s : Sheet) (r : Closing) (n why : ℕ) (rounds prices options gains rounds' prices' options' gains' : List ℕ) → length s.bids ≡ n → (p : Promised s r)
    → rounds' ≡ by_number why (r.raised ∷ r.lowered ∷ []) rounds → prices' ≡ by_number why (places s.items r.prices) prices
    → options' ≡ by_number why (places n r.assignment) options → gains' ≡ by_number why (places n r.gains) gains → why ≡ 0 → LentBack s p.closing.ups p.closing.downs p.closing.prices rounds' prices' options' gains'
to_back s r n why rounds prices options gains rounds' prices' options' gains' count p er ep eo eg z =
    let c = p.closing in
    let long = ap (λ (t : State). length t.prices) c.close_is in
    lent_back s (limits s p.within) r c.ups c.downs c.prices c.fitting (sym long ∙ close-long s (ready s p.within))
    p.raised p.lowered p.prices p.names p.gains n why rounds prices options gains rounds' prices' options' gains' count er ep eo eg z

-- falling first, in the prices of rising first
to-falling-back : (s : Sheet) (r : Closing) (n why : ℕ) (rounds prices options gains rounds' prices' options' gains' : List ℕ) → length s.bids ≡ n → (p : PromisedFalling s r)
    → rounds' ≡ by_number why (r.raised ∷ r.lowered ∷ []) rounds → prices' ≡ by_number why (places s.items r.prices) prices
    → options' ≡ by_number why (places n r.assignment) options → gains' ≡ by_number why (places n r.gains) gains → why ≡ 0 → LentBack s p.closing.ups p.closing.downs p.closing.prices rounds' prices' options' gains'
to-falling-back s r n why rounds prices options gains rounds' prices' options' gains' count p er ep eo eg z =
    let c = p.closing in
    let long = ap (λ (t : State). length t.prices) c.rising_first.close_is in
    lent_back s (limits s p.within) r c.ups c.downs c.prices
    (subst (λ (q : List ℕ). FitsAt s q (assignment_at s q)) (sym c.same-prices) c.rising_first.fitting) (ap length c.same-prices ∙ sym long ∙ close-long s (ready s p.within))
    p.raised p.lowered p.prices p.names p.gains n why rounds prices options gains rounds' prices' options' gains' count er ep eo eg z

pub sealed_back : (m n : ℕ) (start bids rounds prices options gains rounds' prices' options' gains' : List ℕ) (why : ℕ)
    → why ≡ lent_refusal m n start bids rounds prices options gains
    → rounds' ≡ by_number why ((sealed_of m n start bids).raised ∷ (sealed_of m n start bids).lowered ∷ []) rounds
    → prices' ≡ by_number why (places m (sealed_of m n start bids).prices) prices
    → options' ≡ by_number why (places n (sealed_of m n start bids).assignment) options
    → gains' ≡ by_number why (places n (sealed_of m n start bids).gains) gains
    → why ≡ 0 → (p : Promised (sheet_of m n start bids) (sealed_of m n start bids))
    × LentBack (sheet_of m n start bids) p.closing.ups p.closing.downs p.closing.prices rounds' prices' options' gains'
unfolding sheet_of sheet_above
sealed_back m n start bids rounds prices options gains rounds' prices' options' gains' why number er ep eo eg z =
    let r = sealed_of m n start bids in
    let none = (no_number r.refusal (unfit m n rounds prices options gains) (lent-sealed m n start bids rounds prices options gains ∙ sym number ∙ z)).0 in
    let p = sealed-promised m n start bids r refl none in
    (p, to_back (sheet_of m n start bids) r n why rounds prices options gains rounds' prices' options' gains' (rows-length m n bids) p er ep eo eg z)

pub above-back : (m n : ℕ) (start floors bids rounds prices options gains rounds' prices' options' gains' : List ℕ) (why : ℕ)
    → why ≡ lent_above_refusal m n start floors bids rounds prices options gains
    → rounds' ≡ by_number why ((sealed_above_of m n start floors bids).raised ∷ (sealed_above_of m n start floors bids).lowered ∷ []) rounds
    → prices' ≡ by_number why (places m (sealed_above_of m n start floors bids).prices) prices
    → options' ≡ by_number why (places n (sealed_above_of m n start floors bids).assignment) options
    → gains' ≡ by_number why (places n (sealed_above_of m n start floors bids).gains) gains
    → why ≡ 0 → (p : Promised (sheet_above m n start floors bids) (sealed_above_of m n start floors bids))
    × LentBack (sheet_above m n start floors bids) p.closing.ups p.closing.downs p.closing.prices rounds' prices' options' gains'
unfolding sheet_above
above-back m n start floors bids rounds prices options gains rounds' prices' options' gains' why number er ep eo eg z =
    let r = sealed_above_of m n start floors bids in
    let none = (no_number r.refusal (unfit m n rounds prices options gains) (lent_above m n start floors bids rounds prices options gains ∙ sym number ∙ z)).0 in
    let p = above-promised m n start floors bids r refl none in
    (p, to_back (sheet_above m n start floors bids) r n why rounds prices options gains rounds' prices' options' gains' (rows-length m n bids) p er ep eo eg z)

pub falling-back : (m n : ℕ) (start floors bids rounds prices options gains rounds' prices' options' gains' : List ℕ) (why : ℕ)
    → why ≡ lent_above_refusal m n start floors bids rounds prices options gains
    → rounds' ≡ by_number why ((falling_first_of m n start floors bids).raised ∷ (falling_first_of m n start floors bids).lowered ∷ []) rounds
    → prices' ≡ by_number why (places m (falling_first_of m n start floors bids).prices) prices
    → options' ≡ by_number why (places n (falling_first_of m n start floors bids).assignment) options
    → gains' ≡ by_number why (places n (falling_first_of m n start floors bids).gains) gains
    → why ≡ 0 → (p : PromisedFalling (sheet_above m n start floors bids) (falling_first_of m n start floors bids))
    × LentBack (sheet_above m n start floors bids) p.closing.ups p.closing.downs p.closing.prices rounds' prices' options' gains'
unfolding sheet_above
falling-back m n start floors bids rounds prices options gains rounds' prices' options' gains' why number er ep eo eg z =
    let r = falling_first_of m n start floors bids in
    let none = (no_number r.refusal (unfit m n rounds prices options gains) (lent-falling m n start floors bids rounds prices options gains ∙ sym number ∙ z)).0 in
    let p = falling-promised m n start floors bids r refl none in
    (p, to-falling-back (sheet_above m n start floors bids) r n why rounds prices options gains rounds' prices' options' gains' (rows-length m n bids) p er ep eo eg z)
