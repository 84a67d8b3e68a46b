-- What number 11 asks of the reports, clause by clause, is what the crate `reports` tests of each place; and a report is missing. Assumes nothing.
use Prim.Native.Nat.{ℕ, suc, ◌≤◌, ◌<◌}
use mathlib.Core.Path.{◌≡◌, refl, sym, ◌∙◌}
use mathlib.Core.Bool.{Bool, true, false, ◌&&◌}
use mathlib.Core.Logic.{◌⊎◌, inl, inr}
use native.Mathlib.Omega.{arith}
use lib.ListN.{length}
use Rattle.sets.proofs.Counting.{lt-or-le, and_left, and_right, and_both, is_false, not-both, or_right_false}
use Rattle.reports.specs.Report.{saying, is_empty, beyond, unfit}
use Rattle.reports.specs.Places.{place_fits, all_fit, any_missing}
use Rattle.reports.proofs.Laws.{empty-within}
use Rattle.reports.proofs.Fitting.{fits-reported, fits-other, fits-make, all-fit-use, all-fit-make}
use Rattle.live.specs.Auction.{place, has_reported, missing, unused_places, unused_bits, reported_fit, others_empty}
use Rattle.live.specs.declared.Auction.{Auction}
use Rattle.live.proofs.Formed.{past-bidders-use, past-bidders-make, bits-make, reported-use, reported-make, others-use, others-make}

pub missing-is : (r : Auction) → any_missing r.bidders r.reported ≡ missing r
unfolding any_missing missing has_reported
missing-is r = refl

module _ (r : Auction) (long : length r.sets ≡ 64) (most : r.bidders ≤ 64) where
  abbrev fits : Bool
  fits = all_fit r.items r.bidders r.sets r.nulls r.reported

  -- ---- every place holds what it may: the four clauses

  module _ (e : fits ≡ true) where
    at : (k : ℕ) → k < 64 → place_fits r.items r.bidders (suc k) (has_reported r (suc k)) (place r k) ≡ true
    unfolding has_reported place saying
    at k l = all-fit-use r.items r.bidders r.sets r.nulls r.reported e k (omega (arith, l, long))

    reported-at : (k : ℕ) → k < 64 → has_reported r (suc k) ≡ true → (suc k ≤ r.bidders) × (unfit r.items (place r k) ≡ false)
    reported-at k l = fits-reported r.items r.bidders (suc k) (has_reported r (suc k)) (place r k) (at k l)

    other_at : (k : ℕ) → k < 64 → has_reported r (suc k) ≡ false → is_empty (place r k) ≡ true
    other_at k l = fits-other r.items r.bidders (suc k) (has_reported r (suc k)) (place r k) (at k l)

    past : (k : ℕ) → k < 64 → r.bidders ≤ k → (is_empty (place r k) ≡ true) × (has_reported r (suc k) ≡ false)
    past k l h =
        let q = is_false (has_reported r (suc k)) (λ t. let b = (reported-at k l t).0 in absurd (omega (arith, b, h))) in
        (other_at k l q, q)

    within : (k : ℕ) → k < 64 → beyond r.items (place r k) ≡ false
    within k l = go (has_reported r (suc k)) refl
      where
        go : (x : Bool) → has_reported r (suc k) ≡ x → beyond r.items (place r k) ≡ false
        go true q = or_right_false (is_empty (place r k)) (beyond r.items (place r k)) (unfold unfit in (reported-at k l q).1)
        go false q = empty-within r.items (place r k) (other_at k l q)

    clauses-hold : unused_places r && unused_bits r && reported_fit r && others_empty r ≡ true
    clauses-hold =
        and_both (unused_places r && unused_bits r && reported_fit r) (others_empty r)
        (and_both (unused_places r && unused_bits r) (reported_fit r)
        (and_both (unused_places r) (unused_bits r) (past-bidders-make r past) (bits-make r within))
        (reported-make r (λ k l h. (reported-at k (omega (arith, l, most)) h).1)))
        (others-make r (λ k l. other_at k (omega (arith, l, most))))

  -- ---- the four clauses: every place holds what it may

  module _ (places : unused_places r ≡ true) (fit : reported_fit r ≡ true) (others : others_empty r ≡ true) where
    who-has : (k : ℕ) → k < 64 → has_reported r (suc k) ≡ true → (suc k ≤ r.bidders) × (unfit r.items (place r k) ≡ false)
    who-has k l h = go (lt-or-le k r.bidders)
      where
        go : (k < r.bidders) ⊎ (r.bidders ≤ k) → (suc k ≤ r.bidders) × (unfit r.items (place r k) ≡ false)
        go (inl b) = (b, reported-use r fit k b h)
        go (inr b) = absurd (not-both (has_reported r (suc k)) h (past-bidders-use r places k l b).1)

    who-has-not : (k : ℕ) → k < 64 → has_reported r (suc k) ≡ false → is_empty (place r k) ≡ true
    who-has-not k l h = go (lt-or-le k r.bidders)
      where
        go : (k < r.bidders) ⊎ (r.bidders ≤ k) → is_empty (place r k) ≡ true
        go (inl b) = others-use r others k b h
        go (inr b) = (past-bidders-use r places k l b).0

    places-fit : fits ≡ true
    unfolding has_reported place saying
    places-fit =
        all-fit-make r.items r.bidders r.sets r.nulls r.reported
        (λ k l. let l64 : k < 64 = omega (arith, l, long) in
        fits-make r.items r.bidders (suc k) (has_reported r (suc k)) (place r k) (who-has k l64) (who-has-not k l64))

  -- the four clauses in one
  pub fits-clauses : all_fit r.items r.bidders r.sets r.nulls r.reported ≡ unused_places r && unused_bits r && reported_fit r && others_empty r
  fits-clauses = go fits refl
    where
      by-clauses : unused_places r && unused_bits r && reported_fit r && others_empty r ≡ true → fits ≡ true
      by-clauses h =
          let h3 = and_left (unused_places r && unused_bits r && reported_fit r) (others_empty r) h in
          places-fit (and_left (unused_places r) (unused_bits r) (and_left (unused_places r && unused_bits r) (reported_fit r) h3))
          (and_right (unused_places r && unused_bits r) (reported_fit r) h3) (and_right (unused_places r && unused_bits r && reported_fit r) (others_empty r) h)

      go : (x : Bool) → fits ≡ x → fits ≡ unused_places r && unused_bits r && reported_fit r && others_empty r
      go true e = e ∙ sym (clauses-hold e)
      go false e = e ∙ sym (is_false (unused_places r && unused_bits r && reported_fit r && others_empty r) (λ h. not-both fits (by-clauses h) e))
