-- What holds along the path of a sheet, as far as a record shows it. Assumes nothing.
use Prim.Native.Nat.{ℕ, zero, suc, ◌+◌, ◌-◌, ◌^◌, ◌≤◌, ◌<◌}
use mathlib.Core.Path.{◌≡◌, refl, sym, ap, ◌∙◌, subst}
use mathlib.Core.List.{List}
use native.Mathlib.Omega.{arith}
use native.Mathlib.Decide.{dec_le}
use lib.ListN.{length}
use Rattle.rule.specs.Sheet.{Sheet}
use Rattle.rule.specs.Demand.{Demand}
use Rattle.rule.specs.Excess.{above_floors}
use Rattle.rule.specs.Round.{Phase, rising, falling, Round, raised, lowered, closed, State, move, round_at, round, after, opening, path, close}
use Rattle.rule.specs.Closing.{demands_at, excess_demand_at, round_of, phase_after, Closing}
use Rattle.rule.proofs.Largest.{demand-bound, supply-bound}
use Rattle.rule.proofs.Moves.{raise-length, lower-length}
use Rattle.agreement.specs.Agreement.{all_rounds}
use Rattle.agreement.proofs.Rounds.{Takes, raises, lowers, closes, takes}

pub raised-closed : (x : ℕ) → raised x ≡ closed → ⊥
raised-closed x e = let z : ◌≡◌ {A = ℕ} 0 1 = cc in omega arith

pub lowered-closed : (x : ℕ) → lowered x ≡ closed → ⊥
lowered-closed x e = let z : ◌≡◌ {A = ℕ} 0 1 = cc in omega arith

not-falling : rising ≡ falling → ⊥
not-falling e = let z : ◌≡◌ {A = ℕ} 0 1 = cc in omega arith

-- the items that a round moves
abbrev pub moved_by : Round → ℕ
moved_by (raised x) = x
moved_by (lowered x) = x
moved_by closed = 0

one_more : (d : ℕ) → suc d ≡ d + 1
one_more d = omega arith

-- a round raises only while rising
raised-rising : (m above : ℕ) (ph : Phase) (ds : List Demand) (x : ℕ) → round m above ds ph ≡ raised x → ph ≡ rising
raised-rising m above ph ds x e = go (takes m above ds ph)
  where
    go : Takes m above ds ph → ph ≡ rising
    go (raises q ne r) = q
    go (lowers h ne r) = absurd (let z : ◌≡◌ {A = ℕ} 0 1 = cc in omega arith)
    go (closes h f r) = absurd (let z : ◌≡◌ {A = ℕ} 0 1 = cc in omega arith)

module _ (s : Sheet) where
  abbrev m : ℕ
  m = s.items

  pub step_is : (k : ℕ) → path s (suc k) ≡ move m (path s k) (round_of s k)
  unfolding path after
  step_is k = refl

  pub step_by : (k : ℕ) (r : Round) → round_of s k ≡ r → path s (suc k) ≡ move m (path s k) r
  step_by k r e = step_is k ∙ ap (move m (path s k)) e

  -- a round that raises finds the path rising
  pub rising-at : (k x : ℕ) → round_of s k ≡ raised x → (path s k).phase ≡ rising
  unfolding round_at
  rising-at k x e = raised-rising m (above_floors m s.floors (path s k).prices) (path s k).phase (demands_at s (path s k).prices) x e

  -- what a round moves is a set of the sheet's items
  pub moved-small : (k : ℕ) (r : Round) → round_of s k ≡ r → moved_by r < 2 ^ m
  unfolding round_at
  moved-small k r e = subst (λ (y : Round). moved_by y < 2 ^ m) e (go (takes m above ds (path s k).phase))
    where
      above : ℕ
      above = above_floors m s.floors (path s k).prices

      ds : List Demand
      ds = demands_at s (path s k).prices

      go : Takes m above ds (path s k).phase → moved_by (round m above ds (path s k).phase) < 2 ^ m
      go (raises q ne e) = subst (λ (y : Round). moved_by y < 2 ^ m) (sym e) (demand-bound m ds)
      go (lowers h ne e) = subst (λ (y : Round). moved_by y < 2 ^ m) (sym e) (supply-bound m above ds)
      go (closes h f e) = subst (λ (y : Round). moved_by y < 2 ^ m) (sym e) (omega (arith, demand-bound m ds))

  -- what holds at the start and is kept by each round holds along the path
  along : (P : State → Type 0) → P (opening s.start) → ((k : ℕ) (r : Round) → round_of s k ≡ r → P (path s k) → P (move m (path s k) r)) → (k : ℕ) → P (path s k)
  along P start kept zero = unfold path after in start
  along P start kept (suc k) = subst P (sym (step_is k)) (kept k (round_of s k) refl (along P start kept k))

  -- the path falls once it has lowered, and not before
  pub phase-is : (k : ℕ) → (path s k).phase ≡ phase_after (path s k).downs
  phase-is = along (λ q. q.phase ≡ phase_after q.downs) (unfold opening in refl) kept
    where
      kept : (k : ℕ) (r : Round) → round_of s k ≡ r → (path s k).phase ≡ phase_after (path s k).downs → (move m (path s k) r).phase ≡ phase_after (move m (path s k) r).downs
      kept k (raised x) e h = unfold move in sym (rising-at k x e) ∙ h
      kept k (lowered x) e h = unfold move in ap phase_after (one_more (path s k).downs)
      kept k closed e h = unfold move in h

  -- a price for each item
  pub long-along : length s.start ≡ m → (k : ℕ) → length (path s k).prices ≡ m
  long-along start = along (λ q. length q.prices ≡ m) (unfold opening in start) kept
    where
      kept : (k : ℕ) (r : Round) → round_of s k ≡ r → length (path s k).prices ≡ m → length (move m (path s k) r).prices ≡ m
      kept k (raised x) e h = unfold move in raise-length m (path s k).prices x
      kept k (lowered x) e h = unfold move in lower-length m (path s k).prices x
      kept k closed e h = unfold move in h

  module _ (c : Closing s) where
    -- up to the turn the path rises
    rising-until : (k : ℕ) → k ≤ c.ups → (path s k).phase ≡ rising
    rising-until zero l = unfold path after opening in refl
    rising-until (suc k) l =
        ap (λ (t : State). t.phase) (step_by k (raised (excess_demand_at s (path s k).prices)) (c.rises k l)) ∙ (unfold move in refl)

    -- 16 meets no sheet: while the path falls, no set is in excess demand
    pub falling-calm : (k : ℕ) → (path s k).phase ≡ falling → excess_demand_at s (path s k).prices ≡ 0
    falling-calm k e = go (dec_le k c.ups)
      where
        go : Dec (k ≤ c.ups) → excess_demand_at s (path s k).prices ≡ 0
        go (yes l) = absurd (not-falling (sym (rising-until k l) ∙ e))
        go (no l) =
            let q : c.ups + (k - c.ups) ≡ k = omega arith in
            subst (λ (j : ℕ). excess_demand_at s (path s j).prices ≡ 0) q (c.calm (k - c.ups))

    rounds_are : all_rounds s ≡ c.ups + c.downs
    unfolding all_rounds
    rounds_are = ap (λ (t : State). t.ups + t.downs) c.close_is

    -- the path closes after the close's rounds and not before, and is then at the sheet's close
    pub closes_at : (k : ℕ) → k ≡ all_rounds s → round_of s k ≡ closed
    closes_at k e = ap (round_of s) (e ∙ rounds_are) ∙ c.closes

    pub not-sooner : (k : ℕ) → round_of s k ≡ closed → all_rounds s ≤ k
    not-sooner k e = go (dec_le (all_rounds s) k)
      where
        go : Dec (all_rounds s ≤ k) → all_rounds s ≤ k
        go (yes l) = l
        go (no l) = absurd (c.before_close k (omega (arith, rounds_are)) e)

    pub closed-close : (k : ℕ) → round_of s k ≡ closed → path s k ≡ close s
    closed-close k e =
        let q : c.ups + c.downs + (k - (c.ups + c.downs)) ≡ k = omega (arith, not-sooner k e, rounds_are) in
        sym (ap (path s) q) ∙ c.stays (k - (c.ups + c.downs)) ∙ c.at_close ∙ sym c.close_is
