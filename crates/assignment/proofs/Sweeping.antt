-- The steps of the later bidders who demand a place, one after the other. THEORY.md 3.2. Assumes nothing.
use Prim.Native.Nat.{◌≤◌, ℕ, suc, ◌+◌, ◌-◌, ◌*◌, ◌^◌, ◌<◌}
use mathlib.Core.Path.{◌≡◌, sym, ap, ◌∙◌}
use mathlib.Core.Bool.{true, ◌&&◌, not}
use mathlib.Core.List.{List}
use mathlib.Core.Logic.{◌⊎◌, inl, inr}
use native.Mathlib.Decide.{ℕ_discrete}
use native.Mathlib.Omega.{arith}
use lib.Dec.{eqb}
use lib.ListN.{length, get_or}
use Rattle.sets.specs.Bit.{is_set, has, set_of, lowest, size}
use Rattle.sets.proofs.Counting.{not-both}
use Rattle.sets.proofs.Members.{is_set-empty}
use Rattle.sets.proofs.Taking.{below-width, member-lt, lowest-of, without-use, without-make, without-less}
use Rattle.assignment.specs.Search.{Sub, Grown, Moves}
use Rattle.assignment.proofs.Growing.{grown-same, grown-then}

-- the movers who are not in `rest` have taken their step
pub record Sweeping (x : List ℕ) (q turn movers : ℕ) (next₀ entered₀ : List ℕ) (seen : ℕ) (next entered : List ℕ) (s rest : ℕ) : Type 0 where
  pub fits : rest < 2 ^ 64
  pub within : Sub rest movers
  pub moved : (b : ℕ) → is_set movers b ≡ true → (is_set rest b ≡ true) ⊎ (is_set s (get_or x b 0) ≡ true)
  pub grown : Grown q (Moves x movers turn) next₀ entered₀ seen next entered s

pub sweep-start : (x : List ℕ) (q turn movers : ℕ) (next entered : List ℕ) (seen : ℕ) → movers < 2 ^ 64 → length next ≡ 33 → length entered ≡ 33 → Sweeping x q turn movers next entered seen next entered seen movers
sweep-start x q turn movers next entered seen l ln le = record { fits = l; within = λ b o. o; moved = λ b o. inl o; grown = grown-same ln le }

module _ {x : List ℕ} {q turn movers : ℕ} {next₀ entered₀ : List ℕ} {seen : ℕ} {next entered : List ℕ} {s rest : ℕ} (g : Sweeping x q turn movers next₀ entered₀ seen next entered s rest) where
  -- bidder number b takes its step
  steps : (b : ℕ) → 0 < b → is_set rest (b - 1) ≡ true → (v : ℕ) → v ≡ get_or x (b - 1) 0 → {next' entered' : List ℕ} {r : ℕ} → is_set r v ≡ true
      → Grown q (λ p t. (p ≡ v) × (t ≡ 128 * turn + b)) next entered s next' entered' r → (rest' : ℕ) → rest' ≡ set_of 64 (λ k. has rest k && not (eqb k b))
      → Sweeping x q turn movers next₀ entered₀ seen next' entered' r rest'
  steps b pos on v ev {r = r} here more rest' er =
      record {
        fits = member-lt 64 rest' (λ k. has rest k && not (eqb k b)) er;
        within = λ c o. g.within c (without-use 64 rest b rest' er c o).0;
        moved = λ c o. moved c (g.moved c o) (ℕ_discrete (suc c) b);
        grown = grown-then g.grown more (λ p t e. (b - 1, g.within (b - 1) on, sym (e.0 ∙ ev), omega (arith, e.1)));
      }
    where
      moved : (c : ℕ) → (is_set rest c ≡ true) ⊎ (is_set s (get_or x c 0) ≡ true) → Dec (suc c ≡ b) → (is_set rest' c ≡ true) ⊎ (is_set r (get_or x c 0) ≡ true)
      moved c (inr o) q = inr (more.sub (get_or x c 0) o)
      moved c (inl o) (no ne) = inl (without-make 64 rest b rest' er c (below-width 64 rest c g.fits o) o ne)
      moved c (inl o) (yes e) = let at : c ≡ b - 1 = omega arith in inr (ap (λ (j : ℕ). is_set r (get_or x j 0)) at ∙ ap (is_set r) (sym ev) ∙ here)

  -- the lowest mover that is left
  module _ (some : rest ≡ 0 → ⊥) (b : ℕ) (low : b ≡ lowest 64 (has rest)) where
    pub next-mover : (0 < b) × (b ≤ 64) × (is_set rest (b - 1) ≡ true)
    next-mover = lowest-of 64 rest g.fits some b low

    -- has a place
    pub mover-place : ((c : ℕ) → is_set movers c ≡ true → get_or x c 0 < 33) → get_or x (b - 1) 0 < 33
    mover-place small = small (b - 1) (g.within (b - 1) next-mover.2)

    module _ (rest' : ℕ) (er : rest' ≡ set_of 64 (λ k. has rest k && not (eqb k b))) where
      pub sweep-less : size 64 rest' < size 64 rest
      sweep-less = let m = next-mover in without-less 64 rest b rest' er m.0 m.1 m.2

      pub sweep-next : (v : ℕ) → v ≡ get_or x (b - 1) 0 → {next' entered' : List ℕ} {r : ℕ} → is_set r v ≡ true
          → Grown q (λ p t. (p ≡ v) × (t ≡ 128 * turn + b)) next entered s next' entered' r → Sweeping x q turn movers next₀ entered₀ seen next' entered' r rest'
      sweep-next v ev here more = let m = next-mover in steps b m.0 m.2 v ev here more rest' er

  -- nobody is left
  pub sweep-end : rest ≡ 0 → (b : ℕ) → is_set movers b ≡ true → is_set s (get_or x b 0) ≡ true
  sweep-end z b o = go (g.moved b o)
    where
      go : (is_set rest b ≡ true) ⊎ (is_set s (get_or x b 0) ≡ true) → is_set s (get_or x b 0) ≡ true
      go (inl h) = absurd (not-both (is_set 0 b) (ap (λ (t : ℕ). is_set t b) (sym z) ∙ h) (is_set-empty b))
      go (inr h) = h
