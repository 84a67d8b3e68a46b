-- Where everybody holds what they demand, no set is overdemanded: who demands nothing outside t holds an item of t. THEORY.md 2.13. Assumes nothing.
use Prim.Native.Nat.{ℕ, suc, ◌<◌}
use mathlib.Core.Path.{◌≡◌, ap}
use mathlib.Core.Bool.{Bool, true}
use mathlib.Core.Logic.{◌⊎◌, inl, inr}
use native.Mathlib.Omega.{arith}
use Rattle.sets.proofs.Counting.{count-mono, pigeonhole, not-both}
use Rattle.rule.proofs.Union.{Part, sub-use, sub-make}
use Rattle.rule.proofs.Overdemand.{within, Enough}
use Rattle.rule.proofs.Surplus.{wants_at, wants-use, wants-make}
use Rattle.least.specs.Holding.{Holds, Demands, Held}
use Rattle.least.specs.Falling.{Idle}
use Rattle.least.proofs.Holding.{holds-or-idle}

-- the item of bidder b
pick : (m : ℕ) (own : ℕ → ℕ) (b : ℕ) → Holds m own b ⊎ Idle m own b → ℕ
pick m own b (inl w) = w.0
pick m own b (inr idle) = 0

seat : ℕ → (ℕ → ℕ) → ℕ → ℕ
seat m own b = pick m own b (holds-or-idle m own b)

seat-is : (m : ℕ) (own : ℕ → ℕ) (b : ℕ) → Holds m own b → (seat m own b < suc m) × (own (seat m own b) ≡ suc b)
unfolding seat pick
seat-is m own b h = go (holds-or-idle m own b)
  where
    go : (w : Holds m own b ⊎ Idle m own b) → (pick m own b w < suc m) × (own (pick m own b w) ≡ suc b)
    go (inl w) = (w.1, w.2)
    go (inr idle) = absurd (idle h.0 h.1 h.2)

module _ {m : ℕ} {bid : ℕ → ℕ → ℕ} {on : ℕ → Bool} {p own : ℕ → ℕ} (n : ℕ) (all : (b : ℕ) → b < n → on b ≡ true) (h : Held m bid on p own) where
  pub held-enough : Enough m n (wants_at m bid p)
  unfolding Enough Part
  held-enough t t0 =
      pigeonhole n (suc m) (within m (wants_at m bid p) t) t (seat m own)
      (record {
        lands = λ b l e. (in-t b l e).0;
        hits = λ b l e. (in-t b l e).2;
        apart = λ b c lb lc e f q. omega (arith, (in-t b lb e).1, (in-t c lc f).1, ap own q);
      })
    where
      in-t : (b : ℕ) → b < n → within m (wants_at m bid p) t b ≡ true → (seat m own b < suc m) × (own (seat m own b) ≡ suc b) × (t (seat m own b) ≡ true)
      in-t b l e = go (h.placed b (all b l))
        where
          go : Demands m bid p b 0 ⊎ Holds m own b → (seat m own b < suc m) × (own (seat m own b) ≡ suc b) × (t (seat m own b) ≡ true)
          go (inl w) = absurd (not-both (t 0) (sub-use m (wants_at m bid p b) t e 0 (omega arith) (wants-make m bid p b 0 w)) t0)
          go (inr w) =
              let s = seat-is m own b w in
              (s.0, s.1, sub-use m (wants_at m bid p b) t e (seat m own b) s.0 (wants-make m bid p b (seat m own b) (h.known (seat m own b) b s.0 s.1).1))

-- bidders who bid the same overdemand the same
pub enough-same : (m n : ℕ) (bid bid' : ℕ → ℕ → ℕ) (z : ℕ → ℕ) → ((b i : ℕ) → b < n → i < suc m → bid b i ≡ bid' b i) → Enough m n (wants_at m bid z) → Enough m n (wants_at m bid' z)
unfolding Enough Part
enough-same m n bid bid' z h o t t0 =
    omega (
      arith,
      o t t0,
      count-mono n (within m (wants_at m bid' z) t) (within m (wants_at m bid z) t)
          (λ b l e. sub-make m (wants_at m bid z b) t (λ i li w. sub-use m (wants_at m bid' z b) t e i li (wants b i l li w))),
    )
  where
    wants : (b i : ℕ) → b < n → i < suc m → wants_at m bid z b i ≡ true → wants_at m bid' z b i ≡ true
    wants b i l li e = wants-make m bid' z b i (λ j lj. omega (arith, wants-use m bid z b i e j lj, h b i l li, h b j l lj))
