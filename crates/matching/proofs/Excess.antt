-- When all bidders are placed as far as they can be, the entered set is the largest in excess demand. Assumes nothing.
use Prim.Native.Nat.{ℕ, ◌+◌, ◌-◌, ◌^◌, ◌≤◌, ◌<◌}
use mathlib.Core.Path.{◌≡◌, refl, sym, ap, ◌∙◌, subst}
use mathlib.Core.Bool.{Bool, true, false, ◌&&◌, not}
use mathlib.Core.List.{List}
use native.Mathlib.Nat.{lt_irrefl}
use native.Mathlib.Omega.{arith}
use lib.ListN.{get_or}
use borrow.Author.Tests.{not-true}
use Rattle.sets.specs.Bit.{is_set}
use Rattle.sets.specs.Count.{count}
use Rattle.sets.proofs.Counting.{and_left, and_right, and_both}
use Rattle.sets.proofs.Members.{bits_of, bits_of-lt, is_set-bits_of}
use Rattle.matching.specs.Demand.{part, meets, excess, largest_excess}
use Rattle.matching.specs.Chain.{Sub, Stuck, Spare, Settled}
use Rattle.matching.proofs.Holdings.{no_both, holds_at, holder-is, wants-held, held_by}
use Rattle.matching.proofs.Crowds.{few-bidders, more-bidders}
use Rattle.matching.proofs.Largest.{part-use, part-make, meets-use, meets-make, wanting, excess-use, excess-make, is-largest}

module _ (d l : List ℕ) (w : ℕ) (s : Settled d l w 64) where
  -- the holders of the items of t, and the spare bidder
  crowd : (t i : ℕ) → i < 32 → is_set t i ≡ true → ((k : ℕ) → k < 32 → is_set t k ≡ true → is_set w k ≡ true) → count 32 (is_set t) < count 64 (wanting 32 d w t)
  unfolding Spare Stuck Sub
  crowd t i li h sub =
      let p = s.spare (is_set t) i li h sub in
      more-bidders d l (is_set t) (wanting 32 d w t) s.kept s.once
      (λ k lk q.
      let u = s.closed k lk (sub k lk q) in
      (u.0, wants (get_or l k 0 - 1) u.2 k lk (holder-is d l k s.kept lk u.0).2 q))
      p.0 p.1 (wants p.0 p.2 p.3.0 p.3.1 p.3.2 p.3.3) p.4
    where
      wants : (c : ℕ) → ((k : ℕ) → k < 32 → is_set (get_or d c 0) k ≡ true → is_set w k ≡ true) → (k : ℕ) → k < 32 → is_set (get_or d c 0) k ≡ true → is_set t k ≡ true
          → wanting 32 d w t c ≡ true
      wants c inner k lk p q =
          and_both (part 32 (get_or d c 0) w) (meets 32 (get_or d c 0) t) (part-make 32 (get_or d c 0) w inner) (meets-make 32 (get_or d c 0) t k lk p q)

  -- the bidders whose set lies within x and meets t, which is x without w, hold an item of t each
  few : (x t : ℕ) → ((k : ℕ) → k < 32 → is_set t k ≡ is_set x k && not (is_set w k)) → count 64 (wanting 32 d x t) ≤ count 32 (is_set t)
  unfolding Sub Stuck
  few x t is =
      few-bidders (held_by l) (wanting 32 d x t) (is_set t) (λ b lb q. holds_at l b (s.placed b lb (strays b q)))
      (λ b i lb li q e.
      is i li ∙ and_both (is_set x i) (not (is_set w i))
      (part-use 32 (get_or d b 0) x (and_left (part 32 (get_or d b 0) x) (meets 32 (get_or d b 0) t) q) i li (wants-held d (held_by l) i b (s.kept.fair i li) e))
      (ap not (outside b i li q e (is_set w i) refl)))
    where
      strays : (b : ℕ) → wanting 32 d x t b ≡ true → ((i : ℕ) → i < 32 → is_set (get_or d b 0) i ≡ true → is_set w i ≡ true) → ⊥
      strays b q h =
          let k = meets-use 32 (get_or d b 0) t (and_right (part 32 (get_or d b 0) x) (meets 32 (get_or d b 0) t) q) in
          let off = and_right (is_set x k.0) (not (is_set w k.0)) (sym (is k.0 k.1) ∙ k.3) in
          no_both (h k.0 k.1 k.2) (not-true (is_set w k.0) off)

      outside : (b i : ℕ) → i < 32 → wanting 32 d x t b ≡ true → get_or l i 0 ≡ b + 1 → (c : Bool) → is_set w i ≡ c → c ≡ false
      outside b i li q e false g = refl
      outside b i li q e true g =
          let who : get_or l i 0 - 1 ≡ b = omega (arith, e) in
          absurd (strays b q (subst (λ (y : ℕ). (i : ℕ) → i < 32 → is_set (get_or d y 0) i ≡ true → is_set w i ≡ true) who (s.closed i li g).2))

  pub all-within : (x : ℕ) → excess 32 64 d x ≡ true → (i : ℕ) → i < 32 → is_set x i ≡ true → is_set w i ≡ true
  all-within x e i li h = go (is_set w i) refl
    where
      off : ℕ → Bool
      off k = is_set x k && not (is_set w k)

      go : (c : Bool) → is_set w i ≡ c → c ≡ true
      go true q = refl
      go false q =
          let t : ℕ = bits_of 32 off in
          let is = is_set-bits_of 32 off in
          let here : is_set t i ≡ true = is i li ∙ and_both (is_set x i) (not (is_set w i)) h (ap not q) in
          let more = excess-use 32 64 d x t e (bits_of-lt 32 off) i li here (λ k lk p. and_left (is_set x k) (not (is_set w k)) (sym (is k lk) ∙ p)) in
          let less = few x t is in
          absurd (lt_irrefl (count 32 (is_set t)) (omega (arith, more, less)))

  pub settled-largest : w < 2 ^ 32 → w ≡ largest_excess 32 64 d
  settled-largest small = is-largest 32 64 d w small (excess-make 32 64 d w crowd) all-within
