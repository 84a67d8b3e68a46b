-- The rounds among the machine's answers are the path's, in order. Assumes nothing.
use Prim.Native.Nat.{ℕ, zero, suc, ◌+◌}
use mathlib.Core.Path.{◌≡◌, refl, ap, ◌∙◌, subst}
use mathlib.Core.Bool.{Bool, true, false, ◌&&◌, not}
use mathlib.Core.List.{List, [], ◌∷◌}
use native.Mathlib.Omega.{arith}
use borrow.Author.Tests.{not-true as not-true-is}
use Rattle.sets.specs.Count.{to_nat}
use Rattle.sets.specs.Lists.{tabulate}
use Rattle.sets.proofs.Counting.{and_left}
use Rattle.rule.specs.Sheet.{Sheet}
use Rattle.rule.specs.Round.{Round, raised, lowered, closed}
use Rattle.rule.specs.Closing.{round_of}
use Rattle.live.specs.Calls.{gives}
use Rattle.agreement.specs.Calls.{Call, reporting, ending, clearing, reading, Answer, ended, shown}
use Rattle.agreement.specs.Machine.{Machine, begin, demands_stand, Outcome, answers, leaves, tells, machine_report, machine_clear, machine_read_number, machine_read, machine_end_number, next, turned, machine_end, machine, MachineRan, ran, left, behind, machine_run}
use Rattle.agreement.specs.Agreement.{rounds_of}

-- moves and a close
abbrev rounds : Machine → ℕ
rounds t = t.moves + to_nat t.has_closed

-- an answer holds no round and none is counted, or the path's next one, which is counted
data Counts (s : Sheet) (t : Machine) (a : Answer) (u : Machine) : Type 0 where
  still : ((rest : List Answer) → rounds_of (a ∷ rest) ≡ rounds_of rest) → rounds u ≡ rounds t → Counts s t a u
  one : ((rest : List Answer) → rounds_of (a ∷ rest) ≡ round_of s (rounds t) ∷ rounds_of rest) → rounds u ≡ suc (rounds t) → Counts s t a u

abbrev CountsOf : Sheet → Machine → Outcome → Type 0
CountsOf s t (answers a u) = Counts s t a u
CountsOf s t leaves = Unit {0}

-- ---- a call

module _ (s : Sheet) (t : Machine) where
  tells-still : (x : ℕ) (u : Machine) → rounds u ≡ rounds t → CountsOf s t (tells x t u)
  unfolding tells rounds_of
  tells-still zero u e = still (λ rest. refl) e
  tells-still (suc j) u e = still (λ rest. refl) refl

  read-still : (out seen : List ℕ) (x : ℕ) → CountsOf s t (elim x [ zero ↦ answers (shown 0 seen) t | suc j ↦ answers (shown (suc j) out) t ])
  unfolding rounds_of
  read-still out seen zero = still (λ rest. refl) refl
  read-still out seen (suc j) = still (λ rest. refl) refl

  turned-still : (x : ℕ) → CountsOf s t (turned x t)
  unfolding turned rounds_of
  turned-still zero = tt
  turned-still (suc j) = still (λ rest. refl) refl

  rounds-next : (r : Round) → t.has_closed ≡ false → rounds (next s t r) ≡ suc t.moves
  unfolding next
  rounds-next (raised x) o = omega (arith, ap to_nat o)
  rounds-next (lowered x) o = omega (arith, ap to_nat o)
  rounds-next closed o = omega arith

  gives_one : t.has_closed ≡ false → Counts s t (ended (gives (round_of s t.moves))) (next s t (round_of s t.moves))
  unfolding rounds_of
  gives_one o =
      let e : t.moves ≡ rounds t = omega (arith, ap to_nat o) in
      one (λ rest. ap (λ (k : ℕ). round_of s k ∷ rounds_of rest) e) (rounds-next (round_of s t.moves) o ∙ ap suc e)

  counts : (c : Call) → CountsOf s t (machine s t c)
  unfolding machine machine_report machine_clear machine_read machine_end
  counts (reporting b d) = tells-still _ _ refl
  counts clearing = tells-still _ _ refl
  counts (reading out) = read-still out _ (machine_read_number s t out)
  counts ending = go (not t.has_closed && demands_stand s t) refl
    where
      go : (b : Bool) → not t.has_closed && demands_stand s t ≡ b
          → CountsOf s t (elim b [
            | true ↦ answers (ended (gives (round_of s t.moves))) (next s t (round_of s t.moves))
            | false ↦ turned (machine_end_number s t) t
          ])
      go true e = gives_one (not-true-is t.has_closed (and_left (not t.has_closed) (demands_stand s t) e))
      go false e = turned-still (machine_end_number s t)

-- ---- a list

record CountsAll (s : Sheet) (t : Machine) (xs : List Answer) (u : Machine) : Type 0 where
  many : ℕ
  counted : rounds u ≡ rounds t + many
  in_order : rounds_of xs ≡ tabulate many (round_of s) (rounds t)

abbrev CountsRan : Sheet → Machine → MachineRan → Type 0
CountsRan s t (ran xs u) = CountsAll s t xs u
CountsRan s t left = Unit {0}

module _ (s : Sheet) where
  grow : (t u : Machine) (a : Answer) (o : MachineRan) → Counts s t a u → CountsRan s u o → CountsRan s t (behind a o)
  unfolding behind
  grow t u a left k h = tt
  grow t u a (ran xs v) (still none e) h =
      record {
        many = h.many;
        counted = h.counted ∙ ap (λ (x : ℕ). x + h.many) e;
        in_order = none xs ∙ h.in_order ∙ ap (tabulate h.many (round_of s)) e;
      }
  grow t u a (ran xs v) (one some e) h =
      record {
        many = suc h.many;
        counted = omega (arith, h.counted, e);
        in_order = some xs ∙ ap (λ (ys : List Round). round_of s (rounds t) ∷ ys) (h.in_order ∙ ap (tabulate h.many (round_of s)) e) ∙ (unfold tabulate in refl);
      }

  counts_all : (t : Machine) (calls : List Call) → CountsRan s t (machine_run s t calls)
  unfolding machine_run
  counts_all t [] = record { many = 0; counted = omega arith; in_order = unfold rounds_of tabulate in refl }
  counts_all t (c ∷ calls) = go (λ u. counts_all u calls) (machine s t c) (counts s t c)
    where
      go : ((u : Machine) → CountsRan s u (machine_run s u calls)) → (o : Outcome) → CountsOf s t o
          → CountsRan s t (elim o [ answers a u ↦ behind a (machine_run s u calls) | leaves ↦ left ])
      go rest leaves k = tt
      go rest (answers a u) k = grow t u a (machine_run s u calls) k (rest u)

  pub rounds_are : (calls : List Call) (theirs : List Answer) (t : Machine) → machine_run s (begin s) calls ≡ ran theirs t
      → rounds_of theirs ≡ tabulate (t.moves + to_nat t.has_closed) (round_of s) 0
  rounds_are calls theirs t e =
      let h = subst (CountsRan s (begin s)) e (counts_all (begin s) calls) in
      let z : rounds (begin s) ≡ 0 = unfold begin in refl in
      let many : h.many ≡ rounds t = omega (arith, h.counted, z) in
      h.in_order ∙ ap (tabulate h.many (round_of s)) z ∙ ap (λ (k : ℕ). tabulate k (round_of s) 0) many
