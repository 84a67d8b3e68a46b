-- A call on the record that stands for a state of the machine, beside the machine's outcome. Assumes nothing.
use Prim.Native.Nat.{ℕ, zero, suc, ◌<◌}
use mathlib.Core.Path.{◌≡◌, refl, sym, ap, ◌∙◌}
use mathlib.Core.Bool.{true}
use mathlib.Core.List.{List}
use lib.ListN.{replicate}
use lib.IntN.{ℤ}
use Rattle.sets.specs.Bit.{set_of}
use Rattle.sets.specs.Lists.{tabulate}
use Rattle.rule.specs.Sheet.{Sheet}
use Rattle.rule.specs.Round.{closed}
use Rattle.rule.specs.Closing.{round_of}
use Rattle.live.specs.declared.Auction.{Auction}
use Rattle.agreement.specs.Calls.{told, Held, Answered}
use Rattle.agreement.specs.Machine.{none, Machine, does_stand, said, demands_stand, Outcome, answers, leaves, tells}
use Rattle.agreement.specs.Agreement.{stands_for, tables_of, held_for}
use Rattle.agreement.proofs.Lists.{replicate-is, set_of-none}
use Rattle.agreement.proofs.Tabled.{Tabled}

-- what every state that the machine reaches keeps: the path has not closed before as many rounds as it has made moves, and once the machine has closed, each
-- bidder's demand stands where the path closes; and what its tables keep
pub record Good (s : Sheet) (t : Machine) : Type 0 where
  pub not_before : (k : ℕ) → k < t.moves → round_of s k ≡ closed → ⊥
  pub at_close : t.has_closed ≡ true → (demands_stand s t ≡ true) × (round_of s t.moves ≡ closed)
  pub tabled : Tabled s t.tables

-- what is held is its parts
pub held-by : (a b : Auction) (xs ys : List ℤ) → a ≡ b → xs ≡ ys → ◌≡◌ {A = Held} (record { auction = a; tables = xs }) (record { auction = b; tables = ys })
held-by a b xs ys e q = ap (λ (x : Auction). record { auction = x; tables = xs }) e ∙ ap (λ (y : List ℤ). record { auction = b; tables = y }) q

-- the answer is the machine's, record and tables stand for its next state, and that keeps what it must
unfoldable pub Follows : Sheet → Answered → Outcome → Type 0
Follows s a (answers b u) = (a.answer ≡ b) × (a.next ≡ held_for s u) × Good s u
Follows s a leaves = Unit {0}

-- a call that hands back a number and a record, and leaves the tables
pub replies : (s : Sheet) (t u : Machine) (x : ℕ) (new : Auction) → Good s t → tables_of s t ≡ tables_of s u → (x ≡ 0 → (new ≡ stands_for s u) × Good s u)
    → Follows s (record { answer = told x; next = record { auction = elim x [ zero ↦ new | suc j ↦ stands_for s t ]; tables = tables_of s t } }) (tells x t u)
unfolding tells Follows held_for
replies s t u zero new g same h = (refl, held-by new (stands_for s u) (tables_of s t) (tables_of s u) (h refl).0 same, (h refl).1)
replies s t u (suc j) new g same h = (refl, refl, g)

-- the record of a state in which nothing stands
pub no-nulls : 0 ≡ set_of 64 (λ i. (said none).null)
no-nulls = sym (set_of-none 64 (λ i. (said none).null) (λ k l. unfold said in refl))

pub no-reported : 0 ≡ set_of 64 (λ i. does_stand none)
no-reported = sym (set_of-none 64 (λ i. does_stand none) (λ k l. unfold does_stand in refl))

pub no-sets : replicate 64 0 ≡ tabulate 64 (λ (k : ℕ). (said none).items) 0
unfolding said
no-sets = replicate-is 64 0
