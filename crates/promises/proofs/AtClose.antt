-- What the theorems of `rule` say of a closing's numbers, of those of the sheet's close. Assumes nothing.
use Prim.Native.Nat.{ℕ, suc, ◌+◌, ◌-◌, ◌≤◌, ◌<◌}
use mathlib.Core.Path.{◌≡◌, sym, ap, ◌∙◌, subst}
use mathlib.Core.Bool.{true}
use mathlib.Core.List.{List}
use Rattle.sets.specs.Count.{to_nat}
use Rattle.sets.specs.Bit.{has}
use Rattle.rule.specs.Sheet.{Sheet, amount, within_limits}
use Rattle.rule.specs.Round.{Round, raised, lowered, State, move, close}
use Rattle.rule.specs.Equilibrium.{Below}
use Rattle.rule.specs.Closing.{Closing, FitsAt, assignment_at}
use Rattle.rule.proofs.Moves as moves
use Rattle.rule.proofs.Closing.{closing}

pub at_close : (s : Sheet) (c : Closing s) (P : ℕ → ℕ → List ℕ → Type 0) → P c.ups c.downs c.prices → P (close s).ups (close s).downs (close s).prices
at_close s c P = subst (λ (t : State). P t.ups t.downs t.prices) (sym c.close_is)

-- the names fit there, and no price is below its floor
pub fitting : (s : Sheet) → within_limits s ≡ true → FitsAt s (close s).prices (assignment_at s (close s).prices)
fitting s e = at_close s (closing s e) (λ u d p. FitsAt s p (assignment_at s p)) (closing s e).fitting

pub from-floors : (s : Sheet) → within_limits s ≡ true → (i : ℕ) → amount s.floors i ≤ amount (close s).prices i
unfolding Below
from-floors s e = at_close s (closing s e) (λ u d p. (i : ℕ) → amount s.floors i ≤ amount p i) (closing s e).balance.from-floors

-- a state's prices after a round that raises, and after one that lowers
pub raised_by : (m : ℕ) (t : State) (x : ℕ) (r : Round) → r ≡ raised x → (i : ℕ) → i < suc m → amount (move m t r).prices i ≡ amount t.prices i + to_nat (has x i)
unfolding move
raised_by m t x r e i l = ap (λ (r : Round). amount (move m t r).prices i) e ∙ moves.raise-at m t.prices x i l

pub lowered_by : (m : ℕ) (t : State) (x : ℕ) (r : Round) → r ≡ lowered x → (i : ℕ) → i < suc m → amount (move m t r).prices i ≡ amount t.prices i - to_nat (has x i)
unfolding move
lowered_by m t x r e i l = ap (λ (r : Round). amount (move m t r).prices i) e ∙ moves.lower-at m t.prices x i l
