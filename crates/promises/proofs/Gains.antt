-- Request #106, from the theorems of `rule` and `lines`. Assumes nothing.
use Prim.Native.Nat.{ℕ}
use mathlib.Core.Path.{◌≡◌, refl}
use mathlib.Core.Bool.{true}
use mathlib.Core.List.{List}
use Rattle.rule.specs.Sheet.{Sheet, within_limits}
use Rattle.rule.specs.Demand.{surpluses}
use Rattle.rule.specs.Round.{close}
use Rattle.rule.specs.Gains.{Gains}
use Rattle.rule.proofs.Highest as highest
use Rattle.rule.proofs.Gains as gains
use Rattle.lines.specs.Lines.{newline, amounts_line, sealed_sheet, closing_length, sealed_length}
use Rattle.lines.proofs.Lengths as lengths
use Rattle.promises.specs.Gains.{Gaining, Request106}
use Rattle.promises.proofs.AtClose.{fitting}

pub gaining : (s : Sheet) (p : List ℕ) → Gains s p → Gaining s p
unfolding surpluses
gaining s p g = record { exact = g.exact; most = g.most; found = g.found }

at : (s : Sheet) → within_limits s ≡ true → Gains s (close s).prices
at s e = gains.gains s (close s).prices (fitting s e)

pub request106 : Request106
unfolding newline amounts_line sealed_sheet closing_length sealed_length
request106 =
    record {
      highest = highest.surplus-most;
      reached = highest.surplus-some;
      best_if = highest.surplus-best;
      best_only_if = highest.best-surplus;
      gaining = λ s e. gaining s (close s).prices (at s e);
      only = λ s e. gains.exact-most s (close s).prices (fitting s e) (at s e);
      fourth = λ m n ups downs prices options gains. refl;
      longer = lengths.sealed-length;
      three = lengths.closing-length;
      sealed_long = λ m n. refl;
      closing_long = λ m n. refl;
    }
