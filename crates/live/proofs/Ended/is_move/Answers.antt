-- `live::Ended::is_move` meets its contract. Assumes nothing.
use mathlib.Core.Path.{◌≡◌, refl}
use borrow.Author.Rules.{rules}
use mathlib.Core.Bool.{true, false}
use Prim.Native.Nat.{ℕ}
use Rattle.live.specs.Calls.{move_of, ending_of}
use Rattle.live.specs.Tidy.{is_move}
use Rattle.live.specs.declared.Kind.{Kind}
use Rattle.live.specs.declared.Kind.TheVariants.{Raised, Lowered}
use Rattle.live.specs.declared.Ended.{Ended}
use Rattle.live.specs.declared.Ended.TheVariants.{Moved, Refused}
use Rattle.live.specs.declared.Ended.TheVariants.{Closed as Closes}
use Rattle.live.proofs.Ended.is_move.Goals as goal

moves : (e : Ended) (k : Kind) (s : ℕ) → e ≡ Moved k s → true ≡ is_move (ending_of e)
unfolding is_move ending_of move_of
moves e Raised s q = simp q
moves e Lowered s q = simp q

stays : (e : Ended) → ((k : Kind) (s : ℕ) → e ≡ Moved k s → ⊥) → false ≡ is_move (ending_of e)
unfolding is_move ending_of
stays (Moved k s) ne = absurd (ne k s refl)
stays Closes ne = refl
stays (Refused n) ne = refl

pub returns-in-Moved : goal.returns-in-Moved
returns-in-Moved c = search (rules, moves)

pub returns-in_default : goal.returns-in_default
returns-in_default c = stays c.args.self c.in_default.not-Moved
