-- Request #106: the raker's gain. Every field is a sentence by itself; that the sheet's gains are written stands in `Demand3Sealed`, the lent list in `src`.
-- Assumes nothing: these are statements, which `proofs/Gains` proves.
use Rattle.std.specs.Prelude.{ℕ, suc, ◌+◌, ◌*◌, ◌≤◌, ◌<◌, true, List, [], ◌∷◌, ◌++◌, map, ◌≡◌, length, get_or}
use Rattle.rule.specs.Sheet.{Sheet, amount, row, within_limits}
use Rattle.rule.specs.Demand.{best, surplus}
use Rattle.rule.specs.Round.{close}
use Rattle.rule.specs.Assignment.{option}
use Rattle.rule.specs.Closing.{assignment_at}
use Rattle.rule.specs.Gains.{gains_at}
use Rattle.digits.specs.Digits.{hex}
use Rattle.lines.specs.Lines.{joined, closing_sheet, sealed_sheet, closing_length, sealed_length}

-- at prices p, of raker b + 1: the gain, the option that the names have, and the bid for option i
abbrev pub gain_of : Sheet → List ℕ → ℕ → ℕ
gain_of s p b = get_or (gains_at s p) b 0

abbrev pub named : Sheet → List ℕ → ℕ → ℕ
named s p b = option (assignment_at s p) b

abbrev pub bid : Sheet → ℕ → ℕ → ℕ
bid s b i = amount (row s.bids b) i

-- what is said of the gains at prices p
pub record Gaining (s : Sheet) (p : List ℕ) : Type 0 where
  -- "bid less rent of the pan named, 0000 for none": nobody pays more than they bid, so rent and gain make up the bid; of no pan both are 0
  pub exact : (b : ℕ) → b < length s.bids → amount p (named s p b) + gain_of s p b ≡ bid s b (named s p b)
  -- nothing would leave the raker better off
  pub most : (b i : ℕ) → b < length s.bids → i < suc s.items → bid s b i ≤ amount p i + gain_of s p b
  -- "Finding a raker's demand now also gives the highest gain": the gains are those
  pub found : gains_at s p ≡ map (surplus s.items p) s.bids

pub record Request106 : Type 0 where
  -- "the highest gain, which is never below 0", of m pans, rents p and bids b: no option has a higher one, some option, no pan perhaps, has it, and those that have it
  -- are the best
  pub highest : (m : ℕ) (p b : List ℕ) (i : ℕ) → i < suc m → amount b i ≤ surplus m p b + amount p i
  pub reached : (m : ℕ) (p b : List ℕ) → (i : ℕ) × (i < suc m) × (amount b i ≡ surplus m p b + amount p i)
  pub best_if : (m : ℕ) (p b : List ℕ) (i : ℕ) → amount b i ≡ amount p i + surplus m p b → best m p b i ≡ true
  pub best_only_if : (m : ℕ) (p b : List ℕ) (i : ℕ) → i < suc m → best m p b i ≡ true → amount b i ≡ amount p i + surplus m p b
  -- what a close leaves to each raker; the first two sentences of `Gaining` leave no gain open
  pub gaining : (s : Sheet) → within_limits s ≡ true → Gaining s (close s).prices
  pub only : (s : Sheet) → within_limits s ≡ true → (b : ℕ) → b < length s.bids → gain_of s (close s).prices b ≡ surplus s.items (close s).prices (row s.bids b)
  -- "The closing sheet of a sealed letting gets a fourth line, 4 digits a raker", and is so much longer; "A live letting … keeps three lines"
  pub fourth : (m n ups downs : ℕ) (prices options gains : List ℕ)
      → sealed_sheet m n ups downs prices options gains ≡ closing_sheet m n ups downs prices options ++ (joined n (λ b. hex 4 (get_or gains b 0)) ++ (10 ∷ []))
  pub longer : (m n ups downs : ℕ) (prices options gains : List ℕ) → length (sealed_sheet m n ups downs prices options gains) ≡ 16 + 4 * m + 6 * n
  pub three : (m n ups downs : ℕ) (prices options : List ℕ) → length (closing_sheet m n ups downs prices options) ≡ 15 + 4 * m + 2 * n
  pub sealed_long : (m n : ℕ) → sealed_length m n ≡ 16 + 4 * m + 6 * n
  pub closing_long : (m n : ℕ) → closing_length m n ≡ 15 + 4 * m + 2 * n
