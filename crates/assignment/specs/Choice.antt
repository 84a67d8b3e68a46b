-- The names, bidder after bidder, as the code finds them: ys are the options of the bidders so far. Assumes nothing: these are definitions.
use Rattle.std.specs.Prelude.{ℕ, ◌-◌, Bool, List, [], ◌∷◌, ◌++◌, length, get_or}
use Rattle.sets.specs.Bit.{has, lowest}
use Rattle.rule.specs.Demand.{wants, nth}
use Rattle.rule.specs.Assignment.{fits, some_list}
use Rattle.rule.specs.Completion.{Begun, Rest}
use Rattle.round.specs.Reports.{reports}

-- some options of the later bidders complete ys to an assignment that fits
unfoldable pub completed : ℕ → List ℕ → ℕ → ℕ → List ℕ → Bool
completed n sets nulls above ys = some_list 32 (n - length ys) λ xs. fits 32 above (reports n sets nulls) (ys ++ xs)

-- the next bidder's option: the lowest item that the bidders after it complete, and null if there is none
unfoldable pub next_option : ℕ → List ℕ → ℕ → ℕ → List ℕ → ℕ
next_option n sets nulls above ys = lowest 32 λ i. completed n sets nulls above (ys ++ (i ∷ []))

-- ys begin an assignment: each bidder so far has an option 0 to 32 of their demand, and no item goes to two
abbrev pub Begins : ℕ → List ℕ → ℕ → ℕ → List ℕ → Type 0
Begins n sets nulls above ys = Begun 32 n (λ b. wants (nth (reports n sets nulls) b)) (has above) ys

-- where ys begin an assignment, what x has for the later bidders completes it to one that fits
abbrev pub Completes : ℕ → List ℕ → ℕ → ℕ → List ℕ → List ℕ → Type 0
Completes n sets nulls above ys x = Rest 32 n (λ b. wants (nth (reports n sets nulls) b)) (has above) ys (λ b. get_or x b 0)
