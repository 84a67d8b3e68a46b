-- What definitions of the page refuse that are only concluded: were they weaker, every proof would still do. Assumes nothing.
use Prim.Native.Nat.{◌≤◌, ◌<◌}
use mathlib.Core.List.{[], ◌∷◌}
use mathlib.Core.Path.{refl}
use native.Mathlib.Omega.{arith}
use Rattle.sets.specs.Count.{count}
use Rattle.sets.specs.Bit.{bit, is_set, has, size}
use Rattle.live.specs.Calls.{refused}
use Rattle.agreement.specs.Calls.{told, ended, shown}
use Rattle.agreement.specs.Agreement.{number_of}
use Rattle.promises.specs.Demand3Live.{Without}
use Rattle.promises.specs.Tables.{WithoutAtEnd}
use Rattle.promises.specs.Reasons.{Right}

-- a number is found in each kind of answer, also behind others; of ends alone, only there
in-a-report : Without 11 (told 0 ∷ told 11 ∷ []) → ⊥
unfolding Without number_of
in-a-report h = h.1.0 refl

in-an-end : Without 11 (shown 0 [] ∷ ended (refused 11) ∷ []) → ⊥
unfolding Without number_of
in-an-end h = h.1.0 refl

in-a-read : Without 11 (ended (refused 0) ∷ shown 11 [] ∷ []) → ⊥
unfolding Without number_of
in-a-read h = h.1.0 refl

at-an-end : WithoutAtEnd 19 (told 19 ∷ shown 19 [] ∷ ended (refused 14) ∷ ended (refused 19) ∷ []) → ⊥
unfolding WithoutAtEnd
at-an-end h = h.1.0 refl

-- two rakers do not raise two pans, and two do not lower one
as-many-rakers : Right 2 2 (record { kind = 1; items = 3; bidders = 3 }) → ⊥
unfolding count bit is_set has size
as-many-rakers h = let l : 2 < 2 = h.0 refl in omega (arith, l)

more-rakers : Right 2 2 (record { kind = 2; items = 1; bidders = 3 }) → ⊥
unfolding count bit is_set has size
more-rakers h = let l : 2 ≤ 1 = h.1 refl in omega (arith, l)
