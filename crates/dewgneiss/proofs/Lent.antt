-- The number of the call into lent lists, from that of the auction and whether the lists fit. Assumes nothing.
use mathlib.Core.Path.{◌≡◌, refl}
use mathlib.Core.Bool.{Bool, true, false}
use mathlib.Core.List.{[], ◌∷◌}
use Rattle.rule.specs.Refusal.{on, first}
use Rattle.dewgneiss.specs.Lent.{with_lengths}

-- over the conditions of 1, 2, 3, 3, 3, 4, 18, 5, and that the lent lists do not fit
pub in-order-above : (a b c d e f g h u : Bool)
    → with_lengths (first (on 1 a ∷ on 2 b ∷ on 3 c ∷ on 3 d ∷ on 3 e ∷ on 4 f ∷ on 18 g ∷ on 5 h ∷ [])) u
    ≡ first (on 1 a ∷ on 2 b ∷ on 3 c ∷ on 3 d ∷ on 3 e ∷ on 3 u ∷ on 4 f ∷ on 18 g ∷ on 5 h ∷ [])
unfolding first with_lengths
in-order-above true b c d e f g h u = refl
in-order-above false true c d e f g h u = refl
in-order-above false false true d e f g h true = refl
in-order-above false false true d e f g h false = refl
in-order-above false false false true e f g h true = refl
in-order-above false false false true e f g h false = refl
in-order-above false false false false true f g h true = refl
in-order-above false false false false true f g h false = refl
in-order-above false false false false false true g h true = refl
in-order-above false false false false false true g h false = refl
in-order-above false false false false false false true h true = refl
in-order-above false false false false false false true h false = refl
in-order-above false false false false false false false true true = refl
in-order-above false false false false false false false true false = refl
in-order-above false false false false false false false false true = refl
in-order-above false false false false false false false false false = refl

-- and without floors: 1, 2, 3, 3, 4, 5
pub in_order : (a b c d e f u : Bool)
    → with_lengths (first (on 1 a ∷ on 2 b ∷ on 3 c ∷ on 3 d ∷ on 4 e ∷ on 5 f ∷ [])) u
    ≡ first (on 1 a ∷ on 2 b ∷ on 3 c ∷ on 3 d ∷ on 3 u ∷ on 4 e ∷ on 5 f ∷ [])
unfolding first
in_order a b c d e f u = in-order-above a b c false d e false f u
