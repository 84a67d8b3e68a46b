-- Nobody is named an item that they bid 0 for: document 02, #102, of the sealed auction's outcome, rising first and falling first. Assumes nothing.
use Prim.Native.Nat.{ℕ, ◌<◌}
use mathlib.Core.Path.{◌≡◌, sym, ap, ◌∙◌, subst}
use mathlib.Core.Bool.{true}
use mathlib.Core.List.{List}
use native.Mathlib.Omega.{arith}
use lib.ListN.{length, get_or}
use Rattle.sets.specs.Lists.{places}
use Rattle.sets.proofs.Lists.{places-at}
use Rattle.rule.specs.Sheet.{Sheet, amount, row, within_limits}
use Rattle.rule.specs.Excess.{above_floors}
use Rattle.rule.specs.Assignment.{option}
use Rattle.rule.specs.Closing.{FitsAt, assignment_at}
use Rattle.rule.proofs.Limits.{limits}
use Rattle.rule.proofs.Balance.{named-bid}
use Rattle.auction.specs.Sealed.{Promised, PromisedFalling}
use Rattle.auction.specs.declared.Closing.{Closing}

-- in 64 places, of names that fit at prices q
named-at : (s : Sheet) → within_limits s ≡ true → (q : List ℕ) → FitsAt s q (assignment_at s q) → (xs : List ℕ) → xs ≡ places 64 (assignment_at s q)
    → (b : ℕ) → b < length s.bids → 0 < get_or xs b 0 → 0 < amount (row s.bids b) (get_or xs b 0)
unfolding option
named-at s within q fitting xs e b l =
    subst (λ (i : ℕ). 0 < i → 0 < amount (row s.bids b) i) (sym is)
    (named-bid s.items (above_floors s.items s.floors q) s.bids q (assignment_at s q) fitting b l)
  where
    is : get_or xs b 0 ≡ get_or (assignment_at s q) b 0
    is = ap (λ (ys : List ℕ). get_or ys b 0) e ∙ places-at 64 (assignment_at s q) b (omega (arith, l, (limits s within).max_bidders))

pub bid-for : (s : Sheet) (r : Closing) → Promised s r → (b : ℕ) → b < length s.bids → 0 < get_or r.assignment b 0
    → 0 < amount (row s.bids b) (get_or r.assignment b 0)
bid-for s r p = named-at s p.within p.closing.prices p.closing.fitting r.assignment p.names

pub falling-bid-for : (s : Sheet) (r : Closing) → PromisedFalling s r → (b : ℕ) → b < length s.bids → 0 < get_or r.assignment b 0
    → 0 < amount (row s.bids b) (get_or r.assignment b 0)
falling-bid-for s r p =
    let c = p.closing in
    named-at s p.within c.rising_first.prices c.rising_first.fitting r.assignment
    (p.names ∙ ap (λ (q : List ℕ). places 64 (assignment_at s q)) c.same-prices)
