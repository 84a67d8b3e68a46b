-- The way back of a search in lists. THEORY.md 2.12. Assumes nothing.
use Prim.Native.Nat.{ℕ, zero, suc, ◌+◌, ◌-◌, ◌≤◌, ◌<◌}
use mathlib.Core.Path.{◌≡◌, refl, sym, ap, ◌∙◌, subst}
use mathlib.Core.List.{List}
use native.Mathlib.Omega.{arith}
use native.Mathlib.Numerals.{add-one}
use lib.ListN.{length, get_or, set, length-set}
use lib.Seq.{get_or-set_same, get_or-set_other}
use Rattle.rule.specs.Sheet.{amount}
use Rattle.least.specs.Shifting.{steps}
use Rattle.least.specs.Steps.{at_option}
use Rattle.least.specs.Putting.{Chained, Shifted}
use Rattle.least.proofs.Shifting.{Walk, at, walk-small, walk-less, walk-next, walk_end}
use Rattle.least.proofs.Entering.{amount-item}

-- the way back is at item x
pub record Walked (k : ℕ) (own via : List ℕ) (first : ℕ) (holders : List ℕ) (x : ℕ) : Type 0 where
  pub long : length holders ≡ 64
  pub small : x ≤ 64
  pub walk : (s : Chained k own via first) → Walk s.items s.bid s.on k s.prices (amount own) s.mask (amount via) first (amount holders) x

module _ {k : ℕ} {own via : List ℕ} {first : ℕ} (s : Chained k own via first) where
  module _ {holders : List ℕ} {x : ℕ} (w : Walked k own via first holders x) (ne : x ≡ 0 → ⊥) where
    pos : 0 < x
    pos = omega (arith, ne)

    via-at : amount via x ≡ get_or via (x - 1) 0
    via-at = sym (amount-item via x pos)

    pub walked-small : get_or via (x - 1) 0 ≤ 64
    walked-small = omega (arith, via-at, walk-small s.chain (w.walk s) pos, s.max_items)

    pub walked-less : steps 66 (amount via) (get_or via (x - 1) 0) < steps 66 (amount via) x
    walked-less = subst (λ (y : ℕ). steps 66 (amount via) y < steps 66 (amount via) x) via-at (walk-less s.chain (w.walk s) pos)

    at-is : (y : ℕ) → at (suc k) (amount holders) y ≡ at_option (k + 1) holders y
    unfolding at at_option amount
    at-is zero = sym (add-one k)
    at-is (suc y) = refl

    pub walked_next : (taker : ℕ) → taker ≡ at_option (k + 1) holders (get_or via (x - 1) 0) → Walked k own via first (set holders (x - 1) taker) (get_or via (x - 1) 0)
    walked_next taker e =
        record {
          long = length-set holders (x - 1) taker ∙ w.long;
          small = walked-small;
          walk = λ t. subst (λ (y : ℕ). Walk t.items t.bid t.on k t.prices (amount own) t.mask (amount via) first (amount (set holders (x - 1) taker)) y) via-at
              (walk-next t.chain (w.walk t) pos (amount (set holders (x - 1) taker)) here off);
        }
      where
        here : amount (set holders (x - 1) taker) x ≡ at (suc k) (amount holders) (amount via x)
        here =
            sym (amount-item (set holders (x - 1) taker) x pos) ∙ get_or-set_same holders (x - 1) taker 0 (omega (arith, w.long, w.small, pos))
            ∙ e ∙ sym (at-is (get_or via (x - 1) 0)) ∙ ap (at (suc k) (amount holders)) (sym via-at)

        off : (i : ℕ) → (i ≡ x → ⊥) → amount (set holders (x - 1) taker) i ≡ amount holders i
        off zero n = unfold amount in refl
        off (suc i) n = unfold amount in get_or-set_other holders (x - 1) i taker 0 (λ q. n (omega (arith, q, pos)))

  pub walked_end : (holders : List ℕ) (x : ℕ) → Walked k own via first holders x → x ≡ 0 → Shifted s holders
  walked_end holders x w e = record { held = walk_end s.chain (amount holders) x (w.walk s) e; kept = (w.walk s).kept }
