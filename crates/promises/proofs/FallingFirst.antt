-- Request #104, from the theorem of `rule`. Assumes nothing.
use Prim.Native.Nat.{ℕ, ◌+◌}
use mathlib.Core.Path.{◌≡◌, refl, sym, ap, ◌∙◌, subst}
use mathlib.Core.Bool.{true}
use mathlib.Core.List.{List}
use Rattle.rule.specs.Sheet.{Sheet, within_limits}
use Rattle.rule.specs.Round.{State}
use Rattle.rule.specs.Equilibrium.{Below}
use Rattle.rule.specs.Closing.{excess_demand_at, excess_supply_at, assignment_at}
use Rattle.rule.specs.FallingFirst.{falling_path, falling_round_of, falling_close, FallingClosing}
use Rattle.rule.proofs.FallingClosing.{falling-closing}
use Rattle.promises.specs.FallingFirst.{Falls, Request104}
use Rattle.promises.proofs.AtClose.{raised_by, lowered_by}

of-closing : (s : Sheet) (c : FallingClosing s) → Falls s c.downs c.ups c.turn c.prices
unfolding falling_path Below
of-closing s c =
    let same = c.same-prices ∙ sym (ap (λ (t : State). t.prices) c.rising_first.close_is) in
    record {
      from_start = refl;
      falls = c.falls;
      down_by_one = λ k l. lowered_by s.items (falling_path s k) (excess_supply_at s (falling_path s k).prices) (falling_round_of s k) (c.falls k l);
      before_turn = c.before_turn;
      from_turn = c.full;
      rises = c.rises;
      up_by_one = λ k l. raised_by s.items (falling_path s (c.downs + k)) (excess_demand_at s (falling_path s (c.downs + k)).prices) (falling_round_of s (c.downs + k)) (c.rises k l);
      closes_if = c.closes_where;
      closes_only_if = c.closes_only;
      closes = c.closes;
      not_before = c.before_close;
      stays = c.stays;
      at_close = c.at_close ∙ sym c.close_is;
      no_excess = c.no_excess;
      no_supply = c.no_supply;
      same-prices = same;
      same_names = ap (assignment_at s) same;
      largest-fall = c.largest-fall;
      largest-rise = c.largest-rise;
      few_lowered = c.downs_max;
      few_raised = c.ups_max;
      turn_below = c.turn_below;
      turn_greatest = c.turn_greatest;
      close_above = c.close_above;
      range = c.range;
      above_floor = c.above_floor;
      raisable = c.raisable;
    }

falling-first : (s : Sheet) → within_limits s ≡ true
    → Falls s (falling_close s).downs (falling_close s).ups (falling_path s (falling_close s).downs).prices (falling_close s).prices
falling-first s e =
    let c = falling-closing s e in
    subst (λ (t : State). Falls s t.downs t.ups (falling_path s t.downs).prices t.prices) (sym c.close_is)
    (subst (λ (t : List ℕ). Falls s c.downs c.ups t c.prices) (sym (ap (λ (t : State). t.prices) c.at_turn)) (of-closing s c))

pub request104 : Request104
request104 = record { falling-first = falling-first }
