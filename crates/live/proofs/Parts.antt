-- Records are equal by their parts. Assumes nothing.
use Prim.Native.Nat.{ℕ}
use mathlib.Core.Path.{◌≡◌, ap, ◌∙◌}
use mathlib.Core.List.{List}
use Rattle.live.specs.declared.Auction.{Auction}
use Rattle.live.specs.declared.Phase.{Phase}

abbrev make : (m n : ℕ) (prices floors sets : List ℕ) (nulls reported : ℕ) (ph : Phase) (ups downs : ℕ) → Auction
make m n prices floors sets nulls reported ph ups downs =
    record {
      items = m;
      bidders = n;
      prices = prices;
      floors = floors;
      sets = sets;
      nulls = nulls;
      reported = reported;
      phase = ph;
      raised = ups;
      lowered = downs;
    }

pub by_parts : (a b : Auction) → a.items ≡ b.items → a.bidders ≡ b.bidders → a.prices ≡ b.prices → a.floors ≡ b.floors → a.sets ≡ b.sets
    → a.nulls ≡ b.nulls → a.reported ≡ b.reported → a.phase ≡ b.phase → a.raised ≡ b.raised → a.lowered ≡ b.lowered → a ≡ b
by_parts a b e1 e2 e3 e4 e5 e6 e7 e8 e9 e10 =
    ap (λ (x : ℕ). make x a.bidders a.prices a.floors a.sets a.nulls a.reported a.phase a.raised a.lowered) e1
    ∙ ap (λ (x : ℕ). make b.items x a.prices a.floors a.sets a.nulls a.reported a.phase a.raised a.lowered) e2
    ∙ ap (λ (x : List ℕ). make b.items b.bidders x a.floors a.sets a.nulls a.reported a.phase a.raised a.lowered) e3
    ∙ ap (λ (x : List ℕ). make b.items b.bidders b.prices x a.sets a.nulls a.reported a.phase a.raised a.lowered) e4
    ∙ ap (λ (x : List ℕ). make b.items b.bidders b.prices b.floors x a.nulls a.reported a.phase a.raised a.lowered) e5
    ∙ ap (λ (x : ℕ). make b.items b.bidders b.prices b.floors b.sets x a.reported a.phase a.raised a.lowered) e6
    ∙ ap (λ (x : ℕ). make b.items b.bidders b.prices b.floors b.sets b.nulls x a.phase a.raised a.lowered) e7
    ∙ ap (λ (x : Phase). make b.items b.bidders b.prices b.floors b.sets b.nulls b.reported x a.raised a.lowered) e8
    ∙ ap (λ (x : ℕ). make b.items b.bidders b.prices b.floors b.sets b.nulls b.reported b.phase x a.lowered) e9
    ∙ ap (λ (x : ℕ). make b.items b.bidders b.prices b.floors b.sets b.nulls b.reported b.phase b.raised x) e10
