-- What a read of the close writes is what the sealed auction gives: the first three lines of its outcome's closing sheet. Assumes nothing.
use Prim.Native.Nat.{ℕ, ◌≤◌}
use mathlib.Core.Path.{◌≡◌, refl, ◌∙◌}
use mathlib.Core.Bool.{true}
use mathlib.Core.List.{List}
use native.Mathlib.Omega.{arith}
use lib.ListN.{length}
use Rattle.sets.specs.Lists.{places}
use Rattle.sets.proofs.Lists.{places-at}
use Rattle.rule.specs.Sheet.{Sheet, within_limits}
use Rattle.rule.specs.Round.{close}
use Rattle.rule.specs.Closing.{assignment_at}
use Rattle.rule.proofs.Limits.{limits}
use Rattle.lines.specs.Lines.{closing_sheet}
use Rattle.auction.specs.Sealed.{closed}
use Rattle.agreement.specs.Machine.{three_lines}
use Rattle.lines.proofs.Same.{sheet-same}
use Rattle.agreement.proofs.Reading.{sheet-places}

-- the sheet has regard to the options of the bidders only
sheet-names : (m n ups downs : ℕ) (p options : List ℕ) → n ≤ 64 → closing_sheet m n ups downs p (places 64 options) ≡ closing_sheet m n ups downs p options
sheet-names m n ups downs p options few = sheet-same m n ups downs p p (places 64 options) options (λ k l. refl) (λ b l. places-at 64 options b (omega arith))

pub same_sheet : (s : Sheet) → within_limits s ≡ true
    → closing_sheet s.items (length s.bids) (closed s).raised (closed s).lowered (closed s).prices (closed s).assignment ≡ three_lines s
unfolding closed three_lines
same_sheet s e =
    sheet-names s.items (length s.bids) (close s).ups (close s).downs (places 32 (close s).prices) (assignment_at s (close s).prices) (limits s e).max_bidders
    ∙ sheet-places s.items (length s.bids) (close s).ups (close s).downs (close s).prices (assignment_at s (close s).prices) (limits s e).max_items
