-- The sheet of reasons is, byte for byte, the one without #102 of document 02: it is made of the rounds and their reasons, and those are the same. Assumes nothing.
use Prim.Native.Nat.{ℕ, ◌+◌}
use mathlib.Core.Path.{◌≡◌, ap₂, fun_ext}
use Rattle.lines.specs.Lines.{joined}
use Rattle.rule.specs.Sheet.{Sheet}
use Rattle.rule.specs.Round.{State}
use Rattle.rule.specs.Reasons.{Reason, round_count}
use Rattle.rule.proofs.Unchanged.{unchanged}
use Rattle.reasons.specs.Sheets.{reason_line, reason_sheet, former_reason_sheet}

pub same_sheet : (s : Sheet) → reason_sheet s ≡ former_reason_sheet s
unfolding reason_sheet former_reason_sheet round_count
same_sheet s =
    ap₂ (λ (t : State) (f : ℕ → Reason). joined (t.ups + t.downs) λ k. reason_line (k + 1) (f k)) (unchanged s).closes (fun_ext (unchanged s).reasons)
