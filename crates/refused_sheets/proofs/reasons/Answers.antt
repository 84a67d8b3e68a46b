-- `refused_sheets::reasons` meets its contract: the answer's bytes are there. Assumes nothing.
use Rattle.sheet.proofs.Answers.{answer-fits}
use Rattle.refused_sheets.proofs.reasons.Goals as goal

pub slice_bounds-out-end : goal.slice_bounds-out-end
slice_bounds-out-end c = (answer-fits c.answer-k.result _ _ c.answer-k.new.out c.answer-k.ensures.0 c.answer-k.ensures.1).0

pub slice_bounds-write_all-end : goal.slice_bounds-write_all-end
slice_bounds-write_all-end c = (answer-fits c.answer-k.result _ _ c.answer-k.new.out c.answer-k.ensures.0 c.answer-k.ensures.1).1
