-- `promises::live_calls::console_answer` meets its contract. Assumes nothing.
use Rattle.promises.proofs.live_calls.console_answer.Goals as goal

pub returns : goal.returns
returns c = let e = c.answer.ensures in record { next = e.next; count = e.counted; bytes = e.written; tables = e.tables }
