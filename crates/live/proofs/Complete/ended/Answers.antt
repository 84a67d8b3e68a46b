-- `live::Complete::ended` meets its contract. Assumes nothing.
use Rattle.live.proofs.Formed.{tidy}
use Rattle.live.proofs.Complete.ended.Goals as goal

pub tidied-requires : goal.tidied-requires
tidied-requires c = tidy c.args.self.auction c.args.self.ready.formed
