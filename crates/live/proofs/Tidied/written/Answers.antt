-- `live::Tidied::written` meets its contract. Assumes nothing.
use Prim.Native.Nat.{ℕ}
use mathlib.Core.List.{List}
use Rattle.live.proofs.Reading.{told, left}
use Rattle.live.proofs.Tidied.written.Goals as goal

pub returns : goal.returns
returns c =
    let r = c.args.self.auction in
    let t = c.args.self.tidy in
    let out : List ℕ = c.args.out.now in
    let w = c.write_closing in
    (told r t out w.result w.ensures.0, left r t out c.names.result w.new.out c.names.ensures w.ensures.1)
