-- An end's answer in document 01's words says the whole answer of the code: no two answers of the enum have the same. Assumes nothing.
use mathlib.Core.Path.{◌≡◌, refl}
use Rattle.live.specs.Calls.{move_of, ending_of}
use Rattle.live.specs.declared.Kind.TheVariants.{Raised, Lowered}
use Rattle.live.specs.declared.Ended.{Ended}
use Rattle.live.specs.declared.Ended.TheVariants.{Moved, Refused}
use Rattle.live.specs.declared.Ended.TheVariants.{Closed as Closes}

pub ending-only : (a b : Ended) → ending_of a ≡ ending_of b → a ≡ b
unfolding ending_of move_of
ending-only (Moved Raised x) (Moved Raised y) e = cc
ending-only (Moved Lowered x) (Moved Lowered y) e = cc
ending-only (Moved Raised x) (Moved Lowered y) e = cc
ending-only (Moved Lowered x) (Moved Raised y) e = cc
ending-only (Moved Raised x) Closes e = cc
ending-only (Moved Lowered x) Closes e = cc
ending-only (Moved Raised x) (Refused n) e = cc
ending-only (Moved Lowered x) (Refused n) e = cc
ending-only Closes (Moved Raised y) e = cc
ending-only Closes (Moved Lowered y) e = cc
ending-only Closes Closes e = refl
ending-only Closes (Refused n) e = cc
ending-only (Refused n) (Moved Raised y) e = cc
ending-only (Refused n) (Moved Lowered y) e = cc
ending-only (Refused n) Closes e = cc
ending-only (Refused n) (Refused k) e = cc
