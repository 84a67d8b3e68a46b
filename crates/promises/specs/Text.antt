-- Texts as bytes. Assumes nothing: this is a definition.
use Rattle.std.specs.Prelude.{ℕ, List, [] as none, ◌∷◌ as ◌before◌}
use Prim.Native.Char.{code}
use Prim.Native.String.{String, [], ◌∷◌}

-- the bytes of a text, each character's code
unfoldable pub text : String → List ℕ
text [] = none
text (c ∷ cs) = code c before text cs
