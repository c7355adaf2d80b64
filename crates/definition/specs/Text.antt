-- Bytes written as text: a byte is the code of its character.
use Rattle.std.specs.Prelude.{ℕ, List, [] as []ᴸ, ◌∷◌ as ◌∷ᴸ◌}
use Prim.Native.String.{String, [], ◌∷◌}
use Prim.Native.Char.{code}

abbrev pub bytes_of : String → List ℕ
bytes_of [] = []ᴸ
bytes_of (c ∷ s) = code c ∷ᴸ bytes_of s
