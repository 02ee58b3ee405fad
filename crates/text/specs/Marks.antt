-- Words and marks as ASCII codes.
use Rattle.std.specs.Prelude.{ℕ, List, [], ◌∷◌}
use Prim.Native.Char.{code}
use Prim.Native.String.{String, [] as empty, ◌∷◌ as ◌then◌}

-- the codes of a text
abbrev pub ascii : String → List ℕ
ascii empty = []
ascii (◌then◌ c s) = code c ∷ ascii s

-- between words, between the numbers of a station or an end, and at the end of a line
abbrev pub blank : List ℕ
blank = ascii " "

abbrev pub slash : List ℕ
slash = ascii "/"

abbrev pub lf : List ℕ
lf = ascii "\n"
