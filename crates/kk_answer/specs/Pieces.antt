-- The bytes of a line that is made of parts.
use Rattle.std.specs.Prelude.{ℕ, List, decimal, flat_map}
use Rattle.kk_answer.specs.declared.line.Piece.{Piece}
use Rattle.kk_answer.specs.declared.line.Piece.TheVariants.{Text, Bytes, Number}

-- the bytes of a part of a line
abbrev pub bytes_of : Piece → List ℕ
bytes_of (Text text) = text.now
bytes_of (Bytes bytes) = bytes.now
bytes_of (Number number) = decimal number

-- the bytes of some parts
abbrev pub joined : List Piece → List ℕ
joined pieces = flat_map bytes_of pieces
