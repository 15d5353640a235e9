-- Code that is written from its end back.
use Rattle.std.specs.Prelude.{List, map, reverse}
use Rattle.rv_isa.specs.declared.placed.Item.{Item}
use Rattle.rv_isa.specs.PlacedCode.{PlacedLine, placed_line_of}

-- the lines, of which the last was written first
unfoldable pub backwards : List Item → List PlacedLine
backwards items = reverse (map placed_line_of items)
