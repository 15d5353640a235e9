-- What the shape of a program tells.
use Rattle.kk_counted.specs.declared.shape.Shape.{Shape}
use Rattle.kk_counted.specs.Marks.{CellMarks, marks_of}
use Rattle.rv_cells.specs.Layout.{Layout, layout_of}

-- which parameters, results and fields are of types with cells
abbrev pub table_of : Shape → CellMarks
table_of shape = marks_of shape.instances.items shape.constructors.items

-- how values look
abbrev pub layout_in : Shape → Layout
layout_in shape = layout_of shape.constructors.items
