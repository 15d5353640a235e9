-- How large the frames of an image are.
use Rattle.std.specs.Prelude.{◌≡◌, ℕ, ◌+◌, ◌*◌, ◌≤◌, List}
use Rattle.cell_runtime.specs.Layouts.{layout_of}
use Rattle.kk_core.specs.Sizes.{most_parameters}
use Rattle.elf_image.specs.Program.{memory_size_of}
use Rattle.elf_image.specs.declared.part.Part.{Part}
use Rattle.rv_inline.specs.InLine.{most_fresh}

-- the most bytes of a frame for each node of the greatest body: it binds a variable, and has a slot
abbrev pub node_frame_bytes : ℕ
node_frame_bytes = 4 * 2

-- all others: those of the parameters, of the arguments of a call, of the values of a call in line, and of the way back, where a slot
-- less is used
abbrev pub other_frame_bytes : ℕ
other_frame_bytes = 4 * (2 * most_parameters + most_fresh)

-- The memory behind the text of an image has room for so many cells and so many frames of one size, and for nothing but what the
-- runtime lays out with them. By the nodes of the greatest body a function has no more variables than these and its parameters, and
-- fewer slots of tokens; a frame has a word for each, eight for the arguments of a call, seven for the values of a call in line, and
-- one for the way back. So it has eight bytes at most for each node, and 92.
pub record HasFrames (nodes cells depth : ℕ) (parts : List Part) : Type 0 where
  pub frame : ℕ
  pub size : memory_size_of parts ≡ (layout_of cells depth frame).stack_end
  pub few : frame ≤ node_frame_bytes * nodes + other_frame_bytes
