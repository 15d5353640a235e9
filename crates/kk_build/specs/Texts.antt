-- How many bytes the text of an image has.
use Rattle.std.specs.Prelude.{ℕ, ◌+◌, ◌*◌, ◌^◌, ◌≤◌, List, length}
use Rattle.kk_syntax.specs.Programs.{ProgramTree}
use Rattle.kk_syntax.specs.Shapes.{greatest_nodes}
use Rattle.kk_syntax.specs.Typing.{Choice}
use Rattle.kk_core.specs.CodeNodes.{most_pair_words}
use Rattle.kk_mono.specs.Counts.{summed_nodes}
use Rattle.kk_mono.specs.Instances.{InstanceTree, AreInstances}
use Rattle.elf_image.specs.Program.{text_of}
use Rattle.elf_image.specs.declared.part.Part.{Part}

-- the bytes for each pair of nodes
abbrev pub pair_bytes : ℕ
pair_bytes = 4 * most_pair_words

-- all others: those of the runtime, those of calls in line, and those that grow with the instances and their nodes, take no more within
-- the limits
abbrev pub plain_bytes : ℕ
plain_bytes = 4 * 2 ^ 20

-- The text of an image has at most 16 bytes for each pair of a node of the greatest function and a node of an instance, and four
-- MiB: by the instances that a program has with these typings, `main` among them.
pub record HasFewBytes (program : ProgramTree) (typings : List (List Choice)) (parts : List Part) : Type 0 where
  pub instances : List InstanceTree
  pub are : AreInstances program.main typings instances
  pub few : length (text_of parts) ≤ pair_bytes * (greatest_nodes program * summed_nodes program instances) + plain_bytes
