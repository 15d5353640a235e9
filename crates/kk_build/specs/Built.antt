-- What is built of a text.
use Rattle.std.specs.Prelude.{◌≤◌, ℕ, List}
use Rattle.kk_syntax.specs.Checked.{IsChecked}
pub use Rattle.kk_syntax.specs.Programs.{ProgramTree}
use Rattle.kk_syntax.specs.Shapes.{greatest_nodes}
use Rattle.kk_syntax.specs.Typing.{Choice, ArePrincipal}
use Rattle.kk_source.specs.Settings.{IsRun}
use Rattle.kk_source.specs.State.{Setting}
use Rattle.kk_front.specs.Judgement.{IsProgramOf}
use Rattle.kk_build.specs.Agreement.{Agrees, IsBounded, LeavesNoCell, TouchesNoFree}
use Rattle.kk_build.specs.Images.{IsImageFile}
use Rattle.kk_build.specs.Memory.{HasFrames}
use Rattle.kk_build.specs.Texts.{HasFewBytes}

-- These bytes are the file of an image of a program with these typings, for a heap of so many cells and so many open calls. The
-- image agrees with the program as it is run, with its owned positions, leaves no cell, and touches no free cell outside of the
-- runtime. It does what it does within a bound on instructions, and its frames are within a bound on bytes, both by the nodes of
-- the greatest body of the program, its functions called or not. Its text is within a bound on bytes by these nodes and those of
-- the program's instances.
pub record IsFileOf (program : ProgramTree) (typings : List (List Choice)) (cells depth : ℕ) (file : List ℕ) : Type 0 where
  pub is_image : IsImageFile file
  pub memory : HasFrames (greatest_nodes program) cells depth is_image.parts
  pub text : HasFewBytes program typings is_image.parts
  pub setting : Setting
  pub is_run : IsRun program cells depth setting
  pub agrees : Agrees file setting
  pub leaves_no_cell : LeavesNoCell file setting
  pub touches_no_free : TouchesNoFree cells file
  pub bounded : (nodes : ℕ) → greatest_nodes program ≤ nodes → IsBounded nodes file setting

-- These bytes are built of a text: the text is accepted as a program, which is checked with its principal typings, and they are the
-- file of an image of that program.
pub record IsBuilt (text : List ℕ) (cells depth : ℕ) (file : List ℕ) : Type 0 where
  pub program : ProgramTree
  pub is_program : IsProgramOf text program
  pub typings : List (List Choice)
  pub principal : ArePrincipal program typings
  pub checked : IsChecked program typings
  pub is_file : IsFileOf program typings cells depth file
