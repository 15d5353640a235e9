-- The program of a compiled program's functions is the insertion of its core form, specialised and fused.
use Rattle.std.proofs.Common.{◌≡◌, ℕ, List, sym, ap, ◌∙◌}
use Rattle.kk_syntax.specs.declared.ground.Ground.{Ground}
use Rattle.kk_syntax.specs.declared.typed.Typed.{Typed}
use Rattle.kk_core.specs.Codes.{core_code}
use Rattle.kk_counted.specs.CountedCodes.{CountedFunction, CountedProgram}
use Rattle.kk_counted.specs.declared.counted.Counted.{Counted}
use Rattle.kk_counted.specs.Programs.{program_of}
use Rattle.kk_insert.specs.Insertion.{inserted}
use Rattle.kk_dropspec.specs.Specialised.{special_program}
use Rattle.kk_fuse.specs.Fused.{fused_program}
use Rattle.kk_middle.specs.Compiled.{instance_positions, IsCompiled}

module _ (typed : Typed) (given : Ground) (made : Counted) (compiled : IsCompiled typed given made) where
  abbrev image : CountedProgram
  image = fused_program (special_program (inserted (instance_positions given compiled.table) (core_code compiled.core)))

  pub compiled_program : program_of made.functions.items given.texts.items
      ≡ fused_program (special_program (inserted (instance_positions given compiled.table) (core_code compiled.core)))
  compiled_program =
      ap (λ (functions : List CountedFunction). record { functions = functions; texts = given.texts.items; main = 0 })
      compiled.functions
      ∙ ap (λ (texts : List (List ℕ)). record { functions = image.functions; texts = texts; main = 0 }) (sym compiled.form.texts)
      ∙ ap (λ (main : ℕ). record { functions = image.functions; texts = (core_code compiled.core).texts; main = main })
      (sym compiled.form.main)
