-- Drop specialisation and fusion keep the marks of code, and the shape of a compiled program tells those of its types.
use Rattle.std.proofs.Common.{◌≡◌, ℕ, zero, suc, Bool, List, [], ◌∷◌, map, Some, refl, sym, ap, ◌∙◌, subst}
use Rattle.std.specs.Prelude.{slice_get}
use Rattle.kk_core.specs.declared.form.Core.{Core}
use Rattle.kk_core.specs.declared.form.CoreFunction.{CoreFunction}
use Rattle.kk_core.specs.declared.shape.ConstructorShape.{ConstructorShape}
use Rattle.kk_counted.specs.CountedCodes.{CountedFunction, CountedProgram}
use Rattle.kk_counted.specs.declared.shape.InstanceShape.{InstanceShape}
use Rattle.kk_counted.specs.Marks.{CellMarks, marks_of, IsMarked, AreMarked}
use Rattle.kk_insert.specs.MarkTables.{marks_of_core}
use Rattle.kk_insert.specs.Shapes.{cells_told, cells_in, ConstructorFacts, facts_of}
use Rattle.kk_dropspec.specs.Specialised.{special_function, special_program}
use Rattle.kk_dropspec.proofs.Lowerability.{special_marked}
use Rattle.kk_fuse.specs.Fused.{fused_function, fused_program}
use Rattle.kk_fuse.proofs.Lowerability.{fused_marked}

module _ (change : CountedFunction → CountedFunction) where
  -- a function that a pass makes is that of one that is there
  made_from : (functions : List CountedFunction) (f : ℕ) (made : CountedFunction) → slice_get (map change functions) f ≡ Some made
      → (function : CountedFunction) × ((slice_get functions f ≡ Some function) × (change function ≡ made))
  made_from [] f made there = absurd (cc)
  made_from (function ∷ functions) zero made there = (function, (refl, only there))
    where
      only : Some (change function) ≡ Some made → change function ≡ made
      only same = cc
  made_from (function ∷ functions) (suc f) made there = made_from functions f made there

  -- and each function that is there is made into one
  made_there : (functions : List CountedFunction) (f : ℕ) (function : CountedFunction) → slice_get functions f ≡ Some function
      → slice_get (map change functions) f ≡ Some (change function)
  made_there [] f function there = absurd (cc)
  made_there (first ∷ functions) zero function there = only there
    where
      only : Some first ≡ Some function → Some (change first) ≡ Some (change function)
      only same = cc
  made_there (first ∷ functions) (suc f) function there = made_there functions f function there

-- each pass keeps the marks of a program
pub special_is_marked : (marks : CellMarks) (holds : ℕ → ℕ → Bool) (program : CountedProgram) → AreMarked marks holds program
    → AreMarked marks holds (special_program program)
special_is_marked marks holds program marked =
    record {
      each = λ f made there.
          let from = made_from special_function program.functions f made there in
          subst (IsMarked marks (holds f) f) from.1.1
          (special_marked marks (holds f) f from.0 (marked.each f from.0 from.1.0));
      main_there = (
        special_function marked.main_there.0,
        (
          made_there special_function program.functions program.main marked.main_there.0 marked.main_there.1.0,
          marked.main_there.1.1,
        ),
      );
    }

pub fused_is_marked : (marks : CellMarks) (holds : ℕ → ℕ → Bool) (program : CountedProgram) → AreMarked marks holds program
    → AreMarked marks holds (fused_program program)
fused_is_marked marks holds program marked =
    record {
      each = λ f made there.
          let from = made_from fused_function program.functions f made there in
          subst (IsMarked marks (holds f) f) from.1.1
          (fused_marked marks (holds f) f from.0 (marked.each f from.0 from.1.0));
      main_there = (
        fused_function marked.main_there.0,
        (
          made_there fused_function program.functions program.main marked.main_there.0 marked.main_there.1.0,
          marked.main_there.1.1,
        ),
      );
    }

-- ---- the marks that a shape tells

of_facts : {Y : Type 0} (f : ConstructorFacts → Y) (xs : List ConstructorShape)
    → map (λ c. f (facts_of c)) xs ≡ map f (map facts_of xs)
of_facts f [] = refl
of_facts f (x ∷ xs) = ap (λ ys. f (facts_of x) ∷ ys) (of_facts f xs)

pub same_facts : {Y : Type 0} (f : ConstructorFacts → Y) (xs ys : List ConstructorShape) → map facts_of xs ≡ map facts_of ys
    → map (λ c. f (facts_of c)) xs ≡ map (λ c. f (facts_of c)) ys
same_facts f xs ys same = of_facts f xs ∙ ap (map f) same ∙ sym (of_facts f ys)

pub shape_tells : (core : Core) (instances : List InstanceShape) (constructors : List ConstructorShape)
    → map cells_in instances ≡ map cells_told core.functions.items
    → map (λ (i : InstanceShape). i.result_has_cells) instances
    ≡ map (λ (f : CoreFunction). f.result_has_cells) core.functions.items
    → map facts_of constructors ≡ map facts_of core.constructors.items
    → marks_of instances constructors ≡ marks_of_core core
shape_tells core instances constructors cells results facts =
    ap (λ (m : List (List Bool)). record (marks_of instances constructors) { parameters = m }) cells
    ∙ ap (λ (m : List Bool). record (marks_of instances constructors) { parameters = (marks_of_core core).parameters; results = m })
    results
    ∙ ap (λ (m : List Bool). record (marks_of_core core) { types = m; fields = (marks_of instances constructors).fields })
    (same_facts (λ c. c.has_cells) constructors core.constructors.items facts)
    ∙ ap (λ (m : List (List Bool)). record (marks_of_core core) { fields = m })
    (same_facts (λ c. c.fields) constructors core.constructors.items facts)
