-- Two texts with declared types, worked out: what the first means, and which faults the second has.
use Rattle.std.proofs.Common.{◌≡◌, ℕ, List, [], ◌∷◌, codes, None, refl}
use Rattle.kk_syntax.specs.declared.tree.Identifier.{Identifier}
use Rattle.kk_syntax.specs.declared.program.TypeDecl.{TypeDecl}
use Rattle.kk_syntax.specs.Programs.{ConstructorTree}
use Rattle.kk_syntax.specs.Surface as written
use Rattle.kk_syntax.specs.Surface.{WrittenType, WrittenParameter, WrittenConstructor, WrittenDeclaration, type_declaration}
use Rattle.kk_syntax.specs.Types.{TypeTree, type_variable, named, no_type, type}
use Rattle.kk_names.specs.declared.fault.FaultKind.TheVariants.{Twice, Unknown, Arity}
use Rattle.kk_names.specs.Faults.{fault_at, faults_of}
use Rattle.kk_names.specs.Names.{bool_type, bool_constructor, program_types, program_constructors}

abbrev name_at : List ℕ → ℕ → Identifier
name_at name at = record { name = name; at = at }

abbrev field : Identifier → WrittenType → WrittenParameter
field name of_type = record { name = name; of_type = of_type }

abbrev maker : Identifier → List WrittenParameter → WrittenConstructor
maker name fields = record { name = name; fields = fields }

-- type pair<a,b> { Pair(one: a, two: list<b>) }
-- type list<a> { Nil; Cons(head: a, tail: list<a>) }
abbrev lists : List WrittenDeclaration
lists =
    type_declaration (name_at (codes "pair") 5) (name_at (codes "a") 10 ∷ name_at (codes "b") 12 ∷ [])
    (maker (name_at (codes "Pair") 17)
    (field (name_at (codes "one") 22) (written.type_variable (name_at (codes "a") 27))
    ∷ field (name_at (codes "two") 30) (written.named (name_at (codes "list") 35) (written.type (written.type_variable (name_at (codes "b") 40)) written.no_type))
    ∷ [])
    ∷ [])
    ∷ type_declaration (name_at (codes "list") 51) (name_at (codes "a") 56 ∷ [])
    (maker (name_at (codes "Nil") 61) []
    ∷ maker (name_at (codes "Cons") 66)
    (field (name_at (codes "head") 71) (written.type_variable (name_at (codes "a") 77))
    ∷ field (name_at (codes "tail") 80) (written.named (name_at (codes "list") 86) (written.type (written.type_variable (name_at (codes "a") 91)) written.no_type))
    ∷ [])
    ∷ [])
    ∷ []

lists_without_faults : faults_of lists ≡ []
lists_without_faults = refl

abbrev declared : List ℕ → ℕ → ℕ → ℕ → ℕ → TypeDecl
declared name at variables first count = record { name = name; at = at; variables = variables; first_constructor = first; constructor_count = count }

types_of_lists : program_types lists ≡ bool_type ∷ declared (codes "pair") 5 2 2 1 ∷ declared (codes "list") 51 1 3 2 ∷ []
types_of_lists = refl

abbrev made : List ℕ → ℕ → ℕ → ℕ → List TypeTree → ConstructorTree
made name at number place fields = record { name = name; at = at; of_type = number; arguments = None; tag = place; fields = fields }

constructors_of_lists : program_constructors lists
    ≡ bool_constructor (codes "False") 0 ∷ bool_constructor (codes "True") 1
    ∷ made (codes "Pair") 17 1 0 (type_variable 0 ∷ named 2 (type (type_variable 1) no_type) ∷ [])
    ∷ made (codes "Nil") 61 2 0 []
    ∷ made (codes "Cons") 66 2 1 (type_variable 0 ∷ named 2 (type (type_variable 0) no_type) ∷ [])
    ∷ []
constructors_of_lists = refl

-- type bool<a,a> { True(x: b, x: t<int32>); C(y: t); C }
abbrev wrong : List WrittenDeclaration
wrong =
    type_declaration (name_at (codes "bool") 5) (name_at (codes "a") 10 ∷ name_at (codes "a") 12 ∷ [])
    (maker (name_at (codes "True") 17)
    (field (name_at (codes "x") 22) (written.type_variable (name_at (codes "b") 25))
    ∷ field (name_at (codes "x") 28) (written.named (name_at (codes "bool") 31) (written.type (written.named (name_at (codes "int32") 36) written.no_type) written.no_type))
    ∷ [])
    ∷ maker (name_at (codes "C") 45) (field (name_at (codes "y") 47) (written.named (name_at (codes "t") 50) written.no_type) ∷ [])
    ∷ maker (name_at (codes "C") 54) []
    ∷ [])
    ∷ []

faults_of_wrong : faults_of wrong
    ≡ fault_at Twice (name_at (codes "bool") 5) ∷ fault_at Twice (name_at (codes "True") 17) ∷ fault_at Twice (name_at (codes "C") 54)
    ∷ fault_at Twice (name_at (codes "a") 12) ∷ fault_at Unknown (name_at (codes "b") 25)
    ∷ fault_at Twice (name_at (codes "x") 28) ∷ fault_at Arity (name_at (codes "bool") 31) ∷ fault_at Unknown (name_at (codes "t") 50) ∷ []
faults_of_wrong = refl
