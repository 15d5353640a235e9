-- A function with tokens that is written by hand. It has the forms that no compiled program has: openings that do not go by the count
-- of the cell, a construction that names a token and fills none, and a test of a token.
use Rattle.std.specs.Prelude.{ℕ, Bool, true, false, List, [], ◌∷◌, slice_index_or}
use Rattle.kk_syntax.specs.declared.program.Form.TheVariants.{Construct, Unit as Nothing}
use Rattle.kk_counted.specs.Marks.{CellMarks}
use Rattle.kk_counted.specs.TokenedCodes.{Tokened, TokenedFunction, TokenedProgram}
use Rattle.rv_cells.specs.Layout.{Layout}

-- of the constructors `False` and `True`, and of `Zero` and `S(before: nat)`: their tags, whether their types have cells, and whether
-- their fields have
abbrev pub hand_tags : List ℕ
hand_tags = 0 ∷ 1 ∷ 0 ∷ 1 ∷ []

abbrev pub hand_types : List Bool
hand_types = false ∷ false ∷ true ∷ true ∷ []

abbrev pub hand_fields : List (List Bool)
hand_fields = [] ∷ [] ∷ [] ∷ (true ∷ []) ∷ []

abbrev pub hand_layout : Layout
hand_layout = record { tag = λ c. slice_index_or hand_tags c 0; fields = λ c. slice_index_or hand_fields c [] }

-- `main` is the only function
abbrev pub hand_marks : CellMarks
hand_marks = record { parameters = [] ∷ []; results = false ∷ []; types = hand_types; fields = hand_fields }

-- A cell with two references is opened twice: the first time it stays, and slot 0 is null; the second time slot 1 takes it. The
-- block leaves that token to the code behind it.
abbrev pub opened_twice : Tokened
opened_twice =
    Tokened.open_cell 2 3 (3 ∷ []) (3 ∷ []) 0 (Tokened.open_cell 2 3 (4 ∷ []) [] 1 (Tokened.free 0 (Tokened.give 3)))

-- all cells are dropped, and one is made in the cell of slot 1, if it is there
abbrev pub filled_again : Tokened
filled_again =
    Tokened.drop 6 (Tokened.compute 7 (Construct 2) [] [] (Tokened.fill 8 1 3 7 [] [] [] (Tokened.drop 8
    (Tokened.compute 9 Nothing [] [] (Tokened.give 9)))))

-- a third cell is made, which takes the token where no cell is free; and it goes on by whether the token is left
abbrev pub third_made : Tokened
third_made = Tokened.compute 6 (Construct 3) (5 ∷ []) (1 ∷ []) (Tokened.if_token 1 filled_again filled_again)

-- two cells are made, the newer one is opened, and the third one is made
abbrev pub hand_code : Tokened
hand_code =
    Tokened.compute 0 (Construct 2) [] [] (Tokened.compute 1 (Construct 3) (0 ∷ []) [] (Tokened.compute 2 (Construct 3) (1 ∷ []) []
    (Tokened.dup 2 (Tokened.inside 5 opened_twice third_made))))

abbrev pub hand_function : TokenedFunction
hand_function = record { parameters = 0; body = hand_code }

abbrev pub hand_program : TokenedProgram
hand_program = record { functions = hand_function ∷ []; texts = []; main = 0 }
