-- Code with tokens as Rust has it, as the mathematical code.
use Rattle.std.specs.Prelude.{ℕ, Bool, true, false, List, [], ◌∷◌, map}
use Rattle.kk_syntax.specs.declared.program.Form.{Form}
use Rattle.kk_syntax.specs.declared.program.Form.TheVariants.{Construct}
use Rattle.kk_counted.specs.CountedForms.{decisions_of}
use Rattle.kk_counted.specs.declared.tokened.TokenedBlock.{TokenedBlock}
use Rattle.kk_counted.specs.declared.tokened.TokenedFun.{TokenedFun}
use Rattle.kk_counted.specs.declared.tokened.TokenedLast.{TokenedLast}
use Rattle.kk_counted.specs.declared.tokened.TokenedStep.{TokenedStep}
use Rattle.kk_counted.specs.declared.tokened.TokenedLast.TheOpen.{TokenedBlock-F, TokenedLast-F, TokenedStep-F, Let, Inside, Read, Open, IfUnique, Dup, Drop, Fill, Free, Null, Move, Hold, Unhold, Return, TailCall, Case, IfToken}
use Rattle.kk_counted.specs.declared.tokened.TokenedLast.TheFolds.{fold-TokenedBlock, fold-TokenedLast, fold-TokenedStep}
use Rattle.kk_counted.specs.TokenedCodes.{Tokened, TokenedArms, TokenedFunction, TokenedProgram}

-- a step of a block by itself
pub data TokenedMove : Type 0 where
  computes : (variable : ℕ) → (form : Form) → (arguments : List ℕ) → (others : List ℕ) → TokenedMove
  runs : (variable : ℕ) → (block : Tokened) → TokenedMove
  reads : (variable : ℕ) → (constructor : ℕ) → (fields : List ℕ) → TokenedMove
  opens : (variable : ℕ) → (constructor : ℕ) → (fields : List ℕ) → (used : List ℕ) → (slot : ℕ) → TokenedMove
  opens_unique : (variable : ℕ) → (constructor : ℕ) → (fields : List ℕ) → (used : List ℕ) → (slot : ℕ) → TokenedMove
  dups : (variable : ℕ) → TokenedMove
  drops : (variable : ℕ) → TokenedMove
  fills : (variable : ℕ) → (slot : ℕ) → (constructor : ℕ) → (first : ℕ) → (arguments : List ℕ) → (kept : List ℕ)
      → (others : List ℕ) → TokenedMove
  frees : (slot : ℕ) → TokenedMove
  nulls : (slot : ℕ) → TokenedMove
  moves : (to : ℕ) → (from : ℕ) → TokenedMove
  holds : (slot : ℕ) → TokenedMove
  unholds : (slot : ℕ) → TokenedMove

-- a step, and what comes behind it
abbrev pub put_tokened : TokenedMove → Tokened → Tokened
put_tokened (TokenedMove.computes x form arguments others) rest = Tokened.compute x form arguments others rest
put_tokened (TokenedMove.runs x block) rest = Tokened.inside x block rest
put_tokened (TokenedMove.reads x c fields) rest = Tokened.read x c fields rest
put_tokened (TokenedMove.opens x c fields used y) rest = Tokened.open_cell x c fields used y rest
put_tokened (TokenedMove.opens_unique x c fields used y) rest = Tokened.if_unique x c fields used y rest
put_tokened (TokenedMove.dups x) rest = Tokened.dup x rest
put_tokened (TokenedMove.drops x) rest = Tokened.drop x rest
put_tokened (TokenedMove.fills x y c first arguments kept others) rest = Tokened.fill x y c first arguments kept others rest
put_tokened (TokenedMove.frees y) rest = Tokened.free y rest
put_tokened (TokenedMove.nulls y) rest = Tokened.null y rest
put_tokened (TokenedMove.moves to of) rest = Tokened.move to of rest
put_tokened (TokenedMove.holds y) rest = Tokened.hold y rest
put_tokened (TokenedMove.unholds y) rest = Tokened.unhold y rest

-- steps, and what comes behind them
abbrev pub plug_tokened : List TokenedMove → Tokened → Tokened
plug_tokened [] last = last
plug_tokened (move ∷ later) last = put_tokened move (plug_tokened later last)

-- a list of codes as arms
abbrev pub tokened_arms : List Tokened → TokenedArms
tokened_arms [] = TokenedArms.no_arm
tokened_arms (body ∷ bodies) = TokenedArms.arm body (tokened_arms bodies)

-- how a block ends, a step and a block as such codes, those of their parts given
abbrev pub tokened_last_step : TokenedLast-F Tokened TokenedMove Tokened → Tokened
tokened_last_step (Return x) = Tokened.give x
tokened_last_step (TailCall f arguments) = Tokened.tail_call f arguments.items
tokened_last_step (Case x decisions arms) = Tokened.case x (decisions_of decisions) (tokened_arms arms.items)
tokened_last_step (IfToken y there absent) = Tokened.if_token y there.value absent.value

abbrev pub tokened_step_step : TokenedStep-F Tokened TokenedMove Tokened → TokenedMove
tokened_step_step (Let x form arguments others) = TokenedMove.computes x form arguments.items others.items
tokened_step_step (Inside x block) = TokenedMove.runs x block
tokened_step_step (Read x c fields) = TokenedMove.reads x c fields.items
tokened_step_step (Open x c fields used y) = TokenedMove.opens x c fields.items used.items y
tokened_step_step (IfUnique x c fields used y) = TokenedMove.opens_unique x c fields.items used.items y
tokened_step_step (Dup x) = TokenedMove.dups x
tokened_step_step (Drop x) = TokenedMove.drops x
tokened_step_step (Fill x y c first arguments kept others) =
    TokenedMove.fills x y c first arguments.items kept.items others.items
tokened_step_step (Free y) = TokenedMove.frees y
tokened_step_step (Null y) = TokenedMove.nulls y
tokened_step_step (Move to of) = TokenedMove.moves to of
tokened_step_step (Hold y) = TokenedMove.holds y
tokened_step_step (Unhold y) = TokenedMove.unholds y

abbrev pub tokened_block_step : TokenedBlock-F Tokened TokenedMove Tokened → Tokened
tokened_block_step b = plug_tokened b.steps.items b.last

-- a block, how it ends and a step as such codes
abbrev pub tokened_code : TokenedBlock → Tokened
tokened_code = fold-TokenedBlock Tokened TokenedMove Tokened tokened_last_step tokened_step_step tokened_block_step

abbrev pub tokened_last_code : TokenedLast → Tokened
tokened_last_code = fold-TokenedLast Tokened TokenedMove Tokened tokened_last_step tokened_step_step tokened_block_step

abbrev pub tokened_move : TokenedStep → TokenedMove
tokened_move = fold-TokenedStep Tokened TokenedMove Tokened tokened_last_step tokened_step_step tokened_block_step

-- steps, and what comes behind them
abbrev pub put_steps : List TokenedStep → Tokened → Tokened
put_steps steps rest = plug_tokened (map tokened_move steps) rest

-- a function, and the program of some functions and string literals, whose first function is `main`
abbrev pub tokened_function : TokenedFun → TokenedFunction
tokened_function fun = record { parameters = fun.parameters; body = tokened_code fun.body }

abbrev pub tokened_program : List TokenedFun → List (List ℕ) → TokenedProgram
tokened_program functions texts = record { functions = map tokened_function functions; texts = texts; main = 0 }

-- an opening whose token stands in a slot, by the count of the cell or not
abbrev pub opens_with : Bool → ℕ → ℕ → List ℕ → List ℕ → ℕ → TokenedMove
opens_with true x c fields used slot = TokenedMove.opens_unique x c fields used slot
opens_with false x c fields used slot = TokenedMove.opens x c fields used slot

-- a construction with fields in the cell of a token, which leaves those at the kept positions
abbrev pub fills_with : ℕ → ℕ → ℕ → List ℕ → List ℕ → List ℕ → TokenedMove
fills_with x slot c [] kept others = TokenedMove.computes x (Construct c) [] others
fills_with x slot c (one ∷ arguments) kept others = TokenedMove.fills x slot c one arguments kept others
