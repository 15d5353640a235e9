-- Pairing: each construction with fields takes the newest token of its function. The unspent tokens of a function stand in the slots
-- below their number, the newest one in the last.
use Rattle.std.specs.Prelude.{ℕ, zero, suc, ◌+◌, ◌-◌, ◌==◌, Bool, false, List, [], ◌∷◌, Option, Some, None, option_map, map, if◌then◌else◌}
use Rattle.kk_syntax.specs.declared.program.Form.{Form}
use Rattle.kk_syntax.specs.declared.program.Form.TheVariants.{Construct, Call}
use Rattle.kk_counted.specs.CountedCodes.{Counted, give, tail_call, case, compute, inside, read, open_cell, if_unique, dup, drop, CountedArms, no_arm, arm, CountedFunction, CountedProgram}
use Rattle.kk_counted.specs.CountedStates.{CountedSetting}
use Rattle.kk_counted.specs.TokenStates.{TokenSetting}
use Rattle.kk_counted.specs.TokenedCodes.{Tokened, TokenedArms, TokenedFunction, TokenedProgram}
use Rattle.kk_reuse.specs.Following.{may_make, kept, taken, leaves}

-- the slots below a number, the newest token first
abbrev pub slots_below : ℕ → List ℕ
slots_below zero = []
slots_below (suc n) = n ∷ slots_below n

-- so many tokens are freed, held, taken back and made null, in front of a code
abbrev pub frees : ℕ → Tokened → Tokened
frees zero code = code
frees (suc n) code = Tokened.free n (frees n code)

abbrev pub holds : ℕ → Tokened → Tokened
holds zero code = code
holds (suc n) code = holds n (Tokened.hold n code)

abbrev pub unholds : ℕ → Tokened → Tokened
unholds zero code = code
unholds (suc n) code = Tokened.unhold n (unholds n code)

-- a code without the form that holds a token, where that is the first of its forms but for drops
abbrev pub still_held : ℕ → Tokened → Option Tokened
still_held y (Tokened.hold z rest) = if y == z then Some rest else None
still_held y (Tokened.drop x rest) = option_map (Tokened.drop x) (still_held y rest)
still_held y code = None

abbrev pub or_taken_back : ℕ → Tokened → Option Tokened → Tokened
or_taken_back y code (Some held) = held
or_taken_back y code None = Tokened.unhold y code

-- A token is taken back in front of a code. Where the code would hold it again, behind drops alone, it stays held.
abbrev pub taken_back : ℕ → Tokened → Tokened
taken_back y code = or_taken_back y code (still_held y code)

abbrev pub all_taken_back : ℕ → Tokened → Tokened
all_taken_back zero code = code
all_taken_back (suc n) code = taken_back n (all_taken_back n code)

abbrev pub nulls : ℕ → Tokened → Tokened
nulls zero code = code
nulls (suc n) code = Tokened.null n (nulls n code)

-- so many tokens move up by so many slots, the newest one first
abbrev pub moves_up : ℕ → ℕ → Tokened → Tokened
moves_up by zero code = code
moves_up by (suc n) code = Tokened.move (n + by) n (moves_up by n code)

-- Of n tokens so many more are made at the end of a block: null ones come in as the oldest.
abbrev pub filled_up : ℕ → ℕ → Tokened → Tokened
filled_up zero n code = code
filled_up (suc more) n code = moves_up (suc more) n (nulls (suc more) code)

-- A form on variables with so many tokens. A construction with fields takes the newest one. At a call all are held; where another
-- call comes behind it, with drops alone between the two, they stay held up to that one.
abbrev pub paired_form : ℕ → ℕ → Form → List ℕ → Tokened → Tokened
paired_form (suc n) x (Construct c) (first ∷ arguments) rest = Tokened.fill x n c first arguments [] (slots_below n) rest
paired_form n x (Call f) arguments rest = holds n (Tokened.compute x (Call f) arguments [] (all_taken_back n rest))
paired_form n x form arguments rest = Tokened.compute x form arguments [] rest

-- What comes behind with its tokens: where it can make no cell, those that were there are freed in front of it.
abbrev pub settled : Bool → Counted → ℕ → Tokened → Tokened
settled behind bare_code n code = if may_make behind bare_code then code else frees n code

-- how many tokens a block leaves that begins with n
abbrev pub left_by : Bool → ℕ → Counted → Counted → ℕ
left_by behind n block rest = leaves (may_make behind rest) (kept (may_make behind rest) block n) block

-- The code with its tokens, which begins with n of them and leaves l; `behind` is whether a cell may be made behind the block. Where
-- none can be made any more, the tokens that are left are freed.
abbrev mutual
  pub paired : Bool → ℕ → ℕ → Counted → Tokened
  paired behind l n (give x) = filled_up (l - n) n (Tokened.give x)
  paired behind l n (tail_call f arguments) = frees n (Tokened.tail_call f arguments)
  paired behind l n (case x decisions arms) = Tokened.case x decisions (paired_arms behind l n arms)
  paired behind l n (compute x form arguments rest) =
      paired_form n x form arguments (settled behind rest (taken form arguments n)
      (paired behind l (kept behind rest (taken form arguments n)) rest))
  paired behind l n (inside x block rest) =
      Tokened.inside x (settled (may_make behind rest) block n
      (paired (may_make behind rest) (left_by behind n block rest) (kept (may_make behind rest) block n) block))
      (settled behind rest (left_by behind n block rest) (paired behind l (kept behind rest (left_by behind n block rest)) rest))
  paired behind l n (read x c fields rest) =
      Tokened.read x c fields (settled behind rest n (paired behind l (kept behind rest n) rest))
  paired behind l n (open_cell x c fields used rest) =
      Tokened.open_cell x c fields used n (settled behind rest (suc n) (paired behind l (kept behind rest (suc n)) rest))
  paired behind l n (if_unique x c fields used rest) =
      Tokened.if_unique x c fields used n (settled behind rest (suc n) (paired behind l (kept behind rest (suc n)) rest))
  paired behind l n (dup x rest) = Tokened.dup x (settled behind rest n (paired behind l (kept behind rest n) rest))
  paired behind l n (drop x rest) = Tokened.drop x (settled behind rest n (paired behind l (kept behind rest n) rest))

  pub paired_arms : Bool → ℕ → ℕ → CountedArms → TokenedArms
  paired_arms behind l n no_arm = TokenedArms.no_arm
  paired_arms behind l n (arm body rest) =
      TokenedArms.arm (settled behind body n (paired behind l (kept behind body n) body)) (paired_arms behind l n rest)

abbrev pub paired_function : CountedFunction → TokenedFunction
paired_function function = record { parameters = function.parameters; body = paired false 0 0 function.body }

abbrev pub paired_program : CountedProgram → TokenedProgram
paired_program program =
    record { functions = map paired_function program.functions; texts = program.texts; main = program.main }

-- what is run: constructions in a token's cell write all fields
abbrev pub paired_setting : CountedSetting → TokenSetting
paired_setting setting = record {
  program = paired_program setting.program;
  cells = setting.cells;
  depth = setting.depth;
  leaves = false;
}
