-- A call of a small function, put in line: the function doubles its argument.
use Rattle.std.proofs.Common.{◌≡◌, inl, inr, [], ◌∷◌, Some, None, refl, arith}
use Rattle.rv_isa.specs.declared.asm.Action.TheVariants.{Compute, Call, Return}
use Rattle.rv_isa.specs.declared.asm.Operation.TheVariants.{Register, Li}
use Rattle.rv_isa.specs.declared.asm.RegisterOperation.TheVariants.{Add}
use Rattle.rv_isa.specs.AsmCode.{Line, Lines}
use Rattle.rv_inline.specs.InLine.{room, copy, in_line, IsLeaf, IsLeafCall, HasInLine}
use Rattle.rv_inline.specs.InLineLines.{line_in_line}

abbrev double : Lines
double = record { params = 0 ∷ []; code = record { action = Compute (Register Add); args = 0 ∷ 0 ∷ []; into = Some 1 } ∷ record { action = Return; args = 1 ∷ []; into = None } ∷ [] }

abbrev five : Line
five = record { action = Compute (Li 5); args = []; into = Some 0 }

abbrev call : Line
call = record { action = Call 1; args = 0 ∷ []; into = Some 1 }

abbrev back : Line
back = record { action = Return; args = 1 ∷ []; into = None }

abbrev added : Line
added = record { action = Compute (Register Add); args = 0 ∷ 0 ∷ []; into = Some 2 }

abbrev main : Lines
main = record { params = []; code = five ∷ call ∷ back ∷ [] }

abbrev main_in_line : Lines
main_in_line = record { params = []; code = five ∷ room ∷ added ∷ copy 2 1 ∷ back ∷ [] }

-- the lines in place of the call
lines_are : in_line 2 (0 ∷ []) (record { action = Compute (Register Add); args = 0 ∷ 0 ∷ []; into = Some 1 } ∷ []) 1 1 (back ∷ [])
    ≡ room ∷ added ∷ copy 2 1 ∷ back ∷ []
lines_are = refl

double_is_leaf : IsLeaf double (record { action = Compute (Register Add); args = 0 ∷ 0 ∷ []; into = Some 1 } ∷ []) 1
double_is_leaf = record {
  params = (refl, tt);
  code = refl;
  computing = ((refl, omega arith), tt);
  few = ((omega arith, tt), (((omega arith, (omega arith, tt)), omega arith), (((omega arith, tt), tt), tt)));
}

program_in_line : HasInLine (main ∷ double ∷ []) (main_in_line ∷ double ∷ [])
program_in_line = (
  (
    2,
    record {
      params = refl;
      below = (tt, ((tt, omega arith), (((omega arith, tt), omega arith), (((omega arith, tt), tt), tt))));
      least = λ most below. let last = below.1.1.0.1 in omega (arith, last);
      code = inl (_, (refl, inr (called, (_, (refl, inl (_, (refl, refl)))))));
    },
  ),
  (
    (
      2,
      record {
        params = refl;
        below = ((omega arith, tt), (((omega arith, (omega arith, tt)), omega arith), (((omega arith, tt), tt), tt)));
        least = λ most below. let last = below.1.0.1 in omega (arith, last);
        code = inl (_, (refl, inl (_, (refl, refl))));
      },
    ),
    tt,
  ),
)
  where
    called : IsLeafCall (main ∷ double ∷ []) 2 call
    called = record {
      function = 1;
      into = 1;
      leaf = double;
      body = record { action = Compute (Register Add); args = 0 ∷ 0 ∷ []; into = Some 1 } ∷ [];
      value = 1;
      calls = refl;
      gives = refl;
      leaf_is = refl;
      is_leaf = double_is_leaf;
      passes = refl;
      fits = omega arith;
    }

-- the line behind the call
line_behind : line_in_line (main ∷ double ∷ []) (main_in_line ∷ double ∷ []) 0 2 ≡ 4
line_behind = refl
