-- What steps that are pushed add to a code, and what the code of each form is.
use Rattle.std.proofs.Common.{◌≡◌, ℕ, ◌+◌, ◌==◌, List, [], ◌∷◌, ◌++◌, map, refl, sym, ap, subst, ◌∙◌, arith}
use Rattle.std.specs.Global.{Vec}
use Rattle.std.specs.Prelude.{if◌then◌else◌}
use Rattle.std.proofs.lemmas.List.{map-append}
use Rattle.kk_syntax.specs.declared.program.Form.{Form}
use Rattle.kk_syntax.specs.Patterns.{Pattern, pattern_tree}
use Rattle.kk_core.specs.Codes.{Code, give, tail_call, Piece, case, computes, uses, unpacks, runs, put, plug, ArmCode, arms_of, arm_code, last_step, step_step, arm_step, block_step, block_code, last_code, step_piece}
use Rattle.kk_core.specs.Decisions.{NodeTree, node_tree}
use Rattle.kk_core.specs.declared.decisions.Decisions.{Decisions}
use Rattle.kk_core.specs.Truths.{true_pattern, false_pattern, truth_decisions, truth_case}
use Rattle.kk_core.specs.declared.form.Arm.{Arm}
use Rattle.kk_core.specs.declared.form.Block.{Block}
use Rattle.kk_core.specs.declared.form.Last.TheVariants as OfLast
use Rattle.kk_core.specs.declared.form.Last.TheFolds.{fold-roll-Last, fold-roll-Step, fold_out-Block, fold_out-Arm}
use Rattle.kk_core.specs.declared.form.Step.{Step}
use Rattle.kk_core.specs.declared.form.Step.TheVariants as OfStep
use Rattle.kk_norm.specs.declared.naming.Named.{Named}
use Rattle.kk_norm.specs.declared.writer.Writer.{Writer}
use Rattle.kk_norm.specs.Names.{Names, name_of}
use Rattle.kk_norm.specs.Written.{names_before, names_of, behind, WritesPiece, WritesStep}
use Rattle.kk_norm.proofs.Variables.{same_number, other_number}

-- ---- names

pub names_one_more : (older : Names) (names : List Named) (one : Named)
    → names_before older (names ++ one ∷ []) ≡ record { variable = one.variable; name = one.name } ∷ names_before older names
names_one_more older [] one = refl
names_one_more older (first ∷ names) one =
    names_one_more (record { variable = first.variable; name = first.name } ∷ older) names one

-- the name of a variable with one more name given
pub name_here : (names : List Named) (one : Named) (x : ℕ) → one.variable ≡ x → one.name ≡ name_of (names_of (names ++ one ∷ [])) x
name_here names one x is =
    sym (ap (λ all. name_of all x) (names_one_more [] names one)
    ∙ ap (λ b. if b then one.name else name_of (names_of names) x) (ap (λ y. y == x) is ∙ same_number x))

pub name_elsewhere : (names : List Named) (one : Named) (x : ℕ) → (one.variable ≡ x → ⊥)
    → name_of (names_of names) x ≡ name_of (names_of (names ++ one ∷ [])) x
name_elsewhere names one x other =
    sym (ap (λ all. name_of all x) (names_one_more [] names one)
    ∙ ap (λ b. if b then one.name else name_of (names_of names) x) (other_number one.variable x other))

-- ---- steps

plug_one_more : (pieces : List Piece) (piece : Piece) (rest : Code)
    → plug (pieces ++ piece ∷ []) rest ≡ plug pieces (put piece rest)
plug_one_more [] piece rest = refl
plug_one_more (first ∷ pieces) piece rest = ap (put first) (plug_one_more pieces piece rest)

pub steps_one_more : (steps more : List Step) (step : Step) (rest : Code) → more ≡ steps ++ step ∷ []
    → plug (map step_piece more) rest ≡ plug (map step_piece steps) (put (step_piece step) rest)
steps_one_more steps more step rest is =
    ap (λ all. plug (map step_piece all) rest) is
    ∙ (ap (λ pieces. plug pieces rest) (map-append step_piece steps (step ∷ []))
    ∙ plug_one_more (map step_piece steps) (step_piece step) rest)

pub let_piece : (x : ℕ) (form : Form) (arguments : _) → step_piece (OfStep.Let x form arguments) ≡ computes x form arguments.items
let_piece x form arguments =
    ap step_piece (sym (OfStep.rolls-Let x form arguments))
    ∙ fold-roll-Step Code Piece ArmCode Code last_step step_step arm_step block_step _

pub use_piece : (x : ℕ) → step_piece (OfStep.Use x) ≡ uses x
use_piece x = ap step_piece (sym (OfStep.rolls-Use x))
    ∙ fold-roll-Step Code Piece ArmCode Code last_step step_step arm_step block_step _

pub open_piece : (x c : ℕ) (fields : _) → step_piece (OfStep.Open x c fields) ≡ unpacks x c fields.items
open_piece x c fields =
    ap step_piece (sym (OfStep.rolls-Open x c fields))
    ∙ fold-roll-Step Code Piece ArmCode Code last_step step_step arm_step block_step _

pub inside_piece : (x : ℕ) (block : Block) → step_piece (OfStep.Inside x block) ≡ runs x (block_code block)
inside_piece x block =
    ap step_piece (sym (OfStep.rolls-Inside x block))
    ∙ fold-roll-Step Code Piece ArmCode Code last_step step_step arm_step block_step _

pub block_is : (block : Block) → block_code block ≡ plug (map step_piece block.steps.items) (last_code block.last)
block_is block = fold_out-Block Code Piece ArmCode Code last_step step_step arm_step block_step block

-- ---- ends

pub return_code : (x : ℕ) → last_code (OfLast.Return x) ≡ give x
return_code x = ap last_code (sym (OfLast.rolls-Return x))
    ∙ fold-roll-Last Code Piece ArmCode Code last_step step_step arm_step block_step _

pub tail_call_code : (f : ℕ) (arguments : _) → last_code (OfLast.TailCall f arguments) ≡ tail_call f arguments.items
tail_call_code f arguments =
    ap last_code (sym (OfLast.rolls-TailCall f arguments))
    ∙ fold-roll-Last Code Piece ArmCode Code last_step step_step arm_step block_step _

pub case_code : (x : ℕ) (decisions : _) (arms : _) → last_code (OfLast.Case x decisions arms) ≡ case x
    (map node_tree decisions.nodes.items) (arms_of (map arm_code arms.items))
case_code x decisions arms =
    ap last_code (sym (OfLast.rolls-Case x decisions arms))
    ∙ fold-roll-Last Code Piece ArmCode Code last_step step_step arm_step block_step _

pub arm_is : (arm : Arm) → arm_code arm ≡ record { pattern = pattern_tree arm.pattern; body = block_code arm.body }
arm_is arm = fold_out-Arm Code Piece ArmCode Code last_step step_step arm_step block_step arm

-- the case of a truth, of two arms
pub truth_code : (x : ℕ) (decisions : Decisions) (arms : Vec Arm) (first second : Arm) (positive negative : Code)
    → map node_tree decisions.nodes.items ≡ truth_decisions → arms.items ≡ first ∷ second ∷ []
    → arm_code first ≡ record { pattern = true_pattern; body = positive }
    → arm_code second ≡ record { pattern = false_pattern; body = negative }
    → last_code (OfLast.Case x decisions arms) ≡ truth_case x positive negative
truth_code x decisions arms first second positive negative decided are one two =
    case_code x decisions arms
    ∙ (ap (λ (nodes : List NodeTree). case x nodes (arms_of (map arm_code arms.items))) decided
    ∙ (ap (λ (items : List Arm). case x truth_decisions (arms_of (map arm_code items))) are
    ∙ (ap (λ (a : ArmCode). case x truth_decisions (arms_of (a ∷ arm_code second ∷ []))) one
    ∙ ap (λ (a : ArmCode). case x truth_decisions (arms_of (record { pattern = true_pattern; body = positive } ∷ a ∷ []))) two)))

-- one more arm is pushed
pub arms_pushed : (before after : List Arm) (one : Arm) (pattern : Pattern) → after ≡ before ++ one ∷ []
    → pattern_tree one.pattern ≡ pattern
    → map arm_code after ≡ map arm_code before ++ record { pattern = pattern; body = block_code one.body } ∷ []
arms_pushed before after one pattern grown is =
    ap (map arm_code) grown
    ∙ (map-append arm_code before (one ∷ [])
    ∙ (ap (λ a. map arm_code before ++ a ∷ []) (arm_is one)
    ∙ ap (λ (p : Pattern). map arm_code before ++ record { pattern = p; body = block_code one.body } ∷ []) is))

-- ---- what is written, from what was pushed

pub writes_piece : (old new : Writer) (pushed piece : Piece) → pushed ≡ piece → WritesPiece pushed old new
    → WritesPiece piece old new
writes_piece old new pushed piece is writes = subst (λ (one : Piece). WritesPiece one old new) is writes

pub writes_step : (old pushed new : Writer) (step piece : Piece) → WritesPiece step old pushed → step ≡ piece
    → new.next ≡ pushed.next + 1 → new.names.items ≡ pushed.names.items → new.steps.items ≡ pushed.steps.items
    → WritesStep piece old new old.next
writes_step old pushed new step piece writes is number names steps =
    record {
      is = refl;
      number = omega (arith, number, writes.number);
      names = names ∙ writes.names;
      steps = λ rest. ap (λ all. plug (map step_piece all) rest) steps
          ∙ (writes.steps rest ∙ ap (λ one. behind old (put one rest)) is);
    }
