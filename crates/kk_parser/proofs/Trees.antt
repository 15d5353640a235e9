-- What the trees that are made stand for.
use Rattle.std.proofs.Common.{◌≡◌, ℕ, ℤ, List, Some, None, Result, Ok, Err, map, ap, sym, ◌∙◌}
use Rattle.std.specs.Global.{Box}
use Rattle.kk_syntax.specs.declared.operator.PrintForm.{PrintForm}
use Rattle.kk_syntax.specs.declared.tree.Identifier.{Identifier}
use Rattle.kk_syntax.specs.declared.tree.SurfaceExpr.{SurfaceExpr}
use Rattle.kk_syntax.specs.declared.tree.SurfaceExpr.TheVariants.{Number, rolls-Number, Unit, rolls-Unit, Variable, rolls-Variable, PrintText, rolls-PrintText, Call, rolls-Call, DotCall, rolls-DotCall, Construct, rolls-Construct, Block, rolls-Block, If, rolls-If, Unary, rolls-Unary, Binary, rolls-Binary, And, rolls-And, Or, rolls-Or, Match, rolls-Match}
use Rattle.kk_syntax.specs.declared.tree.SurfaceExpr.TheFolds.{fold-roll-SurfaceExpr, fold_out-SurfaceRow, fold_out-SurfaceStatement}
use Rattle.kk_syntax.specs.declared.tree.SurfacePattern.{SurfacePattern}
use Rattle.kk_syntax.specs.declared.tree.SurfacePattern.TheVariants as OfPattern
use Rattle.kk_syntax.specs.declared.tree.SurfacePattern.TheFolds.{fold-roll-SurfacePattern}
use Rattle.kk_syntax.specs.declared.tree.SurfaceRow.{SurfaceRow}
use Rattle.kk_syntax.specs.declared.tree.SurfaceStatement.{SurfaceStatement}
use Rattle.kk_syntax.specs.Surface.{Written, WrittenRow, WrittenStatement, expr_step, row_step, statement_step, written_expr, written_statement, number, unit, variable, print_text, call, dot_call, construct, branch, branch_alone, writtens_of, block_of, unary, binary, both, either, match, rows_of, written_row, WrittenPattern, anything, pattern_variable, exactly, constructor, patterns_of, pattern_step, written_pattern}
use Rattle.kk_parser.specs.declared.fault.Fault.{Fault}
use Rattle.kk_parser.specs.Methods.{Makes}
use Rattle.kk_parser.specs.Views.{boxed_expr, boxed_pattern}

pub written-Number : (value : ℤ) → written_expr (Number value) ≡ number value
written-Number value = ap written_expr (sym (rolls-Number value)) ∙ fold-roll-SurfaceExpr Written WrittenRow WrittenStatement expr_step row_step statement_step _

pub written-Unit : written_expr Unit ≡ unit
written-Unit = ap written_expr (sym rolls-Unit) ∙ fold-roll-SurfaceExpr Written WrittenRow WrittenStatement expr_step row_step statement_step _

pub written-Variable : (name : Identifier) → written_expr (Variable name) ≡ variable name
written-Variable name = ap written_expr (sym (rolls-Variable name)) ∙ fold-roll-SurfaceExpr Written WrittenRow WrittenStatement expr_step row_step statement_step _

pub written-PrintText : (form : PrintForm) (text : List ℕ) → written_expr (PrintText form text) ≡ print_text form text
written-PrintText form text = ap written_expr (sym (rolls-PrintText form text)) ∙ fold-roll-SurfaceExpr Written WrittenRow WrittenStatement expr_step row_step statement_step _

pub written-Call : (name : Identifier) (arguments : _) → written_expr (Call name arguments) ≡ call name (writtens_of (map written_expr arguments.items))
written-Call name arguments = ap written_expr (sym (rolls-Call name arguments)) ∙ fold-roll-SurfaceExpr Written WrittenRow WrittenStatement expr_step row_step statement_step _

pub written-DotCall : (first : _) (name : Identifier) (others : _) → written_expr (DotCall first name others) ≡ dot_call (written_expr first.value) name (writtens_of (map written_expr others.items))
written-DotCall first name others = ap written_expr (sym (rolls-DotCall first name others)) ∙ fold-roll-SurfaceExpr Written WrittenRow WrittenStatement expr_step row_step statement_step _

pub written-Construct : (name : Identifier) (arguments : _) → written_expr (Construct name arguments) ≡ construct name (writtens_of (map written_expr arguments.items))
written-Construct name arguments = ap written_expr (sym (rolls-Construct name arguments)) ∙ fold-roll-SurfaceExpr Written WrittenRow WrittenStatement expr_step row_step statement_step _

pub written-Block : (ss : _) (e : _) → written_expr (Block ss e) ≡ block_of (map written_statement ss.items) (written_expr e.value)
written-Block ss e = ap written_expr (sym (rolls-Block ss e)) ∙ fold-roll-SurfaceExpr Written WrittenRow WrittenStatement expr_step row_step statement_step _

pub written-If : (condition positive negative : _) → written_expr (If condition positive (Some negative)) ≡ branch (written_expr condition.value) (written_expr positive.value) (written_expr negative.value)
written-If condition positive negative = ap written_expr (sym (rolls-If condition positive (Some negative))) ∙ fold-roll-SurfaceExpr Written WrittenRow WrittenStatement expr_step row_step statement_step _

pub written-If_alone : (condition positive : _) → written_expr (If condition positive None) ≡ branch_alone (written_expr condition.value) (written_expr positive.value)
written-If_alone condition positive = ap written_expr (sym (rolls-If condition positive None)) ∙ fold-roll-SurfaceExpr Written WrittenRow WrittenStatement expr_step row_step statement_step _

pub written-statement : (s : SurfaceStatement) → written_statement s ≡ record { binder = s.binder; value = written_expr s.value }
written-statement s = fold_out-SurfaceStatement Written WrittenRow WrittenStatement expr_step row_step statement_step s

pub written-Unary : (operator : _) (operand : _) → written_expr (Unary operator operand) ≡ unary operator (written_expr operand.value)
written-Unary operator operand = ap written_expr (sym (rolls-Unary operator operand)) ∙ fold-roll-SurfaceExpr Written WrittenRow WrittenStatement expr_step row_step statement_step _

pub written-Binary : (operator : _) (left right : _) → written_expr (Binary operator left right) ≡ binary operator (written_expr left.value) (written_expr right.value)
written-Binary operator left right = ap written_expr (sym (rolls-Binary operator left right)) ∙ fold-roll-SurfaceExpr Written WrittenRow WrittenStatement expr_step row_step statement_step _

pub written-And : (left right : _) → written_expr (And left right) ≡ both (written_expr left.value) (written_expr right.value)
written-And left right = ap written_expr (sym (rolls-And left right)) ∙ fold-roll-SurfaceExpr Written WrittenRow WrittenStatement expr_step row_step statement_step _

pub written-Or : (left right : _) → written_expr (Or left right) ≡ either (written_expr left.value) (written_expr right.value)
written-Or left right = ap written_expr (sym (rolls-Or left right)) ∙ fold-roll-SurfaceExpr Written WrittenRow WrittenStatement expr_step row_step statement_step _

pub written-Match : (scrutinee rows : _) → written_expr (Match scrutinee rows) ≡ match (written_expr scrutinee.value) (rows_of (map written_row rows.items))
written-Match scrutinee rows = ap written_expr (sym (rolls-Match scrutinee rows)) ∙ fold-roll-SurfaceExpr Written WrittenRow WrittenStatement expr_step row_step statement_step _

pub written-row : (r : SurfaceRow) → written_row r ≡ record { pattern = written_pattern r.pattern; body = written_expr r.body }
written-row r = fold_out-SurfaceRow Written WrittenRow WrittenStatement expr_step row_step statement_step r

pub written-anything : written_pattern OfPattern.Wildcard ≡ anything
written-anything = ap written_pattern (sym OfPattern.rolls-Wildcard) ∙ fold-roll-SurfacePattern WrittenPattern pattern_step _

pub written-pattern_variable : (name : Identifier) → written_pattern (OfPattern.Variable name) ≡ pattern_variable name
written-pattern_variable name = ap written_pattern (sym (OfPattern.rolls-Variable name)) ∙ fold-roll-SurfacePattern WrittenPattern pattern_step _

pub written-exactly : (value : ℤ) → written_pattern (OfPattern.Number value) ≡ exactly value
written-exactly value = ap written_pattern (sym (OfPattern.rolls-Number value)) ∙ fold-roll-SurfacePattern WrittenPattern pattern_step _

pub written-constructor : (name : Identifier) (parts : _) → written_pattern (OfPattern.Constructor name parts) ≡ constructor name (patterns_of (map written_pattern parts.items))
written-constructor name parts = ap written_pattern (sym (OfPattern.rolls-Constructor name parts)) ∙ fold-roll-SurfacePattern WrittenPattern pattern_step _

-- a pattern was put in a box
pub pattern_in_box : (r : Result (Box SurfacePattern) Fault) (p : SurfacePattern) (w : WrittenPattern) → Makes (λ b. b.value) p r → written_pattern p ≡ w → Makes boxed_pattern w r
pattern_in_box (Ok b) p w h d = ap written_pattern h ∙ d
pattern_in_box (Err y) p w h d = h

-- an expression was put in a box
pub in_box : (r : Result (Box SurfaceExpr) Fault) (e : SurfaceExpr) (w : Written) → Makes (λ b. b.value) e r → written_expr e ≡ w → Makes boxed_expr w r
in_box (Ok b) e w h d = ap written_expr h ∙ d
in_box (Err y) e w h d = h
