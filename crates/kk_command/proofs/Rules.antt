-- What the arguments of the line and its command are for clap, setting by setting.
use Rattle.std.proofs.Common.{◌≡◌, ℕ, true, Some, ap, codes, ◌∙◌, subst}
use Rattle.std.specs.Prelude.{Result, Ok, Err, IfOk, IsOkAnd}
use Rattle.std.specs.Borrow.{Bor}
use Rattle.clap.specs.Words.{App, Rule, Text, app_of, rule_of, with_rule, with_subcommand}
use Rattle.clap.specs.Simple.{app_of_fields}
use Rattle.clap.specs.declared.builder.action.ArgAction.{ArgAction}
use Rattle.clap.specs.declared.builder.arg.Arg.{Arg}
use Rattle.clap.specs.declared.builder.command.Command.{Command}
use Rattle.clap.specs.declared.builder.command.Command.TheViews.{out-Command as fields_of}
use Rattle.kk_command.specs.Requests.{optional, with_sizes}

module _ (before after : Arg) (rule : Rule) (is : rule_of before ≡ rule) where
  pub now_required : after ≡ record before { required = true } → rule_of after ≡ record rule { required = true }
  now_required set = ap rule_of set ∙ ap (λ (r : Rule). record r { required = true }) is

  pub now_short : (name : ℕ) → after ≡ record before { short = Some name } → rule_of after ≡ record rule { short = Some name }
  now_short name set = ap rule_of set ∙ ap (λ (r : Rule). record r { short = Some name }) is

  pub now_long : (name : Bor Text) → after ≡ record before { long = Some name } → rule_of after ≡ record rule { long = Some name.now }
  now_long name set = ap rule_of set ∙ ap (λ (r : Rule). record r { long = Some name.now }) is

  pub now_acting : (action : ArgAction) → after ≡ record before { action = Some action } → rule_of after ≡ record rule { action = Some action }
  now_acting action set = ap rule_of set ∙ ap (λ (r : Rule). record r { action = Some action }) is

module _ (before after : Command) (app : App) (is : app_of before ≡ app) where
  pub without_help : fields_of after ≡ record (fields_of before) { disable_help_flag = true } → app_of after ≡ record app { top = record app.top { disable_help_flag = true } }
  without_help set = ap app_of_fields set ∙ ap (λ (a : App). record a { top = record a.top { disable_help_flag = true } }) is

  pub without_help_command : fields_of after ≡ record (fields_of before) { disable_help_subcommand = true } → app_of after ≡ record app { top = record app.top { disable_help_subcommand = true } }
  without_help_command set = ap app_of_fields set ∙ ap (λ (a : App). record a { top = record a.top { disable_help_subcommand = true } }) is

  pub with_command : fields_of after ≡ record (fields_of before) { subcommand_required = true } → app_of after ≡ record app { top = record app.top { subcommand_required = true } }
  with_command set = ap app_of_fields set ∙ ap (λ (a : App). record a { top = record a.top { subcommand_required = true } }) is

-- what is made for clap, if there is memory for it, is this
abbrev pub IsLike : {E : Type 0} → Result Command E → App → Type 0
IsLike made app = IfOk made (λ c. app_of c ≡ app)

-- what a step makes of a command, and so of its line
pub with_step : {E : Type 0} (command result : Result Command E) (change : App → App) (app : App)
    → IfOk result (λ r. IsOkAnd command (λ c. app_of r ≡ change (app_of c))) → IsLike command app → IsLike result (change app)
with_step command (Err e) change app made one = tt
with_step (Err e) (Ok r) change app made one = absurd made
with_step (Ok c) (Ok r) change app made one = made ∙ ap change one

-- a command of a line and an argument of a rule, and the command with the argument
pub with_argument : {E : Type 0} (command result : Result Command E) (argument : Arg) (app : App) (rule : Rule)
    → IfOk result (λ r. IsOkAnd command (λ c. app_of r ≡ with_rule (app_of c) (rule_of argument)))
    → IsLike command app → rule_of argument ≡ rule → IsLike result (with_rule app rule)
with_argument command result argument app rule added one other =
    subst (λ (r : Rule). IsLike result (with_rule app r)) other (with_step command result (λ a. with_rule a (rule_of argument)) app added one)

-- a command, and the command with the arguments of the sizes, one added after the other
pub with_both_sizes : {E : Type 0} (command first result : Result Command E) (cells depth : Arg)
    → IfOk first (λ r. IsOkAnd command (λ c. app_of r ≡ with_rule (app_of c) (rule_of cells)))
    → IfOk result (λ r. IsOkAnd first (λ c. app_of r ≡ with_rule (app_of c) (rule_of depth)))
    → rule_of cells ≡ optional (codes "cells") → rule_of depth ≡ optional (codes "depth")
    → IfOk result (λ r. IsOkAnd command (λ c. app_of r ≡ with_sizes (app_of c)))
with_both_sizes command first (Err e) cells depth one other are_cells are_depth = tt
with_both_sizes command (Err e) (Ok r) cells depth one other are_cells are_depth = absurd other
with_both_sizes (Err e) (Ok f) (Ok r) cells depth one other are_cells are_depth = absurd one
with_both_sizes (Ok c) (Ok f) (Ok r) cells depth one other are_cells are_depth =
    let first = one ∙ ap (λ (rule : Rule). with_rule (app_of c) rule) are_cells in
    other ∙ (ap (λ a. with_rule a (rule_of depth)) first ∙ ap (λ (rule : Rule). with_rule (with_rule (app_of c) (optional (codes "cells"))) rule) are_depth)

-- a program and a command of these lines, and the program with the command
pub with_line : {E : Type 0} (program command result : Result Command E) (app line : App)
    → IfOk result (λ r. IsOkAnd program (λ p. IsOkAnd command (λ c. app_of r ≡ with_subcommand (app_of p) (app_of c).top)))
    → IsLike program app → IsLike command line → IsLike result (with_subcommand app line.top)
with_line program command (Err e) app line added one other = tt
with_line (Err e) command (Ok r) app line added one other = absurd added
with_line (Ok p) (Err e) (Ok r) app line added one other = absurd added
with_line (Ok p) (Ok c) (Ok r) app line added one other =
    added ∙ (ap (λ a. with_subcommand a (app_of c).top) one ∙ ap (λ (a : App). with_subcommand app a.top) other)
