use Rattle.std.proofs.Common.{◌≡◌, [], ◌∷◌, ◌++◌, sym, ◌∙◌, ap, cond, Vec, Global}
use Rattle.std.proofs.lemmas.Bool.{cond-false}
use Rattle.rv_isa.specs.declared.asm.Action.{Action}
use Rattle.rv_isa.specs.AsmMachine.{is_label}
use Rattle.rv_propose.specs.declared.liveness.LabelPoint.{LabelPoint}
use Rattle.rv_propose.specs.Tables.{last_at}
use Rattle.rv_propose.proofs.LabelTables.{last_at_put, no_label}
use Rattle.rv_propose.proofs.liveness.with_point.Goals as goal
use Rattle.rv_propose.proofs.liveness.with_point.Goals.{in-Label+in_ok-push, in_default}

pub returns : goal.returns
returns c =
    λ l. elim c.match-action.branch [
      | in-Label+in_ok-push w ↦
          let point : LabelPoint = record { label = w.in-Label.label; alive = c.args.alive } in
          let pushed : c.match-action.points.items ≡ c.args.points.items ++ (point ∷ []) = ap (λ (v : Vec LabelPoint Global). v.items) w.points-is ∙ w.in_ok-push.ensures.items in
          ap (last_at l []) pushed ∙ last_at_put l [] c.args.points.items point
          ∙ ap (λ (action : Action). cond (is_label l action) c.args.alive.items (last_at l [] c.args.points.items)) (sym w.in-Label.is)
      | in_default w ↦
          ap (λ (v : Vec LabelPoint Global). last_at l [] v.items) w.points-is
          ∙ sym (cond-false (is_label l c.args.action) c.args.alive.items (last_at l [] c.args.points.items) (no_label l c.args.action w.in_default.not-Label))
    ]
