use Rattle.std.proofs.Common.{None, Some, ap, false, refl, sym, true, ◌∙◌}
use Rattle.kk_counted.proofs.TokenedViews.{return_end}
use Rattle.kk_counted.specs.BareForms.{bare}
use Rattle.kk_counted.specs.TokenedForms.{tokened_last_code}
use Rattle.kk_emitter.proofs.DraftChanges.{ended_at, on_ok}
use Rattle.kk_emitter.proofs.work.Work.end_arm_by_value.Goals as goal

pub returns-in-None-clause-ok : goal.returns-in-None-clause-ok
returns-in-None-clause-ok c =
    on_ok c.end_arm.result _ _ (λ becomes positions counts marks. ended_at positions counts marks c.args.self.now c.end_arm.new.self c.replace.new.dest None _ false c.args.variable
    (becomes positions counts marks) (sym c.replace.ensures.value ∙ c.in-None.is) (ap bare (return_end c.args.variable)) refl) c.end_arm.ensures.ok

pub returns-in-Some-clause-ok : goal.returns-in-Some-clause-ok
returns-in-Some-clause-ok c =
    on_ok c.end_arm-in-Some.result _ _ (λ becomes positions counts marks. ended_at positions counts marks c.args.self.now c.end_arm-in-Some.new.self c.replace.new.dest (Some c.in-Some.last) (bare (tokened_last_code c.in-Some.last)) true c.args.variable
    (becomes positions counts marks) (sym c.replace.ensures.value ∙ c.in-Some.is) refl refl) c.end_arm-in-Some.ensures.ok
