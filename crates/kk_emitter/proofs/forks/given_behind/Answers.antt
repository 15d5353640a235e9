use Rattle.std.proofs.Common.{◌∷◌, ◌++◌, [], None, map, refl, ap, ◌∙◌}
use Rattle.kk_counted.specs.TokenedCodes.{Tokened}
use Rattle.kk_counted.specs.TokenedForms.{plug_tokened, tokened_move}
use Rattle.kk_counted.proofs.TokenedViews.{return_end, step_pushed}
use Rattle.kk_emitter.proofs.ClosedTokens.{moves_closed}
use Rattle.kk_emitter.proofs.forks.given_behind.Goals as goal

pub returns-in-Ok : goal.returns-in-Ok
returns-in-Ok c =
    moves_closed c.pop.new.self.items c.args.steps.now.items c.in-Some.step c.args.variable _ c.in-Some.ensures.items c.in-Ok.ensures.branch

pub returns-in-Err : goal.returns-in-Err
returns-in-Err c =
    let front = c.pop.new.self.items in
    let steps = c.push_reserved.new.self.items in
    ap (plug_tokened (map tokened_move steps)) (return_end c.args.variable)
    ∙ (step_pushed front steps c.in-Some.step _ (c.push_reserved.ensures.items ∙ ap (λ step. front ++ step ∷ []) c.in-Err.ensures.kept) refl (Tokened.give c.args.variable)
    ∙ moves_closed front c.args.steps.now.items c.in-Some.step c.args.variable None c.in-Some.ensures.items c.in-Err.ensures.none)
