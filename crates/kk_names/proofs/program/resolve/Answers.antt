use Rattle.std.proofs.Common.{List, map, None, sym, ap, ◌∙◌, subst}
use Rattle.std.proofs.lemmas.Result.{IfOk-weaker}
use Rattle.kk_syntax.specs.declared.program.Fun.{Fun}
use Rattle.kk_syntax.specs.declared.tree.Declaration.{Declaration}
use Rattle.kk_syntax.specs.Surface.{written_declaration}
use Rattle.kk_names.specs.Faults.{faults_of}
use Rattle.kk_names.specs.Methods.{first_with, parts_of}
use Rattle.kk_names.specs.Names.{parts_meant, KeepsDepth}
use Rattle.kk_names.proofs.FirstFaults.{none_is_kept}
use Rattle.kk_names.proofs.Mains.{fault_answers, main_answers, main_keeps}
use Rattle.kk_names.proofs.program.resolve.Goals as goal

pub returns-in-Some-clause-resolved : goal.returns-in-Some-clause-resolved
returns-in-Some-clause-resolved c =
    let kept = c.in-Ok.ensures.fault ∙ ap (λ ds. first_with None (faults_of (map written_declaration ds))) c.as_slice.ensures.value in
    fault_answers c.args.tree c.in-Some.fault c.error.result c.error.ensures (sym kept ∙ c.in-Some.is)

pub returns-clause-resolved : goal.returns-clause-resolved
returns-clause-resolved c =
    let ds = map written_declaration c.args.tree.declarations.items in
    let parts = c.in-Ok.ensures.parts ∙ ap (λ ds. parts_meant (map written_declaration ds)) c.as_slice.ensures.value in
    let kept = c.in-Ok.ensures.fault ∙ ap (λ ds. first_with None (faults_of (map written_declaration ds))) c.as_slice.ensures.value in
    main_answers c.args.tree (parts_of c.in-Ok.resolved.parts) parts (none_is_kept (faults_of ds) (sym kept ∙ c.in-None.is)) c.with_main.result c.with_main.ensures.answers

pub returns-clause-keeps_nodes : goal.returns-clause-keeps_nodes
returns-clause-keeps_nodes c =
    let ds = map written_declaration c.args.tree.declarations.items in
    let parts = c.in-Ok.ensures.parts ∙ ap (λ ds. parts_meant (map written_declaration ds)) c.as_slice.ensures.value in
    let kept = c.in-Ok.ensures.fault ∙ ap (λ ds. first_with None (faults_of (map written_declaration ds))) c.as_slice.ensures.value in
    main_keeps c.args.tree (parts_of c.in-Ok.resolved.parts) parts (none_is_kept (faults_of ds) (sym kept ∙ c.in-None.is)) c.with_main.result c.with_main.ensures.answers

pub returns-clause-keeps_depth : goal.returns-clause-keeps_depth
returns-clause-keeps_depth c =
    let kept = subst (λ (ds : List Declaration). KeepsDepth ds c.in-Ok.resolved.parts.functions.items) c.as_slice.ensures.value c.in-Ok.ensures.depth in
    IfOk-weaker c.with_main.result _ _ (λ program is. subst (λ (fs : List Fun). KeepsDepth c.args.tree.declarations.items fs) (sym is) kept) c.with_main.ensures.functions
