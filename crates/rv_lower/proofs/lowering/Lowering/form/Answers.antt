use Rattle.std.proofs.Common.{ap, sym, subst}
use Rattle.std.proofs.lemmas.Result.{on_ok_weaker}
use Rattle.kk_syntax.specs.declared.program.Form.{Form}
use Rattle.kk_source.specs.FormEffects.{piece_of}
use Rattle.rv_lower.specs.Written.{WroteForm}
use Rattle.rv_lower.proofs.WrittenLines.{print_lines}
use Rattle.rv_lower.proofs.lowering.Lowering.form.Goals as goal

pub returns-in_ok-print_text-in-PrintText : goal.returns-in_ok-print_text-in-PrintText
returns-in_ok-print_text-in-PrintText c =
    on_ok_weaker c.write-in-PrintText.result
    (λ wrote. subst (λ (f : Form). WroteForm c.args.literals.now c.args.into f c.args.arguments.now c.args.self.now c.write-in-PrintText.new.self)
    (sym c.in-PrintText.is)
    (print_lines (ap (piece_of c.in-PrintText.form) c.literal.ensures.bytes) c.in_ok-print_text-in-PrintText.ensures wrote c.set-in-PrintText.ensures))
    c.write-in-PrintText.ensures
