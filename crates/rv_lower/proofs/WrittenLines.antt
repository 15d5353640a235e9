-- What was written one after the other is written in all.
use Rattle.std.proofs.Common.{◌≡◌, ℕ, List, [], ◌∷◌, ◌++◌, Some, sym, ap, subst, ◌∙◌, arith, append_assoc}
use Rattle.kk_syntax.specs.declared.operator.UnaryOperator.{UnaryOperator}
use Rattle.kk_syntax.specs.declared.operator.UnaryOperator.TheVariants.{Not}
use Rattle.kk_syntax.specs.declared.program.Form.TheVariants.{Unary, PrintText}
use Rattle.rv_isa.specs.declared.immediate.Immediate.{Immediate}
use Rattle.rv_isa.specs.declared.asm.Operation.TheVariants as Op
use Rattle.rv_isa.specs.declared.asm.ImmediateOperation.TheVariants as OfImmediate
use Rattle.rv_isa.specs.AsmCode.{Line}
use Rattle.rv_isa.specs.Frames.{only_of}
use Rattle.rv_lower.specs.declared.lowering.Lowering.{Lowering}
use Rattle.kk_syntax.specs.declared.operator.PrintForm.{PrintForm}
use Rattle.kk_source.specs.FormEffects.{piece_of}
use Rattle.kk_syntax.specs.Programs.{text_at}
use Rattle.rv_lower.specs.Lines.{computes, sets, unit_word, PrintLines, AppliedLines}
use Rattle.rv_lower.proofs.WellFormedness.{none_some}
use Rattle.rv_lower.specs.Written.{lines_written, texts_written, Wrote, WrotePrint, WroteForm}

pub wrote_then : {first second : List Line} {a b c : Lowering} → Wrote first a b → Wrote second b c → Wrote (first ++ second) a c
wrote_then {first} {second} {a} {b} {c} wrote more = record {
  code = more.code ∙ ap (λ (lines : List Line). lines ++ second) wrote.code ∙ append_assoc (lines_written a) first second;
  texts = more.texts ∙ wrote.texts;
  base = more.base ∙ wrote.base;
  label = more.label ∙ wrote.label;
}

pub one_same : {a b : Line} → a ≡ b → a ∷ [] ≡ b ∷ []
one_same same = ap (λ (x : Line). x ∷ []) same

pub two_same : {a b c d : Line} → a ≡ b → c ≡ d → a ∷ c ∷ [] ≡ b ∷ d ∷ []
two_same {a} {b} {c} {d} same other = ap (λ (x : Line). x ∷ c ∷ []) same ∙ ap (λ (y : Line). b ∷ y ∷ []) other

pub is_only : (args : List ℕ) (v : ℕ) → only_of args ≡ Some v → args ≡ v ∷ []
is_only [] v is = absurd (none_some is)
is_only (a ∷ []) v is = let same : a ≡ v = grind (arith, is) in ap (λ (x : ℕ). x ∷ []) same
is_only (a ∷ b ∷ more) v is = absurd (none_some is)

-- the line of `!`
pub not_lines : (base x v : ℕ) (operator : UnaryOperator) (args : List ℕ) (two : Immediate) (lines : List Line) → only_of args ≡ Some v → operator ≡ Not → two.word ≡ 2
    → lines ≡ computes (Op.Immediate OfImmediate.Xori two) (v ∷ []) x ∷ [] → AppliedLines base x (Unary operator) args lines
not_lines base x v operator args two lines only is word are =
    subst (λ (of : UnaryOperator). AppliedLines base x (Unary of) args lines) (sym is) (subst (λ (of : List ℕ). AppliedLines base x (Unary Not) of lines) (sym (is_only args v only)) (two, word, are))

-- a print of constant bytes, and the value of its form
pub print_lines : {literals : List (List ℕ)} {x text : ℕ} {how : PrintForm} {arguments bytes : List ℕ} {line : Line} {a b c : Lowering}
    → bytes ≡ piece_of how (text_at literals text) → WrotePrint bytes a b → Wrote (line ∷ []) b c → line ≡ sets unit_word x
    → WroteForm literals x (PrintText how text) arguments a c
print_lines {bytes = bytes} {line = line} {a = a} {b = b} {c = c} is printed wrote same = record {
  lines = printed.lines ++ (line ∷ []);
  grows = record {
    code = wrote.code ∙ ap (λ (lines : List Line). lines ++ (line ∷ [])) printed.grows.code ∙ append_assoc (lines_written a) printed.lines (line ∷ []);
    base = wrote.base ∙ printed.grows.base;
    more = printed.grows.more;
    texts = wrote.texts ∙ printed.grows.texts;
    few = printed.grows.few;
  };
  label = wrote.label ∙ printed.label;
  are = λ later. (
    printed.lines,
    subst (λ (bs : List ℕ). PrintLines a.base (texts_written c ++ later) bs printed.lines) is
        (subst (λ (texts : List (List ℕ)). PrintLines a.base (texts ++ later) bytes printed.lines) (sym wrote.texts) (printed.are later)),
    ap (λ (l : Line). printed.lines ++ (l ∷ [])) same,
  );
}
