use Rattle.std.proofs.Common.{◌≡◌, ◌∷◌, [], ◌++◌, Some, None, map, sym, ◌∙◌, ap, subst, append_assoc, arith}
use Rattle.std.proofs.lemmas.List.{append-nil, map-append}
use Rattle.std.specs.Prelude.{All}
use Rattle.std.proofs.lemmas.List.Elements.{All-nil, All-cons}
use Rattle.kk_syntax.specs.declared.token.Symbol.TheVariants.{Semicolon}
use Rattle.kk_syntax.specs.Surface.{written_declaration}
use Rattle.kk_parser.specs.Depths.{BodyIsNoDeeper}
use Rattle.kk_parser.specs.Forms.{and_more, those_given}
use Rattle.kk_parser.specs.Kinds.{symbol}
use Rattle.kk_parser.specs.Methods.{Read}
use Rattle.kk_parser.specs.Phrases.{rule, program, decl, token, optional, ◌▸◌}
use Rattle.kk_parser.specs.Reading.{fails_rule, fails_front, fails_behind, fails_one, fails_presence, finds_rule, finds_both, finds_absence, finds_presence}
use Rattle.kk_parser.specs.Views.{boxed_declaration}
use Rattle.kk_parser.proofs.MemoryDepths.{one_more_under}
use Rattle.kk_parser.proofs.Steps.{Continues, continues_as, continues_many, ends_many, gives_up_in, symbol_read}
use Rattle.kk_parser.proofs.parser.Parser.program.Goals as goal

pub returns-then-not-is_at_declaration-clause-reads : goal.returns-then-not-is_at_declaration-clause-reads
returns-then-not-is_at_declaration-clause-reads c =
    let h = sym c.is_at_declaration.ensures ∙ c.if-not-is_at_declaration.true in
    subst (λ ds. Read (rule program) ds c.args.self.now c.skip_semicolons.new.self) (ap (map written_declaration) (sym c.new-declarations.ensures.items)) (finds_rule (finds_both c.skip_semicolons.ensures.reads.1 (finds_absence h)))

pub returns-in_err-first-clause-reads : goal.returns-in_err-first-clause-reads
returns-in_err-first-clause-reads c =
    let h = sym c.is_at_declaration.ensures ∙ c.if-not-is_at_declaration.false in
    gives_up_in (rule program) (rule decl) (λ ds. map written_declaration ds.items) c.from_residual.result c.in_err-first.field-0.0 c.args.self.now c.skip_semicolons.new.self c.declaration.new.self
    (λ f r. fails_rule (fails_behind c.skip_semicolons.ensures.reads.1 (fails_presence h (fails_front r)))) c.from_residual.ensures.1 c.in_err-first.ensures.reads

pub loop-self-init : goal.loop-self-init
loop-self-init c =
    let h = sym c.is_at_declaration.ensures ∙ c.if-not-is_at_declaration.false in
    let old = c.args.self.now in
    let new = c.declaration.new.self in
    let first = c.in_ok-first.first in
    let is = c.in_ok-put.ensures ∙ ap (λ ds. ds ++ c.into_inner.result ∷ []) c.new-declarations.ensures.items ∙ ap (λ d. d ∷ []) c.into_inner.ensures in
    let starts : Continues (rule program) (and_more (rule decl)) (λ more. boxed_declaration first ∷ those_given more) old new = record {
      found = λ v m us r. finds_rule (finds_both c.skip_semicolons.ensures.reads.1 (finds_presence h (finds_both c.in_ok-first.ensures.reads r)));
      failed = λ f r. fails_rule (fails_behind c.skip_semicolons.ensures.reads.1 (fails_presence h (fails_behind c.in_ok-first.ensures.reads r)));
    } in
    record {
      left = omega (arith, c.in_ok-first.ensures.left);
      read = subst (λ ds. Continues (rule program) (and_more (rule decl)) (λ more. map written_declaration ds ++ those_given more) old new) (sym is) starts;
      depth = subst (All BodyIsNoDeeper) (sym is) (All-cons BodyIsNoDeeper first.value [] c.in_ok-first.ensures.depth (All-nil BodyIsNoDeeper));
    }

pub returns-in_err-next-clause-reads : goal.returns-in_err-next-clause-reads
returns-in_err-next-clause-reads c =
    let h = sym c.is_at.ensures.value ∙ c.loop-self-test.true in
    let g = sym c.is_at_declaration-in-loop-self.ensures ∙ c.if-is_at_declaration.true in
    let semi = symbol_read Semicolon c.loop-self.self c.advance.new.self h c.advance.ensures.rest c.advance.ensures.depth in
    gives_up_in (rule program) (rule decl) (λ ds. map written_declaration ds.items) c.from_residual-in_err-next.result c.in_err-next.field-0.0 c.args.self.now c.advance.new.self c.declaration-then-is_at_declaration.new.self
    (λ f r. c.loop-self.invariant.read.failed f (fails_one h (fails_behind semi (fails_presence g r)))) c.from_residual-in_err-next.ensures.1 c.in_err-next.ensures.reads

pub loop-self-preserved-in-Continue-branch-4 : goal.loop-self-preserved-in-Continue-branch-4
loop-self-preserved-in-Continue-branch-4 c =
    let h = sym c.is_at.ensures.value ∙ c.loop-self-test.true in
    let g = sym c.is_at_declaration-in-loop-self.ensures ∙ c.if-is_at_declaration.true in
    let semi = symbol_read Semicolon c.loop-self.self c.advance.new.self h c.advance.ensures.rest c.advance.ensures.depth in
    let before = map written_declaration c.loop-self.declarations.items in
    let next = c.in_ok-next.next in
    let d = boxed_declaration next in
    let after = map written_declaration c.put-then-is_at_declaration.new.items.items in
    let is : after ≡ before ++ d ∷ [] = ap (map written_declaration) (c.in_ok-put-2.ensures ∙ ap (λ e. c.loop-self.declarations.items ++ e ∷ []) c.into_inner-then-is_at_declaration.ensures) ∙ map-append written_declaration c.loop-self.declarations.items (next.value ∷ []) in
    record {
      left = omega (arith, c.in_ok-next.ensures.left);
      read = continues_as (rule program) (and_more (rule decl)) (λ more. before ++ d ∷ those_given more) (λ more. after ++ those_given more) c.args.self.now c.declaration-then-is_at_declaration.new.self
          (λ more. sym (append_assoc before (d ∷ []) (those_given more)) ∙ ap (λ ds. ds ++ those_given more) (sym is))
          (continues_many (rule program) (token (symbol Semicolon) ▸ optional (rule decl)) (λ more. before ++ those_given more) (tt, Some d) c.args.self.now c.loop-self.self c.declaration-then-is_at_declaration.new.self c.loop-self.invariant.read h (finds_both semi (finds_presence g c.in_ok-next.ensures.reads)));
      depth = one_more_under BodyIsNoDeeper c.loop-self.declarations.items c.put-then-is_at_declaration.new.items.items next.value (c.in_ok-put-2.ensures ∙ ap (λ e. c.loop-self.declarations.items ++ e ∷ []) c.into_inner-then-is_at_declaration.ensures) c.loop-self.invariant.depth c.in_ok-next.ensures.depth;
    }

pub loop-self-preserved : goal.loop-self-preserved
loop-self-preserved c =
    let h = sym c.is_at.ensures.value ∙ c.loop-self-test.true in
    let g = sym c.is_at_declaration-in-loop-self.ensures ∙ c.if-is_at_declaration.false in
    let semi = symbol_read Semicolon c.loop-self.self c.advance.new.self h c.advance.ensures.rest c.advance.ensures.depth in
    let before = map written_declaration c.loop-self.declarations.items in
    record {
      left = omega arith;
      read = continues_many (rule program) (token (symbol Semicolon) ▸ optional (rule decl)) (λ more. before ++ those_given more) (tt, None) c.args.self.now c.loop-self.self c.advance.new.self c.loop-self.invariant.read h (finds_both semi (finds_absence g));
      depth = c.loop-self.invariant.depth;
    }

pub returns-clause-reads : goal.returns-clause-reads
returns-clause-reads c =
    let h = sym c.is_at.ensures.value ∙ c.loop-self-test.false in
    let ds = map written_declaration c.loop-self.declarations.items in
    subst (λ v. Read (rule program) v c.args.self.now c.loop-self.self) (append-nil ds)
    (ends_many c.loop-self.invariant.read h)
