use Rattle.std.proofs.Common.{◌≡◌, ◌<◌, length, map, sym, ap, ◌∙◌, subst, rules}
use Rattle.kk_syntax.specs.Surface.{written_expr, written_statement, block_of}
use Rattle.kk_parser.specs.Depths.{IsNoDeeper}
use Rattle.kk_parser.proofs.MemoryDepths.{joined_made, joined_under, block_under, box_under}
use Rattle.kk_parser.proofs.Trees.{in_box, written-Block}
use Rattle.kk_parser.proofs.made.block_of.Goals as goal

pub returns-in_ok-put_all-in-Block-clause-made : goal.returns-in_ok-put_all-in-Block-clause-made
returns-in_ok-put_all-in-Block-clause-made c =
    joined_made c.boxed.result c.args.statements.items c.put_all.new.items c.in-Block.more c.in-Block.last c.args.value c.into_inner.result c.boxed.ensures c.into_inner.ensures c.in-Block.is (c.in_ok-put_all-in-Block.ensures)

pub returns-in_ok-put_all-in-Block-clause-depth : goal.returns-in_ok-put_all-in-Block-clause-depth
returns-in_ok-put_all-in-Block-clause-depth c = λ h k.
    let some : 0 < length c.args.statements.items = search rules in
    box_under c.boxed.result _ c.boxed.ensures
    (joined_under c.args.statements.items c.put_all.new.items c.in-Block.more c.in-Block.last c.args.value c.into_inner.result some c.into_inner.ensures c.in-Block.is (c.in_ok-put_all-in-Block.ensures) h k)

pub returns-in_ok-value-in_default : goal.returns-in_ok-value-in_default
returns-in_ok-value-in_default c =
    let some : 0 < length c.args.statements.items = search rules in
    let again : c.in_ok-value-in_default.value.value ≡ c.args.value.value = c.in_ok-value-in_default.ensures ∙ c.into_inner.ensures in
    record {
      made = in_box c.boxed-in_default-2.result _ _ c.boxed-in_default-2.ensures (written-Block _ _ ∙ ap (λ e. block_of (map written_statement c.args.statements.items) (written_expr e)) again);
      depth = λ h k. box_under c.boxed-in_default-2.result _ c.boxed-in_default-2.ensures
          (block_under c.args.statements c.in_ok-value-in_default.value some
          (λ more last is. c.in_default.not-Block more last (sym (c.in_ok-value-in_default.ensures) ∙ is)) h (subst IsNoDeeper (sym again) k));
    }
