use Rattle.std.proofs.Common.{Bool, [], ◌∷◌, map, refl, sym, subst, ap, ◌∙◌}
use Rattle.std.proofs.lemmas.List.{map-append}
use Rattle.rv_lower.specs.Written.{short_line}
use Rattle.rv_tokens.specs.TokenedWritten.{PushedStore}
use Rattle.rv_tokens.proofs.cells.push_store.Goals as goal

pub returns-in_ok-push : goal.returns-in_ok-push
returns-in_ok-push c =
    subst (λ (taken : Bool). PushedStore taken c.args.cell c.args.index c.args.from (map short_line c.args.lines.now.items)
    (map short_line c.push.new.self.items)) (sym c.if-taken.true) (
      short_line c.in_ok-store.field-0 ∷ [],
      (short_line c.in_ok-store.field-0, c.in_ok-store.ensures, refl),
      ap (map short_line) c.in_ok-push.ensures.items ∙ map-append short_line c.args.lines.now.items (c.in_ok-store.field-0 ∷ []),
    )
