-- Where the lines of a part stand in the whole.
use Rattle.std.proofs.Common.{◌≡◌, List, ◌++◌, sym, ◌∙◌, ap, append_assoc}
use Rattle.rv_isa.specs.AsmCode.{Line}

-- where a list lies in another, by its parts
pub split_at : (whole before left own more after : List Line) → whole ≡ before ++ left → left ≡ (own ++ more) ++ after → whole ≡ (before ++ own) ++ (more ++ after)
split_at whole before left own more after place is =
    place ∙ ap (λ lines. before ++ lines) (is ∙ append_assoc own more after) ∙ sym (append_assoc before own (more ++ after))
