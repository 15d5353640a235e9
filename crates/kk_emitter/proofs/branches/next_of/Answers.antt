use Rattle.std.proofs.Common.{◌≡◌, ℕ, List, [], ◌∷◌, sym, ap, ◌∙◌}
use Rattle.kk_emitter.specs.Works.{items_of, left_in}
use Rattle.kk_emitter.proofs.DraftChanges.{back_more, none_taken}
use Rattle.kk_emitter.proofs.branches.next_of.Goals as goal

first_is : (one other : List ℕ) (more rest : List (List ℕ)) → one ∷ more ≡ other ∷ rest → one ≡ other
first_is one other more rest same = cc

rest_is : (one other : List ℕ) (more rest : List (List ℕ)) → one ∷ more ≡ other ∷ rest → more ≡ rest
rest_is one other more rest same = cc

nothing : (next : List ℕ) (rest : List (List ℕ)) → [] ≡ next ∷ rest → ⊥
nothing next rest is = cc

pub returns-in-Some : goal.returns-in-Some
returns-in-Some c =
    λ next rest is.
    let both = sym (ap left_in c.in-Some.ensures.items ∙ back_more items_of c.pop.new.self.items c.in-Some.next []) ∙ is in
    (first_is _ next _ rest both, rest_is _ next _ rest both)

pub returns-in-None : goal.returns-in-None
returns-in-None c =
    λ next rest is.
    absurd (nothing next rest (sym (ap left_in (none_taken c.args.left.now.items c.pop.new.self.items _ c.in-None.ensures.items c.in-None.ensures.rest c.in-None.ensures.cases.0)) ∙ is))
