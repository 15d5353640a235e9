use Rattle.std.proofs.Common.{List, [], ap, refl, ℕ, ◌∙◌, ◌∷◌, ◌≡◌}
use Rattle.kk_emitter.specs.Drafts.{chosen_of}
use Rattle.kk_emitter.specs.Emissions.{counted_of, tokens_of}
use Rattle.kk_emitter.specs.TokenDrafts.{adds, reads_with}
use Rattle.kk_emitter.specs.TokenEmitting.{fields_at}
use Rattle.kk_emitter.proofs.emitter.Emitter.field.Goals as goal

-- the mask of no bits names no variable
chosen_none : (xs : List ℕ) → chosen_of 0 xs ≡ []
chosen_none [] = refl
chosen_none (x ∷ xs) = chosen_none xs

pub returns-clause-tokens : goal.returns-clause-tokens
returns-clause-tokens c =
    c.in_ok-read.ensures.tokens ∙ ap (λ used. adds (tokens_of c.args.self.now) (reads_with c.args.variable c.args.constructor (fields_at (counted_of c.args.self.now) c.args.constructor) used)) (chosen_none (fields_at (counted_of c.args.self.now) c.args.constructor))
