use Rattle.std.proofs.Common.{◌≡◌, true, false, List, ◌∷◌, [], refl, sym}
use Rattle.kk_syntax.specs.declared.token.LocatedToken.{LocatedToken}
use Rattle.kk_syntax.specs.declared.tree.Effect.{Effect}
use Rattle.kk_syntax.specs.declared.tree.Effect.TheVariants.{Total, Div, Exn, Console}
use Rattle.kk_parser.specs.declared.parser.Parser.{Parser}
use Rattle.kk_parser.specs.Classes.{Class, is_at, name as name_class, word, total, div, exn, console}
use Rattle.kk_parser.specs.Kinds.{Kind, name_in, Said, classes_of}
use Rattle.kk_parser.specs.Methods.{Read, behind}
use Rattle.kk_parser.specs.Phrases.{rule, eff, token}
use Rattle.kk_parser.specs.Reading.{first, fails_rule, fails_second, fails_token, finds_rule, finds_first, finds_second}
use Rattle.kk_parser.specs.Views.{class_of_effect}
use Rattle.kk_parser.proofs.ClassDisjointness.{apart, apart-is_at, within, within-is_at, not_at}
use Rattle.kk_parser.proofs.Steps.{said_next, token_read}
use Rattle.kk_parser.proofs.parser.Parser.eff.Goals as goal

-- the word of an effect is next, and no other's
others : (c d : Class) (ts : List LocatedToken) → apart (c ∷ []) (d ∷ []) ≡ true → is_at (c ∷ []) ts ≡ true → is_at (d ∷ []) ts ≡ false
others c d ts a h = apart-is_at (c ∷ []) (d ∷ []) ts a h

absent : (d : Class) (ts : List LocatedToken) → within (d ∷ []) (first (rule eff)) ≡ true → is_at (first (rule eff)) ts ≡ false → is_at (d ∷ []) ts ≡ false
absent d ts w h = not_at (is_at (d ∷ []) ts) (λ e. let g = within-is_at (d ∷ []) (first (rule eff)) ts w e in cc)

read_word : (k : Kind) (old new : Parser) → is_at (classes_of k) old.rest.now ≡ true → new.rest.now ≡ behind old.rest.now → new.depth ≡ old.depth → (v : Said k) × Read (token k) v old new
read_word k old new h r d = let s = said_next k old.rest.now h in (s.0, token_read k old new s.0 s.1 r d)

effect_read : (e : Effect) (old new : Parser) → is_at (class_of_effect e ∷ []) old.rest.now ≡ true → new.rest.now ≡ behind old.rest.now → new.depth ≡ old.depth → Read (rule eff) e old new
effect_read Total old new h r d = finds_rule (finds_first h (read_word (name_in (word total ∷ [])) old new h r d).1)
effect_read Div old new h r d =
    let k = name_in (word div ∷ []) in
    finds_rule (finds_second (others (name_class (word div)) (name_class (word total)) old.rest.now refl h) (finds_first h (read_word k old new h r d).1))
effect_read Exn old new h r d =
    let c = name_class (word exn) in
    finds_rule (finds_second (others c (name_class (word total)) old.rest.now refl h) (finds_second (others c (name_class (word div)) old.rest.now refl h) (finds_first h (read_word (name_in (word exn ∷ [])) old new h r d).1)))
effect_read Console old new h r d =
    let c = name_class (word console) in
    finds_rule (finds_second (others c (name_class (word total)) old.rest.now refl h) (finds_second (others c (name_class (word div)) old.rest.now refl h) (finds_second (others c (name_class (word exn)) old.rest.now refl h) (read_word (name_in (word console ∷ [])) old new h r d).1)))

pub returns-in-Some-clause-reads : goal.returns-in-Some-clause-reads
returns-in-Some-clause-reads c = effect_read c.in-Some.effect c.args.self.now c.advance.new.self c.in-Some.ensures.class c.advance.ensures.rest c.advance.ensures.depth

pub returns-in-None-clause-reads : goal.returns-in-None-clause-reads
returns-in-None-clause-reads c =
    let ts = c.args.self.now.rest.now in
    let h = sym c.in-None.ensures.next in
    fails_rule (fails_second (absent (name_class (word total)) ts refl h) (fails_second (absent (name_class (word div)) ts refl h) (fails_second (absent (name_class (word exn)) ts refl h) (fails_token (absent (name_class (word console)) ts refl h)))))
