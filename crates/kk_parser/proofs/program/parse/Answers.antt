use Rattle.std.proofs.Common.{◌≡◌, suc, [], ◌∷◌, List, Bool, true, false, length, refl, sym, ap, ◌∙◌, subst, map, eqb, arith}
use Rattle.std.proofs.lemmas.Bool.{eqb-true, eqb-false}
use Rattle.kk_syntax.specs.declared.token.LocatedToken.{LocatedToken}
use Rattle.kk_syntax.specs.Surface.{written_declaration}
use Rattle.kk_parser.specs.declared.parser.Parser.{Parser}
use Rattle.kk_parser.specs.Phrases.{program, rule}
use Rattle.kk_parser.specs.Reading.{Finds}
use Rattle.kk_parser.proofs.Depths.{shallow}
use Rattle.kk_parser.proofs.NodeBounds.{few_nodes}
use Rattle.kk_parser.proofs.MemoryDepths.{bodies_under}
use Rattle.kk_parser.proofs.ProgramOutcome.{has_tree}
use Rattle.kk_parser.proofs.ProgramAnswers.{found_all, left_answered, fault_answered}
use Rattle.kk_parser.proofs.program.parse.Goals.{In-Ok}
use Rattle.kk_parser.proofs.program.parse.Goals as goal
use Rattle.kk_parser.specs.Depths.{most_levels}

none_left : (ts : List LocatedToken) (b : Bool) → b ≡ eqb (length ts) 0 → b ≡ true → ts ≡ []
none_left [] b e h = refl
none_left (t ∷ ts) b e h = absurd (omega (arith, eqb-true (suc (length ts)) 0 (sym e ∙ h)))

some_left : (ts : List LocatedToken) (b : Bool) → b ≡ eqb (length ts) 0 → b ≡ false → ts ≡ [] → ⊥
some_left ts b e h d = eqb-false (length ts) 0 (sym e ∙ h) (ap length d)

-- what the parser read
read : (c : In-Ok) → Finds most_levels (rule program) 0 c.args.tokens.now.items (map written_declaration c.in-Ok.declarations.items) c.program.new.self.depth c.program.new.self.rest.now
read c = subst (λ ts. Finds most_levels (rule program) 0 ts (map written_declaration c.in-Ok.declarations.items) c.program.new.self.depth c.program.new.self.rest.now) c.as_slice.ensures c.in-Ok.ensures.reads

pub returns-then-is_empty-clause-parsed : goal.returns-then-is_empty-clause-parsed
returns-then-is_empty-clause-parsed c =
    found_all c.args.tokens.now (record { declarations = c.in-Ok.declarations; length = c.end.result.at }) c.program.new.self.depth c.program.new.self.rest.now (none_left c.program.new.self.rest.now c.is_empty.result c.is_empty.ensures c.if-is_empty.true) (ap (λ s. s.at) c.end.ensures) (read (goal.at.returns-then-is_empty-clause-parsed c).In-Ok)

pub returns-then-is_empty-clause-few_nodes : goal.returns-then-is_empty-clause-few_nodes
returns-then-is_empty-clause-few_nodes c =
    few_nodes (has_tree (subst (λ us. Finds most_levels (rule program) 0 c.args.tokens.now.items (map written_declaration c.in-Ok.declarations.items) c.program.new.self.depth us) (none_left c.program.new.self.rest.now c.is_empty.result c.is_empty.ensures c.if-is_empty.true) (read (goal.at.returns-then-is_empty-clause-few_nodes c).In-Ok)))

pub returns-then-is_empty-clause-shallow : goal.returns-then-is_empty-clause-shallow
returns-then-is_empty-clause-shallow c =
    let tree = has_tree (subst (λ us. Finds most_levels (rule program) 0 c.args.tokens.now.items (map written_declaration c.in-Ok.declarations.items) c.program.new.self.depth us) (none_left c.program.new.self.rest.now c.is_empty.result c.is_empty.ensures c.if-is_empty.true) (read (goal.at.returns-then-is_empty-clause-shallow c).In-Ok)) in
    shallow most_levels tree.program tree.shallow

pub returns-then-is_empty-clause-depth : goal.returns-then-is_empty-clause-depth
returns-then-is_empty-clause-depth c =
    let tree = has_tree (subst (λ us. Finds most_levels (rule program) 0 c.args.tokens.now.items (map written_declaration c.in-Ok.declarations.items) c.program.new.self.depth us) (none_left c.program.new.self.rest.now c.is_empty.result c.is_empty.ensures c.if-is_empty.true) (read (goal.at.returns-then-is_empty-clause-depth c).In-Ok)) in
    bodies_under c.in-Ok.declarations.items c.in-Ok.ensures.depth (shallow most_levels tree.program tree.shallow)

pub returns-else-is_empty-clause-parsed : goal.returns-else-is_empty-clause-parsed
returns-else-is_empty-clause-parsed c =
    rw c.error_at.ensures (left_answered c.args.tokens.now (map written_declaration c.in-Ok.declarations.items) c.program.new.self.depth c.program.new.self.rest.now (some_left c.program.new.self.rest.now c.is_empty.result c.is_empty.ensures c.if-is_empty.false) (read (goal.at.returns-else-is_empty-clause-parsed c).In-Ok))

pub returns-in-Err-clause-parsed : goal.returns-in-Err-clause-parsed
returns-in-Err-clause-parsed c =
    let old : Parser = record { alloc = c.args.alloc; rest = c.as_slice.result; depth = 0 } in
    rw c.error_at-in-Err.ensures (fault_answered c.args.tokens.now old c.program.new.self c.in-Err.fault refl c.as_slice.ensures c.in-Err.ensures.reads)
