use Rattle.std.proofs.Common.{ℕ, Bool, true, Some, ◌≡◌, ◌∷◌, ◌++◌, List, [], sym, subst, ◌<◌, length, All}
use Rattle.std.specs.Prelude.{slice_get, IfOk, Result, Ok, Err, OnOk, OnErr, IsTrue, if◌then◌else◌}
use Rattle.std.specs.List.{list_any}
use Rattle.kk_syntax.specs.declared.ground.GroundType.{GroundType}
use Rattle.kk_syntax.specs.contracts.ground.GroundTypePartialEq.TheImpl.{eq-value}
use Rattle.kk_syntax.specs.GroundPrograms.{ground_type, ground_types}
use Rattle.kk_syntax.specs.Types.{type_at}
use Rattle.kk_mono.specs.Tables.{arguments_of, AreInOrder, begin_with_unit, AreOnce}
use Rattle.kk_mono.proofs.Tables.{Asked, asked, same_asked, asked_number}
use Rattle.kk_mono.proofs.types.Types.number.Goals as goal

after_call : {T E : Type 0} (result : Result T E) (nodes : List GroundType) (node : GroundType) (after : List GroundType) → IsTrue (begin_with_unit nodes) → AreInOrder nodes → AreOnce nodes → All (λ n. n < length (ground_types nodes)) (arguments_of node)
    → OnOk result (after ≡ (if list_any (eq-value.it node) nodes then nodes else nodes ++ node ∷ [])) → OnErr result (after ≡ nodes) → Asked nodes node after
after_call (Ok x) nodes node after begins in_order once within kept changed = asked nodes node after begins in_order once within kept
after_call (Err e) nodes node after begins in_order once within kept same = same_asked nodes node after begins in_order once same

pub invariant_of-self : goal.invariant_of-self
invariant_of-self c =
    let table = c.args.self.now in
    let have = after_call c.insert_full.result table.nodes.keys c.args.node c.insert_full.new.self.keys table.begins table.in_order table.once c.requires c.insert_full.ensures.keys c.insert_full.ensures.err in
    record { begins = have.begins; in_order = have.in_order; once = have.once }

pub returns-in-Ok-clause-grows : goal.returns-in-Ok-clause-grows
returns-in-Ok-clause-grows c =
    let table = c.args.self.now in
    (after_call c.insert_full.result table.nodes.keys c.args.node c.insert_full.new.self.keys table.begins table.in_order table.once c.requires c.insert_full.ensures.keys c.insert_full.ensures.err).grows

pub returns-in-Err-clause-grows : goal.returns-in-Err-clause-grows
returns-in-Err-clause-grows c =
    let table = c.args.self.now in
    (after_call c.insert_full.result table.nodes.keys c.args.node c.insert_full.new.self.keys table.begins table.in_order table.once c.requires c.insert_full.ensures.keys c.insert_full.ensures.err).grows

-- the number that the call gave
numbered : {E : Type 0} (result : Result (ℕ × Bool) E) (nodes after : List GroundType) (node : GroundType) (n number : ℕ) (b : Bool) → Asked nodes node after → All (λ k. k < length (ground_types nodes)) (arguments_of node)
    → IfOk result (λ found. (key : GroundType) × (slice_get after found.0 ≡ Some key) × (eq-value.it node key ≡ true)) → result ≡ Ok (n, b) → number ≡ n
    → (number < length (ground_types after)) × (type_at (ground_types after) number ≡ ground_type (ground_types nodes) node)
numbered result nodes after node n number b have within stored was is =
    let F : Result (ℕ × Bool) _ → Type 0 = λ r. IfOk r (λ found. (key : GroundType) × (slice_get after found.0 ≡ Some key) × (eq-value.it node key ≡ true)) in
    let found : (key : GroundType) × (slice_get after n ≡ Some key) × (eq-value.it node key ≡ true) = subst F was stored in
    let G : ℕ → Type 0 = λ k. (k < length (ground_types after)) × (type_at (ground_types after) k ≡ ground_type (ground_types nodes) node) in
    subst G (sym is) (asked_number nodes node found.0 after n have within found.1 found.2)

pub returns-in-Ok-clause-within : goal.returns-in-Ok-clause-within
returns-in-Ok-clause-within c =
    let table = c.args.self.now in
    let have = after_call c.insert_full.result table.nodes.keys c.args.node c.insert_full.new.self.keys table.begins table.in_order table.once c.requires c.insert_full.ensures.keys c.insert_full.ensures.err in
    (numbered c.insert_full.result table.nodes.keys c.insert_full.new.self.keys c.args.node c.in_ok-index.index c.in-Ok.number c.in_ok-index.field-0-1 have c.requires c.insert_full.ensures.stored c.in_ok-index.was c.in-Ok.ensures.1).0

pub returns-in-Ok-clause-is : goal.returns-in-Ok-clause-is
returns-in-Ok-clause-is c =
    let table = c.args.self.now in
    let have = after_call c.insert_full.result table.nodes.keys c.args.node c.insert_full.new.self.keys table.begins table.in_order table.once c.requires c.insert_full.ensures.keys c.insert_full.ensures.err in
    (numbered c.insert_full.result table.nodes.keys c.insert_full.new.self.keys c.args.node c.in_ok-index.index c.in-Ok.number c.in_ok-index.field-0-1 have c.requires c.insert_full.ensures.stored c.in_ok-index.was c.in-Ok.ensures.1).1
