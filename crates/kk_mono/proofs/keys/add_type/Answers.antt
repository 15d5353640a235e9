use Rattle.std.proofs.Common.{◌≡◌, ◌+◌, ◌<◌, length, map, get_or, take, ap, sym, ◌∙◌, subst, ne_eqb, arith}
use Rattle.std.proofs.lemmas.List.{length-map, get_or-map, take_all}
use Rattle.kk_syntax.specs.Programs.{constructor_tree}
use Rattle.kk_mono.specs.declared.keys.Keys.{Keys}
use Rattle.kk_mono.specs.KeyTrees.{Sees, keys_in}
use Rattle.kk_mono.specs.Siblings.{keys_of}
use Rattle.kk_mono.proofs.NewKeys.{sees_none, sees_key, keys_next, keys_not}
use Rattle.kk_mono.proofs.keys.add_type.Goals as goal
use Rattle.kk_mono.proofs.keys.add_type.Goals.{then-constructor-of_type+in-Ok+in_ok-arguments+in_ok-number, else-constructor-of_type}

pub loop-place-init : goal.loop-place-init
loop-place-init c = sees_none (keys_in c.args.known.now)

pub loop-place-preserved : goal.loop-place-preserved
loop-place-preserved c =
    let cs = map constructor_tree c.args.constructors.now in
    let n = c.loop-place.place in
    let x = constructor_tree c.index-constructors-place.result in
    let before = keys_in c.args.known.now in
    let now = keys_in c.loop-place.known in
    let long = length-map c.args.constructors.now constructor_tree in
    let lt : n < length cs = omega (arith, long, c.loop-place-test.true) in
    let is : x ≡ get_or cs n x =
    ap constructor_tree c.index-constructors-place.is
    ∙ sym (get_or-map constructor_tree c.args.constructors.now n c.index-constructors-place.result x c.loop-place-test.true) in
    elim c.if-constructor-of_type.branch [
      | then-constructor-of_type+in-Ok+in_ok-arguments+in_ok-number w ↦
          subst (λ (ks : Keys). Sees before (keys_in ks) (keys_of (take (n + 1) cs) c.args.of_type c.args.at.now)) (sym w.known-is)
          (keys_next cs c.args.of_type c.args.at.now before now
          (keys_in w.number.new.self) n x x lt is w.if-constructor-of_type.true c.loop-place.invariant
          (sees_key now (keys_in w.number.new.self) w.in-Ok.number n w.in_ok-arguments.arguments.items c.args.at.now
          w.in-Ok.ensures.1 w.in_ok-arguments.ensures.items w.in_ok-number.ensures.sees))
      | else-constructor-of_type w ↦
          subst (λ (ks : Keys). Sees before (keys_in ks) (keys_of (take (n + 1) cs) c.args.of_type c.args.at.now)) (sym w.known-is)
          (keys_not cs c.args.of_type c.args.at.now before now n x x lt is
          (ne_eqb x.of_type c.args.of_type w.if-constructor-of_type.false) c.loop-place.invariant)
    ]

pub returns : goal.returns
returns c =
    let cs = map constructor_tree c.args.constructors.now in
    let long = length-map c.args.constructors.now constructor_tree in
    subst (λ xs. Sees (keys_in c.args.known.now) (keys_in c.loop-place.known) (keys_of xs c.args.of_type c.args.at.now))
    (take_all c.loop-place.place cs (omega (arith, long, c.loop-place-test.false))) c.loop-place.invariant
