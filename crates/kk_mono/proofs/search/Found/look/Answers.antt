use Rattle.std.proofs.Common.{◌≡◌, ℕ, ◌<◌, List, length, map, All, Some, sym, ◌∙◌, subst, arith}
use Rattle.std.specs.Prelude.{slice_get}
use Rattle.kk_syntax.specs.Programs.{constructor_tree}
use Rattle.kk_syntax.specs.TypedPrograms.{typing_of}
use Rattle.kk_mono.specs.InstanceUses.{Looks, Uses}
use Rattle.kk_mono.specs.InstanceSearch.{AreConstructionsBelow}
use Rattle.kk_mono.specs.Siblings.{HaveSiblings}
use Rattle.kk_mono.specs.KeyTrees.{key_tree, keys_in}
use Rattle.kk_mono.specs.Views.{types_in}
use Rattle.kk_mono.proofs.InstanceUses.{function_within, body_within, key_types, function_read, typing_read, looked_more}
use Rattle.kk_mono.proofs.search.Found.look.Goals as goal

pub index-requires : goal.index-requires
index-requires c =
    let below = function_within c.args.typed.now c.requires.complete c.args.self.now c.len.result (key_tree c.get-key.result.now) c.requires.searching c.get-key.ensures (omega arith) in
    let count = c.args.typed.now.program.functions.ok.0 in
    omega (arith, below, count)

pub index-requires-2 : goal.index-requires-2
index-requires-2 c =
    let below = body_within c.args.typed.now c.requires.complete c.args.self.now c.len.result (key_tree c.get-key.result.now) c.requires.searching c.get-key.ensures (omega arith) in
    let count = c.args.typed.now.bodies.ok.0 in
    omega (arith, below, count)

pub looked_at-requires : goal.looked_at-requires
looked_at-requires c =
    let typed = c.args.typed.now in
    let found = c.args.self.now in
    let key = key_tree c.get-key.result.now in
    record {
      within = subst (λ (ns : List ℕ). All (λ n. n < length (types_in found.types)) ns) (sym (c.deref-3.ensures.value ∙ (c.in_ok-at.ensures.items ∙ c.deref.ensures.value)))
          (key_types typed c.requires.complete found c.len.result key c.requires.searching c.get-key.ensures (omega arith));
      whole = subst (λ cs. HaveSiblings (map constructor_tree cs) (keys_in found.constructors)) (sym c.deref-2.ensures.value) c.requires.searching.whole;
      there = subst (λ cs. AreConstructionsBelow (length cs) (typing_of c.index-2.result.now)) (sym c.deref-2.ensures.value)
          (subst (AreConstructionsBelow (length typed.program.constructors.items))
          (typing_read typed key.number c.index-2.result.now (body_within typed c.requires.complete found c.len.result key c.requires.searching c.get-key.ensures (omega arith)) c.index-2.ensures)
          (c.requires.complete.constructions key.number));
    }

pub returns-clause-searching : goal.returns-clause-searching
returns-clause-searching c =
    let typed = c.args.typed.now in
    let found = c.args.self.now in
    let key = key_tree c.get-key.result.now in
    let count = found.looked.ok.0 in
    let place : c.len.result ≡ length found.looked.items = (let is = c.len.ensures in omega (arith, is, count)) in
    let at : slice_get (keys_in found.keys) (length found.looked.items) ≡ Some key = subst (λ n. slice_get (keys_in found.keys) n ≡ Some key) place c.get-key.ensures in
    let numbers : c.deref-3.result.now ≡ key.at = c.deref-3.ensures.value ∙ (c.in_ok-at.ensures.items ∙ c.deref.ensures.value) in
    looked_more typed c.requires.complete found (record { types = c.looked_at.new.types; keys = c.looked_at.new.keys; constructors = c.looked_at.new.known; looked = c.push.new.self }) key c.index.result.now c.index-2.result.now c.in_ok-looked.looked c.requires.searching at c.requires.left
    (function_read typed.program key.number c.index.result.now (function_within typed c.requires.complete found (length found.looked.items) key c.requires.searching at c.requires.left) c.index.ensures)
    (typing_read typed key.number c.index-2.result.now (body_within typed c.requires.complete found (length found.looked.items) key c.requires.searching at c.requires.left) c.index-2.ensures)
    (subst (λ (ns : List ℕ). Looks (types_in found.types) (types_in c.looked_at.new.types) ns (keys_in found.keys) (keys_in c.looked_at.new.keys) c.index.result.now c.index-2.result.now c.in_ok-looked.looked) numbers c.in_ok-looked.ensures.looks)
    (subst (λ cs. Uses (map constructor_tree cs) (keys_in found.constructors) (keys_in c.looked_at.new.known) c.in_ok-looked.looked) c.deref-2.ensures.value c.in_ok-looked.ensures.uses)
    c.in_ok-push.ensures.items
