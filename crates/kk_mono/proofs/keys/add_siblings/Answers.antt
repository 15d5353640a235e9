use Rattle.std.proofs.Common.{◌≡◌, get_or, map, ap, sym, ◌∙◌, subst}
use Rattle.std.specs.Prelude.{OnOk}
use Rattle.kk_syntax.specs.declared.program.Constructor.{Constructor}
use Rattle.kk_syntax.specs.Programs.{constructor_tree}
use Rattle.kk_mono.specs.KeyTrees.{Sees, key_tree, keys_in}
use Rattle.kk_mono.specs.Siblings.{type_of, keys_of, siblings}
use Rattle.kk_mono.proofs.NewKeys.{sees_siblings, type_read}
use Rattle.kk_mono.proofs.keys.add_siblings.Goals as goal

pub returns-then-contains : goal.returns-then-contains
returns-then-contains c =
    sees_siblings (map constructor_tree c.args.constructors.now) (keys_in c.args.known.now)
    (key_tree c.args.key.now) c.requires.whole (c.contains.ensures.0 c.if-contains.true)

pub returns : goal.returns
returns c =
    let cs = map constructor_tree c.args.constructors.now in
    let found = get_or c.args.constructors.now c.args.key.now.number c.index-constructors-key.result in
    let read : type_of cs c.args.key.now.number ≡ found.of_type =
    type_read c.args.constructors.now c.args.key.now.number c.index-constructors-key.result c.requires.there
    c.index-constructors-key.is
    ∙ ap (λ (x : Constructor). x.of_type) c.index-constructors-key.is in
    let same : keys_of cs found.of_type c.deref.result.now ≡ siblings cs (key_tree c.args.key.now) =
    ap (λ by. keys_of cs by c.deref.result.now) (sym read)
    ∙ ap (λ at. siblings cs (record { number = c.args.key.now.number; at = at })) c.deref.ensures.value in
    subst (λ ks. OnOk c.add_type.result (Sees (keys_in c.args.known.now) (keys_in c.add_type.new.known) ks)) same c.add_type.ensures
