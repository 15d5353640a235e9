-- Steps of a walk from the end of code back.
use Rattle.std.proofs.Common.{◌≡◌, ◌≤◌, ◌<◌, ◌+◌, ◌-◌, ℕ, suc, List, [], ◌∷◌, ◌++◌, All, refl, sym, ◌∙◌, ap, subst, arith, map, reverse, length, take, drop, get_or, length-drop}
use Rattle.std.specs.List.{filter}
use Rattle.std.proofs.Math.Seq.{drop-cons}
use Rattle.std.proofs.lemmas.List.{map-append, reverse-append, take_all}
use Rattle.std.proofs.lemmas.List.Elements.{All-nil, All-cons}
use Rattle.kk_base.specs.Limits.{greatest_of}
use Rattle.kk_base.specs.declared.limit.LimitKind.TheVariants.{Parameters}
use Rattle.rv_isa.specs.declared.asm.Action.{Action}
use Rattle.rv_isa.specs.declared.asm.Action.TheVariants.{Compute, Label, Jump, Branch, Call, TailCall, Return, Routine, Hold, Unhold, Room}
use Rattle.rv_isa.specs.declared.asm.Statement.{Statement}
use Rattle.rv_isa.specs.declared.placed.Item.{Item}
use Rattle.rv_isa.specs.declared.placed.Listed.{Listed}
use Rattle.rv_isa.specs.declared.placed.Way.TheVariants.{Load, Store}
use Rattle.rv_isa.specs.AsmCode.{Line, line_of}
use Rattle.rv_isa.specs.PlacedCode.{PlacedLine, moves, placed_line_of}
use Rattle.rv_isa.specs.Conventions.{argument}
use Rattle.rv_isa.specs.Frames.{is_among}
use Rattle.rv_isa.specs.WellFormed.{AreLinesFormed}
use Rattle.rv_propose.specs.declared.liveness.LabelPoint.{LabelPoint}
use Rattle.rv_regs.specs.declared.walk.Walk.{Walk}
use Rattle.rv_regs.specs.declared.slots.Loaded.{Loaded}
use Rattle.rv_propose.specs.Alive.{with_values, values_behind, PointLists, lists_before}
use Rattle.rv_regs.specs.Backwards.{backwards}
use Rattle.rv_regs.specs.Plain.{stored_later, copied_in, load_from, alive_params, loads, stores, placed_code, placed_start_of}
use Rattle.rv_regs.specs.Views.{lists_of}
use Rattle.rv_regs.specs.Walks.{HasComeTo}
use Rattle.rv_propose.specs.Tables.{last_at}
use Rattle.rv_regs.proofs.Shapes.{few_args}

-- what is written last comes first
pub backwards_put : (items : List Item) (item : Item) → backwards (items ++ item ∷ []) ≡ placed_line_of item ∷ backwards items
unfolding backwards
backwards_put items item = ap reverse (map-append placed_line_of items (item ∷ [])) ∙ reverse-append (map placed_line_of items) (placed_line_of item ∷ [])

-- the last point of a label counts
-- what is alive behind an action rests on the labels alone that it names
pub behind_same : (action : Action) (next next' : List ℕ) (at_label at_label' : ℕ → List ℕ) → next ≡ next' → ((l : ℕ) → at_label l ≡ at_label' l) → values_behind action next at_label ≡ values_behind action next' at_label'
behind_same (Jump l) next next' at_label at_label' same sames = sames l
behind_same (Branch condition l) next next' at_label at_label' same sames = ap (λ vs. with_values vs (at_label l)) same ∙ ap (with_values next') (sames l)
behind_same (TailCall f) next next' at_label at_label' same sames = refl
behind_same Return next next' at_label at_label' same sames = refl
behind_same (Compute operation) next next' at_label at_label' same sames = same
behind_same (Label l) next next' at_label at_label' same sames = same
behind_same (Call f) next next' at_label at_label' same sames = same
behind_same (Routine routine) next next' at_label at_label' same sames = same
behind_same Hold next next' at_label at_label' same sames = same
behind_same Unhold next next' at_label at_label' same sames = same
behind_same Room next next' at_label at_label' same sames = same

drop_is : {A : Type 0} (ls : List A) (i j : ℕ) (l : A) → i < length ls → l ≡ get_or ls i l → j ≡ suc i → drop i ls ≡ l ∷ drop j ls
drop_is {A} ls i j l lt is next = drop-cons ls i l lt ∙ ap (λ (x : A). x ∷ drop (suc i) ls) (sym is) ∙ ap (λ k. l ∷ drop k ls) (sym next)

slice_is : {A : Type 0} (ls : List A) (j : ℕ) → take (length ls - j) (drop j ls) ≡ drop j ls
slice_is {A} ls j = take_all (length ls - j) (drop j ls) (omega (arith, length-drop {A = A} j ls))

-- one load more
pub put_load : (point : PointLists) (ls : List Loaded) (i : ℕ) (l : Loaded) (alive : List Listed) (before after all : List PlacedLine) → i < length ls → l ≡ get_or ls i l
    → alive ≡ copied_in (take (length ls - (i + 1)) (drop (i + 1) ls)) point → after ≡ moves alive l.value (Load l.value l.register) ∷ before
    → loads point (drop i ls) before ≡ all → loads point (drop (i + 1) ls) after ≡ all
put_load point ls i l alive before after all lt is alive_is after_is written =
    ap (loads point (drop (i + 1) ls))
    (after_is ∙ ap (λ (a : List Listed). moves a l.value (Load l.value l.register) ∷ before) (alive_is ∙ ap (λ (ds : List Loaded). copied_in ds point) (slice_is ls (i + 1))))
    ∙ sym (ap (λ (ds : List Loaded). loads point ds before) (drop_is ls i (i + 1) l lt is (omega arith))) ∙ written

-- one store more
pub put_store : (point : PointLists) (ls : List Loaded) (k : ℕ) (l : Loaded) (alive : List Listed) (before after all : List PlacedLine) → k ≤ length ls → 0 < k → l ≡ get_or ls (k - 1) l
    → alive ≡ stored_later (take (length ls - (k - 1)) (drop (k - 1) ls)) point → after ≡ moves alive l.value (Store l.register l.value) ∷ before
    → before ≡ stores point (drop k ls) all → after ≡ stores point (drop (k - 1) ls) all
put_store point ls k l alive before after all within some is alive_is after_is written =
    let dropped : drop (k - 1) ls ≡ l ∷ drop k ls = drop_is ls (k - 1) k l (omega (arith, within, some)) is (omega (arith, some)) in
    after_is
    ∙ ap (λ (a : List Listed). moves a l.value (Store l.register l.value) ∷ before) (alive_is ∙ ap (λ (ds : List Loaded). stored_later ds point) (slice_is ls (k - 1) ∙ dropped))
    ∙ ap (λ (more : List PlacedLine). moves (stored_later (l ∷ drop k ls) point) l.value (Store l.register l.value) ∷ more) written
    ∙ sym (ap (λ (ds : List Loaded). stores point ds all) dropped)

-- ---- the begin and the end of a walk

backwards_none : backwards [] ≡ []
unfolding backwards
backwards_none = refl

pub come_to_end : (walk : Walk) (code : List Line) → walk.items.items ≡ [] → walk.point.alive.items ≡ [] → walk.point.held.items ≡ [] → walk.labels.items ≡ [] → code ≡ [] → HasComeTo walk code
come_to_end walk code items alive held labels end =
    subst (HasComeTo walk) (sym end) (record {
      items = ap backwards items ∙ backwards_none;
      lists = ap (λ vs. record { alive = vs; held = walk.point.held.items }) alive ∙ ap (λ vs. record { alive = []; held = vs }) held;
      labels = λ l. ap (λ (points : List LabelPoint). last_at l [] points) labels;
    })

map_reversed : {A B : Type 0} (f : A → B) (xs : List A) → map f (reverse xs) ≡ reverse (map f xs)
map_reversed f [] = refl
map_reversed {A} {B} f (x ∷ xs) =
    ap (λ (ys : List A). map f ys) (reverse-append (x ∷ []) xs) ∙ map-append f (reverse xs) (x ∷ []) ∙ ap (λ (ys : List B). ys ++ f x ∷ []) (map_reversed f xs) ∙ sym (reverse-append (f x ∷ []) (map f xs))

in_order : (items : List Item) → map placed_line_of (reverse items) ≡ backwards items
unfolding backwards
in_order items = map_reversed placed_line_of items

-- the lines of a whole function
pub finished : (params : List ℕ) (walk : Walk) (code : List Line) → HasComeTo walk code → (loaded loaded' kept kept' : List Loaded) (alive : List ℕ) (items ordered : List Item)
    → loaded ≡ load_from (argument 0) params → loaded' ≡ loaded → alive ≡ walk.point.alive.items → kept ≡ filter (λ (l : Loaded). is_among l.value alive) loaded' → kept' ≡ kept
    → backwards items ≡ stores (lists_of walk.point) kept' (backwards walk.items.items) → ordered ≡ reverse items → map placed_line_of ordered ≡ placed_start_of params (lists_before code) (placed_code code)
finished params walk code come loaded loaded' kept kept' alive items ordered loaded_is loaded_same alive_is kept_is kept_same stored ordered_is =
    let kept_there : kept' ≡ alive_params params (lists_before code).alive =
    kept_same ∙ kept_is
    ∙ ap (λ vs. filter (λ (l : Loaded). is_among l.value vs) loaded') (alive_is ∙ ap (λ (point : PointLists). point.alive) come.lists)
    ∙ ap (filter (λ (l : Loaded). is_among l.value (lists_before code).alive)) (loaded_same ∙ loaded_is) in
    ap (λ (xs : List Item). map placed_line_of xs) ordered_is ∙ in_order items ∙ stored ∙ ap (λ (point : PointLists). stores point kept' (backwards walk.items.items)) come.lists
    ∙ ap (λ (ls : List Loaded). stores (lists_before code) ls (backwards walk.items.items)) kept_there
    ∙ ap (stores (lists_before code) (alive_params params (lists_before code).alive)) come.items

-- no statement of formed code has more arguments than there are registers for
pub all_few_args : (code : List Statement) → AreLinesFormed (map line_of code) → All (λ (s : Statement). length s.args.items ≤ greatest_of Parameters) code
all_few_args [] formed = All-nil (λ (s : Statement). length s.args.items ≤ greatest_of Parameters)
all_few_args (s ∷ code) formed =
    All-cons (λ (t : Statement). length t.args.items ≤ greatest_of Parameters) s code (few_args s.action s.args.items formed.0.few) (all_few_args code formed.1)
