-- What the steps of a join do, over lists of nodes.
use Rattle.std.proofs.Common.{◌≡◌, ◌≢◌, ◌<◌, ◌≤◌, ◌+◌, ◌==◌, ◌&&◌, ℕ, zero, suc, Bool, true, false, List, [], ◌∷◌, ◌++◌, length, map, get_or, set, take, min, All, inl, inr, refl, sym, ◌∙◌, ap, subst, arith}
use Rattle.std.specs.List.{zip}
use Rattle.std.proofs.lemmas.Bool.{cases_eq, eqb-true, eq-eqb}
use Rattle.std.proofs.lemmas.List.{get_or-set_other, length-set, length-append, get_or-append-add, get_or_append_left, append_assoc, take_more, take_all}
use Rattle.std.proofs.lemmas.List.Elements.{All-append, All-nil}
use Rattle.std.proofs.lemmas.List.Sums.{sum_by-set}
use Rattle.std.proofs.lemmas.Slice.Zip.{length-zip, get_or-zip}
use Rattle.kk_syntax.specs.Types.{TypeTree, type_variable, types_of}
use Rattle.kk_unify.specs.Graphs.{NodeTree, any_node, same_node, int32_node, unit_node, variable_node, named_node, Assignment, Holds, Obeys, IsNodeFormed, IsFormed, Clashes}
use Rattle.kk_unify.specs.Unification.{Pair, node_at, IsHead, parts, PairsHold, AreWithin, heads_agree, merged, met, Alike, Leads, Steps, linked}
use Rattle.kk_unify.proofs.GraphAssignments.{obeyed_at, obeys_each, formed_at, formed_set, obeyed_set, obeyed_before, holds_moved}
use Rattle.kk_unify.proofs.GraphAssignments.{set_at}

pub same_types : (ts us : List TypeTree) → types_of ts ≡ types_of us → ts ≡ us
same_types [] [] e = refl
same_types [] (u ∷ us) e = cc
same_types (t ∷ ts) [] e = cc
same_types (t ∷ ts) (u ∷ us) e =
    let first : t ≡ u = cc in
    let rest : types_of ts ≡ types_of us = cc in
    let same : ts ≡ us = same_types ts us rest in
    cc

pub zip_holds : (r : Assignment) (xs ys : List ℕ) → map r xs ≡ map r ys → PairsHold r (zip xs ys)
zip_holds r [] ys e = All-nil _
zip_holds r (x ∷ xs) [] e = All-nil _
zip_holds r (x ∷ xs) (y ∷ ys) e =
    let first : r x ≡ r y = cc in
    let rest : map r xs ≡ map r ys = cc in
    λ k d h. elim k as (λ k. k < suc (length (zip xs ys)) → r (get_or ((x, y) ∷ zip xs ys) k d).0 ≡ r (get_or ((x, y) ∷ zip xs ys) k d).1) [
      | zero ↦ λ h. first
      | suc k ↦ λ h. zip_holds r xs ys rest k d (omega (arith, h))
    ] h

pub zip_same : (r : Assignment) (xs ys : List ℕ) → length xs ≡ length ys → PairsHold r (zip xs ys) → map r xs ≡ map r ys
zip_same r [] [] e holds = refl
zip_same r [] (y ∷ ys) e holds = absurd (omega (arith, e))
zip_same r (x ∷ xs) [] e holds = absurd (omega (arith, e))
zip_same r (x ∷ xs) (y ∷ ys) e holds =
    let first : r x ≡ r y = holds 0 (x, y) (omega arith) in
    let rest : map r xs ≡ map r ys = zip_same r xs ys (omega (arith, e)) (λ k d h. holds (suc k) d (omega (arith, h))) in
    cc

pub same_length : {X Y : Type 0} (f : X → Y) (xs ys : List X) → map f xs ≡ map f ys → length xs ≡ length ys
same_length f [] [] e = refl
same_length f [] (y ∷ ys) e = cc
same_length f (x ∷ xs) [] e = cc
same_length f (x ∷ xs) (y ∷ ys) e =
    let rest : map f xs ≡ map f ys = cc in
    let same : length xs ≡ length ys = same_length f xs ys rest in
    cc

-- the pairs of two lists, one after the other
pub paired_more : (xs ys : List ℕ) (pairs start : List Pair) (n x y : ℕ) → pairs ≡ start ++ take n (zip xs ys) → n < length xs → n < length ys → x ≡ get_or xs n x → y ≡ get_or ys n y → pairs ++ ((x, y) ∷ []) ≡ start ++ take (n + 1) (zip xs ys)
paired_more xs ys pairs start n x y so_far left right is is' =
    let there : get_or (zip xs ys) n (x, y) ≡ (get_or xs n x, get_or ys n y) = get_or-zip xs ys n (x, y) left right in
    let long : n < length (zip xs ys) = omega (arith, length-zip xs ys, left, right) in
    let step : take (n + 1) (zip xs ys) ≡ take n (zip xs ys) ++ (get_or (zip xs ys) n (x, y) ∷ []) = take_more (zip xs ys) n (x, y) long in
    let joined : start ++ take n (zip xs ys) ++ ((x, y) ∷ []) ≡ start ++ (take n (zip xs ys) ++ ((x, y) ∷ [])) = append_assoc start (take n (zip xs ys)) ((x, y) ∷ []) in
    cc

pub paired_all : (xs ys : List ℕ) (pairs start : List Pair) (n : ℕ) → pairs ≡ start ++ take n (zip xs ys) → n ≡ min (length xs) (length ys) → pairs ≡ start ++ zip xs ys
paired_all xs ys pairs start n so_far end =
    so_far ∙ ap (λ l. start ++ l) (take_all n (zip xs ys) (omega (arith, length-zip xs ys, end)))

-- both names and both lists of arguments are the same
pub both_named : (r : Assignment) (i by other : ℕ) (xs ys : List ℕ) → Holds r i (named_node by xs) → Holds r i (named_node other ys) → (by ≡ other) × (map r xs ≡ map r ys)
both_named r i by other xs ys h k =
    let same_by : by ≡ other = cc in
    let same : types_of (map r xs) ≡ types_of (map r ys) = cc in
    (same_by, same_types (map r xs) (map r ys) same)

true_and : (a b : Bool) → (a && b) ≡ true → (a ≡ true) × (b ≡ true)
true_and true b e = (refl, e)
true_and false b e = cc

both : (a b : Bool) → a ≡ true → b ≡ true → (a && b) ≡ true
both true b e h = h
both false b e h = cc

-- what is known of both holds of both
pub merged_holds : (lower upper : NodeTree) (r : Assignment) (i : ℕ) → Holds r i lower → Holds r i upper → Holds r i (merged lower upper) × PairsHold r (met lower upper)
merged_holds any_node upper r i h k = (k, All-nil _)
merged_holds (same_node to) upper r i h k = (h, All-nil _)
merged_holds int32_node upper r i h k = (h, All-nil _)
merged_holds unit_node upper r i h k = (h, All-nil _)
merged_holds (variable_node of) upper r i h k = (h, All-nil _)
merged_holds (named_node by xs) any_node r i h k = (h, All-nil _)
merged_holds (named_node by xs) (same_node to) r i h k = (h, All-nil _)
merged_holds (named_node by xs) int32_node r i h k = (h, All-nil _)
merged_holds (named_node by xs) unit_node r i h k = (h, All-nil _)
merged_holds (named_node by xs) (variable_node of) r i h k = (h, All-nil _)
merged_holds (named_node by xs) (named_node other ys) r i h k =
    (h, zip_holds r xs ys (both_named r i by other xs ys h k).1)

pub merged_back : (lower upper : NodeTree) (r : Assignment) (i : ℕ) → heads_agree lower upper ≡ true → Holds r i (merged lower upper) → PairsHold r (met lower upper) → Holds r i lower × Holds r i upper
merged_back any_node upper r i agree h pairs = (tt, h)
merged_back (same_node to) upper r i agree h pairs = cc
merged_back int32_node any_node r i agree h pairs = (h, tt)
merged_back int32_node int32_node r i agree h pairs = (h, h)
merged_back int32_node upper r i agree h pairs = cc
merged_back unit_node any_node r i agree h pairs = (h, tt)
merged_back unit_node unit_node r i agree h pairs = (h, h)
merged_back unit_node upper r i agree h pairs = cc
merged_back (variable_node of) any_node r i agree h pairs = (h, tt)
merged_back (variable_node of) (variable_node other) r i agree h pairs =
    (h, h ∙ ap type_variable (eqb-true of other agree))
merged_back (variable_node of) upper r i agree h pairs = cc
merged_back (named_node by xs) any_node r i agree h pairs = (h, tt)
merged_back (named_node by xs) (named_node other ys) r i agree h pairs =
    let parts = true_and (by == other) (length xs == length ys) agree in
    let same_by : by ≡ other = eqb-true by other parts.0 in
    let same : map r xs ≡ map r ys = zip_same r xs ys (eqb-true (length xs) (length ys) parts.1) pairs in
    let holds : Holds r i (named_node by xs) = h in
    (h, cc)
merged_back (named_node by xs) upper r i agree h pairs = cc

-- heads that do not agree are of two types
pub differ : (lower upper : NodeTree) (r : Assignment) (i : ℕ) → IsHead lower → IsHead upper → heads_agree lower upper ≡ false → Holds r i lower → Holds r i upper → ⊥
differ any_node upper r i low high apart h k = cc
differ (same_node to) upper r i low high apart h k = low
differ int32_node any_node r i low high apart h k = cc
differ int32_node (same_node to) r i low high apart h k = high
differ int32_node upper r i low high apart h k = cc
differ unit_node any_node r i low high apart h k = cc
differ unit_node (same_node to) r i low high apart h k = high
differ unit_node upper r i low high apart h k = cc
differ (variable_node of) (same_node to) r i low high apart h k = high
differ (variable_node of) (variable_node other) r i low high apart h k =
    let same : of ≡ other = cc in
    let told : (of == other) ≡ true = eq-eqb of other same in
    cc
differ (variable_node of) upper r i low high apart h k = cc
differ (named_node by xs) (same_node to) r i low high apart h k = high
differ (named_node by xs) (named_node other ys) r i low high apart h k =
    let same = both_named r i by other xs ys h k in
    let told : ((by == other) && (length xs == length ys)) ≡ true =
    both (by == other) (length xs == length ys) (eq-eqb by other same.0) (eq-eqb (length xs) (length ys) (same_length r xs ys same.1)) in
    cc
differ (named_node by xs) upper r i low high apart h k = cc

-- the arguments are counted
pub merged_parts : (lower upper : NodeTree) → parts (merged lower upper) + length (met lower upper) ≤ parts lower + parts upper
merged_parts any_node upper = omega arith
merged_parts (same_node to) upper = omega arith
merged_parts int32_node upper = omega arith
merged_parts unit_node upper = omega arith
merged_parts (variable_node of) upper = omega arith
merged_parts (named_node by xs) any_node = omega arith
merged_parts (named_node by xs) (same_node to) = omega arith
merged_parts (named_node by xs) int32_node = omega arith
merged_parts (named_node by xs) unit_node = omega arith
merged_parts (named_node by xs) (variable_node of) = omega arith
merged_parts (named_node by xs) (named_node other ys) = omega (arith, length-zip xs ys)

pub after_append : (r : Assignment) (xs ys : List Pair) → PairsHold r (xs ++ ys) → PairsHold r ys
after_append r xs ys hold = λ k d h.
    let long : length (xs ++ ys) ≡ length xs + length ys = length-append xs ys in
    let there : get_or (xs ++ ys) (length xs + k) d ≡ get_or ys k d = get_or-append-add xs ys k d in
    let P : Pair → Type 0 = λ p. r p.0 ≡ r p.1 in
    subst P there (hold (length xs + k) d (omega (arith, long, h)))

pub before_append : (r : Assignment) (xs ys : List Pair) → PairsHold r (xs ++ ys) → PairsHold r xs
before_append r xs ys hold = λ k d h.
    let P : Pair → Type 0 = λ p. r p.0 ≡ r p.1 in
    subst P (get_or_append_left xs ys d k h) (hold k d (omega (arith, length-append xs ys, h)))

zip_within : (size : ℕ) (xs ys : List ℕ) → All (λ x. x < size) xs → All (λ y. y < size) ys → AreWithin size (zip xs ys)
zip_within size [] ys below beneath = All-nil _
zip_within size (x ∷ xs) [] below beneath = All-nil _
zip_within size (x ∷ xs) (y ∷ ys) below beneath =
    let first : x < size = below 0 x (omega arith) in
    let second : y < size = beneath 0 y (omega arith) in
    λ k d h. elim k as (λ k. k < suc (length (zip xs ys)) → ((get_or ((x, y) ∷ zip xs ys) k d).0 < size) × ((get_or ((x, y) ∷ zip xs ys) k d).1 < size)) [
      | zero ↦ λ h. (first, second)
      | suc k ↦ λ h. zip_within size xs ys (λ k d h. below (suc k) d (omega (arith, h))) (λ k d h. beneath (suc k) d (omega (arith, h))) k d (omega (arith, h))
    ] h

pub met_within : (variables size i j : ℕ) (lower upper : NodeTree) → IsNodeFormed variables size i lower → IsNodeFormed variables size j upper → AreWithin size (met lower upper)
met_within variables size i j any_node upper low high = All-nil _
met_within variables size i j (same_node to) upper low high = All-nil _
met_within variables size i j int32_node upper low high = All-nil _
met_within variables size i j unit_node upper low high = All-nil _
met_within variables size i j (variable_node of) upper low high = All-nil _
met_within variables size i j (named_node by xs) any_node low high = All-nil _
met_within variables size i j (named_node by xs) (same_node to) low high = All-nil _
met_within variables size i j (named_node by xs) int32_node low high = All-nil _
met_within variables size i j (named_node by xs) unit_node low high = All-nil _
met_within variables size i j (named_node by xs) (variable_node of) low high = All-nil _
met_within variables size i j (named_node by xs) (named_node other ys) low high = zip_within size xs ys low high

-- a node that is not the same as another is formed at each place
pub head_formed : (variables size i j : ℕ) (node : NodeTree) → IsHead node → IsNodeFormed variables size i node → IsNodeFormed variables size j node
head_formed variables size i j any_node head formed = tt
head_formed variables size i j (same_node to) head formed = absurd head
head_formed variables size i j int32_node head formed = tt
head_formed variables size i j unit_node head formed = tt
head_formed variables size i j (variable_node of) head formed = formed
head_formed variables size i j (named_node by arguments) head formed = formed

pub merged_formed : (variables size i j : ℕ) (lower upper : NodeTree) → IsHead upper → IsNodeFormed variables size i lower → IsNodeFormed variables size j upper → IsNodeFormed variables size i (merged lower upper)
merged_formed variables size i j any_node upper head low high = head_formed variables size j i upper head high
merged_formed variables size i j (same_node to) upper head low high = low
merged_formed variables size i j int32_node upper head low high = tt
merged_formed variables size i j unit_node upper head low high = tt
merged_formed variables size i j (variable_node of) upper head low high = low
merged_formed variables size i j (named_node by xs) upper head low high = low

pub alike_refl : (graph : List NodeTree) → Alike graph graph
alike_refl graph = record {
  as_long = refl;
  as_heavy = refl;
  heads = λ i head. refl;
  formed = λ variables formed. formed;
  onward = λ r obeys. obeys;
  back = λ r obeys. obeys;
}

pub alike_then : (a b c : List NodeTree) → Alike a b → Alike b c → Alike a c
alike_then a b c first second = record {
  as_long = second.as_long ∙ first.as_long;
  as_heavy = second.as_heavy ∙ first.as_heavy;
  heads = λ i head.
      let P : NodeTree → Type 0 = IsHead in
      second.heads i (subst P (sym (first.heads i head)) head) ∙ first.heads i head;
  formed = λ variables formed. second.formed variables (first.formed variables formed);
  onward = λ r obeys. second.onward r (first.onward r obeys);
  back = λ r obeys. first.back r (second.back r obeys);
}

-- a node that is the same as another names an earlier one
pub same_earlier : (variables : ℕ) (graph : List NodeTree) (i to : ℕ) → IsFormed variables graph → i < length graph → node_at graph i ≡ same_node to → to < i
same_earlier variables graph i to formed lt is =
    let P : NodeTree → Type 0 = IsNodeFormed variables (length graph) i in
    subst P is (formed_at variables graph formed i lt)

pub same_holds : (graph : List NodeTree) (r : Assignment) (i to : ℕ) → Obeys graph r → node_at graph i ≡ same_node to → r i ≡ r to
same_holds graph r i to obeys is =
    let P : NodeTree → Type 0 = Holds r i in
    subst P is (obeyed_at graph r obeys i)

-- a node that is the same as one that is the same as a third is the same as the third
pub halved : (graph : List NodeTree) (i to next : ℕ) → i < length graph → to < i → node_at graph i ≡ same_node to → node_at graph to ≡ same_node next → Alike graph (set graph i (same_node next))
halved graph i to next lt earlier is then' = record {
  as_long = length-set graph i (same_node next);
  as_heavy =
      let light : parts (node_at graph i) ≡ 0 = ap parts is in
      omega (arith, sum_by-set parts graph i (same_node next) any_node lt, light);
  heads = λ k head.
      let P : NodeTree → Type 0 = IsHead in
      get_or-set_other graph i k (same_node next) any_node (λ same.
      let here : node_at graph k ≡ same_node to = ap (λ n. node_at graph n) same ∙ is in
      subst P here head);
  formed = λ variables formed.
      let before : next < to = same_earlier variables graph to next formed (omega (arith, earlier, lt)) then' in
      formed_set variables graph i (same_node next) formed (omega (arith, before, earlier));
  onward = λ r obeys.
      obeyed_set graph i (same_node next) r (same_holds graph r i to obeys is ∙ same_holds graph r to next obeys then') (λ k other. obeyed_at graph r obeys k);
  back = λ r obeys.
      let parts = obeyed_before graph i (same_node next) r obeys lt in
      let P : NodeTree → Type 0 = Holds r to in
      let further : r to ≡ r next = subst P then' (parts.1 to (λ same. absurd (omega (arith, same, earlier)))) in
      let Q : NodeTree → Type 0 = Holds r i in
      obeys_each graph i r (subst Q (sym is) (parts.0 ∙ sym further)) parts.1;
}

pub leads_refl : (graph : List NodeTree) (start : ℕ) → Leads graph graph start start
leads_refl graph start = record {
  alike = alike_refl graph;
  below = omega arith;
  same = λ r obeys. refl;
}

pub leads_on : (variables : ℕ) (old now : List NodeTree) (start i to : ℕ) → IsFormed variables old → Leads old now start i → i < length now → node_at now i ≡ same_node to → Leads old now start to
leads_on variables old now start i to formed leads lt is =
    let before : to < i = same_earlier variables now i to (leads.alike.formed variables formed) lt is in
    record {
      alike = leads.alike;
      below = omega (arith, before, leads.below);
      same = λ r obeys. leads.same r obeys ∙ same_holds now r i to (leads.alike.onward r obeys) is;
    }

pub leads_halved : (variables : ℕ) (old now : List NodeTree) (start i to next : ℕ) → IsFormed variables old → Leads old now start i → i < length now → node_at now i ≡ same_node to → node_at now to ≡ same_node next → Leads old (set now i (same_node next)) start to
leads_halved variables old now start i to next formed leads lt is further =
    let before : to < i = same_earlier variables now i to (leads.alike.formed variables formed) lt is in
    let on = leads_on variables old now start i to formed leads lt is in
    record {
      alike = alike_then old now (set now i (same_node next)) leads.alike (halved now i to next lt before is further);
      below = on.below;
      same = on.same;
    }

-- two nodes with heads that agree become one type
linked_obeys : (graph : List NodeTree) (low high : ℕ) (r : Assignment) → low < high → high < length graph → Obeys graph r → r low ≡ r high → Obeys (linked graph low high) r × PairsHold r (met (node_at graph low) (node_at graph high))
linked_obeys graph low high r lt within obeys same =
    let lower = node_at graph low in
    let upper = node_at graph high in
    let first = set graph high (same_node low) in
    let holds = merged_holds lower upper r low (obeyed_at graph r obeys low) (holds_moved r high low upper (sym same) (obeyed_at graph r obeys high)) in
    let between : Obeys first r = obeyed_set graph high (same_node low) r (sym same) (λ k other. obeyed_at graph r obeys k) in
    (obeyed_set first low (merged lower upper) r holds.0 (λ k other. obeyed_at first r between k), holds.1)

linked_back : (graph : List NodeTree) (low high : ℕ) (r : Assignment) → low < high → high < length graph → heads_agree (node_at graph low) (node_at graph high) ≡ true → Obeys (linked graph low high) r → PairsHold r (met (node_at graph low) (node_at graph high)) → Obeys graph r × (r low ≡ r high)
linked_back graph low high r lt within agree obeys pairs =
    let lower = node_at graph low in
    let upper = node_at graph high in
    let first = set graph high (same_node low) in
    let long : length first ≡ length graph = length-set graph high (same_node low) in
    let after = obeyed_before first low (merged lower upper) r obeys (omega (arith, long, lt, within)) in
    let P : NodeTree → Type 0 = Holds r high in
    let same : r high ≡ r low = subst P (set_at graph high high (same_node low) refl within) (after.1 high (λ e. absurd (omega (arith, e, lt)))) in
    let holds = merged_back lower upper r low agree after.0 pairs in
    let others : (k : ℕ) → k ≢ high → Holds r k (node_at graph k) = λ k other.
    elim (cases_eq k low) [
      | inl is ↦ (let Q : ℕ → Type 0 = λ n. Holds r n (node_at graph n) in subst Q (sym is) holds.0)
      | inr else' ↦ (let Q : NodeTree → Type 0 = Holds r k in subst Q (get_or-set_other graph high k (same_node low) any_node other) (after.1 k else'))
    ] in
    (obeys_each graph high r (holds_moved r low high upper (sym same) holds.1) others, sym same)

pub linked_steps : (variables : ℕ) (graph : List NodeTree) (pairs : List Pair) (low high : ℕ) → IsFormed variables graph → low < high → high < length graph → heads_agree (node_at graph low) (node_at graph high) ≡ true → Steps graph pairs low high (linked graph low high) (pairs ++ met (node_at graph low) (node_at graph high))
linked_steps variables graph pairs low high formed lt within agree =
    let lower = node_at graph low in
    let upper = node_at graph high in
    let first = set graph high (same_node low) in
    let long : length first ≡ length graph = length-set graph high (same_node low) in
    let as_long : length (linked graph low high) ≡ length graph = length-set first low (merged lower upper) ∙ long in
    record {
      as_long = as_long;
      lighter =
          let there : node_at first low ≡ lower = get_or-set_other graph high low (same_node low) any_node (λ e. omega (arith, e, lt)) in
          let same : parts (node_at first low) ≡ parts lower = ap parts there in
          omega (arith, sum_by-set parts graph high (same_node low) any_node within, sum_by-set parts first low (merged lower upper) any_node (omega (arith, long, lt, within)), same, merged_parts lower upper, length-append pairs (met lower upper));
      within = λ below.
          let P : ℕ → Type 0 = λ n. AreWithin n (pairs ++ met lower upper) in
          subst P (sym as_long) (All-append (λ (x : Pair). (x.0 < length graph) × (x.1 < length graph)) pairs (met lower upper) below (met_within variables (length graph) low high lower upper (formed_at variables graph formed low (omega (arith, lt, within))) (formed_at variables graph formed high within)));
      onward = λ r obeys same hold.
          let after = linked_obeys graph low high r lt within obeys same in
          (after.0, All-append (λ (x : Pair). r x.0 ≡ r x.1) pairs (met lower upper) hold after.1);
      back = λ r obeys hold.
          let before = linked_back graph low high r lt within agree obeys (after_append r pairs (met lower upper) hold) in
          (before.0, before.1, before_append r pairs (met lower upper) hold);
    }

pub linked_formed : (variables : ℕ) (graph : List NodeTree) (low high : ℕ) (node : NodeTree) → IsFormed variables graph → low < high → high < length graph → IsNodeFormed variables (length graph) low node → IsFormed variables (set (set graph high (same_node low)) low node)
linked_formed variables graph low high node formed lt within here =
    let first = set graph high (same_node low) in
    let P : ℕ → Type 0 = λ n. IsNodeFormed variables n low node in
    formed_set variables first low node (formed_set variables graph high (same_node low) formed lt) (subst P (sym (length-set graph high (same_node low))) here)

pub linked_clash : (graph : List NodeTree) (low high : ℕ) → IsHead (node_at graph low) → IsHead (node_at graph high) → heads_agree (node_at graph low) (node_at graph high) ≡ false → Clashes graph low high
linked_clash graph low high lower upper apart = λ r obeys same.
    differ (node_at graph low) (node_at graph high) r low lower upper apart (obeyed_at graph r obeys low) (holds_moved r high low (node_at graph high) (sym same) (obeyed_at graph r obeys high))
