-- The lines of forms that touch cells: no label stands in them, they are few, and before well-formed code they are well formed.
use Rattle.std.proofs.Common.{
  ◌≡◌,
  ℕ,
  suc,
  ◌+◌,
  ◌*◌,
  ◌<◌,
  ◌≤◌,
  ◌==◌,
  inl,
  inr,
  Bool,
  true,
  false,
  List,
  [],
  ◌∷◌,
  ◌++◌,
  length,
  None,
  Some,
  refl,
  sym,
  subst,
  arith,
}
use Rattle.kk_counted.specs.Lowerable.{AreBelow, bound_list}
use Rattle.std.specs.Prelude.{filter, if◌then◌else◌}
use Rattle.std.proofs.lemmas.Bool.{eq-eqb, or_left, or_right}
use Rattle.std.proofs.lemmas.List.Elements.{All-nil}
use Rattle.kk_core.specs.Sizes.{AreBound}
use Rattle.kk_syntax.specs.Shapes.{is_among as is_bound}
use Rattle.rv_isa.specs.declared.asm.Action.TheVariants.{Compute, Routine}
use Rattle.rv_isa.specs.declared.asm.Operation.{Operation}
use Rattle.rv_isa.specs.declared.asm.Operation.TheVariants as Op
use Rattle.rv_isa.specs.declared.routine.Routine.TheVariants.{Take, Drop}
use Rattle.rv_isa.specs.AsmCode.{Line}
use Rattle.rv_isa.specs.WellFormed.{most_values, IsSpent, IsLineFormed}
use Rattle.rv_lower.specs.Lines.{sets, acts}
use Rattle.rv_lower.proofs.WellFormedness.{
  Each,
  Readable,
  formed_more,
  Good,
  HasRoom,
  room_more,
  all_each,
  alive_line,
  to_variable,
  variable_left,
  readable_small,
  readable_more,
  some_same,
  most_temporaries,
  formed_effect,
}
use Rattle.rv_lower.proofs.Operations.{Leads, leads_then, leads_weaker, next_temporary}
use Rattle.rv_cells.specs.CellLines.{Loads, Stores, AllLoads, AllStores, StoresIf, SomeStores, dup_lines, drop_lines, dups_lines, drops_lines}
use Rattle.rv_cells.specs.CellLines.{SetIf, SomeWords, ConstructLines}
use Rattle.rv_cells.specs.Layout.{first_field}

-- an operation that gives no value, and a drop
good_effect : (B : ℕ → Type 0) (operation : Operation) (args : List ℕ) (rest : List Line) → length args ≤ 2 → Each B args
    → ((v : ℕ) → B v → v < most_values) → Good B rest → Good B (acts (Compute operation) args ∷ rest)
good_effect B operation args rest few each small good = record {
  formed = formed_more (acts (Compute operation) args) rest
      (formed_effect (Compute operation) args rest tt few refl (all_each B (λ v. v < most_values) args small each)) tt good.formed;
  alive = alive_line B (acts (Compute operation) args) rest each (λ v other is. good.alive v is);
}

good_drop : (B : ℕ → Type 0) (x : ℕ) (rest : List Line) → B x → ((v : ℕ) → B v → v < most_values) → Good B rest
    → Good B (acts (Routine Drop) (x ∷ []) ∷ rest)
good_drop B x rest is small good = record {
  formed = formed_more (acts (Routine Drop) (x ∷ [])) rest
      (formed_effect (Routine Drop) (x ∷ []) rest tt (omega arith) refl
      (all_each B (λ v. v < most_values) (x ∷ []) small (is, tt))) tt good.formed;
  alive = alive_line B (acts (Routine Drop) (x ∷ [])) rest (is, tt) (λ v other is. good.alive v is);
}

module _ (base : ℕ) where
  -- what may be read with no temporary, and with those below a limit
  abbrev pub Bound : List ℕ → ℕ → Type 0
  Bound bound = Readable base base bound

  pub effect : (bound : List ℕ) (limit : ℕ) (operation : Operation) (args : List ℕ) → HasRoom base bound
      → limit ≤ base + most_temporaries
      → length args ≤ 2
      → Each (Readable base limit bound) args
      → Leads (Readable base limit bound) (Readable base limit bound) 1 (acts (Compute operation) args ∷ [])
  effect bound limit operation args has le few each = record {
    no_label = λ l. (refl, tt);
    few = omega arith;
    good = λ rest good. good_effect (Readable base limit bound) operation args rest few each
        (readable_small base limit bound has le) good;
  }

  -- a field is loaded, and all fields are
  pub one_load : (bound : List ℕ) (cell i x : ℕ) (line : Line) → HasRoom base bound → is_bound bound cell ≡ true → x < base
      → Loads cell i x line → Leads (Bound bound) (Bound (x ∷ bound)) 1 (line ∷ [])
  one_load bound cell i x line has is less loads =
      subst (λ l. Leads (Bound bound) (Bound (x ∷ bound)) 1 (l ∷ [])) (sym loads.2)
      (record {
        no_label = λ l. (refl, tt);
        few = omega arith;
        good = λ rest good. to_variable base base bound (Op.Lw loads.0) (cell ∷ []) x rest has (omega arith) refl (omega arith)
            (inl is, tt) less good;
      })

  pub loads_lead : (bound : List ℕ) (cell i : ℕ) (xs : List ℕ) (lines : List Line) → HasRoom base bound → is_bound bound cell ≡ true
      → AreBelow base xs → AllLoads cell i xs lines → Leads (Bound bound) (Bound (bound_list xs bound)) (length xs) lines
  loads_lead bound cell i [] lines has is below loads =
      subst (Leads (Bound bound) (Bound bound) 0) (sym loads)
      (record { no_label = λ l. tt; few = omega arith; good = λ rest good. good })
  loads_lead bound cell i (x ∷ xs) lines has is below loads =
      subst (Leads (Bound bound) (Bound (bound_list xs (x ∷ bound))) (suc (length xs))) (sym loads.4)
      (subst (λ n. Leads (Bound bound) (Bound (bound_list xs (x ∷ bound))) n (loads.0 ∷ loads.1)) (one_more (length xs))
      (leads_then (Bound bound) (Bound (x ∷ bound)) (Bound (bound_list xs (x ∷ bound))) 1 (length xs) (loads.0 ∷ []) loads.1
      (one_load bound cell i x loads.0 has is below.0 loads.2)
      (loads_lead (x ∷ bound) cell (suc i) xs loads.1 (room_more base bound x has below.0)
      (or_right _ (is_bound bound cell) is) below.1 loads.3)))
    where
      one_more : (n : ℕ) → 1 + n ≡ suc n
      one_more n = omega arith

  -- a word is stored, and all fields are
  pub one_store : (bound : List ℕ) (limit cell i from : ℕ) (line : Line) → HasRoom base bound → limit ≤ base + most_temporaries
      → Readable base limit bound cell → Readable base limit bound from → Stores cell i from line
      → Leads (Readable base limit bound) (Readable base limit bound) 1 (line ∷ [])
  one_store bound limit cell i from line has le is is_from stores =
      subst (λ l. Leads (Readable base limit bound) (Readable base limit bound) 1 (l ∷ [])) (sym stores.2)
      (effect bound limit (Op.Sw stores.0) (cell ∷ from ∷ []) has le (omega arith) (is, (is_from, tt)))

  pub stores_lead : (bound : List ℕ) (limit cell i : ℕ) (xs : List ℕ) (lines : List Line) → HasRoom base bound
      → limit ≤ base + most_temporaries
      → is_bound bound cell ≡ true → AreBound bound xs → AllStores cell i xs lines
      → Leads (Readable base limit bound) (Readable base limit bound) (length xs) lines
  stores_lead bound limit cell i [] lines has le is are stores =
      subst (Leads (Readable base limit bound) (Readable base limit bound) 0) (sym stores)
      (record { no_label = λ l. tt; few = omega arith; good = λ rest good. good })
  stores_lead bound limit cell i (x ∷ xs) lines has le is are stores =
      subst (Leads (Readable base limit bound) (Readable base limit bound) (suc (length xs))) (sym stores.4)
      (subst (λ n. Leads (Readable base limit bound) (Readable base limit bound) n (stores.0 ∷ stores.1)) (one_more (length xs))
      (leads_then (Readable base limit bound) (Readable base limit bound) (Readable base limit bound) 1 (length xs) (stores.0 ∷ [])
      stores.1 (one_store bound limit cell i x stores.0 has le (inl is) (inl are.0) stores.2)
      (stores_lead bound limit cell (suc i) xs stores.1 has le is are.1 stores.3)))
    where
      one_more : (n : ℕ) → 1 + n ≡ suc n
      one_more n = omega arith

  -- some words are stored
  pub some_lead : (takes : ℕ → Bool) (bound : List ℕ) (limit cell i position : ℕ) (xs : List ℕ) (lines : List Line)
      → HasRoom base bound → limit ≤ base + most_temporaries → is_bound bound cell ≡ true → AreBound bound xs
      → SomeStores takes cell i position xs lines
      → Leads (Readable base limit bound) (Readable base limit bound) (length xs) lines
  some_lead takes bound limit cell i position [] lines has le is are stores =
      subst (Leads (Readable base limit bound) (Readable base limit bound) 0) (sym stores)
      (record { no_label = λ l. tt; few = omega arith; good = λ rest good. good })
  some_lead takes bound limit cell i position (x ∷ xs) lines has le is are stores =
      subst (Leads (Readable base limit bound) (Readable base limit bound) (suc (length xs))) (sym stores.4)
      (subst (λ n. Leads (Readable base limit bound) (Readable base limit bound) n (stores.0 ++ stores.1)) (one_more (length xs))
      (leads_then (Readable base limit bound) (Readable base limit bound) (Readable base limit bound) 1 (length xs) stores.0
      stores.1 (by (takes position) stores.2)
      (some_lead takes bound limit cell (suc i) (suc position) xs stores.1 has le is are.1 stores.3)))
    where
      one_more : (n : ℕ) → 1 + n ≡ suc n
      one_more n = omega arith

      by : (b : Bool) → StoresIf b cell i x stores.0
          → Leads (Readable base limit bound) (Readable base limit bound) 1 stores.0
      by true first =
          subst (Leads (Readable base limit bound) (Readable base limit bound) 1) (sym first.2)
          (one_store bound limit cell i x first.0 has le (inl is) (inl are.0) first.1)
      by false first =
          subst (Leads (Readable base limit bound) (Readable base limit bound) 1) (sym first)
          (record { no_label = λ l. tt; few = omega arith; good = λ rest good. good })

  -- a reference more, and one less
  pub dup_leads : (bound : List ℕ) (holds : ℕ → Bool) (x : ℕ) → HasRoom base bound → is_bound bound x ≡ true
      → Leads (Bound bound) (Bound bound) 1 (dup_lines holds x)
  dup_leads bound holds x has is = by (holds x) refl
    where
      by : (h : Bool) → holds x ≡ h → Leads (Bound bound) (Bound bound) 1 (dup_lines holds x)
      by true same = subst (λ h. Leads (Bound bound) (Bound bound) 1 (if h then acts (Compute Op.Dup) (x ∷ []) ∷ [] else []))
          (sym same)
          (effect bound base Op.Dup (x ∷ []) has (omega arith) (omega arith) (inl is, tt))
      by false same = subst (λ h. Leads (Bound bound) (Bound bound) 1 (if h then acts (Compute Op.Dup) (x ∷ []) ∷ [] else []))
          (sym same)
          (record { no_label = λ l. tt; few = omega arith; good = λ rest good. good })

  pub drop_leads : (bound : List ℕ) (holds : ℕ → Bool) (x : ℕ) → HasRoom base bound → is_bound bound x ≡ true
      → Leads (Bound bound) (Bound bound) 1 (drop_lines holds x)
  drop_leads bound holds x has is = by (holds x) refl
    where
      dropped : Leads (Bound bound) (Bound bound) 1 (acts (Routine Drop) (x ∷ []) ∷ [])
      dropped = record {
        no_label = λ l. (refl, tt);
        few = omega arith;
        good = λ rest good. good_drop (Bound bound) x rest (inl is) (readable_small base base bound has (omega arith)) good;
      }

      by : (h : Bool) → holds x ≡ h → Leads (Bound bound) (Bound bound) 1 (drop_lines holds x)
      by true same = subst (λ h. Leads (Bound bound) (Bound bound) 1 (if h then acts (Routine Drop) (x ∷ []) ∷ [] else []))
          (sym same) dropped
      by false same = subst (λ h. Leads (Bound bound) (Bound bound) 1 (if h then acts (Routine Drop) (x ∷ []) ∷ [] else []))
          (sym same) (record { no_label = λ l. tt; few = omega arith; good = λ rest good. good })

  pub dups_lead : (bound : List ℕ) (holds : ℕ → Bool) (xs : List ℕ) → HasRoom base bound → AreBound bound xs
      → Leads (Bound bound) (Bound bound) (length xs) (dups_lines holds xs)
  dups_lead bound holds [] has are = record { no_label = λ l. tt; few = omega arith; good = λ rest good. good }
  dups_lead bound holds (x ∷ xs) has are =
      leads_weaker (Bound bound) (Bound bound) (Bound bound) (Bound bound) (1 + length xs) (suc (length xs))
      (dups_lines holds (x ∷ xs))
      (λ v is. is) (λ v is. is) (omega arith)
      (leads_then (Bound bound) (Bound bound) (Bound bound) 1 (length xs) (dup_lines holds x) (dups_lines holds xs)
      (dup_leads bound holds x has are.0) (dups_lead bound holds xs has are.1))

  pub drops_lead : (bound : List ℕ) (holds : ℕ → Bool) (xs : List ℕ) → HasRoom base bound → AreBound bound xs
      → Leads (Bound bound) (Bound bound) (length xs) (drops_lines holds xs)
  drops_lead bound holds [] has are = record { no_label = λ l. tt; few = omega arith; good = λ rest good. good }
  drops_lead bound holds (x ∷ xs) has are =
      leads_weaker (Bound bound) (Bound bound) (Bound bound) (Bound bound) (1 + length xs) (suc (length xs))
      (drops_lines holds (x ∷ xs)) (λ v is. is) (λ v is. is) (omega arith)
      (leads_then (Bound bound) (Bound bound) (Bound bound) 1 (length xs) (drop_lines holds x) (drops_lines holds xs)
      (drop_leads bound holds x has are.0) (drops_lead bound holds xs has are.1))

  -- a cell is taken
  pub take_formed : (bound : List ℕ) (x : ℕ) (rest : List Line) → HasRoom base bound → x < base
      → IsLineFormed (record { action = Routine Take; args = []; into = Some x }) rest
  take_formed bound x rest has less = record {
    labels = tt;
    few = omega arith;
    gives = λ _. refl;
    distinct = λ _. tt;
    spent = λ _. All-nil (IsSpent (record { action = Routine Take; args = []; into = Some x }) rest);
    args_small = All-nil (λ v. v < most_values);
    into_small = λ v is. subst (λ (y : ℕ). y < most_values) (some_same is) (omega (arith, less, has.room));
  }

  pub take_leads : (bound : List ℕ) (x : ℕ) → HasRoom base bound → x < base
      → Leads (Bound bound) (Bound (x ∷ bound)) 1 (record { action = Routine Take; args = []; into = Some x } ∷ [])
  take_leads bound x has less = record {
    no_label = λ l. (refl, tt);
    few = omega arith;
    good = λ rest good. record {
      formed = formed_more (record { action = Routine Take; args = []; into = Some x }) rest (take_formed bound x rest has less) tt
          good.formed;
      alive = alive_line (Bound bound) (record { action = Routine Take; args = []; into = Some x }) rest tt
          (λ v other is. variable_left base base bound x v (good.alive v is) other);
    };
  }

  -- its words are stored, those of the fields by lines that lead on
  build_with : (bound : List ℕ) (x header : ℕ) (arguments : List ℕ) (head count : Line) (stores : List Line)
      → HasRoom base bound → is_bound bound x ≡ true → Stores x 1 base head
      → Leads (Readable base (base + 1) bound) (Readable base (base + 1) bound) (length arguments) stores → Stores x 0 base count
      → Leads (Bound bound) (Bound bound) (4 + length arguments) (sets header base ∷ head ∷ (stores ++ sets 1 base ∷ count ∷ []))
  build_with bound x header arguments head count stores room here heads stored counts =
      leads_weaker (Bound bound) (Bound bound) (Bound bound) (Bound bound) (1 + (1 + (length arguments + (1 + 1))))
      (4 + length arguments) (sets header base ∷ head ∷ (stores ++ sets 1 base ∷ count ∷ [])) (λ v is. is) (λ v is. is)
      (omega arith) (leads_then (Bound bound) Word (Bound bound) 1 (1 + (length arguments + (1 + 1))) (sets header base ∷ [])
      (head ∷ (stores ++ sets 1 base ∷ count ∷ []))
      (next_temporary base bound room base (Op.Li header) [] (omega arith) refl (omega arith) tt)
      (leads_then Word Word (Bound bound) 1 (length arguments + (1 + 1)) (head ∷ []) (stores ++ sets 1 base ∷ count ∷ [])
      (one_store bound (base + 1) x 1 base head room (omega arith) (inl here) (inr (omega arith, omega arith)) heads)
      (leads_then Word Word (Bound bound) (length arguments) (1 + 1) stores (sets 1 base ∷ count ∷ []) stored
      (leads_then Word Word (Bound bound) 1 1 (sets 1 base ∷ []) (count ∷ [])
      (leads_weaker (Bound bound) Word Word Word 1 1 (sets 1 base ∷ [])
      (λ v is. readable_more base base (base + 1) bound (omega arith) v is) (λ v is. is) (omega arith)
      (next_temporary base bound room base (Op.Li 1) [] (omega arith) refl (omega arith) tt))
      (leads_weaker Word Word Word (Bound bound) 1 1 (count ∷ []) (λ v is. is)
      (λ v is. readable_more base base (base + 1) bound (omega arith) v is) (omega arith)
      (one_store bound (base + 1) x 0 base count room (omega arith) (inl here) (inr (omega arith, omega arith)) counts))))))
    where
      Word : ℕ → Type 0
      Word = Readable base (base + 1) bound

  pub build_leads : (bound : List ℕ) (x header : ℕ) (arguments : List ℕ) (head count : Line) (stores : List Line)
      → HasRoom base bound → is_bound bound x ≡ true → AreBound bound arguments → Stores x 1 base head
      → AllStores x first_field arguments stores → Stores x 0 base count
      → Leads (Bound bound) (Bound bound) (4 + length arguments) (sets header base ∷ head ∷ (stores ++ sets 1 base ∷ count ∷ []))
  build_leads bound x header arguments head count stores room here are heads all_stores counts =
      build_with bound x header arguments head count stores room here heads
      (stores_lead bound (base + 1) x 2 arguments stores room (omega arith) here are all_stores) counts

  -- a word is stored by a temporary, or none is
  set_leads : (bound : List ℕ) (b : Bool) (x i word : ℕ) (lines : List Line) → HasRoom base bound → is_bound bound x ≡ true
      → SetIf b base x i word lines → Leads (Bound bound) (Bound bound) 2 lines
  set_leads bound true x i word lines room here own =
      subst (Leads (Bound bound) (Bound bound) 2) (sym own.2)
      (leads_then (Bound bound) (Readable base (base + 1) bound) (Bound bound) 1 1 (sets word base ∷ []) (own.0 ∷ [])
      (next_temporary base bound room base (Op.Li word) [] (omega arith) refl (omega arith) tt)
      (leads_weaker (Readable base (base + 1) bound) (Readable base (base + 1) bound) (Readable base (base + 1) bound) (Bound bound)
      1 1 (own.0 ∷ []) (λ v is. is) (λ v is. readable_more base base (base + 1) bound (omega arith) v is) (omega arith)
      (one_store bound (base + 1) x i base own.0 room (omega arith) (inl here) (inr (omega arith, omega arith)) own.1)))
  set_leads bound false x i word lines room here own =
      subst (Leads (Bound bound) (Bound bound) 2) (sym own)
      (record { no_label = λ l. tt; few = omega arith; good = λ rest good. good })

  -- some words of a construction
  pub words_lead : (bound : List ℕ) (head count : Bool) (takes : ℕ → Bool) (x header : ℕ) (arguments : List ℕ) (lines : List Line)
      → HasRoom base bound → is_bound bound x ≡ true → AreBound bound arguments
      → SomeWords head count takes base x header arguments lines
      → Leads (Bound bound) (Bound bound) (4 + length arguments) lines
  words_lead bound head count takes x header arguments lines room here are own =
      subst (Leads (Bound bound) (Bound bound) (4 + length arguments)) (sym own.6)
      (leads_weaker (Bound bound) (Bound bound) (Bound bound) (Bound bound) (2 + (length arguments + 2)) (4 + length arguments)
      (own.0 ++ (own.1 ++ own.2)) (λ v is. is) (λ v is. is) (omega arith)
      (leads_then (Bound bound) (Bound bound) (Bound bound) 2 (length arguments + 2) own.0 (own.1 ++ own.2)
      (set_leads bound head x 1 header own.0 room here own.3)
      (leads_then (Bound bound) (Bound bound) (Bound bound) (length arguments) 2 own.1 own.2
      (some_lead takes bound base x first_field 0 arguments own.1 room (omega arith) here are own.4)
      (set_leads bound count x 0 1 own.2 room here own.5))))

  pub bound_later : (bound : List ℕ) (x : ℕ) (xs : List ℕ) → AreBound bound xs → AreBound (x ∷ bound) xs
  bound_later bound x [] are = tt
  bound_later bound x (y ∷ xs) are = (or_right (x == y) (is_bound bound y) are.0, bound_later bound x xs are.1)

  -- a construction
  pub construct_leads : (bound : List ℕ) (x header : ℕ) (arguments : List ℕ) (lines : List Line) → HasRoom base bound → x < base
      → AreBound bound arguments → ConstructLines base x header arguments lines
      → Leads (Bound bound) (Bound (x ∷ bound)) (5 + length arguments) lines
  construct_leads bound x header arguments lines has less are own =
      subst (Leads (Bound bound) (Bound (x ∷ bound)) (5 + length arguments)) (sym own.6)
      (leads_weaker (Bound bound) (Bound bound) (Bound (x ∷ bound)) (Bound (x ∷ bound)) (1 + (4 + length arguments))
      (5 + length arguments)
      (record { action = Routine Take; args = []; into = Some x } ∷ sets header base ∷ own.0 ∷ (own.1 ++ sets 1 base ∷ own.2 ∷ []))
      (λ v is. is) (λ v is. is) (omega arith)
      (leads_then (Bound bound) (Bound (x ∷ bound)) (Bound (x ∷ bound)) 1 (4 + length arguments)
      (record { action = Routine Take; args = []; into = Some x } ∷ [])
      (sets header base ∷ own.0 ∷ (own.1 ++ sets 1 base ∷ own.2 ∷ []))
      (take_leads bound x has less)
      (build_leads (x ∷ bound) x header arguments own.0 own.2 own.1 (room_more base bound x has less)
      (or_left (x == x) (is_bound bound x) (eq-eqb x x refl)) (bound_later bound x arguments are) own.3 own.4 own.5)))

  -- what is bound behind fields
  pub room_list : (bound xs : List ℕ) → HasRoom base bound → AreBelow base xs → HasRoom base (bound_list xs bound)
  room_list bound [] has below = has
  room_list bound (x ∷ xs) has below = room_list (x ∷ bound) xs (room_more base bound x has below.0) below.1

pub kept_list : (bound xs : List ℕ) (y : ℕ) → is_bound bound y ≡ true → is_bound (bound_list xs bound) y ≡ true
kept_list bound [] y is = is
kept_list bound (x ∷ xs) y is = kept_list (x ∷ bound) xs y (or_right (x == y) (is_bound bound y) is)

pub bound_fields : (bound xs : List ℕ) → AreBound (bound_list xs bound) xs
bound_fields bound [] = tt
bound_fields bound (x ∷ xs) =
    (kept_list (x ∷ bound) xs x (or_left (x == x) (is_bound bound x) (eq-eqb x x refl)), bound_fields (x ∷ bound) xs)

pub bound_filter : (bound : List ℕ) (p : ℕ → Bool) (xs : List ℕ) → AreBound bound xs
    → AreBound bound (filter p xs) × (length (filter p xs) ≤ length xs)
bound_filter bound p [] are = (tt, omega arith)
bound_filter bound p (x ∷ xs) are = by (p x) (bound_filter bound p xs are.1)
  where
    by : (t : Bool) → AreBound bound (filter p xs) × (length (filter p xs) ≤ length xs)
        → AreBound bound (if t then x ∷ filter p xs else filter p xs)
        × (length (if t then x ∷ filter p xs else filter p xs) ≤ suc (length xs))
    by true more = ((are.0, more.0), omega (arith, more.1))
    by false more = (more.0, omega (arith, more.1))
