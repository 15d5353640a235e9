-- Values whose constructors are by other numbers: the images of values, of cells and of environments. Nothing else changes,
-- so the same places are live.
use Rattle.std.proofs.Common.{◌≡◌, ℕ, zero, suc, Bool, true, false, ◌||◌, List, [], ◌∷◌, ◌++◌, length, map, Option, Some, None, option_map, refl, sym, ap, ◌∙◌}
use Rattle.std.specs.Prelude.{if◌then◌else◌, ◌==◌, slice_get}
use Rattle.std.specs.List.{list_any}
use Rattle.std.proofs.lemmas.List.{map-append, length-map}
use Rattle.std.proofs.lemmas.Option.{slice_get-map}
use Rattle.kk_source.specs.FormEffects.{argument}
use Rattle.kk_source.specs.Live.{value_of, fields_in, is_place, fields_of, fields_of_all, is_found, is_live, counted, live}
use Rattle.kk_source.specs.State.{Value, integer, unit, constant, place, Cell, Store, Binding, Environment}
use Rattle.kk_source.specs.Step.{bind, bind_parameters, lent_places}
use Rattle.kk_source.proofs.Live.{counted_alike}
use Rattle.kk_mono.specs.Instances.{Renaming}

module _ (new : Renaming) where
  abbrev pub image : Value → Value
  image (integer n) = integer n
  image unit = unit
  image (constant c) = constant (new.constructors c)
  image (place at) = place at

  abbrev pub images : List Value → List Value
  images vs = map image vs

  abbrev pub cell_image : Cell → Cell
  cell_image cell = record { made_by = new.constructors cell.made_by; fields = images cell.fields }

  abbrev pub store_image : Store → Store
  store_image store = map cell_image store

  abbrev pub binding_image : Binding → Binding
  binding_image binding = record { variable = binding.variable; value = image binding.value }

  abbrev pub environment_image : Environment → Environment
  environment_image env = map binding_image env

  -- ---- environments

  pub image_of_variable : (env : Environment) (x : ℕ) → value_of (environment_image env) x ≡ image (value_of env x)
  image_of_variable [] x = refl
  image_of_variable (binding ∷ env) x = by_test (binding.variable == x) (image_of_variable env x)
    where
      by_test : (same : Bool) → value_of (environment_image env) x ≡ image (value_of env x)
          → (if same then image binding.value else value_of (environment_image env) x)
          ≡ image (if same then binding.value else value_of env x)
      by_test true later = refl
      by_test false later = later

  pub image_of_variables : (env : Environment) (xs : List ℕ) → map (value_of (environment_image env)) xs
      ≡ images (map (value_of env) xs)
  image_of_variables env [] = refl
  image_of_variables env (x ∷ xs) = rw (image_of_variable env x, image_of_variables env xs) refl

  pub image_of_bound : (x : Option ℕ) (v : Value) (env : Environment) → bind x (image v) (environment_image env)
      ≡ environment_image (bind x v env)
  image_of_bound None v env = refl
  image_of_bound (Some x) v env = refl

  pub image_of_parameters : (next : ℕ) (vs : List Value) (env : Environment)
      → bind_parameters next (images vs) (environment_image env) ≡ environment_image (bind_parameters next vs env)
  image_of_parameters next [] env = refl
  image_of_parameters next (v ∷ vs) env = image_of_parameters (suc next) vs (record { variable = next; value = v } ∷ env)

  pub image_of_argument : (vs : List Value) (i : ℕ) → argument i (images vs) ≡ image (argument i vs)
  image_of_argument [] i = refl
  image_of_argument (v ∷ vs) zero = refl
  image_of_argument (v ∷ vs) (suc i) = image_of_argument vs i

  pub image_of_lent : (lent : ℕ → Bool) (next : ℕ) (vs : List Value) → lent_places lent next (images vs)
      ≡ images (lent_places lent next vs)
  image_of_lent lent next [] = refl
  image_of_lent lent next (integer n ∷ vs) = image_of_lent lent (suc next) vs
  image_of_lent lent next (unit ∷ vs) = image_of_lent lent (suc next) vs
  image_of_lent lent next (constant c ∷ vs) = image_of_lent lent (suc next) vs
  image_of_lent lent next (place at ∷ vs) = by_test (lent next) (image_of_lent lent (suc next) vs)
    where
      by_test : (kept : Bool) → lent_places lent (suc next) (images vs) ≡ images (lent_places lent (suc next) vs)
          → (if kept then place at ∷ lent_places lent (suc next) (images vs) else lent_places lent (suc next) (images vs))
          ≡ images (if kept then place at ∷ lent_places lent (suc next) vs else lent_places lent (suc next) vs)
      by_test true later = ap (λ ws. place at ∷ ws) later
      by_test false later = later

  -- ---- live places

  fields_in_image : (found : Option Cell) → fields_in (option_map cell_image found) ≡ images (fields_in found)
  fields_in_image None = refl
  fields_in_image (Some cell) = refl

  image_of_fields : (store : Store) (v : Value) → fields_of (store_image store) (image v) ≡ images (fields_of store v)
  image_of_fields store (integer n) = refl
  image_of_fields store unit = refl
  image_of_fields store (constant c) = refl
  image_of_fields store (place at) = ap fields_in (slice_get-map cell_image store at) ∙ fields_in_image (slice_get store at)

  image_of_all_fields : (store : Store) (vs : List Value) → fields_of_all (store_image store) (images vs)
      ≡ images (fields_of_all store vs)
  image_of_all_fields store [] = refl
  image_of_all_fields store (v ∷ vs) =
      ap (λ ws. ws ++ fields_of_all (store_image store) (images vs)) (image_of_fields store v)
      ∙ (ap (λ ws. images (fields_of store v) ++ ws) (image_of_all_fields store vs)
      ∙ sym (map-append image (fields_of store v) (fields_of_all store vs)))

  is_place_image : (at : ℕ) (v : Value) → is_place at (image v) ≡ is_place at v
  is_place_image at (integer n) = refl
  is_place_image at unit = refl
  is_place_image at (constant c) = refl
  is_place_image at (place other) = refl

  any_image : (goal : ℕ) (vs : List Value) → list_any (is_place goal) (images vs) ≡ list_any (is_place goal) vs
  any_image goal [] = refl
  any_image goal (v ∷ vs) = rw (is_place_image goal v, any_image goal vs) refl

  found_image : (rounds : ℕ) (store : Store) (vs : List Value) (goal : ℕ)
      → is_found rounds (store_image store) (images vs) goal ≡ is_found rounds store vs goal
  found_image zero store vs goal = any_image goal vs
  found_image (suc rounds) store vs goal =
      ap (λ (here : Bool). here || is_found rounds (store_image store) (fields_of_all (store_image store) (images vs)) goal)
      (any_image goal vs)
      ∙ ap (λ (there : Bool). list_any (is_place goal) vs || there)
      (ap (λ (ws : List Value). is_found rounds (store_image store) ws goal) (image_of_all_fields store vs)
      ∙ found_image rounds store (fields_of_all store vs) goal)

  pub live_image : (store : Store) (vs : List Value) → live (store_image store) (images vs) ≡ live store vs
  live_image store vs =
      ap (λ (n : ℕ). counted (is_found n (store_image store) (images vs)) n) (length-map store cell_image)
      ∙ counted_alike (is_found (length store) (store_image store) (images vs)) (is_live store vs) (length store)
      (λ at. found_image (length store) store vs at)
