-- The lines of blocks inside and of readings do the steps of the machine with tokens.
use Rattle.std.proofs.Common.{inl, inr, ◌≡◌, ℕ, suc, ◌+◌, List, [], ◌∷◌, ◌++◌, length, Option, Some, None, refl, sym, ◌∙◌, ap, subst, arith, append_assoc}
use Rattle.kk_source.specs.State.{Environment}
use Rattle.kk_source.specs.Live.{value_of}
use Rattle.kk_source.specs.Actions.{goes, performed}
use Rattle.kk_counted.specs.CountedMachine.{Named, cell_named, NotStuck}
use Rattle.kk_counted.specs.Marks.{field_marks}
use Rattle.kk_counted.specs.TokenKeeping.{Lists, IsJudged, ListsAfter, AreKeptBy}
use Rattle.kk_counted.specs.TokenMachine.{token_code_step, token_read_step}
use Rattle.kk_counted.specs.TokenRuns.{AllLead}
use Rattle.kk_counted.specs.TokenStates.{TokenJoin, TokenConfiguration, bare_configuration}
use Rattle.kk_counted.specs.TokenedCodes.{Tokened}
use Rattle.rv_isa.specs.declared.asm.Action.TheVariants.{Label}
use Rattle.rv_isa.specs.AsmCode.{Line}
use Rattle.rv_lower.specs.Lines.{acts}
use Rattle.rv_lower.specs.Lowered.{joins}
use Rattle.rv_lower.proofs.Orders.{split_at}
use Rattle.rv_cells.proofs.BoundVariables.{within_itself, within_one, marks_are}
use Rattle.rv_cells.proofs.FormPlaces.{stands_first, stands_behind_two}
use Rattle.rv_cells.proofs.LineCosts.{most_moves, row_cost}
use Rattle.rv_cells.proofs.Rows.{IsReading, with_fields}
use Rattle.rv_cells.proofs.Readings.{with_values, reading_did}
use Rattle.rv_cells.proofs.Runs.{turn_of, runs_none}
use Rattle.rv_cells.proofs.Spots.{Here, saved}
use Rattle.rv_cells.proofs.TokenCellForms.{goes_did}
use Rattle.rv_cells.proofs.TokenContinuations.{token_at, machine_at, CodeSteps, silent_goes, seen_action, kept_after}
use Rattle.rv_cells.proofs.TokenRelation.{Lowering, target, setting, upper, known_of, continues_more, by_lines}
use Rattle.rv_cells.proofs.TokenUniques.{within_fields, within_front, below_list, below_more, row_times}

read_there : (o : Option Named) (fields : List ℕ) (rest : Tokened) (environment : Environment) (inner : List TokenJoin)
    (from : TokenConfiguration) (input : List ℕ)
    → NotStuck (bare_configuration (performed (token_read_step o fields rest environment inner from) input).1.machine).control
    → (named : Named) × (o ≡ Some named)
read_there None fields rest environment inner from input going = absurd going
read_there (Some named) fields rest environment inner from input going = (named, refl)

module _ (program : Lowering) where
  pub at_inside : (x : ℕ) (block rest : Tokened) → CodeSteps program (Tokened.inside x block rest)
  at_inside x block rest idle inner frames tokens input s fs left idle_is at fit =
      let p = at.does.placed in
      let code = Tokened.inside x block rest in
      let label : Line = acts (Label p.low) [] in
      let part : List Line = p.lines.0 in
      let more : List Line = p.lines.1 in
      let is : left ≡ (part ++ (label ∷ more)) ++ p.after = p.left_is ∙ ap (λ own. own ++ p.after) p.lines.5 in
      let stands : s.frame.whole ≡ (p.before ++ part) ++ (label ∷ (more ++ p.after))
      = split_at s.frame.whole p.before left part (label ∷ more) p.after p.place is in
      let few = p.short in
      let join : TokenJoin = record { variable = x; rest = rest } in
      let next = kept_after program code inner frames tokens input s fs left at (fit 0).keeps refl in
      let nothing = at.judged.spends.1.0 in
      by_lines program 0 0 ((upper program).weight (token_at program code s.environment inner frames s.heap tokens input)) (saved s.heap)
      idle (token_at program block s.environment (join ∷ inner) frames s.heap tokens input)
      (turn_of left s.frame fs s.world) (turn_of left s.frame fs s.world)
      (runs_none (target program) (turn_of left s.frame fs s.world)) (omega arith) (omega (arith, idle_is)) (λ n. fit (suc n))
      (record {
        spot = s;
        fs = fs;
        left = left;
        environment_is = refl;
        heap_is = refl;
        turn_is = refl;
        at = record {
          shape = at.shape;
          lists = record { left = next.0.left; unspent = next.0.unspent; held = at.lists.held; older = at.lists.older };
          judged = subst (λ h. IsJudged program.pool.cells next.0.left next.0.unspent h at.lists.older block (join ∷ inner) frames
              s.heap tokens) (next.1.0.1.0 ∙ sym nothing)
              (subst (λ o. IsJudged program.pool.cells next.0.left next.0.unspent next.0.held o block (join ∷ inner) frames s.heap
              tokens) next.1.0.1.1 next.1.1);
          does = record {
            goal = joins x p.low;
            given = at.shape.holds x;
            placed = record {
              before = p.before;
              own = part;
              after = label ∷ (more ++ p.after);
              low = p.low + 1;
              high = p.lines.2;
              lines = p.lines.3;
              left_is = is ∙ append_assoc part (label ∷ more) p.after;
              place = p.place;
              stands = stands_first p.stands (record { way = 0 ∷ []; is_part = inl refl; code_is = refl });
              marked = p.marked.0;
              numbered = p.numbered.1.0;
              has = p.has.0;
              keeps = p.keeps.0;
              short = omega arith;
            };
            continues = (
              record {
                variable_is = refl;
                below = p.numbered.0;
                kind = refl;
                start = p.before ++ part;
                left = more ++ p.after;
                stands = stands;
                goal = at.does.goal;
                mark = at.does.given;
                older = s.bound;
                within = within_itself s.bound;
                placed = record {
                  before = (p.before ++ part) ++ (label ∷ []);
                  own = more;
                  after = p.after;
                  low = p.lines.2;
                  high = p.high;
                  lines = p.lines.4;
                  left_is = refl;
                  place = stands ∙ sym (append_assoc (p.before ++ part) (label ∷ []) (more ++ p.after));
                  stands = stands_behind_two p.stands part (label ∷ [])
                      (record { way = 1 ∷ []; is_part = inr (inl refl); code_is = refl });
                  marked = p.marked.1;
                  numbered = p.numbered.1.1;
                  has = p.has.1;
                  keeps = p.keeps.1;
                  short = omega arith;
                };
              },
              continues_more program at.shape s.frame.whole inner at.does.goal at.does.given s.bound (x ∷ s.bound)
                  (within_one x s.bound) at.does.continues,
            );
          };
          follows = at.follows;
          cells = at.cells;
          stand = at.stand;
          has = at.has;
          waits = at.waits;
          input_is = at.input_is;
          bytes = at.bytes;
        };
      })

  pub at_read : (x c : ℕ) (fields : List ℕ) (rest : Tokened) → CodeSteps program (Tokened.read x c fields rest)
  at_read x c fields rest idle inner frames tokens input s fs left idle_is at fit =
      let p = at.does.placed in
      let code = Tokened.read x c fields rest in
      let v = at.shape.variables in
      let known = known_of program at.shape in
      let from = machine_at program code s.environment inner frames s.heap tokens in
      let here : Here known s = record { follows = at.follows; values = at.has.values } in
      let named = read_there (cell_named c (length fields) s.heap (value_of s.environment x)) fields rest s.environment inner from
      input (fit 1).bare.going in
      let reads : IsReading known s x c fields named.0 = record {
        bound = p.marked.0.0;
        is = named.1;
        below = below_more v (at.shape.variables + at.shape.slots) fields (omega arith) p.numbered.0.0;
        apart = p.numbered.0.1.0;
        kinds = marks_are at.shape.holds fields (field_marks program.marks c) p.marked.0.1.1 ∙ sym (program.fields_are c);
        older = (fit 0).bare.sound.older;
      } in
      let done = reading_did known (p.lines.1 ++ p.after) fs s x c fields p.lines.0 named.0 here reads p.lines.2 in
      let to = with_values (with_fields program.layout s fields named.0.fields) done.0 in
      let step : token_code_step (setting program) code s.environment inner from
      ≡ goes (machine_at program rest to.environment inner frames to.heap tokens)
      = ap (λ o. token_read_step o fields rest s.environment inner from) named.1 in
      let kept = subst (AllLead (AreKeptBy program.pool.cells (ListsAfter code inner at.lists))) step
      (kept_after program code inner frames tokens input s fs left at (fit 0).keeps refl) in
      let few = p.short in
      let row = row_times fields (most_moves + 2) in
      goes_did program code inner frames tokens input s fs left at idle fit rest p.lines.0 p.lines.1 to (fields ++ s.bound)
      (row_cost fields (most_moves + 2)) goes
      done.1 refl refl refl p.lines.4 p.low
      p.lines.3 (record { way = 0 ∷ []; is_part = inl refl; code_is = refl }) (within_fields fields s.bound) (within_front fields s.bound)
      (below_list v fields s.bound p.numbered.0.0 at.has.below) p.marked.1 p.numbered.1 p.has p.keeps
      (subst (λ (l : Lists). IsJudged program.pool.cells l.left l.unspent l.held l.older rest inner frames s.heap tokens) kept.1.0
      kept.1.1)
      (silent_goes program) (omega arith) (ap (λ action. seen_action program action input) step) (omega (arith, idle_is))
      (omega arith)
