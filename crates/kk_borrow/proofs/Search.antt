-- The search for the least set: its start, one step of it, and its end. A set is closed if and only if it agrees with
-- the state.
use Rattle.std.proofs.Common.{◌≡◌, ℕ, IsTrue, List, [], sym, subst, All}
use Rattle.std.proofs.lemmas.List.Elements.{All-nil}
use Rattle.kk_syntax.specs.PositionsOf.{PositionTable}
use Rattle.kk_syntax.specs.Programs.{ProgramTree}
use Rattle.kk_syntax.specs.OwnedPositions.{PositionSet, owned_in, Closed, IsLeast, Told}
use Rattle.kk_syntax.specs.OwnedSearch.{each_lent}
use Rattle.kk_borrow.specs.Rules.{RuleTree, Keeps}
use Rattle.kk_borrow.specs.Demands.{rules_from}
use Rattle.kk_borrow.specs.Standings.{WaitingTable, waiting_at, none_waiting, InProgram, Agrees, Follows}
use Rattle.kk_borrow.proofs.RuleClosure.{closed_same}
use Rattle.kk_syntax.proofs.PositionTables.{start_told, start_within, owned_in_program}
use Rattle.kk_borrow.proofs.WaitLists.{none_at}

pub record Searches (program : ProgramTree) (table : PositionTable) (waiting : WaitingTable) (queue : List RuleTree) : Type 0 where
  pub told : Told program table
  pub forth : (set : PositionSet) → Closed program set → Agrees program table waiting queue set
  pub back : (set : PositionSet) → InProgram program set → Agrees program table waiting queue set → Closed program set

pub start : (program : ProgramTree) (table : PositionTable) (waiting : WaitingTable) (queue : List RuleTree) → table ≡ each_lent program.functions → waiting ≡ none_waiting program.functions → queue ≡ rules_from 0 program.functions → Searches program table waiting queue
start program table waiting queue table_is waiting_is queue_is =
    subst (λ t. Searches program t waiting queue) (sym table_is)
    (subst (λ w. Searches program (each_lent program.functions) w queue) (sym waiting_is)
    (subst (λ q. Searches program (each_lent program.functions) (none_waiting program.functions) q) (sym queue_is)
    (record {
      told = start_told program;
      forth = λ set closed. record {
        within = start_within program.functions set;
        queued = (closed_same program set).1 closed;
        waits = λ f i has. subst (All (Keeps program set)) (sym (none_at program.functions f i)) (All-nil (Keeps program set));
      };
      back = λ set in' agrees. (closed_same program set).0 agrees.queued;
    })))

pub next : (program : ProgramTree) (table later : PositionTable) (waiting waits : WaitingTable) (queue rest : List RuleTree) → Searches program table waiting queue → (Told program table → Follows program table waiting queue later waits rest) → Searches program later waits rest
next program table later waiting waits queue rest searches step =
    let follows = step searches.told in
    record {
      told = follows.told;
      forth = λ set closed. follows.forth set (searches.forth set closed);
      back = λ set in' agrees. searches.back set in' (follows.back set in' agrees);
    }

pub end : (program : ProgramTree) (table : PositionTable) (waiting : WaitingTable) → Searches program table waiting [] → ((f i : ℕ) → IsTrue (owned_in table f i) → waiting_at waiting f i ≡ []) → IsLeast program table
end program table waiting searches idle = record {
  told = searches.told;
  closed =
      searches.back (owned_in table) (owned_in_program program table searches.told)
      (record {
        within = λ f i is. is;
        queued = All-nil (Keeps program (owned_in table));
        waits = λ f i has. subst (All (Keeps program (owned_in table))) (sym (idle f i has)) (All-nil (Keeps program (owned_in table)));
      });
  least = λ set closed. (searches.forth set closed).within;
}
