-- One step of the search for the least set: the same sets agree with the state before and after it.
use Rattle.std.proofs.Common.{◌≡◌, ◌<◌, ◌≤◌, ◌⊎◌, inl, inr, true, false, not, None, Some, List, [], ◌∷◌, ◌++◌, length, get_or, sym, ap, ◌∙◌, subst, arith, All, IsTrue}
use Rattle.std.proofs.lemmas.Bool.{cases_lt}
use Rattle.std.proofs.lemmas.List.{get_or_past, map-append}
use Rattle.std.proofs.lemmas.Option.{get_or_from_slice_get, slice_get-get_or}
use Rattle.std.proofs.lemmas.List.Elements.{All-nil, All-head, All-append, All-push}
use Rattle.kk_syntax.specs.declared.positions.Ownership.TheVariants.{Owned, Lent}
use Rattle.kk_syntax.specs.PositionsOf.{PositionTable, lends, is_lent}
use Rattle.kk_syntax.specs.Programs.{ProgramTree}
use Rattle.kk_syntax.specs.declared.positions.Position.{Position}
use Rattle.kk_syntax.specs.OwnedPositions.{PositionSet, arity_of, owned_in, Told}
use Rattle.kk_syntax.specs.OwnedSearch.{with_owned}
use Rattle.kk_borrow.specs.declared.rule.Rule.{Rule}
use Rattle.kk_borrow.specs.Rules.{RuleTree, rule_tree, rule_trees, Has, Keeps}
use Rattle.kk_borrow.specs.declared.standing.Standings.{Standings}
use Rattle.kk_borrow.specs.Standings.{WaitingTable, ownerships, waitings, waiting_at, told_at, with_waiting, work, InProgram, Follows}
use Rattle.kk_syntax.proofs.Lists.{all_left, all_right}
use Rattle.kk_borrow.proofs.Rows.{waits_in_rows, waits_in_row}
use Rattle.kk_syntax.proofs.PositionTables.{owned_told, lent_told, told_row, grown_told, grown_within, grown_more, grown_has}
use Rattle.kk_borrow.proofs.WaitLists.{at_same, at_other, less_lent}

abbrev rule : List Position → Position → RuleTree
rule premises conclusion = record { premises = premises; conclusion = conclusion }

-- a rule that is dropped, since each set of the program keeps it that has the owned positions
dropped : (program : ProgramTree) (table : PositionTable) (waiting : WaitingTable) (queue : List RuleTree) (r : RuleTree) → Told program table
    → ((set : PositionSet) → InProgram program set → ((p : Position) → IsTrue (owned_in table p.function p.parameter) → Has set p) → Keeps program set r)
    → Follows program table waiting (queue ++ r ∷ []) table waiting queue
dropped program table waiting queue r told kept = record {
  told = told;
  forth = λ set agrees. record { within = agrees.within; queued = all_left (Keeps program set) queue (r ∷ []) agrees.queued; waits = agrees.waits };
  back = λ set in' agrees. record {
    within = agrees.within;
    queued = All-push (Keeps program set) queue r agrees.queued (kept set in' (λ p is. agrees.within p.function p.parameter is));
    waits = agrees.waits;
  };
}

-- a premise that is owned
pub premise_owned : (program : ProgramTree) (table : PositionTable) (waiting : WaitingTable) (queue : List RuleTree) (ps : List Position) (p c : Position) → Told program table → IsTrue (owned_in table p.function p.parameter)
    → Follows program table waiting (queue ++ rule (ps ++ p ∷ []) c ∷ []) table waiting (queue ++ rule ps c ∷ [])
premise_owned program table waiting queue ps p c told is = record {
  told = told;
  forth = λ set agrees. record {
    within = agrees.within;
    queued =
        All-push (Keeps program set) queue (rule ps c) (all_left (Keeps program set) queue (rule (ps ++ p ∷ []) c ∷ []) agrees.queued)
        (λ all. All-head (Keeps program set) (rule (ps ++ p ∷ []) c) [] (all_right (Keeps program set) queue (rule (ps ++ p ∷ []) c ∷ []) agrees.queued) (All-push (Has set) ps p all (agrees.within p.function p.parameter is)));
    waits = agrees.waits;
  };
  back = λ set in' agrees. record {
    within = agrees.within;
    queued =
        All-push (Keeps program set) queue (rule (ps ++ p ∷ []) c) (all_left (Keeps program set) queue (rule ps c ∷ []) agrees.queued)
        (λ all. All-head (Keeps program set) (rule ps c) [] (all_right (Keeps program set) queue (rule ps c ∷ []) agrees.queued) (all_left (Has set) ps (p ∷ []) all));
    waits = agrees.waits;
  };
}

-- a premise that is lent: the rule waits for it
pub premise_lent : (program : ProgramTree) (table : PositionTable) (waiting : WaitingTable) (queue : List RuleTree) (ps : List Position) (p c : Position) → Told program table
    → p.function < length waiting → p.parameter < length (get_or waiting p.function [])
    → Follows program table waiting (queue ++ rule (ps ++ p ∷ []) c ∷ []) table (with_waiting waiting p (waiting_at waiting p.function p.parameter ++ rule ps c ∷ [])) queue
premise_lent program table waiting queue ps p c told f_in i_in =
    let before = waiting_at waiting p.function p.parameter in
    let here = at_same waiting p (before ++ rule ps c ∷ []) f_in i_in in
    record {
      told = told;
      forth = λ set agrees. record {
        within = agrees.within;
        queued = all_left (Keeps program set) queue (rule (ps ++ p ∷ []) c ∷ []) agrees.queued;
        waits = λ f i has. elim (at_other waiting p (before ++ rule ps c ∷ []) f i) [
          | inr same ↦ subst (All (Keeps program set)) (sym same) (agrees.waits f i has)
          | inl at ↦
              let has_p : Has set p = subst (λ j. IsTrue (set p.function j)) at.1 (subst (λ g. IsTrue (set g i)) at.0 has) in
              subst (All (Keeps program set)) (sym (ap (λ g. waiting_at (with_waiting waiting p (before ++ rule ps c ∷ [])) g i) at.0 ∙ (ap (λ j. waiting_at (with_waiting waiting p (before ++ rule ps c ∷ [])) p.function j) at.1 ∙ here)))
              (All-push (Keeps program set) before (rule ps c) (agrees.waits p.function p.parameter has_p)
              (λ all. All-head (Keeps program set) (rule (ps ++ p ∷ []) c) [] (all_right (Keeps program set) queue (rule (ps ++ p ∷ []) c ∷ []) agrees.queued) (All-push (Has set) ps p all has_p)))
        ];
      };
      back = λ set in' agrees. record {
        within = agrees.within;
        queued =
            All-push (Keeps program set) queue (rule (ps ++ p ∷ []) c) agrees.queued
            (λ all.
            let has_p : Has set p = All-head (Has set) p [] (all_right (Has set) ps (p ∷ []) all) in
            All-head (Keeps program set) (rule ps c) []
            (all_right (Keeps program set) before (rule ps c ∷ []) (subst (All (Keeps program set)) here (agrees.waits p.function p.parameter has_p)))
            (all_left (Has set) ps (p ∷ []) all));
        waits = λ f i has. elim (at_other waiting p (before ++ rule ps c ∷ []) f i) [
          | inr same ↦ subst (All (Keeps program set)) same (agrees.waits f i has)
          | inl at ↦
              let has_p : Has set p = subst (λ j. IsTrue (set p.function j)) at.1 (subst (λ g. IsTrue (set g i)) at.0 has) in
              subst (All (Keeps program set)) (sym (ap (λ g. waiting_at waiting g i) at.0 ∙ ap (λ j. waiting_at waiting p.function j) at.1))
              (all_left (Keeps program set) before (rule ps c ∷ []) (subst (All (Keeps program set)) here (agrees.waits p.function p.parameter has_p)))
        ];
      };
    }

-- a premise that the program does not have
pub premise_unknown : (program : ProgramTree) (table : PositionTable) (waiting : WaitingTable) (queue : List RuleTree) (ps : List Position) (p c : Position) → Told program table → length (get_or table p.function []) ≤ p.parameter
    → Follows program table waiting (queue ++ rule (ps ++ p ∷ []) c ∷ []) table waiting queue
premise_unknown program table waiting queue ps p c told out =
    dropped program table waiting queue (rule (ps ++ p ∷ []) c) told
    (λ set in' has all.
    let lt = in' p.function p.parameter (All-head (Has set) p [] (all_right (Has set) ps (p ∷ []) all)) in
    let n = told_row program table told p.function in
    absurd (omega (arith, lt, n, out)))

-- a conclusion that is owned, or that the program does not have
pub conclusion_known : (program : ProgramTree) (table : PositionTable) (waiting : WaitingTable) (queue : List RuleTree) (c : Position) → Told program table → is_lent table c.function c.parameter ≡ false
    → Follows program table waiting (queue ++ rule [] c ∷ []) table waiting queue
conclusion_known program table waiting queue c told is =
    dropped program table waiting queue (rule [] c) told
    (λ set in' has all lt. has c (owned_told table c.function c.parameter (let n = told_row program table told c.function in omega (arith, lt, n)) is))

-- a conclusion that is lent: it is owned from now on, and the rules that wait for it are read
pub conclusion_lent : (program : ProgramTree) (table : PositionTable) (waiting : WaitingTable) (queue : List RuleTree) (c : Position) → Told program table → is_lent table c.function c.parameter ≡ true
    → c.function < length waiting → c.parameter < length (get_or waiting c.function [])
    → Follows program table waiting (queue ++ rule [] c ∷ []) (with_owned table c) (with_waiting waiting c []) (queue ++ waiting_at waiting c.function c.parameter)
conclusion_lent program table waiting queue c told is f_in i_in =
    let before = waiting_at waiting c.function c.parameter in
    let here = at_same waiting c [] f_in i_in in
    let below : c.parameter < arity_of program c.function = (let lt = lent_told table c.function c.parameter is in let n = told_row program table told c.function in omega (arith, lt, n)) in
    record {
      told = grown_told program table c told;
      forth = λ set agrees.
          let has : Has set c = All-head (Keeps program set) (rule [] c) [] (all_right (Keeps program set) queue (rule [] c ∷ []) agrees.queued) (All-nil (Has set)) below in
          record {
            within = grown_within table c set is agrees.within has;
            queued = All-append (Keeps program set) queue before (all_left (Keeps program set) queue (rule [] c ∷ []) agrees.queued) (agrees.waits c.function c.parameter has);
            waits = λ f i has_it. elim (at_other waiting c [] f i) [
              | inr same ↦ subst (All (Keeps program set)) (sym same) (agrees.waits f i has_it)
              | inl at ↦
                  subst (All (Keeps program set)) (sym (ap (λ g. waiting_at (with_waiting waiting c []) g i) at.0 ∙ (ap (λ j. waiting_at (with_waiting waiting c []) c.function j) at.1 ∙ here)))
                  (All-nil (Keeps program set))
            ];
          };
      back = λ set in' agrees. record {
        within = λ f i owned. agrees.within f i (grown_more table c f i owned);
        queued =
            All-push (Keeps program set) queue (rule [] c) (all_left (Keeps program set) queue before agrees.queued)
            (λ all lt. agrees.within c.function c.parameter (grown_has table c is));
        waits = λ f i has_it. elim (at_other waiting c [] f i) [
          | inr same ↦ subst (All (Keeps program set)) same (agrees.waits f i has_it)
          | inl at ↦
              subst (All (Keeps program set)) (sym (ap (λ g. waiting_at waiting g i) at.0 ∙ ap (λ j. waiting_at waiting c.function j) at.1))
              (all_right (Keeps program set) queue before agrees.queued)
        ];
      };
    }

-- what a look at a position says
at_owned : (table : PositionTable) (p : Position) → told_at table p ≡ Some Owned → IsTrue (owned_in table p.function p.parameter)
at_owned table p is = ap (λ o. not (lends o)) (get_or_from_slice_get (get_or table p.function []) p.parameter Owned Lent is)

pub at_lent : (table : PositionTable) (p : Position) → told_at table p ≡ Some Lent → is_lent table p.function p.parameter ≡ true
at_lent table p is = ap lends (get_or_from_slice_get (get_or table p.function []) p.parameter Lent Owned is)

at_none : (table : PositionTable) (p : Position) → told_at table p ≡ None → length (get_or table p.function []) ≤ p.parameter
at_none table p is = elim (cases_lt p.parameter (length (get_or table p.function []))) [
  | inr ge ↦ ge
  | inl lt ↦ let some = slice_get-get_or (get_or table p.function []) p.parameter Lent lt in absurd (cc)
]

not_lent : (table : PositionTable) (p : Position) → (told_at table p ≡ Some Owned) ⊎ (told_at table p ≡ None) → is_lent table p.function p.parameter ≡ false
not_lent table p (inl is) = ap lends (get_or_from_slice_get (get_or table p.function []) p.parameter Owned Owned is)
not_lent table p (inr is) = ap lends (get_or_past (get_or table p.function []) p.parameter Owned (at_none table p is))

-- the same with rules of the program's memory, where a shorter rule is one without its last premise
from_memory : (program : ProgramTree) (table later : PositionTable) (waiting waits : WaitingTable) (queue rest : List RuleTree) (r s : RuleTree) → r ≡ s → Follows program table waiting (queue ++ s ∷ []) later waits rest → Follows program table waiting (queue ++ r ∷ []) later waits rest
from_memory program table later waiting waits queue rest r s is follows = subst (λ t. Follows program table waiting (queue ++ t ∷ []) later waits rest) (sym is) follows

whole : (r : Rule) (ps : List Position) → r.premises.items ≡ ps → rule_tree r ≡ rule ps r.conclusion
whole r ps is = ap (λ qs. rule qs r.conclusion) is

pub read_owned : (program : ProgramTree) (table : PositionTable) (waiting : WaitingTable) (queue : List Rule) (r shorter : Rule) (p : Position) (rest : List Rule) → r.premises.items ≡ shorter.premises.items ++ p ∷ [] → shorter.conclusion ≡ r.conclusion → rest ≡ queue ++ shorter ∷ []
    → told_at table p ≡ Some Owned → Told program table → Follows program table waiting (rule_trees queue ++ rule_tree r ∷ []) table waiting (rule_trees rest)
read_owned program table waiting queue r shorter p rest parts same pushed is told =
    let after : rule_trees rest ≡ rule_trees queue ++ rule shorter.premises.items r.conclusion ∷ [] =
    ap rule_trees pushed ∙ (map-append rule_tree queue (shorter ∷ []) ∙ ap (λ c. rule_trees queue ++ rule shorter.premises.items c ∷ []) same) in
    subst (λ qs. Follows program table waiting (rule_trees queue ++ rule_tree r ∷ []) table waiting qs) (sym after)
    (from_memory program table table waiting waiting (rule_trees queue) (rule_trees queue ++ rule shorter.premises.items r.conclusion ∷ []) (rule_tree r) (rule (shorter.premises.items ++ p ∷ []) r.conclusion) (whole r (shorter.premises.items ++ p ∷ []) parts)
    (premise_owned program table waiting (rule_trees queue) shorter.premises.items p r.conclusion told (at_owned table p is)))

pub read_lent : (program : ProgramTree) (table later : PositionTable) (waiting waits : WaitingTable) (queue : List Rule) (r shorter : Rule) (p : Position) → r.premises.items ≡ shorter.premises.items ++ p ∷ [] → shorter.conclusion ≡ r.conclusion
    → later ≡ table → waits ≡ with_waiting waiting p (waiting_at waiting p.function p.parameter ++ rule_tree shorter ∷ [])
    → p.function < length waiting → p.parameter < length (get_or waiting p.function []) → Told program table → Follows program table waiting (rule_trees queue ++ rule_tree r ∷ []) later waits (rule_trees queue)
read_lent program table later waiting waits queue r shorter p parts same later_is waits_is f_in i_in told =
    let after : waits ≡ with_waiting waiting p (waiting_at waiting p.function p.parameter ++ rule shorter.premises.items r.conclusion ∷ []) =
    waits_is ∙ ap (λ c. with_waiting waiting p (waiting_at waiting p.function p.parameter ++ rule shorter.premises.items c ∷ [])) same in
    subst (λ t. Follows program table waiting (rule_trees queue ++ rule_tree r ∷ []) t waits (rule_trees queue)) (sym later_is)
    (subst (λ w. Follows program table waiting (rule_trees queue ++ rule_tree r ∷ []) table w (rule_trees queue)) (sym after)
    (from_memory program table table waiting (with_waiting waiting p (waiting_at waiting p.function p.parameter ++ rule shorter.premises.items r.conclusion ∷ [])) (rule_trees queue) (rule_trees queue) (rule_tree r) (rule (shorter.premises.items ++ p ∷ []) r.conclusion) (whole r (shorter.premises.items ++ p ∷ []) parts)
    (premise_lent program table waiting (rule_trees queue) shorter.premises.items p r.conclusion told f_in i_in)))

pub read_unknown : (program : ProgramTree) (table : PositionTable) (waiting : WaitingTable) (queue : List Rule) (r : Rule) (ps : List Position) (p : Position) → r.premises.items ≡ ps ++ p ∷ [] → told_at table p ≡ None
    → Told program table → Follows program table waiting (rule_trees queue ++ rule_tree r ∷ []) table waiting (rule_trees queue)
read_unknown program table waiting queue r ps p parts is told =
    from_memory program table table waiting waiting (rule_trees queue) (rule_trees queue) (rule_tree r) (rule (ps ++ p ∷ []) r.conclusion) (whole r (ps ++ p ∷ []) parts)
    (premise_unknown program table waiting (rule_trees queue) ps p r.conclusion told (at_none table p is))

pub read_known : (program : ProgramTree) (table : PositionTable) (waiting : WaitingTable) (queue : List Rule) (r : Rule) → r.premises.items ≡ [] → (told_at table r.conclusion ≡ Some Owned) ⊎ (told_at table r.conclusion ≡ None)
    → Told program table → Follows program table waiting (rule_trees queue ++ rule_tree r ∷ []) table waiting (rule_trees queue)
read_known program table waiting queue r none is told =
    from_memory program table table waiting waiting (rule_trees queue) (rule_trees queue) (rule_tree r) (rule [] r.conclusion) (whole r [] none)
    (conclusion_known program table waiting (rule_trees queue) r.conclusion told (not_lent table r.conclusion is))

pub read_concluded : (program : ProgramTree) (table later : PositionTable) (waiting waits : WaitingTable) (queue rest : List Rule) (r : Rule) → r.premises.items ≡ [] → is_lent table r.conclusion.function r.conclusion.parameter ≡ true
    → later ≡ with_owned table r.conclusion → waits ≡ with_waiting waiting r.conclusion [] → rule_trees rest ≡ rule_trees queue ++ waiting_at waiting r.conclusion.function r.conclusion.parameter
    → r.conclusion.function < length waiting → r.conclusion.parameter < length (get_or waiting r.conclusion.function []) → Told program table → Follows program table waiting (rule_trees queue ++ rule_tree r ∷ []) later waits (rule_trees rest)
read_concluded program table later waiting waits queue rest r none is later_is waits_is rest_is f_in i_in told =
    subst (λ t. Follows program table waiting (rule_trees queue ++ rule_tree r ∷ []) t waits (rule_trees rest)) (sym later_is)
    (subst (λ w. Follows program table waiting (rule_trees queue ++ rule_tree r ∷ []) (with_owned table r.conclusion) w (rule_trees rest)) (sym waits_is)
    (subst (λ qs. Follows program table waiting (rule_trees queue ++ rule_tree r ∷ []) (with_owned table r.conclusion) (with_waiting waiting r.conclusion []) qs) (sym rest_is)
    (from_memory program table (with_owned table r.conclusion) waiting (with_waiting waiting r.conclusion []) (rule_trees queue) (rule_trees queue ++ waiting_at waiting r.conclusion.function r.conclusion.parameter) (rule_tree r) (rule [] r.conclusion) (whole r [] none)
    (conclusion_lent program table waiting (rule_trees queue) r.conclusion told is f_in i_in))))

-- the table of waiting rules has a position that is lent
pub lent_there : (standings : Standings) (p : Position) → is_lent (ownerships standings) p.function p.parameter ≡ true → (p.function < length (waitings standings)) × (p.parameter < length (get_or (waitings standings) p.function []))
lent_there standings p lent =
    let rows = standings.rows.items in
    (waits_in_rows (λ row. row.items) rows p.function p.parameter lent, waits_in_row (λ row. row.items) rows p.function p.parameter lent)

-- a rule in memory that waits for its last premise: the same sets agree, and less work is left
pub waits_follow : (before after : Standings) (queue : List Rule) (r shorter : Rule) (p : Position) → r.premises.items ≡ shorter.premises.items ++ p ∷ [] → shorter.conclusion ≡ r.conclusion → told_at (ownerships before) p ≡ Some Lent
    → ownerships after ≡ ownerships before → waitings after ≡ with_waiting (waitings before) p (waiting_at (waitings before) p.function p.parameter ++ rule_tree shorter ∷ []) → (program : ProgramTree) → Told program (ownerships before)
    → Follows program (ownerships before) (waitings before) (rule_trees queue ++ rule_tree r ∷ []) (ownerships after) (waitings after) (rule_trees queue)
waits_follow before after queue r shorter p parts same is owns waits program told =
    let there = lent_there before p (at_lent (ownerships before) p is) in
    read_lent program (ownerships before) (ownerships after) (waitings before) (waitings after) queue r shorter p parts same owns waits there.0 there.1 told

pub waits_less : (before after : Standings) (queue : List Rule) (r shorter : Rule) (p : Position) → r.premises.items ≡ shorter.premises.items ++ p ∷ [] → told_at (ownerships before) p ≡ Some Lent
    → waitings after ≡ with_waiting (waitings before) p (waiting_at (waitings before) p.function p.parameter ++ rule_tree shorter ∷ []) → work (waitings after) (rule_trees queue) < work (waitings before) (rule_trees queue ++ rule_tree r ∷ [])
waits_less before after queue r shorter p parts is waits =
    let there = lent_there before p (at_lent (ownerships before) p is) in
    less_lent (waitings before) (waitings after) p (rule_trees queue) (rule_tree r) (rule_tree shorter) parts waits there.0 there.1
