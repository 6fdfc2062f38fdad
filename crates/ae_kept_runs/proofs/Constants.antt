-- After a run no constant stands from the next one on, and the blocks have theirs.
use Rattle.std.specs.Prelude.{ℕ, List}
use Rattle.std.specs.List.{AllByRecursion}
use Rattle.ae_between_rounds.specs.Held.{HaveConstants}
use Rattle.ae_block_constants.specs.declared.opened.Opened.{Opened}
use Rattle.ae_core.specs.declared.formulas.Lit.{Lit}
use Rattle.ae_core.specs.declared.problems.Problem.{Problem}
use Rattle.ae_core.specs.declared.proofs.ClauseLine.{ClauseLine}
use Rattle.ae_journal.proofs.Splits.{all_contained}
use Rattle.ae_kept_blocks.proofs.Members.{contained, one_of}
use Rattle.ae_kept_blocks.proofs.Runs.{clauses_below, lines_below}
use Rattle.ae_kept_blocks.specs.Kept.{AreClausesBelow}
use Rattle.ae_new_constants.specs.Below.{IsClauseBelow, IsFormulaBelow}
use Rattle.ae_open_states.proofs.Trails.{all_of_each}
use Rattle.ae_rules.specs.Clauses.{Clause}
use Rattle.ae_sat.specs.Search.{IsStated}
use Rattle.ae_sat.specs.Standing.{IsOneOf}
use Rattle.ae_store.specs.Stores.{Stored}
use Rattle.ae_kept_runs.specs.Runs.{ComesOver}

clauses_all : (n : ℕ) (cs : List Clause) → AreClausesBelow n cs → AllByRecursion (IsClauseBelow n) cs
clauses_all n cs below = all_of_each (IsClauseBelow n) cs (λ c h. all_of_each (λ (l : Lit). IsFormulaBelow n l.formula) c (λ l i. below c l (one_of cs c h) i))

each_clause : (n : ℕ) (cs : List Clause) → AllByRecursion (IsClauseBelow n) cs → AreClausesBelow n cs
each_clause n cs all c l o i = all_contained (λ (m : Lit). IsFormulaBelow n m.formula) c l (all_contained (IsClauseBelow n) cs c all (contained cs c o)) i

pub constants_run : (p : Problem) (g next : ℕ) (opened : List Opened) (s : Stored) (old new : List ClauseLine) (cs ds : List Clause) (places : List ℕ) → ((c : Clause) → IsOneOf cs c → IsOneOf ds c)
    → IsStated p g new ds places → ComesOver s cs old new → HaveConstants p g next opened s old cs → HaveConstants p g next opened s new ds
constants_run p g next opened s old new cs ds places still stated adds h =
    let below = lines_below p g next s h.names cs old new h.lines (each_clause next cs h.clauses) adds in
    record {
      apart = h.apart;
      sorted = h.sorted;
      added = λ o i. let a = h.added o i in (a.0, a.1, still a.0 a.2);
      lines = below;
      clauses = clauses_all next ds (clauses_below p g next new ds places stated below);
      names = h.names;
    }
