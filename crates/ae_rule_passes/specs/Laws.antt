-- The laws, as statements.
use Rattle.std.specs.Prelude.{ℕ, ◌<◌, List, ◌++◌, ◌≡◌, map, Option, Some}
use Rattle.std.specs.List.{Contains}
use Rattle.std.specs.List.Sorted.{IsNonDecreasing}
use Rattle.ae_core.specs.declared.terms.Term.{Term}
use Rattle.ae_core.specs.declared.problems.Signature.{Signature}
use Rattle.ae_multiset.specs.Multisets.{count}
use Rattle.ae_journal.specs.Journals.{live}
use Rattle.ae_journal.specs.Standing.{Setting, Represents}
use Rattle.ae_journal.specs.Legal.{AreLegal}
use Rattle.ae_journal.specs.declared.systems.RuleEntry.{RuleEntry}
use Rattle.ae_journal.specs.declared.lines.Line.{Line}
use Rattle.ae_rule_lines.specs.InStep.{Waiting, AreRulesInStep}
use Rattle.ae_rule_lines.specs.Changes.{equation_of}
use Rattle.ae_rule_lines.specs.Laws.{HaveRisingSides}
use Rattle.ae_rule_passes.specs.Passes.{drop_line, AreRulesTakenOut, IsReducibleRule}

-- the lines stay in step where all these rules are dropped one after the other and their equations wait then, in the same order
abbrev pub PassesKeepStep : Type 0
PassesKeepStep = (sig : Signature) (ts : List Term) (js : List Line) (old new : ℕ → Option RuleEntry) (paired : ℕ → List ℕ) (waiting : List Waiting) (numbers : List ℕ) (rules : List RuleEntry)
    → AreRulesTakenOut old new numbers rules → AreRulesInStep sig ts js old paired waiting
    → AreRulesInStep sig ts (js ++ map drop_line rules) new paired (waiting ++ map equation_of rules)

-- the name represents nothing after the lines, nor after any lines that drop rules behind them
abbrev pub IsStaleAfter : Setting → List Line → ℕ → Type 0
IsStaleAfter x js k = (rules : List RuleEntry) → ¬ Represents x (js ++ map drop_line rules) k k

-- each right side is spelled in rising order
abbrev pub HaveRisingRights : (ℕ → Option RuleEntry) → Type 0
HaveRisingRights rules = (n : ℕ) (e : RuleEntry) → rules n ≡ Some e → IsNonDecreasing e.right

-- these lines may come where each rule has a name in its left side that is no representative
abbrev pub StaleRulesMayGo : Type 0
StaleRulesMayGo = (x : Setting) (bound : ℕ) (sig : Signature) (ts : List Term) (js : List Line) (old new : ℕ → Option RuleEntry) (paired : ℕ → List ℕ) (waiting : List Waiting) (numbers : List ℕ) (rules : List RuleEntry)
    → AreRulesTakenOut old new numbers rules → AreRulesInStep sig ts (live js) old paired waiting → HaveRisingRights old
    → ((n : ℕ) (e : RuleEntry) → Contains numbers n → old n ≡ Some e → (k : ℕ) × (0 < count k e.left) × IsStaleAfter x js k) → AreLegal x bound js (map drop_line rules)

-- and where others reduce their left sides
abbrev pub ReducibleRulesMayGo : Type 0
ReducibleRulesMayGo = (x : Setting) (bound : ℕ) (sig : Signature) (ts : List Term) (js : List Line) (old new : ℕ → Option RuleEntry) (paired : ℕ → List ℕ) (waiting : List Waiting) (numbers : List ℕ) (rules : List RuleEntry)
    → AreRulesTakenOut old new numbers rules → AreRulesInStep sig ts (live js) old paired waiting → HaveRisingSides old → HaveRisingRights old
    → ((n : ℕ) → Contains numbers n → IsReducibleRule old n) → AreLegal x bound js (map drop_line rules)
