-- The laws, as statements: what keeps the lines in step, and which lines may come.
use Rattle.std.specs.Prelude.{ℕ, ◌<◌, ◌≤◌, true, List, [], ◌∷◌, ◌++◌, ◌≡◌, ◌≢◌, ◌⊎◌, length, slice_get, Option, Some, None}
use Rattle.std.specs.List.{AllByRecursion, Contains}
use Rattle.std.specs.List.Sorted.{IsNonDecreasing}
use Rattle.ae_core.specs.declared.terms.Term.{Term, Apply}
use Rattle.ae_core.specs.declared.problems.Signature.{Signature}
use Rattle.ae_core.specs.declared.problems.AcSymbol.{AcSymbol}
use Rattle.ae_multiset.specs.Multisets.{count, IsPart, IsLess}
use Rattle.ae_multiset.specs.Rewriting.{IsReduced}
use Rattle.ae_journal.specs.Systems.{IsJoin}
use Rattle.ae_journal.specs.Journals.{live}
use Rattle.ae_journal.specs.Standing.{Setting, Represents}
use Rattle.ae_journal.specs.RuleLines.{MayOrientRule, MayDrop, MayPair}
use Rattle.ae_journal.specs.declared.systems.RuleEntry.{RuleEntry}
use Rattle.ae_journal.specs.declared.lines.Oriented.TheVariants as oriented
use Rattle.ae_journal.specs.declared.lines.Line.{Line}
use Rattle.ae_journal.specs.declared.lines.Line.TheVariants as line
use Rattle.ae_store.specs.Stores.{Stored}
use Rattle.ae_store.specs.Terms.{Keeps}
use Rattle.ae_settled.specs.Held.{HasRule}
use Rattle.ae_theory.specs.Names.{IsNamedBy, terms_in}
use Rattle.ae_rule_lines.specs.Lineage.{DescendsIn, DescendsBy, AreOfLines}
use Rattle.ae_rule_lines.specs.InStep.{Waiting, AreRulesInStep, ArePaired}
use Rattle.ae_rule_lines.specs.Changes.{leaves_rules, KeepsLeast, IsRuleEntered, IsRuleTakenOut, HaveNewRights, ArePairedToo, equation_of, overlap_of, HaveNewSides}

-- ---- what keeps the lines in step
-- no lines, no rules, no equations
abbrev pub NothingIsInStep : Type 0
NothingIsInStep = (sig : Signature) (ts : List Term) → AreRulesInStep sig ts [] (λ n. None) (λ n. []) []

-- a line that leaves rules and pairs as they are
abbrev pub OtherLinesKeepStep : Type 0
OtherLinesKeepStep = (sig : Signature) (ts : List Term) (js : List Line) (j : Line) (rules : ℕ → Option RuleEntry) (paired : ℕ → List ℕ) (waiting : List Waiting) → leaves_rules j ≡ true
    → AreRulesInStep sig ts js rules paired waiting → AreRulesInStep sig ts (js ++ j ∷ []) rules paired waiting

-- more terms
abbrev pub NamesKeepStep : Type 0
NamesKeepStep = (sig : Signature) (ts all : List Term) (js : List Line) (rules : ℕ → Option RuleEntry) (paired : ℕ → List ℕ) (waiting : List Waiting) → Keeps ts all → KeepsLeast sig ts all js
    → AreRulesInStep sig ts js rules paired waiting → AreRulesInStep sig all js rules paired waiting

-- a rule that is noted and entered
abbrev pub RulesKeepStep : Type 0
RulesKeepStep = (sig : Signature) (ts : List Term) (js : List Line) (old new : ℕ → Option RuleEntry) (paired : ℕ → List ℕ) (waiting : List Waiting) (n : ℕ) (e : RuleEntry)
    → IsRuleEntered old new paired n e → AreRulesInStep sig ts js old paired waiting
    → AreRulesInStep sig ts (js ++ line.Orient (oriented.Rule e.symbol e.left e.right) ∷ []) new paired waiting

-- a rule that is dropped and taken out, of which the equation waits then
abbrev pub DropsKeepStep : Type 0
DropsKeepStep = (sig : Signature) (ts : List Term) (js : List Line) (old new : ℕ → Option RuleEntry) (paired : ℕ → List ℕ) (waiting : List Waiting) (n : ℕ) (e : RuleEntry) (right : List ℕ)
    → IsRuleTakenOut old new n e → AreRulesInStep sig ts js old paired waiting
    → AreRulesInStep sig ts (js ++ line.Drop (oriented.Rule e.symbol e.left right) ∷ []) new paired (waiting ++ equation_of e ∷ [])

-- two rules of one symbol that are paired, of which the results of Deduce wait then
abbrev pub PairsKeepStep : Type 0
PairsKeepStep = (sig : Signature) (ts : List Term) (js : List Line) (rules : ℕ → Option RuleEntry) (old new : ℕ → List ℕ) (waiting : List Waiting) (m n : ℕ) (d e : RuleEntry)
    → rules m ≡ Some d → rules n ≡ Some e → d.symbol ≡ e.symbol → ArePairedToo old new m n → AreRulesInStep sig ts js rules old waiting
    → AreRulesInStep sig ts (js ++ line.Pair d.symbol d.left e.left ∷ []) rules new (waiting ++ overlap_of d e ∷ [])

-- right sides that descend from those of before
abbrev pub NewRightsKeepStep : Type 0
NewRightsKeepStep = (sig : Signature) (ts : List Term) (js : List Line) (old new : ℕ → Option RuleEntry) (paired : ℕ → List ℕ) (waiting : List Waiting) → HaveNewRights sig ts js old new
    → AreRulesInStep sig ts js old paired waiting → AreRulesInStep sig ts js new paired waiting

-- equations of which the sides descend from those of before; some may be gone
abbrev pub NewSidesKeepStep : Type 0
NewSidesKeepStep = (sig : Signature) (ts : List Term) (js : List Line) (rules : ℕ → Option RuleEntry) (paired : ℕ → List ℕ) (old new : List Waiting) → HaveNewSides sig ts js old new
    → AreRulesInStep sig ts js rules paired old → AreRulesInStep sig ts js rules paired new

abbrev pub ForgettingKeepsStep : Type 0
ForgettingKeepsStep = (sig : Signature) (ts : List Term) (js : List Line) (rules : ℕ → Option RuleEntry) (paired : ℕ → List ℕ) (old new : List Waiting) → ((w : Waiting) → Contains new w → Contains old w)
    → AreRulesInStep sig ts js rules paired old → AreRulesInStep sig ts js rules paired new

-- the two arguments of a name that applies an AC symbol, against that name
abbrev pub NameEquationsKeepStep : Type 0
NameEquationsKeepStep = (sig : Signature) (ts : List Term) (js : List Line) (rules : ℕ → Option RuleEntry) (paired : ℕ → List ℕ) (waiting : List Waiting) (u : AcSymbol) (n i j : ℕ) (a b : Term)
    → slice_get ts n ≡ Some (Apply u.head u.sorts (a ∷ b ∷ [])) → IsJoin sig u.head a b → slice_get ts i ≡ Some a → slice_get ts j ≡ Some b → AreRulesInStep sig ts js rules paired waiting
    → AreRulesInStep sig ts js rules paired (waiting ++ record { symbol = u; left = i ∷ j ∷ []; right = n ∷ [] } ∷ [])

-- ---- descent
-- what descends by the representatives and rules of now does so by the lines
abbrev pub DescentsAreOfLines : Type 0
DescentsAreOfLines = (sig : Signature) (ts : List Term) (js : List Line) (rep : ℕ → ℕ) (rules : ℕ → Option RuleEntry) (paired : ℕ → List ℕ) (waiting : List Waiting) (u : AcSymbol) (a b : List ℕ)
    → AreRulesInStep sig ts js rules paired waiting → AreOfLines sig ts js rep → DescendsBy rep rules u a b → DescendsIn sig ts js u a b

-- ---- lines that may come, after the lines js of which those that stand are in step
-- a rule from the larger to the smaller side of an equation that waits, both of representatives and reduced
abbrev pub RuleMayCome : Type 0
RuleMayCome = (x : Setting) (s : Stored) (ts : List Term) (js : List Line) (rules : ℕ → Option RuleEntry) (paired : ℕ → List ℕ) (waiting : List Waiting) (w : Waiting) (l r : List ℕ)
    → IsNamedBy x s js → Keeps ts (terms_in s) → KeepsLeast s.signature ts x.names (live js) → AreRulesInStep s.signature ts (live js) rules paired waiting
    → Contains waiting w → ((l ≡ w.left) × (r ≡ w.right)) ⊎ ((l ≡ w.right) × (r ≡ w.left)) → IsLess r l → 2 ≤ length l → AllByRecursion (λ n. Represents x js n n) (l ++ r)
    → IsReduced (HasRule rules w.symbol) l → IsReduced (HasRule rules w.symbol) r → MayOrientRule x js w.symbol l r

-- each left side is spelled in rising order
abbrev pub HaveRisingSides : (ℕ → Option RuleEntry) → Type 0
HaveRisingSides rules = (n : ℕ) (e : RuleEntry) → rules n ≡ Some e → IsNonDecreasing e.left

-- a rule of which another reduces the left side is dropped
abbrev pub ReducibleMayBeDropped : Type 0
ReducibleMayBeDropped = (x : Setting) (sig : Signature) (ts : List Term) (js : List Line) (rules : ℕ → Option RuleEntry) (paired : ℕ → List ℕ) (waiting : List Waiting) (m n : ℕ) (d e : RuleEntry)
    → AreRulesInStep sig ts (live js) rules paired waiting → HaveRisingSides rules → rules m ≡ Some d → rules n ≡ Some e → m ≢ n → d.symbol ≡ e.symbol → IsPart d.left e.left
    → MayDrop x js e.symbol e.left

-- so is one with a name in its left side that is no representative
abbrev pub StaleMayBeDropped : Type 0
StaleMayBeDropped = (x : Setting) (sig : Signature) (ts : List Term) (js : List Line) (rules : ℕ → Option RuleEntry) (paired : ℕ → List ℕ) (waiting : List Waiting) (n k : ℕ) (e : RuleEntry)
    → AreRulesInStep sig ts (live js) rules paired waiting → rules n ≡ Some e → 0 < count k e.left → ¬ Represents x js k k → MayDrop x js e.symbol e.left

-- two rules of one symbol with a common name are paired where they aren't yet
abbrev pub RulesMayBePaired : Type 0
RulesMayBePaired = (sig : Signature) (ts : List Term) (js : List Line) (rules : ℕ → Option RuleEntry) (paired : ℕ → List ℕ) (waiting : List Waiting) (m n k : ℕ) (d e : RuleEntry)
    → AreRulesInStep sig ts (live js) rules paired waiting → HaveRisingSides rules → rules m ≡ Some d → rules n ≡ Some e → m ≢ n → d.symbol ≡ e.symbol → 0 < count k d.left → 0 < count k e.left
    → ¬ ArePaired paired m n → MayPair js d.symbol d.left e.left
