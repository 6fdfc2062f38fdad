-- The laws, as statements.
use Rattle.std.specs.Prelude.{ℕ, List, ◌∷◌, ◌++◌, ◌≡◌, ◌≢◌, map, Option, Some}
use Rattle.ae_core.specs.declared.terms.Term.{Term}
use Rattle.ae_core.specs.declared.problems.Signature.{Signature}
use Rattle.ae_core.specs.declared.problems.AcSymbol.{AcSymbol}
use Rattle.ae_multiset.specs.Multisets.{IsLess, rising}
use Rattle.ae_multiset.specs.Rewriting.{IsReduced}
use Rattle.ae_descents.specs.Descents.{Descends}
use Rattle.ae_journal.specs.Journals.{live}
use Rattle.ae_journal.specs.Standing.{Setting}
use Rattle.ae_journal.specs.Legal.{AreLegal}
use Rattle.ae_journal.specs.declared.systems.RuleEntry.{RuleEntry}
use Rattle.ae_journal.specs.declared.lines.Line.{Line}
use Rattle.ae_settled.specs.Held.{HasRule}
use Rattle.ae_monoid.specs.Rules.{AreRules, IsRuleOf}
use Rattle.ae_monoid.specs.Equations.{IsDeduced}
use Rattle.ae_monoid.specs.Changes.{AreTakenOut, IsReducible, IsOriented, with_right}
use Rattle.ae_monoid.specs.declared.rules.Kept.{Kept}
use Rattle.ae_monoid.specs.declared.pending.PendingPair.{PendingPair}
use Rattle.ae_rule_lines.specs.Lineage.{DescendsIn, DescendsBy}
use Rattle.ae_rule_lines.specs.InStep.{Waiting, AreRulesInStep}
use Rattle.ae_rule_lines.specs.Changes.{IsRuleEntered, HaveNewRights, ArePairedToo, equation_of, overlap_of, HasNewSides}
use Rattle.ae_rule_passes.specs.Passes.{drop_line}
use Rattle.ae_rule_passes.specs.Laws.{IsStaleAfter}
use Rattle.ae_rule_changes.specs.Entries.{AreEntries, entry_of, HasStaleName, ArePairedBelow}

-- ---- rules that are taken out
-- their lines may come one after the other, and are in step with the rules that stay, where their equations wait then
pub record AreDropped (x : Setting) (bound : ℕ) (sig : Signature) (ts : List Term) (js : List Line) (rules : ℕ → Option RuleEntry) (paired : ℕ → List ℕ) (waiting : List Waiting) (pairs : List PendingPair) : Type 0 where
  pub legal : AreLegal x bound js (map drop_line (map entry_of pairs))
  pub step : AreRulesInStep sig ts (live js ++ map drop_line (map entry_of pairs)) rules paired (waiting ++ map equation_of (map entry_of pairs))

-- those with a name in their left sides that isn't its own representative, as it is none by the lines
abbrev pub StaleRulesAreDropped : Type 0
StaleRulesAreDropped = (x : Setting) (bound : ℕ) (sig : Signature) (ts : List Term) (js : List Line) (rep : ℕ → ℕ) (next : ℕ) (old new : ℕ → Option Kept) (rules stay : ℕ → Option RuleEntry) (paired : ℕ → List ℕ)
    (waiting : List Waiting) (pairs : List PendingPair) → AreRules old next → AreEntries old rules → AreEntries new stay → AreTakenOut old new (λ n. HasStaleName rep (old n)) pairs
    → ((k : ℕ) → rep k ≢ k → IsStaleAfter x js k) → AreRulesInStep sig ts (live js) rules paired waiting → AreDropped x bound sig ts js stay paired waiting pairs

-- those of which others reduce the left sides
abbrev pub ReducibleRulesAreDropped : Type 0
ReducibleRulesAreDropped = (x : Setting) (bound : ℕ) (sig : Signature) (ts : List Term) (js : List Line) (next : ℕ) (old new : ℕ → Option Kept) (rules stay : ℕ → Option RuleEntry) (paired : ℕ → List ℕ)
    (waiting : List Waiting) (pairs : List PendingPair) → AreRules old next → AreEntries old rules → AreEntries new stay → AreTakenOut old new (IsReducible old) pairs
    → AreRulesInStep sig ts (live js) rules paired waiting → AreDropped x bound sig ts js stay paired waiting pairs

-- ---- a rule that is entered
-- from the larger of two multisets, which no rule reduces, to the smaller
abbrev pub OrientedRulesAreEntered : Type 0
OrientedRulesAreEntered = (next just : ℕ) (old new : ℕ → Option Kept) (rules more : ℕ → Option RuleEntry) (paired : ℕ → List ℕ) (u : AcSymbol) (a b : List ℕ) → AreRules old next → AreEntries old rules
    → AreEntries new more → IsOriented (new next) u a b just → ((n : ℕ) → n ≢ next → new n ≡ old n) → ArePairedBelow paired next → IsReduced (HasRule rules u) a → IsReduced (HasRule rules u) b
    → (IsLess b a → IsRuleEntered rules more paired next (record { symbol = u; left = rising a; right = rising b }))
    × (IsLess a b → IsRuleEntered rules more paired next (record { symbol = u; left = rising b; right = rising a }))

-- ---- a rule that gets another right side
abbrev pub ComposedRulesHaveNewRights : Type 0
ComposedRulesHaveNewRights = (sig : Signature) (ts : List Term) (js : List Line) (n just : ℕ) (k : Kept) (right : List ℕ) (old new : ℕ → Option Kept) (rules later : ℕ → Option RuleEntry) → AreEntries old rules
    → AreEntries new later → old n ≡ Some k → new n ≡ Some (with_right k right just) → ((m : ℕ) → m ≢ n → new m ≡ old m) → DescendsIn sig ts js k.entry.symbol k.entry.right right
    → HaveNewRights sig ts js rules later

-- ---- two rules that are paired
abbrev pub NotedPairsArePaired : Type 0
NotedPairsArePaired = (m n : ℕ) (old new : ℕ → List ℕ) → new m ≡ n ∷ old m → ((k : ℕ) → k ≢ m → new k ≡ old k) → ArePairedToo old new m n

-- the equation of their overlap comes of the results of Deduce
abbrev pub DeducedPairsHaveNewSides : Type 0
DeducedPairsHaveNewSides = (sig : Signature) (ts : List Term) (js : List Line) (p q : Kept) (pair : PendingPair) → IsDeduced p q pair → HasNewSides sig ts js (overlap_of p.entry q.entry) (equation_of (entry_of pair))

-- ---- descent by what is kept
abbrev pub KeptRulesDescend : Type 0
KeptRulesDescend = (rep : ℕ → ℕ) (kept : ℕ → Option Kept) (rules : ℕ → Option RuleEntry) (u : AcSymbol) (a b : List ℕ) → AreEntries kept rules → Descends (λ n r. rep n ≡ r) (IsRuleOf kept u) a b → DescendsBy rep rules u a b
