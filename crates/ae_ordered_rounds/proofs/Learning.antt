-- What a search has learnt from a block.
use Rattle.std.specs.Prelude.{◌<◌, ◌≡◌, List, [], ◌∷◌, length}
use Rattle.std.specs.List.{AllByRecursion}
use Rattle.std.proofs.Common.{arith, ap, length-append}
use Rattle.ae_base.proofs.AllOf.{all_weaker}
use Rattle.ae_between_rounds.proofs.Passing.{passes_run}
use Rattle.ae_between_rounds.specs.Passing.{Passes}
use Rattle.ae_between_rounds.specs.declared.search.Search.{Search}
use Rattle.ae_bound_blocks.specs.Said.{AreBuilt, IsBuiltLine}
use Rattle.ae_core.specs.declared.problems.Signature.{Signature}
use Rattle.ae_core.specs.declared.proofs.Block.{Block}
use Rattle.ae_core.specs.declared.proofs.ClauseLine.{ClauseLine}
use Rattle.ae_core.specs.declared.proofs.ClauseLine.TheVariants as clause_line
use Rattle.ae_core.specs.declared.proofs.EqLine.{EqLine}
use Rattle.ae_core.specs.declared.terms.Term.{Term}
use Rattle.ae_rules.specs.Clauses.{Clause}
use Rattle.ae_sat.specs.Lines.{IsBuiltLine as IsBuiltOf}
use Rattle.ae_sat.specs.Search.{AddsLearnt, Keeps, Progresses}

-- its lines are between terms that are built of the names
pub built_lines : (sig : Signature) (ts : List Term) (ls : List EqLine) → AreBuilt sig ts ls → AllByRecursion (IsBuiltOf sig ts) ls
built_lines sig ts ls a = all_weaker (IsBuiltLine sig ts) (IsBuiltOf sig ts) (λ l b. record { left = b.left; right = b.right; factors = b.factors }) ls a

-- two lines come in
pub more_lines : (b : Block) (clauses : List Clause) (old new : List ClauseLine) → AddsLearnt b clauses old new → length old < length new
more_lines b clauses old new a =
    let e = ap (λ (ls : List ClauseLine). length ls) a.2 in
    let m = length-append old (clause_line.Block b ∷ clause_line.Rup a.0 a.1 ∷ []) in
    omega (arith, e, m)

-- a counted line was noted
pub passes_learnt : (o n : Search) → n.store ≡ o.store → n.blocks ≡ o.blocks → Progresses o.journal n.journal → Keeps o.journal n.journal → Passes o n
passes_learnt o n store blocks more keeps = passes_run o n store blocks (λ same. absurd (let l = more.more in omega (arith, l, same))) keeps
