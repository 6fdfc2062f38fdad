-- What is taken for a literal that asks for terms, and that it stands.
use Rattle.std.specs.Prelude.{ℕ, ◌≡◌, true, false, List, Some}
use Rattle.std.specs.List.{Contains}
use Rattle.ae_base.specs.Options.{or_else}
use Rattle.ae_block_constants.specs.declared.opened.Opened.{Opened}
use Rattle.ae_core.specs.declared.formulas.Formula.{Formula, out-Formula}
use Rattle.ae_core.specs.declared.formulas.Lit.{Lit}
use Rattle.ae_core.specs.declared.formulas.Quant.{Quant}
use Rattle.ae_core.specs.declared.problems.Problem.{Problem}
use Rattle.ae_core.specs.declared.terms.Term.{Term}
use Rattle.ae_explain.specs.declared.trail.Assigned.{Assigned}
use Rattle.ae_journal.specs.States.{body_literal, is_universal, quant_of}
use Rattle.ae_open_states.specs.Shown.{trail_literals}
use Rattle.ae_rules.specs.Clauses.{Clause}
use Rattle.ae_rules.specs.Instances.{fresh_clause, fresh_terms, have_sorts}
use Rattle.ae_sat.specs.Standing.{IsOneOf}

-- the literal of the body, with the constants of the block; a literal without a block for itself
abbrev pub opened_body : (Formula → ℕ) → Lit → Lit
opened_body fresh l = or_else (body_literal l (fresh_terms (fresh l.formula) l.formula)) l

-- the clause of each block that was opened is among the clauses
abbrev pub HaveClauses : List Opened → List Clause → Type 0
HaveClauses opened clauses = (o : Opened) → Contains opened o → (c : Clause) × (fresh_clause o.formula o.first (out-Formula o.formula) ≡ Some c) × IsOneOf clauses c

-- with each literal of the trail that asks for terms the one that is taken for it stands: that of its body for some closed terms of the sorts of the block
abbrev pub AreServed : Problem → List Assigned → (Lit → Lit) → Type 0
AreServed p t body = (l : Lit) (q : Quant) → Contains (trail_literals t) l → is_universal l ≡ false → quant_of (out-Formula l.formula) ≡ Some q
    → Contains (trail_literals t) (body l) × (ts : List Term) × (have_sorts p.signature ts q.sorts ≡ true) × (body_literal l ts ≡ Some (body l))
