-- The axioms of definitions, for the defined symbol's number and how many type variables its declaration has written; and the
-- declarations with the defined symbol.
use Rattle.std.specs.Prelude.{ℕ, List, [], ◌∷◌, Option}
use Rattle.ae_core.specs.declared.problems.Nature.TheVariants.{Free}
use Rattle.ae_core.specs.declared.problems.Signature.{Signature}
use Rattle.ae_core.specs.declared.terms.Sort.{Sort}
use Rattle.ae_core.specs.declared.terms.Head.TheVariants as head
use Rattle.ae_elab.specs.Declarations.{defining, formal_args, rigids, sorts_of, symbol_entry, with_symbols}
use Rattle.ae_elab.specs.Formulas.{Bound}
use Rattle.ae_elab.specs.Scope.{name_in}
use Rattle.ae_elab.specs.Trees.{Tree, Claim, apply, equal, equivalence, predicate, relation}
use Rattle.ae_syntax.specs.declared.spans.Span.{Span}

-- the defined symbol applied to its formal parameters
abbrev pub applied : ℕ → ℕ → List Bound → Tree
applied symbol vars bs = apply (head.Symbol symbol) (rigids 0 vars) (formal_args bs)

-- `f(x, ..) = t`
abbrev pub function_axiom : List Bound → Span → ℕ → ℕ → Tree → Claim
function_axiom bs place symbol vars t = defining bs place (applied symbol vars bs) (relation equal (applied symbol vars bs) t)

-- `p(x, ..) <-> f`
abbrev pub predicate_axiom : List Bound → Span → ℕ → ℕ → Claim → Claim
predicate_axiom bs place symbol vars f =
    defining bs place (applied symbol vars bs) (equivalence (predicate symbol (rigids 0 vars) (formal_args bs)) f)

-- the declarations with a defined symbol of this name: its formal parameters, and the sort of its value
abbrev pub with_defined : List ℕ → Signature → Span → ℕ → List Bound → Option Sort → Signature
with_defined text sig name vars bs r = with_symbols sig (symbol_entry (name_in text name) vars (sorts_of bs) r Free ∷ [])
