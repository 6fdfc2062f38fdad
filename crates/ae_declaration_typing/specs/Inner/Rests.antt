-- What the rule of a definition goes on with once its formal parameters, and the sort of a function's value, are known.
use Rattle.std.specs.Prelude.{ℕ, false, List, length, Some, None}
use Rattle.ae_core.specs.declared.problems.Signature.{Signature}
use Rattle.ae_core.specs.declared.terms.Sort.{Sort}
use Rattle.ae_declaration_typing.specs.Definitions.{function_axiom, predicate_axiom, with_defined}
use Rattle.ae_elab.specs.Declarations.{Declared, drafted, scope_of}
use Rattle.ae_elab.specs.Expressions.{part_of}
use Rattle.ae_elab.specs.Formulas.{Bound, with_block}
use Rattle.ae_elab.specs.Rules.{Rule, ◌>>◌, as_formula, count_written, wanted}
use Rattle.ae_elab.specs.Scope.{name_in}
use Rattle.ae_syntax.specs.declared.exprs.Expr.{Expr}
use Rattle.ae_syntax.specs.declared.spans.Span.{Span}

module _ (text : List ℕ) (sig : Signature) (place name : Span) (body : Expr) (bs : List Bound) where
  abbrev pub function_rest : Sort → Rule Declared
  function_rest s = count_written >> λ vars.
      wanted (with_block bs (scope_of text (with_defined text sig name vars bs (Some s)))) s (part_of body) >> λ t.
      drafted (with_defined text sig name vars bs (Some s)) place false (name_in text name) (function_axiom bs name (length sig.symbols) vars t)

  abbrev pub predicate_rest : Rule Declared
  predicate_rest = count_written >> λ vars.
      as_formula (with_block bs (scope_of text (with_defined text sig name vars bs None))) (part_of body) >> λ f.
      drafted (with_defined text sig name vars bs None) place false (name_in text name) (predicate_axiom bs name (length sig.symbols) vars f)
