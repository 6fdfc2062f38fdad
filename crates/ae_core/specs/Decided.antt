-- Whether two sorts, terms, formulas or literals are equal is decided.
use mathlib.Core.List.{List}
use base.Stored.{coded_list}
use Rattle.ae_base.specs.Decided.{decide}
use Rattle.ae_core.specs.declared.terms.Sort.{Sort}
use Rattle.ae_core.specs.declared.terms.Term.{Term}
use Rattle.ae_core.specs.declared.formulas.Formula.{Formula}
use Rattle.ae_core.specs.declared.formulas.Lit.{Lit}
use Rattle.ae_core.specs.contracts.terms.Term as term_contract
use Rattle.ae_core.specs.declared.terms.Head.{Head}
use Rattle.ae_core.specs.contracts.terms.Sort as sort_contract
use Rattle.ae_core.specs.contracts.terms.Head as head_contract
use Rattle.ae_core.specs.contracts.formulas.Formula as formula_contract
use Rattle.ae_core.specs.contracts.formulas.Lit as lit_contract

pub Sort_discrete : Discrete Sort
Sort_discrete = decide sort_contract.the_row.coded

pub Sorts_discrete : Discrete (List Sort)
Sorts_discrete = decide (coded_list sort_contract.the_row.coded)

pub Head_discrete : Discrete Head
Head_discrete = decide head_contract.the_row.coded

pub Term_discrete : Discrete Term
Term_discrete = decide term_contract.the_row.coded

pub Formula_discrete : Discrete Formula
Formula_discrete = decide formula_contract.the_row.coded

pub Lit_discrete : Discrete Lit
Lit_discrete = decide lit_contract.the_row.coded
