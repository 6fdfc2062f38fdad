use Rattle.std.proofs.Common.{sym, subst}
use Rattle.ae_core.specs.declared.terms.Head.TheVariants as head
use Rattle.ae_core.specs.declared.terms.Sort.{Unit as UnitSort}
use Rattle.ae_elab.specs.declared.environment.Class.TheVariants.{Either, Term}
use Rattle.ae_elab.specs.Environments.{class_in}
use Rattle.ae_elab.specs.Expressions.{name_term}
use Rattle.ae_elab.specs.Scope.{a_formula, bound, of_class}
use Rattle.ae_elab.specs.Trees.{constant, falsity}
use Rattle.ae_elab.specs.Typings.{Stops, TypesTerm}
use Rattle.ae_expressions.proofs.NameSteps.{bound_claim, bound_given}
use Rattle.ae_expressions.proofs.meanings.untyped_term.Goals as goal

pub returns-in-Formula : goal.returns-in-Formula
returns-in-Formula c d name args none =
    let old = c.args.typing.now in
    subst (λ k. Stops d (λ sc. name_term name args sc c.args.place (bound (of_class (class_in k)))) old c.prop_in_term.result) (sym c.in-Formula.is)
    (subst (λ e. Stops d (λ sc. name_term name args sc c.args.place (bound (a_formula falsity))) old e) (sym c.prop_in_term.ensures) (bound_claim d c.args.place name args old none falsity))

pub returns-in_ok-constant-in-Either : goal.returns-in_ok-constant-in-Either
returns-in_ok-constant-in-Either c d name args none =
    let old = c.args.typing.now in
    let new = c.constant.new.typing in
    let t = c.in_ok-constant-in-Either.field-0 in
    subst (λ k. TypesTerm d (λ sc. name_term name args sc c.args.place (bound (of_class (class_in k)))) old new t) (sym c.in-Either.is)
    (bound_given d c.args.place name args old none Either (constant head.Void) UnitSort new t (c.in_ok-constant-in-Either.ensures d))

pub returns-in_ok-constant-in-Term : goal.returns-in_ok-constant-in-Term
returns-in_ok-constant-in-Term c d name args none =
    let old = c.args.typing.now in
    let new = c.constant-in-Term.new.typing in
    let t = c.in_ok-constant-in-Term.field-0 in
    subst (λ k. TypesTerm d (λ sc. name_term name args sc c.args.place (bound (of_class (class_in k)))) old new t) (sym c.in-Term.is)
    (bound_given d c.args.place name args old none Term (constant head.Void) UnitSort new t (c.in_ok-constant-in-Term.ensures d))
