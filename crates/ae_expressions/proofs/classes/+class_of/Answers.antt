use Rattle.std.proofs.Common.{arith, ◌≡◌, ◌∙◌, ◌<◌, ◌∷◌, ◌++◌, sym, ap, subst}
use Rattle.std.proofs.lemmas.Result.{IfOk-weaker}
use Rattle.ae_base.proofs.AllOf.{all_front, all_back}
use Rattle.ae_syntax.specs.declared.exprs.Expr.{size-Expr}
use Rattle.ae_elab.specs.Environments.{class_in, locals}
use Rattle.ae_elab.specs.Expressions.{part_of}
use Rattle.ae_elab.specs.Names.{IsName, names_in}
use Rattle.ae_elab.specs.Scope.{named, name_in, of_class, scope_with}
use Rattle.ae_expressions.proofs.ClassLaws.{class_let, class_apply}
use Rattle.ae_expressions.proofs.ExprParts.{named_let, named_if, named_apply, named_bracketed, smaller_let, smaller_if, smaller_bracketed}
use Rattle.ae_expressions.proofs.classes.+class_of.Goals as goal

pub class_of-requires : goal.class_of-requires
class_of-requires t c =
    let e = c.args.expr.now in
    let a = c.in-Let.value in
    let b = c.in-Let.body in
    let is = sym c.get.ensures ∙ c.in-Let.is in
    let P = IsName c.args.context.now.text.now in
    let falls : size-Expr a < size-Expr e = omega (arith, smaller_let e c.in-Let.name a b is) in
    (subst (λ n. size-Expr a < n) c.decreases falls, all_front P (names_in a) (names_in b) (named_let P e c.requires.names c.in-Let.name a b is).1)

pub name_at-requires : goal.name_at-requires
name_at-requires t c =
    let is = sym c.get.ensures ∙ c.in-Let.is in
    (named_let (IsName c.args.context.now.text.now) c.args.expr.now c.requires.names c.in-Let.name c.in-Let.value c.in-Let.body is).0

pub class_of-requires-in-Let : goal.class_of-requires-in-Let
class_of-requires-in-Let t c =
    let e = c.args.expr.now in
    let a = c.in-Let.value in
    let b = c.in-Let.body in
    let is = sym c.get.ensures ∙ c.in-Let.is in
    let P = IsName c.args.context.now.text.now in
    let falls : size-Expr b < size-Expr e = omega (arith, smaller_let e c.in-Let.name a b is) in
    (subst (λ n. size-Expr b < n) c.decreases falls, all_back P (names_in a) (names_in b) (named_let P e c.requires.names c.in-Let.name a b is).1)

pub class_of-requires-in-If : goal.class_of-requires-in-If
class_of-requires-in-If t c =
    let e = c.args.expr.now in
    let k = c.in-If.condition in
    let a = c.in-If.positive in
    let b = c.in-If.negative in
    let is = sym c.get.ensures ∙ c.in-If.is in
    let P = IsName c.args.context.now.text.now in
    let falls : size-Expr a < size-Expr e = omega (arith, smaller_if e k a b is) in
    (subst (λ n. size-Expr a < n) c.decreases falls, all_back P (names_in k) (names_in a) (all_front P (names_in k ++ names_in a) (names_in b) (named_if P e c.requires.names k a b is)))

pub class_of-requires-in-If-2 : goal.class_of-requires-in-If-2
class_of-requires-in-If-2 t c =
    let e = c.args.expr.now in
    let k = c.in-If.condition in
    let a = c.in-If.positive in
    let b = c.in-If.negative in
    let is = sym c.get.ensures ∙ c.in-If.is in
    let P = IsName c.args.context.now.text.now in
    let falls : size-Expr b < size-Expr e = omega (arith, smaller_if e k a b is) in
    (subst (λ n. size-Expr b < n) c.decreases falls, all_back P (names_in k ++ names_in a) (names_in b) (named_if P e c.requires.names k a b is))

pub class_of_name-requires : goal.class_of_name-requires
class_of_name-requires t c =
    let is = sym c.get.ensures ∙ c.in-Apply.is in
    record { name = (named_apply (IsName c.args.context.now.text.now) c.args.expr.now c.requires.names c.in-Apply.name c.in-Apply.args is).0 }

pub class_of-requires-in-Bracketed : goal.class_of-requires-in-Bracketed
class_of-requires-in-Bracketed t c =
    let e = c.args.expr.now in
    let a = c.in-Bracketed.inner in
    let is = sym c.get.ensures ∙ c.in-Bracketed.is in
    let falls : size-Expr a < size-Expr e = omega (arith, smaller_bracketed e a is) in
    (subst (λ n. size-Expr a < n) c.decreases falls, named_bracketed (IsName c.args.context.now.text.now) e c.requires.names a is)

pub returns-in_ok-found-in-Let-clause-class : goal.returns-in_ok-found-in-Let-clause-class
returns-in_ok-found-in-Let-clause-class t c =
    let text = c.args.context.now.text.now in
    let known = c.args.context.now.known in
    let outer = locals c.args.environment.now in
    let x = c.in-Let.name in
    let a = c.in-Let.value in
    let b = c.in-Let.body in
    let is = sym c.get.ensures ∙ c.in-Let.is in
    let one = c.in_ok-class-in-Let.ensures in
    c.in_ok-found-in-Let.ensures.class
    ∙ ap (λ ls. (part_of b).class (scope_with text known ls))
    (c.in_ok-enter-in-Let.ensures.locals
    ∙ ap (λ n. named n (of_class (class_in c.in_ok-class-in-Let.class)) ∷ locals c.class_of.new.environment) c.name_at.ensures
    ∙ ap (λ k. named (name_in text x) (of_class k) ∷ locals c.class_of.new.environment) one.class
    ∙ ap (λ ls. named (name_in text x) (of_class ((part_of a).class (scope_with text known outer))) ∷ ls) one.locals)
    ∙ sym (class_let c.args.expr.now (scope_with text known outer) x a b is)

pub returns-in-Apply-clause-class : goal.returns-in-Apply-clause-class
returns-in-Apply-clause-class t c =
    let sc = scope_with c.args.context.now.text.now c.args.context.now.known (locals c.args.environment.now) in
    let is = sym c.get.ensures ∙ c.in-Apply.is in
    IfOk-weaker c.class_of_name.result _ (λ k. class_in k ≡ (part_of c.args.expr.now).class sc) (λ k h. h ∙ sym (class_apply c.args.expr.now sc c.in-Apply.name c.in-Apply.args is)) c.class_of_name.ensures
