use Rattle.std.proofs.Common.{rules, ◌≡◌, ◌∙◌, List, [], ◌∷◌, ◌++◌, None, sym, ap, subst, nat_cmp}
use Rattle.std.specs.BTreeMap.{get}
use Rattle.ae_core.specs.declared.terms.Sort.{Sort, Var, Rigid}
use Rattle.ae_core.specs.Sorts.{same_sort}
use Rattle.ae_elaboration.specs.Inner.Tables.{Finds}
use Rattle.ae_elab.specs.Scope.{first_place}
use Rattle.ae_elaboration.proofs.VariableLaws.{once_new, once_there, finds_new, finds_other, var_same, rigid_var, settled}
use Rattle.ae_elaboration.proofs.variables.Variables.push_unknown.Goals as goal

pub invariant_of-self-in-None : goal.invariant_of-self-in-None
invariant_of-self-in-None c =
    let ss = c.self.inside.sorts in
    let v = c.args.variable in
    let view : ss ≡ c.args.self.now = search rules in
    let none : first_place (same_sort (Var v)) ss ≡ None = ap (λ (z : List Sort). first_place (same_sort (Var v)) z) view ∙ sym c.in-None.ensures in
    settled c.push_at.result c.push_at.ensures.sorts c.push_at.ensures.numbers c.push_at.ensures.err c.push_at.ensures.same
    (λ e u. (
      subst (λ (z : List Sort). Finds Var z (get nat_cmp c.push_at.new.numbers)) (sym e)
          (finds_new Var var_same ss v (get nat_cmp c.self.inside.unknown) (get nat_cmp c.push_at.new.numbers) c.self.invariant.0 none u),
      subst (λ (z : List Sort). Finds Rigid z (get nat_cmp c.self.inside.written)) (sym e)
          (finds_other Rigid ss (Var v) (get nat_cmp c.self.inside.written) (λ n. rigid_var n v) c.self.invariant.1),
    ))
    (λ e u. (
      subst (λ (z : List Sort). Finds Var z (get nat_cmp c.push_at.new.numbers)) (sym e) (λ n. u n ∙ c.self.invariant.0 n),
      subst (λ (z : List Sort). Finds Rigid z (get nat_cmp c.self.inside.written)) (sym e) c.self.invariant.1,
    ))

pub returns-in-Some : goal.returns-in-Some
returns-in-Some c = sym (once_there c.args.self.now (Var c.args.variable) _ (sym c.in-Some.ensures))

pub returns-in_ok-push_at-in-None : goal.returns-in_ok-push_at-in-None
returns-in_ok-push_at-in-None c =
    let ss = c.self.inside.sorts in
    let v = c.args.variable in
    let view : ss ≡ c.args.self.now = search rules in
    let none : first_place (same_sort (Var v)) c.args.self.now ≡ None = sym c.in-None.ensures in
    c.in_ok-push_at-in-None.ensures.sorts ∙ ap (λ (z : List Sort). z ++ Var v ∷ []) view ∙ sym (once_new c.args.self.now (Var v) none)
