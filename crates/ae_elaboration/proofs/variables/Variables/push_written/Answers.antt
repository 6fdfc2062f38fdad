use Rattle.std.proofs.Common.{rules, ◌≡◌, ◌∙◌, List, [], ◌∷◌, ◌++◌, None, sym, ap, subst, nat_cmp}
use Rattle.std.specs.BTreeMap.{get}
use Rattle.ae_core.specs.declared.terms.Sort.{Sort, Var, Rigid}
use Rattle.ae_core.specs.Sorts.{same_sort}
use Rattle.ae_elaboration.specs.Inner.Tables.{Finds}
use Rattle.ae_elab.specs.Scope.{first_place}
use Rattle.ae_elaboration.proofs.VariableLaws.{once_new, once_there, finds_new, finds_other, rigid_same, var_rigid, settled}
use Rattle.ae_elaboration.proofs.variables.Variables.push_written.Goals as goal

pub invariant_of-self-in-None : goal.invariant_of-self-in-None
invariant_of-self-in-None c =
    let ss = c.self.inside.sorts in
    let v = c.args.variable in
    let view : ss ≡ c.args.self.now = search rules in
    let none : first_place (same_sort (Rigid v)) ss ≡ None = ap (λ (z : List Sort). first_place (same_sort (Rigid v)) z) view ∙ sym c.in-None.ensures in
    settled c.push_at.result c.push_at.ensures.sorts c.push_at.ensures.numbers c.push_at.ensures.err c.push_at.ensures.same
    (λ e u. (
      subst (λ (z : List Sort). Finds Var z (get nat_cmp c.self.inside.unknown)) (sym e)
          (finds_other Var ss (Rigid v) (get nat_cmp c.self.inside.unknown) (λ n. var_rigid n v) c.self.invariant.0),
      subst (λ (z : List Sort). Finds Rigid z (get nat_cmp c.push_at.new.numbers)) (sym e)
          (finds_new Rigid rigid_same ss v (get nat_cmp c.self.inside.written) (get nat_cmp c.push_at.new.numbers) c.self.invariant.1 none u),
    ))
    (λ e u. (
      subst (λ (z : List Sort). Finds Var z (get nat_cmp c.self.inside.unknown)) (sym e) c.self.invariant.0,
      subst (λ (z : List Sort). Finds Rigid z (get nat_cmp c.push_at.new.numbers)) (sym e) (λ n. u n ∙ c.self.invariant.1 n),
    ))

pub returns-in-Some : goal.returns-in-Some
returns-in-Some c = sym (once_there c.args.self.now (Rigid c.args.variable) _ (sym c.in-Some.ensures))

pub returns-in_ok-push_at-in-None : goal.returns-in_ok-push_at-in-None
returns-in_ok-push_at-in-None c =
    let ss = c.self.inside.sorts in
    let v = c.args.variable in
    let view : ss ≡ c.args.self.now = search rules in
    let none : first_place (same_sort (Rigid v)) c.args.self.now ≡ None = sym c.in-None.ensures in
    c.in_ok-push_at-in-None.ensures.sorts ∙ ap (λ (z : List Sort). z ++ Rigid v ∷ []) view ∙ sym (once_new c.args.self.now (Rigid v) none)
