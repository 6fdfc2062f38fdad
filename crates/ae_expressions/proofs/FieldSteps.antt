-- Fields once their record is typed: each exit of the function is one of these lemmas.
use Rattle.std.proofs.Common.{◌≡◌, ℕ, List, Option, Some, None, sym, subst}
use Rattle.ae_core.specs.declared.terms.Sort.{Sort, Named}
use Rattle.ae_core.specs.declared.terms.Head.TheVariants as head
use Rattle.ae_types.specs.Bound.{bound}
use Rattle.ae_types.specs.Inner.Enters.{Sheet}
use Rattle.ae_syntax.specs.declared.spans.Span.{Span}
use Rattle.ae_elab.specs.declared.faults.TypeFault.{TypeFault}
use Rattle.ae_elab.specs.declared.faults.TypeFault.TheVariants as fault
use Rattle.ae_elab.specs.declared.fields.FieldPlace.{FieldPlace}
use Rattle.ae_elab.specs.declared.typings.Context.{Context}
use Rattle.ae_elab.specs.declared.typings.Typing.{Typing}
use Rattle.ae_expressions.specs.FieldParts.{then_field}
use Rattle.ae_elab.specs.Conditions.{has_sort}
use Rattle.ae_elab.specs.Nodes.{a_tree}
use Rattle.ae_elab.specs.Rules.{Passed, Rule, Typed, typed, no_term, give, ◌>>◌, ◌⇒◌, refuse, unknowns}
use Rattle.ae_elab.specs.Scope.{Scope, field_place, name_in}
use Rattle.ae_elab.specs.Steps.{IsMet, IsNotMet, IsTaken, IsWalked, IsStopped}
use Rattle.ae_elab.specs.Terms.{arity_at, field_sort, with_field}
use Rattle.ae_elab.specs.Trees as tree
use Rattle.ae_elab.specs.Trees.{Tree, Trees, apply, more}
use Rattle.ae_elab.specs.Typings.{scope_at, Walks, Stops, TypesTerm, Puts}
use Rattle.ae_elab.proofs.TypingLaws.{with_bindings, with_passing, walks_then, walks_taken, walks_demand, stops_later, stops_demand, walks_push, stands_put}
use Rattle.ae_elab.proofs.WalkLaws.{refuse_stops}

-- ---- a field's name is looked up
module _ {A : Type 0} (c : Context) (x : Span) (otherwise : A) (go : Scope → FieldPlace → Rule A) (old : Typing) where
  abbrev by_place : Option FieldPlace → Rule A
  by_place o = elim o [ Some f ↦ go (scope_at c old) f | None ↦ refuse (fault.UnknownName (name_in c.text.now x) x.from x.to) otherwise ]

  pub field_missing : field_place c.known (name_in c.text.now x) ≡ None → Stops c (λ sc. with_field sc x otherwise (go sc)) old (fault.UnknownName (name_in c.text.now x) x.from x.to)
  field_missing h =
      let e = fault.UnknownName (name_in c.text.now x) x.from x.to in
      subst (λ o. IsStopped (by_place o) (bound old.bindings) old.passing e) (sym h) (refuse_stops e otherwise (bound old.bindings) old.passing)

  module _ (f : FieldPlace) (is : field_place c.known (name_in c.text.now x) ≡ Some f) where
    pub field_stops : (e : TypeFault) → Stops c (λ sc. go sc f) old e → Stops c (λ sc. with_field sc x otherwise (go sc)) old e
    field_stops e h = subst (λ o. IsStopped (by_place o) (bound old.bindings) old.passing e) (sym is) h

    pub field_walks : (new : Typing) (v : A) → Walks c (λ sc. go sc f) old new v → Walks c (λ sc. with_field sc x otherwise (go sc)) old new v
    field_walks new v a = record {
      walked = subst (λ o. IsWalked (by_place o) (bound old.bindings) (bound new.bindings) old.passing new.passing v) (sym is) a.walked;
      locals = a.locals;
      kept = a.kept;
    }

-- ---- `e.x`
module _ (c : Context) (place x : Span) (u : Tree) (s : Sort) (old : Typing) where
  abbrev read : Scope → FieldPlace → List Sort → Rule Typed
  read sc f ss = has_sort place (Named f.of ss) s ⇒ give (typed (apply (head.Field f.of f.place) ss (more u tree.none)) (field_sort sc.signature f ss))

  abbrev at_field : Scope → FieldPlace → Rule Typed
  at_field sc f = unknowns (arity_at sc.signature f.of) >> read sc f

  pub select_missing : field_place c.known (name_in c.text.now x) ≡ None → Stops c (λ sc. then_field place x sc (typed u s)) old (fault.UnknownName (name_in c.text.now x) x.from x.to)
  select_missing h = field_missing c x no_term at_field old h

  module _ (f : FieldPlace) (is : field_place c.known (name_in c.text.now x) ≡ Some f) (q : Passed) (ss : List Sort) (new_sorts : IsTaken (unknowns (arity_at c.known f.of)) old.passing q ss) where
    pub select_other : (e : TypeFault) → IsNotMet (has_sort place (Named f.of ss) s) (bound old.bindings) e → Stops c (λ sc. then_field place x sc (typed u s)) old e
    select_other e h =
        field_stops c x no_term at_field old f is e
        (stops_later c (λ sc. unknowns (arity_at sc.signature f.of)) (λ sc. read sc f) old (with_passing q old) ss e (walks_taken c (λ sc. unknowns (arity_at sc.signature f.of)) old q ss new_sorts)
        (stops_demand c (λ sc. has_sort place (Named f.of ss) s) (λ sc. give (typed (apply (head.Field f.of f.place) ss (more u tree.none)) (field_sort sc.signature f ss))) (with_passing q old) e h))

    pub select_done : (w : Sheet) (new : Typing) (n : ℕ) (r : Sort) (us : Trees) → IsMet (has_sort place (Named f.of ss) s) (bound old.bindings) (bound w) → us ≡ more u tree.none → r ≡ field_sort c.known f ss
        → Puts (with_bindings w (with_passing q old)) new (a_tree (apply (head.Field f.of f.place) ss us)) n → TypesTerm c (λ sc. then_field place x sc (typed u s)) old new (record { tree = n; sort = r })
    select_done w new n r us h one is_sort p =
        let t = apply (head.Field f.of f.place) ss (more u tree.none) in
        let v = field_sort c.known f ss in
        let mid = with_bindings w (with_passing q old) in
        let last : Puts mid new (a_tree t) n = subst (λ z. Puts mid new (a_tree (apply (head.Field f.of f.place) ss z)) n) one p in
        let put = walks_push c mid new (a_tree t) n (typed t v) last in
        subst (λ z. TypesTerm c (λ sc. then_field place x sc (typed u s)) old new (record { tree = n; sort = z })) (sym is_sort) (record {
          tree = t;
          stands = stands_put mid new (a_tree t) n last;
          walks = field_walks c x no_term at_field old f is new (typed t v)
              (walks_then c (λ sc. unknowns (arity_at sc.signature f.of)) (λ sc. read sc f) old (with_passing q old) new ss (typed t v) (walks_taken c (λ sc. unknowns (arity_at sc.signature f.of)) old q ss new_sorts)
              (walks_demand c (λ sc. has_sort place (Named f.of ss) s) (λ sc. give (typed t (field_sort sc.signature f ss))) (with_passing q old) w new (typed t v) h
              (record { walked = put.walked; locals = put.locals; kept = put.kept })));
        })
