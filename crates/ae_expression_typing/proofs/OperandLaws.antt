-- The rules of operators, as functions follow them: each exit of the function is one of these lemmas.
use Rattle.std.proofs.Common.{List, [], ◌∷◌, sym, subst}
use Rattle.ae_core.specs.declared.terms.Sort.{Sort}
use Rattle.ae_types.specs.Bound.{bound}
use Rattle.ae_types.specs.Inner.Enters.{Sheet}
use Rattle.ae_syntax.specs.declared.spans.Span.{Span}
use Rattle.ae_syntax.specs.declared.exprs.Expr.{Expr}
use Rattle.ae_elab.specs.declared.faults.TypeFault.{TypeFault}
use Rattle.ae_elab.specs.declared.numbers.Numbers.{Numbers}
use Rattle.ae_elab.specs.declared.numbers.Numbers.TheVariants.{IntOrReal}
use Rattle.ae_elab.specs.declared.typings.Context.{Context}
use Rattle.ae_elab.specs.declared.typings.Typing.{Typing}
use Rattle.ae_elab.specs.Conditions.{Condition, may_be, has_operand_sort, becomes, has_sort}
use Rattle.ae_elab.specs.Expressions.{part_of}
use Rattle.ae_elab.specs.Rules.{Rule, Typed, Part, give, ◌>>◌, ◌⇒◌, all_of, as_term, wanted}
use Rattle.ae_elab.specs.Scope.{Scope}
use Rattle.ae_elab.specs.Steps.{IsMet, IsNotMet, AreMet, AreNotMet}
use Rattle.ae_elab.specs.Terms.{operands}
use Rattle.ae_elab.specs.Trees.{Tree}
use Rattle.ae_elab.specs.Typings.{Walks, Stops}
use Rattle.ae_expressions.proofs.PartForms.{place_is}
use Rattle.ae_elab.proofs.TypingLaws.{with_bindings, walks_give, walks_then, stops_first, stops_later, walks_demand, stops_demand, stops_after, walks_all, stops_all}

-- what is stated once both operands are typed
abbrev pub settled : Span → Span → Numbers → Sort → Sort → List Condition
settled p q n s t = may_be p n s ∷ has_operand_sort q s t ∷ may_be q IntOrReal t ∷ becomes p n s ∷ []

module _ (c : Context) (n : Numbers) (a b : Expr) where
  abbrev A : Part
  A = part_of a

  abbrev B : Part
  B = part_of b

  abbrev both_of : Typed → Typed → Scope → Rule (Typed × Tree)
  both_of s t sc = give (s, t.tree)

  abbrev second : Typed → Scope → Typed → Rule (Typed × Tree)
  second s sc t = all_of (settled A.place B.place n s.sort t.sort) (give (s, t.tree))

  abbrev first : Scope → Typed → Rule (Typed × Tree)
  first sc s = may_be A.place n s.sort ⇒ (as_term sc B >> second s sc)

  module _ (old : Typing) where
    pub operands_first : (e : TypeFault) → Stops c (λ sc. as_term sc A) old e → Stops c (λ sc. operands sc n A B) old e
    operands_first e h = stops_first c (λ sc. as_term sc A) first old e h

    module _ (mid : Typing) (s : Typed) (one : Walks c (λ sc. as_term sc A) old mid s) where
      pub operands_no_number : (e : TypeFault) → IsNotMet (may_be a.span n s.sort) (bound mid.bindings) e → Stops c (λ sc. operands sc n A B) old e
      operands_no_number e h =
          stops_later c (λ sc. as_term sc A) first old mid s e one
          (stops_demand c (λ sc. may_be A.place n s.sort) (λ sc. as_term sc B >> second s sc) mid e (subst (λ p. IsNotMet (may_be p n s.sort) (bound mid.bindings) e) (sym (place_is a)) h))

      module _ (number : IsMet (may_be a.span n s.sort) (bound mid.bindings) (bound mid.bindings)) where
        here : IsMet (may_be A.place n s.sort) (bound mid.bindings) (bound mid.bindings)
        here = subst (λ p. IsMet (may_be p n s.sort) (bound mid.bindings) (bound mid.bindings)) (sym (place_is a)) number

        pub operands_second : (e : TypeFault) → Stops c (λ sc. as_term sc B) mid e → Stops c (λ sc. operands sc n A B) old e
        operands_second e h =
            stops_later c (λ sc. as_term sc A) first old mid s e one
            (stops_after c (λ sc. may_be A.place n s.sort) (λ sc. as_term sc B >> second s sc) mid mid.bindings e here
            (stops_first c (λ sc. as_term sc B) (second s) mid e h))

        module _ (end : Typing) (t : Typed) (two : Walks c (λ sc. as_term sc B) mid end t) where
          pub operands_unsettled : (e : TypeFault) → AreNotMet (settled a.span b.span n s.sort t.sort) (bound end.bindings) e → Stops c (λ sc. operands sc n A B) old e
          operands_unsettled e h =
              stops_later c (λ sc. as_term sc A) first old mid s e one
              (stops_after c (λ sc. may_be A.place n s.sort) (λ sc. as_term sc B >> second s sc) mid mid.bindings e here
              (stops_later c (λ sc. as_term sc B) (second s) mid end t e two
              (stops_all c (λ sc. settled A.place B.place n s.sort t.sort) (both_of s t) end e
              (subst (λ p. AreNotMet (settled p B.place n s.sort t.sort) (bound end.bindings) e) (sym (place_is a))
              (subst (λ q. AreNotMet (settled a.span q n s.sort t.sort) (bound end.bindings) e) (sym (place_is b)) h)))))

          pub operands_done : (w : Sheet) → AreMet (settled a.span b.span n s.sort t.sort) (bound end.bindings) (bound w)
              → Walks c (λ sc. operands sc n A B) old (with_bindings w end) (s, t.tree)
          operands_done w h =
              walks_then c (λ sc. as_term sc A) first old mid (with_bindings w end) s (s, t.tree) one
              (walks_demand c (λ sc. may_be A.place n s.sort) (λ sc. as_term sc B >> second s sc) mid mid.bindings (with_bindings w end) (s, t.tree) here
              (walks_then c (λ sc. as_term sc B) (second s) mid end (with_bindings w end) t (s, t.tree) two
              (walks_all c (λ sc. settled A.place B.place n s.sort t.sort) (both_of s t) end w (with_bindings w end) (s, t.tree)
              (subst (λ p. AreMet (settled p B.place n s.sort t.sort) (bound end.bindings) (bound w)) (sym (place_is a))
              (subst (λ q. AreMet (settled a.span q n s.sort t.sort) (bound end.bindings) (bound w)) (sym (place_is b)) h))
              (walks_give c (with_bindings w end) (s, t.tree)))))

-- ---- a term of which the sort is expected
module _ (c : Context) (s : Sort) (e : Expr) (old : Typing) where
  abbrev then_sort : Scope → Typed → Rule Tree
  then_sort sc t = has_sort (part_of e).place s t.sort ⇒ give t.tree

  pub wanted_first : (x : TypeFault) → Stops c (λ sc. as_term sc (part_of e)) old x → Stops c (λ sc. wanted sc s (part_of e)) old x
  wanted_first x h = stops_first c (λ sc. as_term sc (part_of e)) then_sort old x h

  module _ (mid : Typing) (t : Typed) (one : Walks c (λ sc. as_term sc (part_of e)) old mid t) where
    pub wanted_other : (x : TypeFault) → IsNotMet (has_sort e.span s t.sort) (bound mid.bindings) x → Stops c (λ sc. wanted sc s (part_of e)) old x
    wanted_other x h =
        stops_later c (λ sc. as_term sc (part_of e)) then_sort old mid t x one
        (stops_demand c (λ sc. has_sort (part_of e).place s t.sort) (λ sc. give t.tree) mid x (subst (λ p. IsNotMet (has_sort p s t.sort) (bound mid.bindings) x) (sym (place_is e)) h))

    pub wanted_done : (w : Sheet) → IsMet (has_sort e.span s t.sort) (bound mid.bindings) (bound w) → Walks c (λ sc. wanted sc s (part_of e)) old (with_bindings w mid) t.tree
    wanted_done w h =
        walks_then c (λ sc. as_term sc (part_of e)) then_sort old mid (with_bindings w mid) t t.tree one
        (walks_demand c (λ sc. has_sort (part_of e).place s t.sort) (λ sc. give t.tree) mid w (with_bindings w mid) t.tree
        (subst (λ p. IsMet (has_sort p s t.sort) (bound mid.bindings) (bound w)) (sym (place_is e)) h) (walks_give c (with_bindings w mid) t.tree))
