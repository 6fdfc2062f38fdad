-- The rules of one part, as functions follow them: each exit of the function is one of these lemmas.
use Rattle.std.proofs.Common.{ℕ, Result, sym, subst}
use Rattle.ae_core.specs.declared.terms.Op.{Op}
use Rattle.ae_core.specs.declared.terms.Sort.{Sort}
use Rattle.ae_syntax.specs.declared.exprs.Expr.{Expr}
use Rattle.ae_syntax.specs.declared.spans.Span.{Span}
use Rattle.ae_syntax.specs.declared.types.WrittenType.{WrittenType}
use Rattle.ae_elab.specs.declared.faults.TypeFault.{TypeFault}
use Rattle.ae_elab.specs.declared.typings.Context.{Context}
use Rattle.ae_elab.specs.declared.typings.TypedTerm.{TypedTerm}
use Rattle.ae_elab.specs.declared.typings.Typing.{Typing}
use Rattle.ae_elab.specs.AfterParts.{then_negative, then_ascribed, then_truth}
use Rattle.ae_expressions.specs.FieldParts.{then_field}
use Rattle.ae_elab.specs.Expressions.{part_of}
use Rattle.ae_elab.specs.Formulas.{truth_rule}
use Rattle.ae_elab.specs.Rules.{Rule, Typed, typed, give, ◌>>◌, as_term}
use Rattle.ae_elab.specs.Scope.{Scope}
use Rattle.ae_elab.specs.Terms.{operands, numbers_of, operation_rule, negative_rule, ascribed_rule, field_rule}
use Rattle.ae_elab.specs.Trees.{Tree, operation, more, none}
use Rattle.ae_elab.specs.Typings.{Walks, Stops, TypesTerm, TermAnswer, ClaimAnswer}
use Rattle.ae_expressions.proofs.AnswerLaws.{then_term, then_claim}
use Rattle.ae_expressions.proofs.PartForms.{place_is}
use Rattle.ae_elab.proofs.TypingLaws.{walks_then, stops_first}

module _ (c : Context) (a : Expr) (old : Typing) where
  abbrev first : Scope → Rule Typed
  first sc = as_term sc (part_of a)

  -- ---- a term, and then what follows it at its place
  module _ (f : Span → Scope → Typed → Rule Typed) where
    part_first : (e : TypeFault) → Stops c first old e → Stops c (λ sc. first sc >> f (part_of a).place sc) old e
    part_first e h = stops_first c first (f (part_of a).place) old e h

    part_done : (mid new : Typing) (x : Tree) (s : Sort) → Walks c first old mid (typed x s) → (result : Result TypedTerm TypeFault) → TermAnswer c (λ sc. f a.span sc (typed x s)) mid new result
        → TermAnswer c (λ sc. first sc >> f (part_of a).place sc) old new result
    part_done mid new x s one result h =
        then_term c first old mid new (typed x s) one (f (part_of a).place) result (subst (λ p. TermAnswer c (λ sc. f p sc (typed x s)) mid new result) (sym (place_is a)) h)

  -- ---- `- a`
  pub opposite_first : (e : TypeFault) → Stops c first old e → Stops c (λ sc. negative_rule (part_of a) sc) old e
  opposite_first e h = part_first (λ p sc. then_negative p) e h

  pub opposite_done : (mid new : Typing) (x : Tree) (s : Sort) → Walks c first old mid (typed x s) → (result : Result TypedTerm TypeFault) → TermAnswer c (λ sc. then_negative a.span (typed x s)) mid new result
      → TermAnswer c (λ sc. negative_rule (part_of a) sc) old new result
  opposite_done mid new x s one result h = part_done (λ p sc. then_negative p) mid new x s one result h

  -- ---- `(a : s)`
  module _ (w : WrittenType) where
    pub ascribed_first : (e : TypeFault) → Stops c first old e → Stops c (λ sc. ascribed_rule (part_of a) w sc) old e
    ascribed_first e h = part_first (λ p sc. then_ascribed p w sc) e h

    pub ascribed_done : (mid new : Typing) (x : Tree) (s : Sort) → Walks c first old mid (typed x s) → (result : Result TypedTerm TypeFault) → TermAnswer c (λ sc. then_ascribed a.span w sc (typed x s)) mid new result
        → TermAnswer c (λ sc. ascribed_rule (part_of a) w sc) old new result
    ascribed_done mid new x s one result h = part_done (λ p sc. then_ascribed p w sc) mid new x s one result h

  -- ---- `a.x`
  module _ (x : Span) where
    pub field_first : (e : TypeFault) → Stops c first old e → Stops c (λ sc. field_rule (part_of a) x sc) old e
    field_first e h = part_first (λ p sc. then_field p x sc) e h

    pub field_done : (mid new : Typing) (t : Tree) (s : Sort) → Walks c first old mid (typed t s) → (result : Result TypedTerm TypeFault) → TermAnswer c (λ sc. then_field a.span x sc (typed t s)) mid new result
        → TermAnswer c (λ sc. field_rule (part_of a) x sc) old new result
    field_done mid new t s one result h = part_done (λ p sc. then_field p x sc) mid new t s one result h

-- ---- a term in a formula's place
module _ (c : Context) (r : Scope → Rule Typed) (place : Span) (old : Typing) where
  pub truth_first : (e : TypeFault) → Stops c r old e → Stops c (λ sc. truth_rule place (r sc)) old e
  truth_first e h = stops_first c r (λ sc. then_truth place) old e h

  pub truth_done : (mid new : Typing) (x : Tree) (s : Sort) → Walks c r old mid (typed x s) → (result : Result ℕ TypeFault) → ClaimAnswer c (λ sc. then_truth place (typed x s)) mid new result
      → ClaimAnswer c (λ sc. truth_rule place (r sc)) old new result
  truth_done mid new x s one result h = then_claim c r old mid new (typed x s) one (λ sc. then_truth place) result h

-- ---- an operation
module _ (c : Context) (o : Op) (a b : Expr) (old : Typing) where
  abbrev both : Scope → Rule (Typed × Tree)
  both sc = operands sc (numbers_of o) (part_of a) (part_of b)

  abbrev after_both : Scope → (Typed × Tree) → Rule Typed
  after_both sc st = give (typed (operation o st.0.sort (more st.0.tree (more st.1 none))) st.0.sort)

  pub operation_first : (e : TypeFault) → Stops c both old e → Stops c (λ sc. operation_rule o (part_of a) (part_of b) sc) old e
  operation_first e h = stops_first c both after_both old e h

  pub operation_done : (mid new : Typing) (x y : Tree) (s : Sort) → Walks c both old mid (typed x s, y) → (t : TypedTerm) → TypesTerm c (λ sc. give (typed (operation o s (more x (more y none))) s)) mid new t
      → TypesTerm c (λ sc. operation_rule o (part_of a) (part_of b) sc) old new t
  operation_done mid new x y s one t h = record {
    tree = h.tree;
    stands = h.stands;
    walks = walks_then c both after_both old mid new (typed x s, y) (typed h.tree t.sort) one h.walks;
  }
