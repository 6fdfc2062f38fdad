-- Applications of symbols, as functions follow their rules: each exit of a function is one of these lemmas.
use Rattle.std.proofs.Common.{◌≡◌, ◌∙◌, ℕ, Bool, true, nat_eq, List, Some, slice_get, map, length, sym, ap, subst}
use Rattle.std.proofs.lemmas.Option.{same_Some}
use Rattle.std.proofs.lemmas.Bool.{eq-eqb, eqb-true}
use Rattle.std.proofs.lemmas.List.{length-map}
use Rattle.ae_core.specs.declared.terms.Sort.{Sort}
use Rattle.ae_core.specs.declared.terms.Head.TheVariants as head
use Rattle.ae_core.specs.declared.problems.Signature.{Signature}
use Rattle.ae_core.specs.declared.problems.SymbolEntry.{SymbolEntry}
use Rattle.ae_core.specs.Putting.{put_sort}
use Rattle.ae_syntax.specs.declared.spans.Span.{Span}
use Rattle.ae_syntax.specs.declared.exprs.Expr.{Expr}
use Rattle.ae_elab.specs.declared.faults.TypeFault.{TypeFault}
use Rattle.ae_elab.specs.declared.faults.TypeFault.TheVariants as fault
use Rattle.ae_expressions.specs.declared.symbol_steps.Applied as code
use Rattle.ae_elab.specs.declared.typings.TypedTerm as code_term
use Rattle.ae_elab.specs.declared.typings.Context.{Context}
use Rattle.ae_elab.specs.declared.typings.Typing.{Typing}
use Rattle.ae_elab.specs.Expressions.{part_of}
use Rattle.ae_elab.specs.Formulas.{predicate_rule}
use Rattle.ae_expression_typing.specs.Inner.OperandsAnswers.{TypesApplied}
use Rattle.ae_elab.specs.Nodes.{a_claim, trees_at}
use Rattle.ae_elab.specs.Rules.{Passed, Rule, typed, Part, give, ◌>>◌, unknowns, all_wanted}
use Rattle.ae_elab.specs.Scope.{Scope}
use Rattle.ae_elab.specs.Steps.{IsTaken}
use Rattle.ae_elab.specs.Terms.{Applied, application_rule, function_rule}
use Rattle.ae_elab.specs.Trees.{Trees, predicate, apply}
use Rattle.ae_elab.specs.Typings.{Stops, TypesTrees, TypesTerm, TypesClaim, Puts, nodes_of}
use Rattle.ae_elab.proofs.NodeLaws.{trees_are}
use Rattle.ae_elab.proofs.TypingLaws.{with_passing, walks_give, walks_then, walks_taken, walks_test, walks_push, stands_put, stops_first, stops_later, stops_test, stops_past}

-- the entry that was read is the one that is declared
pub entry_is : (g known : Signature) (k : ℕ) (x e : SymbolEntry) → Some x ≡ slice_get g.symbols k → g ≡ known → slice_get known.symbols k ≡ Some e → x ≡ e
entry_is g known k x e got same is = same_Some x e (got ∙ ap (λ (s : Signature). slice_get s.symbols k) same ∙ is)

module _ (c : Context) (name : Span) (e : SymbolEntry) (args : List Expr) (old : Typing) where
  abbrev parts : List Part
  parts = map part_of args

  abbrev as_many : Bool
  as_many = nat_eq (length parts) (length e.args)

  abbrev wrong : TypeFault
  wrong = fault.Arity name.from name.to

  abbrev with_sorts : Scope → List Sort → Rule Applied
  with_sorts sc ss = all_wanted sc (map (put_sort ss) e.args) parts >> λ us. give (record { sorts = ss; args = us })

  abbrev paired : List Sort → Scope → Trees → Rule Applied
  paired ss sc us = give (record { sorts = ss; args = us })

  abbrev begun : Scope → Rule Applied
  begun sc = unknowns e.vars >> with_sorts sc

  pub apply_count : (length args ≡ length e.args → ⊥) → Stops c (λ sc. application_rule name e parts sc) old wrong
  apply_count h = stops_test c as_many wrong begun old (λ t. h (sym (length-map args part_of) ∙ eqb-true (length parts) (length e.args) t))

  module _ (same : length args ≡ length e.args) (q : Passed) (ss : List Sort) (new_sorts : IsTaken (unknowns e.vars) old.passing q ss) where
    many : as_many ≡ true
    many = eq-eqb (length parts) (length e.args) (length-map args part_of ∙ same)

    pub apply_stops : (x : TypeFault) → Stops c (λ sc. all_wanted sc (map (put_sort ss) e.args) parts) (with_passing q old) x → Stops c (λ sc. application_rule name e parts sc) old x
    apply_stops x h =
        stops_past c as_many wrong begun old x many
        (stops_later c (λ sc. unknowns e.vars) with_sorts old (with_passing q old) ss x (walks_taken c (λ sc. unknowns e.vars) old q ss new_sorts)
        (stops_first c (λ sc. all_wanted sc (map (put_sort ss) e.args) parts) (paired ss) (with_passing q old) x h))

    pub apply_done : (new : Typing) (ns : List ℕ) → TypesTrees c (λ sc. all_wanted sc (map (put_sort ss) e.args) parts) (with_passing q old) new ns
        → TypesApplied c (λ sc. application_rule name e parts sc) old new (record { sorts = ss; args = ns })
    apply_done new ns a =
        let v : Applied = record { sorts = ss; args = a.terms } in
        record {
          terms = a.terms;
          stand = a.stand;
          walks = walks_test c as_many wrong begun old new v many
              (walks_then c (λ sc. unknowns e.vars) with_sorts old (with_passing q old) new ss v (walks_taken c (λ sc. unknowns e.vars) old q ss new_sorts)
              (walks_then c (λ sc. all_wanted sc (map (put_sort ss) e.args) parts) (paired ss) (with_passing q old) new new a.terms v a.walks (walks_give c new v)));
        }

-- ---- a function, and a predicate
module _ (c : Context) (name : Span) (k : ℕ) (e : SymbolEntry) (parts : List Part) (old : Typing) where
  pub function_stops : (r : Sort) (x : TypeFault) → Stops c (λ sc. application_rule name e parts sc) old x → Stops c (λ sc. function_rule name k e r parts sc) old x
  function_stops r x h = stops_first c (λ sc. application_rule name e parts sc) (λ sc a. give (typed (apply (head.Symbol k) a.sorts a.args) (put_sort a.sorts r))) old x h

  pub predicate_stops : (x : TypeFault) → Stops c (λ sc. application_rule name e parts sc) old x → Stops c (λ sc. predicate_rule name k e parts sc) old x
  predicate_stops x h = stops_first c (λ sc. application_rule name e parts sc) (λ sc a. give (predicate k a.sorts a.args)) old x h

  module _ (mid : Typing) (a : code.Applied) (h : TypesApplied c (λ sc. application_rule name e parts sc) old mid a) where
    pub function_done : (r : Sort) (new : Typing) (t : code_term.TypedTerm) → TypesTerm c (λ sc. give (typed (apply (head.Symbol k) a.sorts h.terms) (put_sort a.sorts r))) mid new t
        → TypesTerm c (λ sc. function_rule name k e r parts sc) old new t
    function_done r new t b = record {
      tree = b.tree;
      stands = b.stands;
      walks = walks_then c (λ sc. application_rule name e parts sc) (λ sc x. give (typed (apply (head.Symbol k) x.sorts x.args) (put_sort x.sorts r))) old mid new (record { sorts = a.sorts; args = h.terms }) (typed b.tree t.sort) h.walks b.walks;
    }

    pub predicate_done : (new : Typing) (n : ℕ) → Puts mid new (a_claim (predicate k a.sorts (trees_at (nodes_of mid) a.args))) n → TypesClaim c (λ sc. predicate_rule name k e parts sc) old new n
    predicate_done new n p =
        let f = predicate k a.sorts h.terms in
        let last : Puts mid new (a_claim f) n = subst (λ us. Puts mid new (a_claim (predicate k a.sorts us)) n) (trees_are (nodes_of mid) a.args h.terms h.stand) p in
        record {
          claim = f;
          stands = stands_put mid new (a_claim f) n last;
          walks = walks_then c (λ sc. application_rule name e parts sc) (λ sc x. give (predicate k x.sorts x.args)) old mid new (record { sorts = a.sorts; args = h.terms }) f h.walks (walks_push c mid new (a_claim f) n f last);
        }
