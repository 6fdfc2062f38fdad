-- Definitions, step by step: what the rest of the rule comes to, the whole comes to.
use Rattle.std.proofs.Common.{◌≡◌, ◌∙◌, ℕ, false, List, [], ◌∷◌, length, Some, None, Result, Ok, Err, sym, ap, subst}
use Rattle.ae_core.specs.declared.problems.Signature.{Signature}
use Rattle.ae_core.specs.declared.terms.Sort.{Sort}
use Rattle.ae_types.specs.Bound.{bound}
use Rattle.ae_declaration_typing.specs.declared.drafts.Draft as code
use Rattle.ae_declaration_typing.specs.Definitions.{function_axiom, predicate_axiom, with_defined}
use Rattle.ae_declaration_typing.specs.Drafts.{DraftAnswer, TypesDraft, draft_of}
use Rattle.ae_declaration_typing.specs.Inner.Additions.{AddsClaim}
use Rattle.ae_declaration_typing.specs.Inner.Rests.{function_rest, predicate_rest}
use Rattle.ae_elab.specs.declared.faults.TypeFault.{TypeFault}
use Rattle.ae_elab.specs.declared.grounds.Ground.TheVariants.{Free}
use Rattle.ae_elab.specs.declared.typings.Typing.{Typing}
use Rattle.ae_elab.specs.Conditions.{Condition}
use Rattle.ae_elab.specs.Declarations.{Declared, drafted, formals_rule, new_symbol, scope_of}
use Rattle.ae_elab.specs.Environments.{Bench, entries}
use Rattle.ae_elab.specs.Expressions.{part_of}
use Rattle.ae_elab.specs.Formulas.{Bound, with_block}
use Rattle.ae_elab.specs.Rules.{Passed, Rule, ◌>>◌, ◌⇒◌, as_formula, count_written, wanted}
use Rattle.ae_elab.specs.Scope.{Scope, name_in, scope_with}
use Rattle.ae_elab.specs.Steps.{AreFailed, AreHeld, IsHalted, IsStopped, IsTaken, IsWalked}
use Rattle.ae_elab.specs.Trees.{Tree, Claim}
use Rattle.ae_elab.specs.Typings.{Begins, locals_of, nodes_of}
use Rattle.ae_elab.specs.WrittenTypes.{type_rule}
use Rattle.ae_elab.proofs.LeadLaws.{Leads, lead_start, lead_condition, lead_part, lead_fault}
use Rattle.ae_elab.proofs.NodeLaws.{begins_on}
use Rattle.ae_elab.proofs.WalkLaws.{first_stops, give_walked, then_walked, then_stops, then_stops_later}
use Rattle.ae_syntax.specs.declared.decls.TypedName.{TypedName}
use Rattle.ae_syntax.specs.declared.exprs.Expr.{Expr}
use Rattle.ae_syntax.specs.declared.spans.Span.{Span}
use Rattle.ae_syntax.specs.declared.types.WrittenType.{WrittenType}

-- what answers the rest answers the whole
pub draft_after : (text : List ℕ) (whole rest : Rule Declared) (sig : Signature) (old mid new : Typing) → Leads whole rest (bound old.bindings) (bound mid.bindings) old.passing mid.passing
    → mid.environment ≡ old.environment → (result : Result code.Draft TypeFault) → DraftAnswer text rest sig mid new result → DraftAnswer text whole sig old new result
draft_after text whole rest sig old mid new lead same (Ok d) a = record {
  claim = a.claim;
  stands = a.stands;
  walked = lead.walks (bound new.bindings) new.passing (record { signature = sig; drafts = draft_of text d a.claim ∷ [] }) a.walked;
  locals = a.locals;
  kept = subst (λ z. Begins (entries z) (nodes_of new)) same a.kept;
}
draft_after text whole rest sig old mid new lead same (Err e) a = lead.stops e a

module _ (text : List ℕ) (sig : Signature) (place n : Span) (m : ℕ → Sort) (p : Passed) where
  abbrev asked : Condition
  asked = new_symbol text sig n

  -- ---- the name, and the formal parameters, before anything else
  module _ (formals : List TypedName) (more : List Bound → Rule Declared) where
    abbrev bounds_rule : Rule (List Bound)
    bounds_rule = formals_rule text sig [] formals

    abbrev begun : Rule Declared
    begun = asked ⇒ (bounds_rule >> more)

    pub name_fault : (e : TypeFault) → AreFailed (asked ∷ []) e → IsStopped begun m p e
    name_fault e a = first_stops (asked ∷ []) ((bounds_rule >> more) p).conditions m e (a m)

    module _ (held : AreHeld (asked ∷ [])) where
      at_formals : Leads begun (bounds_rule >> more) m m p p
      at_formals = lead_condition begun m m p p asked (bounds_rule >> more) m (held m) (lead_start begun m p)

      pub formals_fault : (e : TypeFault) → IsHalted bounds_rule p e → IsStopped begun m p e
      formals_fault e a = lead_fault begun m m p p bounds_rule more e (a m) at_formals

      pub after_formals : (q : Passed) (bs : List Bound) → IsTaken bounds_rule p q bs → Leads begun (more bs) m m p q
      after_formals q bs a = lead_part begun m m p p bounds_rule more m q bs (a m) at_formals

  module _ (body : Expr) where
    -- ---- the sort of a function's value
    module _ (value : WrittenType) where
      abbrev value_rule : Rule Sort
      value_rule = type_rule value Free (scope_of text sig)

      abbrev pub after_bounds : List Bound → Rule Declared
      after_bounds bs = value_rule >> function_rest text sig place n body bs

      module _ (whole : Rule Declared) (q : Passed) (bs : List Bound) (lead : Leads whole (after_bounds bs) m m p q) where
        pub value_fault : (e : TypeFault) → IsHalted value_rule q e → IsStopped whole m p e
        value_fault e a = lead_fault whole m m p q value_rule (function_rest text sig place n body bs) e (a m) lead

        pub after_value : (r : Passed) (s : Sort) → IsTaken value_rule q r s → Leads whole (function_rest text sig place n body bs s) m m p r
        after_value r s a = lead_part whole m m p q value_rule (function_rest text sig place n body bs) m r s (a m) lead

    -- ---- the body
    module _ (bs : List Bound) (vars : ℕ) (counts : IsTaken count_written p p vars) where
      module _ (s : Sort) where
        abbrev after : Signature
        after = with_defined text sig n vars bs (Some s)

        abbrev pub value_in : Rule Tree
        value_in = wanted (with_block bs (scope_of text after)) s (part_of body)

        abbrev given : Tree → Claim
        given t = function_axiom bs n (length sig.symbols) vars t

        abbrev defined : Tree → Rule Declared
        defined t = drafted after place false (name_in text n) (given t)

        abbrev counted : ℕ → Rule Declared
        counted k =
            wanted (with_block bs (scope_of text (with_defined text sig n k bs (Some s)))) s (part_of body) >> λ t.
            drafted (with_defined text sig n k bs (Some s)) place false (name_in text n) (function_axiom bs n (length sig.symbols) k t)

        pub function_body : (e : TypeFault) → IsStopped value_in m p e → IsStopped (function_rest text sig place n body bs s) m p e
        function_body e a = then_stops_later count_written counted m m p p vars e (counts m) (then_stops value_in defined m p e a)

        pub function_done : (u : ℕ → Sort) (end : Passed) (t : Tree) → IsWalked value_in m u p end t
            → IsWalked (function_rest text sig place n body bs s) m u p end (record { signature = after; drafts = record { place = place; is_goal = false; name = name_in text n; claim = given t } ∷ [] })
        function_done u end t a =
            let y : Declared = record { signature = after; drafts = record { place = place; is_goal = false; name = name_in text n; claim = given t } ∷ [] } in
            then_walked count_written counted m m u p p end vars y (counts m) (then_walked value_in defined m u u p end end t y a (give_walked y u end))

      abbrev with_predicate : Signature
      with_predicate = with_defined text sig n vars bs None

      abbrev pub formula_in : Rule Claim
      formula_in = as_formula (with_block bs (scope_of text with_predicate)) (part_of body)

      abbrev said : Claim → Claim
      said f = predicate_axiom bs n (length sig.symbols) vars f

      abbrev settled : Claim → Rule Declared
      settled f = drafted with_predicate place false (name_in text n) (said f)

      abbrev numbered : ℕ → Rule Declared
      numbered k =
          as_formula (with_block bs (scope_of text (with_defined text sig n k bs None))) (part_of body) >> λ f.
          drafted (with_defined text sig n k bs None) place false (name_in text n) (predicate_axiom bs n (length sig.symbols) k f)

      pub predicate_body : (e : TypeFault) → IsStopped formula_in m p e → IsStopped (predicate_rest text sig place n body bs) m p e
      predicate_body e a = then_stops_later count_written numbered m m p p vars e (counts m) (then_stops formula_in settled m p e a)

      pub predicate_done : (u : ℕ → Sort) (end : Passed) (f : Claim) → IsWalked formula_in m u p end f
          → IsWalked (predicate_rest text sig place n body bs) m u p end (record { signature = with_predicate; drafts = record { place = place; is_goal = false; name = name_in text n; claim = said f } ∷ [] })
      predicate_done u end f a =
          let y : Declared = record { signature = with_predicate; drafts = record { place = place; is_goal = false; name = name_in text n; claim = said f } ∷ [] } in
          then_walked count_written numbered m m u p p end vars y (counts m) (then_walked formula_in settled m u u p end end f y a (give_walked y u end))

-- ---- the whole definition, where the body is typed among the declarations `known` and the definition's axiom stands among the nodes
module _ (text : List ℕ) (sig : Signature) (place n : Span) (body : Expr) (bs : List Bound) (vars : ℕ) (old end : Typing) (counts : IsTaken count_written old.passing old.passing vars)
    (known : Signature) (bare : locals_of old ≡ []) (symbol : ℕ) (number : symbol ≡ length sig.symbols) (env : Bench) (i : ℕ) (same : locals_of end ≡ locals_of old) (kept : Begins (nodes_of old) (nodes_of end)) where
  abbrev m : ℕ → Sort
  m = bound old.bindings

  abbrev new : Typing
  new = record { passing = end.passing; bindings = end.bindings; environment = env }

  abbrev draft : code.Draft
  draft = record { place = place; is_goal = false; name = n; claim = i }

  abbrev here : Scope
  here = scope_with text known (locals_of old)

  there : here ≡ scope_of text known
  there = ap (λ ls. scope_with text known ls) bare

  one_draft : (rest : Rule Declared) (made : Signature) (f g : Claim) → known ≡ made → f ≡ g
      → IsWalked rest m (bound end.bindings) old.passing end.passing (record { signature = made; drafts = record { place = place; is_goal = false; name = name_in text n; claim = g } ∷ [] })
      → AddsClaim end.environment env f i → TypesDraft text rest known old new draft
  one_draft rest made f g declared same_claim walked adds = record {
    claim = f;
    stands = adds.stands;
    walked = subst (λ z. IsWalked rest m (bound end.bindings) old.passing end.passing (record { signature = known; drafts = record { place = place; is_goal = false; name = name_in text n; claim = z } ∷ [] })) (sym same_claim)
        (subst (λ z. IsWalked rest m (bound end.bindings) old.passing end.passing (record { signature = z; drafts = record { place = place; is_goal = false; name = name_in text n; claim = g } ∷ [] })) (sym declared) walked);
    locals = adds.adds.locals ∙ same ∙ bare;
    kept = begins_on (nodes_of old) (nodes_of end) (entries env) kept adds.adds.kept;
  }

  module _ (s : Sort) (declared : known ≡ with_defined text sig n vars bs (Some s)) where
    abbrev value_at : Scope → Rule Tree
    value_at sc = wanted (with_block bs sc) s (part_of body)

    pub function_given : (t : Tree) → IsWalked (value_at here) m (bound end.bindings) old.passing end.passing t → AddsClaim end.environment env (function_axiom bs n symbol vars t) i
        → TypesDraft text (function_rest text sig place n body bs s) known old new draft
    function_given t a adds =
        let after = with_defined text sig n vars bs (Some s) in
        one_draft (function_rest text sig place n body bs s) after (function_axiom bs n symbol vars t) (function_axiom bs n (length sig.symbols) vars t) declared (ap (λ z. function_axiom bs n z vars t) number)
        (function_done text sig place n m old.passing body bs vars counts s (bound end.bindings) end.passing t
        (subst (λ z. IsWalked (value_at (scope_of text z)) m (bound end.bindings) old.passing end.passing t) declared
        (subst (λ z. IsWalked (value_at z) m (bound end.bindings) old.passing end.passing t) there a))) adds

  module _ (declared : known ≡ with_defined text sig n vars bs None) where
    abbrev formula_at : Scope → Rule Claim
    formula_at sc = as_formula (with_block bs sc) (part_of body)

    pub predicate_given : (f : Claim) → IsWalked (formula_at here) m (bound end.bindings) old.passing end.passing f → AddsClaim end.environment env (predicate_axiom bs n symbol vars f) i
        → TypesDraft text (predicate_rest text sig place n body bs) known old new draft
    predicate_given f a adds =
        let after = with_defined text sig n vars bs None in
        one_draft (predicate_rest text sig place n body bs) after (predicate_axiom bs n symbol vars f) (predicate_axiom bs n (length sig.symbols) vars f) declared (ap (λ z. predicate_axiom bs n z vars f) number)
        (predicate_done text sig place n m old.passing body bs vars counts (bound end.bindings) end.passing f
        (subst (λ z. IsWalked (formula_at (scope_of text z)) m (bound end.bindings) old.passing end.passing f) declared
        (subst (λ z. IsWalked (formula_at z) m (bound end.bindings) old.passing end.passing f) there a))) adds

-- the body has a fault
module _ (text : List ℕ) (sig : Signature) (place n : Span) (body : Expr) (bs : List Bound) (vars : ℕ) (old : Typing) (counts : IsTaken count_written old.passing old.passing vars)
    (known : Signature) (bare : locals_of old ≡ []) (e : TypeFault) where
  pub function_fails : (s : Sort) → known ≡ with_defined text sig n vars bs (Some s)
      → IsStopped (wanted (with_block bs (scope_with text known (locals_of old))) s (part_of body)) (bound old.bindings) old.passing e
      → IsStopped (function_rest text sig place n body bs s) (bound old.bindings) old.passing e
  function_fails s declared a =
      function_body text sig place n (bound old.bindings) old.passing body bs vars counts s e
      (subst (λ z. IsStopped (wanted (with_block bs (scope_of text z)) s (part_of body)) (bound old.bindings) old.passing e) declared
      (subst (λ ls. IsStopped (wanted (with_block bs (scope_with text known ls)) s (part_of body)) (bound old.bindings) old.passing e) bare a))

  pub predicate_fails : known ≡ with_defined text sig n vars bs None
      → IsStopped (as_formula (with_block bs (scope_with text known (locals_of old))) (part_of body)) (bound old.bindings) old.passing e
      → IsStopped (predicate_rest text sig place n body bs) (bound old.bindings) old.passing e
  predicate_fails declared a =
      predicate_body text sig place n (bound old.bindings) old.passing body bs vars counts e
      (subst (λ z. IsStopped (as_formula (with_block bs (scope_of text z)) (part_of body)) (bound old.bindings) old.passing e) declared
      (subst (λ ls. IsStopped (as_formula (with_block bs (scope_with text known ls)) (part_of body)) (bound old.bindings) old.passing e) bare a))
