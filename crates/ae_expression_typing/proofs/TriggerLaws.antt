-- Triggers: their terms one by one, the triggers one by one, and blocks.
use Rattle.std.proofs.Common.{◌≡◌, ◌∙◌, ℕ, ◌+◌, ◌<◌, ◌≤◌, ◌&&◌, not, List, [], ◌∷◌, ◌++◌, map, length, drop, get_or, refl, sym, ap, subst}
use Rattle.std.proofs.lemmas.List.{drop_more, drop_all}
use Rattle.ae_types.specs.Bound.{bound}
use Rattle.ae_syntax.specs.declared.exprs.Expr.{Expr}
use Rattle.ae_syntax.specs.declared.exprs.Trigger.{Trigger}
use Rattle.ae_syntax.specs.declared.spans.Span.{Span}
use Rattle.ae_elab.specs.declared.faults.TypeFault.{TypeFault}
use Rattle.ae_elab.specs.declared.faults.TypeFault.TheVariants as fault
use Rattle.ae_elab.specs.declared.nodes.Pattern.{Pattern}
use Rattle.ae_elab.specs.declared.typings.Context.{Context}
use Rattle.ae_elab.specs.declared.typings.TypedTerm.{TypedTerm}
use Rattle.ae_elab.specs.declared.typings.Typing.{Typing}
use Rattle.ae_elab.specs.Conditions.{test}
use Rattle.ae_elab.specs.Expressions.{part_of, trigger_of}
use Rattle.ae_elab.specs.Formulas.{untested, pattern_rule, patterns_rule, covering, first_place_of, triggers_rule}
use Rattle.ae_elab.specs.Nodes.{Entry, AreTrees, IsTree, a_tree, claim_at, patterns_at, trees_at}
use Rattle.ae_elab.specs.Rules.{Rule, typed, give, ◌>>◌, ◌⇒◌, as_term, as_formula}
use Rattle.ae_elab.specs.Scope as scope
use Rattle.ae_elab.specs.Scope.{Scope, Class}
use Rattle.ae_elab.specs.Steps.{AreHeld, AreFailed}
use Rattle.ae_elab.specs.Trees as tree
use Rattle.ae_elab.specs.Trees.{Tree, Trees, Claim, Patterns, more, no_pattern, and_pattern, has_choice, is_application, pattern_of}
use Rattle.ae_elab.specs.Typings.{Begins, Walks, Stops, TypesTerm, TypesTree, TypesClaim, TypesTrees, Puts, nodes_of}
use Rattle.ae_elab.proofs.NodeLaws.{claim_is, later_trees, trees_are}
use Rattle.ae_elab.proofs.TypingLaws.{walks_give, walks_then, walks_all, walks_push, stands_put, stops_first, stops_later, stops_all, stops_after_all}
use Rattle.ae_typing.specs.Triggers.{trigger_term, trigger_covers}
use Rattle.ae_expression_typing.specs.Inner.PatternsAnswers.{ArePatterns, TypesPatterns}
use Rattle.ae_expression_typing.proofs.ArgumentLaws.{Gathers, gather_stop, gather_next, gather_end}
use Rattle.ae_expressions.proofs.PartForms.{place_is}
use Rattle.ae_expression_typing.proofs.RuleLaws.{walks_same, stops_same}

-- ---- a term of a trigger, of which nothing is looked at yet
module _ (c : Context) (e : Expr) (old : Typing) where
  module _ (k : Class) where
    abbrev raw : Scope → Rule Tree
    raw sc = untested k (part_of e) sc

    pub raw_formula_stops : k ≡ scope.formula → (x : TypeFault) → Stops c (λ sc. as_formula sc (part_of e)) old x → Stops c raw old x
    raw_formula_stops is x h =
        subst (λ z. Stops c (λ sc. untested z (part_of e) sc) old x) (sym is) (stops_first c (λ sc. as_formula sc (part_of e)) (λ sc f. give (pattern_of f)) old x h)

    pub raw_formula : k ≡ scope.formula → (mid new : Typing) (n i : ℕ) (a : TypesClaim c (λ sc. as_formula sc (part_of e)) old mid i)
        → Puts mid new (a_tree (pattern_of (claim_at (nodes_of mid) i))) n → TypesTree c raw old new n
    raw_formula is mid new n i a p =
        let t = pattern_of a.claim in
        let last : Puts mid new (a_tree t) n = subst (λ z. Puts mid new (a_tree (pattern_of z)) n) (claim_is (nodes_of mid) i a.claim a.stands) p in
        subst (λ z. TypesTree c (λ sc. untested z (part_of e) sc) old new n) (sym is) (record {
          tree = t;
          stands = stands_put mid new (a_tree t) n last;
          walks = walks_then c (λ sc. as_formula sc (part_of e)) (λ sc f. give (pattern_of f)) old mid new a.claim t a.walks (walks_push c mid new (a_tree t) n t last);
        })

    term_is : (k ≡ scope.formula → ⊥) → (sc : Scope) → (as_term sc (part_of e) >> λ t. give t.tree) ≡ raw sc
    term_is = by_class k
      where
        by_class : (z : Class) → (z ≡ scope.formula → ⊥) → (sc : Scope) → (as_term sc (part_of e) >> λ t. give t.tree) ≡ untested z (part_of e) sc
        by_class scope.formula other sc = absurd (other refl)
        by_class scope.either other sc = refl
        by_class scope.term other sc = refl

    pub raw_term_stops : (k ≡ scope.formula → ⊥) → (x : TypeFault) → Stops c (λ sc. as_term sc (part_of e)) old x → Stops c raw old x
    raw_term_stops other x h =
        stops_same c (λ sc. as_term sc (part_of e) >> λ t. give t.tree) raw old x (term_is other) (stops_first c (λ sc. as_term sc (part_of e)) (λ sc t. give t.tree) old x h)

    pub raw_term : (k ≡ scope.formula → ⊥) → (new : Typing) (t : TypedTerm) → TypesTerm c (λ sc. as_term sc (part_of e)) old new t → TypesTree c raw old new t.tree
    raw_term other new t a = record {
      tree = a.tree;
      stands = a.stands;
      walks = walks_same c (λ sc. as_term sc (part_of e) >> λ u. give u.tree) raw old new a.tree (term_is other)
          (walks_then c (λ sc. as_term sc (part_of e)) (λ sc u. give u.tree) old new new (typed a.tree t.sort) a.tree a.walks (walks_give c new a.tree));
    }

  -- ---- and with what is asked of it
  abbrev first : Scope → Rule Tree
  first sc = untested ((part_of e).class sc) (part_of e) sc

  abbrev asked : Scope → Tree → Rule Tree
  asked sc t = test (is_application t && not (has_choice t)) (fault.BadTrigger (part_of e).place.from (part_of e).place.to) ⇒ give t

  pub pattern_first : (x : TypeFault) → Stops c first old x → Stops c (λ sc. pattern_rule sc (part_of e)) old x
  pattern_first x h = stops_first c first asked old x h

  module _ (mid : Typing) (t : Tree) (one : Walks c first old mid t) where
    pub pattern_bad : (x : TypeFault) → AreFailed (trigger_term e.span t) x → Stops c (λ sc. pattern_rule sc (part_of e)) old x
    pattern_bad x h =
        stops_later c first asked old mid t x one
        (stops_all c (λ sc. trigger_term (part_of e).place t) (λ sc. give t) mid x (subst (λ (p : Span). AreFailed (trigger_term p t) x) (sym (place_is e)) h (bound mid.bindings)))

    pub pattern_good : AreHeld (trigger_term e.span t) → Walks c (λ sc. pattern_rule sc (part_of e)) old mid t
    pattern_good h =
        walks_then c first asked old mid mid t t one
        (walks_all c (λ sc. trigger_term (part_of e).place t) (λ sc. give t) mid mid.bindings mid t (subst (λ (p : Span). AreHeld (trigger_term p t)) (sym (place_is e)) h (bound mid.bindings)) (walks_give c mid t))

-- ---- the terms of a trigger
module _ (c : Context) (es : List Expr) (old : Typing) where
  abbrev terms_whole : Scope → Rule Trees
  terms_whole sc = patterns_rule sc (map part_of es)

  abbrev terms_from : ℕ → Scope → Rule Trees
  terms_from i sc = patterns_rule sc (map part_of (drop i es))

  abbrev pub Matches : Typing → List ℕ → ℕ → Type 0
  Matches now done i = Gathers c terms_whole (λ ts. ts) (terms_from i) old now done

  pub matches_start : Matches old [] 0
  matches_start = record { terms = tree.none; stand = tt; walks = λ end ts a. a; stops = λ x a. a }

  module _ (now : Typing) (done : List ℕ) (i : ℕ) (e : Expr) (within : i < length es) (is : e ≡ get_or es i e) (w : Matches now done i) where
    term_here : (sc : Scope) → terms_from i sc ≡ (pattern_rule sc (part_of e) >> λ t. terms_from (i + 1) sc >> λ ts. give (more t ts))
    term_here sc = ap (λ z. patterns_rule sc (map part_of z)) (drop_more es i e within ∙ ap (λ z. z ∷ drop (i + 1) es) (sym is))

    pub matches_stop : (x : TypeFault) → Stops c (λ sc. pattern_rule sc (part_of e)) now x → Stops c terms_whole old x
    matches_stop x h = gather_stop c terms_whole (λ ts. ts) (terms_from i) old now done w (λ sc. pattern_rule sc (part_of e)) (terms_from (i + 1)) term_here x h

    pub matches_next : (next : Typing) (n : ℕ) (t : Tree) (longer : List ℕ) → Walks c (λ sc. pattern_rule sc (part_of e)) now next t → IsTree (nodes_of next) n t → longer ≡ done ++ n ∷ [] → Matches next longer (i + 1)
    matches_next next n t longer a h same = gather_next c terms_whole (λ ts. ts) (terms_from i) old now done w (λ sc. pattern_rule sc (part_of e)) (terms_from (i + 1)) term_here next n t longer a h same

  pub matches_whole : (now : Typing) (done : List ℕ) (i : ℕ) → length es ≤ i → Matches now done i → TypesTrees c terms_whole old now done
  matches_whole now done i l w = record {
    terms = w.terms;
    stand = w.stand;
    walks = gather_end c terms_whole (λ ts. ts) (terms_from i) old now done w (λ sc. ap (λ z. patterns_rule sc (map part_of z)) (drop_all i es l));
  }

-- ---- triggers behind others
abbrev pub onto_patterns : Patterns → Patterns → Patterns
onto_patterns no_pattern qs = qs
onto_patterns (and_pattern p us ps) qs = and_pattern p us (onto_patterns ps qs)

onto_patterns_end : (ps : Patterns) (p : Span) (us : Trees) (qs : Patterns) → onto_patterns (onto_patterns ps (and_pattern p us no_pattern)) qs ≡ onto_patterns ps (and_pattern p us qs)
onto_patterns_end no_pattern p us qs = refl
onto_patterns_end (and_pattern r vs ps) p us qs = ap (and_pattern r vs) (onto_patterns_end ps p us qs)

onto_no_pattern : (ps : Patterns) → onto_patterns ps no_pattern ≡ ps
onto_no_pattern no_pattern = refl
onto_no_pattern (and_pattern p us ps) = ap (and_pattern p us) (onto_no_pattern ps)

patterns_more : (es : List Entry) (ps : List Pattern) (qs : Patterns) (p : Pattern) (us : Trees) → ArePatterns es ps qs → AreTrees es p.terms us → ArePatterns es (ps ++ p ∷ []) (onto_patterns qs (and_pattern p.place us no_pattern))
patterns_more es [] no_pattern p us h a = (refl, a, tt)
patterns_more es (r ∷ ps) (and_pattern place vs qs) p us h a = (h.0, h.1, patterns_more es ps qs p us h.2 a)
patterns_more es [] (and_pattern place vs qs) p us h a = absurd h
patterns_more es (r ∷ ps) no_pattern p us h a = absurd h

pub later_patterns : (es fs : List Entry) → Begins es fs → (ps : List Pattern) (qs : Patterns) → ArePatterns es ps qs → ArePatterns fs ps qs
later_patterns es fs b [] no_pattern h = tt
later_patterns es fs b (r ∷ ps) (and_pattern place vs qs) h = (h.0, later_trees es fs b r.terms vs h.1, later_patterns es fs b ps qs h.2)
later_patterns es fs b [] (and_pattern place vs qs) h = absurd h
later_patterns es fs b (r ∷ ps) no_pattern h = absurd h

pub patterns_are : (es : List Entry) (ps : List Pattern) (qs : Patterns) → ArePatterns es ps qs → patterns_at es ps ≡ qs
patterns_are es [] no_pattern h = refl
patterns_are es (r ∷ ps) (and_pattern place vs qs) h =
    ap (λ z. and_pattern z (trees_at es r.terms) (patterns_at es ps)) h.0 ∙ ap (λ z. and_pattern place z (patterns_at es ps)) (trees_are es r.terms vs h.1) ∙ ap (and_pattern place vs) (patterns_are es ps qs h.2)
patterns_are es [] (and_pattern place vs qs) h = absurd h
patterns_are es (r ∷ ps) no_pattern h = absurd h

-- ---- triggers one by one
abbrev pub triggers_from : List ℕ → List Trigger → ℕ → Scope → Rule Patterns
triggers_from xs ts i sc = triggers_rule xs (map trigger_of (drop i ts)) sc

pub record Collects (c : Context) (xs : List ℕ) (ts : List Trigger) (old now : Typing) (done : List Pattern) (i : ℕ) : Type 0 where
  pub patterns : Patterns
  pub stand : ArePatterns (nodes_of now) done patterns
  pub walks : (end : Typing) (ps : Patterns) → Walks c (triggers_from xs ts i) now end ps → Walks c (λ sc. triggers_rule xs (map trigger_of ts) sc) old end (onto_patterns patterns ps)
  pub stops : (x : TypeFault) → Stops c (triggers_from xs ts i) now x → Stops c (λ sc. triggers_rule xs (map trigger_of ts) sc) old x

module _ (c : Context) (xs : List ℕ) (ts : List Trigger) (old : Typing) where
  abbrev all_rule : Scope → Rule Patterns
  all_rule sc = triggers_rule xs (map trigger_of ts) sc

  pub collects_start : Collects c xs ts old old [] 0
  collects_start = record { patterns = no_pattern; stand = tt; walks = λ end ps a. a; stops = λ x a. a }

  module _ (now : Typing) (done : List Pattern) (i : ℕ) (t : Trigger) (es : List Expr) (within : i < length ts) (is : t ≡ get_or ts i t) (its : trigger_of t ≡ map part_of es) (g : Collects c xs ts old now done i) where
    abbrev terms_rule : Scope → Rule Trees
    terms_rule sc = patterns_rule sc (map part_of es)

    abbrev spot : Span
    spot = first_place_of (map part_of es)

    abbrev covered : Trees → Scope → Rule Patterns
    covered us sc = triggers_from xs ts (i + 1) sc >> λ ps. give (and_pattern spot us ps)

    abbrev after_terms : Scope → Trees → Rule Patterns
    after_terms sc us = covering xs us spot ⇒ covered us sc

    trigger_here : (sc : Scope) → triggers_from xs ts i sc ≡ (terms_rule sc >> after_terms sc)
    trigger_here sc =
        ap (λ z. triggers_rule xs (map trigger_of z) sc) (drop_more ts i t within ∙ ap (λ z. z ∷ drop (i + 1) ts) (sym is))
        ∙ ap (λ z. triggers_rule xs (z ∷ map trigger_of (drop (i + 1) ts)) sc) its

    collected : (x : TypeFault) → Stops c (λ sc. terms_rule sc >> after_terms sc) now x → Stops c all_rule old x
    collected x h = g.stops x (stops_same c (λ sc. terms_rule sc >> after_terms sc) (triggers_from xs ts i) now x (λ sc. sym (trigger_here sc)) h)

    pub collects_stop : (x : TypeFault) → Stops c terms_rule now x → Stops c all_rule old x
    collects_stop x h = collected x (stops_first c terms_rule after_terms now x h)

    module _ (mid : Typing) (us : Trees) (one : Walks c terms_rule now mid us) where
      pub collects_bad : (x : TypeFault) → AreFailed (trigger_covers xs spot us) x → Stops c all_rule old x
      collects_bad x h = collected x (stops_later c terms_rule after_terms now mid us x one (stops_all c (λ sc. trigger_covers xs spot us) (covered us) mid x (h (bound mid.bindings))))

      pub collects_next : AreHeld (trigger_covers xs spot us) → (ns : List ℕ) (place : Span) (longer : List Pattern) → AreTrees (nodes_of mid) ns us → place ≡ spot → longer ≡ done ++ record { place = place; terms = ns } ∷ []
          → Collects c xs ts old mid longer (i + 1)
      collects_next h ns place longer stand at same = record {
        patterns = onto_patterns g.patterns (and_pattern spot us no_pattern);
        stand = subst (λ z. ArePatterns (nodes_of mid) z (onto_patterns g.patterns (and_pattern spot us no_pattern))) (sym same)
            (subst (λ (z : Span). ArePatterns (nodes_of mid) (done ++ record { place = place; terms = ns } ∷ []) (onto_patterns g.patterns (and_pattern z us no_pattern))) at
            (patterns_more (nodes_of mid) done g.patterns (record { place = place; terms = ns }) us (later_patterns (nodes_of now) (nodes_of mid) one.kept done g.patterns g.stand) stand));
        walks = λ end ps b. subst (λ z. Walks c all_rule old end z) (sym (onto_patterns_end g.patterns spot us ps))
            (g.walks end (and_pattern spot us ps) (walks_same c (λ sc. terms_rule sc >> after_terms sc) (triggers_from xs ts i) now end (and_pattern spot us ps) (λ sc. sym (trigger_here sc))
            (walks_then c terms_rule after_terms now mid end us (and_pattern spot us ps) one
            (walks_all c (λ sc. trigger_covers xs spot us) (covered us) mid mid.bindings end (and_pattern spot us ps) (h (bound mid.bindings))
            (walks_then c (triggers_from xs ts (i + 1)) (λ sc qs. give (and_pattern spot us qs)) mid end end ps (and_pattern spot us ps) b (walks_give c end (and_pattern spot us ps)))))));
        stops = λ x b. collected x (stops_later c terms_rule after_terms now mid us x one
            (stops_after_all c (λ sc. trigger_covers xs spot us) (covered us) mid mid.bindings x (h (bound mid.bindings))
            (stops_first c (triggers_from xs ts (i + 1)) (λ sc qs. give (and_pattern spot us qs)) mid x b)));
      }

  pub collects_whole : (now : Typing) (done : List Pattern) (i : ℕ) → length ts ≤ i → Collects c xs ts old now done i → TypesPatterns c all_rule old now done
  collects_whole now done i l g = record {
    patterns = g.patterns;
    stand = g.stand;
    walks = subst (λ z. Walks c all_rule old now z) (onto_no_pattern g.patterns)
        (g.walks now no_pattern (walks_same c (λ sc. give no_pattern) (triggers_from xs ts i) now now no_pattern
        (λ sc. sym (ap (λ z. triggers_rule xs (map trigger_of z) sc) (drop_all i ts l))) (walks_give c now no_pattern)));
  }
