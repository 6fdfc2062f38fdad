-- Records: the values of their fields, one by one, and the whole.
use Rattle.std.proofs.Common.{◌≡◌, ◌∙◌, ℕ, ◌+◌, ◌<◌, ◌≤◌, List, [], ◌∷◌, ◌++◌, map, length, drop, get_or, reverse, Option, Some, None, Result, Ok, Err, sym, ap, subst}
use Rattle.std.proofs.lemmas.List.{drop_more, drop_all, append_assoc, append-nil, reverse-append}
use Rattle.ae_core.specs.declared.terms.Sort.{Sort, Named}
use Rattle.ae_types.specs.Bound.{bound}
use Rattle.ae_types.specs.Inner.Enters.{Sheet}
use Rattle.ae_syntax.specs.declared.exprs.Expr.{Expr}
use Rattle.ae_syntax.specs.declared.exprs.Setting.{Setting}
use Rattle.ae_syntax.specs.declared.spans.Span.{Span}
use Rattle.ae_elab.specs.declared.faults.TypeFault.{TypeFault}
use Rattle.ae_elab.specs.declared.faults.TypeFault.TheVariants as fault
use Rattle.ae_elab.specs.declared.fields.FieldPlace.{FieldPlace}
use Rattle.ae_elab.specs.declared.typings.Context.{Context}
use Rattle.ae_elab.specs.declared.typings.TypedTerm.{TypedTerm}
use Rattle.ae_elab.specs.declared.typings.Typing.{Typing}
use Rattle.ae_elab.specs.Conditions.{has_sort}
use Rattle.ae_elab.specs.Expressions.{part_of, set_of}
use Rattle.ae_elab.specs.Nodes.{AreTrees, IsTree}
use Rattle.ae_elab.specs.Rules.{Passed, Rule, Typed, typed, no_term, give, ◌>>◌, ◌⇒◌, all_of, refuse, unknowns, as_term, wanted, Set}
use Rattle.ae_elab.specs.Scope.{Scope, field_place, name_in}
use Rattle.ae_elab.specs.Steps.{IsMet, IsNotMet, AreHeld, AreFailed, IsTaken, IsStopped}
use Rattle.ae_elab.specs.Terms.{Values, no_values, values_rule, with_field, with_type, field_sort, arity_at, record_rule, update_rule}
use Rattle.ae_elab.specs.Trees as tree
use Rattle.ae_elab.specs.Trees.{Tree, Trees, more}
use Rattle.ae_elab.specs.Typings.{scope_at, Walks, Stops, TermAnswer, nodes_of}
use Rattle.ae_elab.proofs.NodeLaws.{later_trees}
use Rattle.ae_elab.proofs.PartRules.{setting}
use Rattle.ae_elab.proofs.TypingLaws.{with_bindings, with_passing, walks_give, walks_then, walks_taken, walks_all, stops_first, stops_later, stops_all, stops_after_all, stops_demand}
use Rattle.ae_expressions.specs.FieldParts.{no_field, new_field, then_built, then_updated}
use Rattle.ae_expression_typing.specs.Inner.ValuesAnswers.{TypesValues}
use Rattle.ae_typing.specs.declared.record_steps.Values as code
use Rattle.ae_expressions.proofs.AnswerLaws.{then_term, demand_term}
use Rattle.ae_expression_typing.proofs.ArgumentLaws.{onto, onto_end, onto_none, stand_more}
use Rattle.ae_expressions.proofs.FieldSteps.{field_stops, field_walks}
use Rattle.ae_expressions.proofs.PartForms.{place_is}
use Rattle.ae_expression_typing.proofs.RuleLaws.{walks_same, stops_same}

-- a name that is no field's
pub field_failed : {A : Type 0} (c : Context) (x : Span) (otherwise : A) (go : Scope → FieldPlace → Rule A) (old : Typing) → field_place c.known (name_in c.text.now x) ≡ None
    → (e : TypeFault) → AreFailed (no_field c.text.now x) e → Stops c (λ sc. with_field sc x otherwise (go sc)) old e
field_failed {A} c x otherwise go old h e failed = subst (λ o. IsStopped (by_place o) (bound old.bindings) old.passing e) (sym h) (failed (bound old.bindings))
  where
    by_place : Option FieldPlace → Rule A
    by_place o = elim o [ Some f ↦ go (scope_at c old) f | None ↦ refuse (fault.UnknownName (name_in c.text.now x) x.from x.to) otherwise ]

-- ---- values one by one: what the rest comes to, the whole comes to with what is done
abbrev pub values_from : ℕ → List Sort → Span → List Setting → List ℕ → ℕ → Scope → Rule Values
values_from of ss own sets places i sc = values_rule own of ss (reverse places) (map set_of (drop i sets)) sc

abbrev behind : List ℕ → Trees → Values → Values
behind ps ts v = record { places = ps ++ v.places; terms = onto ts v.terms }

pub record Gets (c : Context) (own : Span) (of : ℕ) (ss : List Sort) (sets : List Setting) (old now : Typing) (places done : List ℕ) (i : ℕ) : Type 0 where
  pub terms : Trees
  pub stand : AreTrees (nodes_of now) done terms
  pub walks : (end : Typing) (v : Values) → Walks c (values_from of ss own sets places i) now end v → Walks c (λ sc. values_rule own of ss [] (map set_of sets) sc) old end (behind places terms v)
  pub stops : (x : TypeFault) → Stops c (values_from of ss own sets places i) now x → Stops c (λ sc. values_rule own of ss [] (map set_of sets) sc) old x

module _ (c : Context) (own : Span) (of : ℕ) (ss : List Sort) (sets : List Setting) (old : Typing) where
  abbrev whole : Scope → Rule Values
  whole sc = values_rule own of ss [] (map set_of sets) sc

  pub gets_start : Gets c own of ss sets old old [] [] 0
  gets_start = record { terms = tree.none; stand = tt; walks = λ end v a. a; stops = λ x a. a }

  module _ (now : Typing) (places done : List ℕ) (i : ℕ) (s : Setting) (within : i < length sets) (is : s ≡ get_or sets i s) (g : Gets c own of ss sets old now places done i) where
    abbrev here : Scope → Rule Values
    here sc = values_from of ss own sets places i sc

    abbrev after_value : FieldPlace → Scope → Tree → Rule Values
    after_value f sc t = values_rule own of ss (f.place ∷ reverse places) (map set_of (drop (i + 1) sets)) sc >> λ v. give (record { places = f.place ∷ v.places; terms = more t v.terms })

    abbrev with_value : FieldPlace → Tree → Scope → Values → Rule Values
    with_value f t sc v = give (record { places = f.place ∷ v.places; terms = more t v.terms })

    abbrev valued : FieldPlace → Scope → Rule Values
    valued f sc = wanted sc (field_sort sc.signature f ss) (part_of s.value) >> after_value f sc

    abbrev at_field : Scope → FieldPlace → Rule Values
    at_field sc f = all_of (new_field sc.text own of (reverse places) f s.name) (valued f sc)

    here_is : (sc : Scope) → here sc ≡ with_field sc s.name no_values (at_field sc)
    here_is sc =
        ap (λ z. values_rule own of ss (reverse places) (map set_of z) sc) (drop_more sets i s within ∙ ap (λ z. z ∷ drop (i + 1) sets) (sym is))
        ∙ ap (λ z. values_rule own of ss (reverse places) (z ∷ map set_of (drop (i + 1) sets)) sc) (setting s)

    stopped : (x : TypeFault) → Stops c (λ sc. with_field sc s.name no_values (at_field sc)) now x → Stops c whole old x
    stopped x h = g.stops x (stops_same c (λ sc. with_field sc s.name no_values (at_field sc)) here now x (λ sc. sym (here_is sc)) h)

    pub gets_missing : field_place c.known (name_in c.text.now s.name) ≡ None → (x : TypeFault) → AreFailed (no_field c.text.now s.name) x → Stops c whole old x
    gets_missing none x h = stopped x (field_failed c s.name no_values at_field now none x h)

    module _ (f : FieldPlace) (found : field_place c.known (name_in c.text.now s.name) ≡ Some f) where
      pub gets_old : (x : TypeFault) → AreFailed (new_field c.text.now own of (reverse places) f s.name) x → Stops c whole old x
      gets_old x h = stopped x (field_stops c s.name no_values at_field now f found x (stops_all c (λ sc. new_field sc.text own of (reverse places) f s.name) (valued f) now x (h (bound now.bindings))))

      module _ (new : AreHeld (new_field c.text.now own of (reverse places) f s.name)) (k : Sort) (sorted : k ≡ field_sort c.known f ss) where
        pub gets_unwanted : (x : TypeFault) → Stops c (λ sc. wanted sc k (part_of s.value)) now x → Stops c whole old x
        gets_unwanted x h =
            stopped x (field_stops c s.name no_values at_field now f found x (stops_after_all c (λ sc. new_field sc.text own of (reverse places) f s.name) (valued f) now now.bindings x (new (bound now.bindings))
            (stops_first c (λ sc. wanted sc (field_sort sc.signature f ss) (part_of s.value)) (after_value f) now x (subst (λ z. Stops c (λ sc. wanted sc z (part_of s.value)) now x) sorted h))))

        pub gets_next : (next : Typing) (n : ℕ) (t : Tree) (more_places longer : List ℕ) → Walks c (λ sc. wanted sc k (part_of s.value)) now next t → IsTree (nodes_of next) n t
            → more_places ≡ places ++ f.place ∷ [] → longer ≡ done ++ n ∷ [] → Gets c own of ss sets old next more_places longer (i + 1)
        gets_next next n t more_places longer a h placed same = record {
          terms = onto g.terms (more t tree.none);
          stand = subst (λ z. AreTrees (nodes_of next) z (onto g.terms (more t tree.none))) (sym same)
              (stand_more (nodes_of next) done g.terms n t (later_trees (nodes_of now) (nodes_of next) a.kept done g.terms g.stand) h);
          walks = λ end v b. (let u : Values = record { places = f.place ∷ v.places; terms = more t v.terms } in
              subst (λ z. Walks c whole old end (record { places = z; terms = onto (onto g.terms (more t tree.none)) v.terms })) (sym (ap (λ z. z ++ v.places) placed ∙ append_assoc places (f.place ∷ []) v.places))
              (subst (λ z. Walks c whole old end (record { places = places ++ f.place ∷ v.places; terms = z })) (sym (onto_end g.terms t v.terms))
              (g.walks end u (walks_same c (λ sc. with_field sc s.name no_values (at_field sc)) here now end u (λ sc. sym (here_is sc))
              (field_walks c s.name no_values at_field now f found end u
              (walks_all c (λ sc. new_field sc.text own of (reverse places) f s.name) (valued f) now now.bindings end u (new (bound now.bindings))
              (walks_then c (λ sc. wanted sc (field_sort sc.signature f ss) (part_of s.value)) (after_value f) now next end t u sorted_walk
              (walks_then c (from_next f) (with_value f t) next end end v u (walks_same c (values_from of ss own sets more_places (i + 1)) (from_next f) next end v (next_is f more_places placed) b)
              (walks_give c end u)))))))));
          stops = λ x b. stopped x (field_stops c s.name no_values at_field now f found x
              (stops_after_all c (λ sc. new_field sc.text own of (reverse places) f s.name) (valued f) now now.bindings x (new (bound now.bindings))
              (stops_later c (λ sc. wanted sc (field_sort sc.signature f ss) (part_of s.value)) (after_value f) now next t x sorted_walk
              (stops_first c (from_next f) (with_value f t) next x
              (stops_same c (values_from of ss own sets more_places (i + 1)) (from_next f) next x (next_is f more_places placed) b)))));
        }
          where
            sorted_walk : Walks c (λ sc. wanted sc (field_sort sc.signature f ss) (part_of s.value)) now next t
            sorted_walk = (let b = subst (λ z. Walks c (λ sc. wanted sc z (part_of s.value)) now next t) sorted a in record { walked = b.walked; locals = b.locals; kept = b.kept })

            from_next : FieldPlace → Scope → Rule Values
            from_next h sc = values_rule own of ss (h.place ∷ reverse places) (map set_of (drop (i + 1) sets)) sc

            next_is : (h : FieldPlace) (ps : List ℕ) → ps ≡ places ++ h.place ∷ [] → (sc : Scope) → values_from of ss own sets ps (i + 1) sc ≡ from_next h sc
            next_is h ps e sc = ap (λ z. values_rule own of ss z (map set_of (drop (i + 1) sets)) sc) (ap reverse e ∙ reverse-append places (h.place ∷ []))

  pub gets_whole : (now : Typing) (places done : List ℕ) (i : ℕ) → length sets ≤ i → Gets c own of ss sets old now places done i → TypesValues c whole old now (record { places = places; trees = done })
  gets_whole now places done i l g = record {
    terms = g.terms;
    stand = g.stand;
    walks = subst (λ z. Walks c whole old now (record { places = z; terms = g.terms })) (append-nil places)
        (subst (λ z. Walks c whole old now (record { places = places ++ []; terms = z })) (onto_none g.terms)
        (g.walks now no_values (walks_same c (λ sc. give no_values) (values_from of ss own sets places i) now now no_values
        (λ sc. sym (ap (λ z. values_rule own of ss (reverse places) (map set_of z) sc) (drop_all i sets l))) (walks_give c now no_values))));
  }

-- ---- a rule that is another one, or goes on at a field
module _ (c : Context) (old new : Typing) where
  pub same_term : (r q : Scope → Rule Typed) → ((sc : Scope) → r sc ≡ q sc) → (result : Result TypedTerm TypeFault) → TermAnswer c r old new result → TermAnswer c q old new result
  same_term r q e (Ok t) a = record { tree = a.tree; stands = a.stands; walks = walks_same c r q old new (typed a.tree t.sort) e a.walks }
  same_term r q e (Err x) a = stops_same c r q old x e a

  pub field_term : (x : Span) (go : Scope → FieldPlace → Rule Typed) (f : FieldPlace) → field_place c.known (name_in c.text.now x) ≡ Some f → (result : Result TypedTerm TypeFault) → TermAnswer c (λ sc. go sc f) old new result
      → TermAnswer c (λ sc. with_field sc x no_term (go sc)) old new result
  field_term x go f is (Ok t) a = record { tree = a.tree; stands = a.stands; walks = field_walks c x no_term go old f is new (typed a.tree t.sort) a.walks }
  field_term x go f is (Err e) a = field_stops c x no_term go old f is e a

-- ---- `{ x = e; .. }`
module _ (c : Context) (own : Span) (s : Setting) (others : List Setting) (old : Typing) where
  abbrev sets : List Setting
  sets = s ∷ others

  abbrev built_from : ℕ → List Sort → Scope → Values → Rule Typed
  built_from of ss sc v = then_built own of ss sc v

  abbrev record_at : Scope → FieldPlace → Rule Typed
  record_at sc f = unknowns (arity_at sc.signature f.of) >> λ ss. values_rule own f.of ss [] (map set_of sets) sc >> built_from f.of ss sc

  record_is : (sc : Scope) → with_field sc s.name no_term (record_at sc) ≡ record_rule own (map set_of sets) sc
  record_is sc = sym (ap (λ (n : Span). with_field sc n no_term (record_at sc)) (ap (λ z. z.name) (setting s)))

  pub record_missing : field_place c.known (name_in c.text.now s.name) ≡ None → (x : TypeFault) → AreFailed (no_field c.text.now s.name) x → Stops c (λ sc. record_rule own (map set_of sets) sc) old x
  record_missing none x h = stops_same c (λ sc. with_field sc s.name no_term (record_at sc)) (λ sc. record_rule own (map set_of sets) sc) old x record_is (field_failed c s.name no_term record_at old none x h)

  module _ (f : FieldPlace) (found : field_place c.known (name_in c.text.now s.name) ≡ Some f) (q : Passed) (ss : List Sort) (taken : IsTaken (unknowns (arity_at c.known f.of)) old.passing q ss) where
    abbrev values_here : Scope → Rule Values
    values_here sc = values_rule own f.of ss [] (map set_of sets) sc

    pub record_values : (new : Typing) (result : Result TypedTerm TypeFault) → TermAnswer c (λ sc. values_here sc >> built_from f.of ss sc) (with_passing q old) new result → TermAnswer c (λ sc. record_rule own (map set_of sets) sc) old new result
    record_values new result a =
        same_term c old new (λ sc. with_field sc s.name no_term (record_at sc)) (λ sc. record_rule own (map set_of sets) sc) record_is result
        (field_term c old new s.name record_at f found result
        (then_term c (λ sc. unknowns (arity_at sc.signature f.of)) old (with_passing q old) new ss (walks_taken c (λ sc. unknowns (arity_at sc.signature f.of)) old q ss taken)
        (λ sc zs. values_rule own f.of zs [] (map set_of sets) sc >> built_from f.of zs sc) result a))

    pub record_stops : (x : TypeFault) → Stops c values_here (with_passing q old) x → Stops c (λ sc. record_rule own (map set_of sets) sc) old x
    record_stops x h = record_values old (Err x) (stops_first c values_here (built_from f.of ss) (with_passing q old) x h)

    pub record_done : (mid new : Typing) (vs : code.Values) (v : TypesValues c values_here (with_passing q old) mid vs) (result : Result TypedTerm TypeFault)
        → TermAnswer c (λ sc. then_built own f.of ss sc (record { places = vs.places; terms = v.terms })) mid new result → TermAnswer c (λ sc. record_rule own (map set_of sets) sc) old new result
    record_done mid new vs v result a =
        record_values new result (then_term c values_here (with_passing q old) mid new (record { places = vs.places; terms = v.terms }) v.walks (built_from f.of ss) result a)

-- ---- `{ r with x = e; .. }`
module _ (c : Context) (own : Span) (base : Expr) (old : Typing) where
  abbrev B : Scope → Rule Typed
  B sc = as_term sc (part_of base)

  abbrev after_base : List Set → Scope → Typed → Rule Typed
  after_base sets sc t =
      with_type sc sets no_term λ of. unknowns (arity_at sc.signature of) >> λ ss. has_sort (part_of base).place (Named of ss) t.sort
      ⇒ values_rule own of ss [] sets sc >> λ v. then_updated of ss sc t.tree v

  pub update_first : (sets : List Setting) (x : TypeFault) → Stops c B old x → Stops c (λ sc. update_rule own (part_of base) (map set_of sets) sc) old x
  update_first sets x h = stops_first c B (after_base (map set_of sets)) old x h

  module _ (mid : Typing) (u : Tree) (k : Sort) (one : Walks c B old mid (typed u k)) where
    pub update_empty : (new : Typing) (result : Result TypedTerm TypeFault) → TermAnswer c (λ sc. give no_term) mid new result → TermAnswer c (λ sc. update_rule own (part_of base) [] sc) old new result
    update_empty new result a = then_term c B old mid new (typed u k) one (after_base []) result a

    module _ (s : Setting) (others : List Setting) where
      abbrev all_sets : List Set
      all_sets = map set_of (s ∷ others)

      abbrev ends : ℕ → List Sort → Scope → Values → Rule Typed
      ends of ss sc v = then_updated of ss sc u v

      abbrev fitting : ℕ → List Sort → Scope → Rule Typed
      fitting of ss sc = has_sort (part_of base).place (Named of ss) k ⇒ values_rule own of ss [] all_sets sc >> ends of ss sc

      abbrev update_at : Scope → FieldPlace → Rule Typed
      update_at sc f = unknowns (arity_at sc.signature f.of) >> λ ss. fitting f.of ss sc

      update_is : (sc : Scope) → with_field sc s.name no_term (update_at sc) ≡ after_base all_sets sc (typed u k)
      update_is sc = sym (ap (λ (n : Span). with_field sc n no_term (update_at sc)) (ap (λ z. z.name) (setting s)))

      update_after : (new : Typing) (result : Result TypedTerm TypeFault) → TermAnswer c (λ sc. with_field sc s.name no_term (update_at sc)) mid new result → TermAnswer c (λ sc. update_rule own (part_of base) all_sets sc) old new result
      update_after new result a =
          then_term c B old mid new (typed u k) one (after_base all_sets) result
          (same_term c mid new (λ sc. with_field sc s.name no_term (update_at sc)) (λ sc. after_base all_sets sc (typed u k)) update_is result a)

      pub update_missing : field_place c.known (name_in c.text.now s.name) ≡ None → (x : TypeFault) → AreFailed (no_field c.text.now s.name) x → Stops c (λ sc. update_rule own (part_of base) all_sets sc) old x
      update_missing none x h = update_after old (Err x) (field_failed c s.name no_term update_at mid none x h)

      module _ (f : FieldPlace) (found : field_place c.known (name_in c.text.now s.name) ≡ Some f) (q : Passed) (ss : List Sort) (taken : IsTaken (unknowns (arity_at c.known f.of)) mid.passing q ss) where
        update_fits : (new : Typing) (result : Result TypedTerm TypeFault) → TermAnswer c (fitting f.of ss) (with_passing q mid) new result → TermAnswer c (λ sc. update_rule own (part_of base) all_sets sc) old new result
        update_fits new result a =
            update_after new result (field_term c mid new s.name update_at f found result
            (then_term c (λ sc. unknowns (arity_at sc.signature f.of)) mid (with_passing q mid) new ss (walks_taken c (λ sc. unknowns (arity_at sc.signature f.of)) mid q ss taken)
            (λ sc zs. fitting f.of zs sc) result a))

        pub update_other : (x : TypeFault) → IsNotMet (has_sort base.span (Named f.of ss) k) (bound mid.bindings) x → Stops c (λ sc. update_rule own (part_of base) all_sets sc) old x
        update_other x h =
            update_fits old (Err x) (stops_demand c (λ sc. has_sort (part_of base).place (Named f.of ss) k) (λ sc. values_rule own f.of ss [] all_sets sc >> ends f.of ss sc) (with_passing q mid) x
            (subst (λ (p : Span). IsNotMet (has_sort p (Named f.of ss) k) (bound mid.bindings) x) (sym (place_is base)) h))

        module _ (w : Sheet) (fits : IsMet (has_sort base.span (Named f.of ss) k) (bound mid.bindings) (bound w)) where
          abbrev begun : Typing
          begun = with_bindings w (with_passing q mid)

          update_fitted : (new : Typing) (result : Result TypedTerm TypeFault) → TermAnswer c (λ sc. values_rule own f.of ss [] all_sets sc >> ends f.of ss sc) begun new result
              → TermAnswer c (λ sc. update_rule own (part_of base) all_sets sc) old new result
          update_fitted new result a =
              update_fits new result (demand_term c (λ sc. has_sort (part_of base).place (Named f.of ss) k) (with_passing q mid) new w
              (subst (λ (p : Span). IsMet (has_sort p (Named f.of ss) k) (bound mid.bindings) (bound w)) (sym (place_is base)) fits) (λ sc. values_rule own f.of ss [] all_sets sc >> ends f.of ss sc) result a)

          pub update_stops : (x : TypeFault) → Stops c (λ sc. values_rule own f.of ss [] all_sets sc) begun x → Stops c (λ sc. update_rule own (part_of base) all_sets sc) old x
          update_stops x h = update_fitted old (Err x) (stops_first c (λ sc. values_rule own f.of ss [] all_sets sc) (ends f.of ss) begun x h)

          pub update_done : (end new : Typing) (vs : code.Values) (v : TypesValues c (λ sc. values_rule own f.of ss [] all_sets sc) begun end vs) (result : Result TypedTerm TypeFault)
              → TermAnswer c (λ sc. then_updated f.of ss sc u (record { places = vs.places; terms = v.terms })) end new result → TermAnswer c (λ sc. update_rule own (part_of base) all_sets sc) old new result
          update_done end new vs v result a =
              update_fitted new result (then_term c (λ sc. values_rule own f.of ss [] all_sets sc) begun end new (record { places = vs.places; terms = v.terms }) v.walks (ends f.of ss) result a)
