-- Records once the values of their fields are typed: each exit of the functions is one of these lemmas.
use Rattle.std.proofs.Common.{◌≡◌, ◌∙◌, ℕ, Bool, true, false, not, nat_eq, ◌||◌, List, [], ◌∷◌, length, reverse, refl, sym, ap, subst, true≢false}
use Rattle.std.specs.List.{list_any}
use Rattle.std.proofs.lemmas.Bool.{eq-eqb, eqb-true, not_from_false}
use Rattle.std.proofs.lemmas.List.{reverse-append}
use Rattle.std.proofs.lemmas.List.Folds.{list_any-append}
use Rattle.ae_core.specs.declared.terms.Sort.{Sort, Named}
use Rattle.ae_types.specs.Bound.{bound}
use Rattle.ae_syntax.specs.declared.spans.Span.{Span}
use Rattle.ae_elab.specs.declared.faults.TypeFault.TheVariants as fault
use Rattle.ae_elab.specs.declared.fields.FieldPlace.{FieldPlace}
use Rattle.ae_elab.specs.declared.typings.Context.{Context}
use Rattle.ae_elab.specs.declared.typings.Typing.{Typing}
use Rattle.ae_elab.specs.Conditions.{Condition, test}
use Rattle.ae_elab.specs.Nodes.{a_tree, trees_at, tree_at}
use Rattle.ae_elab.specs.Rules.{give, typed}
use Rattle.ae_elab.specs.Scope.{name_in}
use Rattle.ae_elab.specs.Steps.{AreHeld, AreFailed}
use Rattle.ae_elab.specs.Terms.{fields_at}
use Rattle.ae_elab.specs.Trees.{Tree, Trees, build, update}
use Rattle.ae_elab.specs.Typings.{Stops, TypesTerm, Puts, nodes_of}
use Rattle.ae_elab.proofs.TypingLaws.{walks_demand, stops_demand, walks_push, stands_put}
use Rattle.ae_elab.proofs.WalkLaws.{none_met, one_met, one_stops, later_stops, test_met, test_not_met}
use Rattle.ae_expressions.specs.FieldParts.{new_field, then_built, then_updated}

-- ---- an order of the elements changes nothing
last_first : (a b : Bool) → (a || (b || false)) ≡ (b || a)
last_first true true = refl
last_first true false = refl
last_first false true = refl
last_first false false = refl

pub any_reversed : (p : ℕ → Bool) (xs : List ℕ) → list_any p (reverse xs) ≡ list_any p xs
any_reversed p [] = refl
any_reversed p (x ∷ xs) =
    ap (list_any p) (reverse-append (x ∷ []) xs) ∙ list_any-append p (reverse xs) (x ∷ []) ∙ last_first (list_any p (reverse xs)) (p x) ∙ ap (λ b. p x || b) (any_reversed p xs)

-- ---- a field of the type, and none of those before
module _ (text : List ℕ) (own : Span) (of : ℕ) (got : List ℕ) (f : FieldPlace) (x : Span) where
  abbrev of_type : Condition
  of_type = test (nat_eq f.of of) (fault.MissingField own.from own.to)

  abbrev again : Bool
  again = list_any (nat_eq f.place) got

  abbrev is_once : Condition
  is_once = test (not again) (fault.Twice (name_in text x) x.from x.to)

  pub field_other : (f.of ≡ of → ⊥) → AreFailed (new_field text own of got f x) (fault.MissingField own.from own.to)
  field_other h m =
      let e = fault.MissingField own.from own.to in
      one_stops of_type (is_once ∷ []) m e (test_not_met (nat_eq f.of of) e m (λ t. h (eqb-true f.of of t)))

  pub field_again : f.of ≡ of → again ≡ true → AreFailed (new_field text own of got f x) (fault.Twice (name_in text x) x.from x.to)
  field_again same h m =
      let e = fault.Twice (name_in text x) x.from x.to in
      later_stops of_type (is_once ∷ []) m m e (test_met (nat_eq f.of of) (fault.MissingField own.from own.to) m (eq-eqb f.of of same))
      (one_stops is_once [] m e (test_not_met (not again) e m (λ t. true≢false (sym t ∙ ap not h))))

  pub field_new : f.of ≡ of → again ≡ false → AreHeld (new_field text own of got f x)
  field_new same h m =
      one_met of_type (is_once ∷ []) m m m (test_met (nat_eq f.of of) (fault.MissingField own.from own.to) m (eq-eqb f.of of same))
      (one_met is_once [] m m m (test_met (not again) (fault.Twice (name_in text x) x.from x.to) m (not_from_false again h)) (none_met m))

-- ---- all fields have a value, or the record lacks one
module _ (c : Context) (own : Span) (of : ℕ) (ss : List Sort) (ps : List ℕ) (us : Trees) (old : Typing) where
  pub built_short : (length ps ≡ length (fields_at c.known of) → ⊥) → Stops c (λ sc. then_built own of ss sc (record { places = ps; terms = us })) old (fault.MissingField own.from own.to)
  built_short h =
      let e = fault.MissingField own.from own.to in
      stops_demand c (λ sc. test (nat_eq (length ps) (length (fields_at sc.signature of))) e) (λ sc. give (typed (build of ss (length (fields_at sc.signature of)) ps us) (Named of ss))) old e
      (test_not_met (nat_eq (length ps) (length (fields_at c.known of))) e (bound old.bindings) (λ t. h (eqb-true (length ps) (length (fields_at c.known of)) t)))

  pub built_whole : (count : ℕ) (zs : List Sort) (n : ℕ) (ns : List ℕ) (new : Typing) → count ≡ length (fields_at c.known of) → length ps ≡ count → zs ≡ ss → trees_at (nodes_of old) ns ≡ us
      → Puts old new (a_tree (build of ss count ps (trees_at (nodes_of old) ns))) n
      → TypesTerm c (λ sc. then_built own of ss sc (record { places = ps; terms = us })) old new (record { tree = n; sort = Named of zs })
  built_whole count zs n ns new counted filled same are p =
      let e = fault.MissingField own.from own.to in
      let full = length (fields_at c.known of) in
      let t = build of ss full ps us in
      let put : Puts old new (a_tree t) n = subst (λ k. Puts old new (a_tree (build of ss k ps us)) n) counted (subst (λ z. Puts old new (a_tree (build of ss count ps z)) n) are p) in
      let w = walks_push c old new (a_tree t) n (typed t (Named of ss)) put in
      subst (λ z. TypesTerm c (λ sc. then_built own of ss sc (record { places = ps; terms = us })) old new (record { tree = n; sort = Named of z })) (sym same) (record {
        tree = t;
        stands = stands_put old new (a_tree t) n put;
        walks = walks_demand c (λ sc. test (nat_eq (length ps) (length (fields_at sc.signature of))) e) (λ sc. give (typed (build of ss (length (fields_at sc.signature of)) ps us) (Named of ss))) old old.bindings new (typed t (Named of ss))
            (test_met (nat_eq (length ps) full) e (bound old.bindings) (eq-eqb (length ps) full (filled ∙ counted))) (record { walked = w.walked; locals = w.locals; kept = w.kept });
      })

-- ---- an update
module _ (c : Context) (of : ℕ) (ss : List Sort) (ps : List ℕ) (us : Trees) (old : Typing) where
  pub updated_whole : (count : ℕ) (zs : List Sort) (n b : ℕ) (x : Tree) (ns : List ℕ) (new : Typing) → count ≡ length (fields_at c.known of) → zs ≡ ss → tree_at (nodes_of old) b ≡ x → trees_at (nodes_of old) ns ≡ us
      → Puts old new (a_tree (update of ss count (tree_at (nodes_of old) b) ps (trees_at (nodes_of old) ns))) n
      → TypesTerm c (λ sc. then_updated of ss sc x (record { places = ps; terms = us })) old new (record { tree = n; sort = Named of zs })
  updated_whole count zs n b x ns new counted same is are p =
      let full = length (fields_at c.known of) in
      let t = update of ss full x ps us in
      let put : Puts old new (a_tree t) n = subst (λ k. Puts old new (a_tree (update of ss k x ps us)) n) counted (subst (λ z. Puts old new (a_tree (update of ss count x ps z)) n) are
      (subst (λ y. Puts old new (a_tree (update of ss count y ps (trees_at (nodes_of old) ns))) n) is p)) in
      let w = walks_push c old new (a_tree t) n (typed t (Named of ss)) put in
      subst (λ z. TypesTerm c (λ sc. then_updated of ss sc x (record { places = ps; terms = us })) old new (record { tree = n; sort = Named of z })) (sym same) (record {
        tree = t;
        stands = stands_put old new (a_tree t) n put;
        walks = record { walked = w.walked; locals = w.locals; kept = w.kept };
      })
