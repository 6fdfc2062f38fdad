-- Literals of which nothing is unmet are met.
use Rattle.std.specs.Prelude.{ℕ, ◌<◌, Bool, true, false, List, [], ◌∷◌, ◌≡◌, map, length, slice_get, Some}
use Rattle.std.specs.List.{AllByRecursion, Contains}
use Rattle.std.proofs.Common.{refl, sym, ap, ◌∙◌, arith}
use Rattle.std.proofs.lemmas.List.{length-map}
use Rattle.std.proofs.lemmas.Option.{slice_get_within}
use native.Mathlib.Decide.{ℕ_discrete}
use Rattle.ae_base.proofs.AllOf.{all_weaker}
use Rattle.ae_base.proofs.ListFacts.{value_at, get_map}
use Rattle.ae_core.specs.Decided.{Head_discrete}
use Rattle.ae_core.specs.declared.terms.Sort.{Sort}
use Rattle.ae_core.specs.declared.terms.Head.{Head}
use Rattle.ae_core.specs.declared.terms.Head.TheVariants.{Symbol}
use Rattle.ae_core.specs.declared.terms.Term.{Term, Apply}
use Rattle.ae_core.specs.declared.formulas.Formula.{Eq, Pred}
use Rattle.ae_core.specs.declared.formulas.Lit.{Lit}
use Rattle.ae_rules.specs.Clauses.{is_true, is_false}
use Rattle.ae_rules.specs.Derivations.{IsConstructor}
use Rattle.ae_journal.specs.Systems.{IsName}
use Rattle.ae_store.specs.declared.nodes.Node.{Node}
use Rattle.ae_store.specs.declared.nodes.NodeHead.TheVariants.{Of}
use Rattle.ae_store.specs.Shapes.{shapes, shape_of}
use Rattle.ae_store.specs.Terms.{terms, named}
use Rattle.ae_store.specs.Stores.{IsStore}
use Rattle.ae_store.proofs.TermLaws.{length_terms}
use Rattle.ae_store.proofs.StoreLaws.{name_term}
use Rattle.ae_settled.specs.Held.{Held, system_of}
use Rattle.ae_settled.specs.Met.{AreNamesOf, AreMet}
use Rattle.ae_literals.specs.declared.said.Said.{Said}
use Rattle.ae_literals.specs.declared.said.Said.TheVariants.{Equal, Atom, Other}
use Rattle.ae_literals.specs.declared.unmet.Unmet.TheVariants as unmet
use Rattle.ae_literals.specs.Said.{Says, AreSaid}
use Rattle.ae_literals.specs.Unmet.{AreAllMet}
use Rattle.ae_literals.specs.Had.{stored_of, HaveNames, AreWhole}
use Rattle.ae_literals.proofs.NamedLiterals.{eq_parts, eq_no_pred, pred_parts}

module _ (x : Held) (said : List Said) (ls : List Lit) (store : IsStore x.signature x.nodes) (names : HaveNames x ls) (are : AreSaid (stored_of x) said ls) where
  abbrev ts : List Term
  ts = terms (shapes x.nodes)

  one : (m n : ℕ) (t : Term) → slice_get ts m ≡ Some t → slice_get ts n ≡ Some t → m ≡ n
  one = store.sound.one_name

  -- what is said of an equation of the literals
  record IsSaid (b : Bool) (s t : Term) : Type 0 where
    place : ℕ
    left : ℕ
    right : ℕ
    at : slice_get said place ≡ Some (Equal b left right)
    left_at : slice_get ts left ≡ Some s
    right_at : slice_get ts right ≡ Some t

  said_by : (b : Bool) (s t : Term) → Contains ls (record { positive = b; formula = Eq s t }) → (place : ℕ) (y : Said) → slice_get said place ≡ Some y → Says (stored_of x) (record { positive = b; formula = Eq s t }) y
      → IsSaid b s t
  said_by b s t c place (Equal d l r) e k =
      let sign : b ≡ d = ap (λ (z : Lit). z.positive) k.is in
      let parts = eq_parts s t k.left k.right (ap (λ (z : Lit). z.formula) k.is) in
      record {
        place = place;
        left = l;
        right = r;
        at = e ∙ ap (λ f. Some (Equal f l r)) (sym sign);
        left_at = k.left_at ∙ ap (λ z. Some z) (sym parts.0);
        right_at = k.right_at ∙ ap (λ z. Some z) (sym parts.1);
      }
  said_by b s t c place (Atom d n) e k = absurd (eq_no_pred s t k.predicate k.sorts k.args (ap (λ (z : Lit). z.formula) k.is))
  said_by b s t c place Other e k =
      let h = names.sides b s t c in
      absurd (k.no_equation b h.left h.right (record {
        left = s;
        right = t;
        sort = h.sort;
        is = refl;
        left_at = h.left_is;
        right_at = h.right_is;
        left_sorted = h.left_sorted;
        right_sorted = h.right_sorted;
      }))

  equation : (b : Bool) (s t : Term) → Contains ls (record { positive = b; formula = Eq s t }) → IsSaid b s t
  equation b s t c =
      let l : Lit = record { positive = b; formula = Eq s t } in
      said_by b s t c (are.place l c) (are.what l c) (are.at l c) (are.says l c)

  -- what is said of an atom of the literals
  record IsSaidOf (b : Bool) (q : ℕ) (ss : List Sort) (us : List Term) : Type 0 where
    place : ℕ
    name : ℕ
    at : slice_get said place ≡ Some (Atom b name)
    node : Node
    node_at : slice_get x.nodes name ≡ Some node
    head : node.head ≡ Of (Symbol q)
    sorts : node.sorts ≡ ss
    args : map (named ts) node.args ≡ us

  atom_by : (b : Bool) (q : ℕ) (ss : List Sort) (us : List Term) → Contains ls (record { positive = b; formula = Pred q ss us }) → (place : ℕ) (y : Said) → slice_get said place ≡ Some y
      → Says (stored_of x) (record { positive = b; formula = Pred q ss us }) y → IsSaidOf b q ss us
  atom_by b q ss us c place (Equal d l r) e k = absurd (eq_no_pred k.left k.right q ss us (sym (ap (λ (z : Lit). z.formula) k.is)))
  atom_by b q ss us c place (Atom d n) e k =
      let sign : b ≡ d = ap (λ (z : Lit). z.positive) k.is in
      let parts = pred_parts q k.predicate ss k.sorts us k.args (ap (λ (z : Lit). z.formula) k.is) in
      record {
        place = place;
        name = n;
        at = e ∙ ap (λ f. Some (Atom f n)) (sym sign);
        node = (k.of).node;
        node_at = (k.of).at;
        head = (k.of).head ∙ ap (λ p. Of (Symbol p)) (sym parts.0);
        sorts = (k.of).sorts_are ∙ sym parts.1;
        args = (k.of).args_are ∙ sym parts.2;
      }
  atom_by b q ss us c place Other e k = let a = names.atoms b q ss us c in absurd (k.no_atom b a.0 a.1)

  atom : (b : Bool) (q : ℕ) (ss : List Sort) (us : List Term) → Contains ls (record { positive = b; formula = Pred q ss us }) → IsSaidOf b q ss us
  atom b q ss us c =
      let l : Lit = record { positive = b; formula = Pred q ss us } in
      atom_by b q ss us c (are.place l c) (are.what l c) (are.at l c) (are.says l c)

  -- names of the arguments are those of the node
  named_is : (m a : ℕ) (t : Term) → slice_get ts m ≡ Some t → named ts a ≡ t → a < length ts → m ≡ a
  named_is m a t e f l =
      let g = value_at ts a l in
      let h : slice_get ts a ≡ Some t = g.1 ∙ ap (λ z. Some z) (sym (name_term ts a g.0 g.1) ∙ f) in
      one m a t e h

  names_are : (ms ks : List ℕ) (us : List Term) → AreNamesOf x.signature (system_of x) ms us → map (named ts) ks ≡ us → AllByRecursion (λ a. a < length ts) ks → ms ≡ ks
  names_are [] [] us h e l = refl
  names_are [] (a ∷ ks) [] h e l = absurd (let z : ◌≡◌ {A = List Term} (named ts a ∷ map (named ts) ks) [] = e in cc z)
  names_are [] (a ∷ ks) (u ∷ us) h e l = absurd h
  names_are (m ∷ ms) ks [] h e l = absurd h
  names_are (m ∷ ms) [] (u ∷ us) h e l = absurd (let z : ◌≡◌ {A = List Term} [] (u ∷ us) = e in cc z)
  names_are (m ∷ ms) (a ∷ ks) (u ∷ us) h e l =
      let first : named ts a ≡ u = cc e in
      let rest : map (named ts) ks ≡ us = cc e in
      let f : m ≡ a = named_is m a u h.0 first l.0 in
      let g : ms ≡ ks = names_are ms ks us h.2 rest l.1 in
      λ i. f i ∷ g i

  args_below : (name : ℕ) (p : Node) → slice_get x.nodes name ≡ Some p → AllByRecursion (λ a. a < length ts) p.args
  args_below name p at =
      let l : name < length x.nodes = slice_get_within x.nodes name p at in
      let k : length ts ≡ length x.nodes = length_terms (shapes x.nodes) ∙ length-map x.nodes shape_of in
      all_weaker (λ a. a < name) (λ a. a < length ts) (λ a j. omega (arith, j, k, l)) p.args (store.sound.places name (shape_of p) (get_map shape_of x.nodes name p at)).args

  module _ (none : AreAllMet x.signature x.nodes x.rep said) (whole : AreWhole x) where
    equal_by : (k l r : ℕ) → slice_get said k ≡ Some (Equal true l r) → Dec (x.rep l ≡ x.rep r) → x.rep l ≡ x.rep r
    equal_by k l r e (yes f) = f
    equal_by k l r e (no f) = absurd (none (unmet.LeftOut k) (record { left = l; right = r; is = e; differ = f }))

    equal : (s t : Term) (m n : ℕ) → Contains ls (is_true (Eq s t)) → IsName (system_of x) m s → IsName (system_of x) n t → x.rep m ≡ x.rep n
    equal s t m n c e f =
        let k = equation true s t c in
        ap x.rep (one m k.left s e k.left_at) ∙ equal_by k.place k.left k.right k.at (ℕ_discrete (x.rep k.left) (x.rep k.right)) ∙ ap x.rep (one k.right n t k.right_at f)

    unequal : (s t : Term) (m n : ℕ) → Contains ls (is_false (Eq s t)) → IsName (system_of x) m s → IsName (system_of x) n t → x.rep m ≡ x.rep n → ⊥
    unequal s t m n c e f same =
        let k = equation false s t c in
        let same_said : x.rep k.left ≡ x.rep k.right = ap x.rep (one k.left m s k.left_at e) ∙ same ∙ ap x.rep (one n k.right t f k.right_at) in
        none (unmet.Contradicted k.place) (record { left = k.left; right = k.right; is = k.at; same = same_said })

    constructors_by : (m n : ℕ) (h i : Head) → IsConstructor x.signature h → IsConstructor x.signature i → IsName (system_of x) m (Apply h [] []) → IsName (system_of x) n (Apply i [] []) → x.rep m ≡ x.rep n
        → Dec (h ≡ i) → h ≡ i
    constructors_by m n h i c d e f same (yes g) = g
    constructors_by m n h i c d e f same (no g) =
        absurd (none (unmet.Mixed m n) (record {
          differ = record {
            first = h;
            second = i;
            left_names = record { term = e; constructor = c };
            right_names = record { term = f; constructor = d };
            differ = g;
          };
          same = same;
        }))

    predicates : (q : ℕ) (ss : List Sort) (us vs : List Term) (ms ns : List ℕ) → Contains ls (is_true (Pred q ss us)) → Contains ls (is_false (Pred q ss vs))
        → AreNamesOf x.signature (system_of x) ms us → AreNamesOf x.signature (system_of x) ns vs → map x.rep ms ≡ map x.rep ns → ⊥
    predicates q ss us vs ms ns c d a b same =
        let k = atom true q ss us c in
        let l = atom false q ss vs d in
        let first : ms ≡ k.node.args = names_are ms k.node.args us a k.args (args_below k.name k.node k.node_at) in
        let second : ns ≡ l.node.args = names_are ns l.node.args vs b l.args (args_below l.name l.node l.node_at) in
        none (unmet.Opposed k.place l.place) (record {
          first = k.name;
          second = l.name;
          positive = k.at;
          negative = l.at;
          alike = record {
            first = k.node;
            second = l.node;
            first_at = k.node_at;
            second_at = l.node_at;
            congruent = record {
              head = Symbol q;
              first = k.head;
              second = l.head;
              sorts = k.sorts ∙ sym l.sorts;
              args = ap (map x.rep) (sym first) ∙ same ∙ ap (map x.rep) second;
            };
          };
        })

    pub are_met : AreMet x ls
    are_met = record {
      sides = names.sides;
      equal = equal;
      unequal = unequal;
      constructors = λ m n h i c d e f same. constructors_by m n h i c d e f same (Head_discrete h i);
      arguments = names.arguments;
      predicates = predicates;
      whole = whole.each;
    }
