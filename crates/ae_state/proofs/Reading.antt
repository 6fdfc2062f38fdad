-- What a literal says is the same in a larger store.
use Rattle.std.specs.Prelude.{ℕ, Bool, List, ◌≡◌, map, slice_get, Some}
use Rattle.std.specs.List.{Contains}
use Rattle.std.proofs.Common.{refl, sym, ap, ◌∙◌, subst, arith}
use Rattle.std.proofs.lemmas.Option.{slice_get-get_or}
use Rattle.ae_base.proofs.ListFacts.{get_map}
use Rattle.ae_core.specs.Sorts.{sort_of}
use Rattle.ae_core.specs.declared.terms.Sort.{Sort}
use Rattle.ae_core.specs.declared.terms.Term.{Term, Apply}
use Rattle.ae_core.specs.declared.terms.Head.TheVariants.{Symbol}
use Rattle.ae_core.specs.declared.formulas.Formula.{Formula, Eq, Pred}
use Rattle.ae_core.specs.declared.formulas.Lit.{Lit}
use Rattle.ae_journal.specs.States.{outside}
use Rattle.ae_journal.proofs.Splits.{contains_at}
use Rattle.ae_evaluation.proofs.Literals.{outside-Eq, outside-Pred}
use Rattle.ae_store.specs.declared.nodes.NodeHead.TheVariants.{Of}
use Rattle.ae_store.specs.declared.nodes.Node.{Node}
use Rattle.ae_store.specs.Shapes.{shapes, shape_of}
use Rattle.ae_store.proofs.TermLaws.{term_at}
use Rattle.ae_store.specs.Stores.{Stored, IsStore}
use Rattle.ae_store.specs.Terms.{named, term_of, Keeps}
use Rattle.ae_settled.proofs.Nodes.{application}
use Rattle.ae_theory.specs.Names.{AreNamed, terms_in}
use Rattle.ae_theory.specs.Classes.{IsEquation}
use Rattle.ae_literals.specs.declared.said.Said.{Said}
use Rattle.ae_literals.specs.declared.said.Said.TheVariants.{Equal, Atom, Other}
use Rattle.ae_literals.specs.Said.{IsAtomOf, IsAtom, IsOther, Says}

-- what is in a list stands at a place
contained_at : (us : List Term) (u : Term) → Contains us u → (n : ℕ) × (slice_get us n ≡ Some u)
contained_at us u (k, l, e) = (k, slice_get-get_or us k _ l ∙ ap Some e)

-- what has names has them in a larger store
pub names_more : (s t : Stored) → Keeps (terms_in s) (terms_in t) → (f : Formula) → AreNamed s f → AreNamed t f
names_more s t keeps f names u c = let a = contained_at (terms_in s) u (names u c) in contains_at (terms_in t) a.0 u (keeps a.0 u a.1)

-- the term of a node by its head
node_term : (ts : List Term) (p : Node) (q : ℕ) (ss : List Sort) (us : List Term) → p.head ≡ Of (Symbol q) → p.sorts ≡ ss → map (named ts) p.args ≡ us → term_of ts (shape_of p) ≡ Apply (Symbol q) ss us
node_term ts p q ss us e f g = cc (e, f, g)

-- the node of a predicate's application has its term, and the other way round
module _ (s : Stored) (store : IsStore s.signature s.nodes) (n q : ℕ) (ss : List Sort) (us : List Term) where
  pub atom_from : slice_get (terms_in s) n ≡ Some (Apply (Symbol q) ss us) → IsAtomOf s n q ss us
  atom_from e =
      let a = application s.signature s.nodes store n (Symbol q) ss us e in
      record { node = a.node; at = a.at; head = (a.shape).heads; sorts_are = (a.shape).sorts; args_are = (a.shape).args }

  pub atom_term : IsAtomOf s n q ss us → slice_get (terms_in s) n ≡ Some (Apply (Symbol q) ss us)
  atom_term a = term_at s.signature (shapes s.nodes) (store.sound) n (shape_of a.node) (get_map shape_of s.nodes n a.node a.at) ∙ ap Some (node_term (terms_in s) a.node q ss us a.head a.sorts_are a.args_are)

module _ (s t : Stored) (store : IsStore s.signature s.nodes) (more : IsStore t.signature t.nodes) (signature : t.signature ≡ s.signature) (keeps : Keeps (terms_in s) (terms_in t)) (x : Lit) where
  equation_more : (b : Bool) (l r : ℕ) → IsEquation s b x l r → IsEquation t b x l r
  equation_more b l r e =
      record {
        left = e.left;
        right = e.right;
        sort = e.sort;
        is = e.is;
        left_at = keeps l e.left e.left_at;
        right_at = keeps r e.right e.right_at;
        left_sorted = ap (λ sig. sort_of sig e.left) signature ∙ e.left_sorted;
        right_sorted = ap (λ sig. sort_of sig e.right) signature ∙ e.right_sorted;
      }

  atom_more : (b : Bool) (n : ℕ) → IsAtom s b x n → IsAtom t b x n
  atom_more b n a =
      record {
        predicate = a.predicate;
        sorts = a.sorts;
        args = a.args;
        is = a.is;
        of = atom_from t more n a.predicate a.sorts a.args (keeps n _ (atom_term s store n a.predicate a.sorts a.args a.of));
      }

  -- what has a name in the larger store had one
  module _ (names : AreNamed s x.formula) where
    name_before : (f : Formula) (u : Term) → x.formula ≡ f → Contains (outside f) u → (n : ℕ) × (slice_get (terms_in s) n ≡ Some u)
    name_before f u e c = contained_at (terms_in s) u (names u (subst (λ (g : Formula). Contains (outside g) u) (sym e) c))

    no_equation : IsOther s x → (b : Bool) (l r : ℕ) → ¬ IsEquation t b x l r
    no_equation o b l r e =
        let is : x.formula ≡ Eq e.left e.right = ap (λ (z : Lit). z.formula) e.is in
        let first = name_before (Eq e.left e.right) e.left is (subst (λ (us : List Term). Contains us e.left) (sym (outside-Eq e.left e.right)) (0, omega arith, refl)) in
        let second = name_before (Eq e.left e.right) e.right is (subst (λ (us : List Term). Contains us e.right) (sym (outside-Eq e.left e.right)) (1, omega arith, refl)) in
        o.no_equation b first.0 second.0
        (record {
          left = e.left;
          right = e.right;
          sort = e.sort;
          is = e.is;
          left_at = first.1;
          right_at = second.1;
          left_sorted = ap (λ sig. sort_of sig e.left) (sym signature) ∙ e.left_sorted;
          right_sorted = ap (λ sig. sort_of sig e.right) (sym signature) ∙ e.right_sorted;
        })

    no_atom : IsOther s x → (b : Bool) (n : ℕ) → ¬ IsAtom t b x n
    no_atom o b n a =
        let u : Term = Apply (Symbol a.predicate) a.sorts a.args in
        let is : x.formula ≡ Pred a.predicate a.sorts a.args = ap (λ (z : Lit). z.formula) a.is in
        let name = name_before (Pred a.predicate a.sorts a.args) u is (subst (λ (us : List Term). Contains us u) (sym (outside-Pred a.predicate a.sorts a.args)) (0, omega arith, refl)) in
        o.no_atom b name.0 (record { predicate = a.predicate; sorts = a.sorts; args = a.args; is = a.is; of = atom_from s store name.0 a.predicate a.sorts a.args name.1 })

    pub says_more : (d : Said) → Says s x d → Says t x d
    says_more (Equal b l r) e = equation_more b l r e
    says_more (Atom b n) a = atom_more b n a
    says_more Other o = record { no_equation = no_equation o; no_atom = no_atom o }
