-- The arguments of atoms, by their names.
use Rattle.std.specs.Prelude.{ℕ, ◌<◌, List, [], ◌∷◌, ◌≡◌, map, length, slice_get, Some}
use Rattle.std.specs.List.{AllByRecursion}
use Rattle.std.proofs.Common.{sym, ap, ◌∙◌, subst, arith}
use Rattle.std.proofs.lemmas.Option.{slice_get_within}
use Rattle.ae_base.specs.Options.{known}
use Rattle.ae_base.proofs.AllOf.{all_weaker}
use Rattle.ae_base.proofs.ListFacts.{get_map}
use Rattle.ae_core.specs.declared.terms.Head.TheVariants.{Symbol}
use Rattle.ae_core.specs.declared.terms.Sort.{Sort}
use Rattle.ae_core.specs.declared.terms.Term.{Term, Apply}
use Rattle.ae_journal.specs.declared.systems.System.{System}
use Rattle.ae_store.specs.declared.nodes.Node.{Node}
use Rattle.ae_store.specs.declared.nodes.NodeHead.TheVariants.{Of}
use Rattle.ae_store.specs.Shapes.{shapes, shape_of}
use Rattle.ae_store.specs.Stores.{Stored, IsStore}
use Rattle.ae_store.specs.Terms.{named, term_of}
use Rattle.ae_store.proofs.TermLaws.{term_at}
use Rattle.ae_settled.specs.Met.{AreNamesOf}
use Rattle.ae_settled.proofs.Nodes.{named_at}
use Rattle.ae_sweeps.specs.Given.{rep_in}
use Rattle.ae_theory.specs.Names.{terms_in}
use Rattle.ae_literals.specs.Said.{IsAtomOf}
use Rattle.ae_state.specs.declared.holding.Holding.{Holding}
use Rattle.ae_turns.specs.Representing.{IsTaken, AreRepresentatives}
use Rattle.ae_unmet.specs.Inner.Found.{HaveOneValue, HaveOneValueEach}
use Rattle.ae_unmet.proofs.OneValue.{alike_of}
use Rattle.ae_unmet.proofs.SortedTerms.{IsSorted}

-- ---- the term of an atom
node_term : (ts : List Term) (p : Node) (q : ℕ) (ss : List Sort) (us : List Term) → p.head ≡ Of (Symbol q) → p.sorts ≡ ss → map (named ts) p.args ≡ us → term_of ts (shape_of p) ≡ Apply (Symbol q) ss us
node_term ts p q ss us e f g = cc (e, f, g)

module _ (s : Stored) (store : IsStore s.signature s.nodes) where
  pub atom_term : (n q : ℕ) (ss : List Sort) (us : List Term) → IsAtomOf s n q ss us → slice_get (terms_in s) n ≡ Some (Apply (Symbol q) ss us)
  atom_term n q ss us a =
      term_at s.signature (shapes s.nodes) store.sound n (shape_of a.node) (get_map shape_of s.nodes n a.node a.at) ∙ ap Some (node_term (terms_in s) a.node q ss us a.head a.sorts_are a.args_are)

  pub args_within : (n : ℕ) (p : Node) → slice_get s.nodes n ≡ Some p → AllByRecursion (λ a. a < length s.nodes) p.args
  args_within n p at =
      let l : n < length s.nodes = slice_get_within s.nodes n p at in
      all_weaker (λ a. a < n) (λ a. a < length s.nodes) (λ a j. omega (arith, j, l)) p.args (((store.sound).places n (shape_of p) (get_map shape_of s.nodes n p at)).args)

-- ---- names of well-sorted terms
pub record IsSortedName (s : Stored) (n : ℕ) : Type 0 where
  pub below : n < length s.nodes
  pub sorted : IsSorted s.signature (named (terms_in s) n)

cons_no_nil : {A : Type 0} (x : A) (xs : List A) → x ∷ xs ≡ [] → ⊥
cons_no_nil x xs e = cc e

nil_no_cons : {A : Type 0} (x : A) (xs : List A) → [] ≡ x ∷ xs → ⊥
nil_no_cons x xs e = cc e

pub names_sorted : (s : Stored) (ns : List ℕ) (us : List Term) → map (named (terms_in s)) ns ≡ us → AllByRecursion (IsSorted s.signature) us → AllByRecursion (λ a. a < length s.nodes) ns → AllByRecursion (IsSortedName s) ns
names_sorted s [] us e a l = tt
names_sorted s (n ∷ ns) [] e a l = absurd (cons_no_nil (named (terms_in s) n) (map (named (terms_in s)) ns) e)
names_sorted s (n ∷ ns) (u ∷ us) e a l =
    let first : named (terms_in s) n ≡ u = cc e in
    let rest : map (named (terms_in s)) ns ≡ us = cc e in
    (record { below = l.0; sorted = subst (IsSorted s.signature) (sym first) a.0 }, names_sorted s ns us rest a.1 l.1)

-- names with these representatives have one value each
module _ (o : Holding) (s : Stored) (t : IsTaken o s) (reps : List ℕ) (r : AreRepresentatives o reps) where
  pub one_value : (m n : ℕ) → IsSortedName s m → IsSortedName s n → rep_in reps m ≡ rep_in reps n → HaveOneValue s o m n
  one_value m n a b e =
      record { left_sorted = ap known (a.sorted).1; right_sorted = ap known (b.sorted).1; alike_are = alike_of o s t reps r m n a.below b.below e }

  pub one_value_each : (ms ns : List ℕ) → map (rep_in reps) ms ≡ map (rep_in reps) ns → AllByRecursion (IsSortedName s) ms → AllByRecursion (IsSortedName s) ns → HaveOneValueEach s o ms ns
  one_value_each [] [] e a b = tt
  one_value_each [] (n ∷ ns) e a b = absurd (nil_no_cons (rep_in reps n) (map (rep_in reps) ns) e)
  one_value_each (m ∷ ms) [] e a b = absurd (cons_no_nil (rep_in reps m) (map (rep_in reps) ms) e)
  one_value_each (m ∷ ms) (n ∷ ns) e a b =
      let first : rep_in reps m ≡ rep_in reps n = cc e in
      let rest : map (rep_in reps) ms ≡ map (rep_in reps) ns = cc e in
      (one_value m n a.0 b.0 first, one_value_each ms ns rest a.1 b.1)

-- the names of the arguments of a literal
pub names_of : (s : Stored) (y : System) → y.names ≡ terms_in s → (ns : List ℕ) (us : List Term) → map (named (terms_in s)) ns ≡ us → AllByRecursion (IsSorted s.signature) us → AllByRecursion (λ a. a < length (terms_in s)) ns
    → AreNamesOf s.signature y ns us
names_of s y names [] [] e a l = tt
names_of s y names [] (u ∷ us) e a l = absurd (nil_no_cons u us e)
names_of s y names (n ∷ ns) [] e a l = absurd (cons_no_nil (named (terms_in s) n) (map (named (terms_in s)) ns) e)
names_of s y names (n ∷ ns) (u ∷ us) e a l =
    let first : named (terms_in s) n ≡ u = cc e in
    let rest : map (named (terms_in s)) ns ≡ us = cc e in
    (ap (λ ts. slice_get ts n) names ∙ named_at (terms_in s) n l.0 ∙ ap Some first, a.0, names_of s y names ns us rest a.1 l.1)
