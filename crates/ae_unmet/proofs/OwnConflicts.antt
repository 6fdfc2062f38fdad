-- What isn't met, by the literals and the names that it is about, and the conflicts that it is.
use Rattle.std.specs.Prelude.{ℕ, ◌<◌, Bool, true, false, List, [], ◌≡◌, map, length, slice_get, Some}
use Rattle.std.specs.List.{AllByRecursion}
use Rattle.std.proofs.Common.{refl, sym, ap, ◌∙◌, subst, arith}
use Rattle.std.proofs.lemmas.Option.{same_Some, slice_get_within}
use Rattle.ae_core.specs.Sorts.{sort_of, formula_ok}
use Rattle.ae_core.specs.declared.formulas.Formula.{Pred}
use Rattle.ae_core.specs.declared.formulas.Lit.{Lit}
use Rattle.ae_core.specs.declared.terms.Head.{Head}
use Rattle.ae_core.specs.declared.terms.Head.TheVariants.{Symbol}
use Rattle.ae_core.specs.declared.terms.Sort.{Sort}
use Rattle.ae_core.specs.declared.terms.Term.{Term, Apply}
use Rattle.ae_pmap.specs.Forest.{present}
use Rattle.ae_pmap.specs.Pairs.{found}
use Rattle.ae_store.specs.declared.nodes.Node.{Node}
use Rattle.ae_store.specs.declared.nodes.NodeHead.{NodeHead}
use Rattle.ae_store.specs.declared.nodes.NodeHead.TheVariants.{Of}
use Rattle.ae_store.specs.Stores.{Stored}
use Rattle.ae_store.specs.Terms.{named}
use Rattle.ae_store.proofs.StoreLaws.{name_term}
use Rattle.ae_just.specs.declared.steps.Step.{Step}
use Rattle.ae_theory.specs.Names.{terms_in}
use Rattle.ae_theory.specs.Classes.{IsEquation}
use Rattle.ae_value_table.specs.Alike.{alike}
use Rattle.ae_conflicts.specs.declared.assumed.Assumed.{Assumed}
use Rattle.ae_conflicts.specs.Saying.{SaysEqual, SayEqual}
use Rattle.ae_conflicts.specs.Conflicting.{IsDenied, AreOpposed, AreMixed}
use Rattle.ae_literals.specs.declared.said.Said.{Said}
use Rattle.ae_literals.specs.declared.said.Said.TheVariants.{Equal, Atom}
use Rattle.ae_literals.specs.declared.unmet.Unmet.TheVariants.{LeftOut, Contradicted, Opposed, Mixed}
use Rattle.ae_literals.specs.Said.{IsAtom}
use Rattle.ae_state.specs.declared.holding.Holding.{Holding}
use Rattle.ae_turns.specs.Representing.{IsTaken}
use Rattle.ae_unmet.specs.Inner.Found.{IsFound, HaveOneValue, HaveOneValueEach}
use Rattle.ae_unmet.proofs.TakenNames.{terms_long, closed_now}
use Rattle.ae_unmet.proofs.OneValue.{apart_of}
use Rattle.ae_unmet.proofs.SaidPlaces.{IsSaidAt, said_there}
use Rattle.ae_unmet.proofs.SortedTerms.{IsSorted, arguments_sorted, predicate_again, constructor_sorted}
use Rattle.ae_unmet.proofs.AtomArguments.{IsSortedName, atom_term, args_within, names_sorted, one_value, one_value_each}

-- ---- equations
-- the literal at the place is the equation of these names, or its negation
module _ (s : Stored) (o : Holding) (t : IsTaken o s) where
  -- a side of an equation
  side_sorted : (n : ℕ) (u : Term) (sort : Sort) → slice_get (terms_in s) n ≡ Some u → sort_of s.signature u ≡ Some sort → IsSortedName s n
  side_sorted n u sort at is =
      let l : n < length (terms_in s) = slice_get_within (terms_in s) n u at in
      record { below = omega (arith, l, terms_long o s t); sorted = (sort, ap (sort_of s.signature) (name_term (terms_in s) n u at) ∙ is) }

  left_name : (b : Bool) (x : Lit) (l r : ℕ) → IsEquation s b x l r → IsSortedName s l
  left_name b x l r e = side_sorted l e.left e.sort e.left_at e.left_sorted

  right_name : (b : Bool) (x : Lit) (l r : ℕ) → IsEquation s b x l r → IsSortedName s r
  right_name b x l r e = side_sorted r e.right e.sort e.right_at e.right_sorted

  -- ---- an equation that is left out
  pub record IsLeftOutAt (place l r : ℕ) : Type 0 where
    pub said : IsSaidAt s o place (Equal true l r)
    pub left : IsSortedName s l
    pub right : IsSortedName s r
    pub apart : alike o.values l r ≡ false

  module _ (place : ℕ) (u : IsFound s o (LeftOut place)) where
    pub left_out_there : IsLeftOutAt place (u.is).left (u.is).right
    left_out_there =
        let l = (u.is).left in
        let r = (u.is).right in
        let w = said_there s o t u.said u.are place (Equal true l r) (u.is).is in
        let a = left_name true (w.entry).lit l r w.says in
        let b = right_name true (w.entry).lit l r w.says in
        record { said = w; left = a; right = b; apart = apart_of o s t u.reps u.representatives l r a.below b.below (u.is).differ }

    -- what was read is that
    pub left_out_read : (b : Bool) (l r : ℕ) → ((y : Said) → found (present o.said) place ≡ Some y → Equal b l r ≡ y) → IsLeftOutAt place l r
    left_out_read b l r h =
        let w = left_out_there in
        let e : Equal b l r ≡ Equal true (u.is).left (u.is).right = h (Equal true (u.is).left (u.is).right) (w.said).there in
        let f : l ≡ (u.is).left = cc e in
        let g : r ≡ (u.is).right = cc e in
        subst (λ (x : ℕ × ℕ). IsLeftOutAt place x.0 x.1) (λ i. (sym f i, sym g i)) w

    pub left_out_at : (l r : ℕ) → found (present o.said) place ≡ Some (Equal true l r) → IsLeftOutAt place l r
    left_out_at l r e = left_out_read true l r (λ y h. same_Some (Equal true l r) y (sym e ∙ h))

  pub one_sort : (place l r : ℕ) → IsLeftOutAt place l r
      → (sort : Sort) × (sort_of s.signature (named (terms_in s) l) ≡ Some sort) × (sort_of s.signature (named (terms_in s) r) ≡ Some sort)
  one_sort place l r w =
      let e = (w.said).says in (
        e.sort,
        ap (sort_of s.signature) (name_term (terms_in s) l e.left e.left_at) ∙ e.left_sorted,
        ap (sort_of s.signature) (name_term (terms_in s) r e.right e.right_at) ∙ e.right_sorted,
      )

  -- ---- an equation that is contradicted
  pub record IsContradictedAt (place l r : ℕ) : Type 0 where
    pub said : IsSaidAt s o place (Equal false l r)
    pub value : HaveOneValue s o l r

  module _ (place : ℕ) (u : IsFound s o (Contradicted place)) where
    pub contradicted_there : IsContradictedAt place (u.is).left (u.is).right
    contradicted_there =
        let l = (u.is).left in
        let r = (u.is).right in
        let w = said_there s o t u.said u.are place (Equal false l r) (u.is).is in
        let a = left_name false (w.entry).lit l r w.says in
        let b = right_name false (w.entry).lit l r w.says in
        record { said = w; value = one_value o s t u.reps u.representatives l r a b (u.is).same }

    pub contradicted_read : (b : Bool) (l r : ℕ) → ((y : Said) → found (present o.said) place ≡ Some y → Equal b l r ≡ y) → IsContradictedAt place l r
    contradicted_read b l r h =
        let w = contradicted_there in
        let e : Equal b l r ≡ Equal false (u.is).left (u.is).right = h (Equal false (u.is).left (u.is).right) (w.said).there in
        let f : l ≡ (u.is).left = cc e in
        let g : r ≡ (u.is).right = cc e in
        subst (λ (x : ℕ × ℕ). IsContradictedAt place x.0 x.1) (λ i. (sym f i, sym g i)) w

  pub denied : (place l r : ℕ) → IsContradictedAt place l r → (steps : List Step) (id : ℕ) → SaysEqual (terms_in s) steps (present o.assumed) id (named (terms_in s) l) (named (terms_in s) r)
      → IsDenied (terms_in s) steps (present o.assumed) place id
  denied place l r w steps id h =
      let e = (w.said).says in
      record {
        left = e.left;
        right = e.right;
        tag = ((w.said).entry).tag;
        denied = record { entry = (w.said).entry; at = (w.said).at; lit_is = e.is; tag_is = refl };
        says =
            subst (λ (x : Term × Term). SaysEqual (terms_in s) steps (present o.assumed) id x.0 x.1)
            (λ i. (name_term (terms_in s) l e.left e.left_at i, name_term (terms_in s) r e.right e.right_at i)) h;
      }

  -- ---- constructors
  module _ (m n : ℕ) (u : IsFound s o (Mixed m n)) where
    constructor_name : (k : ℕ) (h : Head) → slice_get (terms_in s) k ≡ Some (Apply h [] []) → IsSorted s.signature (Apply h [] []) → IsSortedName s k
    constructor_name k h at sorted = side_sorted k (Apply h [] []) sorted.0 at sorted.1

    pub mixed_value : HaveOneValue s o m n
    mixed_value =
        let d = (u.is).differ in
        let law = (t.store).lawful in
        let closed = closed_now o s t in
        let a = constructor_sorted s.signature (terms_in s) closed law m d.first (d.left_names).term (d.left_names).constructor in
        let b = constructor_sorted s.signature (terms_in s) closed law n d.second (d.right_names).term (d.right_names).constructor in
        one_value o s t u.reps u.representatives m n (constructor_name m d.first (d.left_names).term a) (constructor_name n d.second (d.right_names).term b) (u.is).same

    pub mixed_now : (steps : List Step) (id : ℕ) → SaysEqual (terms_in s) steps (present o.assumed) id (named (terms_in s) m) (named (terms_in s) n) → AreMixed s.signature (terms_in s) steps (present o.assumed) id
    mixed_now steps id h =
        let d = (u.is).differ in
        record {
          first = d.first;
          second = d.second;
          first_is = (d.left_names).constructor;
          second_is = (d.right_names).constructor;
          differ = d.differ;
          says =
              subst (λ (x : Term × Term). SaysEqual (terms_in s) steps (present o.assumed) id x.0 x.1)
              (λ i. (name_term (terms_in s) m (Apply d.first [] []) (d.left_names).term i, name_term (terms_in s) n (Apply d.second [] []) (d.right_names).term i)) h;
        }

  -- ---- atoms
  of_same : (h : Head) (q k : ℕ) (a b : NodeHead) → a ≡ Of h → b ≡ Of h → a ≡ Of (Symbol q) → b ≡ Of (Symbol k) → k ≡ q
  of_same h q k a b e f g i =
      let x : ◌≡◌ {A = NodeHead} (Of (Symbol k)) (Of (Symbol q)) = sym i ∙ f ∙ sym e ∙ g in
      cc x

  node_same : (n : ℕ) (p q : Node) → slice_get s.nodes n ≡ Some p → slice_get s.nodes n ≡ Some q → p ≡ q
  node_same n p q e f = same_Some p q (sym e ∙ f)

  module _ (i j : ℕ) (u : IsFound s o (Opposed i j)) where
    pub yes_there : IsSaidAt s o i (Atom true (u.is).first)
    yes_there = said_there s o t u.said u.are i (Atom true (u.is).first) (u.is).positive

    pub no_there : IsSaidAt s o j (Atom false (u.is).second)
    no_there = said_there s o t u.said u.are j (Atom false (u.is).second) (u.is).negative

    module _ (ok : (a : Assumed) → found (present o.assumed) i ≡ Some a → formula_ok o.signature (a.lit).formula ≡ true) where
      yes_atom : IsAtom s true (yes_there.entry).lit (u.is).first
      yes_atom = yes_there.says

      no_atom : IsAtom s false (no_there.entry).lit (u.is).second
      no_atom = no_there.says

      yes_sorted : formula_ok s.signature (Pred yes_atom.predicate yes_atom.sorts yes_atom.args) ≡ true
      yes_sorted =
          (λ k. formula_ok (((t.fits).terms).signature k) (sym (ap (λ (z : Lit). z.formula) yes_atom.is) k)) ∙ ok yes_there.entry yes_there.at

      -- both apply one predicate at the same sorts
      first_is : (yes_atom.of).node ≡ ((u.is).alike).first
      first_is = node_same (u.is).first (yes_atom.of).node ((u.is).alike).first (yes_atom.of).at ((u.is).alike).first_at

      second_is : (no_atom.of).node ≡ ((u.is).alike).second
      second_is = node_same (u.is).second (no_atom.of).node ((u.is).alike).second (no_atom.of).at ((u.is).alike).second_at

      predicate_is : no_atom.predicate ≡ yes_atom.predicate
      predicate_is =
          let c = ((u.is).alike).congruent in
          of_same c.head yes_atom.predicate no_atom.predicate (((u.is).alike).first).head (((u.is).alike).second).head c.first c.second
          (ap (λ (p : Node). p.head) (sym first_is) ∙ (yes_atom.of).head) (ap (λ (p : Node). p.head) (sym second_is) ∙ (no_atom.of).head)

      sorts_are : no_atom.sorts ≡ yes_atom.sorts
      sorts_are =
          sym (no_atom.of).sorts_are ∙ ap (λ (p : Node). p.sorts) second_is ∙ sym (((u.is).alike).congruent).sorts ∙ ap (λ (p : Node). p.sorts) (sym first_is) ∙ (yes_atom.of).sorts_are

      no_sorted : formula_ok s.signature (Pred yes_atom.predicate yes_atom.sorts no_atom.args) ≡ true
      no_sorted =
          predicate_again s.signature (terms_in s) (closed_now o s t) yes_atom.predicate yes_atom.sorts yes_atom.args no_atom.args yes_sorted (u.is).second
          (atom_term s t.store (u.is).second no_atom.predicate no_atom.sorts no_atom.args no_atom.of ∙ (λ k. Some (Apply (Symbol (predicate_is k)) (sorts_are k) no_atom.args)))

      first_names : AllByRecursion (IsSortedName s) (((u.is).alike).first).args
      first_names =
          names_sorted s (((u.is).alike).first).args yes_atom.args (ap (λ (p : Node). map (named (terms_in s)) p.args) (sym first_is) ∙ (yes_atom.of).args_are)
          (arguments_sorted s.signature yes_atom.predicate yes_atom.sorts yes_atom.args yes_sorted) (args_within s t.store (u.is).first ((u.is).alike).first ((u.is).alike).first_at)

      second_names : AllByRecursion (IsSortedName s) (((u.is).alike).second).args
      second_names =
          names_sorted s (((u.is).alike).second).args no_atom.args (ap (λ (p : Node). map (named (terms_in s)) p.args) (sym second_is) ∙ (no_atom.of).args_are)
          (arguments_sorted s.signature yes_atom.predicate yes_atom.sorts no_atom.args no_sorted) (args_within s t.store (u.is).second ((u.is).alike).second ((u.is).alike).second_at)

      -- of nodes that were read
      module _ (p q : Node) (p_at : slice_get s.nodes (u.is).first ≡ Some p) (q_at : slice_get s.nodes (u.is).second ≡ Some q) where
        pub opposed_values : HaveOneValueEach s o p.args q.args
        opposed_values =
            subst (λ (x : Node × Node). HaveOneValueEach s o (x.0).args (x.1).args)
            (λ k. (node_same (u.is).first ((u.is).alike).first p ((u.is).alike).first_at p_at k, node_same (u.is).second ((u.is).alike).second q ((u.is).alike).second_at q_at k))
            (one_value_each o s t u.reps u.representatives (((u.is).alike).first).args (((u.is).alike).second).args (((u.is).alike).congruent).args first_names second_names)

        p_args : map (named (terms_in s)) p.args ≡ yes_atom.args
        p_args = ap (λ (x : Node). map (named (terms_in s)) x.args) (node_same (u.is).first p (yes_atom.of).node p_at (yes_atom.of).at) ∙ (yes_atom.of).args_are

        q_args : map (named (terms_in s)) q.args ≡ no_atom.args
        q_args = ap (λ (x : Node). map (named (terms_in s)) x.args) (node_same (u.is).second q (no_atom.of).node q_at (no_atom.of).at) ∙ (no_atom.of).args_are

        pub opposed_now : (steps : List Step) (ids : List ℕ) → SayEqual (terms_in s) steps (present o.assumed) ids (map (named (terms_in s)) p.args) (map (named (terms_in s)) q.args)
            → AreOpposed s.signature (terms_in s) steps (present o.assumed) i j ids
        opposed_now steps ids h =
            record {
              predicate = yes_atom.predicate;
              sorts = yes_atom.sorts;
              args = yes_atom.args;
              others = no_atom.args;
              tag = (yes_there.entry).tag;
              other_tag = (no_there.entry).tag;
              holds = record { entry = yes_there.entry; at = yes_there.at; lit_is = yes_atom.is; tag_is = refl };
              fails = record { entry = no_there.entry; at = no_there.at; lit_is = no_atom.is ∙ (λ k. record { positive = false; formula = Pred (predicate_is k) (sorts_are k) no_atom.args }); tag_is = refl };
              sorted = yes_sorted;
              others_sorted = no_sorted;
              say = subst (λ (x : List Term × List Term). SayEqual (terms_in s) steps (present o.assumed) ids x.0 x.1) (λ k. (p_args k, q_args k)) h;
            }
