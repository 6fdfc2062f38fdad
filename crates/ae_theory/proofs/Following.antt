-- What stands for a name follows from the equations, and is of its sort.
use Rattle.std.proofs.Common.{◌≡◌, ℕ, Bool, true, false, cond, nat_eq, List, [], ◌∷◌, slice_get, Some, ◌∙◌, ap, subst, sym, refl, arith, inl, inr}
use Rattle.std.proofs.lemmas.Bool.{eqb-true}
use Rattle.std.proofs.lemmas.Option.{same_Some}
use Rattle.std.proofs.lemmas.List.Elements.{Contains-append_left, Contains-append_right}
use Rattle.std.specs.List.{Contains, fold}
use Rattle.ae_core.specs.Sorts.{sort_of}
use Rattle.ae_core.specs.Decided.{Sort_discrete}
use Rattle.ae_base.proofs.Decided.{decided_of}
use Rattle.ae_core.specs.declared.terms.Sort.{Sort, Bool as BoolSort}
use Rattle.ae_core.specs.declared.terms.Term.{Term}
use Rattle.ae_core.specs.declared.formulas.Lit.{Lit}
use Rattle.ae_core.specs.declared.problems.Signature.{Signature}
use Rattle.ae_rules.specs.Lines.{equal, fact_ok, Follows, by_hyp, by_refl, by_sym, by_trans}
use Rattle.ae_store.specs.Stores.{Stored}
use Rattle.ae_store.specs.Terms.{IsOfSort}
use Rattle.ae_theory.specs.Names.{terms_in}
use Rattle.ae_theory.specs.Classes.{IsEdgeOf, IsEquation, class_of, merged, merged_by}
use Rattle.ae_theory.specs.declared.nodes.Node.{Node}
use Rattle.ae_theory.specs.declared.nodes.Edge.{Edge}
use Rattle.ae_theory.specs.declared.nodes.Edge.TheVariants.{Same, Apart, Other}

-- terms of one sort may be equated
pub sorted_pair : (sig : Signature) (s t : Term) (sort : Sort) → sort_of sig s ≡ Some sort → sort_of sig t ≡ Some sort → fact_ok sig (equal s t) ≡ true
sorted_pair sig s t sort p q = rw (p, q) (decided_of (Sort_discrete sort sort) refl)

module _ (s : Stored) (H : Lit → Type 0) where
  -- the name m stands for n: its term is of the sort of n's, and follows to be equal to it
  pub record Reaches (t : Term) (m : ℕ) : Type 0 where
    pub end : Term
    pub at : slice_get (terms_in s) m ≡ Some end
    pub sorts : sort_of s.signature t ≡ sort_of s.signature end
    pub follows : (sort : Sort) → sort_of s.signature t ≡ Some sort → Follows s.signature (fact_ok s.signature) H (equal t end)

  abbrev pub AllReach : (ℕ → ℕ) → Type 0
  AllReach rep = (n : ℕ) (t : Term) → slice_get (terms_in s) n ≡ Some t → Reaches t (rep n)

  pub reach_itself : AllReach (λ n. n)
  reach_itself n t e = record { end = t; at = e; sorts = refl; follows = λ sort p. by_refl (sorted_pair s.signature t t sort p p) }

  abbrev EdgeIn : Lit → Edge → Type 0
  EdgeIn l (Same a b) = H l
  EdgeIn l (Apart a b) = Unit {0}
  EdgeIn l Other = Unit {0}

  -- over an equation
  over : (rep : ℕ → ℕ) → AllReach rep → (x : Lit) (l r : ℕ) → IsEquation s true x l r → H x → (n : ℕ) (t : Term) → slice_get (terms_in s) n ≡ Some t → rep n ≡ rep r → Reaches t (rep l)
  over rep all x l r e h n t p same =
      let a = all n t p in
      let b = all r e.right e.right_at in
      let c = all l e.left e.left_at in
      let met : a.end ≡ b.end = same_Some _ _ (sym a.at ∙ (ap (slice_get (terms_in s)) same ∙ b.at)) in
      let ta : (sort : Sort) → sort_of s.signature t ≡ Some sort → sort_of s.signature a.end ≡ Some sort = λ sort q. sym a.sorts ∙ q in
      let end_is : sort_of s.signature a.end ≡ Some e.sort = ap (sort_of s.signature) met ∙ (sym b.sorts ∙ e.right_sorted) in
      let t_is : sort_of s.signature t ≡ Some e.sort = a.sorts ∙ end_is in
      let c_is : sort_of s.signature c.end ≡ Some e.sort = sym c.sorts ∙ e.left_sorted in
      let hyp : Follows s.signature (fact_ok s.signature) H (equal e.left e.right) = by_hyp (subst H e.is h) (sorted_pair s.signature e.left e.right e.sort e.left_sorted e.right_sorted) in
      let turned : Follows s.signature (fact_ok s.signature) H (equal e.right e.left) = by_sym hyp (sorted_pair s.signature e.right e.left e.sort e.right_sorted e.left_sorted) in
      let back : Follows s.signature (fact_ok s.signature) H (equal a.end e.right) =
      by_sym (subst (λ w. Follows s.signature (fact_ok s.signature) H (equal e.right w)) (sym met) (b.follows e.sort e.right_sorted)) (sorted_pair s.signature a.end e.right e.sort end_is e.right_sorted) in
      let one : Follows s.signature (fact_ok s.signature) H (equal t e.right) = by_trans (a.follows e.sort t_is) back (sorted_pair s.signature t e.right e.sort t_is e.right_sorted) in
      let two : Follows s.signature (fact_ok s.signature) H (equal t e.left) = by_trans one turned (sorted_pair s.signature t e.left e.sort t_is e.left_sorted) in
      record {
        end = c.end;
        at = c.at;
        sorts = t_is ∙ sym c_is;
        follows = λ sort q. by_trans two (c.follows e.sort e.left_sorted) (sorted_pair s.signature t c.end e.sort t_is c_is);
      }

  by_case : (rep : ℕ → ℕ) (l r n : ℕ) (t : Term) (b : Bool) → nat_eq (rep n) (rep r) ≡ b → Reaches t (rep n) → (rep n ≡ rep r → Reaches t (rep l)) → Reaches t (cond b (rep l) (rep n))
  by_case rep l r n t true e old new = new (eqb-true (rep n) (rep r) e)
  by_case rep l r n t false e old new = old

  reach_merged : (rep : ℕ → ℕ) → AllReach rep → (x : Lit) (e : Edge) → IsEdgeOf s x e → EdgeIn x e → AllReach (merged_by rep e)
  reach_merged rep all x (Same l r) e h n t p = by_case rep l r n t (nat_eq (rep n) (rep r)) refl (all n t p) (over rep all x l r e h n t p)
  reach_merged rep all x (Apart l r) e h n t p = all n t p
  reach_merged rep all x Other e h n t p = all n t p

  -- each node of the list has a right edge, and its literal is given where it is an equation
  pub record AreHeld (xs : List Node) : Type 0 where
    pub fit : (x : Node) → Contains xs x → IsEdgeOf s x.lit x.edge
    pub given : (x : Node) (l r : ℕ) → Contains xs x → x.edge ≡ Same l r → H x.lit

  edge_in : (l : Lit) (e : Edge) → ((a b : ℕ) → e ≡ Same a b → H l) → EdgeIn l e
  edge_in l (Same a b) h = h a b refl
  edge_in l (Apart a b) h = tt
  edge_in l Other h = tt

  reach_from : (rep : ℕ → ℕ) (xs : List Node) → AllReach rep → AreHeld xs → AllReach (fold merged rep xs)
  reach_from rep [] all held = all
  reach_from rep (x ∷ xs) all held =
      let here : Contains (x ∷ xs) x = Contains-append_left (x ∷ []) xs x (0, omega arith, refl) in
      reach_from (merged rep x) xs (reach_merged rep all x.lit x.edge (held.fit x here) (edge_in x.lit x.edge (λ a b e. held.given x a b here e)))
      (record { fit = λ y c. held.fit y (Contains-append_right (x ∷ []) xs y c); given = λ y l r c e. held.given y l r (Contains-append_right (x ∷ []) xs y c) e })

  pub all_reach : (xs : List Node) → AreHeld xs → AllReach (class_of xs)
  all_reach xs held = reach_from (λ n. n) xs reach_itself held

-- a term of a sort other than `bool` isn't a predicate's application
pub not_bool : (sig : Signature) (t : Term) (sort : Sort) → IsOfSort sig t sort → (sort ≡ BoolSort → ⊥) → sort_of sig t ≡ Some sort
not_bool sig t sort (inl e) n = e
not_bool sig t sort (inr e) n = absurd (n e.1)
