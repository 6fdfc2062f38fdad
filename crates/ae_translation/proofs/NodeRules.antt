-- The term and the formula that a node is, from the answers for its parts.
use Rattle.std.proofs.Common.{◌≡◌, ◌∙◌, ◌<◌, ◌≤◌, ◌+◌, ℕ, ℤ, Bool, List, [], ◌∷◌, ◌++◌, map, drop, get_or, length, Result, Some, refl, sym, ap, subst, IfOk}
use Rattle.std.proofs.lemmas.List.{append_assoc, append-nil, drop_more, drop_all}
use Rattle.std.proofs.lemmas.Result.{IfOk-weaker}
use Rattle.ae_core.specs.declared.terms.Head.{Head}
use Rattle.ae_core.specs.declared.terms.Op.{Op}
use Rattle.ae_core.specs.declared.terms.Sort.{Sort}
use Rattle.ae_core.specs.declared.terms.Term.{Term}
use Rattle.ae_core.specs.declared.formulas.Formula.{Formula}
use Rattle.ae_elab.specs.declared.nodes.Connective.{Connective}
use Rattle.ae_elab.specs.declared.nodes.Connective.TheVariants as connective
use Rattle.ae_elab.specs.declared.nodes.Node.{Node}
use Rattle.ae_elab.specs.declared.nodes.Node.TheVariants as node
use Rattle.ae_elab.specs.declared.nodes.Pattern.{Pattern}
use Rattle.ae_elab.specs.declared.nodes.Relation.{Relation}
use Rattle.ae_elab.specs.Rules.{no_tree}
use Rattle.ae_syntax.specs.declared.exprs.Quantifier.{Quantifier}
use Rattle.ae_elab.specs.Elaboration.{Cases, leaf, ◌|>◌, term_cases, terms_cases, formula_in, triggers_in, value_of}
use Rattle.ae_elab.specs.Nodes.{Entry, claim_in, entry_of, join_of, patterns_at, tree_at, tree_in, trees_at}
use Rattle.ae_elab.specs.Trees as tree
use Rattle.ae_elab.specs.Trees.{Tree, Claim, claim_of}
use Rattle.ae_lifting.specs.declared.cases.Cases as held
use Rattle.ae_lifting.specs.Lifting.{cases_of}
use Rattle.ae_types.specs.Substitutions.{put}
use Rattle.ae_translation.specs.Inner.Connected.{connected}
use Rattle.ae_translation.specs.Listed.{listed}
use Rattle.ae_translation.proofs.CaseLaws.{none_behind, one_behind}

-- ---- answers that are equal to something, and to what that is equal to
module _ {E : Type 0} where
  pub same_cases : (r : Result held.Cases E) (x y : Cases (List Term)) → x ≡ y → IfOk r (λ cs. cases_of cs ≡ x) → IfOk r (λ cs. cases_of cs ≡ y)
  same_cases r x y e h = subst (λ z. IfOk r (λ cs. cases_of cs ≡ z)) e h

  pub same_answer : {A : Type 0} (r : Result A E) (x y : A) → x ≡ y → IfOk r (λ z. z ≡ x) → IfOk r (λ z. z ≡ y)
  same_answer r x y e h = subst (λ w. IfOk r (λ z. z ≡ w)) e h

  -- ---- answers that are something in a box
  pub boxed_cases : (r : Result held.Cases E) (cs : held.Cases) (x : Cases (List Term)) → cases_of cs ≡ x → IfOk r (λ z. z ≡ cs) → IfOk r (λ z. cases_of z ≡ x)
  boxed_cases r cs x e h = IfOk-weaker r (λ z. z ≡ cs) (λ z. cases_of z ≡ x) (λ z p. ap cases_of p ∙ e) h

module _ (m : ℕ → Sort) (env : List ℕ) (es : List Entry) {E : Type 0} where
  pub terms_are : (r : Result held.Cases E) (xs ys : List ℕ) → xs ≡ ys
      → IfOk r (λ cs. cases_of cs ≡ terms_cases m env (trees_at es xs)) → IfOk r (λ cs. cases_of cs ≡ terms_cases m env (trees_at es ys))
  terms_are r xs ys e h = same_cases r (terms_cases m env (trees_at es xs)) (terms_cases m env (trees_at es ys)) (ap (λ zs. terms_cases m env (trees_at es zs)) e) h

  pub sorts_are : (r : Result (List Sort) E) (xs ys : List Sort) → xs ≡ ys → IfOk r (λ zs. zs ≡ map (put m) xs) → IfOk r (λ zs. zs ≡ map (put m) ys)
  sorts_are r xs ys e h = same_answer r (map (put m) xs) (map (put m) ys) (ap (map (put m)) e) h

  pub term_is : (r : Result held.Cases E) (n k : Node) → n ≡ k
      → IfOk r (λ cs. cases_of cs ≡ listed (term_cases m env (tree_in (Some (entry_of es k)))))
      → IfOk r (λ cs. cases_of cs ≡ listed (term_cases m env (tree_in (Some (entry_of es n)))))
  term_is r n k e h = subst (λ z. IfOk r (λ cs. cases_of cs ≡ listed (term_cases m env (tree_in (Some (entry_of es z)))))) (sym e) h

  pub formula_is : (r : Result Formula E) (n k : Node) → n ≡ k
      → IfOk r (λ f. f ≡ formula_in m env (claim_in (Some (entry_of es k)))) → IfOk r (λ f. f ≡ formula_in m env (claim_in (Some (entry_of es n))))
  formula_is r n k e h = subst (λ z. IfOk r (λ f. f ≡ formula_in m env (claim_in (Some (entry_of es z))))) (sym e) h

-- ---- connectives
pub join_is : (m : ℕ → Sort) (env : List ℕ) (c : Connective) (a b : Claim) → connected c (formula_in m env a) (formula_in m env b) ≡ formula_in m env (join_of c a b)
join_is m env connective.Conjunction a b = refl
join_is m env connective.Disjunction a b = refl
join_is m env connective.Exclusion a b = refl
join_is m env connective.Equivalence a b = refl
join_is m env connective.Implication a b = refl

-- ---- what a term is as a formula, where it is no `if` and no application
pub plain : (es : List Entry) (n : Node) → ((c a b : ℕ) → n ≡ node.Choice c a b → ⊥) → ((h : Head) (ss : List Sort) (us : List ℕ) → n ≡ node.Apply h ss us → ⊥)
    → claim_of (tree_in (Some (entry_of es n))) ≡ tree.holds (tree_in (Some (entry_of es n)))
plain es (node.Variable x) c h = refl
plain es (node.Numeral a b r) c h = refl
plain es (node.Apply k ss us) c h = absurd (h k ss us refl)
plain es (node.Operation o s us) c h = refl
plain es (node.Build k ss n ps us) c h = refl
plain es (node.Update k ss n b ps us) c h = refl
plain es (node.Choice k a b) c h = absurd (c k a b refl)
plain es node.Truth c h = refl
plain es node.Falsity c h = refl
plain es (node.Relation r a b) c h = refl
plain es (node.Predicate k ss us) c h = refl
plain es (node.Distinct us) c h = refl
plain es (node.Holds a) c h = refl
plain es (node.Negation a) c h = refl
plain es (node.Joined j a b) c h = refl
plain es (node.Conditional k a b) c h = refl
plain es (node.Quantified q xs ss ps a) c h = refl

-- ---- a node that is no term
pub no_term : (es : List Entry) (n : Node)
    → ((x : ℕ) → n ≡ node.Variable x → ⊥)
    → ((a : ℤ) (b : ℤ) (r : Bool) → n ≡ node.Numeral a b r → ⊥)
    → ((h : Head) (ss : List Sort) (us : List ℕ) → n ≡ node.Apply h ss us → ⊥)
    → ((o : Op) (s : Sort) (us : List ℕ) → n ≡ node.Operation o s us → ⊥)
    → ((of : ℕ) (ss : List Sort) (k : ℕ) (ps : List ℕ) (us : List ℕ) → n ≡ node.Build of ss k ps us → ⊥)
    → ((of : ℕ) (ss : List Sort) (k : ℕ) (b : ℕ) (ps : List ℕ) (us : List ℕ) → n ≡ node.Update of ss k b ps us → ⊥)
    → ((c : ℕ) (a : ℕ) (b : ℕ) → n ≡ node.Choice c a b → ⊥)
    → tree_in (Some (entry_of es n)) ≡ no_tree
no_term es (node.Variable x) e0 e1 e2 e3 e4 e5 e6 = absurd (e0 x refl)
no_term es (node.Numeral a b r) e0 e1 e2 e3 e4 e5 e6 = absurd (e1 a b r refl)
no_term es (node.Apply h ss us) e0 e1 e2 e3 e4 e5 e6 = absurd (e2 h ss us refl)
no_term es (node.Operation o s us) e0 e1 e2 e3 e4 e5 e6 = absurd (e3 o s us refl)
no_term es (node.Build of ss n ps us) e0 e1 e2 e3 e4 e5 e6 = absurd (e4 of ss n ps us refl)
no_term es (node.Update of ss n b ps us) e0 e1 e2 e3 e4 e5 e6 = absurd (e5 of ss n b ps us refl)
no_term es (node.Choice c a b) e0 e1 e2 e3 e4 e5 e6 = absurd (e6 c a b refl)
no_term es node.Truth e0 e1 e2 e3 e4 e5 e6 = refl
no_term es node.Falsity e0 e1 e2 e3 e4 e5 e6 = refl
no_term es (node.Relation r a b) e0 e1 e2 e3 e4 e5 e6 = refl
no_term es (node.Predicate k ss us) e0 e1 e2 e3 e4 e5 e6 = refl
no_term es (node.Distinct us) e0 e1 e2 e3 e4 e5 e6 = refl
no_term es (node.Holds a) e0 e1 e2 e3 e4 e5 e6 = refl
no_term es (node.Negation a) e0 e1 e2 e3 e4 e5 e6 = refl
no_term es (node.Joined j a b) e0 e1 e2 e3 e4 e5 e6 = refl
no_term es (node.Conditional c a b) e0 e1 e2 e3 e4 e5 e6 = refl
no_term es (node.Quantified q xs ss ts a) e0 e1 e2 e3 e4 e5 e6 = refl

-- ---- a node that is no formula, or is `false`
pub no_claim : (es : List Entry) (n : Node)
    → (n ≡ node.Truth → ⊥)
    → ((r : Relation) (a : ℕ) (b : ℕ) → n ≡ node.Relation r a b → ⊥)
    → ((k : ℕ) (ss : List Sort) (us : List ℕ) → n ≡ node.Predicate k ss us → ⊥)
    → ((us : List ℕ) → n ≡ node.Distinct us → ⊥)
    → ((a : ℕ) → n ≡ node.Holds a → ⊥)
    → ((a : ℕ) → n ≡ node.Negation a → ⊥)
    → ((j : Connective) (a : ℕ) (b : ℕ) → n ≡ node.Joined j a b → ⊥)
    → ((c : ℕ) (a : ℕ) (b : ℕ) → n ≡ node.Conditional c a b → ⊥)
    → ((q : Quantifier) (xs : List ℕ) (ss : List Sort) (ts : List Pattern) (a : ℕ) → n ≡ node.Quantified q xs ss ts a → ⊥)
    → claim_in (Some (entry_of es n)) ≡ tree.falsity
no_claim es (node.Variable x) e0 e1 e2 e3 e4 e5 e6 e7 e8 = refl
no_claim es (node.Numeral a b r) e0 e1 e2 e3 e4 e5 e6 e7 e8 = refl
no_claim es (node.Apply h ss us) e0 e1 e2 e3 e4 e5 e6 e7 e8 = refl
no_claim es (node.Operation o s us) e0 e1 e2 e3 e4 e5 e6 e7 e8 = refl
no_claim es (node.Build of ss n ps us) e0 e1 e2 e3 e4 e5 e6 e7 e8 = refl
no_claim es (node.Update of ss n b ps us) e0 e1 e2 e3 e4 e5 e6 e7 e8 = refl
no_claim es (node.Choice c a b) e0 e1 e2 e3 e4 e5 e6 e7 e8 = refl
no_claim es node.Truth e0 e1 e2 e3 e4 e5 e6 e7 e8 = absurd (e0 refl)
no_claim es node.Falsity e0 e1 e2 e3 e4 e5 e6 e7 e8 = refl
no_claim es (node.Relation r a b) e0 e1 e2 e3 e4 e5 e6 e7 e8 = absurd (e1 r a b refl)
no_claim es (node.Predicate k ss us) e0 e1 e2 e3 e4 e5 e6 e7 e8 = absurd (e2 k ss us refl)
no_claim es (node.Distinct us) e0 e1 e2 e3 e4 e5 e6 e7 e8 = absurd (e3 us refl)
no_claim es (node.Holds a) e0 e1 e2 e3 e4 e5 e6 e7 e8 = absurd (e4 a refl)
no_claim es (node.Negation a) e0 e1 e2 e3 e4 e5 e6 e7 e8 = absurd (e5 a refl)
no_claim es (node.Joined j a b) e0 e1 e2 e3 e4 e5 e6 e7 e8 = absurd (e6 j a b refl)
no_claim es (node.Conditional c a b) e0 e1 e2 e3 e4 e5 e6 e7 e8 = absurd (e7 c a b refl)
no_claim es (node.Quantified q xs ss ts a) e0 e1 e2 e3 e4 e5 e6 e7 e8 = absurd (e8 q xs ss ts a refl)

-- ---- terms one after another
module _ (m : ℕ → Sort) (env : List ℕ) (es : List Entry) (ps : List ℕ) where
  abbrev terms_at : List ℕ → Cases (List Term)
  terms_at ns = terms_cases m env (trees_at es ns)

  abbrev Ahead : Cases (List Term) → List ℕ → Type 0
  Ahead all ns = (all |> λ (us : List Term). terms_at ns |> λ (vs : List Term). leaf (us ++ vs)) ≡ terms_at ps

  pub next_term : (all longer : Cases (List Term)) (i : ℕ) → i < length ps → Ahead all (drop i ps)
      → longer ≡ (all |> λ (us : List Term). listed (term_cases m env (tree_at es (get_or ps i 0))) |> λ (vs : List Term). leaf (us ++ vs)) → Ahead longer (drop (i + 1) ps)
  next_term all longer i l h e =
      let rest = terms_at (drop (i + 1) ps) in
      ap (λ (z : Cases (List Term)). z |> λ (us : List Term). rest |> λ (vs : List Term). leaf (us ++ vs)) e
      ∙ one_behind all (term_cases m env (tree_at es (get_or ps i 0))) rest
      ∙ ap (λ (ns : List ℕ). all |> λ (us : List Term). terms_at ns |> λ (vs : List Term). leaf (us ++ vs)) (sym (drop_more ps i 0 l)) ∙ h

  pub last_term : (all : Cases (List Term)) (i : ℕ) → length ps ≤ i → Ahead all (drop i ps) → all ≡ terms_at ps
  last_term all i l h =
      sym (none_behind all) ∙ ap (λ (ns : List ℕ). all |> λ (us : List Term). terms_at ns |> λ (vs : List Term). leaf (us ++ vs)) (sym (drop_all i ps l)) ∙ h

-- ---- triggers one after another
module _ (m : ℕ → Sort) (env : List ℕ) (es : List Entry) (ps : List Pattern) where
  abbrev triggers_of : List Pattern → List (List Term)
  triggers_of qs = triggers_in m env (patterns_at es qs)

  pub next_trigger : (all longer : List (List Term)) (i : ℕ) (p : Pattern) → i < length ps → p ≡ get_or ps i p → all ++ triggers_of (drop i ps) ≡ triggers_of ps
      → longer ≡ all ++ value_of (terms_cases m env (trees_at es p.terms)) ∷ [] → longer ++ triggers_of (drop (i + 1) ps) ≡ triggers_of ps
  next_trigger all longer i p l is h e =
      let here = value_of (terms_cases m env (trees_at es p.terms)) in
      ap (λ (z : List (List Term)). z ++ triggers_of (drop (i + 1) ps)) e
      ∙ append_assoc all (here ∷ []) (triggers_of (drop (i + 1) ps))
      ∙ ap (λ (qs : List Pattern). all ++ triggers_of qs) (sym (drop_more ps i p l ∙ ap (λ (q : Pattern). q ∷ drop (i + 1) ps) (sym is))) ∙ h

  pub last_trigger : (all : List (List Term)) (i : ℕ) → length ps ≤ i → all ++ triggers_of (drop i ps) ≡ triggers_of ps → all ≡ triggers_of ps
  last_trigger all i l h = sym (append-nil all) ∙ ap (λ (qs : List Pattern). all ++ triggers_of qs) (sym (drop_all i ps l)) ∙ h
