-- A formula whose trees fit is elaborated to a formula that is well sorted.
use Rattle.std.proofs.Common.{arith, ◌≡◌, ◌∙◌, ◌<◌, ℕ, suc, Bool, true, ◌&&◌, ◌||◌, List, [], ◌∷◌, ◌++◌, map, reverse, length, refl, sym, ap, subst}
use Rattle.std.proofs.Common.{Option, Some, None, append_assoc}
use Rattle.std.specs.List.{AllByRecursion, list_all}
use Rattle.std.proofs.lemmas.Bool.{and_from, or_right}
use Rattle.std.proofs.lemmas.List.{reverse-reverse, reverse-append, map-append}
use Rattle.std.proofs.lemmas.List.Folds.{list_all-append}
use Rattle.std.proofs.lemmas.Option.{none-some, same_Some}
use Rattle.ae_base.specs.Options.{all_known, known, ◌>>=◌}
use Rattle.ae_base.proofs.AllOf.{test_of_all}
use Rattle.ae_base.proofs.ListFacts.{map_reverse}
use Rattle.ae_base.proofs.Tests.{three_parts}
use Rattle.ae_core.specs.Sorts.{sort_in, operands, formula_in, quant_in, predicate_ok, trigger_ok, applied_ok}
use Rattle.ae_core.proofs.SortLaws.{formula_in_true, formula_in_false, formula_in_pred, formula_in_not, formula_in_and, formula_in_or, formula_in_xor}
use Rattle.ae_core.proofs.SortLaws.{formula_in_iff, formula_in_all, formula_in_ex, quant_in_block}
use Rattle.ae_core.specs.declared.terms.Sort.{Sort, Named, Bool as BoolSort, out-Sort}
use Rattle.ae_core.specs.declared.terms.Head.{Head}
use Rattle.ae_core.specs.declared.terms.Head.TheVariants as head
use Rattle.ae_core.specs.declared.terms.Term.{Term, Apply, out-Term, out-roll-Term}
use Rattle.ae_core.specs.declared.terms.Term.TheOpen as layer
use Rattle.ae_core.specs.declared.terms.Term.TheVariants.{rolls-Apply}
use Rattle.ae_core.specs.declared.formulas.Formula.{Formula, Eq, Pred, Not, All, Ex, out-Formula, roll-Formula, roll-out-Formula}
use Rattle.ae_core.specs.declared.formulas.Formula.TheOpen as formula_layer
use Rattle.ae_core.specs.declared.formulas.Formula.TheVariants.{rolls-All, rolls-Ex}
use Rattle.ae_core.specs.declared.formulas.Quant.{Quant}
use Rattle.ae_core.specs.declared.problems.Signature.{Signature}
use Rattle.ae_types.specs.Substitutions.{put}
use Rattle.ae_syntax.specs.declared.exprs.Quantifier.{Quantifier}
use Rattle.ae_syntax.specs.declared.exprs.Quantifier.TheVariants as quantifier
use Rattle.ae_elab.specs.Trees.{Tree, Trees, Patterns, Claim}
use Rattle.ae_elab.specs.Elaboration.{Cases, leaf, branch, ◌|>◌, value_of, related, true_term, differences, all_true, head_on, record_of, block}
use Rattle.ae_elab.specs.Elaboration.{merged_quant, all_over, some_over, over, term_cases, terms_cases, triggers_in, formula_in as elaborated}
use Rattle.ae_lawful_problems.proofs.MergedBlocks.{all_over_by, some_over_by}
use Rattle.ae_lawful_problems.proofs.SortedTrees.{Env, numbers, sorts, fits, AllFit, Sorted, of_variable, of_whole, of_decimal, of_apply}
use Rattle.ae_lawful_problems.proofs.SortedTrees.{of_operation, of_build, of_update, of_choice, AreSorted, of_none, of_more, IsTriggerTerm}
use Rattle.ae_lawful_problems.proofs.SortedTrees.{a_trigger_term, a_predicate_term, AreTriggerTerms, no_terms, more_terms, AreTriggers, no_triggers}
use Rattle.ae_lawful_problems.proofs.SortedTrees.{more_triggers, Fitting, fits_truth, fits_falsity, fits_relation, fits_predicate, fits_distinct}
use Rattle.ae_lawful_problems.proofs.SortedTrees.{fits_holds, fits_negation, fits_conjunction, fits_disjunction, fits_exclusion, fits_equivalence}
use Rattle.ae_lawful_problems.proofs.SortedTrees.{fits_implication, fits_conditional, fits_quantified}
use Rattle.ae_lawful_problems.proofs.PutFits.{puts_fit}
use Rattle.ae_lawful_problems.proofs.SortedTerms.{Right, SortOf, SortsOf, EachCase, each_then, right_either, right_cases, value_right, more_sorts}
use Rattle.ae_lawful_problems.proofs.SortedTerms.{applied_sort, whole_sort, decimal_sort, true_sort, operation_sort, right_eq, right_related}
use Rattle.ae_lawful_problems.proofs.SortedTerms.{right_true, right_differences, right_pred, cons_known, record_sorted, from_base, all_written}
use Rattle.ae_lawful_problems.proofs.SortedTerms.{variable_right}

-- ---- blocks
module _ (F : Signature) (E : List Sort) where
  abbrev ok_triggers : List Sort → List (List Term) → Bool
  ok_triggers G ts = list_all (list_all (trigger_ok F (fits F) G)) ts

  right_quant : (ss : List Sort) (ts : List (List Term)) (f : Formula) → list_all (fits F) ss ≡ true → ok_triggers (E ++ ss) ts ≡ true → Right F (E ++ ss) f → quant_in F (fits F) E (block ss ts f) ≡ true
  right_quant ss ts f a b c =
      quant_in_block F (fits F) E (block ss ts f)
      ∙ and_from (list_all (fits F) ss && ok_triggers (E ++ ss) ts) (formula_in F (fits F) (E ++ ss) f) (and_from (list_all (fits F) ss) (ok_triggers (E ++ ss) ts) a b) c

  right_forall : (ss : List Sort) (ts : List (List Term)) (f : Formula) → list_all (fits F) ss ≡ true → ok_triggers (E ++ ss) ts ≡ true → Right F (E ++ ss) f → Right F E (All (block ss ts f))
  right_forall ss ts f a b c = formula_in_all F (fits F) E (block ss ts f) ∙ right_quant ss ts f a b c

  right_exists : (ss : List Sort) (ts : List (List Term)) (f : Formula) → list_all (fits F) ss ≡ true → ok_triggers (E ++ ss) ts ≡ true → Right F (E ++ ss) f → Right F E (Ex (block ss ts f))
  right_exists ss ts f a b c = formula_in_ex F (fits F) E (block ss ts f) ∙ right_quant ss ts f a b c

  -- a block that is merged with its body
  right_merged : (ss : List Sort) (q : Quant) → list_all (fits F) ss ≡ true → quant_in F (fits F) (E ++ ss) q ≡ true → quant_in F (fits F) E (merged_quant ss q) ≡ true
  right_merged ss q a b =
      let p = three_parts (list_all (fits F) q.sorts) (ok_triggers (E ++ ss ++ q.sorts) q.triggers) (formula_in F (fits F) (E ++ ss ++ q.sorts) q.body) (sym (quant_in_block F (fits F) (E ++ ss) q) ∙ b) in
      let same = append_assoc E ss q.sorts in
      right_quant (ss ++ q.sorts) q.triggers q.body
      (list_all-append (fits F) ss q.sorts ∙ and_from (list_all (fits F) ss) (list_all (fits F) q.sorts) a p.0)
      (subst (λ G. ok_triggers G q.triggers ≡ true) same p.1) (subst (λ G. Right F G q.body) same p.2)

  is_all : (f : Formula) (q : Quant) → out-Formula f ≡ formula_layer.All q → f ≡ All q
  is_all f q e = sym (roll-out-Formula f) ∙ ap roll-Formula e ∙ rolls-All q

  is_some : (f : Formula) (q : Quant) → out-Formula f ≡ formula_layer.Ex q → f ≡ Ex q
  is_some f q e = sym (roll-out-Formula f) ∙ ap roll-Formula e ∙ rolls-Ex q

  module _ (ss : List Sort) (f : Formula) (a : list_all (fits F) ss ≡ true) (c : Right F (E ++ ss) f) where
    plain_all : Right F E (All (block ss [] f))
    plain_all = right_forall ss [] f a refl c

    plain_some : Right F E (Ex (block ss [] f))
    plain_some = right_exists ss [] f a refl c

    right_all_over : Right F E (all_over ss f (out-Formula f))
    right_all_over =
        all_over_by (Right F E) ss f plain_all
        (λ q e. formula_in_all F (fits F) E (merged_quant ss q)
        ∙ right_merged ss q a (sym (formula_in_all F (fits F) (E ++ ss) q) ∙ subst (Right F (E ++ ss)) (is_all f q e) c))

    right_some_over : Right F E (some_over ss f (out-Formula f))
    right_some_over =
        some_over_by (Right F E) ss f plain_some
        (λ q e. formula_in_ex F (fits F) E (merged_quant ss q)
        ∙ right_merged ss q a (sym (formula_in_ex F (fits F) (E ++ ss) q) ∙ subst (Right F (E ++ ss)) (is_some f q e) c))

  pub right_over : (q : Quantifier) (ss : List Sort) (ts : List (List Term)) (f : Formula) → list_all (fits F) ss ≡ true → ok_triggers (E ++ ss) ts ≡ true → Right F (E ++ ss) f → Right F E (over q ss ts f)
  right_over quantifier.Forall ss [] f a b c = right_all_over ss f a c
  right_over quantifier.Exists ss [] f a b c = right_some_over ss f a c
  right_over quantifier.Forall ss (t ∷ ts) f a b c = right_forall ss (t ∷ ts) f a b c
  right_over quantifier.Exists ss (t ∷ ts) f a b c = right_exists ss (t ∷ ts) f a b c

  -- ---- terms of triggers
  pub trigger_known : (u : Term) (s : Sort) → SortOf F E u s → trigger_ok F (fits F) E u ≡ true
  trigger_known u s h = ap (λ b. b || applied_ok F (fits F) E (out-Term u)) (ap known h)

  out_apply : (h : Head) (ss : List Sort) (us : List Term) → out-Term (Apply h ss us) ≡ layer.Apply h ss us
  out_apply h ss us = ap out-Term (sym (rolls-Apply h ss us)) ∙ out-roll-Term (layer.Apply h ss us)

  pub trigger_predicate : (k : ℕ) (ss : List Sort) (us : List Term) → predicate_ok F (fits F) k ss (all_known (map (sort_in F (fits F) E) us)) ≡ true → trigger_ok F (fits F) E (Apply (head.Symbol k) ss us) ≡ true
  trigger_predicate k ss us h =
      or_right (known (sort_in F (fits F) E (Apply (head.Symbol k) ss us))) (applied_ok F (fits F) E (out-Term (Apply (head.Symbol k) ss us)))
      (ap (applied_ok F (fits F) E) (out_apply (head.Symbol k) ss us) ∙ h)

  never_listed : (o : Option Sort) (os : Option (List Sort)) → (o >>= λ x. os >>= λ xs. Some (x ∷ xs)) ≡ Some [] → ⊥
  never_listed None os e = none-some [] e
  never_listed (Some x) None e = none-some [] e
  never_listed (Some x) (Some xs) e = let i = same_Some (x ∷ xs) [] e in let z : ◌≡◌ {A = ℕ} (suc (length xs)) 0 = ap length i in absurd (omega (arith, z))

  weaker_cases : {A : Type 0} (Q R : A → Type 0) → ((x : A) → Q x → R x) → (c : Cases A) → EachCase F E Q c → EachCase F E R c
  weaker_cases Q R k (leaf x) h = k x h
  weaker_cases Q R k (branch c a b) h = (h.0, weaker_cases Q R k a h.1, weaker_cases Q R k b h.2)

  equal_each : (us : List Term) (args : List Sort) (s : Sort) → AllByRecursion (λ a. a ≡ s) args → SortsOf F E us args → AllByRecursion (λ u. SortOf F E u s) us
  equal_each [] args s a h = tt
  equal_each (u ∷ us) [] s a h = absurd (never_listed (sort_in F (fits F) E u) (all_known (map (sort_in F (fits F) E) us)) h)
  equal_each (u ∷ us) (t ∷ args) s a h =
      let c = cons_known F E (sort_in F (fits F) E u) (all_known (map (sort_in F (fits F) E) us)) t args h in
      (c.0 ∙ ap Some a.0, equal_each us args s a.1 c.1)

  all_equal : (us : List Term) (args : List Sort) (s : Sort) → AllByRecursion (λ a. a ≡ s) args → SortsOf F E us args → AllByRecursion (λ u. SortOf F E u s) us
  all_equal us args s a h = equal_each us args s a h

-- ---- all of a tree
module _ (F : Signature) (m : ℕ → Sort) (known : (n : ℕ) → fits F (m n) ≡ true) where
  -- the sorts of the bound variables, the innermost last
  abbrev pub core : Env → List Sort
  core env = reverse (sorts env)

  numbers_under : (bs env : Env) (xs : List ℕ) → xs ≡ numbers bs → reverse xs ++ numbers env ≡ numbers (reverse bs ++ env)
  numbers_under bs env xs e =
      ap (λ ys. reverse ys ++ numbers env) e ∙ ap (λ ys. ys ++ numbers env) (sym (map_reverse (λ (b : ℕ × Sort). b.0) bs))
      ∙ sym (map-append (λ (b : ℕ × Sort). b.0) (reverse bs) env)

  core_under : (bs env : Env) → core (reverse bs ++ env) ≡ core env ++ sorts bs
  core_under bs env =
      ap reverse (map-append (λ (b : ℕ × Sort). b.1) (reverse bs) env)
      ∙ reverse-append (map (λ (b : ℕ × Sort). b.1) (reverse bs)) (sorts env)
      ∙ ap (λ xs. reverse (sorts env) ++ xs) (ap reverse (map_reverse (λ (b : ℕ × Sort). b.1) bs) ∙ reverse-reverse (sorts bs))

  abbrev TermsRight : Env → Cases Term → Sort → Type 0
  TermsRight env c s = EachCase F (core env) (λ u. SortOf F (core env) u s) c

  abbrev ListsRight : Env → Cases (List Term) → List Sort → Type 0
  ListsRight env c args = EachCase F (core env) (λ us. SortsOf F (core env) us args) c

  abbrev tests : Env → Term → Bool
  tests env = trigger_ok F (fits F) (core env)

  mutual
    pub tree_right : {env : Env} {t : Tree} {s : Sort} → Sorted F m env t s → TermsRight env (term_cases m (numbers env) t) s
    tree_right (of_variable env x s h) = variable_right F (core env) m env refl x s h
    tree_right (of_whole env a b h) = whole_sort F (core env) a b h
    tree_right (of_decimal env a b h) = decimal_sort F (core env) a b h
    tree_right (of_apply env h ss us args s a e k) =
        each_then F (core env) (λ us. SortsOf F (core env) us args) (λ u. SortOf F (core env) u s) (λ vs. leaf (Apply h (map (put m) ss) vs))
        (λ vs l. applied_sort F (core env) h (map (put m) ss) vs args s (puts_fit F m known ss a) l e) (terms_cases m (numbers env) us) (list_right k)
    tree_right (of_operation env o s us t e n k) =
        each_then F (core env) (λ us. SortsOf F (core env) us (operands o (t ∷ []))) (λ u. SortOf F (core env) u t) (λ vs. leaf (Apply (head_on o (out-Sort (put m s))) [] vs))
        (λ vs l. subst (λ (x : Sort). SortOf F (core env) (Apply (head_on o (out-Sort x)) [] vs) t) (sym e) (operation_sort F (core env) o t vs n l)) (terms_cases m (numbers env) us) (list_right k)
    tree_right (of_build env of ss n ps us fs args a t e v w k) =
        each_then F (core env) (λ us. SortsOf F (core env) us args) (λ u. SortOf F (core env) u (Named of (map (put m) ss))) (λ vs. leaf (record_of of (map (put m) ss) n true_term ps vs))
        (λ vs l. record_sorted F (core env) of (map (put m) ss) fs true_term ps vs args v l n e (puts_fit F m known ss a) t
        (all_written F (core env) of (map (put m) ss) fs true_term ps vs args v l (λ i j. w i (subst (λ (z : ℕ). i < z) (sym e) j)))) (terms_cases m (numbers env) us) (list_right k)
    tree_right (of_update env of ss n b ps us fs args a t e v base k) =
        each_then F (core env) (λ u. SortOf F (core env) u (Named of (map (put m) ss))) (λ u. SortOf F (core env) u (Named of (map (put m) ss)))
        (λ u. terms_cases m (numbers env) us |> λ vs. leaf (record_of of (map (put m) ss) n u ps vs))
        (λ u h. each_then F (core env) (λ us. SortsOf F (core env) us args) (λ u. SortOf F (core env) u (Named of (map (put m) ss))) (λ vs. leaf (record_of of (map (put m) ss) n u ps vs))
        (λ vs l. record_sorted F (core env) of (map (put m) ss) fs u ps vs args v l n e (puts_fit F m known ss a) t (from_base F (core env) of (map (put m) ss) fs u ps vs args v l (puts_fit F m known ss a) t h))
        (terms_cases m (numbers env) us) (list_right k)) (term_cases m (numbers env) b) (tree_right base)
    tree_right (of_choice env c a b s h i j) = (claim_right h, tree_right i, tree_right j)

    pub list_right : {env : Env} {us : Trees} {args : List Sort} → AreSorted F m env us args → ListsRight env (terms_cases m (numbers env) us) args
    list_right (of_none env) = refl
    list_right (of_more env t us s args h k) =
        each_then F (core env) (λ u. SortOf F (core env) u s) (λ vs. SortsOf F (core env) vs (s ∷ args)) (λ v. terms_cases m (numbers env) us |> λ vs. leaf (v ∷ vs))
        (λ v i. each_then F (core env) (λ vs. SortsOf F (core env) vs args) (λ vs. SortsOf F (core env) vs (s ∷ args)) (λ vs. leaf (v ∷ vs))
        (λ vs j. more_sorts F (core env) v vs s args i j) (terms_cases m (numbers env) us) (list_right k)) (term_cases m (numbers env) t) (tree_right h)

    pub trigger_term_right : {env : Env} {t : Tree} → IsTriggerTerm F m env t → EachCase F (core env) (λ u. tests env u ≡ true) (term_cases m (numbers env) t)
    trigger_term_right (a_trigger_term env t s h) = weaker_cases F (core env) (λ u. SortOf F (core env) u s) (λ u. tests env u ≡ true) (λ u k. trigger_known F (core env) u s k) (term_cases m (numbers env) t) (tree_right h)
    trigger_term_right (a_predicate_term env k ss us args a p h) =
        each_then F (core env) (λ us. SortsOf F (core env) us args) (λ u. tests env u ≡ true) (λ vs. leaf (Apply (head.Symbol k) (map (put m) ss) vs))
        (λ vs l. trigger_predicate F (core env) k (map (put m) ss) vs (right_pred F (core env) k (map (put m) ss) vs args (puts_fit F m known ss a) p l)) (terms_cases m (numbers env) us) (list_right h)

    pub trigger_terms_right : {env : Env} {us : Trees} → AreTriggerTerms F m env us → EachCase F (core env) (λ vs. list_all (tests env) vs ≡ true) (terms_cases m (numbers env) us)
    trigger_terms_right (no_terms env) = refl
    trigger_terms_right (more_terms env t us h k) =
        each_then F (core env) (λ u. tests env u ≡ true) (λ vs. list_all (tests env) vs ≡ true) (λ v. terms_cases m (numbers env) us |> λ vs. leaf (v ∷ vs))
        (λ v i. each_then F (core env) (λ vs. list_all (tests env) vs ≡ true) (λ vs. list_all (tests env) vs ≡ true) (λ vs. leaf (v ∷ vs))
        (λ vs j. and_from (tests env v) (list_all (tests env) vs) i j) (terms_cases m (numbers env) us) (trigger_terms_right k)) (term_cases m (numbers env) t) (trigger_term_right h)

    pub triggers_right : {env : Env} {ps : Patterns} → AreTriggers F m env ps → list_all (list_all (tests env)) (triggers_in m (numbers env) ps) ≡ true
    triggers_right (no_triggers env) = refl
    triggers_right (more_triggers env place us ps h k) =
        and_from (list_all (tests env) (value_of (terms_cases m (numbers env) us))) (list_all (list_all (tests env)) (triggers_in m (numbers env) ps))
        (value_right F (core env) (λ vs. list_all (tests env) vs ≡ true) (terms_cases m (numbers env) us) (trigger_terms_right h)) (triggers_right k)

    pub claim_right : {env : Env} {c : Claim} → Fitting F m env c → Right F (core env) (elaborated m (numbers env) c)
    claim_right (fits_truth env) = formula_in_true F (fits F) (core env)
    claim_right (fits_falsity env) = formula_in_false F (fits F) (core env)
    claim_right (fits_relation env r a b s n h k) =
        right_cases F (core env) (term_cases m (numbers env) a |> λ u. term_cases m (numbers env) b |> λ v. leaf (related r u v))
        (each_then F (core env) (λ u. SortOf F (core env) u s) (Right F (core env)) (λ u. term_cases m (numbers env) b |> λ v. leaf (related r u v))
        (λ u i. each_then F (core env) (λ u. SortOf F (core env) u s) (Right F (core env)) (λ v. leaf (related r u v)) (λ v j. right_related F (core env) r u v s n i j)
        (term_cases m (numbers env) b) (tree_right k)) (term_cases m (numbers env) a) (tree_right h))
    claim_right (fits_predicate env k ss us args a p h) =
        right_cases F (core env) (terms_cases m (numbers env) us |> λ vs. leaf (Pred k (map (put m) ss) vs))
        (each_then F (core env) (λ us. SortsOf F (core env) us args) (Right F (core env)) (λ vs. leaf (Pred k (map (put m) ss) vs))
        (λ vs l. formula_in_pred F (fits F) (core env) k (map (put m) ss) vs ∙ right_pred F (core env) k (map (put m) ss) vs args (puts_fit F m known ss a) p l) (terms_cases m (numbers env) us) (list_right h))
    claim_right (fits_distinct env us s args a h) =
        right_cases F (core env) (terms_cases m (numbers env) us |> λ vs. leaf (all_true (differences vs)))
        (each_then F (core env) (λ us. SortsOf F (core env) us args) (Right F (core env)) (λ vs. leaf (all_true (differences vs)))
        (λ vs l. right_true F (core env) (differences vs) (right_differences F (core env) vs s (all_equal F (core env) vs args s a l))) (terms_cases m (numbers env) us) (list_right h))
    claim_right (fits_holds env t h) =
        right_cases F (core env) (term_cases m (numbers env) t |> λ u. leaf (Eq u true_term))
        (each_then F (core env) (λ u. SortOf F (core env) u BoolSort) (Right F (core env)) (λ u. leaf (Eq u true_term))
        (λ u i. right_eq F (core env) u true_term BoolSort i (true_sort F (core env))) (term_cases m (numbers env) t) (tree_right h))
    claim_right (fits_negation env a h) = formula_in_not F (fits F) (core env) (elaborated m (numbers env) a) ∙ claim_right h
    claim_right (fits_conjunction env a b h k) =
        let x = elaborated m (numbers env) a in let y = elaborated m (numbers env) b in
        formula_in_and F (fits F) (core env) x y ∙ and_from (formula_in F (fits F) (core env) x) (formula_in F (fits F) (core env) y) (claim_right h) (claim_right k)
    claim_right (fits_disjunction env a b h k) =
        let x = elaborated m (numbers env) a in let y = elaborated m (numbers env) b in
        formula_in_or F (fits F) (core env) x y ∙ and_from (formula_in F (fits F) (core env) x) (formula_in F (fits F) (core env) y) (claim_right h) (claim_right k)
    claim_right (fits_exclusion env a b h k) =
        let x = elaborated m (numbers env) a in let y = elaborated m (numbers env) b in
        formula_in_xor F (fits F) (core env) x y ∙ and_from (formula_in F (fits F) (core env) x) (formula_in F (fits F) (core env) y) (claim_right h) (claim_right k)
    claim_right (fits_equivalence env a b h k) =
        let x = elaborated m (numbers env) a in let y = elaborated m (numbers env) b in
        formula_in_iff F (fits F) (core env) x y ∙ and_from (formula_in F (fits F) (core env) x) (formula_in F (fits F) (core env) y) (claim_right h) (claim_right k)
    claim_right (fits_implication env a b h k) =
        let x = elaborated m (numbers env) a in let y = elaborated m (numbers env) b in
        formula_in_or F (fits F) (core env) (Not x) y
        ∙ and_from (formula_in F (fits F) (core env) (Not x)) (formula_in F (fits F) (core env) y) (formula_in_not F (fits F) (core env) x ∙ claim_right h) (claim_right k)
    claim_right (fits_conditional env c a b h i j) =
        right_either F (core env) (elaborated m (numbers env) c) (elaborated m (numbers env) a) (elaborated m (numbers env) b) (claim_right h) (claim_right i) (claim_right j)
    claim_right (fits_quantified env q bs xs ss ps f x y a h k) =
        let inner = reverse bs ++ env in
        let ns = numbers_under bs env xs x in
        let under = core_under bs env in
        let body = subst (λ G. Right F G (elaborated m (numbers inner) f)) under (claim_right k) in
        let triggers = subst (λ G. list_all (list_all (trigger_ok F (fits F) G)) (triggers_in m (numbers inner) ps) ≡ true) under (triggers_right h) in
        subst (λ (os : List Sort). Right F (core env) (over q os (triggers_in m (reverse xs ++ numbers env) ps) (elaborated m (reverse xs ++ numbers env) f))) (sym y)
        (subst (λ (ys : List ℕ). Right F (core env) (over q (sorts bs) (triggers_in m ys ps) (elaborated m ys f))) (sym ns)
        (right_over F (core env) q (sorts bs) (triggers_in m (numbers inner) ps) (elaborated m (numbers inner) f)
        (test_of_all (λ s. fits F s ≡ true) (fits F) (λ s e. e) (sorts bs) (subst (AllFit F) y (puts_fit F m known ss a))) triggers body))
