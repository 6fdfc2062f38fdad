-- Where its conditions are met, a rule gives trees whose sorts fit: formulas, blocks and names.
use Rattle.std.proofs.Common.{arith, ◌≡◌, ◌∙◌, inl, inr, ◌<◌, ◌≤◌, ℕ, suc, true, false, not, ◌&&◌, nat_eq, List, [], ◌∷◌, ◌++◌, map, reverse, length}
use Rattle.std.proofs.Common.{refl, sym, ap, subst, Some, None, slice_get}
use Rattle.std.specs.List.{AllByRecursion}
use Rattle.std.proofs.lemmas.Bool.{and_parts, and_from, eq-eqb}
use Rattle.std.proofs.lemmas.List.{map-append, reverse-append, reverse-reverse, length-map}
use Rattle.ae_base.proofs.AllOf.{all_append, all_weaker, all_before_map, all_reversed}
use Rattle.ae_base.proofs.ListFacts.{map_map}
use Rattle.ae_base.proofs.Decided.{decided_of}
use Rattle.ae_base.proofs.Tests.{false_true}
use Rattle.ae_core.specs.Decided.{Sorts_discrete}
use Rattle.ae_core.specs.Putting.{put_sort}
use Rattle.ae_core.specs.Signatures.{IsLawful}
use Rattle.ae_core.specs.Sorts.{same_sorts}
use Rattle.ae_core.proofs.SortLaws.{ok_bool}
use Rattle.ae_core.specs.declared.terms.Sort.{Sort, Bool as BoolSort}
use Rattle.ae_core.specs.declared.terms.Head.{Head}
use Rattle.ae_core.specs.declared.terms.Head.TheVariants as head
use Rattle.ae_core.specs.declared.problems.Signature.{Signature}
use Rattle.ae_core.specs.declared.problems.SymbolEntry.{SymbolEntry}
use Rattle.ae_types.specs.Substitutions.{put}
use Rattle.ae_syntax.specs.declared.spans.Span.{Span}
use Rattle.ae_syntax.specs.declared.exprs.Group.{Group}
use Rattle.ae_syntax.specs.declared.exprs.Quantifier.{Quantifier}
use Rattle.ae_elab.specs.declared.faults.TypeFault.TheVariants as fault
use Rattle.ae_elab.specs.declared.grounds.Ground.TheVariants as ground
use Rattle.ae_elab.specs.declared.numbers.Numbers.TheVariants.{IntOrReal}
use Rattle.ae_elab.specs.Conditions.{IsOneOf, sorts_among, test, is_bool}
use Rattle.ae_elab.specs.Trees.{Tree, Trees, Patterns, Claim, Relation, none, more, no_pattern, and_pattern, relation, predicate, distinct, holds}
use Rattle.ae_elab.specs.Trees.{negation, conditional, quantified, apply, claim_of, claim_of_head, pattern_of, has_choice, is_application}
use Rattle.ae_elab.specs.Scope.{Scope, Class, formula, either, term, Meaning, a_variable, a_term, a_formula, name_at}
use Rattle.ae_elab.specs.Rules.{Passed, Rule, give, ◌>>◌, ◌⇒◌, all_of, each, Typed, Around, Part, as_term, as_formula, wanted}
use Rattle.ae_elab.specs.WrittenTypes.{type_rule}
use Rattle.ae_elab.specs.Terms.{application_rule, operands}
use Rattle.ae_elab.specs.Formulas.{truth_rule, equation_rule, inequality_rule, of_one_sort, distinct_rule, connective_rule, conditional_rule}
use Rattle.ae_elab.specs.Formulas.{predicate_rule, Bound, local_of, with_block, all_new, groups_rule, variable_of, merged_with, covering, untested}
use Rattle.ae_elab.specs.Formulas.{pattern_rule, patterns_rule, first_place_of, triggers_rule, around_body, block_rule}
use Rattle.ae_elab.proofs.PutLaws.{put_bool}
use Rattle.ae_typed_laws.proofs.MetConditions.{Grows, grows_then}
use Rattle.ae_lawful_problems.proofs.FitRules.{Gives, gives_value, gives_then, gives_after, gives_after_all}
use Rattle.ae_typed_laws.proofs.ParsedTrees.{IsGroup}
use Rattle.ae_lawful_problems.proofs.SortedTrees.{Env, look, fits, AllFit, IsNumeric, IsPredicate, IsRelated, Sorted, of_variable, of_whole}
use Rattle.ae_lawful_problems.proofs.SortedTrees.{of_decimal, of_apply, of_operation, of_build, of_update, of_choice, AreSorted, of_none, of_more}
use Rattle.ae_lawful_problems.proofs.SortedTrees.{IsTriggerTerm, a_trigger_term, a_predicate_term, AreTriggerTerms, no_terms, more_terms, AreTriggers}
use Rattle.ae_lawful_problems.proofs.SortedTrees.{no_triggers, more_triggers, Fitting, fits_truth, fits_falsity, fits_relation, fits_predicate}
use Rattle.ae_lawful_problems.proofs.SortedTrees.{fits_distinct, fits_holds, fits_negation, fits_conjunction, fits_disjunction, fits_exclusion}
use Rattle.ae_lawful_problems.proofs.SortedTrees.{fits_equivalence, fits_implication, fits_conditional, fits_quantified}
use Rattle.ae_lawful_problems.proofs.TestsOnly.{tests_new}
use Rattle.ae_lawful_problems.proofs.Weakening.{Covers, Falls, falls_append, falls_below, sorted_in_more, fitting_in_more, look_under, look_found}
use Rattle.ae_lawful_problems.proofs.TypedTrees.{MeaningFits, LocalFits, Lies, lies_later, TypedFits, TreeFits, ClaimFits, FitsPart, in_wanted}
use Rattle.ae_lawful_problems.proofs.TypedTrees.{in_formula, in_operands, OperandsFit, in_application, AppliedFits, in_written}

-- ---- a term of sort `bool` as a formula
module _ (F : Signature) (m : ℕ → Sort) where
  head_claim : (env : Env) (h : Head) (ss : List Sort) (us : Trees) → Sorted F m env (apply h ss us) BoolSort → Fitting F m env (claim_of_head h (holds (apply h ss us)))
  head_claim env head.True ss us t = fits_truth env
  head_claim env head.False ss us t = fits_falsity env
  head_claim env (head.Symbol n) ss us t = fits_holds env (apply (head.Symbol n) ss us) t
  head_claim env (head.Build n) ss us t = fits_holds env (apply (head.Build n) ss us) t
  head_claim env (head.Field n k) ss us t = fits_holds env (apply (head.Field n k) ss us) t
  head_claim env (head.Int o) ss us t = fits_holds env (apply (head.Int o) ss us) t
  head_claim env (head.Real o) ss us t = fits_holds env (apply (head.Real o) ss us) t
  head_claim env head.Void ss us t = fits_holds env (apply head.Void ss us) t

  pub claim_fits : {env : Env} {t : Tree} {s : Sort} → Sorted F m env t s → s ≡ BoolSort → Fitting F m env (claim_of t)
  claim_fits (of_variable env x s h) e = fits_holds env _ (subst (Sorted F m env _) e (of_variable env x s h))
  claim_fits (of_whole env a b h) e = fits_holds env _ (subst (Sorted F m env _) e (of_whole env a b h))
  claim_fits (of_decimal env a b h) e = fits_holds env _ (subst (Sorted F m env _) e (of_decimal env a b h))
  claim_fits (of_apply env h ss us args s a i k) e = head_claim env h ss us (subst (Sorted F m env (apply h ss us)) e (of_apply env h ss us args s a i k))
  claim_fits (of_operation env o s us t i n k) e = fits_holds env _ (subst (Sorted F m env _) e (of_operation env o s us t i n k))
  claim_fits (of_build env of ss n ps us fs args a t i v w k) e = fits_holds env _ (subst (Sorted F m env _) e (of_build env of ss n ps us fs args a t i v w k))
  claim_fits (of_update env of ss n b ps us fs args a t i v base k) e = fits_holds env _ (subst (Sorted F m env _) e (of_update env of ss n b ps us fs args a t i v base k))
  claim_fits (of_choice env c a b s h i j) e = fits_conditional env c (claim_of a) (claim_of b) h (claim_fits i e) (claim_fits j e)

  -- ---- a predicate's application in a trigger
  pub pattern_fits : {env : Env} {f : Claim} → Fitting F m env f → is_application (pattern_of f) ≡ true → IsTriggerTerm F m env (pattern_of f)
  pattern_fits (fits_predicate env k ss us args a p h) e = a_predicate_term env k ss us args a p h
  pattern_fits (fits_truth env) e = false_true e
  pattern_fits (fits_falsity env) e = false_true e
  pattern_fits (fits_relation env r a b s n h k) e = false_true e
  pattern_fits (fits_distinct env us s args a h) e = false_true e
  pattern_fits (fits_holds env t h) e = false_true e
  pattern_fits (fits_negation env a h) e = false_true e
  pattern_fits (fits_conjunction env a b h k) e = false_true e
  pattern_fits (fits_disjunction env a b h k) e = false_true e
  pattern_fits (fits_exclusion env a b h k) e = false_true e
  pattern_fits (fits_equivalence env a b h k) e = false_true e
  pattern_fits (fits_implication env a b h k) e = false_true e
  pattern_fits (fits_conditional env c a b h i j) e = false_true e
  pattern_fits (fits_quantified env q bs xs ss ps f x y a h k) e = false_true e

module _ (F : Signature) (law : IsLawful F) (m : ℕ → Sort) (text : List ℕ) where
  abbrev L : Env → Passed → Scope → Type 0
  L env p sc = Lies F law m text env p sc

  abbrev P : Part → Type 0
  P e = FitsPart F law m text e

  abbrev T : Env → Typed → Passed → Type 0
  T env = TypedFits F law m text env

  abbrev C : Env → Claim → Passed → Type 0
  C env = ClaimFits F law m text env

  later : (env : Env) (p q : Passed) (sc : Scope) → Grows m p q → L env p sc → L env q sc
  later env p q sc g l = lies_later F law m text env p q sc g l

  module _ (env : Env) (sc : Scope) where
    f_in : (e : Part) (p : Passed) → L env p sc → P e → Gives F m p (C env) (as_formula sc e)
    f_in e p l h = in_formula F law m text env sc e p l h

    t_in : (e : Part) (p : Passed) → L env p sc → P e → Gives F m p (T env) (as_term sc e)
    t_in e p l h = h.term env sc p l e.place

    w_in : (s : Sort) (e : Part) (p : Passed) → L env p sc → P e → fits F s ≡ true → Gives F m p (TreeFits F law m text env s) (wanted sc s e)
    w_in s e p l h f = in_wanted F law m text env sc s e p l h f

    pub truth_in : (place : Span) (r : Rule Typed) (p : Passed) → Gives F m p (T env) r → Gives F m p (C env) (truth_rule place r)
    truth_in place r p h =
        gives_then F m (T env) (C env) r (λ t. is_bool place t.sort ⇒ give (claim_of t.tree)) p h
        (λ t q g x. gives_after F m (C env) (is_bool place t.sort) (give (claim_of t.tree)) q (ok_bool F (λ i. true) (λ i. true), x.1)
        (λ c. gives_value F m (C env) (claim_of t.tree) q (claim_fits F m x.0 (sym c ∙ put_bool m))))

    pub equation_in : (x : Relation) → ((s : Sort) → IsRelated x s) → (a b : Part) (p : Passed) → L env p sc → P a → P b → Gives F m p (C env) (equation_rule x a b sc)
    equation_in x free a b p l h k =
        gives_then F m (T env) (C env) (as_term sc a) (λ s. wanted sc s.sort b >> λ t. give (relation x s.tree t)) p (t_in a p l h)
        (λ s q g y. gives_then F m (TreeFits F law m text env s.sort) (C env) (wanted sc s.sort b) (λ t. give (relation x s.tree t)) q (w_in s.sort b q (later env p q sc g l) k y.1)
        (λ t r i z. gives_value F m (C env) (relation x s.tree t) r (fits_relation env x s.tree t (put m s.sort) (free (put m s.sort)) y.0 z)))

    numeric_of : (t : Sort) → IsOneOf t (sorts_among IntOrReal) → IsNumeric t
    numeric_of t (inl e) = inl e
    numeric_of t (inr (inl e)) = inr e
    numeric_of t (inr (inr x)) = absurd x

    pub inequality_in : (x : Relation) → ((s : Sort) → IsNumeric s → IsRelated x s) → (a b : Part) (p : Passed) → L env p sc → P a → P b → Gives F m p (C env) (inequality_rule x a b sc)
    inequality_in x num a b p l h k =
        gives_then F m (OperandsFit F law m text env sc IntOrReal) (C env) (operands sc IntOrReal a b) (λ st. give (relation x st.0.tree st.1)) p (in_operands F law m text env sc IntOrReal a b p l h k)
        (λ st q g y. gives_value F m (C env) (relation x st.0.tree st.1) q
        (fits_relation env x st.0.tree st.1 (put m st.0.sort) (num (put m st.0.sort) (numeric_of (put m st.0.sort) y.one)) y.left y.right))

    -- `distinct`
    record OneSort (s : Sort) (us : Trees) (q : Passed) : Type 0 where
      pub args : List Sort
      pub same : AllByRecursion (λ a. a ≡ put m s) args
      pub sorted : AreSorted F m env us args

    one_sort_in : (s : Sort) (es : List Part) (p : Passed) → L env p sc → AllByRecursion P es → fits F s ≡ true → Gives F m p (OneSort s) (of_one_sort sc s es)
    one_sort_in s [] p l a f = gives_value F m (OneSort s) none p (record { args = []; same = tt; sorted = of_none env })
    one_sort_in s (e ∷ es) p l a f =
        gives_then F m (TreeFits F law m text env s) (OneSort s) (wanted sc s e) (λ t. of_one_sort sc s es >> λ ts. give (more t ts)) p (w_in s e p l a.0 f)
        (λ t q g x. gives_then F m (OneSort s) (OneSort s) (of_one_sort sc s es) (λ ts. give (more t ts)) q (one_sort_in s es q (later env p q sc g l) a.1 f)
        (λ ts r i y. gives_value F m (OneSort s) (more t ts) r (record { args = put m s ∷ y.args; same = (refl, y.same); sorted = of_more env t ts (put m s) y.args x y.sorted })))

    pub distinct_in : (es : List Part) (p : Passed) → L env p sc → AllByRecursion P es → Gives F m p (C env) (distinct_rule es sc)
    distinct_in [] p l a = gives_value F m (C env) (distinct none) p (fits_distinct env none BoolSort [] tt (of_none env))
    distinct_in (e ∷ es) p l a =
        gives_then F m (T env) (C env) (as_term sc e) (λ t. of_one_sort sc t.sort es >> λ ts. give (distinct (more t.tree ts))) p (t_in e p l a.0)
        (λ t q g x. gives_then F m (OneSort t.sort) (C env) (of_one_sort sc t.sort es) (λ ts. give (distinct (more t.tree ts))) q (one_sort_in t.sort es q (later env p q sc g l) a.1 x.1)
        (λ ts r i y. gives_value F m (C env) (distinct (more t.tree ts)) r
        (fits_distinct env (more t.tree ts) (put m t.sort) (put m t.sort ∷ y.args) (refl, y.same) (of_more env t.tree ts (put m t.sort) y.args x.0 y.sorted))))

    pub connective_in : (join : Claim → Claim → Claim) → ((f g : Claim) → Fitting F m env f → Fitting F m env g → Fitting F m env (join f g)) → (a b : Part) (p : Passed) → L env p sc → P a → P b
        → Gives F m p (C env) (connective_rule join a b sc)
    connective_in join j a b p l h k =
        gives_then F m (C env) (C env) (as_formula sc a) (λ f. as_formula sc b >> λ g. give (join f g)) p (f_in a p l h)
        (λ f q g x. gives_then F m (C env) (C env) (as_formula sc b) (λ g. give (join f g)) q (f_in b q (later env p q sc g l) k) (λ u r i y. gives_value F m (C env) (join f u) r (j f u x y)))

    pub negation_in : (a : Part) (p : Passed) → L env p sc → P a → Gives F m p (C env) (as_formula sc a >> λ f. give (negation f))
    negation_in a p l h = gives_then F m (C env) (C env) (as_formula sc a) (λ f. give (negation f)) p (f_in a p l h) (λ f q g x. gives_value F m (C env) (negation f) q (fits_negation env f x))

    pub conditional_in : (c a b : Part) (p : Passed) → L env p sc → P c → P a → P b → Gives F m p (C env) (conditional_rule c a b sc)
    conditional_in c a b p l h i j =
        gives_then F m (C env) (C env) (as_formula sc c) (λ f. as_formula sc a >> λ g. as_formula sc b >> λ h. give (conditional f g h)) p (f_in c p l h)
        (λ f q g x. gives_then F m (C env) (C env) (as_formula sc a) (λ g. as_formula sc b >> λ h. give (conditional f g h)) q (f_in a q (later env p q sc g l) i)
        (λ u r k y. gives_then F m (C env) (C env) (as_formula sc b) (λ h. give (conditional f u h)) r (f_in b r (later env p r sc (grows_then m p q r g k) l) j)
        (λ v w n z. gives_value F m (C env) (conditional f u v) w (fits_conditional env f u v x y z))))

    same_lists : (xs : List Sort) → same_sorts xs xs ≡ true
    same_lists xs = decided_of (Sorts_discrete xs xs) refl

    pub predicate_is : (k : ℕ) (e : SymbolEntry) (ss : List Sort) → slice_get F.symbols k ≡ Some e → e.result ≡ None → length ss ≡ e.vars → IsPredicate F k ss (map (put_sort ss) e.args)
    predicate_is k e ss d r n = record {
      entry = e;
      declared = d;
      right = ap (λ o. elim o [ Some s ↦ false | None ↦ nat_eq (length ss) e.vars && same_sorts (map (put_sort ss) e.args) (map (put_sort ss) e.args) ]) r
          ∙ and_from (nat_eq (length ss) e.vars) (same_sorts (map (put_sort ss) e.args) (map (put_sort ss) e.args)) (eq-eqb (length ss) e.vars n) (same_lists (map (put_sort ss) e.args));
    }

    pub predicate_in : (name : Span) (k : ℕ) (e : SymbolEntry) (args : List Part) (p : Passed) → L env p sc → slice_get F.symbols k ≡ Some e → e.result ≡ None → AllByRecursion P args
        → Gives F m p (C env) (predicate_rule name k e args sc)
    predicate_in name k e args p l d r a =
        gives_then F m (AppliedFits F law m text env sc e) (C env) (application_rule name e args sc) (λ a. give (predicate k a.sorts a.args)) p (in_application F law m text env sc name k e args p l d a)
        (λ x q g h. let ss = map (put m) x.sorts in
        gives_value F m (C env) (predicate k x.sorts x.args) q
        (fits_predicate env k x.sorts x.args (map (put_sort ss) e.args) h.fit (predicate_is k e ss d r (length-map x.sorts (put m) ∙ h.count)) h.args))

    -- ---- triggers
    untested_in : (k : Class) (e : Part) (p : Passed) → L env p sc → P e → Gives F m p (λ t q. is_application t ≡ true → IsTriggerTerm F m env t) (untested k e sc)
    untested_in formula e p l h =
        gives_then F m (C env) (λ t q. is_application t ≡ true → IsTriggerTerm F m env t) (as_formula sc e) (λ f. give (pattern_of f)) p (f_in e p l h)
        (λ f q g x. gives_value F m (λ t q. is_application t ≡ true → IsTriggerTerm F m env t) (pattern_of f) q (λ a. pattern_fits F m x a))
    untested_in either e p l h =
        gives_then F m (T env) (λ t q. is_application t ≡ true → IsTriggerTerm F m env t) (as_term sc e) (λ t. give t.tree) p (t_in e p l h)
        (λ t q g x. gives_value F m (λ t q. is_application t ≡ true → IsTriggerTerm F m env t) t.tree q (λ a. a_trigger_term env t.tree (put m t.sort) x.0))
    untested_in term e p l h =
        gives_then F m (T env) (λ t q. is_application t ≡ true → IsTriggerTerm F m env t) (as_term sc e) (λ t. give t.tree) p (t_in e p l h)
        (λ t q g x. gives_value F m (λ t q. is_application t ≡ true → IsTriggerTerm F m env t) t.tree q (λ a. a_trigger_term env t.tree (put m t.sort) x.0))

    pattern_in : (e : Part) (p : Passed) → L env p sc → P e → Gives F m p (λ t q. IsTriggerTerm F m env t) (pattern_rule sc e)
    pattern_in e p l h =
        gives_then F m (λ t q. is_application t ≡ true → IsTriggerTerm F m env t) (λ t q. IsTriggerTerm F m env t) (untested (e.class sc) e sc)
        (λ t. test (is_application t && not (has_choice t)) (fault.BadTrigger e.place.from e.place.to) ⇒ give t) p (untested_in (e.class sc) e p l h)
        (λ t q g x. gives_after F m (λ t q. IsTriggerTerm F m env t) (test (is_application t && not (has_choice t)) (fault.BadTrigger e.place.from e.place.to)) (give t) q tt
        (λ c. gives_value F m (λ t q. IsTriggerTerm F m env t) t q (x (and_parts (is_application t) (not (has_choice t)) c).0)))

    patterns_in : (es : List Part) (p : Passed) → L env p sc → AllByRecursion P es → Gives F m p (λ us q. AreTriggerTerms F m env us) (patterns_rule sc es)
    patterns_in [] p l a = gives_value F m (λ us q. AreTriggerTerms F m env us) none p (no_terms env)
    patterns_in (e ∷ es) p l a =
        gives_then F m (λ t q. IsTriggerTerm F m env t) (λ us q. AreTriggerTerms F m env us) (pattern_rule sc e) (λ t. patterns_rule sc es >> λ ts. give (more t ts)) p (pattern_in e p l a.0)
        (λ t q g x. gives_then F m (λ us q. AreTriggerTerms F m env us) (λ us q. AreTriggerTerms F m env us) (patterns_rule sc es) (λ ts. give (more t ts)) q (patterns_in es q (later env p q sc g l) a.1)
        (λ ts r i y. gives_value F m (λ us q. AreTriggerTerms F m env us) (more t ts) r (more_terms env t ts x y)))

    pub triggers_in : (xs : List ℕ) (ts : List (List Part)) (p : Passed) → L env p sc → AllByRecursion (AllByRecursion P) ts → Gives F m p (λ ps q. AreTriggers F m env ps) (triggers_rule xs ts sc)
    triggers_in xs [] p l a = gives_value F m (λ ps q. AreTriggers F m env ps) no_pattern p (no_triggers env)
    triggers_in xs (es ∷ ts) p l a =
        gives_then F m (λ us q. AreTriggerTerms F m env us) (λ ps q. AreTriggers F m env ps) (patterns_rule sc es)
        (λ us. covering xs us (first_place_of es) ⇒ triggers_rule xs ts sc >> λ ps. give (and_pattern (first_place_of es) us ps)) p (patterns_in es p l a.0)
        (λ us q g x. gives_after F m (λ ps q. AreTriggers F m env ps) (covering xs us (first_place_of es)) (triggers_rule xs ts sc >> λ ps. give (and_pattern (first_place_of es) us ps)) q tt
        (λ c. gives_then F m (λ ps q. AreTriggers F m env ps) (λ ps q. AreTriggers F m env ps) (triggers_rule xs ts sc) (λ ps. give (and_pattern (first_place_of es) us ps)) q
        (triggers_in xs ts q (later env p q sc g l) a.1)
        (λ ps r i y. gives_value F m (λ ps q. AreTriggers F m env ps) (and_pattern (first_place_of es) us ps) r (more_triggers env (first_place_of es) us ps x y))))

  -- ---- blocks: the bound variables with their sorts, in the order of the text
  abbrev pub bindings : List Bound → Env
  bindings bs = map (λ b. (b.number, put m b.sort)) bs

  abbrev pub SortsFit : List Bound → Type 0
  SortsFit bs = AllByRecursion (λ b. fits F b.sort ≡ true) bs

  -- new numbers, one after the other
  pub record NewBounds (low : ℕ) (bs : List Bound) (q : Passed) : Type 0 where
    pub falls : Falls q.next low (reverse (bindings bs))
    pub fit : SortsFit bs

  reversed_one : (b : ℕ × Sort) (bs : Env) → reverse (b ∷ bs) ≡ reverse bs ++ b ∷ []
  reversed_one b bs = reverse-append (b ∷ []) bs

  each_new : (sc : Scope) (s : Sort) (xs : List Span) (p : Passed) → fits F s ≡ true → Gives F m p (NewBounds p.next) (each (variable_of sc s) xs)
  each_new sc s [] p f = gives_value F m (NewBounds p.next) [] p (record { falls = omega arith; fit = tt })
  each_new sc s (x ∷ xs) p f =
      gives_then F m (λ b q. (b.number ≡ p.next) × (b.sort ≡ s) × (q.next ≡ suc p.next)) (NewBounds p.next) (variable_of sc s x) (λ y. each (variable_of sc s) xs >> λ ys. give (y ∷ ys)) p
      (record { by = λ c. record { fit = tt; grows = record { next = omega arith; written = omega arith }; value = (refl, refl, refl) } })
      (λ b q g i. gives_then F m (NewBounds q.next) (NewBounds p.next) (each (variable_of sc s) xs) (λ ys. give (b ∷ ys)) q (each_new sc s xs q f)
      (λ bs r j k. gives_value F m (NewBounds p.next) (b ∷ bs) r (record {
        falls = subst (Falls r.next p.next) (sym (reversed_one (b.number, put m b.sort) (bindings bs)))
            (falls_append r.next q.next p.next (reverse (bindings bs)) ((b.number, put m b.sort) ∷ []) k.falls
            (let x = i.0 in let y = i.2 in omega (arith, x, y), let x = i.0 in omega (arith, x), let x = i.0 in omega (arith, x)));
        fit = (ap (fits F) i.1 ∙ f, k.fit);
      })))

  lower : (high low least : ℕ) (bs : Env) → least ≤ low → Falls high low bs → Falls high least bs
  lower high low least [] l a = omega (arith, l, a)
  lower high low least (b ∷ bs) l a = (a.0, let x = a.1 in omega (arith, l, x), lower b.0 low least bs l a.2)

  groups_new : (seen : List (List ℕ)) (env : Env) (gs : List Group) (sc : Scope) (p : Passed) → L env p sc → AllByRecursion (IsGroup text) gs → Gives F m p (NewBounds p.next) (groups_rule seen gs sc)
  groups_new seen env [] sc p l a = gives_value F m (NewBounds p.next) [] p (record { falls = omega arith; fit = tt })
  groups_new seen env (g ∷ gs) sc p l a =
      gives_then F m (λ s q. (fits F s ≡ true) × (p.next ≤ q.next)) (NewBounds p.next) (all_of (all_new seen g.names sc) (type_rule g.sort ground.Free sc))
      (λ s. each (variable_of sc s) g.names >> λ bs. groups_rule (map (name_at sc) g.names ++ seen) gs sc >> λ cs. give (bs ++ cs)) p
      (gives_after_all F m (λ s q. (fits F s ≡ true) × (p.next ≤ q.next)) (all_new seen g.names sc) (type_rule g.sort ground.Free sc) p (tests_new F seen g.names sc)
      (λ c. record { by = λ d. let x = (in_written F law m text env sc g.sort p l a.0.sort).by d in record { fit = x.fit; grows = x.grows; value = (x.value, x.grows.next) } }))
      (λ s q u f. gives_then F m (NewBounds q.next) (NewBounds p.next) (each (variable_of sc s) g.names) (λ bs. groups_rule (map (name_at sc) g.names ++ seen) gs sc >> λ cs. give (bs ++ cs)) q
      (each_new sc s g.names q f.0)
      (λ bs r i h. gives_then F m (NewBounds r.next) (NewBounds p.next) (groups_rule (map (name_at sc) g.names ++ seen) gs sc) (λ cs. give (bs ++ cs)) r
      (groups_new (map (name_at sc) g.names ++ seen) env gs sc r (later env p r sc (grows_then m p q r u i) l) a.1)
      (λ cs t j k. gives_value F m (NewBounds p.next) (bs ++ cs) t (record {
        falls = subst (Falls t.next p.next) (sym (ap reverse (map-append (λ (b : Bound). (b.number, put m b.sort)) bs cs) ∙ reverse-append (bindings bs) (bindings cs)))
            (falls_append t.next r.next p.next (reverse (bindings cs)) (reverse (bindings bs)) k.falls (lower r.next q.next p.next (reverse (bindings bs)) f.1 h.falls));
        fit = all_append (λ (b : Bound). fits F b.sort ≡ true) bs cs h.fit k.fit;
      }))))

  -- the variables of a block are known in it
  block_locals : (bs : List Bound) (env : Env) → AllByRecursion (λ b. look env b.number ≡ Some (put m b.sort)) bs → SortsFit bs → AllByRecursion (LocalFits F law m text env) (map local_of bs)
  block_locals [] env a f = tt
  block_locals (b ∷ bs) env a f = ((a.0, f.0), block_locals bs env a.1 f.1)

  local_in_more : (env env' : Env) → Covers env env' → (x : Meaning) → MeaningFits F law m text env x → MeaningFits F law m text env' x
  local_in_more env env' c (a_variable x s) h = (c x (put m s) h.0, h.1)
  local_in_more env env' c (a_term k t s) h = (sorted_in_more F m env' c h.0, h.1)
  local_in_more env env' c (a_formula f) h = fitting_in_more F m env' c h

  -- each stands with its sort
  pub bounds_found : (env : Env) (bs : List Bound) (low : ℕ) (q : Passed) → NewBounds low bs q → AllByRecursion (λ b. look (reverse (bindings bs) ++ env) b.number ≡ Some (put m b.sort)) bs
  bounds_found env bs low q n =
      let more = reverse (bindings bs) in
      all_before_map (λ (b : ℕ × Sort). look (more ++ env) b.0 ≡ Some b.1) (λ (b : Bound). (b.number, put m b.sort)) bs
      (subst (AllByRecursion (λ (b : ℕ × Sort). look (more ++ env) b.0 ≡ Some b.1)) (reverse-reverse (bindings bs))
      (all_reversed (λ (b : ℕ × Sort). look (more ++ env) b.0 ≡ Some b.1) more (look_found q.next low more env n.falls)))

  pub inside : (env : Env) (bs : List Bound) (sc : Scope) (p q : Passed) → Grows m p q → L env p sc → NewBounds p.next bs q → L (reverse (bindings bs) ++ env) q (with_block bs sc)
  inside env bs sc p q g l n =
      let more = reverse (bindings bs) in
      let covers = look_under q.next p.next more env n.falls l.below in
      let found = bounds_found env bs p.next q n in
      record {
        text_is = l.text_is;
        types = l.types;
        symbols = l.symbols;
        locals = all_append (LocalFits F law m text (more ++ env)) (reverse (map local_of bs)) sc.locals
            (all_reversed (LocalFits F law m text (more ++ env)) (map local_of bs) (block_locals bs (more ++ env) found n.fit))
            (all_weaker (LocalFits F law m text env) (LocalFits F law m text (more ++ env)) (λ x h. local_in_more env (more ++ env) covers x.meaning h) sc.locals l.locals);
        below = all_append (λ (b : ℕ × Sort). b.0 < q.next) more env (falls_below q.next p.next more n.falls)
            (all_weaker (λ (b : ℕ × Sort). b.0 < p.next) (λ (b : ℕ × Sort). b.0 < q.next) (λ b h. let x = g.next in omega (arith, h, x)) env l.below);
      }

  bound_sorts : (bs : List Bound) → SortsFit bs → AllFit F (map (λ b. b.sort) bs)
  bound_sorts [] a = tt
  bound_sorts (b ∷ bs) a = (a.0, bound_sorts bs a.1)

  pub block_fits : (q : Quantifier) (env : Env) (bs : List Bound) (ps : Patterns) (f : Claim) → SortsFit bs → AreTriggers F m (reverse (bindings bs) ++ env) ps
      → Fitting F m (reverse (bindings bs) ++ env) f → Fitting F m env (quantified q (map (λ b. b.number) bs) (map (λ b. b.sort) bs) ps f)
  block_fits q env bs ps f a h k =
      fits_quantified env q (bindings bs) (map (λ b. b.number) bs) (map (λ b. b.sort) bs) ps f (sym (map_map (λ (b : Bound). (b.number, put m b.sort)) (λ (b : ℕ × Sort). b.0) bs))
      (map_map (λ (b : Bound). b.sort) (put m) bs ∙ sym (map_map (λ (b : Bound). (b.number, put m b.sort)) (λ (b : ℕ × Sort). b.1) bs))
      (bound_sorts bs a) h k

  pub block_in : (q : Quantifier) (gs : List Group) (ts : List (List Part)) (body : Part) (env : Env) (sc : Scope) (around : Around) (p : Passed) → L env p sc → AllByRecursion (IsGroup text) gs
      → AllByRecursion (AllByRecursion P) ts → P body → Gives F m p (C env) (block_rule q gs ts body sc around)
  block_in q gs ts body env sc around p l g a h =
      gives_then F m (NewBounds p.next) (C env) (groups_rule [] gs sc)
      (λ bs. let inner = with_block bs sc in
      let xs = map (λ b. b.number) bs in
      let merged = merged_with q around ++ xs in
      triggers_rule merged ts inner >> λ ps. body.formula inner (around_body q merged ts) body.place >> λ f. give (quantified q xs (map (λ b. b.sort) bs) ps f)) p
      (groups_new [] env gs sc p l g)
      (λ bs r u n. let inner = with_block bs sc in
      let xs = map (λ b. b.number) bs in
      let merged = merged_with q around ++ xs in
      let env' = reverse (bindings bs) ++ env in
      let k = inside env bs sc p r u l n in
      gives_then F m (λ ps q. AreTriggers F m env' ps) (C env) (triggers_rule merged ts inner)
      (λ ps. body.formula inner (around_body q merged ts) body.place >> λ f. give (quantified q xs (map (λ b. b.sort) bs) ps f)) r (triggers_in env' inner merged ts r k a)
      (λ ps t i x. gives_then F m (C env') (C env) (body.formula inner (around_body q merged ts) body.place) (λ f. give (quantified q xs (map (λ b. b.sort) bs) ps f)) t
      (h.formula env' inner t (later env' r t inner i k) (around_body q merged ts) body.place)
      (λ f v j y. gives_value F m (C env) (quantified q xs (map (λ b. b.sort) bs) ps f) v (block_fits q env bs ps f n.fit x y))))
