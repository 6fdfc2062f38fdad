-- Under more bound variables what fits still fits.
use Rattle.std.proofs.Common.{arith, ◌≡◌, ◌∙◌, ◌<◌, ◌≤◌, ℕ, Bool, true, false, nat_eq, List, [], ◌∷◌, ◌++◌, reverse, refl, sym, ap, subst, Option}
use Rattle.std.proofs.Common.{Some}
use Rattle.std.specs.List.{AllByRecursion}
use Rattle.std.proofs.lemmas.Bool.{eqb-true, eq-eqb, ne_eqb}
use Rattle.std.proofs.lemmas.Option.{none-some}
use Rattle.ae_base.proofs.AllOf.{all_weaker}
use Rattle.ae_base.proofs.Tests.{by_bool}
use Rattle.ae_core.specs.declared.terms.Sort.{Sort}
use Rattle.ae_core.specs.declared.problems.Signature.{Signature}
use Rattle.ae_elab.specs.Trees.{Tree, Trees, Patterns, Claim}
use Rattle.ae_lawful_problems.proofs.SortedTrees.{Env, look, Sorted, of_variable, of_whole, of_decimal, of_apply, of_operation, of_build, of_update}
use Rattle.ae_lawful_problems.proofs.SortedTrees.{of_choice, AreSorted, of_none, of_more, IsTriggerTerm, a_trigger_term, a_predicate_term}
use Rattle.ae_lawful_problems.proofs.SortedTrees.{AreTriggerTerms, no_terms, more_terms, AreTriggers, no_triggers, more_triggers, Fitting, fits_truth}
use Rattle.ae_lawful_problems.proofs.SortedTrees.{fits_falsity, fits_relation, fits_predicate, fits_distinct, fits_holds, fits_negation}
use Rattle.ae_lawful_problems.proofs.SortedTrees.{fits_conjunction, fits_disjunction, fits_exclusion, fits_equivalence, fits_implication}
use Rattle.ae_lawful_problems.proofs.SortedTrees.{fits_conditional, fits_quantified}

-- each variable of the one stands in the other, with its sort
abbrev pub Covers : Env → Env → Type 0
Covers env env' = (x : ℕ) (s : Sort) → look env x ≡ Some s → look env' x ≡ Some s

one_under : (b : Bool) (s t : Sort) (o o' : Option Sort) → (o ≡ Some t → o' ≡ Some t) → elim b [ true ↦ Some s | false ↦ o ] ≡ Some t → elim b [ true ↦ Some s | false ↦ o' ] ≡ Some t
one_under true s t o o' h e = e
one_under false s t o o' h e = h e

pub covers_under : (bs env env' : Env) → Covers env env' → Covers (bs ++ env) (bs ++ env')
covers_under [] env env' c x s e = c x s e
covers_under (b ∷ bs) env env' c x s e = one_under (nat_eq x b.0) b.1 s (look (bs ++ env) x) (look (bs ++ env') x) (covers_under bs env env' c x s) e

-- ---- numbers that fall
abbrev pub Falls : ℕ → ℕ → Env → Type 0
Falls high low [] = low ≤ high
Falls high low (b ∷ bs) = (b.0 < high) × (low ≤ b.0) × Falls b.0 low bs

pub falls_low : (high low : ℕ) (bs : Env) → Falls high low bs → low ≤ high
falls_low high low [] a = a
falls_low high low (b ∷ bs) a = let x = a.0 in let y = a.1 in omega (arith, x, y)

pub falls_append : (high mid low : ℕ) (bs cs : Env) → Falls high mid bs → Falls mid low cs → Falls high low (bs ++ cs)
falls_append high mid low [] [] a b = omega (arith, a, b)
falls_append high mid low [] (c ∷ cs) a b = (let x = b.0 in omega (arith, a, x), b.1, b.2)
falls_append high mid low (b ∷ bs) cs a c = (a.0, let x = a.1 in let y = falls_low mid low cs c in omega (arith, x, y), falls_append b.0 mid low bs cs a.2 c)

pub falls_below : (high low : ℕ) (bs : Env) → Falls high low bs → AllByRecursion (λ b. b.0 < high) bs
falls_below high low [] a = tt
falls_below high low (b ∷ bs) a =
    (a.0, all_weaker (λ (c : ℕ × Sort). c.0 < b.0) (λ (c : ℕ × Sort). c.0 < high) (λ c h. let x = a.0 in omega (arith, h, x)) bs (falls_below b.0 low bs a.2))

pub falls_above : (high low : ℕ) (bs : Env) → Falls high low bs → AllByRecursion (λ b. low ≤ b.0) bs
falls_above high low [] a = tt
falls_above high low (b ∷ bs) a = (a.1, falls_above b.0 low bs a.2)

another : (x y : ℕ) (s t : Sort) (o : Option Sort) → x < y → o ≡ Some t → elim (nat_eq x y) [ true ↦ Some s | false ↦ o ] ≡ Some t
another x y s t o l e = ap (λ b. elim b [ true ↦ Some s | false ↦ o ]) (ne_eqb x y (λ i. absurd (omega (arith, l, i)))) ∙ e

found_later : (b : ℕ × Sort) (bs cs env : Env) → AllByRecursion (λ c. c.0 < b.0) cs → AllByRecursion (λ c. look (bs ++ env) c.0 ≡ Some c.1) cs → AllByRecursion (λ c. look (b ∷ bs ++ env) c.0 ≡ Some c.1) cs
found_later b bs [] env l a = tt
found_later b bs (c ∷ cs) env l a = (another c.0 b.0 b.1 c.1 (look (bs ++ env) c.0) l.0 a.0, found_later b bs cs env l.1 a.1)

pub look_found : (high low : ℕ) (bs env : Env) → Falls high low bs → AllByRecursion (λ b. look (bs ++ env) b.0 ≡ Some b.1) bs
look_found high low [] env a = tt
look_found high low (b ∷ bs) env a = (
  ap (λ t. elim t [ true ↦ Some b.1 | false ↦ look (bs ++ env) b.0 ]) (eq-eqb b.0 b.0 refl),
  found_later b bs bs env (falls_below b.0 low bs a.2) (look_found b.0 low bs env a.2),
)

found_below : (low : ℕ) (env : Env) (x : ℕ) (s : Sort) → AllByRecursion (λ b. b.0 < low) env → look env x ≡ Some s → x < low
found_below low [] x s a e = absurd (none-some s e)
found_below low (b ∷ env) x s a e =
    by_bool (nat_eq x b.0) (λ t. subst (λ (y : ℕ). y < low) (sym (eqb-true x b.0 t)) a.0)
    (λ f. found_below low env x s a.1 (sym (ap (λ t. elim t [ true ↦ Some b.1 | false ↦ look env x ]) f) ∙ e))

under_more : (low : ℕ) (bs env : Env) (x : ℕ) (s : Sort) → AllByRecursion (λ b. low ≤ b.0) bs → x < low → look env x ≡ Some s → look (bs ++ env) x ≡ Some s
under_more low [] env x s a l e = e
under_more low (b ∷ bs) env x s a l e = another x b.0 b.1 s (look (bs ++ env) x) (let y = a.0 in omega (arith, y, l)) (under_more low bs env x s a.1 l e)

-- new variables hide none
pub look_under : (high low : ℕ) (bs env : Env) → Falls high low bs → AllByRecursion (λ b. b.0 < low) env → Covers env (bs ++ env)
look_under high low bs env a l x s e = under_more low bs env x s (falls_above high low bs a) (found_below low env x s l e) e

-- ---- trees
module _ (F : Signature) (m : ℕ → Sort) where
  mutual
    pub sorted_in_more : (env' : Env) {env : Env} {t : Tree} {s : Sort} → Covers env env' → Sorted F m env t s → Sorted F m env' t s
    sorted_in_more env' c (of_variable env x s h) = of_variable env' x s (c x s h)
    sorted_in_more env' c (of_whole env a b h) = of_whole env' a b h
    sorted_in_more env' c (of_decimal env a b h) = of_decimal env' a b h
    sorted_in_more env' c (of_apply env h ss us args s a e k) = of_apply env' h ss us args s a e (list_in_more env' c k)
    sorted_in_more env' c (of_operation env o s us t e n k) = of_operation env' o s us t e n (list_in_more env' c k)
    sorted_in_more env' c (of_build env of ss n ps us fs args a t e v w k) = of_build env' of ss n ps us fs args a t e v w (list_in_more env' c k)
    sorted_in_more env' c (of_update env of ss n b ps us fs args a t e v base k) = of_update env' of ss n b ps us fs args a t e v (sorted_in_more env' c base) (list_in_more env' c k)
    sorted_in_more env' c (of_choice env f a b s h i j) = of_choice env' f a b s (fitting_in_more env' c h) (sorted_in_more env' c i) (sorted_in_more env' c j)

    pub list_in_more : (env' : Env) {env : Env} {us : Trees} {args : List Sort} → Covers env env' → AreSorted F m env us args → AreSorted F m env' us args
    list_in_more env' c (of_none env) = of_none env'
    list_in_more env' c (of_more env t us s args h k) = of_more env' t us s args (sorted_in_more env' c h) (list_in_more env' c k)

    trigger_in_more : (env' : Env) {env : Env} {t : Tree} → Covers env env' → IsTriggerTerm F m env t → IsTriggerTerm F m env' t
    trigger_in_more env' c (a_trigger_term env t s h) = a_trigger_term env' t s (sorted_in_more env' c h)
    trigger_in_more env' c (a_predicate_term env k ss us args a p h) = a_predicate_term env' k ss us args a p (list_in_more env' c h)

    terms_in_more : (env' : Env) {env : Env} {us : Trees} → Covers env env' → AreTriggerTerms F m env us → AreTriggerTerms F m env' us
    terms_in_more env' c (no_terms env) = no_terms env'
    terms_in_more env' c (more_terms env t us h k) = more_terms env' t us (trigger_in_more env' c h) (terms_in_more env' c k)

    triggers_in_more : (env' : Env) {env : Env} {ps : Patterns} → Covers env env' → AreTriggers F m env ps → AreTriggers F m env' ps
    triggers_in_more env' c (no_triggers env) = no_triggers env'
    triggers_in_more env' c (more_triggers env place us ps h k) = more_triggers env' place us ps (terms_in_more env' c h) (triggers_in_more env' c k)

    pub fitting_in_more : (env' : Env) {env : Env} {f : Claim} → Covers env env' → Fitting F m env f → Fitting F m env' f
    fitting_in_more env' c (fits_truth env) = fits_truth env'
    fitting_in_more env' c (fits_falsity env) = fits_falsity env'
    fitting_in_more env' c (fits_relation env r a b s n h k) = fits_relation env' r a b s n (sorted_in_more env' c h) (sorted_in_more env' c k)
    fitting_in_more env' c (fits_predicate env k ss us args a p h) = fits_predicate env' k ss us args a p (list_in_more env' c h)
    fitting_in_more env' c (fits_distinct env us s args a h) = fits_distinct env' us s args a (list_in_more env' c h)
    fitting_in_more env' c (fits_holds env t h) = fits_holds env' t (sorted_in_more env' c h)
    fitting_in_more env' c (fits_negation env a h) = fits_negation env' a (fitting_in_more env' c h)
    fitting_in_more env' c (fits_conjunction env a b h k) = fits_conjunction env' a b (fitting_in_more env' c h) (fitting_in_more env' c k)
    fitting_in_more env' c (fits_disjunction env a b h k) = fits_disjunction env' a b (fitting_in_more env' c h) (fitting_in_more env' c k)
    fitting_in_more env' c (fits_exclusion env a b h k) = fits_exclusion env' a b (fitting_in_more env' c h) (fitting_in_more env' c k)
    fitting_in_more env' c (fits_equivalence env a b h k) = fits_equivalence env' a b (fitting_in_more env' c h) (fitting_in_more env' c k)
    fitting_in_more env' c (fits_implication env a b h k) = fits_implication env' a b (fitting_in_more env' c h) (fitting_in_more env' c k)
    fitting_in_more env' c (fits_conditional env f a b h i j) = fits_conditional env' f a b (fitting_in_more env' c h) (fitting_in_more env' c i) (fitting_in_more env' c j)
    fitting_in_more env' c (fits_quantified env q bs xs ss ps f x y a h k) =
        fits_quantified env' q bs xs ss ps f x y a (triggers_in_more (reverse bs ++ env') (covers_under (reverse bs) env env' c) h)
        (fitting_in_more (reverse bs ++ env') (covers_under (reverse bs) env env' c) k)
