-- No fresh constant stands in the triggers of a formula that has none.
use Rattle.std.specs.Prelude.{ℕ, zero, suc, ℤ, ◌+◌, ◌-◌, Bool, true, false, cond, not, ◌&&◌, ◌||◌, nat_lt, List, [], ◌∷◌, ◌++◌, ◌≡◌, map, take, length, Option, Some, None}
use Rattle.std.specs.List.{AllByRecursion, flat_map, list_any, list_all}
use Rattle.std.proofs.Common.{refl, sym, ap, ◌∙◌, subst}
use Rattle.std.proofs.lemmas.Option.{same_Some}
use Rattle.ae_base.proofs.AllOf.{all_append, all_before_map, all_of_map}
use Rattle.ae_base.proofs.ListFacts.{empty_parts}
use Rattle.ae_base.proofs.Options.{bind_some, cons_some, when_some}
use Rattle.ae_core.proofs.Recursion.{fold_bound, fold_num, fold_fresh, fold_apply, fold_eq, fold_lt, fold_le, fold_pred, fold_not, fold_and, fold_or, fold_xor, fold_iff, fold_all, fold_ex, fold_block}
use Rattle.ae_core.specs.Constants.{constants, constants_step, formula_constants, formula_constants_step}
use Rattle.ae_core.specs.Inner.Induction.{by_formulas, by_terms}
use Rattle.ae_core.specs.declared.formulas.Formula.{Formula, Formula-F, Eq, Lt, Le, Pred, Not, And, Or, Xor, Iff, All, Ex, out-Formula, roll-Formula, roll-out-Formula}
use Rattle.ae_core.specs.declared.formulas.Formula.TheOpen as layer
use Rattle.ae_core.specs.declared.formulas.Formula.TheVariants.{rolls-All}
use Rattle.ae_core.specs.declared.formulas.Quant.{Quant, Quant-F}
use Rattle.ae_core.specs.declared.problems.Signature.{Signature}
use Rattle.ae_core.specs.declared.terms.Head.{Head}
use Rattle.ae_core.specs.declared.terms.Head.TheVariants as head
use Rattle.ae_core.specs.declared.terms.Sort.{Sort}
use Rattle.ae_core.specs.declared.terms.Term.{Term, Bound, Num, Fresh, Apply}
use Rattle.ae_journal.specs.States as states
use Rattle.ae_journal.specs.Triggers.{is_candidate, outer, known_ones, body_candidates, is_among, once_each, wanted, has_all, kept, stands_inside, smallest, adding, joint, made_by, made, triggers, occurs}
use Rattle.ae_matches.specs.Steps.{fresh_has, fresh_has_step}
use Rattle.ae_trigger.proofs.BodyRules.{with_true, with_false, with_eq, with_lt, with_le, with_pred, with_not, with_and, with_or, with_xor, with_iff, with_all, with_ex}
use Rattle.ae_trigger.proofs.CandidateLaws.{outer_bound, outer_num, outer_fresh, outer_apply, candidates_bound, candidates_num, candidates_fresh, candidates_apply}
use Rattle.ae_trigger.specs.Inner.Candidates.{outers, outer_candidates, outer_candidates_of, whole_candidate, with_body}

-- ---- terms without fresh constants
abbrev pub IsClean : Term → Type 0
IsClean t = constants t ≡ []

abbrev pub AreClean : List Term → Type 0
AreClean ts = AllByRecursion IsClean ts

clean_bound : (i : ℕ) → IsClean (Bound i)
unfolding constants
clean_bound i = fold_bound (List Term) constants_step i

constants_fresh : (n : ℕ) (s : Sort) → constants (Fresh n s) ≡ Fresh n s ∷ []
unfolding constants
constants_fresh n s = fold_fresh (List Term) constants_step n s

constants_apply : (h : Head) (ss : List Sort) (us : List Term) → constants (Apply h ss us) ≡ flat_map (λ u. u) (map constants us)
unfolding constants
constants_apply h ss us = fold_apply (List Term) constants_step h ss us

flat_empty : (xs : List (List Term)) → flat_map (λ u. u) xs ≡ [] → AllByRecursion (λ (x : List Term). x ≡ []) xs
flat_empty [] e = tt
flat_empty (x ∷ xs) e = let r = empty_parts x (flat_map (λ u. u) xs) e in (r.0, flat_empty xs r.1)

empty_flat : (xs : List (List Term)) → AllByRecursion (λ (x : List Term). x ≡ []) xs → flat_map (λ u. u) xs ≡ []
empty_flat [] a = refl
empty_flat (x ∷ xs) a = ap (λ (w : List Term). w ++ flat_map (λ u. u) xs) a.0 ∙ empty_flat xs a.1

clean_args : (h : Head) (ss : List Sort) (us : List Term) → IsClean (Apply h ss us) → AreClean us
clean_args h ss us c = all_before_map (λ (x : List Term). x ≡ []) constants us (flat_empty (map constants us) (sym (constants_apply h ss us) ∙ c))

clean_apply : (h : Head) (ss : List Sort) (us : List Term) → AreClean us → IsClean (Apply h ss us)
clean_apply h ss us a = constants_apply h ss us ∙ empty_flat (map constants us) (all_of_map (λ (x : List Term). x ≡ []) constants us a)

clean_each : (us : List Term) → flat_map constants us ≡ [] → AreClean us
clean_each [] e = tt
clean_each (u ∷ us) e = let r = empty_parts (constants u) (flat_map constants us) e in (r.0, clean_each us r.1)

never_empty : (x : Term) (xs : List Term) → x ∷ xs ≡ [] → ⊥
never_empty x xs e = cc e

-- ---- no type variable stands in the sort of a fresh constant
module _ (i : ℕ) where
  has_bound : (n : ℕ) → fresh_has i (Bound n) ≡ false
  unfolding fresh_has
  has_bound n = fold_bound Bool (fresh_has_step i) n

  has_num : (a b : ℤ) (r : Bool) → fresh_has i (Num a b r) ≡ false
  unfolding fresh_has
  has_num a b r = fold_num Bool (fresh_has_step i) a b r

  has_apply : (h : Head) (ss : List Sort) (us : List Term) → fresh_has i (Apply h ss us) ≡ list_any (λ b. b) (map (fresh_has i) us)
  unfolding fresh_has
  has_apply h ss us = fold_apply Bool (fresh_has_step i) h ss us

  none_in : (us : List Term) → AllByRecursion (λ u. IsClean u → fresh_has i u ≡ false) us → AreClean us → list_any (λ b. b) (map (fresh_has i) us) ≡ false
  none_in [] a c = refl
  none_in (u ∷ us) a c = ap (λ (b : Bool). b || list_any (λ b. b) (map (fresh_has i) us)) (a.0 c.0) ∙ none_in us a.1 c.1

  none_has : (t : Term) → IsClean t → fresh_has i t ≡ false
  none_has =
      by_terms (λ t. IsClean t → fresh_has i t ≡ false) (λ n c. has_bound n) (λ a b r c. has_num a b r) (λ n s c. absurd (never_empty (Fresh n s) [] (sym (constants_fresh n s) ∙ c)))
      (λ h ss us a c. has_apply h ss us ∙ none_in us a (clean_args h ss us c))

  pub none_of : (ts : List Term) → AreClean ts → list_any (fresh_has i) ts ≡ false
  none_of [] c = refl
  none_of (t ∷ ts) c = ap (λ (b : Bool). b || list_any (fresh_has i) ts) (none_has t c.0) ∙ none_of ts c.1

-- ---- candidates
module _ (d : ℕ) where
  abbrev KeepsClean : Term → Type 0
  KeepsClean t = (u : Term) → IsClean t → outer d t ≡ Some u → IsClean u

  outers_clean : (us ts : List Term) → AllByRecursion KeepsClean us → AreClean us → outers d us ≡ Some ts → AreClean ts
  outers_clean [] ts a c e = subst AreClean (same_Some [] ts e) tt
  outers_clean (u ∷ us) ts a c e =
      let r = cons_some (outer d u) (outers d us) ts e in
      subst AreClean r.4 (a.0 r.0 c.0 r.2, outers_clean us r.1 a.1 c.1 r.3)

  outer_clean : (t : Term) → KeepsClean t
  outer_clean =
      by_terms KeepsClean
      (λ n u c e. subst IsClean (when_some (not (nat_lt n d)) (Bound (n - d)) u (sym (outer_bound d n) ∙ e)).1 (clean_bound (n - d)))
      (λ a b r u c e. subst IsClean (same_Some (Num a b r) u (sym (outer_num d a b r) ∙ e)) c)
      (λ n s u c e. subst IsClean (same_Some (Fresh n s) u (sym (outer_fresh d n s) ∙ e)) c)
      (λ h ss us a u c e.
      let b = bind_some (outers d us) (λ ts. Some (Apply h ss ts)) u (sym (outer_apply d h ss us) ∙ e) in
      subst IsClean (same_Some (Apply h ss b.0) u b.2) (clean_apply h ss b.0 (outers_clean us b.0 a (clean_args h ss us c) b.1)))

  known_clean : (t : Term) → IsClean t → AreClean (known_ones (outer d t ∷ []))
  known_clean t c = by (outer d t) refl
    where
      by : (o : Option Term) → outer d t ≡ o → AreClean (known_ones (o ∷ []))
      by None e = tt
      by (Some u) e = (outer_clean t u c e, tt)

  module _ (sig : Signature) where
    whole_clean : (t : Term) (h : Head) (us : List Term) → IsClean t → AreClean (whole_candidate sig d t h us)
    whole_clean t h us c = by (is_candidate sig h us)
      where
        by : (b : Bool) → AreClean (cond b (known_ones (outer d t ∷ [])) [])
        by true = known_clean t c
        by false = tt

    all_clean : (us : List Term) → AllByRecursion (λ t. IsClean t → AreClean (outer_candidates sig d t)) us → AreClean us → AreClean (outer_candidates_of sig d us)
    all_clean [] a c = tt
    all_clean (u ∷ us) a c = all_append IsClean (outer_candidates sig d u) (outer_candidates_of sig d us) (a.0 c.0) (all_clean us a.1 c.1)

    candidates_clean : (t : Term) → IsClean t → AreClean (outer_candidates sig d t)
    candidates_clean =
        by_terms (λ t. IsClean t → AreClean (outer_candidates sig d t)) (λ n c. subst AreClean (sym (candidates_bound sig d n)) tt) (λ a b r c. subst AreClean (sym (candidates_num sig d a b r)) tt)
        (λ n s c. subst AreClean (sym (candidates_fresh sig d n s)) tt)
        (λ h ss us a c. subst AreClean (sym (candidates_apply sig d h ss us))
        (all_append IsClean (whole_candidate sig d (Apply h ss us) h us) (outer_candidates_of sig d us) (whole_clean (Apply h ss us) h us c) (all_clean us a (clean_args h ss us c))))

    two_clean : (a b : Term) (found : List Term) → constants a ++ constants b ≡ [] → AreClean found → AreClean ((found ++ outer_candidates sig d a) ++ outer_candidates sig d b)
    two_clean a b found e f =
        let r = empty_parts (constants a) (constants b) e in
        all_append IsClean (found ++ outer_candidates sig d a) (outer_candidates sig d b) (all_append IsClean found (outer_candidates sig d a) f (candidates_clean a r.0)) (candidates_clean b r.1)

-- ---- bodies
abbrev quant_constants : Quant-F (List Term) (List Term) → List Term
quant_constants q = flat_map (flat_map constants) q.triggers ++ q.body

constants_eq : (a b : Term) → formula_constants (Eq a b) ≡ constants a ++ constants b
unfolding formula_constants
constants_eq a b = fold_eq (List Term) (List Term) formula_constants_step quant_constants a b

constants_lt : (a b : Term) → formula_constants (Lt a b) ≡ constants a ++ constants b
unfolding formula_constants
constants_lt a b = fold_lt (List Term) (List Term) formula_constants_step quant_constants a b

constants_le : (a b : Term) → formula_constants (Le a b) ≡ constants a ++ constants b
unfolding formula_constants
constants_le a b = fold_le (List Term) (List Term) formula_constants_step quant_constants a b

constants_pred : (p : ℕ) (ss : List Sort) (us : List Term) → formula_constants (Pred p ss us) ≡ flat_map constants us
unfolding formula_constants
constants_pred p ss us = fold_pred (List Term) (List Term) formula_constants_step quant_constants p ss us

constants_not : (a : Formula) → formula_constants (Not a) ≡ formula_constants a
unfolding formula_constants
constants_not a = fold_not (List Term) (List Term) formula_constants_step quant_constants a

constants_and : (a b : Formula) → formula_constants (And a b) ≡ formula_constants a ++ formula_constants b
unfolding formula_constants
constants_and a b = fold_and (List Term) (List Term) formula_constants_step quant_constants a b

constants_or : (a b : Formula) → formula_constants (Or a b) ≡ formula_constants a ++ formula_constants b
unfolding formula_constants
constants_or a b = fold_or (List Term) (List Term) formula_constants_step quant_constants a b

constants_xor : (a b : Formula) → formula_constants (Xor a b) ≡ formula_constants a ++ formula_constants b
unfolding formula_constants
constants_xor a b = fold_xor (List Term) (List Term) formula_constants_step quant_constants a b

constants_iff : (a b : Formula) → formula_constants (Iff a b) ≡ formula_constants a ++ formula_constants b
unfolding formula_constants
constants_iff a b = fold_iff (List Term) (List Term) formula_constants_step quant_constants a b

constants_all : (q : Quant) → formula_constants (All q) ≡ flat_map (flat_map constants) q.triggers ++ formula_constants q.body
unfolding formula_constants
constants_all q = fold_all (List Term) (List Term) formula_constants_step quant_constants q ∙ fold_block (List Term) (List Term) formula_constants_step quant_constants q

constants_ex : (q : Quant) → formula_constants (Ex q) ≡ flat_map (flat_map constants) q.triggers ++ formula_constants q.body
unfolding formula_constants
constants_ex q = fold_ex (List Term) (List Term) formula_constants_step quant_constants q ∙ fold_block (List Term) (List Term) formula_constants_step quant_constants q

module _ (sig : Signature) where
  abbrev HasCleanBody : Formula → Type 0
  HasCleanBody f = (d : ℕ) (found : List Term) → formula_constants f ≡ [] → AreClean found → AreClean (with_body sig d f found)

  abbrev HasCleanBlock : Quant → Type 0
  HasCleanBlock q = (d : ℕ) (found : List Term) → flat_map (flat_map constants) q.triggers ++ formula_constants q.body ≡ [] → AreClean found → AreClean (with_body sig d q.body found)

  both_clean : (a b h : Formula) (d : ℕ) (found : List Term) → HasCleanBody a → HasCleanBody b → formula_constants h ≡ formula_constants a ++ formula_constants b
      → with_body sig d h found ≡ with_body sig d b (with_body sig d a found) → formula_constants h ≡ [] → AreClean found → AreClean (with_body sig d h found)
  both_clean a b h d found x y own is e f =
      let r = empty_parts (formula_constants a) (formula_constants b) (sym own ∙ e) in
      subst AreClean (sym is) (y d (with_body sig d a found) r.1 (x d found r.0 f))

  clean_body : (f : Formula) → HasCleanBody f
  clean_body =
      by_formulas HasCleanBody HasCleanBlock (λ d found e f. subst AreClean (sym (with_true sig d found)) f) (λ d found e f. subst AreClean (sym (with_false sig d found)) f)
      (λ a b d found e f. subst AreClean (sym (with_eq sig d found a b)) (two_clean d sig a b found (sym (constants_eq a b) ∙ e) f))
      (λ a b d found e f. subst AreClean (sym (with_lt sig d found a b)) (two_clean d sig a b found (sym (constants_lt a b) ∙ e) f))
      (λ a b d found e f. subst AreClean (sym (with_le sig d found a b)) (two_clean d sig a b found (sym (constants_le a b) ∙ e) f))
      (λ p ss us d found e f. subst AreClean (sym (with_pred sig d found p ss us))
      (all_append IsClean found (outer_candidates sig d (Apply (head.Symbol p) ss us)) f
      (candidates_clean d sig (Apply (head.Symbol p) ss us) (clean_apply (head.Symbol p) ss us (clean_each us (sym (constants_pred p ss us) ∙ e))))))
      (λ a x d found e f. subst AreClean (sym (with_not sig d found a)) (x d found (sym (constants_not a) ∙ e) f))
      (λ a b x y d found e f. both_clean a b (And a b) d found x y (constants_and a b) (with_and sig d found a b) e f)
      (λ a b x y d found e f. both_clean a b (Or a b) d found x y (constants_or a b) (with_or sig d found a b) e f)
      (λ a b x y d found e f. both_clean a b (Xor a b) d found x y (constants_xor a b) (with_xor sig d found a b) e f)
      (λ a b x y d found e f. both_clean a b (Iff a b) d found x y (constants_iff a b) (with_iff sig d found a b) e f)
      (λ q x d found e f. subst AreClean (sym (with_all sig d found q)) (x (d + length q.sorts) found (sym (constants_all q) ∙ e) f))
      (λ q x d found e f. subst AreClean (sym (with_ex sig d found q)) (x (d + length q.sorts) found (sym (constants_ex q) ∙ e) f))
      (λ q x d found e f. x d found (empty_parts (flat_map (flat_map constants) q.triggers) (formula_constants q.body) e).1 f)

-- ---- triggers
either_clean : (b : Bool) (xs ys : List Term) → AreClean xs → AreClean ys → AreClean (cond b xs ys)
either_clean true xs ys x y = x
either_clean false xs ys x y = y

once_clean : (seen ts : List Term) → AreClean ts → AreClean (once_each seen ts)
once_clean seen [] c = tt
once_clean seen (t ∷ ts) c = either_clean (is_among seen t) (once_each seen ts) (t ∷ once_each (t ∷ seen) ts) (once_clean seen ts c.1) (c.0, once_clean (t ∷ seen) ts c.1)

kept_clean : (f : Term → Bool) (ts : List Term) → AreClean ts → AreClean (kept f ts)
kept_clean f [] c = tt
kept_clean f (t ∷ ts) c = either_clean (f t) (t ∷ kept f ts) (kept f ts) (c.0, kept_clean f ts c.1) (kept_clean f ts c.1)

adding_clean : (want : List (Bool × ℕ)) (taken ts : List Term) → AreClean ts → AreClean (adding want taken ts)
adding_clean want taken [] c = tt
adding_clean want taken (t ∷ ts) c =
    either_clean (list_any (λ v. occurs v t && not (list_any (occurs v) taken)) want) (t ∷ adding want (taken ++ t ∷ []) ts) (adding want taken ts) (c.0, adding_clean want (taken ++ t ∷ []) ts c.1)
    (adding_clean want taken ts c.1)

joint_clean : (want : List (Bool × ℕ)) (ts : List Term) → AreClean ts → AllByRecursion AreClean (joint want ts)
joint_clean want [] c = tt
joint_clean want (t ∷ ts) c = by (list_all (λ v. list_any (occurs v) (t ∷ ts)) want)
  where
    by : (b : Bool) → AllByRecursion AreClean (cond b ((t ∷ ts) ∷ []) [])
    by true = (c, tt)
    by false = tt

singles_clean : (ts : List Term) → AreClean ts → AllByRecursion AreClean (map (λ u. u ∷ []) ts)
singles_clean [] c = tt
singles_clean (t ∷ ts) c = ((c.0, tt), singles_clean ts c.1)

take_clean : (n : ℕ) (ts : List Term) → AreClean ts → AreClean (take n ts)
take_clean zero ts c = tt
take_clean (suc n) [] c = tt
take_clean (suc n) (t ∷ ts) c = (c.0, take_clean n ts c.1)

made_by_clean : (want : List (Bool × ℕ)) (all few : List Term) → AreClean all → AreClean few → AllByRecursion AreClean (made_by want all few)
made_by_clean want all [] a f = joint_clean want (adding want [] all) (adding_clean want [] all a)
made_by_clean want all (t ∷ ts) a f = singles_clean (take 10 (t ∷ ts)) (take_clean 10 (t ∷ ts) f)

body_candidates_clean : (sig : Signature) (f : Formula) → formula_constants f ≡ [] → AreClean (body_candidates sig f)
unfolding body_candidates with_body
body_candidates_clean sig f e = once_clean [] (with_body sig 0 f []) (clean_body sig f 0 [] e tt)

made_clean : (sig : Signature) (type_vars vars : ℕ) (f : Formula) → formula_constants f ≡ [] → AllByRecursion AreClean (made sig type_vars vars f)
made_clean sig type_vars vars f e =
    let all = body_candidates sig f in
    let want = wanted type_vars vars in
    let a = body_candidates_clean sig f e in
    let few = kept (has_all want) all in
    made_by_clean want all (smallest few) a (kept_clean (λ t. not (list_any (λ u. stands_inside u t) few)) few (kept_clean (has_all want) all a))

written_clean : (ts : List (List Term)) → flat_map (flat_map constants) ts ≡ [] → AllByRecursion AreClean ts
written_clean [] e = tt
written_clean (t ∷ ts) e = let r = empty_parts (flat_map constants t) (flat_map (flat_map constants) ts) e in (clean_each t r.0, written_clean ts r.1)

triggers_clean : (sig : Signature) (type_vars vars : ℕ) (ts : List (List Term)) (f : Formula) → flat_map (flat_map constants) ts ≡ [] → formula_constants f ≡ [] → AllByRecursion AreClean (triggers sig type_vars vars ts f)
triggers_clean sig type_vars vars [] f w e = made_clean sig type_vars vars f e
triggers_clean sig type_vars vars (t ∷ ts) f w e = written_clean (t ∷ ts) w

-- ---- of an axiom
pub axiom_choices_clean : (sig : Signature) (v : ℕ) (f : Formula) → formula_constants f ≡ [] → (y : Formula-F Formula Quant) → out-Formula f ≡ y → AllByRecursion AreClean (states.axiom_pattern sig v f y).choices
axiom_choices_clean sig v f e (layer.All q) o =
    let r = empty_parts (flat_map (flat_map constants) q.triggers) (formula_constants q.body) (sym (constants_all q) ∙ ap formula_constants (sym (rolls-All q) ∙ ap roll-Formula (sym o) ∙ roll-out-Formula f) ∙ e) in
    triggers_clean sig v (length q.sorts) q.triggers q.body r.0 r.1
axiom_choices_clean sig v f e (layer.Ex q) o = made_clean sig v 0 f e
axiom_choices_clean sig v f e layer.True o = made_clean sig v 0 f e
axiom_choices_clean sig v f e layer.False o = made_clean sig v 0 f e
axiom_choices_clean sig v f e (layer.Eq a b) o = made_clean sig v 0 f e
axiom_choices_clean sig v f e (layer.Lt a b) o = made_clean sig v 0 f e
axiom_choices_clean sig v f e (layer.Le a b) o = made_clean sig v 0 f e
axiom_choices_clean sig v f e (layer.Pred p ss us) o = made_clean sig v 0 f e
axiom_choices_clean sig v f e (layer.Not a) o = made_clean sig v 0 f e
axiom_choices_clean sig v f e (layer.And a b) o = made_clean sig v 0 f e
axiom_choices_clean sig v f e (layer.Or a b) o = made_clean sig v 0 f e
axiom_choices_clean sig v f e (layer.Xor a b) o = made_clean sig v 0 f e
axiom_choices_clean sig v f e (layer.Iff a b) o = made_clean sig v 0 f e
