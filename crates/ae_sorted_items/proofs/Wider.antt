-- What is well sorted stays so where more sorts may stand.
use Rattle.std.specs.Prelude.{ℕ, Bool, true, false, ◌&&◌, List, [], ◌∷◌, ◌++◌, ◌≡◌, map, length, slice_get, Option, Some, None}
use Rattle.std.specs.List.{AllByRecursion, list_all}
use Rattle.std.proofs.Common.{refl, sym, ap, ◌∙◌, subst, true≢false}
use Rattle.std.proofs.lemmas.Bool.{and_from, and_parts, or_left, or_right}
use Rattle.ae_base.specs.Options.{known, only, when, all_known, or_else, ◌>>=◌}
use Rattle.ae_base.proofs.AllOf.{all_always}
use Rattle.ae_base.proofs.ListFacts.{list_all_weaker}
use Rattle.ae_base.proofs.Options.{Refines, bind_refines, known_refine, known_refines, only_refines, only_some, when_some}
use Rattle.ae_base.proofs.Tests.{by_either}
use Rattle.ae_core.specs.Inner.Induction.{by_sorts, by_terms, by_formulas}
use Rattle.ae_core.specs.Sorts.{sort_ok, type_fits, sort_in, head_sort, predicate_ok, predicate_fits, applied_ok, trigger_ok, formula_in, quant_in}
use Rattle.ae_core.specs.declared.formulas.Formula.{Formula, And, Or, Xor, Iff}
use Rattle.ae_core.specs.declared.formulas.Quant.{Quant}
use Rattle.ae_core.specs.declared.problems.Signature.{Signature}
use Rattle.ae_core.specs.declared.terms.Head.{Head}
use Rattle.ae_core.specs.declared.terms.Head.TheVariants as head
use Rattle.ae_core.specs.declared.terms.Sort.{Sort}
use Rattle.ae_core.specs.declared.terms.Term.{Term, Term-F, Apply, out-Term}
use Rattle.ae_core.specs.declared.terms.Term.TheOpen as layer
use Rattle.ae_core.proofs.PutSorts.{map_identity, same_refine, numeric_refine}
use Rattle.ae_core.proofs.SortLaws.{ok_var, ok_rigid, ok_int, ok_real, ok_bool, ok_unit, ok_named, sort_in_bound, sort_in_num, sort_in_fresh, sort_in_apply}
use Rattle.ae_core.proofs.SortLaws.{formula_in_true, formula_in_false, formula_in_eq, formula_in_lt, formula_in_le, formula_in_pred, formula_in_not}
use Rattle.ae_core.proofs.SortLaws.{formula_in_all, formula_in_ex, formula_in_and, formula_in_or, formula_in_xor, formula_in_iff, quant_in_block}

-- ---- sorts
module _ (sig : Signature) (vars rigids vars' rigids' : ℕ → Bool) (more_vars : (i : ℕ) → vars i ≡ true → vars' i ≡ true) (more_rigids : (i : ℕ) → rigids i ≡ true → rigids' i ≡ true) where
  abbrev StaysOk : Sort → Type 0
  StaysOk s = sort_ok sig vars rigids s ≡ true → sort_ok sig vars' rigids' s ≡ true

  all_ok : (ss : List Sort) → AllByRecursion StaysOk ss → list_all (sort_ok sig vars rigids) ss ≡ true → list_all (sort_ok sig vars' rigids') ss ≡ true
  all_ok [] h e = refl
  all_ok (s ∷ ss) h e = let p = and_parts (sort_ok sig vars rigids s) (list_all (sort_ok sig vars rigids) ss) e in and_from _ _ (h.0 p.0) (all_ok ss h.1 p.1)

  pub sort_wider : (s : Sort) → StaysOk s
  sort_wider =
      by_sorts StaysOk
      (λ i e. ok_var sig vars' rigids' i ∙ more_vars i (sym (ok_var sig vars rigids i) ∙ e))
      (λ i e. ok_rigid sig vars' rigids' i ∙ more_rigids i (sym (ok_rigid sig vars rigids i) ∙ e))
      (λ e. ok_int sig vars' rigids')
      (λ e. ok_real sig vars' rigids')
      (λ e. ok_bool sig vars' rigids')
      (λ e. ok_unit sig vars' rigids')
      (λ h ss a e.
      let p = and_parts (type_fits sig h (length ss)) (list_all (sort_ok sig vars rigids) ss) (sym (ok_named sig vars rigids h ss) ∙ e) in
      ok_named sig vars' rigids' h ss ∙ and_from _ _ p.0 (all_ok ss a p.1))

-- ---- terms, triggers and formulas
only_wider : {A : Type 0} (b c : Bool) (o : Option A) → (b ≡ true → c ≡ true) → Refines (only b o) (only c o)
only_wider b c o h x e = let w = only_some b o x e in ap (λ z. only z o) (h w.0) ∙ w.1

module _ (sig : Signature) (may may' : Sort → Bool) (more : (s : Sort) → may s ≡ true → may' s ≡ true) where
  sorts_wider : (ss : List Sort) → list_all may ss ≡ true → list_all may' ss ≡ true
  sorts_wider ss e = list_all_weaker may may' more ss e

  module _ (env : List Sort) where
    abbrev StaysSorted : Term → Type 0
    StaysSorted t = Refines (sort_in sig may env t) (sort_in sig may' env t)

    arguments : (us : List Term) → AllByRecursion StaysSorted us → Refines (all_known (map (sort_in sig may env) us)) (all_known (map (sort_in sig may' env) us))
    arguments us a =
        subst (λ vs. Refines (all_known (map (sort_in sig may env) us)) (all_known (map (sort_in sig may' env) vs))) (sym (map_identity us))
        (known_refines (sort_in sig may env) (sort_in sig may' env) (λ u. u) us a)

    application : (h : Head) (ss : List Sort) (us : List Term) → AllByRecursion StaysSorted us → StaysSorted (Apply h ss us)
    application h ss us a x e =
        let given : (only (list_all may ss) (all_known (map (sort_in sig may env) us)) >>= head_sort sig h ss) ≡ Some x = sym (sort_in_apply sig may env h ss us) ∙ e in
        let first = bind_refines (only (list_all may ss) (all_known (map (sort_in sig may env) us))) (only (list_all may' ss) (all_known (map (sort_in sig may env) us))) (head_sort sig h ss)
        (only_wider (list_all may ss) (list_all may' ss) (all_known (map (sort_in sig may env) us)) (sorts_wider ss)) x given in
        let second = bind_refines (only (list_all may' ss) (all_known (map (sort_in sig may env) us))) (only (list_all may' ss) (all_known (map (sort_in sig may' env) us))) (head_sort sig h ss)
        (only_refines (list_all may' ss) (all_known (map (sort_in sig may env) us)) (all_known (map (sort_in sig may' env) us)) (arguments us a)) x first in
        sort_in_apply sig may' env h ss us ∙ second

    pub term_wider : (t : Term) → StaysSorted t
    term_wider =
        by_terms StaysSorted
        (λ i x e. sort_in_bound sig may' env i ∙ sym (sort_in_bound sig may env i) ∙ e)
        (λ a b r x e. sort_in_num sig may' env a b r ∙ sym (sort_in_num sig may env a b r) ∙ e)
        (λ n s x e.
        let w = when_some (may s) s x (sym (sort_in_fresh sig may env n s) ∙ e) in
        sort_in_fresh sig may' env n s ∙ ap (λ b. when b s) (more s w.0) ∙ ap Some w.1)
        application

    terms_wider : (us : List Term) → Refines (all_known (map (sort_in sig may env) us)) (all_known (map (sort_in sig may' env) us))
    terms_wider us = arguments us (all_always StaysSorted term_wider us)

    predicate_by : (p : ℕ) (ss : List Sort) (o q : Option (List Sort)) → Refines o q → predicate_ok sig may p ss o ≡ true → predicate_ok sig may' p ss q ≡ true
    predicate_by p ss (Some args) q r e =
        let w = and_parts (list_all may ss) (or_else (slice_get sig.symbols p >>= λ e. Some (predicate_fits ss args e)) false) e in
        ap (predicate_ok sig may' p ss) (r args refl) ∙ and_from _ _ (sorts_wider ss w.0) w.1
    predicate_by p ss None q r e = absurd (true≢false (sym e))

    predicate_wider : (p : ℕ) (ss : List Sort) (us : List Term) → predicate_ok sig may p ss (all_known (map (sort_in sig may env) us)) ≡ true → predicate_ok sig may' p ss (all_known (map (sort_in sig may' env) us)) ≡ true
    predicate_wider p ss us e = predicate_by p ss _ _ (terms_wider us) e

    head_wider : (h : Head) (ss : List Sort) (us : List Term) → applied_ok sig may env (layer.Apply h ss us) ≡ true → applied_ok sig may' env (layer.Apply h ss us) ≡ true
    head_wider (head.Symbol p) ss us e = predicate_wider p ss us e
    head_wider (head.Build n) ss us e = absurd (true≢false (sym e))
    head_wider (head.Field n i) ss us e = absurd (true≢false (sym e))
    head_wider (head.Int o) ss us e = absurd (true≢false (sym e))
    head_wider (head.Real o) ss us e = absurd (true≢false (sym e))
    head_wider head.True ss us e = absurd (true≢false (sym e))
    head_wider head.False ss us e = absurd (true≢false (sym e))
    head_wider head.Void ss us e = absurd (true≢false (sym e))

    applied_wider : (l : Term-F Term) → applied_ok sig may env l ≡ true → applied_ok sig may' env l ≡ true
    applied_wider (layer.Apply h ss us) e = head_wider h ss us e
    applied_wider (layer.Bound i) e = absurd (true≢false (sym e))
    applied_wider (layer.Num a b r) e = absurd (true≢false (sym e))
    applied_wider (layer.Fresh n s) e = absurd (true≢false (sym e))

    trigger_wider : (t : Term) → trigger_ok sig may env t ≡ true → trigger_ok sig may' env t ≡ true
    trigger_wider t e =
        by_either (known (sort_in sig may env t)) (applied_ok sig may env (out-Term t)) e
        (λ k. or_left (known (sort_in sig may' env t)) (applied_ok sig may' env (out-Term t)) (known_refine _ _ (term_wider t) k))
        (λ a. or_right (known (sort_in sig may' env t)) (applied_ok sig may' env (out-Term t)) (applied_wider (out-Term t) a))

    triggers_wider : (ts : List (List Term)) → list_all (list_all (trigger_ok sig may env)) ts ≡ true → list_all (list_all (trigger_ok sig may' env)) ts ≡ true
    triggers_wider ts e =
        list_all_weaker (list_all (trigger_ok sig may env)) (list_all (trigger_ok sig may' env)) (λ us o. list_all_weaker (trigger_ok sig may env) (trigger_ok sig may' env) trigger_wider us o) ts e

  abbrev Stays : Formula → Type 0
  Stays f = (env : List Sort) → formula_in sig may env f ≡ true → formula_in sig may' env f ≡ true

  abbrev BlockStays : Quant → Type 0
  BlockStays q = (env : List Sort) → quant_in sig may env q ≡ true → quant_in sig may' env q ≡ true

  two_stay : (rule : Formula → Formula → Formula) → ((m : Sort → Bool) (env : List Sort) (a b : Formula) → formula_in sig m env (rule a b) ≡ (formula_in sig m env a && formula_in sig m env b))
      → (a b : Formula) → Stays a → Stays b → Stays (rule a b)
  two_stay rule is a b h k env e =
      let p = and_parts (formula_in sig may env a) (formula_in sig may env b) (sym (is may env a b) ∙ e) in
      is may' env a b ∙ and_from _ _ (h env p.0) (k env p.1)

  block_stays : (q : Quant) → Stays q.body → BlockStays q
  block_stays q h env e =
      let inside = env ++ q.sorts in
      let p = and_parts (list_all may q.sorts && list_all (list_all (trigger_ok sig may inside)) q.triggers) (formula_in sig may inside q.body) (sym (quant_in_block sig may env q) ∙ e) in
      let r = and_parts (list_all may q.sorts) (list_all (list_all (trigger_ok sig may inside)) q.triggers) p.0 in
      quant_in_block sig may' env q ∙ and_from _ _ (and_from _ _ (sorts_wider q.sorts r.0) (triggers_wider inside q.triggers r.1)) (h inside p.1)

  pub formula_wider : (f : Formula) → Stays f
  formula_wider =
      by_formulas Stays BlockStays
      (λ env e. formula_in_true sig may' env)
      (λ env e. formula_in_false sig may' env)
      (λ a b env e. formula_in_eq sig may' env a b ∙ same_refine _ _ _ _ (term_wider env a) (term_wider env b) (sym (formula_in_eq sig may env a b) ∙ e))
      (λ a b env e. formula_in_lt sig may' env a b ∙ numeric_refine _ _ _ _ (term_wider env a) (term_wider env b) (sym (formula_in_lt sig may env a b) ∙ e))
      (λ a b env e. formula_in_le sig may' env a b ∙ numeric_refine _ _ _ _ (term_wider env a) (term_wider env b) (sym (formula_in_le sig may env a b) ∙ e))
      (λ p ss us env e. formula_in_pred sig may' env p ss us ∙ predicate_wider env p ss us (sym (formula_in_pred sig may env p ss us) ∙ e))
      (λ a h env e. formula_in_not sig may' env a ∙ h env (sym (formula_in_not sig may env a) ∙ e))
      (λ a b h k. two_stay And (λ m. formula_in_and sig m) a b h k)
      (λ a b h k. two_stay Or (λ m. formula_in_or sig m) a b h k)
      (λ a b h k. two_stay Xor (λ m. formula_in_xor sig m) a b h k)
      (λ a b h k. two_stay Iff (λ m. formula_in_iff sig m) a b h k)
      (λ q h env e. formula_in_all sig may' env q ∙ h env (sym (formula_in_all sig may env q) ∙ e))
      (λ q h env e. formula_in_ex sig may' env q ∙ h env (sym (formula_in_ex sig may env q) ∙ e))
      block_stays
