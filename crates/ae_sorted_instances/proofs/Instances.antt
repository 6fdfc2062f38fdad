-- Closed sorts put for the type variables of well-sorted terms, triggers and formulas.
use Rattle.std.specs.Prelude.{ℕ, ℤ, Bool, true, false, cond, ◌&&◌, nat_eq, List, [], ◌∷◌, ◌++◌, ◌≡◌, map, length, reverse, slice_get, Option, Some, None}
use Rattle.std.specs.List.{AllByRecursion, list_all}
use Rattle.std.proofs.Common.{refl, sym, ap, ◌∙◌, subst}
use Rattle.std.proofs.lemmas.Bool.{and_from, and_parts, eqb-true, or_left, or_right}
use Rattle.std.proofs.lemmas.List.{map-append}
use Rattle.std.proofs.lemmas.Option.{same_Some}
use Rattle.ae_base.specs.Options.{known, only, when, all_known, or_else, ◌>>=◌}
use Rattle.ae_base.proofs.AllOf.{all_always}
use Rattle.ae_base.proofs.Decided.{decided_of, decided_yes}
use Rattle.ae_base.proofs.ListFacts.{get_map, list_all_moved, map_reverse}
use Rattle.ae_base.proofs.Options.{bind_some, cons_some, known_some, only_some, when_some}
use Rattle.ae_base.proofs.Tests.{by_either, false_true}
use Rattle.ae_core.specs.Decided.{Sort_discrete}
use Rattle.ae_core.specs.Inner.Induction.{by_terms, by_formulas}
use Rattle.ae_core.specs.Putting.{put_sort, instance_term, instance, instance_quant}
use Rattle.ae_core.specs.Signatures.{is_sort_over, IsLawful}
use Rattle.ae_core.specs.Sorts.{is_closed_sort, sort_in, head_sort, numeral_ok, same_sort, same_sorts, same_known, same_numeric, is_numeric, predicate_ok, predicate_fits, applied_ok, trigger_ok, formula_in, quant_in}
use Rattle.ae_core.specs.declared.formulas.Formula.{Formula, And, Or, Xor, Iff}
use Rattle.ae_core.specs.declared.formulas.Quant.{Quant}
use Rattle.ae_core.specs.declared.problems.Signature.{Signature}
use Rattle.ae_core.specs.declared.problems.SymbolEntry.{SymbolEntry}
use Rattle.ae_core.specs.declared.terms.Head.{Head}
use Rattle.ae_core.specs.declared.terms.Head.TheVariants as head
use Rattle.ae_core.specs.declared.terms.Sort.{Sort, Int, Real}
use Rattle.ae_core.specs.declared.terms.Term.{Term, Term-F, Bound, Num, Fresh, Apply, out-Term, out-roll-Term}
use Rattle.ae_core.specs.declared.terms.Term.TheOpen as layer
use Rattle.ae_core.specs.declared.terms.Term.TheVariants.{rolls-Apply, rolls-Bound, rolls-Num, rolls-Fresh}
use Rattle.ae_core.proofs.ClosedSorts.{put_closed}
use Rattle.ae_core.proofs.PuttingLaws.{put_int, put_real, instance_bound, instance_num, instance_fresh, instance_apply}
use Rattle.ae_core.proofs.PuttingLaws.{instance_true, instance_false, instance_eq, instance_lt, instance_le, instance_pred, instance_not, instance_and, instance_or, instance_xor, instance_iff, instance_all, instance_ex, instance_block}
use Rattle.ae_core.proofs.SortLaws.{sort_in_bound, sort_in_num, sort_in_fresh, sort_in_apply}
use Rattle.ae_core.proofs.SortLaws.{formula_in_true, formula_in_false, formula_in_eq, formula_in_lt, formula_in_le, formula_in_pred, formula_in_not}
use Rattle.ae_core.proofs.SortLaws.{formula_in_all, formula_in_ex, formula_in_and, formula_in_or, formula_in_xor, formula_in_iff, quant_in_block}
use Rattle.ae_sorted_instances.proofs.Composed.{each_composes, fits_put, head_put}

module _ (sig : Signature) (law : IsLawful sig) (ss : List Sort) (closes : list_all (is_closed_sort sig) ss ≡ true) where
  abbrev over : Sort → Bool
  over = is_sort_over sig (length ss)

  abbrev closed : Sort → Bool
  closed = is_closed_sort sig

  abbrev put : Sort → Sort
  put = put_sort ss

  -- where the one has a sort, the other has it with the sorts put
  abbrev Puts : Option Sort → Option Sort → Type 0
  Puts o q = (s : Sort) → o ≡ Some s → q ≡ Some (put s)

  sorts_closed : (os : List Sort) → list_all over os ≡ true → list_all closed (map put os) ≡ true
  sorts_closed os h = list_all_moved over closed put (put_closed sig ss closes) os h

  -- ---- terms
  module _ (env : List Sort) where
    abbrev PutsTerm : Term → Type 0
    PutsTerm t = Puts (sort_in sig over env t) (sort_in sig closed (map put env) (instance_term ss t))

    known_put : (us : List Term) (args : List Sort) → AllByRecursion PutsTerm us → all_known (map (sort_in sig over env) us) ≡ Some args
        → all_known (map (sort_in sig closed (map put env)) (map (instance_term ss) us)) ≡ Some (map put args)
    known_put [] args a e = ap (λ (z : List Sort). Some (map put z)) (same_Some [] args e)
    known_put (u ∷ us) args a e =
        let c = cons_some (sort_in sig over env u) (all_known (map (sort_in sig over env) us)) args e in
        ap (λ (o : Option Sort). o >>= λ x. all_known (map (sort_in sig closed (map put env)) (map (instance_term ss) us)) >>= λ xs. Some (x ∷ xs)) (a.0 c.0 c.2)
        ∙ ap (λ (o : Option (List Sort)). o >>= λ xs. Some (put c.0 ∷ xs)) (known_put us c.1 a.1 c.3)
        ∙ ap (λ (z : List Sort). Some (map put z)) c.4

    bound_put : (i : ℕ) → PutsTerm (Bound i)
    bound_put i s e =
        ap (sort_in sig closed (map put env)) (instance_bound ss i) ∙ sort_in_bound sig closed (map put env) i
        ∙ ap (λ (zs : List Sort). slice_get zs i) (sym (map_reverse put env)) ∙ get_map put (reverse env) i s (sym (sort_in_bound sig over env i) ∙ e)

    numeric_put : (r : Bool) → put (cond r Real Int) ≡ cond r Real Int
    numeric_put true = put_real ss
    numeric_put false = put_int ss

    num_put : (a b : ℤ) (r : Bool) → PutsTerm (Num a b r)
    num_put a b r s e =
        let w = when_some (numeral_ok a b r) (cond r Real Int) s (sym (sort_in_num sig over env a b r) ∙ e) in
        ap (sort_in sig closed (map put env)) (instance_num ss a b r) ∙ sort_in_num sig closed (map put env) a b r
        ∙ ap (λ (c : Bool). when c (cond r Real Int)) w.0 ∙ ap (λ (z : Sort). Some z) (sym (numeric_put r) ∙ ap put w.1)

    fresh_put : (n : ℕ) (u : Sort) → PutsTerm (Fresh n u)
    fresh_put n u s e =
        let w = when_some (over u) u s (sym (sort_in_fresh sig over env n u) ∙ e) in
        ap (sort_in sig closed (map put env)) (instance_fresh ss n u) ∙ sort_in_fresh sig closed (map put env) n (put u)
        ∙ ap (λ (c : Bool). when c (put u)) (put_closed sig ss closes u w.0) ∙ ap (λ (z : Sort). Some (put z)) w.1

    apply_put : (h : Head) (os : List Sort) (us : List Term) → AllByRecursion PutsTerm us → PutsTerm (Apply h os us)
    apply_put h os us a s e =
        let given : (only (list_all over os) (all_known (map (sort_in sig over env) us)) >>= head_sort sig h os) ≡ Some s = sym (sort_in_apply sig over env h os us) ∙ e in
        let x = bind_some (only (list_all over os) (all_known (map (sort_in sig over env) us))) (head_sort sig h os) s given in
        let y = only_some (list_all over os) (all_known (map (sort_in sig over env) us)) x.0 x.1 in
        ap (sort_in sig closed (map put env)) (instance_apply ss h os us) ∙ sort_in_apply sig closed (map put env) h (map put os) (map (instance_term ss) us)
        ∙ ap (λ (c : Bool). only c (all_known (map (sort_in sig closed (map put env)) (map (instance_term ss) us))) >>= head_sort sig h (map put os)) (sorts_closed os y.0)
        ∙ ap (λ (o : Option (List Sort)). o >>= head_sort sig h (map put os)) (known_put us x.0 a y.1)
        ∙ head_put sig ss law h os x.0 s x.2

    term_put : (t : Term) → PutsTerm t
    term_put = by_terms PutsTerm bound_put num_put fresh_put apply_put

    terms_put : (us : List Term) (args : List Sort) → all_known (map (sort_in sig over env) us) ≡ Some args
        → all_known (map (sort_in sig closed (map put env)) (map (instance_term ss) us)) ≡ Some (map put args)
    terms_put us args e = known_put us args (all_always PutsTerm term_put us) e

  -- ---- equations, inequalities, predicates
  equal_put : (o q o' q' : Option Sort) → Puts o o' → Puts q q' → same_known o q ≡ true → same_known o' q' ≡ true
  equal_put (Some s) (Some t) o' q' a b e =
      (λ i. same_known (a s refl i) (b t refl i)) ∙ decided_of (Sort_discrete (put s) (put t)) (ap put (decided_yes (Sort_discrete s t) e))
  equal_put (Some s) None o' q' a b e = false_true e
  equal_put None q o' q' a b e = false_true e

  numeric_kept : (s : Sort) → is_numeric s ≡ true → is_numeric (put s) ≡ true
  numeric_kept s e =
      by_either (same_sort s Int) (same_sort s Real) e
      (λ k. or_left (same_sort (put s) Int) (same_sort (put s) Real) (decided_of (Sort_discrete (put s) Int) (ap put (decided_yes (Sort_discrete s Int) k) ∙ put_int ss)))
      (λ k. or_right (same_sort (put s) Int) (same_sort (put s) Real) (decided_of (Sort_discrete (put s) Real) (ap put (decided_yes (Sort_discrete s Real) k) ∙ put_real ss)))

  ordered_put : (o q o' q' : Option Sort) → Puts o o' → Puts q q' → same_numeric o q ≡ true → same_numeric o' q' ≡ true
  ordered_put (Some s) (Some t) o' q' a b e =
      let p = and_parts (same_sort s t) (is_numeric s) e in
      (λ i. same_numeric (a s refl i) (b t refl i)) ∙ and_from _ _ (decided_of (Sort_discrete (put s) (put t)) (ap put (decided_yes (Sort_discrete s t) p.0))) (numeric_kept s p.1)
  ordered_put (Some s) None o' q' a b e = false_true e
  ordered_put None q o' q' a b e = false_true e

  module _ (p : ℕ) (os : List Sort) where
    fits : (args : List Sort) (e : SymbolEntry) (r : Option Sort) → slice_get sig.symbols p ≡ Some e → e.result ≡ r → predicate_fits os args e ≡ true → predicate_fits (map put os) (map put args) e ≡ true
    fits args e (Some s) at q h = false_true (let h' : false ≡ true = rw q at h in h')
    fits args e None at q h =
        let h' : nat_eq (length os) e.vars && same_sorts args (map (put_sort os) e.args) ≡ true = rw q at h in
        let l : length os ≡ e.vars = eqb-true (length os) e.vars (and_parts (nat_eq (length os) e.vars) (same_sorts args (map (put_sort os) e.args)) h').0 in
        let each : list_all (is_sort_over sig (length os)) e.args ≡ true = ap (λ (k : ℕ). list_all (is_sort_over sig k) e.args) l ∙ (law.symbols p e at).0 in
        rw q (fits_put sig ss os args (map (put_sort os) e.args) (map (put_sort (map put os)) e.args) e.vars h' (each_composes sig ss os e.args each))

    entry : (args : List Sort) (o : Option SymbolEntry) → slice_get sig.symbols p ≡ o → or_else (o >>= λ e. Some (predicate_fits os args e)) false ≡ true
        → or_else (o >>= λ e. Some (predicate_fits (map put os) (map put args) e)) false ≡ true
    entry args (Some e) at h = fits args e e.result at refl h
    entry args None at h = h

    predicate_put : (o q : Option (List Sort)) → ((args : List Sort) → o ≡ Some args → q ≡ Some (map put args)) → predicate_ok sig over p os o ≡ true → predicate_ok sig closed p (map put os) q ≡ true
    predicate_put (Some args) q r e =
        let w = and_parts (list_all over os) (or_else (slice_get sig.symbols p >>= λ e. Some (predicate_fits os args e)) false) e in
        ap (predicate_ok sig closed p (map put os)) (r args refl) ∙ and_from _ _ (sorts_closed os w.0) (entry args (slice_get sig.symbols p) refl w.1)
    predicate_put None q r e = false_true e

  -- ---- triggers
  module _ (env : List Sort) where
    abbrev PutsApplied : Term → Type 0
    PutsApplied t = applied_ok sig over env (out-Term t) ≡ true → applied_ok sig closed (map put env) (out-Term (instance_term ss t)) ≡ true

    out_apply : (h : Head) (os : List Sort) (us : List Term) → out-Term (Apply h os us) ≡ layer.Apply h os us
    out_apply h os us = ap out-Term (sym (rolls-Apply h os us)) ∙ out-roll-Term (layer.Apply h os us)

    never : (l : Term-F Term) (t : Term) → out-Term t ≡ l → applied_ok sig over env l ≡ false → PutsApplied t
    never l t o n e = false_true (sym n ∙ sym (ap (applied_ok sig over env) o) ∙ e)

    by_head : (h : Head) (os : List Sort) (us : List Term) → applied_ok sig over env (layer.Apply h os us) ≡ true → applied_ok sig closed (map put env) (layer.Apply h (map put os) (map (instance_term ss) us)) ≡ true
    by_head (head.Symbol p) os us e = predicate_put p os (all_known (map (sort_in sig over env) us)) (all_known (map (sort_in sig closed (map put env)) (map (instance_term ss) us))) (terms_put env us) e
    by_head (head.Build n) os us e = false_true e
    by_head (head.Field n i) os us e = false_true e
    by_head (head.Int o) os us e = false_true e
    by_head (head.Real o) os us e = false_true e
    by_head head.True os us e = false_true e
    by_head head.False os us e = false_true e
    by_head head.Void os us e = false_true e

    applied_put : (t : Term) → PutsApplied t
    applied_put =
        by_terms PutsApplied
        (λ i. never (layer.Bound i) (Bound i) (ap out-Term (sym (rolls-Bound i)) ∙ out-roll-Term (layer.Bound i)) refl)
        (λ a b r. never (layer.Num a b r) (Num a b r) (ap out-Term (sym (rolls-Num a b r)) ∙ out-roll-Term (layer.Num a b r)) refl)
        (λ n s. never (layer.Fresh n s) (Fresh n s) (ap out-Term (sym (rolls-Fresh n s)) ∙ out-roll-Term (layer.Fresh n s)) refl)
        (λ h os us a e. ap (λ (t : Term). applied_ok sig closed (map put env) (out-Term t)) (instance_apply ss h os us)
        ∙ ap (applied_ok sig closed (map put env)) (out_apply h (map put os) (map (instance_term ss) us)) ∙ by_head h os us (sym (ap (applied_ok sig over env) (out_apply h os us)) ∙ e))

    trigger_put : (t : Term) → trigger_ok sig over env t ≡ true → trigger_ok sig closed (map put env) (instance_term ss t) ≡ true
    trigger_put t e =
        by_either (known (sort_in sig over env t)) (applied_ok sig over env (out-Term t)) e
        (λ k. let s = known_some (sort_in sig over env t) k in
        or_left (known (sort_in sig closed (map put env) (instance_term ss t))) (applied_ok sig closed (map put env) (out-Term (instance_term ss t))) (ap (λ (o : Option Sort). known o) (term_put env t s.0 s.1)))
        (λ a. or_right (known (sort_in sig closed (map put env) (instance_term ss t))) (applied_ok sig closed (map put env) (out-Term (instance_term ss t))) (applied_put t a))

    triggers_put : (ts : List (List Term)) → list_all (list_all (trigger_ok sig over env)) ts ≡ true → list_all (list_all (trigger_ok sig closed (map put env))) (map (map (instance_term ss)) ts) ≡ true
    triggers_put =
        list_all_moved (list_all (trigger_ok sig over env)) (list_all (trigger_ok sig closed (map put env))) (map (instance_term ss))
        (list_all_moved (trigger_ok sig over env) (trigger_ok sig closed (map put env)) (instance_term ss) trigger_put)

  -- ---- formulas
  abbrev PutsFormula : Formula → Type 0
  PutsFormula f = (env : List Sort) → formula_in sig over env f ≡ true → formula_in sig closed (map put env) (instance ss f) ≡ true

  abbrev PutsBlock : Quant → Type 0
  PutsBlock q = (env : List Sort) → quant_in sig over env q ≡ true → quant_in sig closed (map put env) (instance_quant ss q) ≡ true

  both_put : (rule : Formula → Formula → Formula) → ((may : Sort → Bool) (env : List Sort) (a b : Formula) → formula_in sig may env (rule a b) ≡ (formula_in sig may env a && formula_in sig may env b))
      → ((a b : Formula) → instance ss (rule a b) ≡ rule (instance ss a) (instance ss b)) → (a b : Formula) → PutsFormula a → PutsFormula b → PutsFormula (rule a b)
  both_put rule is puts a b h k env e =
      let p = and_parts (formula_in sig over env a) (formula_in sig over env b) (sym (is over env a b) ∙ e) in
      ap (formula_in sig closed (map put env)) (puts a b) ∙ is closed (map put env) (instance ss a) (instance ss b) ∙ and_from _ _ (h env p.0) (k env p.1)

  block_put : (q : Quant) → PutsFormula q.body → PutsBlock q
  block_put q h env e =
      let inside = env ++ q.sorts in
      let p = and_parts (list_all over q.sorts && list_all (list_all (trigger_ok sig over inside)) q.triggers) (formula_in sig over inside q.body) (sym (quant_in_block sig over env q) ∙ e) in
      let r = and_parts (list_all over q.sorts) (list_all (list_all (trigger_ok sig over inside)) q.triggers) p.0 in
      let m : map put inside ≡ map put env ++ map put q.sorts = map-append put env q.sorts in
      let new : Quant = record { sorts = map put q.sorts; triggers = map (map (instance_term ss)) q.triggers; body = instance ss q.body } in
      ap (quant_in sig closed (map put env)) (instance_block ss q) ∙ quant_in_block sig closed (map put env) new
      ∙ and_from _ _ (and_from _ _ (sorts_closed q.sorts r.0)
      (subst (λ (z : List Sort). list_all (list_all (trigger_ok sig closed z)) (map (map (instance_term ss)) q.triggers) ≡ true) m (triggers_put inside q.triggers r.1)))
      (subst (λ (z : List Sort). formula_in sig closed z (instance ss q.body) ≡ true) m (h inside p.1))

  pub formula_put : (f : Formula) → PutsFormula f
  formula_put =
      by_formulas PutsFormula PutsBlock
      (λ env e. ap (formula_in sig closed (map put env)) (instance_true ss) ∙ formula_in_true sig closed (map put env))
      (λ env e. ap (formula_in sig closed (map put env)) (instance_false ss) ∙ formula_in_false sig closed (map put env))
      (λ a b env e. ap (formula_in sig closed (map put env)) (instance_eq ss a b) ∙ formula_in_eq sig closed (map put env) _ _
      ∙ equal_put _ _ _ _ (term_put env a) (term_put env b) (sym (formula_in_eq sig over env a b) ∙ e))
      (λ a b env e. ap (formula_in sig closed (map put env)) (instance_lt ss a b) ∙ formula_in_lt sig closed (map put env) _ _
      ∙ ordered_put _ _ _ _ (term_put env a) (term_put env b) (sym (formula_in_lt sig over env a b) ∙ e))
      (λ a b env e. ap (formula_in sig closed (map put env)) (instance_le ss a b) ∙ formula_in_le sig closed (map put env) _ _
      ∙ ordered_put _ _ _ _ (term_put env a) (term_put env b) (sym (formula_in_le sig over env a b) ∙ e))
      (λ p os us env e. ap (formula_in sig closed (map put env)) (instance_pred ss p os us) ∙ formula_in_pred sig closed (map put env) p (map put os) (map (instance_term ss) us)
      ∙ predicate_put p os _ _ (terms_put env us) (sym (formula_in_pred sig over env p os us) ∙ e))
      (λ a h env e. ap (formula_in sig closed (map put env)) (instance_not ss a) ∙ formula_in_not sig closed (map put env) (instance ss a) ∙ h env (sym (formula_in_not sig over env a) ∙ e))
      (both_put And (formula_in_and sig) (instance_and ss))
      (both_put Or (formula_in_or sig) (instance_or ss))
      (both_put Xor (formula_in_xor sig) (instance_xor ss))
      (both_put Iff (formula_in_iff sig) (instance_iff ss))
      (λ q h env e. ap (formula_in sig closed (map put env)) (instance_all ss q) ∙ formula_in_all sig closed (map put env) (instance_quant ss q) ∙ h env (sym (formula_in_all sig over env q) ∙ e))
      (λ q h env e. ap (formula_in sig closed (map put env)) (instance_ex ss q) ∙ formula_in_ex sig closed (map put env) (instance_quant ss q) ∙ h env (sym (formula_in_ex sig over env q) ∙ e))
      block_put
