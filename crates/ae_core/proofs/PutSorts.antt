-- Putting closed terms of the right sorts for the variables of a block keeps sorts: of terms, triggers and formulas.
use Rattle.std.specs.Prelude.{ℕ, ◌+◌, ◌-◌, ◌<◌, ◌≤◌, ℤ, Bool, true, false, cond, ◌&&◌, nat_lt, List, [], ◌∷◌, ◌++◌, ◌≡◌, map, length, reverse, slice_get, Option, Some, None}
use Rattle.std.specs.List.{AllByRecursion, list_all}
use Rattle.std.proofs.Common.{refl, sym, ap, ◌∙◌, subst, true≢false, arith, append_assoc, append-nil}
use Rattle.std.proofs.lemmas.Bool.{and_from, and_parts, or_left, or_right, ltb-true, ltb-false}
use Rattle.std.proofs.lemmas.Option.{none-some}
use Rattle.std.proofs.lemmas.List.{length-reverse, length-append, reverse-append}
use Rattle.ae_core.specs.Inner.Induction.{by_terms, by_formulas}
use Rattle.ae_core.specs.Sorts.{sort_in, head_sort, variable_sort, formula_in, quant_in, trigger_ok, applied_ok, predicate_ok, same_known, same_numeric}
use Rattle.ae_base.specs.Options.{known, or_else, all_known}
use Rattle.ae_core.specs.Putting.{put_terms, put_formula, put_formula_in, put_quant_in, variable_at}
use Rattle.ae_core.specs.declared.terms.Sort.{Sort}
use Rattle.ae_core.specs.declared.terms.Head.{Head}
use Rattle.ae_core.specs.declared.terms.Head.TheVariants as head
use Rattle.ae_core.specs.declared.terms.Term.{Term, Term-F, Bound, Num, Fresh, Apply, out-Term, out-roll-Term}
use Rattle.ae_core.specs.declared.terms.Term.TheOpen as layer
use Rattle.ae_core.specs.declared.terms.Term.TheVariants.{rolls-Apply, rolls-Bound, rolls-Num, rolls-Fresh}
use Rattle.ae_core.specs.declared.formulas.Formula.{Formula, And, Or, Xor, Iff}
use Rattle.ae_core.specs.declared.formulas.Quant.{Quant}
use Rattle.ae_core.specs.declared.problems.Signature.{Signature}
use Rattle.ae_core.proofs.SortLaws.{sort_in_bound, sort_in_num, sort_in_fresh, sort_in_apply, formula_in_true, formula_in_false, formula_in_eq, formula_in_lt, formula_in_le, formula_in_pred, formula_in_not, formula_in_all, formula_in_ex, formula_in_and, formula_in_or, formula_in_xor, formula_in_iff, quant_in_block}
use Rattle.ae_core.proofs.PuttingLaws.{put_bound, put_num, put_fresh, put_apply, put_true, put_false, put_eq, put_lt, put_le, put_pred, put_not, put_and, put_or, put_xor, put_iff, put_all, put_ex, put_block}
use Rattle.ae_base.proofs.Tests.{by_bool, by_either, three_parts}
use Rattle.ae_base.proofs.Options.{Refines, bind_refines, only_refines, known_refines, known_refine, known_at}
use Rattle.ae_base.proofs.AllOf.{all_always}
use Rattle.ae_base.proofs.ListFacts.{list_all_moved, get_before, get_after}

-- ---- what is known, where more is known
pub same_refine : (a b c d : Option Sort) → Refines a c → Refines b d → same_known a b ≡ true → same_known c d ≡ true
same_refine (Some s) (Some t) c d r q e = (λ i. same_known (r s refl i) (q t refl i)) ∙ e
same_refine (Some s) None c d r q e = absurd (true≢false (sym e))
same_refine None b c d r q e = absurd (true≢false (sym e))

pub numeric_refine : (a b c d : Option Sort) → Refines a c → Refines b d → same_numeric a b ≡ true → same_numeric c d ≡ true
numeric_refine (Some s) (Some t) c d r q e = (λ i. same_numeric (r s refl i) (q t refl i)) ∙ e
numeric_refine (Some s) None c d r q e = absurd (true≢false (sym e))
numeric_refine None b c d r q e = absurd (true≢false (sym e))

pub predicate_refine : (sig : Signature) (may : Sort → Bool) (p : ℕ) (ss : List Sort) (o q : Option (List Sort)) → Refines o q → predicate_ok sig may p ss o ≡ true → predicate_ok sig may p ss q ≡ true
predicate_refine sig may p ss (Some args) q r e = ap (predicate_ok sig may p ss) (r args refl) ∙ e
predicate_refine sig may p ss None q r e = absurd (true≢false (sym e))

-- ---- a change of terms and of the sorts of their variables that keeps the sorts of variables
module _ (sig : Signature) (may : Sort → Bool) (E F : List Sort) (g : Term → Term) (g_bound : (i : ℕ) → Refines (variable_sort E i) (sort_in sig may F (g (Bound i))))
    (g_num : (a b : ℤ) (r : Bool) → g (Num a b r) ≡ Num a b r) (g_fresh : (n : ℕ) (s : Sort) → g (Fresh n s) ≡ Fresh n s)
    (g_apply : (h : Head) (ss : List Sort) (us : List Term) → g (Apply h ss us) ≡ Apply h ss (map g us)) where
  abbrev pub Keeps : Term → Type 0
  Keeps t = Refines (sort_in sig may E t) (sort_in sig may F (g t))

  pub applied : (h : Head) (ss : List Sort) (us : List Term) → AllByRecursion Keeps us → Keeps (Apply h ss us)
  applied h ss us a x e =
      let args = known_refines (sort_in sig may E) (sort_in sig may F) g us a in
      let whole = bind_refines _ _ (head_sort sig h ss) (only_refines (list_all may ss) (all_known (map (sort_in sig may E) us)) (all_known (map (sort_in sig may F) (map g us))) args) in
      ap (sort_in sig may F) (g_apply h ss us) ∙ sort_in_apply sig may F h ss (map g us) ∙ whole x (sym (sort_in_apply sig may E h ss us) ∙ e)

  pub keeps_sort : (t : Term) → Keeps t
  keeps_sort =
      by_terms Keeps (λ i x e. g_bound i x (sym (sort_in_bound sig may E i) ∙ e))
      (λ a b r x e. ap (sort_in sig may F) (g_num a b r) ∙ sort_in_num sig may F a b r ∙ sym (sort_in_num sig may E a b r) ∙ e)
      (λ n s x e. ap (sort_in sig may F) (g_fresh n s) ∙ sort_in_fresh sig may F n s ∙ sym (sort_in_fresh sig may E n s) ∙ e)
      applied

  pub keeps_sorts : (us : List Term) → Refines (all_known (map (sort_in sig may E) us)) (all_known (map (sort_in sig may F) (map g us)))
  keeps_sorts us = known_refines (sort_in sig may E) (sort_in sig may F) g us (all_always Keeps keeps_sort us)

  -- a predicate's application in a trigger
  pub head_case : (h : Head) (ss : List Sort) (us : List Term) → applied_ok sig may E (layer.Apply h ss us) ≡ true → applied_ok sig may F (layer.Apply h ss (map g us)) ≡ true
  head_case (head.Symbol p) ss us e = predicate_refine sig may p ss _ _ (keeps_sorts us) e
  head_case (head.Build n) ss us e = absurd (true≢false (sym e))
  head_case (head.Field n i) ss us e = absurd (true≢false (sym e))
  head_case (head.Int o) ss us e = absurd (true≢false (sym e))
  head_case (head.Real o) ss us e = absurd (true≢false (sym e))
  head_case head.True ss us e = absurd (true≢false (sym e))
  head_case head.False ss us e = absurd (true≢false (sym e))
  head_case head.Void ss us e = absurd (true≢false (sym e))

  abbrev pub KeepsApplied : Term → Type 0
  KeepsApplied t = applied_ok sig may E (out-Term t) ≡ true → applied_ok sig may F (out-Term (g t)) ≡ true

  pub out_apply : (h : Head) (ss : List Sort) (us : List Term) → out-Term (Apply h ss us) ≡ layer.Apply h ss us
  out_apply h ss us = ap out-Term (sym (rolls-Apply h ss us)) ∙ out-roll-Term (layer.Apply h ss us)

  pub never : (l : Term-F Term) (t : Term) → out-Term t ≡ l → applied_ok sig may E l ≡ false → KeepsApplied t
  never l t o n e = absurd (true≢false (sym e ∙ ap (applied_ok sig may E) o ∙ n))

  pub keeps_applied : (t : Term) → KeepsApplied t
  keeps_applied =
      by_terms KeepsApplied
      (λ i. never (layer.Bound i) (Bound i) (ap out-Term (sym (rolls-Bound i)) ∙ out-roll-Term (layer.Bound i)) refl)
      (λ a b r. never (layer.Num a b r) (Num a b r) (ap out-Term (sym (rolls-Num a b r)) ∙ out-roll-Term (layer.Num a b r)) refl)
      (λ n s. never (layer.Fresh n s) (Fresh n s) (ap out-Term (sym (rolls-Fresh n s)) ∙ out-roll-Term (layer.Fresh n s)) refl)
      (λ h ss us a e. ap (λ t. applied_ok sig may F (out-Term t)) (g_apply h ss us) ∙ ap (applied_ok sig may F) (out_apply h ss (map g us)) ∙ head_case h ss us (sym (ap (applied_ok sig may E) (out_apply h ss us)) ∙ e))

  pub keeps_trigger : (t : Term) → trigger_ok sig may E t ≡ true → trigger_ok sig may F (g t) ≡ true
  keeps_trigger t e =
      by_either (known (sort_in sig may E t)) (applied_ok sig may E (out-Term t)) e
      (λ k. or_left (known (sort_in sig may F (g t))) (applied_ok sig may F (out-Term (g t))) (known_refine _ _ (keeps_sort t) k))
      (λ a. or_right (known (sort_in sig may F (g t))) (applied_ok sig may F (out-Term (g t))) (keeps_applied t a))

-- ---- places in lists
pub map_identity : {X : Type 0} (xs : List X) → xs ≡ map (λ x. x) xs
map_identity [] = refl
map_identity (x ∷ xs) = ap (λ ys. x ∷ ys) (map_identity xs)

pub not_below : (i n : ℕ) → nat_lt i n ≡ false → i ≡ n + (i - n)
not_below i n e = let l : n ≤ i = ltb-false i n e in omega (arith, l)

-- ---- closed terms put for the variables of the outermost block
module _ (sig : Signature) (may : Sort → Bool) (ss : List Sort) (ts : List Term) (given : all_known (map (sort_in sig may []) ts) ≡ Some ss) where
  -- a closed term has its sort under variables too
  pub closed_under : (inner : List Sort) (t : Term) (s : Sort) → sort_in sig may [] t ≡ Some s → sort_in sig may inner t ≡ Some s
  closed_under inner = keeps_sort sig may [] inner (λ t. t) (λ i x e. absurd (none-some x e)) (λ a b r. refl) (λ n s. refl) (λ h os us. ap (Apply h os) (map_identity us))

  pub put_at : (inner : List Sort) (i : ℕ) (s : Sort) → variable_sort (ss ++ inner) i ≡ Some s → sort_in sig may inner (variable_at (length inner) ts i) ≡ Some s
  put_at inner i s e =
      let turned : slice_get (reverse inner ++ reverse ss) i ≡ Some s = ap (λ zs. slice_get zs i) (sym (reverse-append ss inner)) ∙ e in
      by_bool (nat_lt i (length inner))
      (λ l.
      let within : i < length (reverse inner) = subst (λ n. i < n) (sym (length-reverse inner)) (ltb-true i (length inner) l) in
      ap (λ b. sort_in sig may inner (cond b (Bound i) (or_else (slice_get (reverse ts) (i - length inner)) (Bound (i - length ts))))) l
      ∙ sort_in_bound sig may inner i ∙ sym (get_before (reverse inner) (reverse ss) i within) ∙ turned)
      (λ l.
      let k = i - length inner in
      let split : i ≡ length (reverse inner) + k = rw (length-reverse inner) (not_below i (length inner) l) in
      let there = known_at (sort_in sig may []) ts ss k s given (sym (get_after (reverse inner) (reverse ss) k) ∙ ap (slice_get (reverse inner ++ reverse ss)) (sym split) ∙ turned) in
      ap (λ b. sort_in sig may inner (cond b (Bound i) (or_else (slice_get (reverse ts) k) (Bound (i - length ts))))) l
      ∙ ap (λ o. sort_in sig may inner (or_else o (Bound (i - length ts)))) there.1 ∙ closed_under inner there.0 s there.2)

  pub put_bound_keeps : (inner : List Sort) (i : ℕ) → Refines (variable_sort (ss ++ inner) i) (sort_in sig may inner (put_terms (length inner) ts (Bound i)))
  put_bound_keeps inner i s e = ap (sort_in sig may inner) (put_bound (length inner) ts i) ∙ put_at inner i s e

  pub term_put : (inner : List Sort) (t : Term) → Refines (sort_in sig may (ss ++ inner) t) (sort_in sig may inner (put_terms (length inner) ts t))
  term_put inner = keeps_sort sig may (ss ++ inner) inner (put_terms (length inner) ts) (put_bound_keeps inner) (put_num (length inner) ts) (put_fresh (length inner) ts) (put_apply (length inner) ts)

  pub terms_put : (inner : List Sort) (us : List Term) → Refines (all_known (map (sort_in sig may (ss ++ inner)) us)) (all_known (map (sort_in sig may inner) (map (put_terms (length inner) ts) us)))
  terms_put inner = keeps_sorts sig may (ss ++ inner) inner (put_terms (length inner) ts) (put_bound_keeps inner) (put_num (length inner) ts) (put_fresh (length inner) ts) (put_apply (length inner) ts)

  pub trigger_put : (inner : List Sort) (t : Term) → trigger_ok sig may (ss ++ inner) t ≡ true → trigger_ok sig may inner (put_terms (length inner) ts t) ≡ true
  trigger_put inner = keeps_trigger sig may (ss ++ inner) inner (put_terms (length inner) ts) (put_bound_keeps inner) (put_num (length inner) ts) (put_fresh (length inner) ts) (put_apply (length inner) ts)

  abbrev pub PutsFormula : Formula → Type 0
  PutsFormula f = (inner : List Sort) → formula_in sig may (ss ++ inner) f ≡ true → formula_in sig may inner (put_formula_in (length inner) ts f) ≡ true

  abbrev pub PutsBlock : Quant → Type 0
  PutsBlock q = (inner : List Sort) → quant_in sig may (ss ++ inner) q ≡ true → quant_in sig may inner (put_quant_in (length inner) ts q) ≡ true

  -- what is well sorted after the change is so before the change is undone
  pub changed : (inner : List Sort) (f g : Formula) → f ≡ g → formula_in sig may inner g ≡ true → formula_in sig may inner f ≡ true
  changed inner f g e h = ap (formula_in sig may inner) e ∙ h

  pub both_put : (rule : Formula → Formula → Formula) → ((env : List Sort) (a b : Formula) → formula_in sig may env (rule a b) ≡ (formula_in sig may env a && formula_in sig may env b))
      → ((d : ℕ) (us : List Term) (a b : Formula) → put_formula_in d us (rule a b) ≡ rule (put_formula_in d us a) (put_formula_in d us b))
      → (a b : Formula) → PutsFormula a → PutsFormula b → PutsFormula (rule a b)
  both_put rule sorted puts a b h k inner e =
      let both = and_parts (formula_in sig may (ss ++ inner) a) (formula_in sig may (ss ++ inner) b) (sym (sorted (ss ++ inner) a b) ∙ e) in
      ap (formula_in sig may inner) (puts (length inner) ts a b) ∙ sorted inner (put_formula_in (length inner) ts a) (put_formula_in (length inner) ts b)
      ∙ and_from _ _ (h inner both.0) (k inner both.1)

  pub triggers_put : (inner : List Sort) (us : List (List Term)) → list_all (list_all (trigger_ok sig may (ss ++ inner))) us ≡ true → list_all (list_all (trigger_ok sig may inner)) (map (map (put_terms (length inner) ts)) us) ≡ true
  triggers_put inner = list_all_moved (list_all (trigger_ok sig may (ss ++ inner))) (list_all (trigger_ok sig may inner)) (map (put_terms (length inner) ts))
      (list_all_moved (trigger_ok sig may (ss ++ inner)) (trigger_ok sig may inner) (put_terms (length inner) ts) (trigger_put inner))

  pub block_put : (q : Quant) → PutsFormula q.body → PutsBlock q
  block_put q h inner e =
      let more = inner ++ q.sorts in
      let same : (ss ++ inner) ++ q.sorts ≡ ss ++ more = append_assoc ss inner q.sorts in
      let n : length inner + length q.sorts ≡ length more = sym (length-append inner q.sorts) in
      let parts = three_parts (list_all may q.sorts) (list_all (list_all (trigger_ok sig may (ss ++ more))) q.triggers) (formula_in sig may (ss ++ more) q.body)
      (subst (λ env. (list_all may q.sorts && list_all (list_all (trigger_ok sig may env)) q.triggers && formula_in sig may env q.body) ≡ true) same (sym (quant_in_block sig may (ss ++ inner) q) ∙ e)) in
      let put : Quant = record { sorts = q.sorts; triggers = map (map (put_terms (length more) ts)) q.triggers; body = put_formula_in (length more) ts q.body } in
      ap (quant_in sig may inner) (put_block (length inner) ts q ∙ (λ i. record { sorts = q.sorts; triggers = map (map (put_terms (n i) ts)) q.triggers; body = put_formula_in (n i) ts q.body }))
      ∙ quant_in_block sig may inner put ∙ (λ i. parts.0 i && triggers_put more q.triggers parts.1 i && h more parts.2 i)

  pub formula_put : (f : Formula) → PutsFormula f
  formula_put =
      by_formulas PutsFormula PutsBlock
      (λ inner e. ap (formula_in sig may inner) (put_true (length inner) ts) ∙ formula_in_true sig may inner)
      (λ inner e. ap (formula_in sig may inner) (put_false (length inner) ts) ∙ formula_in_false sig may inner)
      (λ a b inner e. ap (formula_in sig may inner) (put_eq (length inner) ts a b) ∙ formula_in_eq sig may inner _ _ ∙ same_refine _ _ _ _ (term_put inner a) (term_put inner b) (sym (formula_in_eq sig may (ss ++ inner) a b) ∙ e))
      (λ a b inner e. ap (formula_in sig may inner) (put_lt (length inner) ts a b) ∙ formula_in_lt sig may inner _ _ ∙ numeric_refine _ _ _ _ (term_put inner a) (term_put inner b) (sym (formula_in_lt sig may (ss ++ inner) a b) ∙ e))
      (λ a b inner e. ap (formula_in sig may inner) (put_le (length inner) ts a b) ∙ formula_in_le sig may inner _ _ ∙ numeric_refine _ _ _ _ (term_put inner a) (term_put inner b) (sym (formula_in_le sig may (ss ++ inner) a b) ∙ e))
      (λ p os us inner e. ap (formula_in sig may inner) (put_pred (length inner) ts p os us) ∙ formula_in_pred sig may inner p os _ ∙ predicate_refine sig may p os _ _ (terms_put inner us) (sym (formula_in_pred sig may (ss ++ inner) p os us) ∙ e))
      (λ a h inner e. ap (formula_in sig may inner) (put_not (length inner) ts a) ∙ formula_in_not sig may inner _ ∙ h inner (sym (formula_in_not sig may (ss ++ inner) a) ∙ e))
      (both_put And (formula_in_and sig may) put_and) (both_put Or (formula_in_or sig may) put_or) (both_put Xor (formula_in_xor sig may) put_xor) (both_put Iff (formula_in_iff sig may) put_iff)
      (λ q h inner e. ap (formula_in sig may inner) (put_all (length inner) ts q) ∙ formula_in_all sig may inner _ ∙ h inner (sym (formula_in_all sig may (ss ++ inner) q) ∙ e))
      (λ q h inner e. ap (formula_in sig may inner) (put_ex (length inner) ts q) ∙ formula_in_ex sig may inner _ ∙ h inner (sym (formula_in_ex sig may (ss ++ inner) q) ∙ e))
      block_put

  -- the body of a block with closed terms of its variables' sorts put is closed and well sorted
  pub body_put : (f : Formula) → formula_in sig may ss f ≡ true → formula_in sig may [] (put_formula ts f) ≡ true
  body_put f e = formula_put f [] (ap (λ env. formula_in sig may env f) (append-nil ss) ∙ e)
