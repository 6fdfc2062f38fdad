-- The triggers of a formula, at each form, and where its sorts are changed.
use Rattle.std.proofs.Common.{◌≡◌, ◌∙◌, ℕ, Bool, false, ◌&&◌, ◌||◌, nat_eq, List, [], ◌∷◌, ◌++◌, map, length, refl, sym, ap, subst}
use Rattle.std.specs.List.{AllByRecursion, list_any, list_all}
use Rattle.std.proofs.lemmas.List.{length-map}
use Rattle.ae_base.proofs.AllOf.{all_append, all_front, all_back, all_of_map, all_before_map}
use Rattle.ae_core.specs.Inner.Induction.{by_terms, by_formulas}
use Rattle.ae_core.specs.Signatures.{has_variable, has_variable_step, is_application, IsTrigger, triggers_step, triggers_in}
use Rattle.ae_core.proofs.Recursion.{fold_true, fold_false, fold_eq, fold_lt, fold_le, fold_pred, fold_not, fold_and, fold_or, fold_xor, fold_iff}
use Rattle.ae_core.proofs.Recursion.{fold_all, fold_ex, fold_block, fold_bound, fold_fresh, fold_apply}
use Rattle.ae_core.specs.declared.terms.Sort.{Sort}
use Rattle.ae_core.specs.declared.terms.Head.{Head}
use Rattle.ae_core.specs.declared.terms.Term.{Term, Bound, Fresh, Apply, out-Term}
use Rattle.ae_core.specs.declared.terms.Term.TheVariants.{outs-Fresh, outs-Apply}
use Rattle.ae_core.specs.declared.formulas.Formula.{Formula, True, False, Eq, Lt, Le, Pred, Not, And, Or, Xor, Iff, All, Ex}
use Rattle.ae_core.specs.declared.formulas.Quant.{Quant, fold-Quant}
use Rattle.ae_elab.specs.Elaboration.{either_way}
use Rattle.ae_elab.specs.Numbering.{with_sorts_term, with_sorts, with_sorts_block}
use Rattle.ae_elab.proofs.NumberRules.{with_bound, with_num, with_fresh, with_apply, with_true, with_false, with_eq, with_lt, with_le, with_pred}
use Rattle.ae_elab.proofs.NumberRules.{with_not}
use Rattle.ae_elab.proofs.NumberRules.{with_and, with_or, with_xor, with_iff, with_all, with_ex, with_block}

-- ---- the triggers at each form
abbrev Standing : Type 0
Standing = List (ℕ × List Term)

of_true : triggers_in True ≡ []
unfolding triggers_in
of_true = fold_true Standing Standing triggers_step (λ q. map (λ ts. (length q.sorts, ts)) q.triggers ++ q.body)

of_false : triggers_in False ≡ []
unfolding triggers_in
of_false = fold_false Standing Standing triggers_step (λ q. map (λ ts. (length q.sorts, ts)) q.triggers ++ q.body)

of_eq : (s t : Term) → triggers_in (Eq s t) ≡ []
unfolding triggers_in
of_eq s t = fold_eq Standing Standing triggers_step (λ q. map (λ ts. (length q.sorts, ts)) q.triggers ++ q.body) s t

of_lt : (s t : Term) → triggers_in (Lt s t) ≡ []
unfolding triggers_in
of_lt s t = fold_lt Standing Standing triggers_step (λ q. map (λ ts. (length q.sorts, ts)) q.triggers ++ q.body) s t

of_le : (s t : Term) → triggers_in (Le s t) ≡ []
unfolding triggers_in
of_le s t = fold_le Standing Standing triggers_step (λ q. map (λ ts. (length q.sorts, ts)) q.triggers ++ q.body) s t

of_pred : (p : ℕ) (ss : List Sort) (us : List Term) → triggers_in (Pred p ss us) ≡ []
unfolding triggers_in
of_pred p ss us = fold_pred Standing Standing triggers_step (λ q. map (λ ts. (length q.sorts, ts)) q.triggers ++ q.body) p ss us

of_not : (a : Formula) → triggers_in (Not a) ≡ triggers_in a
unfolding triggers_in
of_not a = fold_not Standing Standing triggers_step (λ q. map (λ ts. (length q.sorts, ts)) q.triggers ++ q.body) a

of_and : (a b : Formula) → triggers_in (And a b) ≡ triggers_in a ++ triggers_in b
unfolding triggers_in
of_and a b = fold_and Standing Standing triggers_step (λ q. map (λ ts. (length q.sorts, ts)) q.triggers ++ q.body) a b

of_or : (a b : Formula) → triggers_in (Or a b) ≡ triggers_in a ++ triggers_in b
unfolding triggers_in
of_or a b = fold_or Standing Standing triggers_step (λ q. map (λ ts. (length q.sorts, ts)) q.triggers ++ q.body) a b

of_xor : (a b : Formula) → triggers_in (Xor a b) ≡ triggers_in a ++ triggers_in b
unfolding triggers_in
of_xor a b = fold_xor Standing Standing triggers_step (λ q. map (λ ts. (length q.sorts, ts)) q.triggers ++ q.body) a b

of_iff : (a b : Formula) → triggers_in (Iff a b) ≡ triggers_in a ++ triggers_in b
unfolding triggers_in
of_iff a b = fold_iff Standing Standing triggers_step (λ q. map (λ ts. (length q.sorts, ts)) q.triggers ++ q.body) a b

-- a block's triggers, and those in its body
abbrev block_triggers : Quant → List (ℕ × List Term)
block_triggers q = map (λ ts. (length q.sorts, ts)) q.triggers ++ triggers_in q.body

of_block : (q : Quant) → fold-Quant Standing Standing triggers_step (λ q. map (λ ts. (length q.sorts, ts)) q.triggers ++ q.body) q ≡ block_triggers q
unfolding triggers_in
of_block q = fold_block Standing Standing triggers_step (λ q. map (λ ts. (length q.sorts, ts)) q.triggers ++ q.body) q

of_all : (q : Quant) → triggers_in (All q) ≡ block_triggers q
unfolding triggers_in
of_all q = fold_all Standing Standing triggers_step (λ q. map (λ ts. (length q.sorts, ts)) q.triggers ++ q.body) q ∙ of_block q

of_ex : (q : Quant) → triggers_in (Ex q) ≡ block_triggers q
unfolding triggers_in
of_ex q = fold_ex Standing Standing triggers_step (λ q. map (λ ts. (length q.sorts, ts)) q.triggers ++ q.body) q ∙ of_block q

-- ---- triggers that may stand
abbrev pub AllStand : List (ℕ × List Term) → Type 0
AllStand ts = AllByRecursion (λ t. IsTrigger t.0 t.1) ts

abbrev pub MayStand : Formula → Type 0
MayStand f = AllStand (triggers_in f)

from_rule : (f : Formula) (ts : List (ℕ × List Term)) → triggers_in f ≡ ts → AllStand ts → MayStand f
from_rule f ts e h = subst AllStand (sym e) h

by_rule : (f : Formula) (ts : List (ℕ × List Term)) → triggers_in f ≡ ts → MayStand f → AllStand ts
by_rule f ts e h = subst AllStand e h

pub true_stands : MayStand True
true_stands = from_rule True [] of_true tt

pub false_stands : MayStand False
false_stands = from_rule False [] of_false tt

pub eq_stands : (s t : Term) → MayStand (Eq s t)
eq_stands s t = from_rule (Eq s t) [] (of_eq s t) tt

pub lt_stands : (s t : Term) → MayStand (Lt s t)
lt_stands s t = from_rule (Lt s t) [] (of_lt s t) tt

pub le_stands : (s t : Term) → MayStand (Le s t)
le_stands s t = from_rule (Le s t) [] (of_le s t) tt

pub pred_stands : (p : ℕ) (ss : List Sort) (us : List Term) → MayStand (Pred p ss us)
pred_stands p ss us = from_rule (Pred p ss us) [] (of_pred p ss us) tt

pub not_stands : (a : Formula) → MayStand a → MayStand (Not a)
not_stands a h = from_rule (Not a) (triggers_in a) (of_not a) h

module _ (C : Formula → Formula → Formula) (rule : (a b : Formula) → triggers_in (C a b) ≡ triggers_in a ++ triggers_in b) where
  both_stand : (a b : Formula) → MayStand a → MayStand b → MayStand (C a b)
  both_stand a b h k = from_rule (C a b) (triggers_in a ++ triggers_in b) (rule a b) (all_append (λ t. IsTrigger t.0 t.1) (triggers_in a) (triggers_in b) h k)

  parts_stand : (a b : Formula) → MayStand (C a b) → MayStand a × MayStand b
  parts_stand a b h =
      let k = by_rule (C a b) (triggers_in a ++ triggers_in b) (rule a b) h in
      (all_front (λ t. IsTrigger t.0 t.1) (triggers_in a) (triggers_in b) k, all_back (λ t. IsTrigger t.0 t.1) (triggers_in a) (triggers_in b) k)

pub and_stands : (a b : Formula) → MayStand a → MayStand b → MayStand (And a b)
and_stands = both_stand And of_and

pub or_stands : (a b : Formula) → MayStand a → MayStand b → MayStand (Or a b)
or_stands = both_stand Or of_or

pub xor_stands : (a b : Formula) → MayStand a → MayStand b → MayStand (Xor a b)
xor_stands = both_stand Xor of_xor

pub iff_stands : (a b : Formula) → MayStand a → MayStand b → MayStand (Iff a b)
iff_stands = both_stand Iff of_iff

pub either_stands : (c a b : Formula) → MayStand c → MayStand a → MayStand b → MayStand (either_way c a b)
either_stands c a b h i j = and_stands (Or (Not c) a) (Or c b) (or_stands (Not c) a (not_stands c h) i) (or_stands c b h j)

-- ---- blocks
block_stands : (q : Quant) → AllByRecursion (IsTrigger (length q.sorts)) q.triggers → MayStand q.body → AllStand (block_triggers q)
block_stands q a h =
    all_append (λ t. IsTrigger t.0 t.1) (map (λ ts. (length q.sorts, ts)) q.triggers) (triggers_in q.body)
    (all_of_map (λ t. IsTrigger t.0 t.1) (λ ts. (length q.sorts, ts)) q.triggers a) h

parts_of_block : (q : Quant) → AllStand (block_triggers q) → AllByRecursion (IsTrigger (length q.sorts)) q.triggers × MayStand q.body
parts_of_block q h = (
  all_before_map (λ t. IsTrigger t.0 t.1) (λ ts. (length q.sorts, ts)) q.triggers
      (all_front (λ t. IsTrigger t.0 t.1) (map (λ ts. (length q.sorts, ts)) q.triggers) (triggers_in q.body) h),
  all_back (λ t. IsTrigger t.0 t.1) (map (λ ts. (length q.sorts, ts)) q.triggers) (triggers_in q.body) h,
)

pub all_stands : (q : Quant) → AllByRecursion (IsTrigger (length q.sorts)) q.triggers → MayStand q.body → MayStand (All q)
all_stands q a h = from_rule (All q) (block_triggers q) (of_all q) (block_stands q a h)

pub ex_stands : (q : Quant) → AllByRecursion (IsTrigger (length q.sorts)) q.triggers → MayStand q.body → MayStand (Ex q)
ex_stands q a h = from_rule (Ex q) (block_triggers q) (of_ex q) (block_stands q a h)

pub body_of_all : (q : Quant) → MayStand (All q) → MayStand q.body
body_of_all q h = (parts_of_block q (by_rule (All q) (block_triggers q) (of_all q) h)).1

pub body_of_ex : (q : Quant) → MayStand (Ex q) → MayStand q.body
body_of_ex q h = (parts_of_block q (by_rule (Ex q) (block_triggers q) (of_ex q) h)).1

-- ---- the variables of a term, at each form
pub has_bound : (i j : ℕ) → has_variable i (Bound j) ≡ nat_eq i j
unfolding has_variable
has_bound i j = fold_bound Bool (has_variable_step i) j

has_fresh : (i n : ℕ) (s : Sort) → has_variable i (Fresh n s) ≡ false
unfolding has_variable
has_fresh i n s = fold_fresh Bool (has_variable_step i) n s

any_itself : {X : Type 0} (p : X → Bool) (xs : List X) → list_any (λ b. b) (map p xs) ≡ list_any p xs
any_itself p [] = refl
any_itself p (x ∷ xs) = ap (λ b. p x || b) (any_itself p xs)

pub has_apply : (i : ℕ) (h : Head) (ss : List Sort) (us : List Term) → has_variable i (Apply h ss us) ≡ list_any (has_variable i) us
unfolding has_variable
has_apply i h ss us = fold_apply Bool (has_variable_step i) h ss us ∙ any_itself (has_variable i) us

-- ---- sorts changed
module _ (r : Sort → Sort) where
  VariablesKept : Term → Type 0
  VariablesKept t = (i : ℕ) → has_variable i (with_sorts_term r t) ≡ has_variable i t

  list_kept : (i : ℕ) (us : List Term) → AllByRecursion VariablesKept us → list_any (has_variable i) (map (with_sorts_term r) us) ≡ list_any (has_variable i) us
  unfolding VariablesKept
  list_kept i [] a = refl
  list_kept i (u ∷ us) a = λ j. a.0 i j || list_kept i us a.1 j

  variables_kept : (t : Term) (i : ℕ) → has_variable i (with_sorts_term r t) ≡ has_variable i t
  unfolding VariablesKept
  variables_kept =
      by_terms VariablesKept (λ k i. ap (has_variable i) (with_bound r k)) (λ a b k i. ap (has_variable i) (with_num r a b k))
      (λ n s i. ap (has_variable i) (with_fresh r n s) ∙ has_fresh i n (r s) ∙ sym (has_fresh i n s))
      (λ h ss us a i. ap (has_variable i) (with_apply r h ss us) ∙ has_apply i h (map r ss) (map (with_sorts_term r) us) ∙ list_kept i us a ∙ sym (has_apply i h ss us))

  abbrev applied : Term → Bool
  applied t = is_application (out-Term t)

  ApplicationKept : Term → Type 0
  ApplicationKept t = applied (with_sorts_term r t) ≡ applied t

  application_kept : (t : Term) → applied (with_sorts_term r t) ≡ applied t
  unfolding ApplicationKept
  application_kept =
      by_terms ApplicationKept (λ k. ap applied (with_bound r k)) (λ a b k. ap applied (with_num r a b k))
      (λ n s. ap applied (with_fresh r n s) ∙ ap is_application (outs-Fresh n (r s)) ∙ sym (ap is_application (outs-Fresh n s)))
      (λ h ss us a. ap applied (with_apply r h ss us) ∙ ap is_application (outs-Apply h (map r ss) (map (with_sorts_term r) us)) ∙ sym (ap is_application (outs-Apply h ss us)))

  any_kept : (i : ℕ) (us : List Term) → list_any (has_variable i) (map (with_sorts_term r) us) ≡ list_any (has_variable i) us
  any_kept i [] = refl
  any_kept i (u ∷ us) = λ j. variables_kept u i j || any_kept i us j

  all_kept : (us : List Term) → list_all applied (map (with_sorts_term r) us) ≡ list_all applied us
  all_kept [] = refl
  all_kept (u ∷ us) = λ j. application_kept u j && all_kept us j

  triggers_kept : (n : ℕ) (ts : List (List Term)) → AllByRecursion (IsTrigger n) ts → AllByRecursion (IsTrigger n) (map (map (with_sorts_term r)) ts)
  triggers_kept n [] a = tt
  triggers_kept n (us ∷ ts) a = ((all_kept us ∙ a.0.0, λ i l. any_kept i us ∙ a.0.1 i l), triggers_kept n ts a.1)

  StandsChanged : Formula → Type 0
  StandsChanged f = MayStand f → MayStand (with_sorts r f)

  BlockChanged : Quant → Type 0
  BlockChanged q = AllStand (block_triggers q) → AllStand (block_triggers (with_sorts_block r q))

  two_changed : (C : Formula → Formula → Formula) → ((a b : Formula) → triggers_in (C a b) ≡ triggers_in a ++ triggers_in b)
      → ((a b : Formula) → with_sorts r (C a b) ≡ C (with_sorts r a) (with_sorts r b)) → (a b : Formula) → StandsChanged a → StandsChanged b → StandsChanged (C a b)
  unfolding StandsChanged
  two_changed C rule with a b x y h =
      let p = parts_stand C rule a b h in
      subst MayStand (sym (with a b)) (both_stand C rule (with_sorts r a) (with_sorts r b) (x p.0) (y p.1))

  pub stands_changed : (f : Formula) → MayStand f → MayStand (with_sorts r f)
  unfolding StandsChanged BlockChanged
  stands_changed =
      by_formulas StandsChanged BlockChanged (λ h. subst MayStand (sym (with_true r)) true_stands) (λ h. subst MayStand (sym (with_false r)) false_stands)
      (λ s t h. subst MayStand (sym (with_eq r s t)) (eq_stands (with_sorts_term r s) (with_sorts_term r t)))
      (λ s t h. subst MayStand (sym (with_lt r s t)) (lt_stands (with_sorts_term r s) (with_sorts_term r t)))
      (λ s t h. subst MayStand (sym (with_le r s t)) (le_stands (with_sorts_term r s) (with_sorts_term r t)))
      (λ p ss us h. subst MayStand (sym (with_pred r p ss us)) (pred_stands p (map r ss) (map (with_sorts_term r) us)))
      (λ a x h. subst MayStand (sym (with_not r a)) (not_stands (with_sorts r a) (x (by_rule (Not a) (triggers_in a) (of_not a) h))))
      (two_changed And of_and (with_and r)) (two_changed Or of_or (with_or r)) (two_changed Xor of_xor (with_xor r)) (two_changed Iff of_iff (with_iff r))
      (λ q x h. let c = with_sorts_block r q in
      subst MayStand (sym (with_all r q)) (from_rule (All c) (block_triggers c) (of_all c) (x (by_rule (All q) (block_triggers q) (of_all q) h))))
      (λ q x h. let c = with_sorts_block r q in
      subst MayStand (sym (with_ex r q)) (from_rule (Ex c) (block_triggers c) (of_ex c) (x (by_rule (Ex q) (block_triggers q) (of_ex q) h))))
      (λ q x h. let p = parts_of_block q h in
      let c : Quant = record { sorts = map r q.sorts; triggers = map (map (with_sorts_term r)) q.triggers; body = with_sorts r q.body } in
      subst (λ (z : Quant). AllStand (block_triggers z)) (sym (with_block r q))
      (block_stands c (subst (λ (n : ℕ). AllByRecursion (IsTrigger n) (map (map (with_sorts_term r)) q.triggers)) (sym (length-map q.sorts r))
      (triggers_kept (length q.sorts) q.triggers p.0)) (x p.1)))
