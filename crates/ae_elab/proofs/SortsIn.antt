-- The sorts of a formula whose sorts were changed are the changed sorts; and changes that agree on a formula's sorts give one formula.
use Rattle.std.proofs.Common.{◌≡◌, List, [], ◌∷◌, ◌++◌, map, refl, ap, sym, ◌∙◌, subst}
use Rattle.std.proofs.lemmas.List.{map-append}
use Rattle.ae_base.proofs.AllOf.{all_front, all_back}
use Rattle.std.specs.List.{AllByRecursion, flat_map}
use Rattle.ae_core.specs.Inner.Induction.{by_terms, by_formulas}
use Rattle.ae_core.specs.declared.terms.Sort.{Sort}
use Rattle.ae_core.specs.declared.terms.Term.{Term, Fresh, Apply}
use Rattle.ae_core.specs.declared.formulas.Formula.{Formula, Eq, Lt, Le, Pred, Not, And, Or, Xor, Iff, All, Ex}
use Rattle.ae_core.specs.declared.formulas.Quant.{Quant}
use Rattle.ae_elab.specs.Numbering.{sorts_in_term, sorts_in, sorts_in_block, with_sorts_term, with_sorts, with_sorts_block}
use Rattle.ae_elab.proofs.NumberRules.{with_bound, with_num, with_fresh, with_apply, with_true, with_false, with_eq, with_lt, with_le, with_pred, with_not, with_and, with_or, with_xor, with_iff, with_all, with_ex, with_block, in_bound, in_num, in_fresh, in_apply, in_true, in_false, in_eq, in_lt, in_le, in_pred, in_not, in_and, in_or, in_xor, in_iff, in_all, in_ex, in_block}

-- ---- lists
pub joined : {X Y : Type 0} (f : X → List Y) (xs : List X) → flat_map (λ u. u) (map f xs) ≡ flat_map f xs
joined f [] = refl
joined f (x ∷ xs) = ap (λ ys. f x ++ ys) (joined f xs)

pub flat_moved : {X Z : Type 0} (r : Sort → Sort) (f : X → List Sort) (g : Z → List Sort) (t : X → Z) (xs : List X)
    → AllByRecursion (λ x. g (t x) ≡ map r (f x)) xs → flat_map g (map t xs) ≡ map r (flat_map f xs)
flat_moved r f g t [] a = refl
flat_moved r f g t (x ∷ xs) a =
    ap (λ ys. ys ++ flat_map g (map t xs)) a.0 ∙ ap (λ ys. map r (f x) ++ ys) (flat_moved r f g t xs a.1) ∙ sym (map-append r (f x) (flat_map f xs))

pub all_of_list : {X : Type 0} (P : X → Type 0) (h : (x : X) → P x) (xs : List X) → AllByRecursion P xs
all_of_list P h [] = tt
all_of_list P h (x ∷ xs) = (h x, all_of_list P h xs)

-- ---- the sorts of a formula whose sorts were changed
module _ (r : Sort → Sort) where
  abbrev Moves : Term → Type 0
  Moves t = sorts_in_term (with_sorts_term r t) ≡ map r (sorts_in_term t)

  two_moved : (xs ys us vs : List Sort) → xs ≡ map r us → ys ≡ map r vs → xs ++ ys ≡ map r (us ++ vs)
  two_moved xs ys us vs a b = ap (λ zs. zs ++ ys) a ∙ ap (λ zs. map r us ++ zs) b ∙ sym (map-append r us vs)

  pub terms_moved : (t : Term) → Moves t
  terms_moved = by_terms Moves
      (λ i. ap sorts_in_term (with_bound r i) ∙ in_bound i ∙ sym (ap (map r) (in_bound i)))
      (λ a b k. ap sorts_in_term (with_num r a b k) ∙ in_num a b k ∙ sym (ap (map r) (in_num a b k)))
      (λ n s. ap sorts_in_term (with_fresh r n s) ∙ in_fresh n (r s) ∙ sym (ap (map r) (in_fresh n s)))
      (λ h ss us a.
      ap sorts_in_term (with_apply r h ss us) ∙ in_apply h (map r ss) (map (with_sorts_term r) us)
      ∙ two_moved (map r ss) (flat_map (λ u. u) (map sorts_in_term (map (with_sorts_term r) us))) ss (flat_map (λ u. u) (map sorts_in_term us)) refl
      (joined sorts_in_term (map (with_sorts_term r) us) ∙ flat_moved r sorts_in_term sorts_in_term (with_sorts_term r) us a
      ∙ ap (map r) (sym (joined sorts_in_term us)))
      ∙ sym (ap (map r) (in_apply h ss us)))

  lists_moved : (us : List Term) → flat_map sorts_in_term (map (with_sorts_term r) us) ≡ map r (flat_map sorts_in_term us)
  lists_moved us = flat_moved r sorts_in_term sorts_in_term (with_sorts_term r) us (all_of_list Moves terms_moved us)

  triggers_moved : (ts : List (List Term)) → flat_map (flat_map sorts_in_term) (map (map (with_sorts_term r)) ts) ≡ map r (flat_map (flat_map sorts_in_term) ts)
  triggers_moved ts =
      flat_moved r (flat_map sorts_in_term) (flat_map sorts_in_term) (map (with_sorts_term r)) ts
      (all_of_list (λ us. flat_map sorts_in_term (map (with_sorts_term r) us) ≡ map r (flat_map sorts_in_term us)) lists_moved ts)

  pair_moved : (a b : Term) → sorts_in_term (with_sorts_term r a) ++ sorts_in_term (with_sorts_term r b) ≡ map r (sorts_in_term a ++ sorts_in_term b)
  pair_moved a b = two_moved (sorts_in_term (with_sorts_term r a)) (sorts_in_term (with_sorts_term r b)) (sorts_in_term a) (sorts_in_term b) (terms_moved a) (terms_moved b)

  abbrev MovesAll : Formula → Type 0
  MovesAll f = sorts_in (with_sorts r f) ≡ map r (sorts_in f)

  abbrev MovesBlock : Quant → Type 0
  MovesBlock q = sorts_in_block (with_sorts_block r q) ≡ map r (sorts_in_block q)

  two_formulas : (a b : Formula) → MovesAll a → MovesAll b → sorts_in (with_sorts r a) ++ sorts_in (with_sorts r b) ≡ map r (sorts_in a ++ sorts_in b)
  two_formulas a b x y = two_moved (sorts_in (with_sorts r a)) (sorts_in (with_sorts r b)) (sorts_in a) (sorts_in b) x y

  pub formulas_moved : (f : Formula) → MovesAll f
  formulas_moved = by_formulas MovesAll MovesBlock
      (ap sorts_in (with_true r) ∙ in_true ∙ sym (ap (map r) in_true))
      (ap sorts_in (with_false r) ∙ in_false ∙ sym (ap (map r) in_false))
      (λ a b. ap sorts_in (with_eq r a b) ∙ in_eq (with_sorts_term r a) (with_sorts_term r b) ∙ pair_moved a b ∙ sym (ap (map r) (in_eq a b)))
      (λ a b. ap sorts_in (with_lt r a b) ∙ in_lt (with_sorts_term r a) (with_sorts_term r b) ∙ pair_moved a b ∙ sym (ap (map r) (in_lt a b)))
      (λ a b. ap sorts_in (with_le r a b) ∙ in_le (with_sorts_term r a) (with_sorts_term r b) ∙ pair_moved a b ∙ sym (ap (map r) (in_le a b)))
      (λ p ss us. ap sorts_in (with_pred r p ss us) ∙ in_pred p (map r ss) (map (with_sorts_term r) us)
      ∙ two_moved (map r ss) (flat_map sorts_in_term (map (with_sorts_term r) us)) ss (flat_map sorts_in_term us) refl (lists_moved us)
      ∙ sym (ap (map r) (in_pred p ss us)))
      (λ a h. ap sorts_in (with_not r a) ∙ in_not (with_sorts r a) ∙ h ∙ sym (ap (map r) (in_not a)))
      (λ a b h k. ap sorts_in (with_and r a b) ∙ in_and (with_sorts r a) (with_sorts r b) ∙ two_formulas a b h k ∙ sym (ap (map r) (in_and a b)))
      (λ a b h k. ap sorts_in (with_or r a b) ∙ in_or (with_sorts r a) (with_sorts r b) ∙ two_formulas a b h k ∙ sym (ap (map r) (in_or a b)))
      (λ a b h k. ap sorts_in (with_xor r a b) ∙ in_xor (with_sorts r a) (with_sorts r b) ∙ two_formulas a b h k ∙ sym (ap (map r) (in_xor a b)))
      (λ a b h k. ap sorts_in (with_iff r a b) ∙ in_iff (with_sorts r a) (with_sorts r b) ∙ two_formulas a b h k ∙ sym (ap (map r) (in_iff a b)))
      (λ q h. ap sorts_in (with_all r q) ∙ in_all (with_sorts_block r q) ∙ h ∙ sym (ap (map r) (in_all q)))
      (λ q h. ap sorts_in (with_ex r q) ∙ in_ex (with_sorts_block r q) ∙ h ∙ sym (ap (map r) (in_ex q)))
      (λ q h. ap sorts_in_block (with_block r q) ∙ in_block (record { sorts = map r q.sorts; triggers = map (map (with_sorts_term r)) q.triggers; body = with_sorts r q.body })
      ∙ two_moved (map r q.sorts) (flat_map (flat_map sorts_in_term) (map (map (with_sorts_term r)) q.triggers) ++ sorts_in (with_sorts r q.body))
      q.sorts (flat_map (flat_map sorts_in_term) q.triggers ++ sorts_in q.body) refl
      (two_moved (flat_map (flat_map sorts_in_term) (map (map (with_sorts_term r)) q.triggers)) (sorts_in (with_sorts r q.body))
      (flat_map (flat_map sorts_in_term) q.triggers) (sorts_in q.body) (triggers_moved q.triggers) h)
      ∙ sym (ap (map r) (in_block q)))

-- ---- n after r is k, where it is so on the sorts
module _ (r n k : Sort → Sort) where
  abbrev Agrees : Sort → Type 0
  Agrees s = n (r s) ≡ k s

  sorts_agree : (ss : List Sort) → AllByRecursion Agrees ss → map n (map r ss) ≡ map k ss
  sorts_agree [] a = refl
  sorts_agree (s ∷ ss) a = ap (λ x. x ∷ map n (map r ss)) a.0 ∙ ap (λ xs. k s ∷ xs) (sorts_agree ss a.1)

  abbrev AgreesIn : Term → Type 0
  AgreesIn t = AllByRecursion Agrees (sorts_in_term t) → with_sorts_term n (with_sorts_term r t) ≡ with_sorts_term k t

  args_agree : (us : List Term) → AllByRecursion AgreesIn us → AllByRecursion Agrees (flat_map sorts_in_term us)
      → map (with_sorts_term n) (map (with_sorts_term r) us) ≡ map (with_sorts_term k) us
  args_agree [] a h = refl
  args_agree (u ∷ us) a h =
      ap (λ x. x ∷ map (with_sorts_term n) (map (with_sorts_term r) us)) (a.0 (all_front Agrees (sorts_in_term u) (flat_map sorts_in_term us) h))
      ∙ ap (λ xs. with_sorts_term k u ∷ xs) (args_agree us a.1 (all_back Agrees (sorts_in_term u) (flat_map sorts_in_term us) h))

  pub terms_agree : (t : Term) → AgreesIn t
  terms_agree = by_terms AgreesIn
      (λ i h. ap (with_sorts_term n) (with_bound r i) ∙ with_bound n i ∙ sym (with_bound k i))
      (λ a b c h. ap (with_sorts_term n) (with_num r a b c) ∙ with_num n a b c ∙ sym (with_num k a b c))
      (λ i s h. ap (with_sorts_term n) (with_fresh r i s) ∙ with_fresh n i (r s) ∙ ap (Fresh i) (subst (AllByRecursion Agrees) (in_fresh i s) h).0 ∙ sym (with_fresh k i s))
      (λ x ss us a h.
      (let all = subst (AllByRecursion Agrees) (in_apply x ss us) h in
      let e = sorts_agree ss (all_front Agrees ss (flat_map (λ u. u) (map sorts_in_term us)) all) in
      let rest = subst (AllByRecursion Agrees) (joined sorts_in_term us) (all_back Agrees ss (flat_map (λ u. u) (map sorts_in_term us)) all) in
      ap (with_sorts_term n) (with_apply r x ss us) ∙ with_apply n x (map r ss) (map (with_sorts_term r) us)
      ∙ ap (λ xs. Apply x xs (map (with_sorts_term n) (map (with_sorts_term r) us))) e
      ∙ ap (Apply x (map k ss)) (args_agree us a rest) ∙ sym (with_apply k x ss us)))

  lists_agree : (us : List Term) → AllByRecursion Agrees (flat_map sorts_in_term us) → map (with_sorts_term n) (map (with_sorts_term r) us) ≡ map (with_sorts_term k) us
  lists_agree us h = args_agree us (all_of_list AgreesIn terms_agree us) h

  triggers_agree : (ts : List (List Term)) → AllByRecursion Agrees (flat_map (flat_map sorts_in_term) ts)
      → map (map (with_sorts_term n)) (map (map (with_sorts_term r)) ts) ≡ map (map (with_sorts_term k)) ts
  triggers_agree [] h = refl
  triggers_agree (us ∷ ts) h =
      ap (λ x. x ∷ map (map (with_sorts_term n)) (map (map (with_sorts_term r)) ts))
      (lists_agree us (all_front Agrees (flat_map sorts_in_term us) (flat_map (flat_map sorts_in_term) ts) h))
      ∙ ap (λ xs. map (with_sorts_term k) us ∷ xs) (triggers_agree ts (all_back Agrees (flat_map sorts_in_term us) (flat_map (flat_map sorts_in_term) ts) h))

  abbrev AgreesAll : Formula → Type 0
  AgreesAll f = AllByRecursion Agrees (sorts_in f) → with_sorts n (with_sorts r f) ≡ with_sorts k f

  abbrev AgreesBlock : Quant → Type 0
  AgreesBlock q = AllByRecursion Agrees (sorts_in_block q) → with_sorts_block n (with_sorts_block r q) ≡ with_sorts_block k q

  -- two parts that agree
  pair_agrees : (C : Term → Term → Formula) (a b : Term) (rule : (g : Sort → Sort) (x y : Term) → with_sorts g (C x y) ≡ C (with_sorts_term g x) (with_sorts_term g y))
      → AllByRecursion Agrees (sorts_in_term a ++ sorts_in_term b) → with_sorts n (with_sorts r (C a b)) ≡ with_sorts k (C a b)
  pair_agrees C a b rule h =
      ap (with_sorts n) (rule r a b) ∙ rule n (with_sorts_term r a) (with_sorts_term r b)
      ∙ ap (λ x. C x (with_sorts_term n (with_sorts_term r b))) (terms_agree a (all_front Agrees (sorts_in_term a) (sorts_in_term b) h))
      ∙ ap (C (with_sorts_term k a)) (terms_agree b (all_back Agrees (sorts_in_term a) (sorts_in_term b) h)) ∙ sym (rule k a b)

  two_agree : (C : Formula → Formula → Formula) (a b : Formula) (rule : (g : Sort → Sort) (x y : Formula) → with_sorts g (C x y) ≡ C (with_sorts g x) (with_sorts g y))
      → AgreesAll a → AgreesAll b → AllByRecursion Agrees (sorts_in a ++ sorts_in b) → with_sorts n (with_sorts r (C a b)) ≡ with_sorts k (C a b)
  two_agree C a b rule x y h =
      ap (with_sorts n) (rule r a b) ∙ rule n (with_sorts r a) (with_sorts r b)
      ∙ ap (λ z. C z (with_sorts n (with_sorts r b))) (x (all_front Agrees (sorts_in a) (sorts_in b) h))
      ∙ ap (C (with_sorts k a)) (y (all_back Agrees (sorts_in a) (sorts_in b) h)) ∙ sym (rule k a b)

  abbrev made_block : List Sort → List (List Term) → Formula → Quant
  made_block ss ts f = record { sorts = ss; triggers = ts; body = f }

  block_agrees : (q : Quant) → AgreesAll q.body → AgreesBlock q
  block_agrees q b h =
      let all = subst (AllByRecursion Agrees) (in_block q) h in
      let rest = all_back Agrees q.sorts (flat_map (flat_map sorts_in_term) q.triggers ++ sorts_in q.body) all in
      ap (with_sorts_block n) (with_block r q) ∙ with_block n (made_block (map r q.sorts) (map (map (with_sorts_term r)) q.triggers) (with_sorts r q.body))
      ∙ ap (λ xs. made_block xs (map (map (with_sorts_term n)) (map (map (with_sorts_term r)) q.triggers)) (with_sorts n (with_sorts r q.body)))
      (sorts_agree q.sorts (all_front Agrees q.sorts (flat_map (flat_map sorts_in_term) q.triggers ++ sorts_in q.body) all))
      ∙ ap (λ xs. made_block (map k q.sorts) xs (with_sorts n (with_sorts r q.body)))
      (triggers_agree q.triggers (all_front Agrees (flat_map (flat_map sorts_in_term) q.triggers) (sorts_in q.body) rest))
      ∙ ap (made_block (map k q.sorts) (map (map (with_sorts_term k)) q.triggers))
      (b (all_back Agrees (flat_map (flat_map sorts_in_term) q.triggers) (sorts_in q.body) rest))
      ∙ sym (with_block k q)

  pub formulas_agree : (f : Formula) → AgreesAll f
  formulas_agree = by_formulas AgreesAll AgreesBlock
      (λ h. ap (with_sorts n) (with_true r) ∙ with_true n ∙ sym (with_true k))
      (λ h. ap (with_sorts n) (with_false r) ∙ with_false n ∙ sym (with_false k))
      (λ a b h. pair_agrees Eq a b with_eq (subst (AllByRecursion Agrees) (in_eq a b) h))
      (λ a b h. pair_agrees Lt a b with_lt (subst (AllByRecursion Agrees) (in_lt a b) h))
      (λ a b h. pair_agrees Le a b with_le (subst (AllByRecursion Agrees) (in_le a b) h))
      (λ p ss us h.
      (let all = subst (AllByRecursion Agrees) (in_pred p ss us) h in
      ap (with_sorts n) (with_pred r p ss us) ∙ with_pred n p (map r ss) (map (with_sorts_term r) us)
      ∙ ap (λ xs. Pred p xs (map (with_sorts_term n) (map (with_sorts_term r) us))) (sorts_agree ss (all_front Agrees ss (flat_map sorts_in_term us) all))
      ∙ ap (Pred p (map k ss)) (lists_agree us (all_back Agrees ss (flat_map sorts_in_term us) all)) ∙ sym (with_pred k p ss us)))
      (λ a x h. ap (with_sorts n) (with_not r a) ∙ with_not n (with_sorts r a) ∙ ap Not (x (subst (AllByRecursion Agrees) (in_not a) h)) ∙ sym (with_not k a))
      (λ a b x y h. two_agree And a b with_and x y (subst (AllByRecursion Agrees) (in_and a b) h))
      (λ a b x y h. two_agree Or a b with_or x y (subst (AllByRecursion Agrees) (in_or a b) h))
      (λ a b x y h. two_agree Xor a b with_xor x y (subst (AllByRecursion Agrees) (in_xor a b) h))
      (λ a b x y h. two_agree Iff a b with_iff x y (subst (AllByRecursion Agrees) (in_iff a b) h))
      (λ q x h. ap (with_sorts n) (with_all r q) ∙ with_all n (with_sorts_block r q) ∙ ap All (x (subst (AllByRecursion Agrees) (in_all q) h)) ∙ sym (with_all k q))
      (λ q x h. ap (with_sorts n) (with_ex r q) ∙ with_ex n (with_sorts_block r q) ∙ ap Ex (x (subst (AllByRecursion Agrees) (in_ex q) h)) ∙ sym (with_ex k q))
      block_agrees
