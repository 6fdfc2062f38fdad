-- A term flattened under a symbol, at each form of term.
use Rattle.std.specs.Prelude.{ℕ, zero, suc, ◌<◌, ℤ, Bool, List, [], ◌∷◌, ◌++◌, ◌≡◌, ◌≢◌, map, length, get_or}
use Rattle.std.proofs.lemmas.List.{map-append}
use mathlib.Core.Path.{refl, sym, ap, ◌∙◌, subst}
use mathlib.Core.List.{append_assoc}
use native.Mathlib.Omega.{arith}
use denote.Ref.{Bor}
use Rattle.ae_core.specs.Decided.{Head_discrete, Sorts_discrete}
use Rattle.ae_base.specs.Decided.{pick}
use Rattle.ae_base.proofs.Decided.{pick_yes, pick_no}
use Rattle.ae_rules.specs.Lines.{flat, flat_step}
use Rattle.ae_core.proofs.Recursion.{para_bound, para_num, para_fresh, para_apply}
use Rattle.ae_core.specs.declared.terms.Sort.{Sort}
use Rattle.ae_core.specs.declared.terms.Head.{Head}
use Rattle.ae_core.specs.declared.terms.Term.{Term, Term-F, Bound, Num, Fresh, Apply, out-Term, roll-Term, roll-out-Term}
use Rattle.ae_core.specs.declared.terms.Term.TheOpen as layer
use Rattle.ae_core.specs.declared.terms.Term.TheVariants.{rolls-Bound, rolls-Num, rolls-Fresh, rolls-Apply}
use Rattle.ae_calc.specs.Inner.LentTerms.{values}

-- one more lent term
pub values_push : (ts : List (Bor Term)) (t : Bor Term) → values (ts ++ t ∷ []) ≡ values ts ++ t.now ∷ []
values_push ts t = map-append (λ (u : Bor Term). u.now) ts (t ∷ [])

values_at : (ts : List (Bor Term)) (i : ℕ) (d : Bor Term) (t : Term) → i < length ts → get_or (values ts) i t ≡ (get_or ts i d).now
values_at [] i d t b = absurd (omega (arith, b))
values_at (x ∷ ts) zero d t b = refl
values_at (x ∷ ts) (suc i) d t b = values_at ts i d t (omega (arith, b))

-- different terms at one place
pub values_stop : (ts us : List (Bor Term)) (i : ℕ) (d e : Bor Term) → i < length ts → i < length us → (get_or ts i d).now ≢ (get_or us i e).now → values ts ≢ values us
values_stop ts us i d e b l n p = n (sym (values_at ts i d d.now b) ∙ ap (λ w. get_or w i d.now) p ∙ values_at us i e d.now l)

module _ (h : Head) (ss : List Sort) where
  flat_bound : (n : ℕ) → flat h ss (Bound n) ≡ Bound n ∷ []
  unfolding flat
  flat_bound n = para_bound (List Term) (flat_step h ss) n

  flat_num : (a b : ℤ) (r : Bool) → flat h ss (Num a b r) ≡ Num a b r ∷ []
  unfolding flat
  flat_num a b r = para_num (List Term) (flat_step h ss) a b r

  flat_fresh : (n : ℕ) (s : Sort) → flat h ss (Fresh n s) ≡ Fresh n s ∷ []
  unfolding flat
  flat_fresh n s = para_fresh (List Term) (flat_step h ss) n s

  flat_apply : (k : Head) (us : List Sort) (args : List Term) → flat h ss (Apply k us args) ≡ flat_step h ss (layer.Apply k us (map (λ t. (t, flat h ss t)) args))
  unfolding flat
  flat_apply k us args = para_apply (List Term) (flat_step h ss) k us args

  by_layer : (t : Term) (x : Term-F Term) → roll-Term x ≡ t → ((k : Head) (us : List Sort) (args : List Term) → t ≡ Apply k us args → ⊥) → flat h ss t ≡ t ∷ []
  by_layer t (layer.Bound i) e n = subst (λ w. flat h ss w ≡ w ∷ []) (sym (rolls-Bound i) ∙ e) (flat_bound i)
  by_layer t (layer.Num a b r) e n = subst (λ w. flat h ss w ≡ w ∷ []) (sym (rolls-Num a b r) ∙ e) (flat_num a b r)
  by_layer t (layer.Fresh i s) e n = subst (λ w. flat h ss w ≡ w ∷ []) (sym (rolls-Fresh i s) ∙ e) (flat_fresh i s)
  by_layer t (layer.Apply k us args) e n = absurd (n k us args (sym e ∙ rolls-Apply k us args))

  -- a term that is no application
  pub flat_alone : (t : Term) → ((k : Head) (us : List Sort) (args : List Term) → t ≡ Apply k us args → ⊥) → flat h ss t ≡ t ∷ []
  flat_alone t n = by_layer t (out-Term t) (roll-out-Term t) n

  firsts : (args : List Term) → map (λ (a : Term × List Term). a.0) (map (λ t. (t, flat h ss t)) args) ≡ args
  firsts [] = refl
  firsts (t ∷ ts) = ap (λ w. t ∷ w) (firsts ts)

  flat_many : (k : Head) (us : List Sort) (args : List Term) → length args ≢ 2 → flat h ss (Apply k us args) ≡ Apply k us args ∷ []
  flat_many k us [] n = flat_apply k us []
  flat_many k us (a ∷ []) n = flat_apply k us (a ∷ [])
  flat_many k us (a ∷ b ∷ []) n = absurd (n refl)
  flat_many k us (a ∷ b ∷ c ∷ cs) n = flat_apply k us (a ∷ b ∷ c ∷ cs) ∙ ap (λ w. Apply k us (a ∷ b ∷ c ∷ w) ∷ []) (firsts cs)

  -- an application to another number of arguments
  pub flat_other_length : (t : Term) (k : Head) (us : List Sort) (args : List Term) → t ≡ Apply k us args → length args ≢ 2 → flat h ss t ≡ t ∷ []
  flat_other_length t k us args e n = subst (λ w. flat h ss w ≡ w ∷ []) (sym e) (flat_many k us args n)

  flat_same : (k : Head) (us : List Sort) (a b : Term) → h ≡ k → ss ≡ us → flat h ss (Apply k us (a ∷ b ∷ [])) ≡ flat h ss a ++ flat h ss b
  flat_same k us a b p q =
      let own : List Term = Apply k us (a ∷ b ∷ []) ∷ [] in
      flat_apply k us (a ∷ b ∷ []) ∙ pick_yes (Head_discrete h k) (pick (Sorts_discrete ss us) (flat h ss a ++ flat h ss b) own) own p
      ∙ pick_yes (Sorts_discrete ss us) (flat h ss a ++ flat h ss b) own q

  same_either : {P : Type 0} (d : Dec P) (ts : List Term) → pick d ts ts ≡ ts
  same_either (yes p) ts = refl
  same_either (no n) ts = refl

  flat_head : (k : Head) (us : List Sort) (a b : Term) → h ≢ k → flat h ss (Apply k us (a ∷ b ∷ [])) ≡ Apply k us (a ∷ b ∷ []) ∷ []
  flat_head k us a b n =
      let own : List Term = Apply k us (a ∷ b ∷ []) ∷ [] in
      flat_apply k us (a ∷ b ∷ []) ∙ pick_no (Head_discrete h k) (pick (Sorts_discrete ss us) (flat h ss a ++ flat h ss b) own) own n

  flat_sorts : (k : Head) (us : List Sort) (a b : Term) → ss ≢ us → flat h ss (Apply k us (a ∷ b ∷ [])) ≡ Apply k us (a ∷ b ∷ []) ∷ []
  flat_sorts k us a b n =
      let own : List Term = Apply k us (a ∷ b ∷ []) ∷ [] in
      flat_apply k us (a ∷ b ∷ []) ∙ ap (λ w. pick (Head_discrete h k) w own) (pick_no (Sorts_discrete ss us) (flat h ss a ++ flat h ss b) own n)
      ∙ same_either (Head_discrete h k) own

  pair_of : (args : List Term) (a b : Term) → length args ≡ 2 → a ≡ get_or args 0 a → b ≡ get_or args 1 b → args ≡ a ∷ b ∷ []
  pair_of [] a b l p q = absurd (omega (arith, l))
  pair_of (x ∷ []) a b l p q = absurd (omega (arith, l))
  pair_of (x ∷ y ∷ []) a b l p q = λ i. sym p i ∷ sym q i ∷ []
  pair_of (x ∷ y ∷ z ∷ zs) a b l p q = absurd (omega (arith, l))

  -- an application of the symbol itself
  pub flat_inside : (t : Term) (k : Head) (us : List Sort) (args : List Term) (a b : Term) → t ≡ Apply k us args → length args ≡ 2 → a ≡ get_or args 0 a → b ≡ get_or args 1 b → h ≡ k → ss ≡ us → flat h ss t ≡ flat h ss a ++ flat h ss b
  flat_inside t k us args a b e l p q x y =
      ap (flat h ss) (e ∙ ap (Apply k us) (pair_of args a b l p q)) ∙ flat_same k us a b x y

  flat_head_list : (k : Head) (us : List Sort) (args : List Term) → length args ≡ 2 → h ≢ k → flat h ss (Apply k us args) ≡ Apply k us args ∷ []
  flat_head_list k us [] l n = absurd (omega (arith, l))
  flat_head_list k us (x ∷ []) l n = absurd (omega (arith, l))
  flat_head_list k us (x ∷ y ∷ []) l n = flat_head k us x y n
  flat_head_list k us (x ∷ y ∷ z ∷ zs) l n = absurd (omega (arith, l))

  flat_sorts_list : (k : Head) (us : List Sort) (args : List Term) → length args ≡ 2 → ss ≢ us → flat h ss (Apply k us args) ≡ Apply k us args ∷ []
  flat_sorts_list k us [] l n = absurd (omega (arith, l))
  flat_sorts_list k us (x ∷ []) l n = absurd (omega (arith, l))
  flat_sorts_list k us (x ∷ y ∷ []) l n = flat_sorts k us x y n
  flat_sorts_list k us (x ∷ y ∷ z ∷ zs) l n = absurd (omega (arith, l))

  -- an application of another symbol, or with other sorts
  pub flat_other_head : (t : Term) (k : Head) (us : List Sort) (args : List Term) → t ≡ Apply k us args → length args ≡ 2 → h ≢ k → flat h ss t ≡ t ∷ []
  flat_other_head t k us args e l n = subst (λ w. flat h ss w ≡ w ∷ []) (sym e) (flat_head_list k us args l n)

  pub flat_other_sorts : (t : Term) (k : Head) (us : List Sort) (args : List Term) → t ≡ Apply k us args → length args ≡ 2 → ss ≢ us → flat h ss t ≡ t ∷ []
  flat_other_sorts t k us args e l n = subst (λ w. flat h ss w ≡ w ∷ []) (sym e) (flat_sorts_list k us args l n)

  -- a term that is kept as it stands
  pub kept : (before after : List (Bor Term)) (t : Bor Term) → after ≡ before ++ t ∷ [] → flat h ss t.now ≡ t.now ∷ [] → values after ≡ values before ++ flat h ss t.now
  kept before after t e f = ap values e ∙ values_push before t ∙ ap (λ w. values before ++ w) (sym f)

  -- two arguments flattened one after the other
  pub joined : (before : List (Bor Term)) (middle after : List Term) (t a b : Term) → flat h ss t ≡ flat h ss a ++ flat h ss b → middle ≡ values before ++ flat h ss a → after ≡ middle ++ flat h ss b → after ≡ values before ++ flat h ss t
  joined before middle after t a b f m e =
      e ∙ ap (λ w. w ++ flat h ss b) m ∙ append_assoc (values before) (flat h ss a) (flat h ss b) ∙ ap (λ w. values before ++ w) (sym f)
