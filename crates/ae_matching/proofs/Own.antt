-- Bindings are found for a term that equals its own name alone.
use Rattle.ae_base.proofs.ListFacts.{map_map}
use Rattle.ae_base.proofs.Tests.{nat_eq_itself}
use Rattle.ae_base.proofs.AllOf.{all_always}
use Rattle.std.proofs.Common.{◌≡◌, ℕ, ◌-◌, arith, Bool, true, false, cond, ◌&&◌, List, [], ◌∷◌, map, length, reverse, refl, sym, ap, ◌∙◌, subst, slice_get, Option, Some, None, inl, inr, nat_eq, nat_lt}
use Rattle.std.specs.List.{AllByRecursion}
use mathlib.Core.List.{reverse_aux}
use Rattle.std.specs.Option.{option_map}
use Rattle.std.proofs.lemmas.Option.{slice_get-map}
use Rattle.std.proofs.lemmas.Bool.{cases_Bool, ltb-true, and_parts, eqb-true}
use Rattle.ae_base.specs.Decided.{decided}
use Rattle.ae_core.specs.Decided.{Head_discrete}
use Rattle.ae_base.specs.Options.{or_else}
use Rattle.ae_core.specs.Putting.{put_sort}
use Rattle.ae_core.specs.Putting.{instance_term, put_terms}
use Rattle.ae_core.specs.Inner.Induction.{by_terms}
use Rattle.ae_core.proofs.Recursion.{para_bound, para_num, para_fresh, para_apply}
use Rattle.ae_core.proofs.PuttingLaws.{instance_bound, instance_apply, put_bound, put_apply}
use Rattle.ae_core.specs.declared.terms.Sort.{Sort}
use Rattle.ae_core.specs.declared.terms.Head.{Head}
use Rattle.ae_core.specs.declared.terms.Term.{Term, Bound, Num, Fresh, Apply}
use Rattle.ae_matching.specs.Views.{Store}
use Rattle.ae_matching.specs.declared.bindings.NameBinding.{NameBinding}
use Rattle.ae_matching.specs.declared.bindings.Bindings.{Bindings}
use Rattle.ae_matching.specs.SortMatching.{match_sorts}
use Rattle.ae_matching.specs.Generating.{applies, exact_found, with_name, with_sorts, Generator, each, sorted_then, bind_exact, own_node, own_step, own}
use Rattle.ae_matching.specs.Testing.{named, binding_fits, IsNameOf, Fits}
use Rattle.ae_matching.specs.Laws.{Offers, IsSoundStore, AreWithin}
use Rattle.ae_matching.proofs.SortLaws.{sorts_found, each_found}
use Rattle.ae_matching.proofs.Complete.{in_flat, seconds, offered_left, offered_itself, named_more}

onto_map : {A B : Type 0} (f : A → B) (xs acc : List A) → reverse_aux (map f xs) (map f acc) ≡ map f (reverse_aux xs acc)
onto_map f [] acc = refl
onto_map f (x ∷ xs) acc = onto_map f xs (x ∷ acc)

pub minus_none : (i : ℕ) → i - 0 ≡ i
minus_none i = omega arith

pub reverse_map : {A B : Type 0} (f : A → B) (xs : List A) → reverse (map f xs) ≡ map f (reverse xs)
reverse_map f xs = onto_map f xs []

none_below : (i : ℕ) → nat_lt i 0 ≡ false
none_below i = elim (cases_Bool (nat_lt i 0)) as (λ _. nat_lt i 0 ≡ false) [ inl y ↦ absurd (omega (arith, ltb-true i 0 y)) | inr n ↦ n ]

pub same_head_yes : (h k : Head) → h ≡ k → decided (Head_discrete h k) ≡ true
same_head_yes h k e = elim (Head_discrete h k) as (λ d. decided d ≡ true) [ yes p ↦ refl | no n ↦ absurd (n e) ]

module _ (store : Store) (alike : ℕ → ℕ → Bool) (below : ℕ) (sorts : List Sort) (values : List ℕ) (sound : IsSoundStore store) (within : AreWithin store values) where
  abbrev fits : Bindings → Type 0
  fits = Fits store alike below sorts values

  abbrev offers : List Bindings → Type 0
  offers = Offers store alike below sorts values

  abbrev is_name : NameBinding → Type 0
  is_name = IsNameOf store alike below sorts values

  -- the pattern's term with the sorts and names put
  abbrev made : Term → Term
  made p = put_terms 0 (map (named store.terms) values) (instance_term sorts p)

  abbrev IsOffered : Term → Type 0
  IsOffered p = (n : ℕ) (env : Bindings) → slice_get store.terms n ≡ Some (made p) → fits env → offers (own store p n env)

  exact_right : (i v m : ℕ) (bs : List NameBinding) → AllByRecursion is_name bs → slice_get (reverse values) i ≡ Some v → exact_found i bs ≡ Some m → v ≡ m
  exact_right i v m [] a s e = cc e
  exact_right i v m (b ∷ bs) a s e = elim (cases_Bool (nat_eq b.variable i && b.exact)) as (λ _. v ≡ m) [
    | inl y ↦
        let parts = and_parts (nat_eq b.variable i) b.exact y in
        let here : Some b.name ≡ Some m = sym (ap (λ c. cond c (Some b.name) (exact_found i bs)) y) ∙ e in
        let there : b.name ≡ m = cc here in
        let at : slice_get (reverse values) b.variable ≡ Some v = ap (slice_get (reverse values)) (eqb-true b.variable i parts.0) ∙ s in
        let it : binding_fits store alike below sorts values true (Some v) b.name = subst (λ x. binding_fits store alike below sorts values x (Some v) b.name) parts.1 (subst
        (λ o. binding_fits store alike below sorts values b.exact o b.name) at a.0) in
        it ∙ there
    | inr n ↦ exact_right i v m bs a.1 s (sym (ap (λ c. cond c (Some b.name) (exact_found i bs)) n) ∙ e)
  ]

  -- the variable's name is this very one
  variable_name : (i n : ℕ) → slice_get store.terms n ≡ Some (made (Bound i)) → slice_get (reverse values) i ≡ Some n
  variable_name i n e =
      let put : made (Bound i) ≡ or_else (option_map (named store.terms) (slice_get (reverse values) i)) (Bound (i - length (map (named store.terms) values))) =
      ap (put_terms 0 (map (named store.terms) values)) (instance_bound sorts i) ∙ put_bound 0 (map (named store.terms) values) i
      ∙ ap (λ b. cond b (Bound i) (or_else (slice_get (reverse (map (named store.terms) values)) (i - 0)) (Bound (i - length (map (named store.terms) values))))) (none_below i)
      ∙ ap (λ k. or_else (slice_get (reverse (map (named store.terms) values)) k) (Bound (i - length (map (named store.terms) values)))) (minus_none i)
      ∙ ap (λ l. or_else (slice_get l i) (Bound (i - length (map (named store.terms) values)))) (reverse_map (named store.terms) values)
      ∙ ap (λ o. or_else o (Bound (i - length (map (named store.terms) values)))) (slice_get-map (named store.terms) (reverse values) i) in
      go (slice_get (reverse values) i) refl (e ∙ ap Some put)
    where
      go : (o : Option ℕ) → slice_get (reverse values) i ≡ o → slice_get store.terms n ≡ Some (or_else (option_map (named store.terms) o) (Bound (i - length (map (named store.terms) values)))) → slice_get (reverse values) i ≡ Some n
      go None s e = absurd (sound.closed n (i - length (map (named store.terms) values)) e)
      go (Some v) s e =
          let w = within.each i v s in
          s ∙ ap Some (sound.one_name v n (named store.terms v) w e)

  bound_case : (i : ℕ) → IsOffered (Bound i)
  unfolding own
  bound_case i n env e f =
      let s = variable_name i n e in
      subst offers (sym (ap (λ g. g n env) (para_bound Generator (own_step store) i))) (go (exact_found i env.names) refl s)
    where
      go : (o : Option ℕ) → exact_found i env.names ≡ o → slice_get (reverse values) i ≡ Some n → offers (bind_exact i n env o)
      go None w s = offered_itself store alike below sorts values (with_name env i true n) (named_more store alike below sorts values env i true n f (subst (λ o. binding_fits store alike below sorts values true o n) (sym s) refl))
      go (Some m) w s =
          let r = exact_right i n m env.names f.named_ones s w in
          subst (λ b. offers (cond b (env ∷ []) [])) (sym (subst (λ k. nat_eq m k ≡ true) (sym r) (nat_eq_itself m))) (offered_itself store alike below sorts values env f)

  each_own : (us : List Term) → AllByRecursion IsOffered us → (ns : List ℕ) (env : Bindings) → map (slice_get store.terms) ns ≡ map Some (map made us) → fits env → offers (each (map (own store) us) ns env)
  each_own [] all [] env e f = offered_itself store alike below sorts values env f
  each_own [] all (n ∷ ns) env e f = cc e
  each_own (u ∷ us) all [] env e f = cc e
  each_own (u ∷ us) all (n ∷ ns) env e f =
      let e1 : slice_get store.terms n ≡ Some (made u) = cc e in
      let e2 : map (slice_get store.terms) ns ≡ map Some (map made us) = cc e in
      let first = all.0 n env e1 f in
      let rest = each_own us all.1 ns first.env e2 first.fits in
      record { env = rest.env; offered = in_flat (each (map (own store) us) ns) (own store u n env) first.env rest.env first.offered rest.offered; fits = rest.fits }

  apply_case : (h : Head) (ss : List Sort) (us : List Term) → AllByRecursion IsOffered us → IsOffered (Apply h ss us)
  unfolding own
  apply_case h ss us all n env e f =
      let put : made (Apply h ss us) ≡ Apply h (map (put_sort sorts) ss) (map made us) =
      ap (put_terms 0 (map (named store.terms) values)) (instance_apply sorts h ss us) ∙ put_apply 0 (map (named store.terms) values) h (map (put_sort sorts) ss) (map (instance_term sorts) us)
      ∙ ap (Apply h (map (put_sort sorts) ss)) (map_map (instance_term sorts) (put_terms 0 (map (named store.terms) values)) us) in
      let node = sound.nodes n h (map (put_sort sorts) ss) (map made us) (e ∙ ap Some put) in
      let found = each_found sorts ss (all_always _ (sorts_found sorts) ss) env.sorts f.sorted in
      let next : fits (with_sorts env found.bindings) = record { sorted = found.right; named_ones = f.named_ones } in
      let here : match_sorts ss node.node.sorts env.sorts ≡ Some found.bindings = ap (λ z. match_sorts ss z env.sorts) node.sorts ∙ found.here in
      let inner = each_own us all node.node.args (with_sorts env found.bindings) node.args next in
      let yes : applies h node.node.head ≡ true = ap (applies h) node.head ∙ same_head_yes h h refl in
      subst offers
      (sym (
      ap (λ g. g n env) (para_apply Generator (own_step store) h ss us) ∙ ap (λ fs. own_node store h ss fs env (slice_get store.nodes n)) (seconds (own store) us)
      ∙ ap (own_node store h ss (map (own store) us) env) node.at ∙ ap (λ b. cond b (sorted_then (map (own store) us) node.node.args false env (match_sorts ss node.node.sorts env.sorts)) []) yes
      ∙ ap (sorted_then (map (own store) us) node.node.args false env) here
      ))
      (offered_left store alike below sorts values (each (map (own store) us) node.node.args (with_sorts env found.bindings)) [] inner)

  leaf_num : (a b : _) (r : Bool) → IsOffered (Num a b r)
  unfolding own
  leaf_num a b r n env e f = subst offers (sym (ap (λ g. g n env) (para_num Generator (own_step store) a b r))) (offered_itself store alike below sorts values env f)

  leaf_fresh : (k : ℕ) (s : Sort) → IsOffered (Fresh k s)
  unfolding own
  leaf_fresh k s n env e f = subst offers (sym (ap (λ g. g n env) (para_fresh Generator (own_step store) k s))) (offered_itself store alike below sorts values env f)

  pub own_offers : (p : Term) → IsOffered p
  own_offers = by_terms IsOffered bound_case leaf_num leaf_fresh apply_case
