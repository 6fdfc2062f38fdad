-- The generator offers bindings for each term of a pattern.
use Rattle.std.proofs.lemmas.Bool.{and_parts}
use Rattle.std.proofs.Common.{◌≡◌, ℕ, Bool, true, false, cond, ◌&&◌, List, [], map, length, refl, sym, ap, ◌∙◌, subst, slice_get, Option, Some, None, nat_lt}
use Rattle.std.specs.List.{AllByRecursion, flat_map, list_any}
use Rattle.ae_base.specs.Decided.{decided}
use Rattle.ae_core.specs.Decided.{Term_discrete}
use Rattle.ae_base.specs.Options.{or_else, ◌>>=◌}
use Rattle.ae_core.specs.Putting.{instance_term, put_terms}
use Rattle.ae_core.specs.Inner.Induction.{by_terms}
use Rattle.ae_core.proofs.Recursion.{para_num, para_fresh}
use Rattle.ae_core.specs.declared.terms.Sort.{Sort}
use Rattle.ae_core.specs.declared.terms.Head.{Head}
use Rattle.ae_core.specs.declared.terms.Term.{Term, Bound, Num, Fresh, Apply}
use Rattle.ae_matching.specs.Views.{Store}
use Rattle.ae_matching.specs.Views.{Node}
use Rattle.ae_matching.specs.declared.bindings.Bindings.{Bindings}
use Rattle.ae_matching.specs.Generating.{name_found, Generator, own, known_node, at_node, own_at, all_own, generate_step, generate}
use Rattle.ae_journal.specs.Triggers.{numbers_below}
use Rattle.ae_matching.specs.Testing.{named, Test, node_test, is_known, own_test, variable_test, test, Fits}
use Rattle.ae_matching.specs.Laws.{Offers, IsSoundStore, IsEquivalence, AreWithin}
use Rattle.ae_matching.proofs.Complete.{in_flat, any_in, each_offers, bound_offers, nodes_offer, gen_bound, gen_apply, tst_bound, tst_apply, offered_itself}
use Rattle.ae_matching.proofs.Own.{own_offers}

module _ (store : Store) (alike : ℕ → ℕ → Bool) (below : ℕ) (sorts : List Sort) (values : List ℕ) (is_own : Term → Bool) (sound : IsSoundStore store) (equivalence : IsEquivalence alike) (within : AreWithin store values) where
  abbrev fits : Bindings → Type 0
  fits = Fits store alike below sorts values

  abbrev offers : List Bindings → Type 0
  offers = Offers store alike below sorts values

  abbrev gen : Term → Generator
  gen = generate store alike below is_own

  abbrev tst : Term → Test
  tst = test store alike below sorts values is_own

  abbrev IsOffered : Term → Type 0
  IsOffered p = (n : ℕ) (env : Bindings) → tst p n ≡ true → fits env → offers (gen p n env)

  bound_case : (i : ℕ) → IsOffered (Bound i)
  bound_case i n env e f =
      let parts = and_parts (is_known store alike below sorts values n) (variable_test store alike below sorts values i n) (sym (tst_bound store alike below sorts values is_own i n) ∙ e) in
      subst offers (sym (gen_bound store alike below sorts values is_own i n env)) (bound_offers store alike below sorts values equivalence i n env _ refl parts.1 f (name_found i env.names) refl)

  -- the name has the term that the own test asks for
  named_term : (p : Term) (m : ℕ) (o : Option Term) → slice_get store.terms m ≡ o → decided (Term_discrete (or_else o (Bound 0)) (put_terms 0 (map (named store.terms) values) (instance_term sorts p))) ≡ true
      → (o ≡ None → ⊥) → slice_get store.terms m ≡ Some (put_terms 0 (map (named store.terms) values) (instance_term sorts p))
  named_term p m None s e k = absurd (k refl)
  named_term p m (Some t) s e k = s ∙ ap Some (same t _ e)
    where
      same : (t u : Term) → decided (Term_discrete t u) ≡ true → t ≡ u
      same t u = elim (Term_discrete t u) as (λ d. decided d ≡ true → t ≡ u) [ yes q ↦ λ _. q | no d ↦ λ e. cc e ]

  -- the name's term is what the own test asks for
  abbrev is_made : Term → ℕ → Bool
  is_made p m = decided (Term_discrete (named store.terms m) (put_terms 0 (map (named store.terms) values) (instance_term sorts p)))

  own_case : (p : Term) (n m : ℕ) (env : Bindings) → fits env → own_test store alike below sorts values p n m ≡ true → offers (own_at store alike below p n env m)
  own_case p n m env f e = go (slice_get store.nodes m) refl e
    where
      pass : (o : Option Node) → or_else (o >>= λ x. Some (nat_lt x.generation below && alike m n && is_made p m)) false ≡ true
          → (or_else (o >>= λ x. Some (nat_lt x.generation below && alike m n && true)) false ≡ true) × (is_made p m ≡ true) × ((o ≡ None) → ⊥)
      pass None e = cc e
      pass (Some x) e =
          let parts = and_parts (nat_lt x.generation below && alike m n) _ e in
          (λ i. parts.0 i && true, parts.1, λ z. cc z)

      go : (o : Option Node) → slice_get store.nodes m ≡ o
          → or_else (o >>= λ x. Some (nat_lt x.generation below && alike m n && is_made p m)) false ≡ true
          → offers (own_at store alike below p n env m)
      go o s e =
          let t = pass o e in
          let yes : known_node store alike below (λ x. true) n m ≡ true = ap (λ q. or_else (q >>= λ x. Some (nat_lt x.generation below && alike m n && true)) false) s ∙ t.0 in
          let term = named_term p m (slice_get store.terms m) refl t.1 (λ z. t.2 (sym s ∙ sound.lengths m z)) in
          subst (λ b. offers (cond b (own store p m env) [])) (sym yes) (own_offers store alike below sorts values sound within p m env term f)

  owns_offer : (p : Term) (n : ℕ) (env : Bindings) → fits env → list_any (own_test store alike below sorts values p n) (numbers_below (length store.nodes)) ≡ true → offers (all_own store alike below p n env)
  owns_offer p n env f e =
      let r = any_in (own_test store alike below sorts values p n) (numbers_below (length store.nodes)) e in
      let o = own_case p n r.0 env f r.2 in
      record { env = o.env; offered = in_flat (own_at store alike below p n env) (numbers_below (length store.nodes)) r.0 o.env r.1 o.offered; fits = o.fits }

  apply_case : (h : Head) (ss : List Sort) (us : List Term) → AllByRecursion IsOffered us → IsOffered (Apply h ss us)
  apply_case h ss us all n env e f =
      let parts = and_parts (is_known store alike below sorts values n) _ (sym (tst_apply store alike below sorts values is_own h ss us n) ∙ e) in
      subst offers (sym (gen_apply store alike below sorts values is_own h ss us n env)) (go (is_own (Apply h ss us)) parts.1)
    where
      go : (b : Bool) → list_any (cond b (own_test store alike below sorts values (Apply h ss us) n) (known_node store alike below (node_test store alike below sorts values h ss (map tst us)) n)) (numbers_below (length store.nodes)) ≡ true
          → offers (cond b (all_own store alike below (Apply h ss us) n env) (flat_map (at_node store alike below h ss (map gen us) n env) (numbers_below (length store.nodes))))
      go true t = owns_offer (Apply h ss us) n env f t
      go false t = nodes_offer store alike below sorts values h ss (map gen us) (map tst us) n env f (λ ks en. each_offers store alike below sorts values gen tst us all ks en) t

  num_case : (a b : _) (r : Bool) → IsOffered (Num a b r)
  unfolding generate
  num_case a b r n env e f = subst offers (sym (ap (λ g. g n env) (para_num Generator (generate_step store alike below is_own) a b r))) (offered_itself store alike below sorts values env f)

  fresh_case : (k : ℕ) (s : Sort) → IsOffered (Fresh k s)
  unfolding generate
  fresh_case k s n env e f = subst offers (sym (ap (λ g. g n env) (para_fresh Generator (generate_step store alike below is_own) k s))) (offered_itself store alike below sorts values env f)

  pub gen_offers : (p : Term) → IsOffered p
  gen_offers = by_terms IsOffered bound_case num_case fresh_case apply_case
