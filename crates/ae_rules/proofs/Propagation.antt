-- Where formulas have truth values: unit propagation is sound, and the clause of a block denies its hypotheses.
use Rattle.std.specs.Prelude.{Bool, true, false, cond, not, ◌||◌, List, [], ◌∷◌, ◌++◌, ◌≡◌, ◌⊎◌, map, Option, Some, None}
use Rattle.std.specs.List.{list_all}
use Rattle.std.proofs.Common.{refl, sym, ap, ◌∙◌, subst, true≢false, inl, inr, ⊎_elim}
use Rattle.std.proofs.lemmas.Bool.{and_parts, or_left, or_right}
use Rattle.std.proofs.lemmas.List.Folds.{list_any-append}
use Rattle.ae_core.specs.Decided.{Lit_discrete}
use Rattle.ae_base.specs.Decided.{decided}
use Rattle.ae_base.specs.Options.{when}
use Rattle.ae_rules.specs.Clauses.{Clause, opposite, stands, has_true, is_or_stands, next_false, refutes}
use Rattle.ae_rules.specs.Valuations.{same_truth, literal_holds, clause_holds}
use Rattle.ae_core.specs.declared.formulas.Formula.{Formula}
use Rattle.ae_core.specs.declared.formulas.Lit.{Lit}
use Rattle.ae_base.proofs.Tests.{by_bool, by_either, not_and}
use Rattle.ae_base.proofs.Decided.{decided_yes}
use Rattle.ae_base.proofs.Options.{when_some}
use Rattle.ae_base.proofs.ListFacts.{any_of_all}

opposed : (s b : Bool) → same_truth (not s) b ≡ not (same_truth s b)
opposed true true = refl
opposed true false = refl
opposed false true = refl
opposed false false = refl

module _ (v : Formula → Bool) where
  -- the clause of a block denies its hypotheses
  pub opposites_deny : (ls : List Lit) → clause_holds v (map opposite ls) ≡ not (list_all (literal_holds v) ls)
  opposites_deny [] = refl
  opposites_deny (l ∷ ls) = (λ i. opposed l.positive (v l.formula) i || opposites_deny ls i) ∙ not_and (literal_holds v l) (list_all (literal_holds v) ls)

  -- a true literal that stands among the false ones
  stands_true : (fs : List Lit) (l : Lit) → stands fs l ≡ true → literal_holds v l ≡ true → clause_holds v fs ≡ true
  stands_true [] l s t = absurd (true≢false (sym s))
  stands_true (m ∷ fs) l s t =
      by_either (decided (Lit_discrete m l)) (stands fs l) s (λ same. or_left (literal_holds v m) (clause_holds v fs) (ap (literal_holds v) (decided_yes (Lit_discrete m l) same) ∙ t))
      (λ later. or_right (literal_holds v m) (clause_holds v fs) (stands_true fs l later t))

  -- what becomes false with a true clause is false, unless a false one is true
  next_is_false : (fs : List Lit) (c : Clause) (l : Lit) → next_false fs c ≡ Some l → clause_holds v c ≡ true → (clause_holds v fs ≡ true) ⊎ (literal_holds v l ≡ false)
  next_is_false fs [] l n t = absurd (true≢false (sym t))
  next_is_false fs (m ∷ ms) l n t =
      by_bool (stands fs m)
      (λ s. by_either (literal_holds v m) (clause_holds v ms) t (λ h. inl (stands_true fs m s h))
      (λ h. next_is_false fs ms l (subst (λ b. cond b (next_false fs ms) (when (list_all (is_or_stands fs m) ms) (opposite m)) ≡ Some l) s n) h))
      (λ s.
      let w = when_some (list_all (is_or_stands fs m) ms) (opposite m) l (subst (λ b. cond b (next_false fs ms) (when (list_all (is_or_stands fs m) ms) (opposite m)) ≡ Some l) s n) in
      let one : literal_holds v m ≡ true → literal_holds v l ≡ false = λ h. ap (literal_holds v) (sym w.1) ∙ opposed m.positive (v m.formula) ∙ ap not h in
      by_either (literal_holds v m) (clause_holds v ms) t (λ h. inr (one h))
      (λ h. any_of_all (literal_holds v) (is_or_stands fs m)
      (λ k yes is. by_either (decided (Lit_discrete m k)) (stands fs k) is (λ same. inr (one (ap (literal_holds v) (decided_yes (Lit_discrete m k) same) ∙ yes))) (λ later. inl (stands_true fs k later yes)))
      ms h w.0))

  abbrev go_on : List Lit → List Clause → Option Lit → Bool
  go_on fs cs o = elim o [ Some l ↦ refutes (fs ++ l ∷ []) cs | None ↦ false ]

  goes_on : (fs : List Lit) (cs : List Clause) (o : Option Lit) → go_on fs cs o ≡ true → (l : Lit) × (o ≡ Some l) × (refutes (fs ++ l ∷ []) cs ≡ true)
  goes_on fs cs (Some l) e = (l, refl, e)
  goes_on fs cs None e = absurd (true≢false (sym e))

  -- where true clauses refute that literals are all false, one of these is true
  pub refuted : (fs : List Lit) (cs : List Clause) → refutes fs cs ≡ true → list_all (clause_holds v) cs ≡ true → clause_holds v fs ≡ true
  refuted fs [] r a = absurd (true≢false (sym r))
  refuted fs (c ∷ []) r a = any_of_all (literal_holds v) (stands fs) (λ l t s. stands_true fs l s t) c (and_parts (clause_holds v c) true a).0 r
  refuted fs (c ∷ d ∷ cs) r a =
      let both = and_parts (clause_holds v c) (list_all (clause_holds v) (d ∷ cs)) a in
      by_bool (has_true fs c)
      (λ h. refuted fs (d ∷ cs) (subst (λ b. cond b (refutes fs (d ∷ cs)) (go_on fs (d ∷ cs) (next_false fs c)) ≡ true) h r) both.1)
      (λ h.
      let next = goes_on fs (d ∷ cs) (next_false fs c) (subst (λ b. cond b (refutes fs (d ∷ cs)) (go_on fs (d ∷ cs) (next_false fs c)) ≡ true) h r) in
      let l = next.0 in
      let more : clause_holds v (fs ++ l ∷ []) ≡ true = refuted (fs ++ l ∷ []) (d ∷ cs) next.2 both.1 in
      by_either (clause_holds v fs) (clause_holds v (l ∷ [])) (sym (list_any-append (literal_holds v) fs (l ∷ [])) ∙ more) (λ t. t)
      (λ one. ⊎_elim (λ t. t) (λ f. absurd (true≢false (sym one ∙ ap (λ b. b || false) f))) (next_is_false fs c l next.1 both.0)))
