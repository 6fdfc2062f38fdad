-- The reasons of the resolved places, in the order of the trail, lead by unit propagation from the learnt clause to the false one.
use Rattle.std.proofs.Common.{◌≡◌, ◌≢◌, ℕ, zero, suc, ◌+◌, ◌<◌, ◌≤◌, ◌++◌, Bool, true, false, cond, List, [], ◌∷◌, length, map, refl, sym, ap, ◌∙◌, subst, arith, true≢false, ◌⊎◌, inl, inr, Option, Some, None, if◌then◌else◌}
use Rattle.std.specs.Prelude.{not}
use Rattle.std.specs.List.{Contains}
use Rattle.std.proofs.lemmas.Bool.{cases_eq, cases_lt, cases_Bool, or_left, or_right}
use Rattle.std.proofs.lemmas.Option.{slice_get-get_or}
use Rattle.ae_base.specs.Decided.{decided}
use Rattle.ae_core.specs.Decided.{Lit_discrete}
use Rattle.ae_base.specs.Options.{◌>>=◌}
use Rattle.ae_rules.specs.Clauses.{Clause, opposite, stands, has_true, next_false, refutes}
use Rattle.ae_rules.specs.Derivations.{is_refuted}
use Rattle.ae_core.specs.declared.formulas.Lit.{Lit}
use Rattle.ae_explain.specs.declared.trail.Assigned.{Assigned}
use Rattle.ae_explain.specs.declared.marks.Mark.{Mark}
use Rattle.ae_explain.specs.Trail.{at, clause, IsLawful}
use Rattle.ae_explain.specs.Hints.{hinted, Propagates}
use Rattle.ae_explain.specs.Inner.Marks.{mark, kept, resolved, IsMarked, Closes, lits_below, hints_from, reasons}
use Rattle.ae_rules.proofs.Standing.{opposite_twice, stands_more, stands_last, stands_or_last, none_true, all_stand, one_open}
use Rattle.ae_explain.proofs.Marking.{kept_or_resolved, resolved_not_kept}
use Rattle.ae_explain.proofs.Reading.{lits_yes, lits_no}
use Rattle.ae_base.proofs.Tests.{by_either, not_both, not_itself}
use Rattle.ae_base.proofs.Decided.{decided_of, decided_yes}

-- ---- a hint in front of others
abbrev go_on : List Lit → List Clause → Option Lit → Bool
go_on fs cs o = elim o [ Some l ↦ refutes (fs ++ l ∷ []) cs | None ↦ false ]

in_front : (o : Option (List Clause)) (fs : List Lit) (c : Clause) (l : Lit) → has_true fs c ≡ false → next_false fs c ≡ Some l → is_refuted o (fs ++ l ∷ []) ≡ true
    → is_refuted (o >>= λ cs. Some (c ∷ cs)) fs ≡ true
in_front None fs c l h n e = absurd (true≢false (sym e))
in_front (Some []) fs c l h n e = absurd (true≢false (sym e))
in_front (Some (d ∷ cs)) fs c l h n e = (λ i. cond (h i) (refutes fs (d ∷ cs)) (go_on fs (d ∷ cs) (n i))) ∙ e

first_hint : (clauses : List Clause) (k : ℕ) (ks : List ℕ) → k < length clauses → hinted clauses (k ∷ ks) ≡ (hinted clauses ks >>= λ cs. Some (clause clauses k ∷ cs))
first_hint clauses k ks w = ap (λ o. o >>= λ c. hinted clauses ks >>= λ cs. Some (c ∷ cs)) (slice_get-get_or clauses k [] w)

-- ---- the whole list of hints
module _ (t : List Assigned) (clauses : List Clause) (lawful : IsLawful t clauses) (marks : List Mark) (last : ℕ) (closed : (p : ℕ) → p < length t → resolved marks p ≡ true → Closes t clauses marks p)
    (within : last < length clauses) (falsified : (m : Lit) → Contains (clause clauses last) m → IsMarked t marks (length t) m) where
  -- a place whose literal is true when the hints of the places below q are used
  abbrev pub IsUsed : ℕ → ℕ → Type 0
  IsUsed q p = (kept marks p ≡ true) ⊎ ((resolved marks p ≡ true) × (p < q))

  pub record Knows (fs : List Lit) (q : ℕ) : Type 0 where
    pub has : (p : ℕ) → p < length t → IsUsed q p → stands fs (opposite (at t p).lit) ≡ true
    pub only : (m : Lit) → stands fs m ≡ true → (p : ℕ) × (p < length t) × (m ≡ opposite (at t p).lit) × IsUsed q p

  -- what is marked below q is false
  stands_marked : (fs : List Lit) (q : ℕ) → q ≤ length t → Knows fs q → (m : Lit) → IsMarked t marks q m → stands fs m ≡ true
  stands_marked fs q w k m h =
      let used : IsUsed q h.0 = elim (kept_or_resolved (mark marks h.0) h.3) as (λ _. IsUsed q h.0) [ inl y ↦ inl y | inr r ↦ inr (r, h.1) ] in
      subst (λ (x : Lit). stands fs x ≡ true) (ap opposite h.2 ∙ opposite_twice m) (k.has h.0 (omega (arith, h.1, w)) used)

  one_place : (p q : ℕ) → p < length t → q < length t → (at t p).lit.formula ≡ (at t q).lit.formula → p ≡ q
  one_place p q l m e = elim (cases_lt p q) as (λ _. p ≡ q) [
    | inl lt ↦ absurd (lawful.apart p q lt m e)
    | inr ge ↦ elim (cases_eq p q) as (λ _. p ≡ q) [ inl same ↦ same | inr d ↦ absurd (lawful.apart q p (omega (arith, ge, d)) l (sym e)) ]
  ]

  not_used : (q : ℕ) → resolved marks q ≡ true → IsUsed q q → ⊥
  not_used q r (inl k) = not_both (kept marks q) k (resolved_not_kept (mark marks q) r)
  not_used q r (inr u) = absurd (omega (arith, u.1))

  -- neither the literal of a place nor its opposite is false before the place's hint
  untouched : (fs : List Lit) (q : ℕ) → q < length t → resolved marks q ≡ true → Knows fs q → (m : Lit) → m.formula ≡ (at t q).lit.formula → stands fs m ≡ false
  untouched fs q l r k m e = elim (cases_Bool (stands fs m)) as (λ _. stands fs m ≡ false) [
    | inl y ↦
        let o = k.only m y in
        let same : o.0 ≡ q = one_place o.0 q o.1 l (sym (ap (λ (x : Lit). x.formula) o.2) ∙ e) in
        absurd (not_used q r (subst (IsUsed q) same o.3))
    | inr n ↦ n
  ]

  -- the opposite of a false literal isn't false
  not_true : (fs : List Lit) (q : ℕ) → q ≤ length t → Knows fs q → (m : Lit) → IsMarked t marks q m → stands fs (opposite m) ≡ false
  not_true fs q w k m h = elim (cases_Bool (stands fs (opposite m))) as (λ _. stands fs (opposite m) ≡ false) [
    | inl y ↦
        let o = k.only (opposite m) y in
        let same : o.0 ≡ h.0 = one_place o.0 h.0 o.1 (omega (arith, h.1, w)) (sym (ap (λ (x : Lit). x.formula) o.2) ∙ sym (ap (λ (x : Lit). x.formula) h.2)) in
        let turned : opposite m ≡ opposite (opposite m) = o.2 ∙ ap (λ (j : ℕ). opposite (at t j).lit) same ∙ ap opposite h.2 in
        not_itself (not m.positive) (ap (λ (x : Lit). x.positive) turned)
    | inr n ↦ n
  ]

  skipped : (fs : List Lit) (q : ℕ) → resolved marks q ≡ false → Knows fs q → Knows fs (suc q)
  skipped fs q n k = record {
    has = λ p l u. k.has p l (earlier p u);
    only = λ m s. let o = k.only m s in (o.0, o.1, o.2, elim o.3 as (λ _. IsUsed (suc q) o.0) [ inl y ↦ inl y | inr r ↦ inr (r.0, omega (arith, r.1)) ]);
  }
    where
      earlier : (p : ℕ) → IsUsed (suc q) p → IsUsed q p
      earlier p (inl y) = inl y
      earlier p (inr r) = elim (cases_eq p q) as (λ _. IsUsed q p) [
        | inl e ↦ absurd (not_both (resolved marks q) (subst (λ (w : ℕ). resolved marks w ≡ true) e r.0) n)
        | inr d ↦ inr (r.0, omega (arith, r.1, d))
      ]

  taken : (fs : List Lit) (q : ℕ) → q < length t → resolved marks q ≡ true → Knows fs q → Knows (fs ++ opposite (at t q).lit ∷ []) (suc q)
  taken fs q l r k = record {
    has = λ p w u. elim (cases_eq p q) as (λ _. stands (fs ++ opposite (at t q).lit ∷ []) (opposite (at t p).lit) ≡ true) [
      | inl e ↦ subst (λ (j : ℕ). stands (fs ++ opposite (at t q).lit ∷ []) (opposite (at t j).lit) ≡ true) (sym e) (stands_last fs (opposite (at t q).lit))
      | inr d ↦ stands_more fs (opposite (at t q).lit ∷ []) (opposite (at t p).lit) (k.has p w (elim u as (λ _. IsUsed q p) [ inl y ↦ inl y | inr z ↦ inr (z.0, omega (arith, z.1, d)) ]))
    ];
    only = λ m s. elim (stands_or_last fs (opposite (at t q).lit) m s) as (λ _. (p : ℕ) × (p < length t) × (m ≡ opposite (at t p).lit) × IsUsed (suc q) p) [
      | inl y ↦ let o = k.only m y in (o.0, o.1, o.2, elim o.3 as (λ _. IsUsed (suc q) o.0) [ inl z ↦ inl z | inr z ↦ inr (z.0, omega (arith, z.1)) ])
      | inr e ↦ (q, l, sym e, inr (r, omega arith))
    ];
  }

  by_hint : (fs : List Lit) (q : ℕ) → q < length t → resolved marks q ≡ true → Knows fs q → (hs : List ℕ) → is_refuted (hinted clauses hs) (fs ++ opposite (at t q).lit ∷ []) ≡ true
      → is_refuted (hinted clauses (reasons (at t q).by ++ hs)) fs ≡ true
  by_hint fs q l r k hs e =
      let c = closed q l r in
      let body = clause clauses c.number in
      let own : stands fs (at t q).lit ≡ false = untouched fs q l r k (at t q).lit refl in
      let others : (m : Lit) → Contains body m → m ≢ (at t q).lit → stands fs m ≡ true = λ m h d. stands_marked fs q (omega (arith, l)) k m (c.others m h d) in
      let none : has_true fs body ≡ false =
      none_true fs body (λ m h. elim (Lit_discrete m (at t q).lit) as (λ _. stands fs (opposite m) ≡ false) [
        | yes same ↦ untouched fs q l r k (opposite m) (ap (λ (x : Lit). x.formula) same)
        | no d ↦ not_true fs q (omega (arith, l)) k m (c.others m h d)
      ]) in
      ap (λ o. is_refuted (hinted clauses (reasons o ++ hs)) fs) c.is
      ∙ ap (λ o. is_refuted o fs) (first_hint clauses c.number hs c.within)
      ∙ in_front (hinted clauses hs) fs body (opposite (at t q).lit) none (one_open fs body (at t q).lit own c.has others) e

  pub propagates : (left q : ℕ) → q + left ≡ length t → (fs : List Lit) → Knows fs q → is_refuted (hinted clauses (hints_from t marks last q left)) fs ≡ true
  unfolding hints_from
  propagates zero q e fs k =
      ap (λ o. is_refuted o fs) (first_hint clauses last [] within)
      ∙ all_stand fs (clause clauses last) (λ m h. stands_marked fs q (omega (arith, e)) k m (subst (λ (w : ℕ). IsMarked t marks w m) (omega (arith, e)) (falsified m h)))
  propagates (suc left) q e fs k =
      elim (cases_Bool (resolved marks q)) as (λ _. is_refuted (hinted clauses ((if resolved marks q then reasons (at t q).by else []) ++ hints_from t marks last (suc q) left)) fs ≡ true) [
        | inl y ↦ rw y (by_hint fs q (omega (arith, e)) y k (hints_from t marks last (suc q) left) (propagates left (suc q) (omega (arith, e)) (fs ++ opposite (at t q).lit ∷ []) (taken fs q (omega (arith, e)) y k)))
        | inr n ↦ rw n (propagates left (suc q) (omega (arith, e)) fs (skipped fs q n k))
      ]

  -- ---- at the start the literals of the clause are false
  kept_stands : (n p : ℕ) → p < n → kept marks p ≡ true → stands (map opposite (lits_below t marks n)) (opposite (at t p).lit) ≡ true
  unfolding lits_below
  kept_stands zero p l k = absurd (omega (arith, l))
  kept_stands (suc n) p l k = elim (cases_Bool (kept marks n)) as (λ _. stands (map opposite (lits_below t marks (suc n))) (opposite (at t p).lit) ≡ true) [
    | inl y ↦ subst (λ (w : List Lit). stands (map opposite w) (opposite (at t p).lit) ≡ true) (sym (lits_yes t marks n y))
        (elim (cases_eq p n) as (λ _. stands (opposite (at t n).lit ∷ map opposite (lits_below t marks n)) (opposite (at t p).lit) ≡ true) [
          | inl e ↦ or_left (decided (Lit_discrete (opposite (at t n).lit) (opposite (at t p).lit))) _ (decided_of (Lit_discrete (opposite (at t n).lit) (opposite (at t p).lit)) (ap (λ (j : ℕ). opposite (at t j).lit) (sym e)))
          | inr d ↦ or_right (decided (Lit_discrete (opposite (at t n).lit) (opposite (at t p).lit))) _ (kept_stands n p (omega (arith, l, d)) k)
        ])
    | inr o ↦ subst (λ (w : List Lit). stands (map opposite w) (opposite (at t p).lit) ≡ true) (sym (lits_no t marks n o))
        (elim (cases_eq p n) as (λ _. stands (map opposite (lits_below t marks n)) (opposite (at t p).lit) ≡ true) [
          | inl e ↦ absurd (not_both (kept marks n) (subst (λ (w : ℕ). kept marks w ≡ true) e k) o)
          | inr d ↦ kept_stands n p (omega (arith, l, d)) k
        ])
  ]

  only_kept : (n : ℕ) (m : Lit) → stands (map opposite (lits_below t marks n)) m ≡ true → (p : ℕ) × (p < n) × (m ≡ opposite (at t p).lit) × (kept marks p ≡ true)
  unfolding lits_below
  only_kept zero m s = absurd (true≢false (sym s))
  only_kept (suc n) m s = elim (cases_Bool (kept marks n)) as (λ _. (p : ℕ) × (p < suc n) × (m ≡ opposite (at t p).lit) × (kept marks p ≡ true)) [
    | inl y ↦
        by_either (decided (Lit_discrete (opposite (at t n).lit) m)) (stands (map opposite (lits_below t marks n)) m) (subst (λ (w : List Lit). stands (map opposite w) m ≡ true) (lits_yes t marks n y) s)
        (λ e. (n, omega arith, sym (decided_yes (Lit_discrete (opposite (at t n).lit) m) e), y))
        (λ h. let r = only_kept n m h in (r.0, omega (arith, r.1), r.2, r.3))
    | inr o ↦ let r = only_kept n m (subst (λ (w : List Lit). stands (map opposite w) m ≡ true) (lits_no t marks n o) s) in (r.0, omega (arith, r.1), r.2, r.3)
  ]

  pub derived : Propagates clauses (map opposite (lits_below t marks (length t))) (hints_from t marks last 0 (length t))
  derived =
      propagates (length t) 0 (omega arith) (map opposite (lits_below t marks (length t)))
      (record {
        has = λ p l u. elim u as (λ _. stands (map opposite (lits_below t marks (length t))) (opposite (at t p).lit) ≡ true) [
          | inl k ↦ kept_stands (length t) p l k
          | inr r ↦ absurd (omega (arith, r.1))
        ];
        only = λ m s. let r = only_kept (length t) m s in (r.0, r.1, r.2, inl r.3);
      })
