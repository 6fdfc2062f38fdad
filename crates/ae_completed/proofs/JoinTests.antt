-- The test of the names of AC symbols says `true` exactly where the ninth clause holds.
use Rattle.std.specs.Prelude.{ℕ, zero, suc, ◌+◌, ◌-◌, ◌<◌, ◌≤◌, Bool, true, false, cond, not, ◌≡◌, ◌↔◌, List, [], ◌∷◌, length, slice_get, Option, Some, None}
use Rattle.std.proofs.Common.{inl, inr}
use Rattle.std.proofs.lemmas.Bool.{and_parts, and_from, cases_eq, not-true}
use Rattle.std.proofs.lemmas.List.Sorted.{IsNonDecreasingBy-short}
use Rattle.std.proofs.lemmas.Option.{same_Some, slice_get_within}
use Rattle.ae_base.proofs.Tests.{false_true}
use mathlib.Core.List.{List-discrete}
use mathlib.Core.Path.{refl, sym, ap, subst, ◌∙◌}
use native.Mathlib.Decide.{ℕ_discrete}
use native.Mathlib.Omega.{arith}
use Rattle.ae_base.proofs.AllOf.{test_of_all, all_from_places}
use Rattle.ae_base.proofs.Decided.{decided_of, decided_yes}
use Rattle.ae_base.proofs.ListFacts.{list_all_at}
use Rattle.ae_base.proofs.Options.{bind_some, never_some}
use Rattle.ae_math.specs.Fractions.{ℚ}
use Rattle.ae_core.specs.Sorts.{sort_of}
use Rattle.ae_core.specs.declared.problems.AcSymbol.{AcSymbol}
use Rattle.ae_core.specs.declared.problems.Signature.{Signature}
use Rattle.ae_core.specs.declared.terms.Head.{Head}
use Rattle.ae_core.specs.declared.terms.Head.TheVariants as head
use Rattle.ae_core.specs.declared.terms.Op.TheVariants as op
use Rattle.ae_core.specs.declared.terms.Sort.{Sort}
use Rattle.ae_core.specs.declared.terms.Term.{Term, Term-F, Apply, out-Term}
use Rattle.ae_core.specs.declared.terms.Term.TheOpen as layer
use Rattle.ae_core.specs.declared.terms.Term.TheVariants.{outs-Apply}
use Rattle.ae_rules.specs.Linear.{form, is_number}
use Rattle.ae_multiset.specs.Multisets.{IsPart}
use Rattle.ae_multiset.specs.Rewriting.{Decreases, ReducesTo}
use Rattle.ae_multiset.proofs.NormalForms.{linked_from, nf_only}
use Rattle.ae_num.specs.declared.forms.Value.{Value}
use Rattle.ae_journal.specs.Values.{meaning}
use Rattle.ae_journal.specs.Systems.{IsJoin, IsName, IsRule, Represents, StandsFor}
use Rattle.ae_journal.specs.declared.systems.System.{System}
use Rattle.ae_evaluation.proofs.Names.{two_parts}
use Rattle.ae_decide.specs.Clauses.{HasTerms, HasLeaves, RulesFit, AllOverlapsJoin, AllNamesJoin}
use Rattle.ae_decide.specs.Overlaps.{AllFall, nf}
use Rattle.ae_decide.specs.Rules.{has}
use Rattle.ae_decide.specs.Values.{place_from, value_of}
use Rattle.ae_decide.proofs.NameTests.{is_application}
use Rattle.ae_decide.proofs.NormalForms.{normal_forms}
use Rattle.ae_decide.proofs.RuleTests.{ac_by, by_ac, has_told, by_has}
use Rattle.ae_decide.proofs.ValueTests.{implied, by_implied, of_written, written_of}
use Rattle.ae_completed.specs.Joins.{least_from, representative_at, representative_of, is_join, reduces_to, joins_by, name_joins, all_names_join}

-- ---- numbers
pub is_known : (b : Bool) (x y : ℚ) → Some y ≡ cond b (Some x) None → true ≡ b
is_known true x y e = refl
is_known false x y e = cc

pub is_unknown : (b : Bool) (x : ℚ) → None ≡ cond b (Some x) None → false ≡ b
is_unknown true x e = cc
is_unknown false x e = refl

-- ---- joins
join_by : (sig : Signature) (h : Head) (a b : Term) → is_join sig h a b ≡ true → IsJoin sig h a b
join_by sig (head.Symbol n) a b e = ac_by sig (head.Symbol n) e
join_by sig (head.Int op.Mul) a b e = let p = and_parts (not (is_number (form a))) (not (is_number (form b))) e in (not-true _ p.0, not-true _ p.1)
join_by sig (head.Real op.Mul) a b e = let p = and_parts (not (is_number (form a))) (not (is_number (form b))) e in (not-true _ p.0, not-true _ p.1)
join_by sig (head.Int op.Add) a b e = absurd (cc)
join_by sig (head.Int op.Sub) a b e = absurd (cc)
join_by sig (head.Int op.Neg) a b e = absurd (cc)
join_by sig (head.Int op.Div) a b e = absurd (cc)
join_by sig (head.Int op.Mod) a b e = absurd (cc)
join_by sig (head.Real op.Add) a b e = absurd (cc)
join_by sig (head.Real op.Sub) a b e = absurd (cc)
join_by sig (head.Real op.Neg) a b e = absurd (cc)
join_by sig (head.Real op.Div) a b e = absurd (cc)
join_by sig (head.Real op.Mod) a b e = absurd (cc)
join_by sig (head.Build n) a b e = absurd (cc)
join_by sig (head.Field n i) a b e = absurd (cc)
join_by sig head.True a b e = absurd (cc)
join_by sig head.False a b e = absurd (cc)
join_by sig head.Void a b e = absurd (cc)

by_join : (sig : Signature) (h : Head) (a b : Term) → IsJoin sig h a b → is_join sig h a b ≡ true
by_join sig (head.Symbol n) a b j = by_ac sig (head.Symbol n) j
by_join sig (head.Int op.Mul) a b j = and_from _ _ (ap not j.0) (ap not j.1)
by_join sig (head.Real op.Mul) a b j = and_from _ _ (ap not j.0) (ap not j.1)
by_join sig (head.Int op.Add) a b j = absurd j
by_join sig (head.Int op.Sub) a b j = absurd j
by_join sig (head.Int op.Neg) a b j = absurd j
by_join sig (head.Int op.Div) a b j = absurd j
by_join sig (head.Int op.Mod) a b j = absurd j
by_join sig (head.Real op.Add) a b j = absurd j
by_join sig (head.Real op.Sub) a b j = absurd j
by_join sig (head.Real op.Neg) a b j = absurd j
by_join sig (head.Real op.Div) a b j = absurd j
by_join sig (head.Real op.Mod) a b j = absurd j
by_join sig (head.Build n) a b j = absurd j
by_join sig (head.Field n i) a b j = absurd j
by_join sig head.True a b j = absurd j
by_join sig head.False a b j = absurd j
by_join sig head.Void a b j = absurd j

no_part : (n : ℕ) (l : List ℕ) → 2 ≤ length l → IsPart l (n ∷ []) → ⊥
no_part n [] h p = omega (arith, h)
no_part n (x ∷ []) h p = omega (arith, h)
no_part n (x ∷ z ∷ l) h p = two_parts n x z l p

module _ (sig : Signature) (y : System) where
  -- ---- the step of the loop
  pub least_step : (s : Sort) (v : Option Value) (k count : ℕ) → k < count
      → least_from sig y s v k (count - k) ≡ cond (has sig y s v k) (Some k) (least_from sig y s v (k + 1) (count - (k + 1)))
  least_step s v k count h = let e : count - k ≡ suc (count - (k + 1)) = omega (arith, h) in ap (least_from sig y s v k) e

  -- ---- the least name
  record Least (s : Sort) (v : Option Value) (k m p : ℕ) : Type 0 where
    from : k ≤ p
    before : p < k + m
    is : has sig y s v p ≡ true
    none : (q : ℕ) → k ≤ q → q < p → has sig y s v q ≡ true → ⊥

  least_tells : (s : Sort) (v : Option Value) (k m p : ℕ) → least_from sig y s v k m ≡ Some p → Least s v k m p
  least_tells s v k zero p e = absurd (never_some p e)
  least_tells s v k (suc m) p e = go (has sig y s v k) refl (least_tells s v (k + 1) m p) e
    where
      go : (b : Bool) → has sig y s v k ≡ b → (least_from sig y s v (k + 1) m ≡ Some p → Least s v (k + 1) m p)
          → cond b (Some k) (least_from sig y s v (k + 1) m) ≡ Some p → Least s v k (suc m) p
      go true a ih f =
          let z : k ≡ p = same_Some k p f in
          record { from = omega (arith, z); before = omega (arith, z); is = ap (has sig y s v) (sym z) ∙ a; none = λ q l h b. omega (arith, l, h, z) }
      go false a ih f =
          let r = ih f in
          record {
            from = omega (arith, r.from);
            before = omega (arith, r.before);
            is = r.is;
            none = λ q l h b. elim (cases_eq q k) as (λ _. ⊥) [
              | inl e ↦ false_true (sym a ∙ ap (has sig y s v) (sym e) ∙ b)
              | inr d ↦ r.none q (omega (arith, l, d)) h b
            ];
          }

  least_finds : (s : Sort) (v : Option Value) (k m q : ℕ) → k ≤ q → q < k + m → has sig y s v q ≡ true → (p : ℕ) × (least_from sig y s v k m ≡ Some p)
  least_finds s v k zero q l h a = absurd (omega (arith, l, h))
  least_finds s v k (suc m) q l h a = go (has sig y s v k) refl (λ d. least_finds s v (k + 1) m q (omega (arith, l, d)) (omega (arith, h)) a)
    where
      go : (b : Bool) → has sig y s v k ≡ b → ((q ≡ k → ⊥) → (p : ℕ) × (least_from sig y s v (k + 1) m ≡ Some p))
          → (p : ℕ) × (cond b (Some k) (least_from sig y s v (k + 1) m) ≡ Some p)
      go true b ih = (k, refl)
      go false b ih = ih (λ e. false_true (sym b ∙ ap (has sig y s v) (sym e) ∙ a))

  module _ (terms : HasTerms sig y) (leaves : HasLeaves sig y) where
    -- ---- representatives
    stands_by : (t : Term) (p : ℕ) → representative_of sig y t ≡ Some p → StandsFor sig y t p
    stands_by t p e = go (value_of y t) (sort_of sig t) refl refl e
      where
        go : (v : Option Value) (o : Option Sort) → value_of y t ≡ v → sort_of sig t ≡ o → representative_at sig y v o ≡ Some p → StandsFor sig y t p
        go (Some w) (Some s) a b f =
            let l = least_tells s (Some w) 0 (length y.names) p f in
            let (m, g, i) = bind_some (place_from 0 y.names t) (λ m. slice_get y.values m) w a in
            record {
              sort = s;
              value = meaning w;
              sorted = b;
              valued = of_written y terms.apart t w a;
              represents = record {
                has = has_told sig y leaves s w p l.is;
                least = λ q h. let n : ¬ (q < p) = λ k. l.none q (omega arith) k (by_has sig y leaves s w m q i h) in omega (arith, n);
              };
            }
        go (Some w) None a b f = absurd (never_some p f)
        go None o a b f = absurd (never_some p f)

    by_stands : (t : Term) (p : ℕ) → StandsFor sig y t p → representative_of sig y t ≡ Some p
    by_stands t p st =
        let (w, a, m) = written_of y terms.apart t st.value st.valued in
        let (k, g, i) = bind_some (place_from 0 y.names t) (λ m. slice_get y.values m) w a in
        let r : Represents sig y st.sort (meaning w) p = subst (λ z. Represents sig y st.sort z p) (sym m) st.represents in
        let here = by_has sig y leaves st.sort w k p i r.has in
        let (q, f) = least_finds st.sort (Some w) 0 (length y.names) p (omega arith) (let b = slice_get_within y.names p r.has.term r.has.is in omega (arith, b)) here in
        let l = least_tells st.sort (Some w) 0 (length y.names) q f in
        let low = r.least q (has_told sig y leaves st.sort w q l.is) in
        (λ j. representative_at sig y (a j) (st.sorted j)) ∙ f ∙ ap (λ (x : ℕ). Some x) (same p q low (λ h. l.none p (omega arith) h here))
      where
        same : (p q : ℕ) → p ≤ q → ¬ (p < q) → q ≡ p
        same p q l n = omega (arith, l, n)

    module _ (fit : RulesFit sig y) (o : AllOverlapsJoin sig y) where
      falls : AllFall y.rules
      falls k e i = (fit k e i).falls

      decreases : (h : Head) (ss : List Sort) → Decreases (IsRule y h ss)
      decreases h ss l r (k, i) = falls k (record { symbol = record { head = h; sorts = ss }; left = l; right = r }) i

      joins_of : all_names_join sig y ≡ true → AllNamesJoin sig y
      joins_of e n h ss a b p q r i j sa sb sr =
          let t = Apply h ss (a ∷ b ∷ []) in
          let c : AcSymbol = record { head = h; sorts = ss } in
          let f : name_joins sig y t ≡ true = list_all_at (name_joins sig y) y.names n t e i in
          let g = by_implied (is_join sig h a b) (reduces_to y c (representative_of sig y a) (representative_of sig y b) (representative_of sig y t))
          (sym (ap (joins_by sig y t) (outs-Apply h ss (a ∷ b ∷ []))) ∙ f) (by_join sig h a b j) in
          let k = sym (λ z. reduces_to y c (by_stands a p sa z) (by_stands b q sb z) (by_stands t r sr z)) ∙ g in
          subst (λ (w : List ℕ). ReducesTo (IsRule y h ss) (p ∷ q ∷ []) w) (decided_yes (List-discrete ℕ_discrete (nf y.rules c (p ∷ q ∷ [])) (r ∷ [])) k)
          ((normal_forms y h ss falls).follows (p ∷ q ∷ []))

      of_joins : AllNamesJoin sig y → all_names_join sig y ≡ true
      of_joins g =
          test_of_all (λ t. name_joins sig y t ≡ true) (name_joins sig y) (λ t q. q) y.names
          (all_from_places (λ t. name_joins sig y t ≡ true) y.names (λ n t i. by_layer n t i (out-Term t) refl))
        where
          reduced : (n : ℕ) (t : Term) (h : Head) (ss : List Sort) (a b : Term) → IsName y n (Apply h ss (a ∷ b ∷ [])) → t ≡ Apply h ss (a ∷ b ∷ []) → IsJoin sig h a b
              → (p q r : Option ℕ) → representative_of sig y a ≡ p → representative_of sig y b ≡ q → representative_of sig y t ≡ r
              → reduces_to y (record { head = h; sorts = ss }) p q r ≡ true
          reduced n t h ss a b i z j (Some p) (Some q) (Some r) e f k =
              decided_of (List-discrete ℕ_discrete (nf y.rules (record { head = h; sorts = ss }) (p ∷ q ∷ [])) (r ∷ []))
              (nf_only (IsRule y h ss) (decreases h ss) (o h ss) (nf y.rules (record { head = h; sorts = ss })) (normal_forms y h ss falls) (p ∷ q ∷ []) (r ∷ [])
              (linked_from (IsRule y h ss) (g n h ss a b p q r i j (stands_by a p e) (stands_by b q f) (subst (λ u. StandsFor sig y u r) z (stands_by t r k))))
              (λ l m x part. no_part r l (fit x.0 (record { symbol = record { head = h; sorts = ss }; left = l; right = m }) x.1).two part) (IsNonDecreasingBy-short (λ x. x) (r ∷ []) (omega arith)))
          reduced n t h ss a b i z j (Some p) (Some q) None e f k = refl
          reduced n t h ss a b i z j (Some p) None r e f k = refl
          reduced n t h ss a b i z j None q r e f k = refl

          by_layer : (n : ℕ) (t : Term) → IsName y n t → (l : Term-F Term) → out-Term t ≡ l → joins_by sig y t l ≡ true
          by_layer n t i (layer.Apply h ss (a ∷ b ∷ [])) e =
              let z = is_application t h ss (a ∷ b ∷ []) e in
              implied (is_join sig h a b) _
              (λ j. reduced n t h ss a b (i ∙ ap (λ (w : Term). Some w) z) z (join_by sig h a b j) (representative_of sig y a) (representative_of sig y b)
              (representative_of sig y t) refl refl refl)
          by_layer n t i (layer.Apply h ss []) e = refl
          by_layer n t i (layer.Apply h ss (a ∷ [])) e = refl
          by_layer n t i (layer.Apply h ss (a ∷ b ∷ c ∷ us)) e = refl
          by_layer n t i (layer.Bound k) e = refl
          by_layer n t i (layer.Num a b r) e = refl
          by_layer n t i (layer.Fresh k s) e = refl

      pub joins_tested : (b : Bool) → b ≡ all_names_join sig y → (b ≡ true) ↔ AllNamesJoin sig y
      joins_tested b e = (λ t. joins_of (sym e ∙ t), λ c. e ∙ of_joins c)
