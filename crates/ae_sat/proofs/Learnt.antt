-- What learning and going back leave of what makes the next lines legal.
use Rattle.std.proofs.Common.{◌≡◌, ℕ, zero, suc, ◌<◌, ◌≤◌, ◌==◌, Bool, true, cond, List, [], ◌∷◌, ◌++◌, length, refl, sym, ◌∙◌, ap, subst, arith, ◌⊎◌, inl, inr, Some, None, length-append, append_assoc}
use Rattle.std.specs.Prelude.{count_by, filter, nat_lt}
use Rattle.std.specs.List.{Contains, AllByRecursion}
use Rattle.std.proofs.lemmas.Bool.{cases_lt, cases_Bool, ltb-true}
use Rattle.std.proofs.lemmas.List.Elements.{Contains-append_left, Contains-append_right, Contains-append_cases}
use Rattle.std.proofs.Math.ListN.{get_or-append}
use Rattle.std.proofs.Math.Seq.{get_or-append_seam}
use Rattle.ae_rules.specs.Clauses.{Clause, row}
use Rattle.ae_core.specs.declared.formulas.Formula.{Formula}
use Rattle.ae_core.specs.declared.formulas.Lit.{Lit}
use Rattle.ae_core.specs.declared.proofs.ClauseLine.{ClauseLine}
use Rattle.ae_core.specs.declared.proofs.ClauseLine.TheVariants as clause_line
use Rattle.ae_rules.specs.Defining.{called_rows}
use Rattle.ae_explain.specs.declared.trail.Assigned.{Assigned}
use Rattle.ae_explain.specs.Trail.{at, clause, AreFalse, IsLawful}
use Rattle.ae_explain.specs.Levels.{level_of, greatest_of, literals_under}
use Rattle.ae_explain.proofs.Places.{greatest_above, greatest_reached}
use Rattle.ae_journal.specs.declared.lines.Line.{Line}
use Rattle.ae_journal.specs.declared.lines.Line.TheVariants as line
use Rattle.ae_journal.specs.Standing.IsPossible.{given}
use Rattle.ae_journal.specs.Standing.IsBrought.{by_hypothesis, by_goal, by_type_instance, by_term_instance}
use Rattle.ae_journal.proofs.Growing.{possible_more, formula_more}
use Rattle.ae_journal.proofs.Living.{has_last}
use Rattle.ae_sat.specs.Layers.{IsCut, Fires}
use Rattle.ae_propagation.specs.Settled.{last_level}
use Rattle.ae_sat.specs.Standing.{IsOneOf}
use Rattle.ae_sat.specs.Search.{IsLawfulState}
use Rattle.ae_sat.proofs.Layering.{layered_cut, learnt_rests}
use Rattle.ae_sat.proofs.Members.{some_passes}
use Rattle.ae_sat.proofs.Legality.{unsnoc, single, given_back, sources_more}
use Rattle.ae_base.proofs.AllOf.{all_push}
use Rattle.ae_explain.proofs.Marking.{numbers_equal}
use Rattle.ae_sat.proofs.Deriving.{in_clause}
use Rattle.ae_journal.specs.Journals.{HasLine, IsBack, MayLearnAgain}
use Rattle.ae_journal.specs.SolverLines.{IsSourceLine}
use Rattle.ae_journal.specs.Standing.{IsFormula, IsGiven, IsPossible, Setting}

-- ---- levels of what is learnt
first_or : (P : Lit → Bool) (x : Lit) (c : Clause) (m : Lit) → (Contains (filter P c) m → Contains c m × (P m ≡ true)) → Contains (x ∷ filter P c) m → P x ≡ true → Contains (x ∷ c) m × (P m ≡ true)
first_or P x c m ih (zero, l, e) y = ((zero, omega arith, e), subst (λ (w : Lit). P w ≡ true) e y)
first_or P x c m ih (suc k, l, e) y = let r = ih (k, omega (arith, l), e) in ((suc r.0.0, omega (arith, r.0.1), r.0.2), r.1)

filtered : (P : Lit → Bool) (c : Clause) (m : Lit) → Contains (filter P c) m → Contains c m × (P m ≡ true)
filtered P [] m h = absurd (omega (arith, h.1))
filtered P (x ∷ c) m h = elim (cases_Bool (P x)) as (λ _. Contains (x ∷ c) m × (P m ≡ true)) [
  | inl y ↦ first_or P x c m (filtered P c m) (subst (λ (b : Bool). Contains (cond b (x ∷ filter P c) (filter P c)) m) y h) y
  | inr n ↦ let r = filtered P c m (subst (λ (b : Bool). Contains (cond b (x ∷ filter P c) (filter P c)) m) n h) in ((suc r.0.0, omega (arith, r.0.1), r.0.2), r.1)
]

module _ (t : List Assigned) (c : Clause) (top : ℕ) (one : count_by (λ m. level_of t m == top) c ≡ 1) (high : (m : Lit) → Contains c m → level_of t m ≤ top) where
  pub greatest_is : greatest_of t c ≡ top
  greatest_is =
      let o = some_passes (λ m. level_of t m == top) c one in
      let e : level_of t o.0 ≡ top = numbers_equal (level_of t o.0) top o.2 in
      let up : level_of t o.0 ≤ greatest_of t c = greatest_above t c o.0 o.1 in
      elim (greatest_reached t c) as (λ _. greatest_of t c ≡ top) [
        | inl z ↦ omega (arith, z, e, up)
        | inr r ↦ omega (arith, e, up, high r.0 r.1, r.2)
      ]

-- a literal of the second level
pub second : (t : List Assigned) (c : Clause) (top : ℕ) → (greatest_of t (literals_under t top c) ≡ 0) ⊎ ((s : Lit) × Contains c s × (level_of t s ≡ greatest_of t (literals_under t top c)) × (level_of t s < top))
second t c top = elim (greatest_reached t (literals_under t top c)) as (λ _. (greatest_of t (literals_under t top c) ≡ 0) ⊎ ((s : Lit) × Contains c s × (level_of t s ≡ greatest_of t (literals_under t top c)) × (level_of t s < top))) [
  | inl z ↦ inl z
  | inr r ↦ let f = filtered (λ m. nat_lt (level_of t m) top) c r.0 r.1 in inr (r.0, f.0, r.2, ltb-true (level_of t r.0) top f.1)
]

pub second_below : (t : List Assigned) (c : Clause) (top : ℕ) → 0 < top → greatest_of t (literals_under t top c) < top
second_below t c top h = elim (second t c top) as (λ _. greatest_of t (literals_under t top c) < top) [
  | inl z ↦ omega (arith, z, h)
  | inr r ↦ omega (arith, r.2, r.3)
]

-- ---- a clause more
pub one_more : (u : List Clause) (c d : Clause) → IsOneOf (u ++ c ∷ []) d → IsOneOf u d ⊎ (d ≡ c)
one_more u c d r = elim (cases_lt r.0 (length u)) as (λ _. IsOneOf u d ⊎ (d ≡ c)) [
  | inl l ↦ inl (r.0, l, sym (get_or-append u (c ∷ []) [] r.0 l) ∙ r.2)
  | inr g ↦
      let e : length u ≡ r.0 = omega (arith, g, r.1, length-append u (c ∷ [])) in
      inr (sym r.2 ∙ subst (λ (k : ℕ). clause (u ++ c ∷ []) k ≡ c) e (get_or-append_seam u c [] []))
]

pub still_one : (u : List Clause) (c d : Clause) → IsOneOf u d → IsOneOf (u ++ c ∷ []) d
still_one u c d r = (r.0, omega (arith, r.1, length-append u (c ∷ [])), get_or-append u (c ∷ []) [] r.0 r.1 ∙ r.2)

pub new_one : (u : List Clause) (c : Clause) → IsOneOf (u ++ c ∷ []) c
new_one u c = (length u, omega (arith, length-append u (c ∷ [])), get_or-append_seam u c [] [])

-- ---- `Learn` and then `Back`
pub seldom_back : (js : List Line) (n : ℕ) → MayLearnAgain (js ++ line.Back n ∷ [])
seldom_back js n a b e c d h = elim (unsnoc js (line.Back n) (a ++ line.Learn c ∷ b) (line.Learn d) e h) as (λ _. HasLine IsBack (b ++ e)) [
  | inl r ↦ absurd (subst (λ (x : Line). IsBack x → ⊥) (sym r.0) (λ z. z) tt)
  | inr r ↦ subst (HasLine IsBack) (append_assoc b r.0 (line.Back n ∷ []) ∙ ap (λ (w : List Line). b ++ w) (sym r.1)) (has_last IsBack (b ++ r.0) (line.Back n) tt)
]

module _ (setting : Setting) where
  given_learnt : (js : List Line) (c d : Clause) → IsGiven setting (js ++ line.Learn c ∷ []) d → IsGiven setting js d ⊎ (d ≡ c)
  given_learnt js c _ (inl (by_hypothesis k f e)) = inl (inl (by_hypothesis k f e))
  given_learnt js c _ (inl (by_goal f e)) = inl (inl (by_goal f e))
  given_learnt js c _ (inl (by_type_instance k ss d h e)) = elim (Contains-append_cases js (line.Learn c ∷ []) (line.TypeInstance k ss) h) as (λ _. IsGiven setting js d ⊎ (d ≡ c)) [
    | inl y ↦ inl (inl (by_type_instance k ss d y e))
    | inr y ↦ absurd (let q : line.Learn c ≡ line.TypeInstance k ss = single (line.Learn c) (line.TypeInstance k ss) y in cc)
  ]
  given_learnt js c _ (inl (by_term_instance f ts d h e)) = elim (Contains-append_cases js (line.Learn c ∷ []) (line.TermInstance f ts) h) as (λ _. IsGiven setting js d ⊎ (d ≡ c)) [
    | inl y ↦ inl (inl (by_term_instance f ts d y e))
    | inr y ↦ absurd (let q : line.Learn c ≡ line.TermInstance f ts = single (line.Learn c) (line.TermInstance f ts) y in cc)
  ]
  given_learnt js c d (inr h) = elim (Contains-append_cases js (line.Learn c ∷ []) (line.Learn d) h) as (λ _. IsGiven setting js d ⊎ (d ≡ c)) [
    | inl y ↦ inl (inr y)
    | inr y ↦ inr (let q : line.Learn c ≡ line.Learn d = single (line.Learn c) (line.Learn d) y in let r : d ≡ c = cc in r)
  ]

  -- the state after learning c and going back to its second level
  pub learnt_state : (t cut : List Assigned) (u : List Clause) (n m : ℕ) (ks : List ClauseLine) (js : List Line) (c : Clause) (hints : List ℕ) (top level : ℕ)
      → IsLawful t u → ((j : ℕ) → j < length t → (at t j).by ≡ None → (d : Clause) × IsOneOf u d × Contains d (at t j).lit)
      → IsLawfulState setting t u n ks js → AreFalse t c → 0 < top → count_by (λ x. level_of t x == top) c ≡ 1 → level ≡ greatest_of t (literals_under t top c)
      → IsCut t level cut → last_level cut ≤ level → last_level cut ≤ last_level t → m ≤ n
      → IsLawfulState setting cut (u ++ c ∷ []) m (ks ++ clause_line.Rup c hints ∷ []) ((js ++ line.Learn c ∷ []) ++ line.Back level ∷ [])
  learnt_state t cut u n m ks js c hints top level lawful stands s false_ones pos one is cutting low below small =
      let mid = js ++ line.Learn c ∷ [] in
      let end = mid ++ line.Back level ∷ [] in
      let e : end ≡ js ++ (line.Learn c ∷ line.Back level ∷ []) = append_assoc js (line.Learn c ∷ []) (line.Back level ∷ []) in
      let possible_end : (d : Clause) → IsPossible setting js d → IsPossible setting end d = λ d h.
      subst (λ (w : List Line). IsPossible setting w d) (sym e) (possible_more setting js (line.Learn c ∷ line.Back level ∷ []) d h) in
      let formula_end : (f : Formula) → IsFormula setting js f → IsFormula setting end f = λ f h.
      subst (λ (w : List Line). IsFormula setting w f) (sym e) (formula_more setting js (line.Learn c ∷ line.Back level ∷ []) f h) in
      let learnt_there : Contains end (line.Learn c) = Contains-append_left mid (line.Back level ∷ []) (line.Learn c) (Contains-append_right js (line.Learn c ∷ []) (line.Learn c) (zero, omega arith, refl)) in
      let of_end : (d : Clause) → IsGiven setting end d → IsGiven setting js d ⊎ (d ≡ c) = λ d h. given_learnt js c d (given_back setting mid (line.Back level) d (λ b. b) h) in
      let o = some_passes (λ x. level_of t x == top) c one in
      let lt : level < top = subst (λ (k : ℕ). k < top) (sym is) (second_below t c top pos) in
      record {
        possible = λ d h. elim (one_more u c d h) as (λ _. IsPossible setting end d) [
          | inl r ↦ possible_end d (s.possible d r)
          | inr q ↦ given end d (inr (subst (λ (x : Clause). Contains end (line.Learn x)) (sym q) learnt_there))
        ];
        formulas = λ d l h k. elim (one_more u c d h) as (λ _. IsFormula setting end l.formula) [
          | inl r ↦ formula_end l.formula (s.formulas d l r k)
          | inr q ↦
              let f = false_ones l (subst (λ (x : Clause). Contains x l) q k) in
              let r = in_clause t u lawful stands f.0 f.1 in
              formula_end l.formula (subst (λ (x : Lit). IsFormula setting js x.formula) f.2 (s.formulas (clause u r.0) (at t f.0).lit (r.0, r.1, refl) r.2))
        ];
        given = λ d h. elim (of_end d h) as (λ _. IsOneOf (u ++ c ∷ []) d) [
          | inl r ↦ still_one u c d (s.given d r)
          | inr q ↦ subst (IsOneOf (u ++ c ∷ [])) (sym q) (new_one u c)
        ];
        rows = λ j r d l k h q.
            let w : at t j ≡ at cut j = subst (λ (x : List Assigned). at x j ≡ at cut j) (sym cutting.is) (get_or-append cut cutting.undone _ j k) in
            let lk : j < length t = subst (λ (x : List Assigned). j < length x) (sym cutting.is) (omega (arith, k, length-append cut cutting.undone)) in
            still_one u c d (s.rows j r d (omega (arith, l, small)) lk (subst (λ (x : Assigned). Contains (called_rows x.lit.positive x.lit.formula) r) (sym w) h) (subst (λ (x : Assigned). row r x.lit.formula ≡ Some d) (sym w) q));
        layered = λ d h k l f. elim (of_end d h) as (λ _. ⊥) [
          | inl r ↦ layered_cut t cut level (IsGiven setting js) cutting low below s.layered d r k l f
          | inr q ↦ elim (second t c top) as (λ _. ⊥) [
            | inl z ↦ omega (arith, l, low, is, z)
            | inr v ↦ learnt_rests t cut lawful.apart level top c o.0 v.0 cutting lt low o.1 (numbers_equal (level_of t o.0) top o.2) v.1 (v.2 ∙ sym is) k l (subst (λ (x : Clause). Fires cut x k) q f)
          ]
        ];
        sources = all_push (IsSourceLine setting end) ks (clause_line.Rup c hints)
            (subst (λ (w : List Line). AllByRecursion (IsSourceLine setting w) ks) (sym e) (sources_more setting js (line.Learn c ∷ line.Back level ∷ []) ks s.sources)) tt;
        again = seldom_back mid level;
      }
