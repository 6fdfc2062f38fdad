-- What a step adds to the clauses and to the lines.
use Rattle.std.proofs.Common.{◌≡◌, ℕ, ◌<◌, List, [], ◌∷◌, ◌++◌, length, map, refl, sym, ◌∙◌, ap, subst, ◌⊎◌, inl, inr, Some, None, append_assoc, append-nil}
use Rattle.std.specs.List.{AllByRecursion, Contains}
use Rattle.ae_base.proofs.AllOf.{all_append, all_before_map, all_weaker}
use Rattle.ae_rules.specs.Built.{IsBuiltEquation}
use Rattle.ae_rules.specs.Clauses.{Clause, opposite, row}
use Rattle.ae_rules.specs.Defining.{called_rows}
use Rattle.ae_rules.specs.Lines.{states}
use Rattle.ae_core.specs.declared.formulas.Formula.{Formula}
use Rattle.ae_core.specs.declared.formulas.Lit.{Lit}
use Rattle.ae_core.specs.declared.proofs.Block.{Block}
use Rattle.ae_core.specs.declared.proofs.ClauseLine.{ClauseLine}
use Rattle.ae_core.specs.declared.proofs.ClauseLine.TheVariants as clause_line
use Rattle.ae_core.specs.declared.proofs.EqLine.{EqLine}
use Rattle.ae_core.specs.declared.proofs.Relation.TheVariants.{Equal}
use Rattle.ae_explain.specs.declared.trail.Assigned.{Assigned}
use Rattle.ae_explain.specs.Trail.{at, clause, AreFalse, IsFalse, IsLawful}
use Rattle.ae_journal.proofs.Splits.{contains_here, contains_later}
use Rattle.ae_propagation.specs.Settled.{Grown, Holds, last_level}
use Rattle.ae_propagation.proofs.Settling.{last_stays}
use Rattle.ae_store.specs.Stores.{Stored}
use Rattle.ae_theory.specs.Names.{terms_in}
use Rattle.ae_sat.specs.Inner.Steps.{Enlarges}
use Rattle.ae_sat.specs.Lines.{AddsEquationsOver, AddsLinesOver, IsBlockOver, IsBuiltLine, IsLineOver, StatesEquations}
use Rattle.ae_sat.specs.Search.{AllAmong, Brings, HasParts, IsCalled}
use Rattle.ae_sat.specs.Standing.{IsOneOf}
use Rattle.ae_sat.proofs.Closure.{false_among, row_among}
use Rattle.ae_sat.proofs.Deriving.{in_clause}
use Rattle.ae_sat.proofs.Keeping.{holds_more}
use Rattle.ae_sat.proofs.Learnt.{one_more, still_one}
use Rattle.ae_sat.proofs.Resting.{lengthens_more, lengthens_none}

-- ---- clauses and lines
module _ (s : Stored) where
  pub enlarges_same : (u : List Clause) (ks : List ClauseLine) → Enlarges s u ks u ks
  enlarges_same u ks = record { kept = λ c h. h; formulas = λ fs h a. a; written = λ fs h a. ([], sym (append-nil ks), tt) }

  pub enlarges_more : (u u2 u3 : List Clause) (ks ks2 ks3 : List ClauseLine) → Enlarges s u ks u2 ks2 → Enlarges s u2 ks2 u3 ks3 → Enlarges s u ks u3 ks3
  enlarges_more u u2 u3 ks ks2 ks3 x y = record {
    kept = λ c h. y.kept c (x.kept c h);
    formulas = λ fs h a. y.formulas fs h (x.formulas fs h a);
    written = λ fs h a.
        let p = x.written fs h a in
        let q = y.written fs h (x.formulas fs h a) in
        (p.0 ++ q.0, q.1 ∙ (ap (λ (w : List ClauseLine). w ++ q.0) p.1 ∙ append_assoc ks p.0 q.0), all_append (λ (l : ClauseLine). IsLineOver s fs l × StatesEquations l) p.0 q.0 p.2 q.2);
  }

  pub enlarges_to : (u u2 u3 : List Clause) (ks ks2 ks3 : List ClauseLine) → Enlarges s u ks u2 ks2 → u3 ≡ u2 → ks3 ≡ ks2 → Enlarges s u ks u3 ks3
  enlarges_to u u2 u3 ks ks2 ks3 x eu ek = subst (λ (w : List Clause). Enlarges s u ks w ks3) (sym eu) (subst (Enlarges s u ks u2) (sym ek) x)

  -- a line more
  pub enlarges_line : (u : List Clause) (ks : List ClauseLine) (k : ClauseLine) → ((fs : List Formula) → AllAmong fs u → IsLineOver s fs k) → StatesEquations k → Enlarges s u ks u (ks ++ k ∷ [])
  enlarges_line u ks k h e = record { kept = λ c o. o; formulas = λ fs p a. a; written = λ fs p a. (k ∷ [], refl, ((h fs a, e), tt)) }

  -- such lines are lines over the formulas
  pub over_lines : (fs : List Formula) (ks ks2 : List ClauseLine) → AddsEquationsOver s fs ks ks2 → AddsLinesOver s fs ks ks2
  over_lines fs ks ks2 a = (a.0, a.1, all_weaker (λ (l : ClauseLine). IsLineOver s fs l × StatesEquations l) (IsLineOver s fs) (λ l h. h.0) a.0 a.2)

  -- a clause more
  pub enlarges_clause : (u : List Clause) (ks : List ClauseLine) (c : Clause) → ((fs : List Formula) → HasParts fs → AllAmong fs u → AllAmong fs (u ++ c ∷ [])) → Enlarges s u ks (u ++ c ∷ []) ks
  enlarges_clause u ks c h = record { kept = λ d o. still_one u c d o; formulas = h; written = λ fs p a. ([], sym (append-nil ks), tt) }

module _ (t : List Assigned) (u : List Clause) (lawful : IsLawful t u) (stands : (j : ℕ) → j < length t → (at t j).by ≡ None → (c : Clause) × IsOneOf u c × Contains c (at t j).lit) where
  -- the formulas of the trail's literals are those of the clauses
  trail_among : (fs : List Formula) → AllAmong fs u → (j : ℕ) → j < length t → Contains fs (at t j).lit.formula
  trail_among fs among j l = let w = in_clause t u lawful stands j l in among (clause u w.0) (at t j).lit (w.0, w.1, refl) w.2

  false_one : (fs : List Formula) → AllAmong fs u → (m : Lit) → IsFalse t m → Contains fs m.formula
  false_one fs among m f = subst (λ (l : Lit). Contains fs l.formula) f.2 (trail_among fs among f.0 f.1)

  false_each : (fs : List Formula) → AllAmong fs u → (c : Clause) → AreFalse t c → AllByRecursion (λ (l : Lit). Contains fs l.formula) c
  false_each fs among [] h = tt
  false_each fs among (m ∷ c) h = (false_one fs among m (h m (contains_here m c)), false_each fs among c (λ n k. h n (contains_later m c n k)))

  module _ (s : Stored) where
    -- the row of a true literal, behind its line
    pub row_enlarges : (j r : ℕ) (c : Clause) → j < length t → row r (at t j).lit.formula ≡ Some c → (ks : List ClauseLine)
        → Enlarges s u ks (u ++ c ∷ []) (ks ++ clause_line.Def r (at t j).lit.formula ∷ [])
    row_enlarges j r c l e ks =
        let ks2 = ks ++ clause_line.Def r (at t j).lit.formula ∷ [] in
        enlarges_more s u u (u ++ c ∷ []) ks ks2 ks2 (enlarges_line s u ks (clause_line.Def r (at t j).lit.formula) (λ fs a. trail_among fs a j l) tt)
        (enlarges_clause s u ks2 c (λ fs p a. row_among t u lawful stands j r c l e fs p a))

    -- the line that derives what is false by the trail
    pub rup_enlarges : (c : Clause) (hints : List ℕ) → AreFalse t c → (ks : List ClauseLine) → Enlarges s u ks u (ks ++ clause_line.Rup c hints ∷ [])
    rup_enlarges c hints f ks = enlarges_line s u ks (clause_line.Rup c hints) (λ fs a. false_each fs a c f) tt

    -- a block whose hypotheses stand in the trail
    pub block_enlarges : (b : Block) → AreFalse t (map opposite b.deriv.hyps) → AllByRecursion (IsBuiltEquation s.signature (terms_in s)) b.deriv.lines → (ks : List ClauseLine) → Enlarges s u ks u (ks ++ clause_line.Block b ∷ [])
    block_enlarges b f built ks = enlarges_line s u ks (clause_line.Block b) (λ fs a.
        let own : IsBlockOver s fs b = record {
          hyps = all_before_map (λ (l : Lit). Contains fs l.formula) opposite b.deriv.hyps (false_each fs a (map opposite b.deriv.hyps) f);
          lines = all_weaker (IsBuiltEquation s.signature (terms_in s)) (IsBuiltLine s.signature (terms_in s)) (λ l e. record { left = e.left; right = e.right; factors = e.factors }) b.deriv.lines built;
        } in own)
        (all_weaker (IsBuiltEquation s.signature (terms_in s)) (λ (l : EqLine). (states l).relation ≡ Equal) (λ l e. e.equation) b.deriv.lines built)

    -- a clause that is false by the trail
    pub false_enlarges : (c : Clause) → AreFalse t c → (ks : List ClauseLine) → Enlarges s u ks (u ++ c ∷ []) ks
    false_enlarges c f ks = enlarges_clause s u ks c (λ fs p a. false_among t u lawful stands c f fs a)

-- ---- literals and clauses
pub brings_same : (t : List Assigned) (u : List Clause) → Brings t u t u
brings_same t u = record { holds = λ l h. h; level = refl; front = lengthens_none t t refl; from = λ c o. inl o }

pub brings_more : (t t2 t3 : List Assigned) (u u2 u3 : List Clause) → Brings t u t2 u2 → Brings t2 u2 t3 u3 → Brings t u t3 u3
brings_more t t2 t3 u u2 u3 x y = record {
  holds = λ l h. y.holds l (x.holds l h);
  level = y.level ∙ x.level;
  front = lengthens_more t t2 t3 x.front y.front;
  from = λ c o. elim (y.from c o) as (λ _. IsOneOf u c ⊎ IsCalled t3 c) [
    | inl p ↦ elim (x.from c p) as (λ _. IsOneOf u c ⊎ IsCalled t3 c) [
      | inl q ↦ inl q
      | inr q ↦ inr (q.0, q.1, y.holds q.0 q.2, q.3, q.4)
    ]
    | inr p ↦ inr p
  ];
}

pub brings_to : (t t2 t3 : List Assigned) (u u2 u3 : List Clause) → Brings t u t2 u2 → t3 ≡ t2 → u3 ≡ u2 → Brings t u t3 u3
brings_to t t2 t3 u u2 u3 x et eu = subst (λ (w : List Assigned). Brings t u w u3) (sym et) (subst (Brings t u t2) (sym eu) x)

pub brings_grown : (t t2 : List Assigned) (u : List Clause) → Grown t t2 → Brings t u t2 u
brings_grown t t2 u grown = record {
  holds = λ l h. subst (λ (w : List Assigned). Holds w l) (sym grown.is) (holds_more t grown.more l h);
  level = ap last_level grown.is ∙ last_stays t grown.more grown.levels;
  front = (grown.more, grown.is);
  from = λ c o. inl o;
}

pub brings_row : (t : List Assigned) (u : List Clause) (j r : ℕ) (c : Clause) → j < length t → Contains (called_rows (at t j).lit.positive (at t j).lit.formula) r → row r (at t j).lit.formula ≡ Some c → Brings t u t (u ++ c ∷ [])
brings_row t u j r c l h e = record {
  holds = λ l h. h;
  level = refl;
  front = lengthens_none t t refl;
  from = λ d o. elim (one_more u c d o) as (λ _. IsOneOf u d ⊎ IsCalled t d) [
    | inl p ↦ inl p
    | inr q ↦ inr ((at t j).lit, r, (j, l, refl), h, e ∙ ap Some (sym q))
  ];
}
