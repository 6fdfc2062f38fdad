-- A right side that is renamed, and one that is reduced, by the steps that say so.
use Rattle.std.specs.Prelude.{ℕ, ◌+◌, ◌<◌, ◌≤◌, List, [], ◌≡◌, ◌≢◌, map, Option, Some}
use Rattle.std.proofs.Common.{refl, sym, ap, ◌∙◌, subst, arith, inl}
use Rattle.std.proofs.lemmas.List.{get_or_past}
use native.Mathlib.Decide.{ℕ_discrete}
use Rattle.ae_core.specs.declared.terms.Term.{Term}
use Rattle.ae_core.specs.declared.problems.Signature.{Signature}
use Rattle.ae_pmap.specs.Forest.{present}
use Rattle.ae_descents.proofs.Descending.{renamed}
use Rattle.ae_journal.specs.declared.lines.Line.{Line}
use Rattle.ae_settled.specs.Held.{HasRule}
use Rattle.ae_store.specs.Growing.{IsFront}
use Rattle.ae_store.specs.Parts.{IsIn}
use Rattle.ae_store.specs.Stores.{Stored}
use Rattle.ae_just.specs.declared.steps.Step.{Step}
use Rattle.ae_just.specs.Steps.{Fits}
use Rattle.ae_theory.specs.Names.{terms_in}
use Rattle.ae_monoid.specs.declared.rules.Kept.{Kept}
use Rattle.ae_monoid.specs.Rules.{Contents, rule_at, AreRules}
use Rattle.ae_sweeps.specs.Given.{rep_in}
use Rattle.ae_equations.specs.Held.{Contents as Equations}
use Rattle.ae_equations.specs.Versions.{Lasts as EquationsLast}
use Rattle.ae_equation_turns.specs.Said.{IsHeld}
use Rattle.ae_equation_turns.specs.Turned.{IsRightRenamed, IsRightReduced}
use Rattle.ae_name_lines.specs.Laws.{LeastNamesRepresent}
use Rattle.ae_rule_lines.specs.Lineage.{DescendsIn, AreOfLines}
use Rattle.ae_rule_lines.proofs.NewSides.{descents_of_lines}
use Rattle.ae_rule_changes.proofs.Turned.{kept_descend}
use Rattle.ae_conflicts.specs.Saying.{RestsOnAssumed}
use Rattle.ae_state.specs.declared.holding.Holding.{Holding}
use Rattle.ae_state.specs.Names.{all_terms, terms_now, rules_now}
use Rattle.ae_state.specs.Stepping.{equations_now, paired_now, IsInStep}
use Rattle.ae_turns.specs.Ending.{HaveSameLefts}
use Rattle.ae_turns.specs.Representing.{IsTaken, AreRepresentatives}
use Rattle.ae_turns.proofs.DroppedRules.{kept_in, entries_are}
use Rattle.ae_representatives.proofs.Taken.{seen_now}
use Rattle.ae_representatives.proofs.LineNames.{line_values, reps_of_lines}
use Rattle.ae_right_sides.specs.Inner.OtherRights.{HasOtherRights}
use Rattle.ae_right_sides.proofs.Grounded.{held_rest, rules_rest}
use Rattle.ae_right_sides.proofs.OtherRights.{rights_composed}

-- ---- one number more
pub one_more : (P : Kept → Type 0) (old new : ℕ → Option Kept) (i : ℕ) → ((n : ℕ) → n ≢ i → new n ≡ old n) → ((n : ℕ) (rule : Kept) → n < i → old n ≡ Some rule → P rule)
    → ((rule : Kept) → new i ≡ Some rule → P rule) → (n : ℕ) (rule : Kept) → n < i + 1 → new n ≡ Some rule → P rule
one_more P old new i others before last n rule l at = by_number (ℕ_discrete n i)
  where
    by_number : Dec (n ≡ i) → P rule
    by_number (yes e) = last rule (sym (ap new e) ∙ at)
    by_number (no d) = before n rule (omega (arith, l, d)) (sym (others n d) ∙ at)

-- a rule that stands has a number below that of all that were given, when the left sides are those of then
pub below_count : (c d : Contents) (new : ℕ → Option Kept) (i : ℕ) → d ≡ c → AreRules (λ n. rule_at d n) d.next → d.next ≤ i → HaveSameLefts (λ n. rule_at c n) new
    → (n : ℕ) (rule : Kept) → new n ≡ Some rule → n < i
below_count c d new i e well l h n rule at =
    let x = h.alone n rule at in
    let b : n < d.next = well.below n x.rule (ap (λ (r : Contents). rule_at r n) e ∙ x.there) in
    omega (arith, b, l)

module _ (s : Stored) (o : Holding) (t : IsTaken o s) (e : Equations) (new : List Step) (fits : Fits s.signature (terms_in s) new) (held : IsHeld s.signature (terms_in s) new e)
    (pairs : e.pairs ≡ o.equations.pairs) (queue : e.queue ≡ o.equations.queue) (next : e.rules.next ≡ o.equations.rules.next) (lasts : EquationsLast o.equations e) (number : ℕ) where
  -- ---- renamed
  module _ (reps : List ℕ) (r : AreRepresentatives o reps) (least : LeastNamesRepresent) (front : IsFront o.justs new) (equal : List ℕ)
      (ok : IsRightRenamed reps equal (kept_in o.equations) (kept_in e) o.justs new number) (rests : (p : ℕ) → IsIn p equal → RestsOnAssumed (all_terms o) o.justs (present o.assumed) p) where
    renamed_descends : (js : List Line) → IsInStep o js → DescendsIn o.signature (terms_now o) js (ok.rule).entry.symbol (ok.rule).entry.right (map (rep_in reps) (ok.rule).entry.right)
    renamed_descends js i =
        let u = (ok.rule).entry.symbol in
        let right = (ok.rule).entry.right in
        descents_of_lines o.signature (terms_now o) js (rep_in reps) (rules_now o) (paired_now o) (equations_now o) u right (map (rep_in reps) right) i.ruled
        (subst (λ (z : Signature × List Term). AreOfLines z.0 z.1 js (rep_in reps)) (sym (seen_now o s t)) (reps_of_lines o s t reps r least js (line_values o s t js i.valued)))
        (renamed (λ n q. rep_in reps n ≡ q) (HasRule (rules_now o) u) (rep_in reps) (λ n. refl) right)

    pub rights_renamed : HasOtherRights s o (record o { equations = e; justs = new })
    rights_renamed =
        rights_composed s o t e new front fits held pairs queue next lasts number ok.rule (map (rep_in reps) (ok.rule).entry.right) ok.just ok.composed
        (held_rest o (t.fits).right new (ok.rule).entry.symbol equal ok.just ok.rests rests) renamed_descends

  -- ---- reduced
  module _ (front : IsFront o.justs new) (ok : IsRightReduced (kept_in o.equations) (kept_in e) o.justs new number) where
    reduced_descends : (js : List Line) → IsInStep o js → DescendsIn o.signature (terms_now o) js (ok.rule).entry.symbol (ok.rule).entry.right ok.right
    reduced_descends js i =
        let u = (ok.rule).entry.symbol in
        descents_of_lines o.signature (terms_now o) js (rep_in []) (rules_now o) (paired_now o) (equations_now o) u (ok.rule).entry.right ok.right i.ruled (λ n. inl (get_or_past [] n n (omega arith)))
        (kept_descend (rep_in []) (kept_in o.equations) (rules_now o) u (ok.rule).entry.right ok.right (entries_are o.equations) (ok.descends []))

    pub rights_reduced : HasOtherRights s o (record o { equations = e; justs = new })
    rights_reduced =
        rights_composed s o t e new front fits held pairs queue next lasts number ok.rule ok.right ok.just ok.composed (rules_rest o (t.fits).right new (ok.rule).entry.symbol ok.just ok.rests) reduced_descends
