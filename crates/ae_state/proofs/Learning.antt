-- Names that come: the terms of shapes that are those of a store, and what stays where there are more.
use Rattle.std.specs.Prelude.{ℕ, ◌<◌, ◌≤◌, List, [], ◌∷◌, ◌++◌, ◌≡◌, ◌⊎◌, length, slice_get, Some}
use Rattle.std.specs.List.{AllByRecursion}
use Rattle.std.proofs.Common.{sym, ap, ◌∙◌, subst, arith, inl, inr}
use Rattle.std.proofs.lemmas.List.{append-nil, take_all, length-map, length_push}
use Rattle.std.proofs.lemmas.Option.{same_Some, slice_get_within}
use Rattle.ae_base.proofs.ListFacts.{get_map, get_before, get_seam}
use Rattle.std.proofs.lemmas.Bool.{cases_lt}
use Rattle.ae_core.specs.declared.terms.Term.{Term}
use Rattle.ae_core.specs.declared.problems.Signature.{Signature}
use Rattle.ae_journal.specs.declared.lines.Line.{Line}
use Rattle.ae_pmap.specs.Forest.{present}
use Rattle.ae_store.specs.Growing.{IsFront}
use Rattle.ae_store.specs.Shapes.{shapes, shape_of}
use Rattle.ae_store.specs.Stores.{Stored, IsStore}
use Rattle.ae_store.specs.Terms.{terms, term_of, Keeps}
use Rattle.ae_store.specs.declared.nodes.Node.{Node}
use Rattle.ae_store.specs.declared.nodes.Shape.{Shape}
use Rattle.ae_store.proofs.TermLaws.{length_terms, terms_push, term_kept, term_at}
use Rattle.ae_just.specs.declared.steps.Step.{Step}
use Rattle.ae_just.proofs.KeptLaws.{fits_kept}
use Rattle.ae_name_lines.specs.Closed.{AreClosed}
use Rattle.ae_name_lines.specs.InStep.{AreLineValues}
use Rattle.ae_rule_lines.specs.InStep.{AreRulesInStep}
use Rattle.ae_settled.specs.Valued.{AreValues}
use Rattle.ae_theory.specs.Names.{terms_in}
use Rattle.ae_value_table.specs.Table.{values}
use Rattle.ae_value_fitting.specs.Fitting.{system_in, AreSaid}
use Rattle.ae_equation_turns.specs.Said.{IsHeld}
use Rattle.ae_conflicts.specs.Conflicting.{IsConflict}
use Rattle.ae_conflicts.specs.Saying.{AreKept, RestsOnAssumed}
use Rattle.ae_conflicts.proofs.Kept.{conflict_kept}
use Rattle.ae_state.specs.declared.holding.Holding.{Holding}
use Rattle.ae_state.specs.Names.{all_terms, terms_now, rules_now}
use Rattle.ae_state.specs.Right.{IsReason, of_value, of_rule, of_equation, HasTerms, IsRight}
use Rattle.ae_state.specs.Fitting.{FitsStore}
use Rattle.ae_state.specs.Stepping.{paired_now, equations_now, IsInStep}
use Rattle.ae_state.specs.Complete.{IsOwnConflict}
use Rattle.ae_state.proofs.Growing.{front_keeps, keeps_then, keeps_long, take_kept, entries_kept, rests_kept}
use Rattle.ae_state.proofs.Reasons.{reason_within}

-- ---- the shape of the next name
module _ (sig : Signature) (nodes : List Node) (store : IsStore sig nodes) (xs : List Shape) (keeps : Keeps (terms xs) (terms (shapes nodes))) (p : Node) (at : slice_get nodes (length xs) ≡ Some p) where
  shape_at : slice_get (shapes nodes) (length xs) ≡ Some (shape_of p)
  shape_at = get_map shape_of nodes (length xs) p at

  next_term : slice_get (terms (shapes nodes)) (length xs) ≡ Some (term_of (terms xs) (shape_of p))
  next_term =
      let args = subst (λ n. AllByRecursion (λ a. a < n) p.args) (sym (length_terms xs)) (((store.sound).places (length xs) (shape_of p) shape_at).args) in
      term_at sig (shapes nodes) store.sound (length xs) (shape_of p) shape_at ∙ ap Some (term_kept (terms xs) (terms (shapes nodes)) keeps (shape_of p) args)

  pub keeps_next : Keeps (terms (xs ++ shape_of p ∷ [])) (terms (shapes nodes))
  keeps_next i t e = by_order (cases_lt i (length (terms xs)))
    where
      pushed : slice_get (terms xs ++ term_of (terms xs) (shape_of p) ∷ []) i ≡ Some t
      pushed = ap (λ ts. slice_get ts i) (sym (terms_push xs (shape_of p))) ∙ e

      by_order : (i < length (terms xs)) ⊎ (length (terms xs) ≤ i) → slice_get (terms (shapes nodes)) i ≡ Some t
      by_order (inl l) = keeps i t (sym (get_before (terms xs) (term_of (terms xs) (shape_of p) ∷ []) i l) ∙ pushed)
      by_order (inr l) =
          let w = slice_get_within (terms xs ++ term_of (terms xs) (shape_of p) ∷ []) i t pushed in
          let k : i ≡ length (terms xs) = omega (arith, w, l, length_push (terms xs) (term_of (terms xs) (shape_of p))) in
          let same : term_of (terms xs) (shape_of p) ≡ t =
          same_Some _ t (sym (get_seam (terms xs) [] (term_of (terms xs) (shape_of p))) ∙ ap (slice_get (terms xs ++ term_of (terms xs) (shape_of p) ∷ [])) (sym k) ∙ pushed) in
          ap (slice_get (terms (shapes nodes))) (k ∙ length_terms xs) ∙ next_term ∙ ap Some same

-- the terms of a list that keeps another, and is no longer, are its own
pub all_kept : (xs : List Shape) (nodes : List Node) → Keeps (terms xs) (terms (shapes nodes)) → length nodes ≤ length xs → terms xs ≡ terms (shapes nodes)
all_kept xs nodes keeps l =
    let ts = terms (shapes nodes) in
    let long : length ts ≤ length (terms xs) = omega (arith, l, length_terms xs, length_terms (shapes nodes), length-map nodes shape_of) in
    let none : length (terms xs) ≤ length ts = keeps_long (terms xs) ts keeps in
    sym (take_all (length (terms xs)) (terms xs) (omega arith)) ∙ sym (take_kept (length (terms xs)) (terms xs) ts keeps (omega arith)) ∙ take_all (length (terms xs)) ts (omega (arith, long))

-- ---- more names
module _ (o : Holding) (xs : List Shape) (front : IsFront o.shapes xs) (right : IsRight o) where
  abbrev pub grown : Holding
  grown = record o { shapes = xs }

  keeps : Keeps (all_terms o) (terms xs)
  keeps = front_keeps o.shapes xs front

  terms_same : terms_now grown ≡ terms_now o
  terms_same = take_kept o.values.taken (all_terms o) (terms xs) keeps (omega (arith, right.within, (right.entries).within))

  reason_same : (id : ℕ) → IsReason grown id → IsReason o id
  reason_same id (of_value s) = of_value s
  reason_same id (of_rule n rule e j) = of_rule n rule e j
  reason_same id (of_equation w e j) = of_equation w e j

  terms_before : (s : Stored) → HasTerms grown s → HasTerms o s
  terms_before s t = record { signature = t.signature; keeps = keeps_then (all_terms o) (terms xs) (terms_in s) keeps t.keeps }

  kept_all : AreKept (present o.assumed) (present o.assumed)
  kept_all = record { each = λ place entry e. e }

  grounded_more : (id : ℕ) → IsReason grown id → RestsOnAssumed (terms xs) o.justs (present o.assumed) id
  grounded_more id r =
      let before = reason_same id r in
      subst (λ (steps : List Step). RestsOnAssumed (terms xs) steps (present o.assumed) id) (append-nil o.justs)
      (rests_kept (present o.assumed) (present o.assumed) kept_all o.signature (all_terms o) (terms xs) o.justs [] keeps right.steps id (reason_within o right id before) (right.grounded id before))

  pub right_grown : IsRight grown
  right_grown =
      record {
        entries = entries_kept o.signature (all_terms o) (terms xs) keeps o.values.entries right.entries;
        within = right.within;
        closed = subst (AreClosed o.signature) (sym terms_same) right.closed;
        steps = fits_kept (all_terms o) (terms xs) keeps o.signature o.justs right.steps;
        valued = subst (λ (ts : List Term). AreValues o.signature (system_in ts o.values)) (sym terms_same) right.valued;
        said = subst (λ (ts : List Term). AreSaid o.signature ts o.justs o.values) (sym terms_same) right.said;
        ruled = subst (λ (ts : List Term). IsHeld o.signature ts o.justs o.equations) (sym terms_same) right.ruled;
        grounded = grounded_more;
        numbered = right.numbered;
        read = λ place a e.
            let r = right.read place a e in
            record { what = r.what; at = r.at; named = λ s t. r.named s (terms_before s t); says = λ s store t. r.says s store (terms_before s t) };
      }

  pub step_grown : (js : List Line) → IsInStep o js → IsInStep grown js
  step_grown js s =
      record {
        valued = subst (λ (ts : List Term). AreLineValues o.signature ts (values o.values) js) (sym terms_same) s.valued;
        solved = s.solved;
        ruled = subst (λ (ts : List Term). AreRulesInStep o.signature ts js (rules_now o) (paired_now o) (equations_now o)) (sym terms_same) s.ruled;
      }

  pub conflict_grown : (k : ℕ) → IsOwnConflict o k → IsOwnConflict grown k
  conflict_grown k c =
      record {
        conflict = c.conflict;
        at = c.at;
        is =
            subst (λ (steps : List Step). IsConflict o.signature (terms xs) steps (present o.assumed) c.conflict) (append-nil o.justs)
            (conflict_kept (present o.assumed) (present o.assumed) kept_all o.signature (all_terms o) (terms xs) o.justs [] keeps right.steps c.conflict c.is);
      }

  pub fits_grown : (s : Stored) → s.signature ≡ o.signature → Keeps (terms xs) (terms_in s) → FitsStore grown s
  fits_grown s e k = record { right = right_grown; terms = record { signature = e; keeps = k } }
