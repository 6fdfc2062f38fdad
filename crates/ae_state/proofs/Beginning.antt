-- What holds where there is no name, no rule and no literal.
use Rattle.std.specs.Prelude.{ℕ, List, [], ◌≡◌, map, length, take, slice_get, Option, None}
use Rattle.std.specs.List.{AllByRecursion}
use Rattle.std.proofs.Common.{refl, sym, ap, ◌∙◌, subst, arith}
use Rattle.std.proofs.lemmas.Option.{none-some, slice_get_within}
use Rattle.ae_core.specs.declared.terms.Term.{Term}
use Rattle.ae_core.specs.declared.problems.Signature.{Signature}
use Rattle.ae_num.specs.declared.forms.Value.{Value}
use Rattle.ae_pmap.specs.Pairs.{found}
use Rattle.ae_journal.specs.declared.systems.RuleEntry.{RuleEntry}
use Rattle.ae_journal.specs.declared.systems.System.{System}
use Rattle.ae_just.specs.Steps.{Fits}
use Rattle.ae_store.specs.Stores.{Stored}
use Rattle.ae_store.proofs.TermLaws.{length_terms}
use Rattle.ae_settled.specs.Valued.{AreValues}
use Rattle.ae_sweeps.specs.Given.{entry_of}
use Rattle.ae_equations.specs.declared.queue.Waiting.{Waiting}
use Rattle.ae_equation_turns.specs.Said.{IsWaitingSaid}
use Rattle.ae_name_lines.specs.Closed.{AreClosed}
use Rattle.ae_rule_lines.specs.InStep.{AreRulesInStep, Waiting as Equation}
use Rattle.ae_rule_lines.proofs.OtherLines.{nothing_in_step}
use Rattle.ae_value_table.specs.Table.{value_in, values}
use Rattle.ae_value_table.specs.declared.patterns.Entry.{Entry}
use Rattle.ae_value_fitting.specs.Sources.{IsPutFor, by_number, by_leaf}
use Rattle.ae_state.specs.declared.holding.Holding.{Holding}
use Rattle.ae_state.specs.Names.{all_terms, terms_now, rules_now}
use Rattle.ae_state.specs.Right.{IsReason, of_value, of_rule, of_equation, IsRight}
use Rattle.ae_state.specs.Fitting.{FitsStore}
use Rattle.ae_state.specs.Stepping.{equation, equations_now, paired_now, IsInStep}
use Rattle.ae_state.specs.Inner.Empty.{IsEmpty}

-- ---- no terms, no steps
closed_none : (sig : Signature) → AreClosed sig []
closed_none sig =
    record {
      sorted = λ n t e. absurd (none-some t e);
      apart = λ i j t e f. absurd (none-some t e);
      arguments = λ n h ss us e. absurd (none-some _ e);
      fields = λ n t s ss e f g. absurd (none-some t e);
    }

pub fits_none : (sig : Signature) (ts : List Term) → Fits sig ts []
fits_none sig ts = record { allowed = record { each = λ i s e. absurd (none-some s e) }; within = record { each = λ i s e. absurd (none-some s e) }; built = record { each = λ i s e. absurd (none-some s e) }; factors = record { each = λ i s e. absurd (none-some s e) } }

abbrev no_names : System
no_names = record { names = []; values = []; rules = [] }

values_none : (sig : Signature) → AreValues sig no_names
values_none sig =
    record {
      one_each = refl;
      numbers = λ n t s v e _ _ _. absurd (none-some t e);
      records = λ n t s ss v e _ _ _. absurd (none-some t e);
      others = λ n t s v e _ _ _ _. absurd (none-some t e);
      predicates = λ n t e _. absurd (none-some t e);
      numerals = λ n a b real f e _. absurd (none-some _ e);
      operations = λ n h ss us fs f g e _ _ _. absurd (none-some _ e);
      written = λ n k place ss us u v e _ _. absurd (none-some _ e);
    }

-- ---- it is right
module _ (o : Holding) (z : IsEmpty o) where
  names_none : terms_now o ≡ []
  names_none = ap (λ k. take k (all_terms o)) z.taken

  valued_none : ◌≡◌ {A = List Value} (values o.values) []
  valued_none = ap (λ k. map (λ (e : Entry). value_in o.values e.pattern) (take k o.values.entries)) z.taken

  long : length (all_terms o) ≡ 0
  long = length_terms o.shapes ∙ ap length z.shapes

  not_put : (n : ℕ) → IsPutFor o.values n → ⊥
  not_put n (by_number row e) = none-some row (sym (z.rows n) ∙ e)
  not_put n (by_leaf m e) = none-some m (sym (ap (λ ps. found ps n) z.leaves) ∙ e)

  no_reason : (id : ℕ) → IsReason o id → ⊥
  no_reason id (of_value s) = not_put s.name s.put
  no_reason id (of_rule n rule e j) = none-some rule (sym (z.rules n) ∙ e)
  no_reason id (of_equation w e j) = omega (arith, e.1, ap length z.waiting)

  pub nothing_right : IsRight o
  nothing_right =
      record {
        entries = record { within = omega (arith, ap length z.entries); each = λ n e at. absurd (none-some e (sym (ap (λ es. slice_get es n) z.entries) ∙ at)) };
        within = omega (arith, z.taken);
        closed = subst (AreClosed o.signature) (sym names_none) (closed_none o.signature);
        steps = subst (Fits o.signature (all_terms o)) (sym z.justs) (fits_none o.signature (all_terms o));
        valued =
            subst (λ (y : System). AreValues o.signature y) (sym (λ i. record { names = names_none i; values = valued_none i; rules = [] }))
            (values_none o.signature);
        said = record { numbers = λ n row e. absurd (not_put n (by_number row e)); leaves = λ n m e. absurd (not_put n (by_leaf m e)) };
        ruled = record {
          rules = record { each = λ n rule e. absurd (none-some rule (sym (z.rules n) ∙ e)) };
          waiting = subst (λ (ws : List Waiting). AllByRecursion (IsWaitingSaid o.signature (terms_now o) o.justs) ws) (sym z.waiting) tt;
        };
        grounded = λ id r. absurd (no_reason id r);
        numbered = record {
          many = ap length z.assumed ∙ sym z.next;
          places = λ k p e. absurd (none-some p (sym (ap (λ ps. slice_get ps k) z.assumed) ∙ e));
        };
        read = λ place a e. absurd (none-some a (sym (ap (λ ps. found ps place) z.assumed) ∙ e));
      }

  pub nothing_fits : (s : Stored) → s.signature ≡ o.signature → FitsStore o s
  nothing_fits s same =
      record {
        right = nothing_right;
        terms = record { signature = same; keeps = λ i t e. absurd (omega (arith, slice_get_within (all_terms o) i t e, long)) };
      }

  -- ---- no line is in step with it
  rules_none : ◌≡◌ {A = ℕ → Option RuleEntry} (rules_now o) (λ n. None)
  rules_none = λ i n. entry_of (z.rules n i)

  paired_none : ◌≡◌ {A = ℕ → List ℕ} (paired_now o) (λ n. [])
  paired_none = λ i n. z.pairs n i

  equations_none : ◌≡◌ {A = List Equation} (equations_now o) []
  equations_none = ap (map equation) z.waiting

  pub nothing_stepping : IsInStep o []
  nothing_stepping =
      record {
        valued = λ n t v e _. absurd (omega (arith, slice_get_within (terms_now o) n t e, ap length names_none));
        solved = λ n v c. absurd (omega (arith, c.1));
        ruled =
            subst (λ (x : (ℕ → Option RuleEntry) × (ℕ → List ℕ) × List Equation). AreRulesInStep o.signature (terms_now o) [] x.0 x.1 x.2)
            (sym (λ i. (rules_none i, paired_none i, equations_none i))) (nothing_in_step o.signature (terms_now o));
      }
