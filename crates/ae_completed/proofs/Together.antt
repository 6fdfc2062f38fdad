-- The nine clauses, together.
use Rattle.std.specs.Prelude.{Bool, true, false, ◌≡◌, ◌↔◌}
use Rattle.ae_base.proofs.Tests.{false_true}
use mathlib.Core.Path.{sym, ◌∙◌}
use Rattle.ae_core.specs.declared.problems.Signature.{Signature}
use Rattle.ae_journal.specs.Systems.{IsCompleted}
use Rattle.ae_journal.specs.declared.systems.System.{System}
use Rattle.ae_decide.specs.Clauses.{RulesFit}
use Rattle.ae_decide.specs.Overlaps.{AllFall}
use Rattle.ae_completed.specs.Groups.{HasNames, HasValues, HasRules}

-- a test that says `false` refutes all that its clause follows from
pub refuted : {P Q : Type 0} (b : Bool) → b ≡ false → ((b ≡ true) ↔ P) → (Q → P) → (false ≡ true) ↔ Q
refuted b e t f = ((λ d. false_true d), λ q. sym e ∙ t.1 (f q))

module _ (sig : Signature) (y : System) where
  pub rules_fall : RulesFit sig y → AllFall y.rules
  rules_fall fit k e i = (fit k e i).falls

  pub completed : HasNames sig y → HasValues sig y → HasRules sig y → IsCompleted sig y
  completed a b c = record {
    values = a.terms.values;
    sorted = a.terms.sorted;
    apart = a.terms.apart;
    subterms = a.terms.subterms;
    field_names = a.terms.field_names;
    normal = a.leaves.normal;
    over = a.leaves.over;
    predicate_value = a.leaves.predicate_value;
    numeral = b.computing.numeral;
    computed = b.computing.computed;
    record_value = b.records.record_value;
    written = b.records.written;
    congruent = b.congruence;
    rules_fit = c.rules;
    left_reduced = c.reduction.left_reduced;
    right_reduced = c.reduction.right_reduced;
    overlaps = c.overlaps;
    joins = c.joins;
  }

  pub names_of : IsCompleted sig y → HasNames sig y
  names_of c = record {
    terms = record { values = c.values; sorted = c.sorted; apart = c.apart; subterms = c.subterms; field_names = c.field_names };
    leaves = record { normal = c.normal; over = c.over; predicate_value = c.predicate_value };
  }

  pub values_of : IsCompleted sig y → HasValues sig y
  values_of c = record {
    computing = record { numeral = c.numeral; computed = c.computed };
    records = record { record_value = c.record_value; written = c.written };
    congruence = c.congruent;
  }

  pub rules_of : IsCompleted sig y → HasRules sig y
  rules_of c = record {
    rules = c.rules_fit;
    reduction = record { left_reduced = c.left_reduced; right_reduced = c.right_reduced };
    overlaps = c.overlaps;
    joins = c.joins;
  }
