use Rattle.ae_settled.proofs.Terms.{named_sorted, apart, subterms, field_names}
use Rattle.ae_settled.proofs.Leaves.{normal, over, predicate_value}
use Rattle.ae_settled.proofs.Computing.{numeral, computed}
use Rattle.ae_settled.proofs.Records.{record_value, written}
use Rattle.ae_settled.proofs.Congruences.{congruent}
use Rattle.ae_settled.proofs.Sides.{rules_fit}
use Rattle.ae_settled.proofs.Reduced.{left_reduced, right_reduced}
use Rattle.ae_settled.proofs.Overlaps.{overlaps}
use Rattle.ae_settled.proofs.Joined.{joins}
use Rattle.ae_settled.proofs.laws.a_settled_state_is_completed.Goals as goal

pub returns : goal.returns
returns c = λ x settled. record {
  values = settled.values.one_each;
  sorted = named_sorted x settled.store;
  apart = apart x settled.store;
  subterms = subterms x settled.store;
  field_names = field_names x settled.store;
  normal = normal x settled.store settled.values;
  over = over x settled.store settled.values;
  predicate_value = predicate_value x settled.store settled.values;
  numeral = numeral x settled.store settled.values;
  computed = computed x settled.store settled.values;
  record_value = record_value x settled.values;
  written = written x settled.values;
  congruent = congruent x settled;
  rules_fit = rules_fit x settled;
  left_reduced = left_reduced x settled;
  right_reduced = right_reduced x settled;
  overlaps = overlaps x settled;
  joins = joins x settled;
}
