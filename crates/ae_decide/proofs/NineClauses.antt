-- The nine clauses together.
use Rattle.ae_core.specs.declared.problems.Signature.{Signature}
use Rattle.ae_journal.specs.Systems.{IsCompleted}
use Rattle.ae_journal.specs.declared.systems.System.{System}
use Rattle.ae_decide.specs.Clauses.{NineClauses, Part, Clause}
use Rattle.ae_decide.specs.Clauses.Part.{terms, leaves, computing, records, congruence, rules, reduction, overlaps, joins}

pub completed_of : (sig : Signature) (y : System) → ((part : Part) → Clause sig y part) → IsCompleted sig y
completed_of sig y c = record {
  values = (c terms).values;
  sorted = (c terms).sorted;
  apart = (c terms).apart;
  subterms = (c terms).subterms;
  field_names = (c terms).field_names;
  normal = (c leaves).normal;
  over = (c leaves).over;
  predicate_value = (c leaves).predicate_value;
  numeral = (c computing).numeral;
  computed = (c computing).computed;
  record_value = (c records).record_value;
  written = (c records).written;
  congruent = c congruence;
  rules_fit = c rules;
  left_reduced = (c reduction).left_reduced;
  right_reduced = (c reduction).right_reduced;
  overlaps = c overlaps;
  joins = c joins;
}

pub clauses_of : (sig : Signature) (y : System) → IsCompleted sig y → (part : Part) → Clause sig y part
clauses_of sig y c terms =
    record { values = c.values; sorted = c.sorted; apart = c.apart; subterms = c.subterms; field_names = c.field_names }
clauses_of sig y c leaves = record { normal = c.normal; over = c.over; predicate_value = c.predicate_value }
clauses_of sig y c computing = record { numeral = c.numeral; computed = c.computed }
clauses_of sig y c records = record { record_value = c.record_value; written = c.written }
clauses_of sig y c congruence = c.congruent
clauses_of sig y c rules = c.rules_fit
clauses_of sig y c reduction = record { left_reduced = c.left_reduced; right_reduced = c.right_reduced }
clauses_of sig y c overlaps = c.overlaps
clauses_of sig y c joins = c.joins

pub nine_clauses : NineClauses
nine_clauses sig y = (clauses_of sig y, completed_of sig y)
