-- Values don't depend on the rules of a system.
use Rattle.std.specs.Prelude.{ℕ, List, [], ◌∷◌, map, length}
use Rattle.ae_base.proofs.AllOf.{all_weaker}
use Rattle.ae_core.specs.declared.terms.Sort.{Sort}
use Rattle.ae_core.specs.declared.terms.Term.{Term}
use Rattle.ae_core.specs.declared.problems.Signature.{Signature}
use Rattle.ae_num.specs.declared.forms.Part.{Part}
use Rattle.ae_num.specs.declared.forms.Value.{Value, Number}
use Rattle.ae_journal.specs.Values.{Val}
use Rattle.ae_journal.specs.Systems.{Has, Represents, field_terms}
use Rattle.ae_journal.specs.declared.systems.RuleEntry.{RuleEntry}
use Rattle.ae_journal.specs.declared.systems.System.{System}
use Rattle.ae_settled.specs.Valued.{HasValue, HaveValues, IsOwnNumber, IsNumberOver, IsLeafOver, AreFields, AreValues}

module _ (sig : Signature) (ts : List Term) (vs : List Value) where
  abbrev pub under : List RuleEntry → System
  under rules = record { names = ts; values = vs; rules = rules }

  module _ (a b : List RuleEntry) where
    value_under : (t : Term) (v : Value) → HasValue (under a) t v → HasValue (under b) t v
    value_under t v h = record { name = h.name; is = h.is; value = h.value }

    values_under : (us : List Term) (ws : List Value) → HaveValues (under a) us ws → HaveValues (under b) us ws
    values_under [] [] h = tt
    values_under (u ∷ us) (w ∷ ws) h = (value_under u w h.0, values_under us ws h.1)
    values_under [] (w ∷ ws) h = absurd h
    values_under (u ∷ us) [] h = absurd h

    number_under : (s : Sort) (v : Value) → IsNumberOver sig (under a) s v → IsNumberOver sig (under b) s v
    number_under s v h =
        record {
          form = h.form;
          is = h.is;
          normal = h.normal;
          over =
              all_weaker (λ (p : Part). IsOwnNumber sig (under a) s p.key) (λ (p : Part). IsOwnNumber sig (under b) s p.key)
              (λ p n. record { term = n.term; is = n.is; sort = n.sort; value = n.value; value_is = n.value_is; own = n.own }) (h.form).parts h.over;
        }

    leaf_under : (s : Sort) (v : Value) → IsLeafOver sig (under a) s v → IsLeafOver sig (under b) s v
    leaf_under s v h = record { leaf = h.leaf; is = h.is; over = record { term = (h.over).term; is = (h.over).is; sort = (h.over).sort; own = (h.over).own } }

    fields_under : (us : List Term) (v : Value) → AreFields (under a) us v → AreFields (under b) us v
    fields_under us v h = record { fields = h.fields; is = h.is; are = values_under us h.fields h.are }

    pub has_under : (s : Sort) (v : Val) (n : ℕ) → Has sig (under a) s v n → Has sig (under b) s v n
    has_under s v n h = record { term = h.term; is = h.is; sort = h.sort; value = h.value }

  pub represents_under : (a b : List RuleEntry) (s : Sort) (v : Val) (n : ℕ) → Represents sig (under a) s v n → Represents sig (under b) s v n
  represents_under a b s v n h = record { has = has_under a b s v n h.has; least = λ m k. h.least m (has_under b a s v m k) }

  pub values_with : (a b : List RuleEntry) → AreValues sig (under a) → AreValues sig (under b)
  values_with a b all =
      record {
        one_each = all.one_each;
        numbers = λ n t s v is sorted at numeric. number_under a b s v (all.numbers n t s v is sorted at numeric);
        records = λ n t s ss v is sorted at fields. fields_under a b (field_terms s t (length ss)) v (all.records n t s ss v is sorted at fields);
        others = λ n t s v is sorted at other none. leaf_under a b s v (all.others n t s v is sorted at other none);
        predicates = all.predicates;
        numerals = all.numerals;
        operations = λ n h ss us fs f g is at forms linear. all.operations n h ss us fs f g is at (values_under b a us (map Number fs) forms) linear;
        written = λ n k place ss us u v is at has. all.written n k place ss us u v is at (value_under b a u v has);
      }
