-- Where all values are mapped, records have the values of their fields again.
use Rattle.std.specs.Prelude.{ℕ, ◌<◌, ◌≡◌, List, [], ◌∷◌, map, length, slice_get, Some}
use Rattle.std.specs.List.{AllByRecursion}
use Rattle.std.proofs.Common.{sym, ap, ◌∙◌, subst, arith}
use Rattle.std.proofs.lemmas.List.{length-map}
use Rattle.std.proofs.lemmas.Option.{same_Some, slice_get_within}
use Rattle.ae_base.proofs.ListFacts.{value_at, get_map}
use Rattle.ae_core.specs.declared.terms.Term.{Term}
use Rattle.ae_num.specs.Forms.{IsNormal}
use Rattle.ae_num.specs.declared.forms.Lin.{Lin}
use Rattle.ae_num.specs.declared.forms.Value.{Value, Leaf, Number, Fields, fold-roll-Value}
use Rattle.ae_num.specs.declared.forms.Value.TheOpen as layer
use Rattle.ae_num.specs.declared.forms.Value.TheVariants.{rolls-Leaf, rolls-Number, rolls-Fields}
use Rattle.ae_journal.specs.Systems.{field_terms}
use Rattle.ae_journal.specs.declared.systems.System.{System}
use Rattle.ae_evaluation.proofs.Exact.{forms-Number}
use Rattle.ae_store.specs.Stores.{IsStore}
use Rattle.ae_settled.specs.Held.{Held, system_of}
use Rattle.ae_settled.specs.Valued.{HaveValues, AreValues}
use Rattle.ae_settled.proofs.Leaves.{normal}
use Rattle.ae_value_changes.specs.Put.{HasRecords, put_leaf}
use Rattle.ae_value_changes.specs.Mapped.{mapped, mapped_layer, all_mapped, NumbersMapped, LeavesMapped}
use Rattle.ae_value_changes.proofs.Puts.{numbers_put, leaves_put}

-- ---- a mapped value
module _ (number : Lin → Lin) (leaf : ℕ → ℕ) where
  abbrev T : Value → Value
  T = mapped number leaf

  mapped-Leaf : (n : ℕ) → mapped number leaf (Leaf n) ≡ Leaf (leaf n)
  unfolding mapped
  mapped-Leaf n = ap (mapped number leaf) (sym (rolls-Leaf n)) ∙ fold-roll-Value Value (mapped_layer number leaf) (layer.Leaf n)

  mapped-Number : (f : Lin) → mapped number leaf (Number f) ≡ Number (number f)
  unfolding mapped
  mapped-Number f = ap (mapped number leaf) (sym (rolls-Number f)) ∙ fold-roll-Value Value (mapped_layer number leaf) (layer.Number f)

  mapped-Fields : (vs : List Value) → mapped number leaf (Fields vs) ≡ Fields (map (mapped number leaf) vs)
  unfolding mapped
  mapped-Fields vs = ap (mapped number leaf) (sym (rolls-Fields vs)) ∙ fold-roll-Value Value (mapped_layer number leaf) (layer.Fields vs)

  -- ---- all values
  module _ (x : Held) (values : AreValues x.signature (system_of x)) where
    abbrev now : System
    now = system_of (all_mapped number leaf x)

    at_mapped : (n : ℕ) (v : Value) → slice_get x.values n ≡ Some v → slice_get (map T x.values) n ≡ Some (T v)
    at_mapped n v e = get_map T x.values n v e

    have_mapped : (ts : List Term) (vs : List Value) → HaveValues (system_of x) ts vs → HaveValues now ts (map T vs)
    have_mapped [] [] h = tt
    have_mapped [] (v ∷ vs) h = absurd h
    have_mapped (t ∷ ts) [] h = absurd h
    have_mapped (t ∷ ts) (v ∷ vs) h = (record { name = (h.0).name; is = (h.0).is; value = at_mapped (h.0).name v (h.0).value }, have_mapped ts vs h.1)

    pub records_mapped : HasRecords x.signature now
    records_mapped n t s ss v e o a f =
        let l : n < length (system_of x).names = slice_get_within (system_of x).names n t e in
        let w = value_at x.values n (omega (arith, l, values.one_each)) in
        let h = values.records n t s ss w.0 e o w.1 f in
        record {
          fields = map T h.fields;
          is = same_Some v (T w.0) (sym a ∙ at_mapped n w.0 w.1) ∙ ap T h.is ∙ mapped-Fields h.fields;
          are = have_mapped (field_terms s t (length ss)) h.fields h.are;
        }

    pub numbers_mapped_at : (n : ℕ) (f : Lin) → slice_get x.values n ≡ Some (Number f) → slice_get (map T x.values) n ≡ Some (Number (number f))
    numbers_mapped_at n f e = at_mapped n (Number f) e ∙ ap (λ (v : Value). Some v) (mapped-Number f)

    pub leaves_mapped_at : (n k : ℕ) → slice_get x.values n ≡ Some (Leaf k) → slice_get (map T x.values) n ≡ Some (Leaf (leaf k))
    leaves_mapped_at n k e = at_mapped n (Leaf k) e ∙ ap (λ (v : Value). Some v) (mapped-Leaf k)

-- ---- the laws
module _ (x : Held) (store : IsStore x.signature x.nodes) (values : AreValues x.signature (system_of x)) where
  normal_at : (n : ℕ) (f : Lin) → slice_get x.values n ≡ Some (Number f) → IsNormal f
  normal_at n f e = (subst (AllByRecursion IsNormal) (forms-Number f) (normal x store values n (Number f) e)).0

pub numbers_mapped : NumbersMapped
numbers_mapped x s name q number store values own numeric normal_is over other putting =
    numbers_put x s name q (map (mapped number (λ k. k)) x.values) store values
    (record {
      one_each = length-map x.values (mapped number (λ k. k));
      own = own;
      numeric = numeric;
      normal = normal_is;
      over = over;
      other = other;
      numbers = λ n f e. let p = putting f (normal_at x store values n f e) in (number f, numbers_mapped_at number (λ k. k) x values n f e, p.0, p.1);
      leaves = leaves_mapped_at number (λ k. k) x values;
      records = records_mapped number (λ k. k) x values;
    })

pub leaves_mapped : LeavesMapped
leaves_mapped x s name m store values own over differ =
    leaves_put x s name m (map (mapped (λ f. f) (put_leaf name m)) x.values) store values
    (record {
      one_each = length-map x.values (mapped (λ f. f) (put_leaf name m));
      own = own;
      over = over;
      differ = differ;
      numbers = numbers_mapped_at (λ f. f) (put_leaf name m) x values;
      leaves = leaves_mapped_at (λ f. f) (put_leaf name m) x values;
      records = records_mapped (λ f. f) (put_leaf name m) x values;
    })
