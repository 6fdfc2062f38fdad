-- The values of names and what they are made of; records have the values of their fields.
use Rattle.std.specs.Prelude.{ℕ, ◌<◌, ◌≡◌, List, [], ◌∷◌, map, length, slice_get, Some}
use Rattle.std.proofs.Common.{refl, sym, ap, ◌∙◌, arith}
use Rattle.std.proofs.lemmas.List.{length-map}
use Rattle.std.proofs.lemmas.Option.{same_Some, slice_get_within}
use Rattle.ae_base.proofs.ListFacts.{value_at, get_map}
use Rattle.ae_core.specs.declared.terms.Term.{Term}
use Rattle.ae_core.specs.declared.problems.Signature.{Signature}
use Rattle.ae_num.specs.declared.forms.Lin.{Lin}
use Rattle.ae_num.specs.declared.forms.Value.{Value}
use Rattle.ae_num.specs.declared.forms.Value as value
use Rattle.ae_settled.specs.Valued.{HaveValues}
use Rattle.ae_value_changes.specs.Put.{HasRecords}
use Rattle.ae_value_table.specs.declared.patterns.Pattern.{Pattern, Pattern-F, Number, Leaf, Fields, out-Pattern, roll-Pattern, roll-out-Pattern}
use Rattle.ae_value_table.specs.declared.patterns.Pattern.TheOpen as layer
use Rattle.ae_value_table.specs.declared.patterns.Pattern.TheVariants.{rolls-Leaf, rolls-Number, rolls-Fields}
use Rattle.ae_value_table.specs.declared.patterns.Entry.{Entry}
use Rattle.ae_value_table.specs.Table.{Contents, value_by, value_in, held, values}
use Rattle.ae_value_table.proofs.ValueLaws.{by-Number, by-Leaf, by-Fields, number_leaf, number_fields, leaf_fields, same_numbers, same_leaves}
use Rattle.ae_value_fitting.specs.Fitting.{system_in, HavePatterns, ArePatterns}

-- ---- what a value is made of
module _ (number : ℕ → Lin) (leaf : ℕ → ℕ) (p : Pattern) where
  abbrev V : Pattern → Value
  V = value_by number leaf

  rolled : (s : Pattern-F Pattern) → out-Pattern p ≡ s → p ≡ roll-Pattern s
  rolled s o = sym (roll-out-Pattern p) ∙ ap roll-Pattern o

  pub number_made : (f : Lin) → V p ≡ value.Number f → (m : ℕ) × (p ≡ Number m) × (number m ≡ f)
  number_made f e = by_shape (out-Pattern p) refl
    where
      by_shape : (s : Pattern-F Pattern) → out-Pattern p ≡ s → (m : ℕ) × (p ≡ Number m) × (number m ≡ f)
      by_shape (layer.Number m) o = let q : p ≡ Number m = rolled (layer.Number m) o ∙ rolls-Number m in (m, q, same_numbers (number m) f (sym (ap V q ∙ by-Number number leaf m) ∙ e))
      by_shape (layer.Leaf m) o = absurd (number_leaf f (leaf m) (sym e ∙ ap V (rolled (layer.Leaf m) o ∙ rolls-Leaf m) ∙ by-Leaf number leaf m))
      by_shape (layer.Fields m ps) o = absurd (number_fields f (map V ps) (sym e ∙ ap V (rolled (layer.Fields m ps) o ∙ rolls-Fields m ps) ∙ by-Fields number leaf m ps))

  pub leaf_made : (k : ℕ) → V p ≡ value.Leaf k → (m : ℕ) × (p ≡ Leaf m) × (leaf m ≡ k)
  leaf_made k e = by_shape (out-Pattern p) refl
    where
      by_shape : (s : Pattern-F Pattern) → out-Pattern p ≡ s → (m : ℕ) × (p ≡ Leaf m) × (leaf m ≡ k)
      by_shape (layer.Leaf m) o = let q : p ≡ Leaf m = rolled (layer.Leaf m) o ∙ rolls-Leaf m in (m, q, same_leaves (leaf m) k (sym (ap V q ∙ by-Leaf number leaf m) ∙ e))
      by_shape (layer.Number m) o = absurd (number_leaf (number m) k (sym (sym e ∙ ap V (rolled (layer.Number m) o ∙ rolls-Number m) ∙ by-Number number leaf m)))
      by_shape (layer.Fields m ps) o = absurd (leaf_fields k (map V ps) (sym e ∙ ap V (rolled (layer.Fields m ps) o ∙ rolls-Fields m ps) ∙ by-Fields number leaf m ps))

-- ---- the values of names
pub record IsMade (c : Contents) (n : ℕ) (v : Value) : Type 0 where
  pub entry : Entry
  pub there : slice_get (held c) n ≡ Some entry
  pub is : value_in c entry.pattern ≡ v

module _ (c : Contents) where
  pub value_there : (n : ℕ) (e : Entry) → slice_get (held c) n ≡ Some e → slice_get (values c) n ≡ Some (value_in c e.pattern)
  value_there n e h = get_map (λ (x : Entry). value_in c x.pattern) (held c) n e h

  pub made : (n : ℕ) (v : Value) → slice_get (values c) n ≡ Some v → IsMade c n v
  made n v h =
      let l : n < length (values c) = slice_get_within (values c) n v h in
      let w = value_at (held c) n (omega (arith, l, length-map (held c) (λ (x : Entry). value_in c x.pattern))) in
      record { entry = w.0; there = w.1; is = same_Some (value_in c w.0.pattern) v (sym (value_there n w.0 w.1) ∙ h) }

  pub pattern_there : (n : ℕ) (e : Entry) (p : Pattern) → slice_get (held c) n ≡ Some e → e.pattern ≡ p → slice_get (values c) n ≡ Some (value_in c p)
  pattern_there n e p h q = value_there n e h ∙ ap (λ (x : Pattern). Some (value_in c x)) q

-- ---- records
module _ (sig : Signature) (ts : List Term) (c : Contents) where
  have_values : (us : List Term) (ps : List Pattern) → HavePatterns ts (held c) us ps → HaveValues (system_in ts c) us (map (value_in c) ps)
  have_values [] [] h = tt
  have_values [] (p ∷ ps) h = absurd h
  have_values (u ∷ us) [] h = absurd h
  have_values (u ∷ us) (p ∷ ps) h = (record { name = (h.0).name; is = (h.0).is; value = pattern_there c (h.0).name (h.0).entry p (h.0).there (h.0).pattern }, have_values us ps h.1)

  pub have_records : ArePatterns sig ts (held c) → HasRecords sig (system_in ts c)
  have_records a n t s ss v e o at f =
      let m = made c n v at in
      let r = a.records n t s ss m.entry e o m.there f in
      record {
        fields = map (value_in c) r.0;
        is = sym m.is ∙ ap (value_in c) r.1 ∙ by-Fields _ _ n r.0;
        are = have_values _ r.0 r.2;
      }
