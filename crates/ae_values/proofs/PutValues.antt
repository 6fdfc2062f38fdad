-- The values after a number was put for a name in rows, and that they can be written out.
use Rattle.std.specs.Prelude.{ℕ, ◌≡◌, ◌≢◌, Bool, List, length, slice_get, Some}
use Rattle.std.specs.List.{AllByRecursion}
use Rattle.std.proofs.Common.{sym, ap, ◌∙◌, subst}
use Rattle.std.proofs.lemmas.List.{length-map}
use native.Mathlib.Decide.{ℕ_discrete}
use Rattle.ae_base.specs.Options.{or_else}
use Rattle.ae_math.specs.Forms.{substitute}
use Rattle.ae_core.specs.declared.problems.Signature.{Signature}
use Rattle.ae_num.specs.Forms.{meaning, SameMeaning, IsNormal}
use Rattle.ae_num.specs.declared.forms.Lin.{Lin}
use Rattle.ae_num.specs.declared.forms.Value.{Value}
use Rattle.ae_num.specs.declared.forms.Value as value
use Rattle.ae_pmap.specs.Forest.{present}
use Rattle.ae_pmap.specs.Pairs.{found}
use Rattle.ae_store.specs.Shapes.{shapes}
use Rattle.ae_store.specs.Terms.{terms}
use Rattle.ae_store.specs.declared.nodes.Node.{Node}
use Rattle.ae_settled.specs.Valued.{IsOwnNumber}
use Rattle.ae_state_steps.specs.ValueSteps.{sort_for}
use Rattle.ae_value_changes.specs.Put.{IsNumberPut}
use Rattle.ae_value_table.specs.declared.patterns.Pattern.{Number, Leaf}
use Rattle.ae_value_table.specs.declared.patterns.Entry.{Entry}
use Rattle.ae_value_table.specs.Table.{Contents, number_at, leaf_at, held, values}
use Rattle.ae_value_table.proofs.ValueLaws.{by-Number, by-Leaf}
use Rattle.ae_value_fitting.specs.Fitting.{system_in, held_by, ArePatterns}
use Rattle.ae_value_fitting.proofs.Written.{numeric_sort}
use Rattle.ae_value_fitting.proofs.Lookups.{number_made, leaf_made, made, pattern_there, have_records}

-- ---- a number is put
module _ (c d : Contents) (names : held d ≡ held c) where
  pub there_still : (n : ℕ) (e : Entry) → slice_get (held c) n ≡ Some e → slice_get (held d) n ≡ Some e
  there_still n e h = ap (λ (es : List Entry). slice_get es n) names ∙ h

  pub one_each : length (values d) ≡ length (values c)
  one_each = length-map (held d) _ ∙ ap length names ∙ sym (length-map (held c) _)

module _ (sig : Signature) (nodes : List Node) (c d : Contents) (names : held d ≡ held c) (leaves : present d.leaves ≡ present c.leaves) where
  leaf_still : (n : ℕ) → leaf_at d n ≡ leaf_at c n
  leaf_still n = ap (λ (m : List (ℕ × ℕ)). or_else (found m n) n) leaves

  pub number_put : (real : Bool) (name : ℕ) (q : Lin) → ArePatterns sig (terms (shapes nodes)) (held c) → IsOwnNumber sig (system_in (terms (shapes nodes)) c) (sort_for real) name → IsNormal q
      → AllByRecursion (λ p. IsOwnNumber sig (system_in (terms (shapes nodes)) c) (sort_for real) p.key) q.parts → AllByRecursion (λ p. p.key ≢ name) q.parts
      → ((m : ℕ) → IsNormal (number_at d m) × SameMeaning (meaning (number_at d m)) (substitute ℕ_discrete (meaning (number_at c m)) name (meaning q)))
      → IsNumberPut (held_by sig nodes c) (sort_for real) name q (values d)
  number_put real name q patterns own normal over other put = record {
    one_each = one_each c d names;
    own = own;
    numeric = numeric_sort real;
    normal = normal;
    over = over;
    other = other;
    numbers = λ n f e.
        let m = made c n (value.Number f) e in
        let k = number_made (number_at c) (leaf_at c) m.entry.pattern f m.is in (
          number_at d k.0,
          pattern_there d n m.entry (Number k.0) (there_still c d names n m.entry m.there) k.1 ∙ ap (λ (v : Value). Some v) (by-Number (number_at d) (leaf_at d) k.0),
          (put k.0).0,
          subst (λ (g : Lin). SameMeaning (meaning (number_at d k.0)) (substitute ℕ_discrete (meaning g) name (meaning q))) k.2 (put k.0).1,
        );
    leaves = λ n l e.
        let m = made c n (value.Leaf l) e in
        let k = leaf_made (number_at c) (leaf_at c) m.entry.pattern l m.is in
        pattern_there d n m.entry (Leaf k.0) (there_still c d names n m.entry m.there) k.1 ∙ ap (λ (v : Value). Some v) (by-Leaf (number_at d) (leaf_at d) k.0) ∙ ap (λ (j : ℕ). Some (value.Leaf j)) (leaf_still k.0 ∙ k.2);
    records = have_records sig (terms (shapes nodes)) d (subst (ArePatterns sig (terms (shapes nodes))) (sym names) patterns);
  }
