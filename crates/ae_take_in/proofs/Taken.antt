-- The next name is taken in.
use Rattle.std.specs.Prelude.{ℕ, ◌<◌, ◌≡◌, ◌≢◌, ◌⊎◌, Bool, false, List, length, Some}
use Rattle.std.proofs.Common.{refl, sym, subst, arith, inl, inr}
use Rattle.ae_core.specs.Sorts.{sort_of, is_numeric}
use Rattle.ae_core.specs.declared.terms.Sort.{Sort}
use Rattle.ae_core.specs.declared.terms.Term.{Term}
use Rattle.ae_core.specs.declared.problems.Signature.{Signature}
use Rattle.ae_num.specs.declared.forms.Lin.{Lin}
use Rattle.ae_linear.specs.Rows.{row_at}
use Rattle.ae_pmap.specs.Forest.{present}
use Rattle.ae_pmap.specs.Pairs.{found, with_at}
use Rattle.ae_store.specs.declared.nodes.Node.{Node}
use Rattle.ae_store.specs.Growing.{IsFront}
use Rattle.ae_store.specs.Shapes.{shapes}
use Rattle.ae_store.specs.Terms.{terms, named}
use Rattle.ae_store.specs.Stores.{IsStore}
use Rattle.ae_just.specs.Steps.{Fits}
use Rattle.ae_just.specs.declared.steps.Step.{Step}
use Rattle.ae_strips.specs.Stripping.{StripsTo}
use Rattle.ae_value_table.specs.Table.{Contents, number_at, leaf_at, just_at}
use Rattle.ae_value_fitting.specs.Fitting.{AreSaid}
use Rattle.ae_entering.specs.Firsts.{AreFirst, IsNext}
use Rattle.ae_entering.specs.Laws.{NextIsFirst}
use Rattle.ae_first_values.specs.declared.numbers.Given.{Given}
use Rattle.ae_take_in.specs.Computing.{IsComputed}
use Rattle.ae_take_in.specs.declared.covering.Led.{Led}
use Rattle.ae_take_in.specs.Inner.Next.{AreBelow, ComesToOther, IsCoveredLeaf, IsNextNumber}
use Rattle.ae_take_in.specs.Inner.Taking.{IsTakenNext}
use Rattle.ae_take_in.proofs.Nexts.{one_end, field_sort, other_field, own_number, own_leaf}
use Rattle.ae_take_in.proofs.Leaves.{covered_leaf_next}
use Rattle.ae_take_in.proofs.Puts.{said_still, sources_still, below_still, number_here, number_other, leaf_same, number_below, number_said, number_sources, leaf_here, leaf_other, number_same, leaf_below, leaf_said, leaf_sources}

module _ (sig : Signature) (nodes : List Node) (store : IsStore sig nodes) (n : ℕ) (inside : n < length nodes) (law : NextIsFirst) (js ks : List Step) (front : IsFront js ks)
    (fits : Fits sig (terms (shapes nodes)) ks) (old : Contents) (below : AreBelow n old) (first : AreFirst sig (terms (shapes nodes)) n (number_at old) (leaf_at old))
    (said : AreSaid sig (terms (shapes nodes)) js old) where
  abbrev ts : List Term
  ts = terms (shapes nodes)

  -- ---- nothing is put
  pub taken_still : IsNext sig ts n (number_at old) (leaf_at old) (number_at old n) (leaf_at old n) → IsTakenNext sig ts js ks old old n
  taken_still next = record {
    first = law sig nodes n (number_at old) (number_at old) (leaf_at old) (leaf_at old) store inside (λ k d. refl) (λ k d. refl) first next;
    below = below_still sig ts js ks front fits old old n below said;
    said = said_still sig ts js ks front fits old old n below said;
    sources = sources_still sig ts js ks front fits old old n below said;
    others = λ k d. (refl, refl);
    free = λ none st. (own_number sig nodes store n inside old below n (omega arith), own_leaf sig nodes store n inside old below n (omega arith));
  }

  module _ (new : Contents) where
    -- ---- a number is put
    pub taken_number : (real : Bool) (g : Given) → IsNextNumber sig ts js ks old real n g → row_at new.rows n ≡ Some (record { value = g.value; just = 0 }) → ((k : ℕ) → k ≢ n → row_at new.rows k ≡ row_at old.rows k)
        → new.leaves ≡ old.leaves → ((k : ℕ) → just_at new k ≡ with_at (found (present old.justs)) n (Some g.step) k) → IsTakenNext sig ts js ks old new n
    taken_number real g next row rows leaves justs =
        let here = number_here sig ts js ks front fits old new n below said g.step justs g.value row rows leaves in
        let other = number_other sig ts js ks front fits old new n below said g.step justs g.value row rows leaves in
        let leaf = leaf_same sig ts js ks front fits old new n below said g.step justs g.value row rows leaves in
        record {
          first =
              law sig nodes n (number_at old) (number_at new) (leaf_at old) (leaf_at new) store inside other (λ k d. leaf k) first
              (subst (λ (v : Lin). IsNext sig ts n (number_at old) (leaf_at old) v (leaf_at new n)) (sym here) (subst (λ (m : ℕ). IsNext sig ts n (number_at old) (leaf_at old) g.value m) (sym (leaf n)) next.next));
          below = number_below sig ts js ks front fits old new n below said g.step justs g.value row rows leaves;
          said = number_said sig ts js ks front fits old new n below said g.step justs g.value row rows leaves real next.stated;
          sources = number_sources sig ts js ks front fits old new n below said g.step justs g.value row rows leaves next.rests;
          others = λ k d. (other k d, leaf k);
          free = λ none st. absurd (by_why none st next.why);
        }
      where
        by_why : (IsComputed ts n → ⊥) → StripsTo ts n n → IsComputed ts n ⊎ ComesToOther ts n → ⊥
        by_why none st (inl c) = none c
        by_why none st (inr o) = o.other (one_end sig nodes store n inside o.name n o.strips st)

    -- ---- a leaf is put
    pub taken_leaf : ((s : Sort) → sort_of sig (named ts n) ≡ Some s → is_numeric s ≡ false) → (l : Led) → IsCoveredLeaf ts js ks old n l → new.rows ≡ old.rows
        → ((k : ℕ) → found (present new.leaves) k ≡ with_at (found (present old.leaves)) n (Some l.leaf) k) → ((k : ℕ) → just_at new k ≡ with_at (found (present old.justs)) n (Some l.step) k) → IsTakenNext sig ts js ks old new n
    taken_leaf numeric l led rows leaves justs =
        let here = leaf_here sig ts js ks front fits old new n below said l.step justs l.leaf leaves rows in
        let other = leaf_other sig ts js ks front fits old new n below said l.step justs l.leaf leaves rows in
        let number = number_same sig ts js ks front fits old new n below said l.step justs l.leaf leaves rows in
        let s = field_sort sig nodes store n inside (other_field sig nodes store n inside led.name led.strips led.other) in
        let next = covered_leaf_next sig nodes store n inside old below first numeric led.name led.strips led.other l.leaf led.leaf in
        record {
          first =
              law sig nodes n (number_at old) (number_at new) (leaf_at old) (leaf_at new) store inside (λ k d. number k) other first
              (subst (λ (v : Lin). IsNext sig ts n (number_at old) (leaf_at old) v (leaf_at new n)) (sym (number n)) (subst (λ (m : ℕ). IsNext sig ts n (number_at old) (leaf_at old) (number_at old n) m) (sym here) next));
          below = leaf_below sig ts js ks front fits old new n below said l.step justs l.leaf leaves rows;
          said = leaf_said sig ts js ks front fits old new n below said l.step justs l.leaf leaves rows s.0 s.1 (numeric s.0 s.1) led.equal;
          sources = leaf_sources sig ts js ks front fits old new n below said l.step justs l.leaf leaves rows led.rests;
          others = λ k d. (number k, other k d);
          free = λ none st. absurd (led.other (one_end sig nodes store n inside led.name n led.strips st));
        }
