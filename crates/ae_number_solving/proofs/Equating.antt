-- The equation of two numbers of different values, and after the step that their difference is 0.
use Rattle.std.specs.Prelude.{ℕ, ◌<◌, ◌↔◌, ◌≡◌, Bool, List, [], ◌∷◌, length, slice_get, Some, IsTrue}
use Rattle.std.proofs.Common.{sym, subst, arith}
use Rattle.std.proofs.lemmas.List.{length-map}
use Rattle.std.proofs.lemmas.Option.{slice_get_within}
use Rattle.ae_core.specs.declared.terms.Sort.{Real}
use Rattle.ae_core.specs.declared.terms.Term.{Term}
use Rattle.ae_math.specs.Forms.{minus}
use Rattle.ae_num.specs.Forms.{meaning, SameMeaning}
use Rattle.ae_num.specs.declared.forms.Lin.{Lin}
use Rattle.ae_pmap.specs.Forest.{present}
use Rattle.ae_just.specs.Steps.{Fits}
use Rattle.ae_just.specs.declared.steps.Step.{Step}
use Rattle.ae_state_steps.specs.ValueSteps.{IsNumberName, IsWritten, IsFormOver, StatesZero}
use Rattle.ae_store.specs.Growing.{IsFront}
use Rattle.ae_store.specs.Shapes.{shapes, shape_of}
use Rattle.ae_store.specs.Stores.{Stored}
use Rattle.ae_store.proofs.PartLaws.{is_one}
use Rattle.ae_store.proofs.TermLaws.{length_terms}
use Rattle.ae_theory.specs.Names.{terms_in}
use Rattle.ae_value_steps.proofs.Added.{equal_kept}
use Rattle.ae_value_table.specs.declared.patterns.Entry.{Entry}
use Rattle.ae_value_table.specs.Table.{number_at}
use Rattle.ae_value_fitting.specs.Sources.{RestsOnValues}
use Rattle.ae_value_fitting.proofs.Written.{written}
use Rattle.ae_conflicts.specs.Saying.{RestsOnAssumed}
use Rattle.ae_state.specs.Names.{all_terms}
use Rattle.ae_state.specs.Right.{of_value}
use Rattle.ae_state.specs.declared.holding.Holding.{Holding}
use Rattle.ae_state.proofs.ExplainedValues.{known_sort, real_by}
use Rattle.ae_turns.specs.Representing.{IsTaken}
use Rattle.ae_value_turns.proofs.TakenNames.{taken_is, patterns_are, values_are}
use Rattle.ae_value_turns.proofs.RenewedValues.{own_fits}
use Rattle.ae_value_turns.proofs.GroundedSteps.{still_grounded, values_ground}
use Rattle.ae_number_solving.specs.Inner.Equated.{AreEquated, IsSomeDifference}
use Rattle.ae_number_solving.proofs.SolvedLines.{stepped, stepped_taken}

-- ---- a name of a store that is taken
module _ (o : Holding) (s : Stored) (t : IsTaken o s) (n : ℕ) (l : n < length s.nodes) where
  abbrev ts : List Term
  ts = terms_in s

  inside : n < length ts
  inside = omega (arith, l, length_terms (shapes s.nodes), length-map s.nodes shape_of)

  taken : n < o.values.taken
  taken = omega (arith, inside, taken_is o s t)

  pub name_known : n < length o.values.entries
  name_known = omega (arith, taken, (t.fits).right.within)

  -- which of the two sorts of numbers it has
  pub same_real : (q b : Bool) (e : Entry) → slice_get o.values.entries n ≡ Some e → IsNumberName s.signature ts q n → (IsTrue b ↔ (e.sort ≡ Real)) → b ≡ q
  same_real q b e at name h = real_by b q e.sort (known_sort o s t.fits n taken e q at name) h

  pub name_written : (q b : Bool) → b ≡ q → IsNumberName s.signature ts q n → IsWritten s.signature ts b n (number_at o.values n)
  name_written q b e name =
      written s.signature ts o.values (patterns_are o s t) (values_are o s t) b n inside (subst (λ (r : Bool). IsNumberName s.signature ts r n) (sym e) name)

-- ---- after the step
module _ (s : Stored) (o : Holding) (real : Bool) (left right equal : ℕ) (e : AreEquated s o real left right equal) (steps : List Step) (front : IsFront o.justs steps) (fits : Fits s.signature (terms_in s) steps) where
  abbrev pub later : Holding
  later = stepped o s e.taken steps front fits

  still_equated : AreEquated s later real left right equal
  still_equated = record {
    taken = stepped_taken o s e.taken steps front fits;
    left_within = e.left_within;
    right_within = e.right_within;
    left_written = e.left_written;
    right_written = e.right_written;
    apart = e.apart;
    states = equal_kept o.justs steps front equal left right e.states;
    rests = still_grounded (all_terms o) (present o.assumed) o.signature o.justs steps front (own_fits o s e.taken steps front fits) equal (slice_get_within o.justs equal _ (e.states).there) e.rests;
  }

  pub some_difference : (form : Lin) (id : ℕ) → SameMeaning (meaning form) (minus (meaning (number_at o.values left)) (meaning (number_at o.values right))) → IsFormOver s.signature (terms_in s) real form
      → StatesZero steps id real form → RestsOnValues o.justs steps o.values (equal ∷ []) id → IsSomeDifference s later real form id
  some_difference form id means over states rests = record {
    left = left;
    right = right;
    equal = equal;
    equated = still_equated;
    difference = record {
      means = means;
      over = over;
      states = states;
      rests =
          values_ground (all_terms o) (present o.assumed) o.justs steps o.values (equal ∷ []) id
          (λ p m. subst (RestsOnAssumed (all_terms o) o.justs (present o.assumed)) (sym (is_one p equal m)) e.rests) (λ k v. ((e.taken).fits).right.grounded k (of_value v)) rests;
    };
  }
