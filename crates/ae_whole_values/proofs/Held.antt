-- Values that are held of names of integers and aren't whole.
use Rattle.std.specs.Prelude.{ℕ, Bool, true, false, List, ◌≡◌, ◌<◌, length, slice_get, Some}
use Rattle.std.proofs.Common.{sym, ap, ◌∙◌, subst, arith}
use Rattle.std.proofs.lemmas.List.{length-map}
use Rattle.std.proofs.lemmas.Option.{same_Some, slice_get_within}
use Rattle.ae_base.proofs.ListFacts.{value_at, get_map}
use Rattle.ae_core.specs.Sorts.{sort_of}
use Rattle.ae_core.specs.declared.problems.Signature.{Signature}
use Rattle.ae_core.specs.declared.terms.Sort.{Int, Real}
use Rattle.ae_core.specs.declared.terms.Term.{Term}
use Rattle.ae_num.specs.declared.forms.Lin.{Lin}
use Rattle.ae_num.specs.declared.forms.Value.{Value}
use Rattle.ae_num.specs.declared.forms.Value as value
use Rattle.ae_store.specs.Terms.{HasOneName, Keeps}
use Rattle.ae_store.proofs.StoreLaws.{name_term}
use Rattle.ae_just.specs.declared.steps.Step.{Step}
use Rattle.ae_settled.specs.Valued.{AreValues}
use Rattle.ae_value_steps.specs.Stating.{IsStated}
use Rattle.ae_value_table.specs.declared.patterns.Entry.{Entry}
use Rattle.ae_value_table.specs.declared.patterns.Pattern.{Number}
use Rattle.ae_value_table.specs.Table.{Contents, held, value_in, number_at, leaf_at}
use Rattle.ae_value_table.proofs.ValueLaws.{by-Number}
use Rattle.ae_value_fitting.specs.Fitting.{system_in, ArePatterns, AreSaid}
use Rattle.ae_conflicts.specs.declared.assumed.Assumed.{Assumed}
use Rattle.ae_conflicts.specs.Saying.{RestsOnAssumed}
use Rattle.ae_conflicts.specs.Conflicting.{IsUnsolvable}
use Rattle.ae_whole_values.specs.Wholes.{IsFraction, HaveArguments}
use Rattle.ae_whole_values.proofs.Shown.{row_number}
use Rattle.ae_whole_values.proofs.Evaluated.{int_numeric}
use Rattle.ae_whole_values.proofs.Unsolvable.{unsolvable}

module _ (sig : Signature) (ts now : List Term) (c : Contents) (steps : List Step) (assumed : List (ℕ × Assumed)) (keeps : Keeps now ts) (one : HasOneName now) (arguments : HaveArguments (system_in now c))
    (values : AreValues sig (system_in now c)) (said : AreSaid sig now steps c) (patterns : ArePatterns sig now (held c)) (id : ℕ) (rests : RestsOnAssumed ts steps assumed id) (f : IsFraction c id) where
  abbrev n : ℕ
  n = f.name

  abbrev entry : Entry
  entry = (f.integer).entry

  abbrev lin : Lin
  lin = (f.row).value

  term_there : (t : Term) × (slice_get now n ≡ Some t)
  term_there =
      let l : n < length (held c) = slice_get_within (held c) n entry (f.integer).at in
      let k : length (system_in now c).values ≡ length (held c) = length-map (held c) (λ (x : Entry). value_in c x.pattern) in
      value_at now n (omega (arith, l, k, values.one_each))

  abbrev term : Term
  term = term_there.0

  shown : entry.pattern ≡ Number n → slice_get (system_in now c).values n ≡ Some (value.Number lin)
  shown p =
      get_map (λ (x : Entry). value_in c x.pattern) (held c) n entry (f.integer).at
      ∙ ap (λ (v : Value). Some v) (ap (value_in c) p ∙ by-Number (number_at c) (leaf_at c) n ∙ ap (λ (l : Lin). value.Number l) (sym (row_number c n f.row f.there)))

  by_sort : (real : Bool) → IsStated sig now steps real n lin id → IsUnsolvable sig ts steps assumed id
  by_sort true s =
      let sorted : sort_of sig term ≡ Some Real = ap (sort_of sig) (sym (name_term now n term term_there.1)) ∙ (s.written).name in
      let d : Real ≡ Int = sym (patterns.sorts n term Real entry term_there.1 sorted (f.integer).at) ∙ (f.integer).sort in
      absurd (cc d)
  by_sort false s =
      let sorted : sort_of sig term ≡ Some Int = ap (sort_of sig) (sym (name_term now n term term_there.1)) ∙ (s.written).name in
      let pattern : entry.pattern ≡ Number n = patterns.numbers n term Int entry term_there.1 sorted (f.integer).at int_numeric in
      unsolvable sig ts (system_in now c) keeps one arguments values steps assumed n id lin (shown pattern) f.not_whole s rests

  pub held_unsolvable : IsUnsolvable sig ts steps assumed id
  held_unsolvable =
      let s = said.numbers n f.row f.there in
      let same : s.step ≡ id = same_Some s.step id (sym s.just ∙ f.just) in
      by_sort s.real (subst (IsStated sig now steps s.real n lin) same s.stated)
