-- Lines stay in step where the names that came have the values of their terms.
use Rattle.std.specs.Prelude.{ℕ, ◌<◌, ◌≤◌, Bool, true, false, List, ◌≡◌, take, drop, length, slice_get, Some, None}
use Rattle.std.proofs.Common.{refl, sym, ap, ◌∙◌, subst, arith, take-append-drop}
use Rattle.std.proofs.lemmas.List.{length-take-le, length-map, take_all}
use Rattle.std.proofs.lemmas.Option.{same_Some, slice_get_within}
use Rattle.ae_base.proofs.ListFacts.{value_at as there, get_front, get_map}
use Rattle.ae_core.specs.Sorts.{sort_of, is_numeric}
use Rattle.ae_core.specs.declared.terms.Sort.{Sort}
use Rattle.ae_core.specs.declared.terms.Term.{Term}
use Rattle.ae_core.specs.declared.problems.Signature.{Signature}
use Rattle.ae_num.specs.declared.forms.Value.{Value, Leaf, Number}
use Rattle.ae_journal.specs.Values.{meaning}
use Rattle.ae_journal.specs.Systems.{record_fields, own as own_value}
use Rattle.ae_journal.specs.TermValues.{IsLeast}
use Rattle.ae_journal.specs.declared.lines.Line.{Line}
use Rattle.ae_journal.specs.declared.systems.System.{System}
use Rattle.ae_settled.specs.Valued.{AreValues}
use Rattle.ae_store.specs.Stores.{Stored, IsStore}
use Rattle.ae_just.specs.Steps.{Fits}
use Rattle.ae_just.specs.declared.steps.Step.{Step}
use Rattle.ae_patterns.specs.Patterns.{AreEntriesOf}
use Rattle.ae_theory.specs.Names.{terms_in}
use Rattle.ae_name_lines.specs.Closed.{AreClosed}
use Rattle.ae_name_lines.specs.InStep.{AreLineValues, SolvesBelow, is_opaque, HasNewNames}
use Rattle.ae_name_lines.specs.Laws.{NewNamesAreInStep}
use Rattle.ae_name_lines.proofs.MoreNames.{least_names_stay}
use Rattle.ae_name_lines.proofs.NewNames.{own_numbers_are_own, own_leaves_are_own}
use Rattle.ae_name_lines.proofs.Solving.{more_names_keep_solves}
use Rattle.ae_name_lines.proofs.Stores.{stores_are_closed}
use Rattle.ae_rule_lines.specs.Changes.{KeepsLeast}
use Rattle.ae_rule_lines.specs.InStep.{AreRulesInStep}
use Rattle.ae_rule_lines.proofs.OtherLines.{names_keep}
use Rattle.ae_strips.specs.Stripping.{StripsTo}
use Rattle.ae_take_in.specs.Computing.{IsComputed}
use Rattle.ae_value_table.specs.declared.patterns.Entry.{Entry}
use Rattle.ae_value_table.specs.Table.{Contents, own, number_at, leaf_at, value_in, held, values}
use Rattle.ae_value_table.proofs.ValueLaws.{by-Leaf, by-Number}
use Rattle.ae_value_fitting.specs.Fitting.{system_in, ArePatterns, AreSaid}
use Rattle.ae_value_fitting.proofs.Written.{own_means}
use Rattle.ae_state.specs.declared.holding.Holding.{Holding}
use Rattle.ae_state.specs.Names.{all_terms, terms_now, rules_now}
use Rattle.ae_state.specs.Fitting.{FitsStore}
use Rattle.ae_state.specs.Stepping.{equations_now, paired_now, IsInStep}
use Rattle.ae_new_widths.proofs.OpaqueNames.{opaque_free, opaque_own}

module _ (s : Stored) (o : Holding) (fits : FitsStore o s) (all : all_terms o ≡ terms_in s) (store : IsStore s.signature s.nodes) where
  abbrev ts : List Term
  ts = terms_in s

  abbrev olds : List Term
  olds = take o.values.taken ts

  seen : ◌≡◌ {A = Signature × List Term} (o.signature, all_terms o) (s.signature, ts)
  seen = λ i. (sym (fits.terms).signature i, all i)

  taken_within : o.values.taken ≤ length ts
  taken_within = let e = ap length all in omega (arith, ((fits.right)).within, ((fits.right).entries).within, e)

  -- ---- what is held of the old names
  pub old_closed : AreClosed s.signature olds
  old_closed = subst (λ (z : Signature × List Term). AreClosed z.0 (take o.values.taken z.1)) seen (fits.right).closed

  pub old_lines : (js : List Line) → IsInStep o js → AreLineValues s.signature olds (values o.values) js
  old_lines js i = subst (λ (z : Signature × List Term). AreLineValues z.0 (take o.values.taken z.1) (values o.values) js) seen i.valued

  pub old_values : AreValues s.signature (system_in olds o.values)
  old_values = subst (λ (z : Signature × List Term). AreValues z.0 (system_in (take o.values.taken z.1) o.values)) seen (fits.right).valued

  pub old_said : AreSaid s.signature olds o.justs o.values
  old_said = subst (λ (z : Signature × List Term). AreSaid z.0 (take o.values.taken z.1) o.justs o.values) seen (fits.right).said

  pub old_entries : AreEntriesOf s.signature ts o.values.entries
  old_entries = subst (λ (z : Signature × List Term). AreEntriesOf z.0 z.1 o.values.entries) seen (fits.right).entries

  pub old_steps : Fits s.signature ts o.justs
  old_steps = subst (λ (z : Signature × List Term). Fits z.0 z.1 o.justs) seen (fits.right).steps

  -- ---- all names
  module _ (c : Contents) (steps : List Step) (done : c.taken ≡ length ts) (patterns : ArePatterns s.signature ts (held c)) (valued : AreValues s.signature (system_in (take c.taken ts) c))
      (kept : (n : ℕ) (v : Value) → slice_get (values o.values) n ≡ Some v → slice_get (values c) n ≡ Some v)
      (free : (n : ℕ) → o.values.taken ≤ n → n < length ts → (IsComputed ts n → ⊥) → StripsTo ts n n → (number_at c n ≡ own n) × (leaf_at c n ≡ n)) (law : NewNamesAreInStep) where
    abbrev q : Holding
    q = record o { values = c; justs = steps }

    all_front : take c.taken ts ≡ ts
    all_front = take_all c.taken ts (omega (arith, done))

    pub all_now : terms_now q ≡ ts
    all_now = ap (take c.taken) all ∙ all_front

    abbrev y : System
    y = system_in ts c

    all_valued : AreValues s.signature y
    all_valued = subst (λ (us : List Term). AreValues s.signature (system_in us c)) all_front valued

    closed : AreClosed s.signature ts
    closed = stores_are_closed s.signature s.nodes store

    -- a new name that nothing computes is its own value
    own_by : (n : ℕ) (t : Term) (r : Sort) (v : Value) (e : Entry) → slice_get ts n ≡ Some t → sort_of s.signature t ≡ Some r → record_fields s.signature r ≡ None → slice_get (held c) n ≡ Some e
        → v ≡ value_in c e.pattern → number_at c n ≡ own n → leaf_at c n ≡ n → (b : Bool) → is_numeric r ≡ b → meaning v ≡ own_value r n
    own_by n t r v e at sorted plain there is number leaf true m =
        ap meaning (is ∙ ap (value_in c) (patterns.numbers n t r e at sorted there m) ∙ by-Number (number_at c) (leaf_at c) n ∙ ap Number number) ∙ own_numbers_are_own r n (own n) m (own_means n)
    own_by n t r v e at sorted plain there is number leaf false m =
        ap meaning (is ∙ ap (value_in c) (patterns.others n t r e at sorted there m plain) ∙ by-Leaf (number_at c) (leaf_at c) n ∙ ap Leaf leaf) ∙ own_leaves_are_own r n m

    new_own : (n : ℕ) (t : Term) (r : Sort) (v : Value) → length olds ≤ n → slice_get ts n ≡ Some t → is_opaque t ≡ true → sort_of s.signature t ≡ Some r → record_fields s.signature r ≡ None
        → slice_get (values c) n ≡ Some v → meaning v ≡ own_value r n
    new_own n t r v l at q_opaque sorted plain value =
        let old : o.values.taken ≤ n = omega (arith, l, length-take-le o.values.taken ts taken_within) in
        let f = free n old (slice_get_within ts n t at) (opaque_free ts n t at q_opaque) (opaque_own s.signature s.nodes store closed n t at q_opaque) in
        let e = there (held c) n (omega (arith, slice_get_within (values c) n v value, length-map (held c) (λ (d : Entry). value_in c d.pattern))) in
        own_by n t r v e.0 at sorted plain e.1 (same_Some v (value_in c (e.0).pattern) (sym value ∙ get_map (λ (d : Entry). value_in c d.pattern) (held c) n e.0 e.1)) f.0 f.1 (is_numeric r) refl

    news : HasNewNames s.signature olds (values o.values) y
    news = record {
      more = drop o.values.taken ts;
      names = sym (take-append-drop o.values.taken ts);
      one_each = old_values.one_each;
      kept = kept;
      new = new_own;
    }

    module _ (js : List Line) (i : IsInStep o js) where
      below : SolvesBelow (length olds) js
      below = subst (λ (k : ℕ). SolvesBelow k js) (sym (length-take-le o.values.taken ts taken_within)) i.solved

      new_lines : AreLineValues s.signature ts (values c) js
      new_lines = law s.signature olds (values o.values) y js store.lawful old_closed closed all_valued news below (old_lines js i)

      keeps_least : KeepsLeast s.signature olds ts js
      keeps_least before after n r is h =
          subst (λ (us : List Term). IsLeast s.signature us before n r) (take-append-drop o.values.taken ts) (least_names_stay s.signature olds (drop o.values.taken ts) before n r old_closed h)

      rules_step : AreRulesInStep s.signature ts js (rules_now o) (paired_now o) (equations_now o)
      rules_step =
          names_keep s.signature olds ts js (rules_now o) (paired_now o) (equations_now o) (λ k t e. (get_front ts o.values.taken k t e).0) keeps_least
          (subst (λ (z : Signature × List Term). AreRulesInStep z.0 (take o.values.taken z.1) js (rules_now o) (paired_now o) (equations_now o)) seen i.ruled)

      same : ◌≡◌ {A = Signature × List Term} (s.signature, ts) (o.signature, terms_now q)
      same = λ k. ((fits.terms).signature k, sym all_now k)

      pub step_now : IsInStep q js
      step_now =
          record {
            valued = subst (λ (z : Signature × List Term). AreLineValues z.0 z.1 (values c) js) same new_lines;
            solved = more_names_keep_solves o.values.taken c.taken js (omega (arith, taken_within, done)) i.solved;
            ruled = subst (λ (z : Signature × List Term). AreRulesInStep z.0 z.1 js (rules_now o) (paired_now o) (equations_now o)) same rules_step;
          }
