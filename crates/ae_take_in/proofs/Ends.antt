-- Before and after all names are taken in.
use Rattle.std.specs.Prelude.{ℕ, ◌<◌, ◌≤◌, ◌≡◌, ◌⊎◌, List, [], length, map, take, slice_get, Some, Result, Ok, Err, OnOk, OnErr, IfErr}
use Rattle.std.proofs.Common.{refl, sym, ap, ◌∙◌, subst, arith, inl, inr}
use Rattle.std.proofs.lemmas.List.{length-take-le, take_all, take-append-le}
use Rattle.std.proofs.lemmas.Result.{on_ok_weaker, on_err_weaker}
use Rattle.ae_base.proofs.ListFacts.{get_append}
use Rattle.ae_core.specs.declared.terms.Term.{Term}
use Rattle.ae_core.specs.declared.problems.Signature.{Signature}
use Rattle.ae_num.specs.declared.forms.Value.{Value}
use Rattle.ae_linear.specs.Rows.{row_at}
use Rattle.ae_pmap.specs.Forest.{present}
use Rattle.ae_journal.specs.declared.answers.WideAt.{WideAt}
use Rattle.ae_journal.specs.declared.systems.System.{System}
use Rattle.ae_settled.specs.Valued.{AreValues}
use Rattle.ae_store.specs.declared.nodes.Node.{Node}
use Rattle.ae_store.specs.Growing.{IsFront}
use Rattle.ae_store.specs.Parts.{IsIn}
use Rattle.ae_store.specs.Shapes.{shapes}
use Rattle.ae_store.specs.Terms.{terms}
use Rattle.ae_store.specs.Stores.{IsStore}
use Rattle.ae_just.specs.Steps.{Fits}
use Rattle.ae_just.specs.declared.steps.Step.{Step}
use Rattle.ae_value_table.specs.declared.patterns.Entry.{Entry}
use Rattle.ae_value_table.specs.Table.{Contents, held, number_at, leaf_at, value_in, values}
use Rattle.ae_value_table.specs.Versions.{IsAs}
use Rattle.ae_value_table.proofs.Versioning.{values_as}
use Rattle.ae_value_fitting.specs.declared.refusals.Refused.{Refused}
use Rattle.ae_value_fitting.specs.Fitting.{system_in, ArePatterns, AreSaid}
use Rattle.ae_value_fitting.specs.Refusals.{IfNumber}
use Rattle.ae_value_fitting.specs.Sources.{SaysValue, AreFromValues}
use Rattle.ae_value_fitting.proofs.Resting.{rests_still, says_within}
use Rattle.ae_patterns.specs.Patterns.{AreEntriesOf}
use Rattle.ae_entering.specs.Firsts.{system_by, AreFirst}
use Rattle.ae_entering.specs.Laws.{EntriesFit, ValuesAreFirst, FirstsAreValues}
use Rattle.ae_take_in.proofs.Resting.{said_longer}
use Rattle.ae_take_in.specs.TakingWidths.{IsTakingWidth}
use Rattle.ae_take_in.specs.Inner.Next.{AreBelow}
use Rattle.ae_take_in.specs.Inner.Taking.{IsOwnIfFree, AreTakenTo}
use Rattle.ae_take_in.proofs.Widths.{if_number}
use Rattle.ae_take_in.proofs.Kept.{values_kept}
use Rattle.ae_take_in.proofs.Fronts.{same_as, numbers_same, leaves_same, said_same, says_same, entries_front, below_entered, said_entered}

-- what is the same anyway is so after a refusal
pub same_refused : {T E : Type 0} (r : Result T E) (c d : Contents) → IsAs c d → OnErr r (IsAs c d)
same_refused (Ok x) c d a = tt
same_refused (Err e) c d a = a

-- by what holds after an answer, and after a refusal
both_results : {T E A B C P : Type 0} (r : Result T E) → OnOk r A → OnOk r B → OnErr r C → (A → B → P) → (C → P) → P
both_results (Ok x) a b c f g = f a b
both_results (Err e) a b c f g = g c

-- ---- where more is known of names for good
module _ (c : Contents) (inside : c.taken ≤ length c.entries) (d : Contents) (others : d ≡ record c { entries = d.entries }) (front : IsFront c.entries d.entries) where
  entered_as : IsAs (record c { entries = d.entries }) c
  entered_as = record { names = ap (take c.taken) front.1 ∙ take-append-le c.taken c.entries front.0 inside; rows = λ n. refl; leaves = refl; justs = refl; taken = refl }

  pub as_before : IsAs d c
  as_before = record {
    names = ap (λ (x : Contents). held x) others ∙ entered_as.names;
    rows = λ n. ap (λ (x : Contents). row_at x.rows n) others;
    leaves = ap (λ (x : Contents). present x.leaves) others;
    justs = ap (λ (x : Contents). present x.justs) others;
    taken = ap (λ (x : Contents). x.taken) others;
  }

  module _ (sig : Signature) (nodes : List Node) (store : IsStore sig nodes) (entries : AreEntriesOf sig (terms (shapes nodes)) c.entries) where
    abbrev ts : List Term
    ts = terms (shapes nodes)

    first_held : ValuesAreFirst → AreValues sig (system_in (take c.taken ts) c) → AreFirst sig ts c.taken (number_at c) (leaf_at c)
    first_held law are =
        let es = held c in
        let len : length es ≡ c.taken = length-take-le c.taken c.entries inside in
        subst (λ (t : ℕ). AreFirst sig ts t (number_at c) (leaf_at c)) len
        (law sig nodes es (number_at c) (leaf_at c) store (entries_front sig ts c.entries c.taken inside entries)
        (subst (λ (t : ℕ). AreValues sig (system_by (take t ts) es (number_at c) (leaf_at c))) (sym len) are))

    pub first_entered : ValuesAreFirst → AreValues sig (system_in (take c.taken ts) c) → AreFirst sig ts d.taken (number_at d) (leaf_at d)
    first_entered law are = subst (λ (x : Contents). AreFirst sig ts x.taken (number_at x) (leaf_at x)) (sym others) (first_held law are)

  pub below_before : (sig : Signature) (ts : List Term) (js : List Step) → AreSaid sig (take c.taken ts) js c → AreBelow d.taken d
  below_before sig ts js said = subst (λ (x : Contents). AreBelow x.taken x) (sym others) (below_entered sig ts c.taken js c said d.entries)

  pub said_before : (sig : Signature) (ts : List Term) (js : List Step) → AreSaid sig (take c.taken ts) js c → AreSaid sig ts js d
  said_before sig ts js said = subst (AreSaid sig ts js) (sym others) (said_entered sig ts c.taken js c said d.entries)

pub as_through : (a b c : Contents) → IsAs c b → IsAs b a → IsAs c a
as_through a b c g f = record { names = g.names ∙ f.names; rows = λ n. g.rows n ∙ f.rows n; leaves = g.leaves ∙ f.leaves; justs = g.justs ∙ f.justs; taken = g.taken ∙ f.taken }

-- ---- where the same is held
module _ (c d : Contents) (same : IsAs d c) (sig : Signature) (ts : List Term) where
  pub width_again : (w : WideAt) → IsTakingWidth sig ts d w → IsTakingWidth sig ts c w
  width_again w h = record {
    name = h.name;
    within = h.within;
    number = h.number;
    leaf = h.leaf;
    first = h.first;
    kept = λ k l. (
        let p = h.kept k (subst (λ (t : ℕ). k < t) (sym same.taken) l) in
        (p.0 ∙ numbers_same c d (same_as c d same) k, p.1 ∙ leaves_same c d (same_as c d same) k));
    free = λ k l. h.free k (subst (λ (t : ℕ). t ≤ k) (sym same.taken) l);
    wide = h.wide;
  }

  pub sources_before : (js ks : List Step) (e : Contents) → AreFromValues js ks d e [] → AreFromValues js ks c e []
  sources_before js ks e from = record {
    each = λ id v. record {
      each = λ k tag s q at is. (let w = (from.each id v).each k tag s q at is in record { by = w.by; one = by_one w.by w.one; rests = w.rests; there = w.there });
    };
  }
    where
      by_one : (by : ℕ) → IsIn by [] ⊎ SaysValue d by → IsIn by [] ⊎ SaysValue c by
      by_one by (inl i) = inl i
      by_one by (inr v) = inr (says_same c d (same_as c d same) by v)

  pub values_kept_again : (n : ℕ) (v : Value) → slice_get (values c) n ≡ Some v → slice_get (values d) n ≡ Some v
  values_kept_again n v at = ap (λ (vs : List Value). slice_get vs n) (values_as d c same) ∙ at

  pub values_again : AreValues sig (system_in (take c.taken ts) c) → AreValues sig (system_in (take d.taken ts) d)
  values_again are =
      let t : c.taken ≡ d.taken = sym same.taken in
      let v : values c ≡ values d = sym (values_as d c same) in
      let p : ◌≡◌ {A = System} (system_in (take c.taken ts) c) (system_in (take d.taken ts) d) = λ i. record { names = take (t i) ts; values = v i; rules = [] } in
      subst (AreValues sig) p are

  module _ (js ks : List Step) (front : IsFront js ks) where
    pub said_again : AreSaid sig (take c.taken ts) js c → AreSaid sig (take d.taken ts) ks d
    said_again said =
        subst (λ (t : ℕ). AreSaid sig (take t ts) ks d) (sym same.taken) (said_same c d (same_as c d same) sig (take c.taken ts) ks (said_longer sig (take c.taken ts) js ks front c said))

    pub sources_again : Fits sig ts ks → AreSaid sig ts js c → AreFromValues js ks c d []
    sources_again fits said = record {
      each = λ id v. (let w : SaysValue c id = says_same c d (same_as c d same) id v in rests_still sig ts js ks front fits c [] id (says_within sig ts js c said id w) (inr w));
    }

-- ---- where all names are taken in
module _ (sig : Signature) (nodes : List Node) (store : IsStore sig nodes) (d : Contents) (entries : AreEntriesOf sig (terms (shapes nodes)) d.entries)
    (all : length d.entries ≡ length (terms (shapes nodes))) (taken : d.taken ≡ length (terms (shapes nodes))) where
  abbrev us : List Term
  us = terms (shapes nodes)

  all_terms : take d.taken us ≡ us
  all_terms = take_all d.taken us (omega (arith, taken))

  all_entries : held d ≡ d.entries
  all_entries = take_all d.taken d.entries (omega (arith, taken, all))

  pub all_values : FirstsAreValues → AreFirst sig us (length us) (number_at d) (leaf_at d) → AreValues sig (system_in (take d.taken us) d)
  all_values law first =
      let p : ◌≡◌ {A = System} (system_by us d.entries (number_at d) (leaf_at d)) (system_in (take d.taken us) d) =
      λ i. record { names = sym all_terms i; values = map (λ (e : Entry). value_in d e.pattern) (sym all_entries i); rules = [] } in
      subst (AreValues sig) p (law sig nodes d.entries (number_at d) (leaf_at d) store entries all first)

  pub all_patterns : EntriesFit → ArePatterns sig us (held d)
  all_patterns law = subst (ArePatterns sig us) (sym all_entries) (law sig nodes d.entries store entries all)

  pub all_said : (ks : List Step) → AreSaid sig us ks d → AreSaid sig (take d.taken us) ks d
  all_said ks said = subst (λ (ws : List Term). AreSaid sig ws ks d) (sym all_terms) said

-- ---- after all
module _ {T E : Type 0} (r : Result T E) (sig : Signature) (nodes : List Node) (store : IsStore sig nodes) (c d e : Contents) (same : IsAs d c) (js ks : List Step) (front : IsFront js ks)
    (entries : AreEntriesOf sig (terms (shapes nodes)) e.entries) (full : length e.entries ≡ length (terms (shapes nodes)))
    (taken : OnOk r (AreTakenTo sig (terms (shapes nodes)) js ks d e d.taken (length (terms (shapes nodes))))) (all : OnOk r (e.taken ≡ length (terms (shapes nodes)))) (err : OnErr r (IsAs e d)) where
  abbrev ws : List Term
  ws = terms (shapes nodes)

  pub final_patterns : EntriesFit → OnOk r (ArePatterns sig ws (held e))
  final_patterns law = on_ok_weaker r (λ a. all_patterns sig nodes store e entries full a law) all

  pub final_values : FirstsAreValues → AreValues sig (system_in (take c.taken ws) c) → AreValues sig (system_in (take e.taken ws) e)
  final_values law are = both_results r taken all err (λ t a. all_values sig nodes store e entries full a law t.first) (λ back. values_again c e (as_through c d e back same) sig ws are)

  pub final_said : AreSaid sig (take c.taken ws) js c → AreSaid sig (take e.taken ws) ks e
  final_said said = both_results r taken all err (λ t a. all_said sig nodes store e entries full a ks t.said) (λ back. said_again c e (as_through c d e back same) sig ws js ks front said)

  pub final_sources : Fits sig ws ks → AreSaid sig ws js c → AreFromValues js ks c e []
  final_sources fits said = both_results r taken taken err (λ t u. sources_before c d same sig ws js ks e t.sources) (λ back. sources_again c e (as_through c d e back same) sig ws js ks front fits said)

  pub final_kept : (n : ℕ) → n < c.taken → (number_at e n ≡ number_at c n) × (leaf_at e n ≡ leaf_at c n)
  final_kept n l =
      both_results r taken taken err
      (λ t u. (let p = t.kept n (subst (λ (k : ℕ). n < k) (sym same.taken) l) in (p.0 ∙ numbers_same c d (same_as c d same) n, p.1 ∙ leaves_same c d (same_as c d same) n)))
      (λ back. (let s = same_as c e (as_through c d e back same) in (numbers_same c e s n, leaves_same c e s n)))

  pub final_values_kept : c.taken ≤ length c.entries → AreEntriesOf sig ws c.entries → IsFront c.entries e.entries → AreValues sig (system_in (take c.taken ws) c)
      → (n : ℕ) (v : Value) → slice_get (values c) n ≡ Some v → slice_get (values e) n ≡ Some v
  final_values_kept inside known grown are n v at =
      both_results r taken all err
      (λ t a. (
      let w : length c.entries ≤ length ws = known.within in
      let l : c.taken ≤ length ws = omega (arith, inside, w) in
      values_kept sig ws store.sound.one_name c e l are (λ k i. (final_kept k i).0) (λ k i. (final_kept k i).1) known (omega (arith, l, a)) (omega (arith, a, full))
      (λ k x there. ap (λ (es : List Entry). slice_get es k) grown.1 ∙ get_append c.entries grown.0 k x there) n v at))
      (λ back. values_kept_again c e (as_through c d e back same) sig ws n v at)

  pub final_own : OnOk r ((n : ℕ) → c.taken ≤ n → n < length ws → IsOwnIfFree ws e n)
  final_own = on_ok_weaker r (λ t n f l. t.free n (subst (λ (k : ℕ). k ≤ n) (sym same.taken) f) l) taken

  pub final_err : OnErr r (IsAs e c)
  final_err = on_err_weaker r (λ back. as_through c d e back same) err

pub if_wide : {T : Type 0} {P Q : WideAt → Type 0} (r : Result T Refused) → ((w : WideAt) → P w → Q w) → IfErr r (λ x. IfNumber x P) → IfErr r (λ x. IfNumber x Q)
if_wide (Ok x) f h = tt
if_wide (Err e) f h = if_number e f h
