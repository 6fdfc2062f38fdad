-- The depth of a sort is enough for its fields, and theirs: in a system without names a new constant of a record sort has a list of fields as its value, and so have its fields of record sort.
use Rattle.std.specs.Prelude.{ℕ, zero, suc, ◌+◌, ◌<◌, Bool, true, false, cond, List, [], ◌∷◌, ◌≡◌, length, slice_get, Option, Some, None}
use Rattle.std.specs.List.{AllByRecursion}
use Rattle.std.proofs.Common.{refl, sym, ap, ◌∙◌, arith}
use Rattle.std.proofs.lemmas.List.{length-map}
use Rattle.std.proofs.lemmas.Option.{same_Some, none-some, slice_get_within}
use Rattle.ae_base.specs.Options.{or_else, only, when}
use Rattle.ae_base.proofs.AllOf.{all_from_places}
use Rattle.ae_base.proofs.ListFacts.{value_at as there, get_map}
use Rattle.ae_core.specs.Putting.{put_sort}
use Rattle.ae_core.specs.Signatures.{IsLawful, fields_of}
use Rattle.ae_core.specs.Sorts.{sort_of, is_closed_sort, is_numeric}
use Rattle.ae_core.proofs.ClosedSorts.{sort_closed, field_sorted}
use Rattle.ae_core.proofs.Recursion.{para_fresh, para_apply}
use Rattle.ae_core.proofs.SortLaws.{sort_in_fresh}
use Rattle.ae_core.specs.declared.terms.Sort.{Sort, Named, out-Sort}
use Rattle.ae_core.specs.declared.terms.Term.{Term, Num, Fresh, Apply}
use Rattle.ae_core.specs.declared.terms.Head.TheVariants as head
use Rattle.ae_core.specs.declared.problems.Signature.{Signature}
use Rattle.ae_core.specs.declared.problems.FieldEntry.{FieldEntry}
use Rattle.ae_core.specs.declared.problems.Kind.{Kind}
use Rattle.ae_core.specs.declared.problems.Kind.TheVariants.{Abstract, Choices, Fields}
use Rattle.ae_rules.specs.Instances.{choices_of}
use Rattle.ae_journal.specs.Values.{Val, Vals, leaf, fields, once, vals, val_at, nothing}
use Rattle.ae_journal.specs.Systems.{IsCompleted, own, record_fields}
use Rattle.ae_journal.specs.Keys.{Key, constant, place}
use Rattle.ae_journal.specs.Evaluation.{ev, ev_step, each_place, chooses, first_value, new_leaf, new_at, field_at, depth_of}
use Rattle.ae_journal.specs.Evaluate.{value, reduced_by, unassigned, plainly}
use Rattle.ae_journal.specs.Inner.Numbering.{numbering}
use Rattle.ae_journal.specs.declared.systems.System.{System}
use Rattle.ae_evaluation.specs.Shapes.{IsRecordValue, RecordsAreLists}
use Rattle.ae_store.proofs.FieldLaws.{named_back}
use Rattle.ae_settled.proofs.Sorts.{is_record}

-- so many levels of fields are enough for a sort
abbrev pub IsDeep : Signature → ℕ → Sort → Type 0
IsDeep sig zero s = record_fields sig s ≡ None
IsDeep sig (suc d) s = (ss : List Sort) → record_fields sig s ≡ Some ss → AllByRecursion (IsDeep sig d) ss

-- ---- a system without names
abbrev nobody : System
nobody = record { names = []; values = []; rules = [] }

completed : (sig : Signature) → IsCompleted sig nobody
completed sig = record {
  values = refl;
  sorted = λ n t e. absurd (none-some t e);
  apart = λ m n t e f. absurd (none-some t e);
  subterms = λ n h ss us e. absurd (none-some (Apply h ss us) e);
  field_names = λ n t s ss e o f. absurd (none-some t e);
  normal = λ n v e. absurd (none-some v e);
  over = λ s v n h. absurd (none-some h.term h.is);
  predicate_value = λ n t e p. absurd (none-some t e);
  numeral = λ n a b r e. absurd (none-some (Num a b r) e);
  computed = λ n h ss us vs v e q l. absurd (none-some (Apply h ss us) e);
  record_value = λ n t s ss e o f. absurd (none-some t e);
  written = λ n k i ss us u v e at h. absurd (none-some u h.1);
  congruent = λ m n h ss us ws vs s e f o p q. absurd (none-some (Apply h ss us) e);
  rules_fit = λ k r e. absurd (none-some r e);
  left_reduced = λ j k r q d e f same. absurd (none-some r e);
  right_reduced = λ j k r q e f same. absurd (none-some r e);
  overlaps = λ h ss l q m r a b d x i j. absurd (none-some _ a.1);
  joins = λ n h ss a b p q r e j u v w. absurd (none-some (Apply h ss (a ∷ b ∷ [])) e);
}

-- ---- the values of new constants and of their fields
place_at : (g : Sort → Key → Val) (ss : List Sort) (j : ℕ) (k : Key) (i : ℕ) (s : Sort) → slice_get ss i ≡ Some s → val_at (each_place g j ss k) i ≡ Some (g s (place k (j + i)))
place_at g [] j k i s e = absurd (none-some s e)
place_at g (r ∷ ss) j k zero s e =
    let z : j ≡ j + 0 = omega arith in
    ap (λ (o : Sort). Some (g o (place k j))) (same_Some r s e) ∙ ap (λ (n : ℕ). Some (g s (place k n))) z
place_at g (r ∷ ss) j k (suc i) s e =
    let z : suc j + i ≡ j + suc i = omega arith in
    place_at g ss (suc j) k i s e ∙ ap (λ (n : ℕ). Some (g s (place k n))) z

no_list : (b : Bool) (n : ℕ) (ws : Vals) → cond b (once n) (leaf n) ≡ fields ws → ⊥
no_list true n ws e = cc e
no_list false n ws e = cc e

module _ (sig : Signature) where
  abbrev worth : Term → Val
  worth = value sig nobody plainly unassigned

  abbrev made : ℕ → Sort → Key → Val
  made = new_at sig nobody numbering (reduced_by nobody) plainly

  constant_worth : (n : ℕ) (s : Sort) → value sig nobody plainly unassigned (Fresh n s) ≡ new_at sig nobody numbering (reduced_by nobody) plainly (depth_of sig s) s (constant n s)
  unfolding ev
  constant_worth n s = para_fresh Val (ev_step sig nobody numbering (reduced_by nobody) plainly unassigned) n s

  field_worth : (k i : ℕ) (us : List Sort) (t : Term) → value sig nobody plainly unassigned (Apply (head.Field k i) us (t ∷ []))
      ≡ field_at sig nobody numbering (reduced_by nobody) plainly (value sig nobody plainly unassigned t) i
  unfolding ev
  field_worth k i us t = para_apply Val (ev_step sig nobody numbering (reduced_by nobody) plainly unassigned) (head.Field k i) us (t ∷ [])

  single_made : (s : Sort) (k : Key) → chooses sig nobody numbering (reduced_by nobody) plainly k ≡ false → made zero s k ≡ own s (new_leaf sig nobody numbering (reduced_by nobody) plainly k)
  single_made s k c =
      ap (λ b. or_else (only b (first_value sig nobody numbering (reduced_by nobody) plainly (choices_of sig (out-Sort s)))) (own s (new_leaf sig nobody numbering (reduced_by nobody) plainly k))) c

  module _ (lawful : IsLawful sig) (lists : RecordsAreLists) where
    is_list : (t : Term) (s : Sort) (ss : List Sort) → sort_of sig t ≡ Some s → record_fields sig s ≡ Some ss → IsRecordValue ss (value sig nobody plainly unassigned t)
    is_list t s ss o f = lists sig nobody lawful (completed sig) plainly unassigned (λ n r v e. absurd (none-some v e)) t s ss o f

    record IsMade (d : ℕ) (s : Sort) : Type 0 where
      term : Term
      key : Key
      sort : sort_of sig term ≡ Some s
      plain : chooses sig nobody numbering (reduced_by nobody) plainly key ≡ false
      is : value sig nobody plainly unassigned term ≡ new_at sig nobody numbering (reduced_by nobody) plainly d s key

    flat_by : (s : Sort) (q : Option (List Sort)) → record_fields sig s ≡ q → IsMade zero s → record_fields sig s ≡ None
    flat_by s None f m = f
    flat_by s (Some ss) f m =
        let l = is_list m.term s ss m.sort f in
        absurd (no_list (is_numeric s) (new_leaf sig nobody numbering (reduced_by nobody) plainly m.key) (vals l.0) (sym (single_made s m.key m.plain) ∙ sym m.is ∙ l.1))

    -- the field in a place is made with a level less
    field_made : (d : ℕ) (s : Sort) (ss : List Sort) → record_fields sig s ≡ Some ss → IsMade (suc d) s → (i : ℕ) (o : Sort) → slice_get ss i ≡ Some o → IsMade d o
    field_made d s ss f m i o e =
        let r = is_record sig s ss f in
        let named : Named r.type r.sorts ≡ s = named_back s r.type r.sorts r.out in
        let l : i < length r.fields = let a = slice_get_within ss i o e in let b = ap length r.are ∙ length-map r.fields (λ (g : FieldEntry). put_sort r.sorts g.sort) in omega (arith, a, b) in
        let g = there r.fields i l in
        let at : slice_get (fields_of r.entry) i ≡ Some g.0 = ap (λ (k : Kind). slice_get (elim k as (λ _. List FieldEntry) [ Fields fs ↦ fs | Abstract ↦ [] | Choices cs ↦ [] ]) i) r.kind ∙ g.1 in
        let same : put_sort r.sorts (g.0).sort ≡ o = same_Some (put_sort r.sorts (g.0).sort) o (sym (get_map (λ (g : FieldEntry). put_sort r.sorts g.sort) r.fields i g.0 g.1) ∙ ap (λ (os : List Sort). slice_get os i) (sym r.are) ∙ e) in
        let whole : value sig nobody plainly unassigned m.term ≡ fields (each_place (made d) 0 ss m.key) =
        m.is ∙ ap (λ (q : Option (List Sort)). elim q as (λ _. Val) [ None ↦ made zero s m.key | Some os ↦ fields (each_place (made d) 0 os m.key) ]) f in
        record {
          term = Apply (head.Field r.type i) r.sorts (m.term ∷ []);
          key = place m.key (0 + i);
          sort = field_sorted sig lawful r.type i r.sorts m.term r.entry g.0 r.at at (m.sort ∙ ap (λ (p : Sort). Some p) (sym named)) ∙ ap (λ (p : Sort). Some p) same;
          plain = m.plain;
          is = field_worth r.type i r.sorts m.term ∙ ap (λ (v : Val). field_at sig nobody numbering (reduced_by nobody) plainly v i) whole
              ∙ ap (λ (q : Option Val). or_else q nothing) (place_at (made d) ss 0 m.key i o e);
        }

    enough : (d : ℕ) (s : Sort) → IsMade d s → IsDeep sig d s
    enough zero s m = flat_by s (record_fields sig s) refl m
    enough (suc d) s m = λ ss f. all_from_places (IsDeep sig d) ss (λ i o e. enough d o (field_made d s ss f m i o e))

    -- the sort of a closed term
    pub deep_enough : (t : Term) (s : Sort) → sort_of sig t ≡ Some s → IsDeep sig (depth_of sig s) s
    deep_enough t s o =
        enough (depth_of sig s) s
        (record {
          term = Fresh 0 s;
          key = constant 0 s;
          sort = sort_in_fresh sig (is_closed_sort sig) [] 0 s ∙ ap (λ b. when b s) (sort_closed sig lawful t s o);
          plain = refl;
          is = constant_worth 0 s;
        })
