-- The sorts of constructors are neither numeric nor records.
use Rattle.std.specs.Prelude.{ℕ, List, [], ◌∷◌, ◌≡◌, map, Option, Some, None}
use Rattle.std.proofs.Common.{refl, sym, ap, ◌∙◌, subst, inl, inr}
use Rattle.std.proofs.lemmas.Option.{same_Some}
use Rattle.ae_base.specs.Options.{◌>>=◌}
use Rattle.ae_core.specs.Putting.{put_sort}
use Rattle.ae_core.proofs.PuttingLaws.{put_named}
use Rattle.ae_core.specs.Signatures.{IsLawful, IsEnumerated}
use Rattle.ae_core.specs.Sorts.{sort_of}
use Rattle.ae_core.specs.declared.terms.Sort.{Sort, Sort-F, Bool as BoolSort, Unit as UnitSort, Named, out-Sort}
use Rattle.ae_core.specs.declared.terms.Sort.TheOpen as sort_layer
use Rattle.ae_core.specs.declared.terms.Sort.TheVariants.{outs-Int, outs-Real, outs-Bool, outs-Unit, outs-Named}
use Rattle.ae_core.specs.declared.terms.Term.{Apply}
use Rattle.ae_core.specs.declared.terms.Head.{Head}
use Rattle.ae_core.specs.declared.terms.Head.TheVariants as head
use Rattle.ae_core.specs.declared.problems.Signature.{Signature}
use Rattle.ae_core.specs.declared.problems.SymbolEntry.{SymbolEntry}
use Rattle.ae_core.specs.declared.problems.TypeEntry.{TypeEntry}
use Rattle.ae_core.specs.declared.problems.Kind.{Kind}
use Rattle.ae_core.specs.declared.problems.Kind.TheVariants.{Abstract, Choices, Fields}
use Rattle.ae_core.specs.declared.problems.Nature.{Nature}
use Rattle.ae_core.specs.declared.problems.Nature.TheVariants.{Free, Ac, Choice}
use Rattle.ae_rules.specs.Lines.{IsNumeric}
use Rattle.ae_rules.specs.Derivations.{IsConstructor}
use Rattle.ae_journal.specs.Systems.{record_fields, fields_of}
use Rattle.ae_journal.specs.Evaluation.{result_sort}
use Rattle.ae_evaluation.proofs.SortFacts.{is_applied, result_is}

-- neither numeric nor a record's
pub record IsBare (sig : Signature) (s : Sort) : Type 0 where
  pub no_number : IsNumeric s → ⊥
  pub no_record : record_fields sig s ≡ None

by_outs : (sig : Signature) (s : Sort) (l : Sort-F Sort) → out-Sort s ≡ l → (l ≡ sort_layer.Int → ⊥) → (l ≡ sort_layer.Real → ⊥) → fields_of sig l ≡ None → IsBare sig s
by_outs sig s l o a b f = record {
  no_number = λ n. elim n [ inl e ↦ a (sym o ∙ ap out-Sort e ∙ outs-Int) | inr e ↦ b (sym o ∙ ap out-Sort e ∙ outs-Real) ];
  no_record = ap (fields_of sig) o ∙ f;
}

by_kind : (k : Kind) (cs : List ℕ) → k ≡ Choices cs → elim k as (λ _. Option (List Sort)) [ Fields fs ↦ Some (map (λ f. put_sort [] f.sort) fs) | Abstract ↦ None | Choices cs ↦ None ] ≡ None
by_kind Abstract cs e = refl
by_kind (Choices ds) cs e = refl
by_kind (Fields fs) cs e = absurd (cc)

enumerated : (sig : Signature) (n : ℕ) → IsEnumerated sig n → IsBare sig (Named n [])
enumerated sig n e =
    by_outs sig (Named n []) (sort_layer.Named n []) (outs-Named n []) (λ z. cc) (λ z. cc)
    (ap (λ (o : Option TypeEntry). o >>= λ e. elim e.kind as (λ _. Option (List Sort)) [ Fields fs ↦ Some (map (λ f. put_sort [] f.sort) fs) | Abstract ↦ None | Choices cs ↦ None ]) e.2 ∙ by_kind (e.0).kind e.1 e.3)

choice_result : (sig : Signature) (e : SymbolEntry) (of place : ℕ) (m : Nature) → m ≡ Choice of place
    → elim m as (λ _. Type 0) [ Free ↦ Unit {0} | Ac ↦ (s : Sort) × (e.args ≡ s ∷ s ∷ []) × (e.result ≡ Some s) | Choice of place ↦ (e.vars ≡ 0) × (e.args ≡ []) × (e.result ≡ Some (Named of [])) × IsEnumerated sig of ]
    → (n : ℕ) × (e.result ≡ Some (Named n [])) × IsEnumerated sig n
choice_result sig e of place Free q h = absurd (cc)
choice_result sig e of place Ac q h = absurd (cc)
choice_result sig e of place (Choice o p) q h = (o, h.2, h.3)

pub constructor_bare : (sig : Signature) → IsLawful sig → (h : Head) (s : Sort) → IsConstructor sig h → sort_of sig (Apply h [] []) ≡ Some s → IsBare sig s
constructor_bare sig lawful (head.Symbol n) s c o =
    let a = is_applied sig (head.Symbol n) [] [] s o in
    let r = result_is sig (head.Symbol n) [] a.args s a.headed in
    let q = choice_result sig c.0 c.1 c.2 (c.0).nature c.4 (lawful.symbols n c.0 c.3).2 in
    let z : ◌≡◌ {A = Option Sort} (Some (put_sort [] (Named q.0 []))) (Some s) =
    sym (ap (λ (o : Option SymbolEntry). o >>= λ e. e.result >>= λ s. Some (put_sort [] s)) c.3 ∙ ap (λ (o : Option Sort). o >>= λ s. Some (put_sort [] s)) q.1) ∙ r in
    subst (IsBare sig) (sym (put_named [] q.0 []) ∙ same_Some (put_sort [] (Named q.0 [])) s z) (enumerated sig q.0 q.2)
constructor_bare sig lawful head.True s c o =
    let a = is_applied sig head.True [] [] s o in
    subst (IsBare sig) (same_Some BoolSort s (result_is sig head.True [] a.args s a.headed)) (by_outs sig BoolSort sort_layer.Bool outs-Bool (λ z. cc) (λ z. cc) refl)
constructor_bare sig lawful head.False s c o =
    let a = is_applied sig head.False [] [] s o in
    subst (IsBare sig) (same_Some BoolSort s (result_is sig head.False [] a.args s a.headed)) (by_outs sig BoolSort sort_layer.Bool outs-Bool (λ z. cc) (λ z. cc) refl)
constructor_bare sig lawful head.Void s c o =
    let a = is_applied sig head.Void [] [] s o in
    subst (IsBare sig) (same_Some UnitSort s (result_is sig head.Void [] a.args s a.headed)) (by_outs sig UnitSort sort_layer.Unit outs-Unit (λ z. cc) (λ z. cc) refl)
constructor_bare sig lawful (head.Build n) s c o = absurd c
constructor_bare sig lawful (head.Field n k) s c o = absurd c
constructor_bare sig lawful (head.Int p) s c o = absurd c
constructor_bare sig lawful (head.Real p) s c o = absurd c

-- the head of a constructor has a result
pub constructor_result : (sig : Signature) → IsLawful sig → (h : Head) → IsConstructor sig h → (s : Sort) × (result_sort sig h [] ≡ Some s)
constructor_result sig lawful (head.Symbol n) c =
    let q = choice_result sig c.0 c.1 c.2 (c.0).nature c.4 (lawful.symbols n c.0 c.3).2 in
    (put_sort [] (Named q.0 []), ap (λ (o : Option SymbolEntry). o >>= λ e. e.result >>= λ s. Some (put_sort [] s)) c.3 ∙ ap (λ (o : Option Sort). o >>= λ s. Some (put_sort [] s)) q.1)
constructor_result sig lawful head.True c = (BoolSort, refl)
constructor_result sig lawful head.False c = (BoolSort, refl)
constructor_result sig lawful head.Void c = (UnitSort, refl)
constructor_result sig lawful (head.Build n) c = absurd c
constructor_result sig lawful (head.Field n k) c = absurd c
constructor_result sig lawful (head.Int p) c = absurd c
constructor_result sig lawful (head.Real p) c = absurd c
