-- A sort that has fields is a record's.
use Rattle.std.specs.Prelude.{ℕ, zero, suc, ◌+◌, ◌<◌, List, [], ◌∷◌, ◌≡◌, map, length, slice_get, Option, Some, None}
use Rattle.std.specs.List.{Contains}
use Rattle.std.proofs.Common.{refl, sym, ap, ◌∙◌, subst, arith}
use Rattle.std.proofs.lemmas.List.{length-map}
use Rattle.ae_base.specs.Options.{or_else, ◌>>=◌}
use Rattle.ae_core.specs.Putting.{put_sort}
use Rattle.ae_core.specs.Signatures.{fields_of}
use Rattle.ae_core.specs.declared.terms.Sort.{Sort, Sort-F, out-Sort}
use Rattle.ae_core.specs.declared.terms.Sort.TheOpen as sort_layer
use Rattle.ae_core.specs.declared.terms.Term.{Term, Apply}
use Rattle.ae_core.specs.declared.terms.Head.TheVariants as head
use Rattle.ae_core.specs.declared.problems.Signature.{Signature}
use Rattle.ae_core.specs.declared.problems.TypeEntry.{TypeEntry}
use Rattle.ae_core.specs.declared.problems.FieldEntry.{FieldEntry}
use Rattle.ae_core.specs.declared.problems.Kind.{Kind}
use Rattle.ae_core.specs.declared.problems.Kind.TheVariants.{Abstract, Choices, Fields}
use Rattle.ae_rules.specs.Lines.{fields_from}
use Rattle.ae_journal.specs.Systems.{record_fields, fields_of as layer_fields}
use Rattle.ae_journal.proofs.Splits.{contains_here, contains_later}
use Rattle.ae_store.specs.Fields.{field_count, count_of}

pub record HasFieldSorts (sig : Signature) (s : Sort) : Type 0 where
  pub sorts : List Sort
  pub are : record_fields sig s ≡ Some sorts
  pub many : field_count sig s ≡ length sorts

module _ (sig : Signature) where
  Counted : Sort-F Sort → Type 0
  Counted o = (ss : List Sort) × (layer_fields sig o ≡ Some ss) × (count_of sig o ≡ length ss)

  by_kind : (n : ℕ) (us : List Sort) (e : TypeEntry) (k : Kind) → slice_get sig.types n ≡ Some e → e.kind ≡ k → (i : ℕ) → i < count_of sig (sort_layer.Named n us) → Counted (sort_layer.Named n us)
  unfolding Counted
  by_kind n us e k at is i lt = by k is
    where
      counted : count_of sig (sort_layer.Named n us) ≡ length (fields_of e)
      counted = ap (λ (o : Option TypeEntry). length (or_else (o >>= λ e. Some (fields_of e)) [])) at

      by : (k : Kind) → e.kind ≡ k → (ss : List Sort) × (layer_fields sig (sort_layer.Named n us) ≡ Some ss) × (count_of sig (sort_layer.Named n us) ≡ length ss)
      by (Fields fs) q = (
        map (λ (f : FieldEntry). put_sort us f.sort) fs,
        ap (λ (o : Option TypeEntry). o >>= λ e. elim e.kind as (λ _. Option (List Sort)) [ Fields fs ↦ Some (map (λ f. put_sort us f.sort) fs) | Abstract ↦ None | Choices cs ↦ None ]) at
            ∙ ap (λ (k : Kind). elim k as (λ _. Option (List Sort)) [ Fields fs ↦ Some (map (λ f. put_sort us f.sort) fs) | Abstract ↦ None | Choices cs ↦ None ]) q,
        counted ∙ ap (λ (k : Kind). length (elim k as (λ _. List FieldEntry) [ Fields fs ↦ fs | Abstract ↦ [] | Choices cs ↦ [] ])) q ∙ sym (length-map fs (λ (f : FieldEntry). put_sort us f.sort)),
      )
      by Abstract q = absurd (let z : count_of sig (sort_layer.Named n us) ≡ 0 = counted ∙ ap (λ (k : Kind). length (elim k as (λ _. List FieldEntry) [ Fields fs ↦ fs | Abstract ↦ [] | Choices cs ↦ [] ])) q in omega (arith, lt, z))
      by (Choices cs) q = absurd (let z : count_of sig (sort_layer.Named n us) ≡ 0 = counted ∙ ap (λ (k : Kind). length (elim k as (λ _. List FieldEntry) [ Fields fs ↦ fs | Abstract ↦ [] | Choices cs ↦ [] ])) q in omega (arith, lt, z))

  by_entry : (n : ℕ) (us : List Sort) (o : Option TypeEntry) → slice_get sig.types n ≡ o → (i : ℕ) → i < count_of sig (sort_layer.Named n us) → Counted (sort_layer.Named n us)
  by_entry n us (Some e) at i lt = by_kind n us e e.kind at refl i lt
  by_entry n us None at i lt =
      absurd (let z : count_of sig (sort_layer.Named n us) ≡ 0 = ap (λ (o : Option TypeEntry). length (or_else (o >>= λ e. Some (fields_of e)) [])) at in omega (arith, lt, z))

  by_layer : (o : Sort-F Sort) (i : ℕ) → i < count_of sig o → Counted o
  by_layer (sort_layer.Named n us) i lt = by_entry n us (slice_get sig.types n) refl i lt
  by_layer (sort_layer.Var j) i lt = absurd (omega (arith, lt))
  by_layer (sort_layer.Rigid j) i lt = absurd (omega (arith, lt))
  by_layer sort_layer.Int i lt = absurd (omega (arith, lt))
  by_layer sort_layer.Real i lt = absurd (omega (arith, lt))
  by_layer sort_layer.Bool i lt = absurd (omega (arith, lt))
  by_layer sort_layer.Unit i lt = absurd (omega (arith, lt))

  pub has_field_sorts : (s : Sort) (i : ℕ) → i < field_count sig s → HasFieldSorts sig s
  unfolding field_count Counted
  has_field_sorts s i lt = let c = by_layer (out-Sort s) i lt in record { sorts = c.0; are = c.1; many = c.2 }

-- a field's term is one of those of all fields
pub in_fields : (n : ℕ) (ss : List Sort) (t : Term) (i k j : ℕ) → j < k → Contains (fields_from n ss t i k) (Apply (head.Field n (i + j)) ss (t ∷ []))
in_fields n ss t i zero j lt = absurd (omega (arith, lt))
in_fields n ss t i (suc k) zero lt =
    subst (λ (m : ℕ). Contains (fields_from n ss t i (suc k)) (Apply (head.Field n m) ss (t ∷ []))) (let e : i ≡ i + 0 = omega arith in e)
    (contains_here (Apply (head.Field n i) ss (t ∷ [])) (fields_from n ss t (suc i) k))
in_fields n ss t i (suc k) (suc j) lt =
    contains_later (Apply (head.Field n i) ss (t ∷ [])) (fields_from n ss t (suc i) k) (Apply (head.Field n (i + suc j)) ss (t ∷ []))
    (subst (λ (m : ℕ). Contains (fields_from n ss t (suc i) k) (Apply (head.Field n m) ss (t ∷ []))) (let e : suc i + j ≡ i + suc j = omega arith in e) (in_fields n ss t (suc i) k j (omega (arith, lt))))
