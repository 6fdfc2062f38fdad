-- In the calculus two terms of one record sort are equal exactly where their fields are.
use Rattle.std.specs.Prelude.{ℕ, zero, suc, ◌+◌, ◌<◌, true, List, [], ◌∷◌, ◌≡◌, ◌↔◌, length, slice_get, Some}
use Rattle.std.proofs.Common.{sym, ap, ◌∙◌, arith}
use Rattle.ae_base.specs.Options.{known}
use Rattle.ae_base.specs.Relations.{Pairwise}
use Rattle.ae_base.proofs.ListFacts.{value_at}
use Rattle.ae_core.specs.Sorts.{sort_of, term_ok}
use Rattle.ae_core.specs.Signatures.{fields_of, IsLawful}
use Rattle.ae_core.proofs.ClosedSorts.{field_sorted}
use Rattle.ae_core.proofs.SortFacts.{same_known_of}
use Rattle.ae_core.specs.declared.problems.Signature.{Signature}
use Rattle.ae_core.specs.declared.problems.TypeEntry.{TypeEntry}
use Rattle.ae_core.specs.declared.problems.FieldEntry.{FieldEntry}
use Rattle.ae_core.specs.declared.problems.Kind.{Kind}
use Rattle.ae_core.specs.declared.problems.Kind.TheVariants.{Abstract, Choices, Fields}
use Rattle.ae_core.specs.declared.terms.Sort.{Sort, Named}
use Rattle.ae_core.specs.declared.terms.Head.TheVariants as head
use Rattle.ae_core.specs.declared.terms.Term.{Term, Apply}
use Rattle.ae_rules.specs.Lines.{equal, fact_ok, Equations, Conseq, HaveSort, fields_from, FollowAll, none, more, by_fields}
use Rattle.ae_rules.proofs.Congruence.{conseq_congruent}

module _ (sig : Signature) (E : Term → Term → Type 0) where
  follow_all : (us vs : List Term) → Pairwise (Conseq sig E) us vs → FollowAll sig (fact_ok sig) (Equations E) us vs
  follow_all [] [] p = none
  follow_all (u ∷ us) (v ∷ vs) p = more p.0 (follow_all us vs p.1)
  follow_all [] (v ∷ vs) p = absurd p
  follow_all (u ∷ us) [] p = absurd p

module _ (sig : Signature) (E : Term → Term → Type 0) (n : ℕ) (ss : List Sort) (e : TypeEntry) (fs : List FieldEntry) (s t : Term) (law : IsLawful sig)
    (at : slice_get sig.types n ≡ Some e) (kind : e.kind ≡ Fields fs) (sorted : HaveSort sig (Named n ss) (equal s t)) where
  entries : fields_of e ≡ fs
  entries = ap (λ (k : Kind). elim k [ Fields fs ↦ fs | Abstract ↦ [] | Choices cs ↦ [] ]) kind

  field_known : (k : ℕ) → k < length fs → term_ok sig (Apply (head.Field n k) ss (s ∷ [])) ≡ true
  field_known k l =
      let f = value_at fs k l in
      ap known (field_sorted sig law n k ss s e f.0 at (ap (λ l. slice_get l k) entries ∙ f.1) sorted.0)

  each_field : Conseq sig E s t → (i k : ℕ) → i + k ≡ length fs → Pairwise (Conseq sig E) (fields_from n ss s i k) (fields_from n ss t i k)
  each_field c i zero h = tt
  each_field c i (suc k) h =
      (conseq_congruent sig E (head.Field n i) ss (s ∷ []) (t ∷ []) (c, tt) (field_known i (omega (arith, h))), each_field c (suc i) k (omega (arith, h)))

  pub equal_by_fields : Conseq sig E s t ↔ Pairwise (Conseq sig E) (fields_from n ss s 0 (length fs)) (fields_from n ss t 0 (length fs))
  equal_by_fields = (
    λ c. each_field c 0 (length fs) (omega arith),
    λ p. by_fields n ss e fs at kind sorted (follow_all sig E (fields_from n ss s 0 (length fs)) (fields_from n ss t 0 (length fs)) p)
        (same_known_of (sort_of sig s) (sort_of sig t) (ap known sorted.0) (sorted.0 ∙ sym sorted.1)),
  )
