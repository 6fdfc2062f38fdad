-- From a typed file to the answer: its problem, or why it has none.
use Rattle.std.proofs.Common.{◌≡◌, ◌∙◌, ℕ, List, Option, Some, None, map, refl, sym, ap}
use Rattle.std.specs.Option.{option_map}
use Rattle.std.proofs.lemmas.Option.{none-some}
use Rattle.ae_base.proofs.Options.{mapped_some}
use Rattle.ae_core.specs.declared.problems.Problem.{Problem}
use Rattle.ae_elab.specs.Conditions.{IsPrincipal, shown}
use Rattle.ae_elab.specs.Declarations.{Draft, conditions_of, declared_by}
use Rattle.ae_elab.specs.Problems.{IsTyped, IsTooLarge, first_large, item_of}
use Rattle.ae_elab.specs.declared.faults.TypeFault.{TypeFault}
use Rattle.ae_elab.specs.declared.faults.TypeFault.TheVariants as fault
use Rattle.ae_elaborate.specs.Faults.{IsFault}
use Rattle.ae_elaborate.specs.Inner.Typed.{IsLarge, IsLargeAt, IsProblemOf, drafts_of, large_place, typing_of}
use Rattle.ae_file_typing.specs.Files.{IsUntyped}
use Rattle.ae_file_typing.specs.declared.files.TypedFile.{TypedFile}
use Rattle.ae_syntax.specs.declared.decls.File.{File}
use Rattle.ae_syntax.specs.declared.spans.Span.{Span}

-- ---- the first that is too large, by its place
none_mapped : {A B : Type 0} (f : A → B) (o : Option A) → option_map f o ≡ None → o ≡ None
none_mapped f None h = refl
none_mapped f (Some x) h = absurd (none-some (f x) (sym h))

module _ (text : List ℕ) (t : TypedFile) where
  pub none_large : large_place (shown (typing_of t)) (drafts_of text t) ≡ None → first_large (shown (typing_of t)) (drafts_of text t) ≡ None
  none_large h = none_mapped (λ (d : Draft). d.place) (first_large (shown (typing_of t)) (drafts_of text t)) h

  pub large_at : (place : Span) → large_place (shown (typing_of t)) (drafts_of text t) ≡ Some place → IsLargeAt text t place.from place.to
  large_at place h =
      let w = mapped_some (λ (d : Draft). d.place) (first_large (shown (typing_of t)) (drafts_of text t)) place h in
      record { large = w.0; first = w.1; from_is = sym (ap (λ (s : Span). s.from) w.2); to_is = sym (ap (λ (s : Span). s.to) w.2) }

-- ---- the answer
module _ (text : List ℕ) (file : File) (t : TypedFile) (principal : IsPrincipal (conditions_of text file) (typing_of t))
    (same : drafts_of text t ≡ (declared_by text file).drafts) where
  pub has_problem : t.context.known ≡ (declared_by text file).signature → (p : Problem) → IsProblemOf text t p → IsTyped text file p
  has_problem known p h = record {
    typing = typing_of t;
    principal = principal;
    small = ap (first_large (shown (typing_of t))) (sym same) ∙ h.small;
    signature = h.signature ∙ known;
    items = h.items ∙ ap (map (item_of (typing_of t))) same;
  }

  at_large : (from to : ℕ) → IsLargeAt text t from to → IsTooLarge text file from to
  at_large from to h = record {
    typing = typing_of t;
    principal = principal;
    large = h.large;
    first = ap (first_large (shown (typing_of t))) (sym same) ∙ h.first;
    from_is = h.from_is;
    to_is = h.to_is;
  }

  pub has_fault : (e : TypeFault) → IsLarge text t e → IsFault text file e
  has_fault (fault.TooLarge from to) h = at_large from to h
  has_fault (fault.Memory e) h = tt
  has_fault (fault.UnknownName n a b) h = absurd h
  has_fault (fault.Arity a b) h = absurd h
  has_fault (fault.Mismatch l r a b) h = absurd h
  has_fault (fault.Twice n a b) h = absurd h
  has_fault (fault.NotProp a b) h = absurd h
  has_fault (fault.PropInTerm a b) h = absurd h
  has_fault (fault.BadAc a b) h = absurd h
  has_fault (fault.MissingField a b) h = absurd h
  has_fault (fault.SelfRecord a b) h = absurd h
  has_fault (fault.BadTrigger a b) h = absurd h

pub of_typing : (text : List ℕ) (file : File) (e : TypeFault) → ((a b : ℕ) → e ≡ fault.TooLarge a b → ⊥) → IsUntyped text file e → IsFault text file e
of_typing text file (fault.TooLarge from to) n h = absurd (n from to refl)
of_typing text file (fault.Memory e) n h = tt
of_typing text file (fault.UnknownName w a b) n h = h
of_typing text file (fault.Arity a b) n h = h
of_typing text file (fault.Mismatch l r a b) n h = h
of_typing text file (fault.Twice w a b) n h = h
of_typing text file (fault.NotProp a b) n h = h
of_typing text file (fault.PropInTerm a b) n h = h
of_typing text file (fault.BadAc a b) n h = h
of_typing text file (fault.MissingField a b) n h = h
of_typing text file (fault.SelfRecord a b) n h = h
of_typing text file (fault.BadTrigger a b) n h = h
