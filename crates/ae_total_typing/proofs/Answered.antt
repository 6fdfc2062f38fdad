-- The file of a text has a problem or a fault.
use Rattle.std.proofs.Common.{◌≡◌, ℕ, ◌⊎◌, inl, inr, List, map, refl, sym, subst, Option, Some, None}
use Rattle.std.specs.List.{AllByRecursion}
use Rattle.ae_base.proofs.AllOf.{all_at}
use Rattle.ae_core.specs.declared.problems.Problem.{Problem}
use Rattle.ae_core.specs.declared.terms.Sort.{Sort}
use Rattle.ae_lex.specs.Lexis.{IsTokenized}
use Rattle.ae_lex.specs.declared.kinds.Token.{Token}
use Rattle.ae_syntax.specs.Files.{IsParsed}
use Rattle.ae_syntax.specs.declared.decls.File.{File}
use Rattle.ae_elab.specs.declared.faults.TypeFault.{TypeFault}
use Rattle.ae_elab.specs.declared.faults.TypeFault.TheVariants as fault
use Rattle.ae_elab.specs.Conditions.{Condition, IsPrincipal, IsRefused, shown}
use Rattle.ae_elab.specs.Declarations.{Draft, conditions_of, declared_by}
use Rattle.ae_elab.specs.Problems.{IsTyped, IsTypeFault, first_large, item_of}
use Rattle.ae_typed_laws.specs.Refusals.{IsOfTyping}
use Rattle.ae_typed_laws.proofs.FilePlaces.{all_of_typing}
use Rattle.ae_total_typing.proofs.MetConditions.{AreAnswered, conditions_answered}

abbrev IsRefusedByTyping : Condition → Type 0
IsRefusedByTyping c = (f : ℕ → Sort) → IsOfTyping (c.refusal f)

module _ (text : List ℕ) (file : File) where
  abbrev FileAnswered : Type 0
  FileAnswered = ((p : Problem) × IsTyped text file p) ⊎ ((e : TypeFault) × IsTypeFault text file e)

  -- a fault of typing itself is one of the file
  fault_of : (e : TypeFault) → IsOfTyping e → IsRefused (conditions_of text file) e → IsTypeFault text file e
  fault_of (fault.UnknownName n i j) h r = r
  fault_of (fault.Arity i j) h r = r
  fault_of (fault.Mismatch s t i j) h r = r
  fault_of (fault.Twice n i j) h r = r
  fault_of (fault.NotProp i j) h r = r
  fault_of (fault.PropInTerm i j) h r = r
  fault_of (fault.BadAc i j) h r = r
  fault_of (fault.MissingField i j) h r = r
  fault_of (fault.SelfRecord i j) h r = r
  fault_of (fault.BadTrigger i j) h r = r
  fault_of (fault.TooLarge i j) h r = absurd h
  fault_of (fault.Memory x) h r = absurd h

  -- a typing gives the problem, unless a declaration is too large
  by_size : (m : ℕ → Sort) → IsPrincipal (conditions_of text file) m → (o : Option Draft)
      → first_large (shown m) (declared_by text file).drafts ≡ o → FileAnswered
  by_size m p None e =
      let declared = declared_by text file in
      let problem : Problem = record { signature = declared.signature; items = map (item_of m) declared.drafts } in
      inl (problem, record { typing = m; principal = p; small = e; signature = refl; items = refl })
  by_size m p (Some d) e =
      inr (fault.TooLarge d.place.from d.place.to, record { typing = m; principal = p; large = d; first = e; from_is = refl; to_is = refl })

  by_typing : AllByRecursion IsRefusedByTyping (conditions_of text file) → AreAnswered (conditions_of text file) → FileAnswered
  by_typing h (inl m) = by_size m.0 m.1 (first_large (shown m.0) (declared_by text file).drafts) refl
  by_typing h (inr e) =
      let r = e.1 in
      let refusal = all_at IsRefusedByTyping (conditions_of text file) r.place r.condition h r.at_place (shown r.typing) in
      inr (e.0, fault_of e.0 (subst IsOfTyping (sym r.shows) refusal) r)

pub file_answered : (text : List ℕ) (tokens : List Token) (file : File) → IsTokenized text tokens → IsParsed tokens file
    → ((p : Problem) × IsTyped text file p) ⊎ ((e : TypeFault) × IsTypeFault text file e)
file_answered text tokens file t p =
    by_typing text file (all_of_typing text tokens file t p) (conditions_answered (conditions_of text file))
