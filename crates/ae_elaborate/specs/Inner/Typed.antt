-- What a file that is typed gives.
use Rattle.std.specs.Prelude.{ℕ, List, ◌≡◌, map, Option, Some, None}
use Rattle.std.specs.Option.{option_map}
use Rattle.ae_core.specs.declared.problems.Problem.{Problem}
use Rattle.ae_core.specs.declared.terms.Sort.{Sort}
use Rattle.ae_elab.specs.Conditions.{shown}
use Rattle.ae_elab.specs.Declarations.{Draft}
use Rattle.ae_elab.specs.Problems.{first_large, item_of}
use Rattle.ae_elab.specs.Typings.{nodes_of}
use Rattle.ae_elab.specs.declared.faults.TypeFault.{TypeFault}
use Rattle.ae_elab.specs.declared.faults.TypeFault.TheVariants as fault
use Rattle.ae_file_typing.specs.Files.{drafts_at}
use Rattle.ae_file_typing.specs.declared.files.TypedFile.{TypedFile}
use Rattle.ae_syntax.specs.declared.spans.Span.{Span}
use Rattle.ae_types.specs.Bound.{bound}

-- where the first declaration stands that is too large
abbrev pub large_place : (ℕ → Sort) → List Draft → Option Span
large_place f ds = option_map (λ (d : Draft). d.place) (first_large f ds)

abbrev pub typing_of : TypedFile → ℕ → Sort
typing_of t = bound t.typing.bindings

abbrev pub drafts_of : List ℕ → TypedFile → List Draft
drafts_of text t = drafts_at text (nodes_of t.typing) t.drafts

-- the problem of what was declared
pub record IsProblemOf (text : List ℕ) (t : TypedFile) (p : Problem) : Type 0 where
  pub small : first_large (shown (typing_of t)) (drafts_of text t) ≡ None
  pub signature : p.signature ≡ t.context.known
  pub items : p.items ≡ map (item_of (typing_of t)) (drafts_of text t)

-- the first declaration that is too large
pub record IsLargeAt (text : List ℕ) (t : TypedFile) (from to : ℕ) : Type 0 where
  pub large : Draft
  pub first : first_large (shown (typing_of t)) (drafts_of text t) ≡ Some large
  pub from_is : from ≡ large.place.from
  pub to_is : to ≡ large.place.to

abbrev pub IsLarge : List ℕ → TypedFile → TypeFault → Type 0
IsLarge text t (fault.TooLarge from to) = IsLargeAt text t from to
IsLarge text t (fault.Memory e) = Unit {0}
IsLarge text t e = ⊥
