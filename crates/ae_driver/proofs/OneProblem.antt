-- A text has one problem at most, and a text with a problem isn't refused for want of one.
use Rattle.std.proofs.Common.{◌≡◌, ◌≢◌, ◌≤◌, ℕ, List, length, subst, refl}
use Rattle.std.specs.Prelude.{IfSome}
use Rattle.std.specs.List.{AllByRecursion}
use Rattle.std.specs.declared.alloc.AllocError.{AllocError}
use Rattle.ae_core.specs.Signatures.{IsLawfulProblem}
use Rattle.ae_core.specs.declared.problems.Problem.{Problem}
use Rattle.ae_elab.specs.Names.{IsName, names_in_file}
use Rattle.ae_elab.specs.Problems.{IsTyped, IsTypeFault}
use Rattle.ae_elab.specs.declared.faults.TypeFault.{TypeFault}
use Rattle.ae_elab.specs.declared.faults.TypeFault.TheVariants as fault
use Rattle.ae_elaborate.specs.Faults.{IsFault}
use Rattle.ae_elab.proofs.FaultLaws.{one_answer}
use Rattle.ae_elab.proofs.FileNames.{file_named}
use Rattle.ae_elab.proofs.ProblemLaws as typing
use Rattle.ae_fault_lines.specs.Lines.{fault_place}
use Rattle.ae_lawful_problems.proofs.LawfulProblems.{problem_lawful}
use Rattle.ae_lex.proofs.Unique.{one_list, never_both as never_both_in_lexis}
use Rattle.ae_syntax.proofs.FileLaws.{one_tree, never_both}
use Rattle.ae_syntax.specs.Files.{IsParsed}
use Rattle.ae_syntax.specs.declared.decls.File.{File}
use Rattle.ae_typed_laws.proofs.FilePlaces.{places_stand}
use Rattle.ae_driver.specs.declared.reasons.Reason.{Reason}
use Rattle.ae_driver.specs.declared.reasons.Reason.TheVariants.{Untyped}
use Rattle.ae_driver.specs.Inner.Endings.{PlacesStand}
use Rattle.ae_driver.specs.Problems.{HasNoProblem, IsFileOf, IsProblemOf, by_lexis, by_syntax, by_typing}

file_one : (text : List ℕ) (f g : File) → IsFileOf text f → IsFileOf text g → f ≡ g
file_one text f g p q = one_tree p.tokens f g p.parsed (subst (λ ts. IsParsed ts g) (one_list text q.tokens p.tokens q.tokenized p.tokenized) q.parsed)

pub one_problem : (text : List ℕ) (p q : Problem) → IsProblemOf text p → IsProblemOf text q → p ≡ q
one_problem text p q h k = typing.one_problem text h.file p q h.typed (subst (λ f. IsTyped text f q) (file_one text k.file h.file k.is_file h.is_file) k.typed)

pub has_problem : (text : List ℕ) (p : Problem) (why : Reason) → IsProblemOf text p → HasNoProblem text why → ⊥
has_problem text p why h (by_lexis f r) = never_both_in_lexis text h.is_file.tokens f h.is_file.tokenized r
has_problem text p why h (by_syntax ts f t r) =
    never_both text ts h.file f (subst (λ us. IsParsed us h.file) (one_list text h.is_file.tokens ts h.is_file.tokenized t) h.is_file.parsed) r
has_problem text p why h (by_typing file e f r) = one_answer text file p e (subst (λ g. IsTyped text g p) (file_one text h.file file h.is_file f) h.typed) r

-- ---- what holds of a text that was read
pub names_stand : (text : List ℕ) (file : File) → IsFileOf text file → AllByRecursion (IsName text) (names_in_file file)
names_stand text file f = file_named text f.tokens file f.tokenized f.parsed

pub lawful : (text : List ℕ) (p : Problem) → IsProblemOf text p → IsLawfulProblem p
lawful text p h = problem_lawful text h.is_file.tokens h.file p h.is_file.tokenized h.is_file.parsed h.typed

pub fault_stands : (text : List ℕ) (file : File) (e : TypeFault) → IsFileOf text file → IsTypeFault text file e → IfSome (fault_place e) (λ at. at ≤ length text)
fault_stands text file e f h = places_stand text f.tokens file e f.tokenized f.parsed h

-- what elaboration tells of a file is its fault, but for want of memory
is_type_fault : (text : List ℕ) (file : File) (e : TypeFault) → ((x : AllocError) → e ≢ fault.Memory x) → IsFault text file e → IsTypeFault text file e
is_type_fault text file (fault.TooLarge a b) n h = h
is_type_fault text file (fault.Memory x) n h = absurd (n x refl)
is_type_fault text file (fault.UnknownName w a b) n h = h
is_type_fault text file (fault.Arity a b) n h = h
is_type_fault text file (fault.Mismatch l r a b) n h = h
is_type_fault text file (fault.Twice w a b) n h = h
is_type_fault text file (fault.NotProp a b) n h = h
is_type_fault text file (fault.PropInTerm a b) n h = h
is_type_fault text file (fault.BadAc a b) n h = h
is_type_fault text file (fault.MissingField a b) n h = h
is_type_fault text file (fault.SelfRecord a b) n h = h
is_type_fault text file (fault.BadTrigger a b) n h = h

pub untyped_stands : (text : List ℕ) (file : File) (e : TypeFault) → ((x : AllocError) → e ≢ fault.Memory x) → IsFileOf text file → IsFault text file e
    → HasNoProblem text (Untyped file e) × PlacesStand text (Untyped file e)
untyped_stands text file e n f h = let is = is_type_fault text file e n h in (by_typing file e f is, (names_stand text file f, fault_stands text file e f is))
