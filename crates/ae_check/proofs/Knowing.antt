-- What is kept of earlier lines, one line after another.
use Rattle.std.specs.Prelude.{ℕ, ◌+◌, IsTrue, Bool, List, [], ◌∷◌, ◌++◌, ◌≡◌, length, Option, Some, None}
use Rattle.std.proofs.Common.{sym, ap, ◌∙◌, subst}
use Rattle.std.proofs.lemmas.List.{length_push}
use Rattle.ae_base.specs.Relations.{Pairwise}
use Rattle.ae_base.proofs.Relations.{pairwise_push}
use Rattle.std.proofs.lemmas.Option.{same_Some}
use Rattle.ae_base.proofs.Options.{never_some, only_some}
use Rattle.ae_core.specs.declared.problems.Problem.{Problem}
use Rattle.ae_core.specs.declared.proofs.ClauseLine.{ClauseLine}
use Rattle.ae_core.specs.declared.proofs.ClauseLine.TheVariants.{Rup}
use Rattle.ae_rules.specs.Clauses.{Clause}
use Rattle.ae_rules.specs.Derivations.{conclusion, clause_ok, HasConclusion, hinted, is_refuted, Meets}
use Rattle.ae_check.specs.declared.codes.Code.{Code}
use Rattle.ae_check.specs.declared.codes.Stamp.{Stamp}
use Rattle.ae_check.specs.declared.known.Known.{Known}
use Rattle.ae_check.specs.Inner.Coding.{number_in, IsTable, AreKept, AreCodes, stamp_at, AreBefore, all_stamped, refutes, AreConcluded}
use Rattle.ae_check.specs.Inner.ConstantSets.{IsOfLines}
use Rattle.ae_check.specs.Inner.Knowing.{IsKnown, AreReady}
use Rattle.ae_check.proofs.Coding.{refuted_by_codes}
use Rattle.ae_check.proofs.Numbering.{before_kept, concluded_kept}

-- a line without a clause isn't allowed
pub no_conclusion : (p : Problem) (g : ℕ) (l : ClauseLine) → conclusion p g l ≡ None → ¬ (HasConclusion p g l)
no_conclusion p g l e h = never_some h.0 (sym e ∙ h.1)

-- a line of which the clause is coded is ready
pub ready : (p : Problem) (g : ℕ) (earlier : List ClauseLine) (l : ClauseLine) (c : Clause) (ks : List Code) (old new : Known) → IsKnown p g earlier old → conclusion p g l ≡ Some c
    → AreCodes (number_in new.table.numbers.entries) c ks → IsTable (number_in new.table.numbers.entries) new.table.stamps.items
    → AreKept (number_in old.table.numbers.entries) (number_in new.table.numbers.entries) → ((n : ℕ) → stamp_at new.table.stamps.items n ≡ stamp_at old.table.stamps.items n)
    → new.clauses ≡ old.clauses → AreReady p g earlier l ks new.table.stamps.items new.clauses
ready p g earlier l c ks old new k e codes table kept stamps same = record {
  numbers = number_in new.table.numbers.entries;
  table = table;
  before = before_kept (length earlier + 1) old.table.stamps.items new.table.stamps.items stamps k.before;
  stated = (c, e, codes);
  clauses_are = subst (Pairwise (AreConcluded p g (number_in new.table.numbers.entries)) earlier) (sym same)
      (concluded_kept p g (number_in old.table.numbers.entries) (number_in new.table.numbers.entries) kept earlier old.clauses k.clauses);
}

-- what hints say of a line by hints that is ready
pub rup_answer : (p : Problem) (g : ℕ) (earlier : List ClauseLine) (c : Clause) (hs : List ℕ) (ks : List Code) (stamps : List Stamp) (clauses : List (List Code)) → AreReady p g earlier (Rup c hs) ks stamps clauses
    → refutes (length earlier + 1) (all_stamped (length earlier + 1) stamps ks) clauses hs ≡ is_refuted (hinted p g earlier hs) c
rup_answer p g earlier c hs ks stamps clauses r =
    let s = r.stated in
    let same : ◌≡◌ {A = Option Clause} (Some c) (Some s.0) = (only_some (clause_ok p.signature c) (Some c) s.0 s.1).1 in
    refuted_by_codes p g r.numbers (length earlier + 1) stamps earlier clauses c ks hs r.table r.before r.clauses_are
    (subst (λ d. AreCodes r.numbers d ks) (sym (same_Some c s.0 same)) s.2)

pub rup_truth : (p : Problem) (g : ℕ) (earlier : List ClauseLine) (l : ClauseLine) (c : Clause) (hs read : List ℕ) (ks : List Code) (stamps : List Stamp) (clauses : List (List Code)) (b : Bool) → AreReady p g earlier l ks stamps clauses
    → l ≡ Rup c hs → read ≡ hs → b ≡ refutes (length earlier + 1) (all_stamped (length earlier + 1) stamps ks) clauses read → (IsTrue b → Meets p g earlier l) × (Meets p g earlier l → IsTrue b)
rup_truth p g earlier l c hs read ks stamps clauses b r e f q =
    let ready : AreReady p g earlier (Rup c hs) ks stamps clauses = subst (λ l. AreReady p g earlier l ks stamps clauses) e r in
    let same : b ≡ is_refuted (hinted p g earlier hs) c =
    q ∙ ap (refutes (length earlier + 1) (all_stamped (length earlier + 1) stamps ks) clauses) f ∙ rup_answer p g earlier c hs ks stamps clauses ready in
    subst (λ l. (IsTrue b → Meets p g earlier l) × (Meets p g earlier l → IsTrue b)) (sym e) ((λ t. sym same ∙ t), (λ m. same ∙ m))

-- one line more
pub known_more : (p : Problem) (g : ℕ) (earlier : List ClauseLine) (l : ClauseLine) (ks : List Code) (clauses : List (List Code)) (new : Known) → IsTable (number_in new.table.numbers.entries) new.table.stamps.items → AreBefore (length earlier + 1 + 1) new.table.stamps.items
    → AreConcluded p g (number_in new.table.numbers.entries) l ks → Pairwise (AreConcluded p g (number_in new.table.numbers.entries)) earlier clauses → new.clauses ≡ clauses ++ ks ∷ [] → IsOfLines p g (earlier ++ l ∷ []) new.constants → IsKnown p g (earlier ++ l ∷ []) new
known_more p g earlier l ks clauses new t b s w e of = record {
  constants = of;
  table = t;
  before = subst (λ n. AreBefore n new.table.stamps.items) (ap (λ n. n + 1) (sym (length_push earlier l))) b;
  clauses = subst (Pairwise (AreConcluded p g (number_in new.table.numbers.entries)) (earlier ++ l ∷ [])) (sym e)
      (pairwise_push (AreConcluded p g (number_in new.table.numbers.entries)) earlier clauses l ks w s);
}
