-- Evaluation in a completed system, and equal values of its names, against consequence: lines that derive an equation from others.
-- Plain consequence is derived by lines over plain terms alone: each product has a constant factor, each divisor is a numeral.
use Rattle.std.specs.Prelude.{ℕ, Bool, true, List, ◌≡◌, ◌↔◌, Some}
use Rattle.ae_core.specs.Sorts.{sort_of}
use Rattle.ae_core.specs.Signatures.{IsLawful}
use Rattle.ae_core.specs.declared.formulas.Formula.{Eq}
use Rattle.ae_core.specs.declared.formulas.Lit.{Lit}
use Rattle.ae_core.specs.declared.problems.Signature.{Signature}
use Rattle.ae_core.specs.declared.terms.Sort.{Sort}
use Rattle.ae_core.specs.declared.terms.Term.{Term}
use Rattle.ae_rules.specs.Clauses.{is_true}
use Rattle.ae_rules.specs.Linear.{is_plain}
use Rattle.ae_rules.specs.Lines.{Among, Conseq, PlainConseq, equal, plain_ok}
use Rattle.ae_rules.specs.Valuations.{Where}
use Rattle.ae_journal.specs.Evaluate.{Assignment, IsAssignment, value}
use Rattle.ae_journal.specs.Systems.{IsCompleted, IsEquation, IsName, ValueOf}
use Rattle.ae_journal.specs.Values.{Val}
use Rattle.ae_journal.specs.declared.systems.System.{System}

-- the literals say that the two terms are equal
abbrev pub Stated : List Lit → Term → Term → Type 0
Stated ls s t = Among ls (is_true (Eq s t))

-- ---- evaluation respects consequence
-- where the given equations evaluate alike, so do all plain consequences of them. The equations are those that a test passes,
abbrev pub RespectsTested : Type 0
RespectsTested =
    (sig : Signature) (y : System) → IsLawful sig → IsCompleted sig y → (way : Bool) (assigned : Assignment)
    → IsAssignment sig y way assigned
    → (E : Term → Term → Bool) →
    ((s t : Term) → E s t ≡ true → plain_ok sig (equal s t) ≡ true → value sig y way assigned s ≡ value sig y way assigned t)
    → (s t : Term) → PlainConseq sig (Where E) s t → value sig y way assigned s ≡ value sig y way assigned t

-- or those that are stated by literals
abbrev pub RespectsStated : Type 0
RespectsStated =
    (sig : Signature) (y : System) → IsLawful sig → IsCompleted sig y → (way : Bool) (assigned : Assignment)
    → IsAssignment sig y way assigned
    → (ls : List Lit) → ((s t : Term) → Stated ls s t → plain_ok sig (equal s t) ≡ true
    → value sig y way assigned s ≡ value sig y way assigned t)
    → (s t : Term) → PlainConseq sig (Stated ls) s t → value sig y way assigned s ≡ value sig y way assigned t

-- ---- names with equal values
-- the system makes the stated equations true: their sides are names with equal values
abbrev pub MakesTrue : Signature → System → List Lit → Type 0
MakesTrue sig y ls = (s t : Term) → Stated ls s t → plain_ok sig (equal s t) ≡ true → (v : Val) × ValueOf y s v × ValueOf y t v

-- two names that are equal by plain consequence have one value
abbrev pub ConsequencesHaveOneValue : Type 0
ConsequencesHaveOneValue =
    (sig : Signature) (y : System) → IsLawful sig → IsCompleted sig y → (ls : List Lit) → MakesTrue sig y ls
    → (s t : Term) (v w : Val) → PlainConseq sig (Stated ls) s t → ValueOf y s v → ValueOf y t w → v ≡ w

abbrev pub NamesArePlain : Signature → System → Type 0
NamesArePlain sig y = (n : ℕ) (t : Term) (s : Sort) → IsName y n t → sort_of sig t ≡ Some s → is_plain t ≡ true

-- where, moreover, all names are plain and the system's own equations follow, that is so exactly where they have one value
abbrev pub OneValueIsPlainConsequence : Type 0
OneValueIsPlainConsequence =
    (sig : Signature) (y : System) → IsLawful sig → IsCompleted sig y → (ls : List Lit) → MakesTrue sig y ls → NamesArePlain sig y
    → ((s t : Term) → IsEquation sig y s t → PlainConseq sig (Stated ls) s t)
    → (s t : Term) (o : Sort) (v w : Val) → sort_of sig s ≡ Some o → sort_of sig t ≡ Some o → ValueOf y s v → ValueOf y t w
    → (v ≡ w) ↔ PlainConseq sig (Stated ls) s t

-- where names aren't plain, two with one value are equal by consequence
abbrev pub OneValueIsConsequence : Type 0
OneValueIsConsequence =
    (sig : Signature) (y : System) → IsLawful sig → IsCompleted sig y → (ls : List Lit) →
    ((s t : Term) → IsEquation sig y s t → Conseq sig (Stated ls) s t)
    → (s t : Term) (o : Sort) (v : Val) → sort_of sig s ≡ Some o → sort_of sig t ≡ Some o → ValueOf y s v → ValueOf y t v → Conseq sig
    (Stated ls) s t
