-- Matches by the equations that may stand, and the instances of their lines.
use Rattle.std.specs.Prelude.{List, [], ◌∷◌, ◌++◌, ◌≡◌}
use Rattle.std.proofs.Common.{refl, sym, ◌∙◌, subst, inl, inr}
use Rattle.std.proofs.lemmas.List.{append-nil}
use Rattle.std.proofs.lemmas.List.Elements.{Contains-append_left}
use Rattle.ae_core.specs.declared.formulas.Formula.{Formula, Eq}
use Rattle.ae_core.specs.declared.formulas.Lit.{Lit}
use Rattle.ae_core.specs.declared.terms.Sort.{Sort}
use Rattle.ae_core.specs.declared.terms.Term.{Term}
use Rattle.ae_rules.specs.Clauses.{is_true}
use Rattle.ae_journal.specs.InstanceLines.{TermFrom, AreEqualNow, IsMatchAt, IsInstanceBelow, HasGeneration}
use Rattle.ae_journal.specs.Laws.{NoBack}
use Rattle.ae_journal.specs.Standing.{Setting, MayEquate}
use Rattle.ae_journal.specs.States.{Owner}
use Rattle.ae_journal.specs.declared.lines.Line.{Line}
use Rattle.ae_journal.proofs.Falling.{generations_fall}
use Rattle.ae_journal.proofs.Growing.{may_more}
use Rattle.ae_journal.proofs.Splits.{cut}
use Rattle.ae_owed.specs.Instances.{Instance}
use Rattle.ae_owed.specs.Known.{IsYoung, AreAlike}
use Rattle.ae_owed.specs.Laws.{FoundOnesMatch, MatchesMayBeNoted, MatchesGrow, MatchesAreRecorded, RecordsGrow}
use Rattle.ae_owed.specs.Recorded.{IsBroughtBy, IsBroughtAt}
use Rattle.ae_owed.proofs.Following.{conseq_more}
use Rattle.ae_owed.proofs.Moving.{match_moved}
use Rattle.ae_owed.proofs.Rising.{match_wider, below_longer}

pub found_ones_match : FoundOnesMatch
found_ones_match x bound s alike js n o us ts right hold lt m = record {
  pattern = m.pattern;
  of_owner = m.of_owner;
  trigger = m.trigger;
  chosen = m.chosen;
  matches = match_moved x.problem.signature (IsYoung s n) (TermFrom x (HasGeneration x js n)) (λ t k. right n t lt k) (AreAlike s alike) (AreEqualNow x js) (λ t u k l a. hold t u a) us ts
      m.pattern.type_vars m.pattern.vars m.trigger m.matches;
}

pub matches_may_be_noted : MatchesMayBeNoted
matches_may_be_noted x bound js n j c o us ts lt m i acts new = record {
  new = new;
  clause = c;
  owner = o;
  sorts = us;
  terms = ts;
  is = i;
  acts = acts;
  number = n;
  below = lt;
  matched = m;
}

module _ (x : Setting) (js ls : List Line) where
  equal_longer : NoBack ls → (s t : Term) → AreEqualNow x js s t → AreEqualNow x (js ++ ls) s t
  equal_longer n s t (inl e) = inl e
  equal_longer n s t (inr f) = inr (conseq_more x.problem.signature (MayEquate x js) (MayEquate x (js ++ ls)) (λ u v m. may_more x js ls (is_true (Eq u v)) n m) s t f)

  match_longer : (from : Formula → Type 0) (o : Owner) (us : List Sort) (ts : List Term) → NoBack ls → IsMatchAt x js from o us ts → IsMatchAt x (js ++ ls) from o us ts
  match_longer from o us ts n m = record {
    pattern = m.pattern;
    of_owner = m.of_owner;
    trigger = m.trigger;
    chosen = m.chosen;
    matches = match_moved x.problem.signature (TermFrom x from) (TermFrom x from) (λ t k. k) (AreEqualNow x js) (AreEqualNow x (js ++ ls)) (λ t u k l e. equal_longer n t u e) us ts
        m.pattern.type_vars m.pattern.vars m.trigger m.matches;
  }

pub matches_grow : MatchesGrow
matches_grow x js ls n o us ts none m =
    match_wider x (HasGeneration x js n) (HasGeneration x (js ++ ls) n) (generations_fall x js ls n) (js ++ ls) o us ts (match_longer x js ls (HasGeneration x js n) o us ts none m)

-- ---- instances of lines that were noted
module _ (x : Setting) (js : List Line) (i : Instance) (m : IsMatchAt x js (HasGeneration x js i.number) i.owner i.sorts i.terms) where
  below_now : (l : Lit) (b : IsBroughtBy x js i l) → ((before : List Line) × (after : List Line) × (js ≡ before ++ b.own ∷ after)) → IsInstanceBelow x (HasGeneration x js i.number) js b.clause
  below_now l b c = record {
    before = c.0;
    since = b.own ∷ c.1;
    later = [];
    is = c.2 ∙ sym (append-nil (c.0 ++ b.own ∷ c.1));
    instance_line = b.own;
    rest = c.1 ++ [];
    begins = refl;
    owner = i.owner;
    sorts = i.sorts;
    terms = i.terms;
    brings = b.instance;
    matched = subst (λ (w : List Line). IsMatchAt x w (HasGeneration x js i.number) i.owner i.sorts i.terms) c.2 m;
  }

pub matches_are_recorded : MatchesAreRecorded
matches_are_recorded x js i lines m = λ l c. let b = lines l c in record { line_of = b; below = below_now x js i m l b (cut js b.own b.noted) }

module _ (x : Setting) (js ls : List Line) (i : Instance) where
  line_longer : (l : Lit) → IsBroughtBy x js i l → IsBroughtBy x (js ++ ls) i l
  line_longer l b = record { own = b.own; clause = b.clause; noted = Contains-append_left js ls b.own b.noted; instance = b.instance; has = b.has }

  recorded_longer : (l : Lit) → IsBroughtAt x js i l → IsBroughtAt x (js ++ ls) i l
  unfolding line_longer
  recorded_longer l b = record {
    line_of = line_longer l b.line_of;
    below = below_longer x (HasGeneration x js i.number) (HasGeneration x (js ++ ls) i.number) (generations_fall x js ls i.number) js ls b.line_of.clause b.below;
  }

pub records_grow : RecordsGrow
records_grow x js ls i r = λ l c. recorded_longer x js ls i l (r l c)
