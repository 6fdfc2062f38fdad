-- Steps one after another.
use Rattle.std.specs.Prelude.{ℕ, true, List, [], ◌∷◌, ◌++◌, ◌≡◌}
use Rattle.std.specs.List.{AllByRecursion}
use Rattle.std.proofs.Common.{refl, sym, ap, ◌∙◌, subst, append_assoc}
use Rattle.std.proofs.lemmas.List.{append-nil, append_cancel_left}
use Rattle.ae_base.proofs.AllOf.{all_append, all_weaker}
use Rattle.ae_base.proofs.Tests.{false_true}
use Rattle.ae_core.specs.declared.formulas.Lit.{Lit}
use Rattle.ae_journal.specs.Journals.{IsBack}
use Rattle.ae_journal.specs.Laws.{NoBack}
use Rattle.ae_journal.specs.Legal.{AreLegal}
use Rattle.ae_journal.specs.Noted.{Noted}
use Rattle.ae_journal.specs.Standing.{Setting}
use Rattle.ae_journal.specs.declared.lines.Line.{Line}
use Rattle.ae_journal.specs.declared.lines.Line.TheVariants as line
use Rattle.ae_journal.proofs.Growing.{entered_more, may_more}
use Rattle.ae_store.specs.Stores.{Stored}
use Rattle.ae_theory.specs.Names.{IsNamedBy}
use Rattle.ae_theory.specs.Noting.{is_theory_line, HasNoted, NotesLegal, MayAll, literals}
use Rattle.ae_theory.specs.Tagged.{Tagged}
use Rattle.ae_state.specs.Names.{assumed_in}
use Rattle.ae_turns.specs.Leading.{StayingLeads, GoingOnLeads}

-- ---- lines of a theory undo nothing
no_back : (j : Line) → is_theory_line j ≡ true → ¬ IsBack j
no_back (line.Back n) e b = false_true e
no_back (line.Orient o) e b = b
no_back (line.Drop o) e b = b
no_back (line.Pair u l m) e b = b
no_back (line.Decide l) e b = b
no_back (line.Learn c) e b = b
no_back (line.TypeInstance k ss) e b = b
no_back (line.TermInstance f ts) e b = b
no_back (line.Combine strict f) e b = b

pub none_back : (added : List Line) → AllByRecursion (λ j. is_theory_line j ≡ true) added → NoBack added
none_back added a = all_weaker (λ j. is_theory_line j ≡ true) (λ j. ¬ IsBack j) no_back added a

-- ---- lines that are noted
pub noted_none : (j : Noted) → HasNoted j j
noted_none j = record { added = []; is = sym (append-nil j.lines); limit = refl; theory = tt }

pub noted_then : (j k l : Noted) → HasNoted j k → HasNoted k l → HasNoted j l
noted_then j k l a b =
    record {
      added = a.added ++ b.added;
      is = b.is ∙ ap (λ ls. ls ++ b.added) a.is ∙ append_assoc j.lines a.added b.added;
      limit = b.limit ∙ a.limit;
      theory = all_append (λ j. is_theory_line j ≡ true) a.added b.added a.theory b.theory;
    }

module _ (x : Setting) where
  -- the names of a journal, and what may stand
  pub named_more : (s : Stored) (js added : List Line) → IsNamedBy x s js → IsNamedBy x s (js ++ added)
  named_more s js added n =
      record { signature = n.signature; more = n.more; names = n.names; entered = λ t h. entered_more x js added t (n.entered t h) }

  pub may_all_more : (ls : List Lit) (js added : List Line) → NoBack added → MayAll x ls js → MayAll x ls (js ++ added)
  may_all_more ls js added none m l c = may_more x js added l none (m l c)

  -- ---- legal lines
  module _ (bound : ℕ) where
    legal_join : (before xs ys : List Line) → AreLegal x bound before xs → AreLegal x bound (before ++ xs) ys → AreLegal x bound before (xs ++ ys)
    legal_join before [] ys h k = subst (λ (w : List Line). AreLegal x bound w ys) (append-nil before) k
    legal_join before (j ∷ xs) ys h k =
        (h.0, legal_join (before ++ j ∷ []) xs ys h.1 (subst (λ (w : List Line). AreLegal x bound w ys) (sym (append_assoc before (j ∷ []) xs)) k))

    pub legal_none : (js : List Line) → NotesLegal x bound js js
    legal_none js added e = subst (AreLegal x bound js) (append_cancel_left js [] added (append-nil js ∙ e)) tt

    pub legal_then : (a b c xs ys : List Line) → b ≡ a ++ xs → c ≡ b ++ ys → NotesLegal x bound a b → NotesLegal x bound b c → NotesLegal x bound a c
    legal_then a b c xs ys e f h k added g =
        let both : a ++ (xs ++ ys) ≡ a ++ added = sym (append_assoc a xs ys) ∙ ap (λ w. w ++ ys) (sym e) ∙ sym f ∙ g in
        let last : AreLegal x bound (a ++ xs) ys = subst (λ (w : List Line). AreLegal x bound w ys) e (k ys f) in
        subst (AreLegal x bound a) (append_cancel_left a (xs ++ ys) added both) (legal_join a xs ys (h xs e) last)

-- ---- steps
pub staying_leads : StayingLeads
staying_leads s o j fits =
    record {
      fits = fits;
      assumed = refl;
      noted = noted_none j;
      legal = λ x bound named may. legal_none x bound j.lines;
      marks = λ m then h. h;
      conflicts = λ k h. h;
    }

pub going_on_leads : GoingOnLeads
going_on_leads s o p q j k l a b =
    record {
      fits = b.fits;
      assumed = b.assumed ∙ a.assumed;
      noted = noted_then j k l a.noted b.noted;
      legal = λ x bound named may.
          let at = (a.noted).is in
          let named_then = subst (IsNamedBy x s) (sym at) (named_more x s j.lines (a.noted).added named) in
          let may_then : MayAll x (literals (assumed_in p)) k.lines =
          subst (λ (y : List Tagged × List Line). MayAll x (literals y.0) y.1) (λ i. (sym a.assumed i, sym at i))
          (may_all_more x (literals (assumed_in o)) j.lines (a.noted).added (none_back (a.noted).added (a.noted).theory) may) in
          legal_then x bound j.lines k.lines l.lines (a.noted).added (b.noted).added at (b.noted).is (a.legal x bound named may) (b.legal x bound named_then may_then);
      marks = λ m then h. b.marks m then (a.marks m then h);
      conflicts = λ n h. b.conflicts n (a.conflicts n h);
    }
