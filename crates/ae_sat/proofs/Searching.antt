-- Noted lines, step after step.
use Rattle.std.proofs.Common.{true, ◌≡◌, ℕ, ◌<◌, ◌-◌, List, [], ◌∷◌, ◌++◌, sym, ◌∙◌, ap, subst, arith, append_assoc, append-nil}
use Rattle.ae_base.proofs.AllOf.{all_append}
use Rattle.ae_journal.specs.Noted.{Noted}
use Rattle.ae_journal.specs.declared.lines.Line.{Line}
use Rattle.ae_journal.specs.Journals.{counted_in}
use Rattle.ae_sat.specs.Search.{NotesLegally, Keeps, Progresses, is_own_line}
use Rattle.ae_journal.specs.Legal.{AreLegal}
use Rattle.ae_journal.specs.Standing.{Setting, IsEntered}
use Rattle.ae_journal.proofs.Growing.{entered_more}
use Rattle.ae_store.specs.Stores.{Stored}
use Rattle.ae_theory.specs.Names.{IsNamedBy}

module _ (setting : Setting) (bound : ℕ) where
  pub legal_join : (before xs ys : List Line) → AreLegal setting bound before xs → AreLegal setting bound (before ++ xs) ys → AreLegal setting bound before (xs ++ ys)
  legal_join before [] ys h k = subst (λ (w : List Line). AreLegal setting bound w ys) (append-nil before) k
  legal_join before (x ∷ xs) ys h k = (h.0, legal_join (before ++ x ∷ []) xs ys h.1 (subst (λ (w : List Line). AreLegal setting bound w ys) (sym (append_assoc before (x ∷ []) xs)) k))

  pub notes_none : (js : List Line) → NotesLegally setting bound js js
  notes_none js = record { added = []; is = sym (append-nil js); legal = tt }

  pub notes_more : (a b c : List Line) → NotesLegally setting bound a b → NotesLegally setting bound b c → NotesLegally setting bound a c
  notes_more a b c x y = record {
    added = x.added ++ y.added;
    is = y.is ∙ (ap (λ (w : List Line). w ++ y.added) x.is ∙ append_assoc a x.added y.added);
    legal = legal_join a x.added y.added x.legal (subst (λ (w : List Line). AreLegal setting bound w y.added) x.is y.legal);
  }

-- more lines keep the names of a journal
pub named_still : (setting : Setting) (store : Stored) (a b added : List Line) → b ≡ a ++ added → IsNamedBy setting store a → IsNamedBy setting store b
named_still setting store a b added e n = record {
  signature = n.signature;
  more = n.more;
  names = n.names;
  entered = λ t h. subst (λ (w : List Line). IsEntered setting w t) (sym e) (entered_more setting a added t (n.entered t h));
}

pub keeps_same : (a : Noted) → Keeps a a
keeps_same a = record { limit = λ i. a.limit; more = omega arith; own = ([], sym (append-nil a.lines), tt) }

pub keeps_more : (a b c : Noted) → Keeps a b → Keeps b c → Keeps a c
keeps_more a b c x y = record {
  limit = y.limit ∙ x.limit;
  more = omega (arith, x.more, y.more);
  own = (
    (x.own).0 ++ (y.own).0,
    (y.own).1 ∙ ap (λ (w : List Line). w ++ (y.own).0) (x.own).1 ∙ append_assoc a.lines (x.own).0 (y.own).0,
    all_append (λ (j : Line). is_own_line j ≡ true) (x.own).0 (y.own).0 (x.own).2 (y.own).2,
  );
}

pub lessens : (a b c : Noted) → Keeps a b → Progresses b c → c.limit - counted_in c.lines < a.limit - counted_in a.lines
lessens a b c x y = omega (arith, x.limit, x.more, y.limit, y.more, y.within)
