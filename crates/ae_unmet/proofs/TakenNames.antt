-- What is held where all names of a store have values.
use Rattle.std.specs.Prelude.{◌≤◌, List, ◌≡◌, length, take}
use Rattle.std.proofs.Common.{sym, ap, ◌∙◌, subst, arith, length-take}
use Rattle.std.proofs.lemmas.List.{length-map, take_all}
use Rattle.ae_core.specs.declared.terms.Term.{Term}
use Rattle.ae_core.specs.declared.problems.Signature.{Signature}
use Rattle.ae_store.specs.Shapes.{shapes, shape_of}
use Rattle.ae_store.specs.Stores.{Stored}
use Rattle.ae_store.proofs.TermLaws.{length_terms}
use Rattle.ae_name_lines.specs.Closed.{AreClosed}
use Rattle.ae_theory.specs.Names.{terms_in}
use Rattle.ae_patterns.specs.Patterns.{AreEntriesOf}
use Rattle.ae_entering.proofs.PatternFacts.{patterns_fit}
use Rattle.ae_value_table.specs.Table.{held}
use Rattle.ae_value_fitting.specs.Fitting.{ArePatterns, AreSaid}
use Rattle.ae_state.specs.declared.holding.Holding.{Holding}
use Rattle.ae_state.specs.Names.{all_terms, terms_now}
use Rattle.ae_state.specs.Right.{IsRight}
use Rattle.ae_state.proofs.Growing.{keeps_long}
use Rattle.ae_turns.specs.Representing.{IsTaken}

module _ (o : Holding) (s : Stored) (t : IsTaken o s) where
  right : IsRight o
  right = (t.fits).right

  -- all names that ever came have values
  all_taken : length (all_terms o) ≤ o.values.taken
  all_taken =
      let a : length (all_terms o) ≤ length (terms_in s) = keeps_long (all_terms o) (terms_in s) ((t.fits).terms).keeps in
      let b : length (take o.values.taken (all_terms o)) ≡ length (terms_in s) = ap length t.all in
      omega (arith, length-take o.values.taken (all_terms o))

  pub all_is : all_terms o ≡ terms_in s
  all_is = sym (take_all o.values.taken (all_terms o) all_taken) ∙ t.all

  pub in_all : ◌≡◌ {A = Signature × List Term} (o.signature, all_terms o) (s.signature, terms_in s)
  in_all = λ i. (sym ((t.fits).terms).signature i, all_is i)

  pub in_now : ◌≡◌ {A = Signature × List Term} (o.signature, terms_now o) (s.signature, terms_in s)
  in_now = λ i. (sym ((t.fits).terms).signature i, t.all i)

  pub terms_long : length (terms_in s) ≡ length s.nodes
  terms_long = length_terms (shapes s.nodes) ∙ length-map s.nodes shape_of

  pub taken_long : o.values.taken ≡ length s.nodes
  taken_long = omega (arith, all_taken, right.within, (right.entries).within, ap length all_is, terms_long)

  -- what is known for good is known of the names that have values
  entries_long : length o.values.entries ≡ length (terms_in s)
  entries_long = omega (arith, all_taken, right.within, (right.entries).within, ap length all_is)

  held_is : held o.values ≡ o.values.entries
  held_is = take_all o.values.taken o.values.entries (omega (arith, all_taken, (right.entries).within))

  pub patterns : ArePatterns s.signature (terms_in s) (held o.values)
  patterns =
      subst (ArePatterns s.signature (terms_in s)) (sym held_is)
      (patterns_fit s.signature (terms_in s) ((t.store).sound).one_name o.values.entries (subst (λ (x : Signature × List Term). AreEntriesOf x.0 x.1 o.values.entries) in_all right.entries) entries_long)

  pub said_now : AreSaid s.signature (terms_in s) o.justs o.values
  said_now = subst (λ (x : Signature × List Term). AreSaid x.0 x.1 o.justs o.values) in_now right.said

  pub closed_now : AreClosed s.signature (terms_in s)
  closed_now = subst (λ (x : Signature × List Term). AreClosed x.0 x.1) in_now right.closed
