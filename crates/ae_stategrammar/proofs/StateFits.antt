-- A state of whose parts each has a text has one.
use Rattle.std.specs.Prelude.{[], ◌∷◌}
use mathlib.Core.Path.{refl}
use Rattle.ae_base.proofs.AllOf.{all_weaker}
use Rattle.ae_codes.specs.Codes.{both, mapped, words}
use Rattle.ae_codes.specs.Closers.{by_line}
use Rattle.ae_codes.specs.Rows.{alone}
use Rattle.ae_core.specs.declared.formulas.Lit.{Lit}
use Rattle.ae_core.specs.declared.problems.Signature.{Signature}
use Rattle.ae_core.specs.declared.terms.Term.{Term}
use Rattle.ae_journal.specs.declared.systems.RuleEntry.{RuleEntry}
use Rattle.ae_journal.specs.declared.systems.Saturated.{Saturated}
use Rattle.ae_num.specs.declared.forms.Value.{Value}
use Rattle.ae_prooftext.specs.Clauses.{literal}
use Rattle.ae_prooftext.specs.Grammar.{is_real, term_code}
use Rattle.ae_stategrammar.proofs.MultisetLaws.{sides_fit}
use Rattle.ae_stategrammar.specs.Named as named
use Rattle.ae_stategrammar.specs.Points.{point, point_fits, PointStands}
use Rattle.ae_stategrammar.specs.Sections.{NoneOf, section_fits, fits_ended}
use Rattle.ae_stategrammar.specs.States.{end_line, end_behind, point_starts, points, value_closed, value_in_line, value_rest, name_rest, lit_code, lit_in_line, lit_closed, term_in_line, term_closed, rule, rules, values, names, literals, lit_starts, names_behind, values_behind, rules_behind, points_behind, rule_starts, StateStands, RuleStands, state}
use Rattle.ae_valuetext.specs.Values.{value}

module _ (sig : Signature) where
  lit_fits : (x : Lit) → (literal sig (is_real sig) by_line).Fits (x, 10) → (lit_code sig).Fits x
  unfolding lit_code lit_in_line mapped both alone words
  lit_fits x f = ((refl, fits_ended (literal sig (is_real sig) by_line) 10 (lit_closed sig) x f), refl)

  term_fits : (t : Term) → (term_code sig [] by_line).Fits (t, 10) → (term_in_line sig).Fits t
  unfolding term_in_line
  term_fits t f = fits_ended (term_code sig [] by_line) 10 (term_closed sig) t f

  value_fits : (v : Value) → (value by_line).Fits (v, 10) → value_in_line.Fits v
  unfolding value_in_line
  value_fits v f = fits_ended (value by_line) 10 value_closed v f

  rule_fits : (r : RuleEntry) → (RuleStands sig) r → (rule sig).Fits r
  unfolding rule mapped both alone words
  rule_fits r s = ((refl, sides_fit sig r.symbol r.left r.right s.0 s.1 s.2), refl)

  end_fits : end_line.Fits tt
  unfolding alone words
  end_fits = refl

  pub state_fits : (s : Saturated) → (StateStands sig) s → (state sig).Fits s
  unfolding state mapped both alone words
  state_fits s h = ((refl, of_literals), refl)
    where
      of_points : points.Fits (s.point, tt)
      of_points = section_fits 112 point end_line (NoneOf (114 ∷ 118 ∷ 110 ∷ 108 ∷ [])) (refl, (refl, (refl, (refl, tt)))) point_starts end_behind s.point tt (all_weaker PointStands (λ p. point.Fits p) point_fits s.point h.points) end_fits

      of_rules : (rules sig).Fits (s.system.rules, (s.point, tt))
      of_rules = section_fits 114 (rule sig) points (NoneOf (118 ∷ 110 ∷ 108 ∷ [])) (refl, (refl, (refl, tt))) (rule_starts sig) (points_behind sig) s.system.rules (s.point, tt) (all_weaker (RuleStands sig) (λ r. (rule sig).Fits r) rule_fits s.system.rules h.rules) of_points

      of_values : (values sig).Fits (s.system.values, (s.system.rules, (s.point, tt)))
      of_values = named.lines_fit 118 value_rest value_in_line (rules sig) (NoneOf (110 ∷ 108 ∷ [])) (refl, (refl, tt)) (rules_behind sig) s.system.values (s.system.rules, (s.point, tt)) (all_weaker (λ v. (value by_line).Fits (v, 10)) (λ v. value_in_line.Fits v) value_fits s.system.values h.values) h.few_values of_rules

      of_names : (names sig).Fits (s.system.names, (s.system.values, (s.system.rules, (s.point, tt))))
      of_names = named.lines_fit 110 name_rest (term_in_line sig) (values sig) (NoneOf (108 ∷ [])) (refl, tt) (values_behind sig) s.system.names (s.system.values, (s.system.rules, (s.point, tt))) (all_weaker (λ t. (term_code sig [] by_line).Fits (t, 10)) (λ t. (term_in_line sig).Fits t) term_fits s.system.names h.names) h.few_names of_values

      of_literals : (literals sig).Fits (s.literals, (s.system.names, (s.system.values, (s.system.rules, (s.point, tt)))))
      of_literals = section_fits 108 (lit_code sig) (names sig) (NoneOf []) tt (lit_starts sig) (names_behind sig) s.literals (s.system.names, (s.system.values, (s.system.rules, (s.point, tt)))) (all_weaker (λ x. (literal sig (is_real sig) by_line).Fits (x, 10)) (λ x. (lit_code sig).Fits x) lit_fits s.literals h.literals) of_names
