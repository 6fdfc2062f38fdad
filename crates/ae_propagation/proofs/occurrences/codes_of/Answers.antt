use Rattle.std.proofs.Common.{◌≡◌, ◌∙◌, ◌<◌, ◌+◌, ◌++◌, ◌∷◌, [], ℕ, List, length, get_or, refl, sym, ap, subst, arith}
use Rattle.std.proofs.lemmas.List.{length_push}
use Rattle.ae_core.specs.declared.formulas.Lit.{Lit}
use Rattle.ae_explain.specs.Assignments.{number_in}
use Rattle.ae_propagation.specs.declared.codes.Code.{Code}
use Rattle.ae_propagation.specs.Inner.Coding.{IsCode}
use Rattle.ae_propagation.proofs.Numbering.{widened_none, widened_trans}
use Rattle.ae_propagation.proofs.Coding.{more_codes}
use Rattle.ae_propagation.proofs.occurrences.codes_of.Goals as goal

pub loop-i-init : goal.loop-i-init
loop-i-init c = record {
  wide = widened_none (number_in c.args.trail.now.numbers) c.args.table.now.items c.requires;
  trail = refl;
  size = ap length c.new-codes.ensures;
  each = λ j m k l. absurd (omega (arith, l));
}

pub loop-i-preserved : goal.loop-i-preserved
loop-i-preserved c =
    let lits = c.args.lits.now in
    let before = number_in c.loop-i.trail.numbers in
    let after = number_in c.code_of.new.trail.numbers in
    let own = c.in_ok-code.code in
    let wide = c.code_of.ensures.wide in
    let pushed : c.push.new.self ≡ c.loop-i.codes ++ own ∷ [] = c.in_ok-push.ensures.ok in
    record {
      wide = widened_trans (number_in c.args.trail.now.numbers) c.args.table.now.items before c.loop-i.table.items after c.code_of.new.table.items c.loop-i.invariant.wide wide;
      trail = c.code_of.ensures.trail ∙ c.loop-i.invariant.trail;
      size = omega (arith, ap length pushed, length_push c.loop-i.codes own, c.loop-i.invariant.size);
      each = subst (λ (ks : List Code). (j : ℕ) (m : Lit) (k : Code) → j < c.loop-i.i + 1 → IsCode after (get_or lits j m) (get_or ks j k)) (sym pushed)
          (more_codes before after lits c.loop-i.codes c.loop-i.i c.index-lits-i.result own wide.kept c.loop-i-test.true c.index-lits-i.is c.loop-i.invariant.size c.in_ok-code.ensures.code
          c.loop-i.invariant.each);
    }

pub returns-clause-codes : goal.returns-clause-codes
returns-clause-codes c =
    let n : c.loop-i.i ≡ length c.args.lits.now = omega arith in
    record { size = c.loop-i.invariant.size ∙ n; each = λ j m k l. c.loop-i.invariant.each j m k (omega (arith, l, n)) }
