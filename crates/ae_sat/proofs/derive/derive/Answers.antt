use Rattle.std.proofs.Common.{◌≡◌, ◌∙◌, ◌++◌, ◌∷◌, [], List, map, get_or, sym, ap, subst}
use Rattle.ae_core.specs.declared.proofs.ClauseLine.{ClauseLine}
use Rattle.ae_core.specs.declared.proofs.ClauseLine.TheVariants.{Rup}
use Rattle.ae_sat.specs.Search.{IsStated}
use Rattle.ae_sat.proofs.Deriving.{derivation_stated}
use Rattle.ae_sat.proofs.derive.derive.Goals as goal

pub returns-clause-stated : goal.returns-clause-stated
returns-clause-stated c p g s =
    let r = c.in_ok-learnt.learnt in
    let ls = c.args.lines.now.items in
    let places = c.args.places.now in
    let e1 : c.in_ok-stated.stated ≡ r.clause = c.in_ok-stated.ensures ∙ c.as_slice.ensures in
    let e2 : c.in_ok-hints.hints ≡ map (λ h. get_or places h 0) r.hints = c.in_ok-hints.ensures ∙ ap (map (λ h. get_or places h 0)) c.as_slice-2.ensures in
    let e : c.push_line.new.lines.items ≡ ls ++ Rup r.clause (map (λ h. get_or places h 0) r.hints) ∷ [] = c.in_ok-push_line.ensures.ok ∙ (λ i. ls ++ Rup (e1 i) (e2 i) ∷ []) in
    subst (λ (w : List ClauseLine). IsStated p g w c.args.propagation.now.clauses places) (sym e)
    (derivation_stated p g c.args.propagation.now.trail c.args.propagation.now.clauses places ls c.requires.lawful c.requires.stands s r.clause r.hints c.in_ok-learnt.ensures.false_ones c.in_ok-learnt.ensures.derived)
