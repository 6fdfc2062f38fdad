use Rattle.std.proofs.Common.{◌≡◌, ◌∙◌, ◌<◌, ◌++◌, ◌∷◌, [], ℕ, List, Option, length, sym, subst, ap, arith}
use Rattle.std.proofs.lemmas.Result.{on_ok_weaker}
use Rattle.std.proofs.lemmas.List.{length_push}
use Rattle.ae_rules.specs.Clauses.{Clause}
use Rattle.ae_propagation.specs.declared.codes.Code.{Code}
use Rattle.ae_explain.specs.declared.trail.Assigned.{Assigned}
use Rattle.ae_core.specs.declared.formulas.Formula.{Formula}
use Rattle.ae_explain.specs.Assignments.{number_in}
use Rattle.ae_explain.specs.Trail.{IsLawful, clause}
use Rattle.ae_propagation.specs.Settled.{Grown, HasTrue}
use Rattle.ae_propagation.specs.Inner.Scan.{open_all, IsUnitStep}
use Rattle.ae_propagation.specs.Inner.Coding.{IsCoded}
use Rattle.ae_explain.proofs.Results.{either_way}
use Rattle.ae_propagation.proofs.Coding.{coded_number, none_code}
use Rattle.ae_propagation.proofs.propagation.push_unit.Goals as goal

pub number_at-number-requires : goal.number_at-number-requires
number_at-number-requires c =
    let each = c.requires.fit.codes.each c.args.k c.requires.within in
    record { within = subst (λ (ks : List Code). c.args.p < length ks) (sym c.codes_at.ensures) (omega (arith, c.requires.alone.within, each.size)) }

pub assign_numbered-requires : goal.assign_numbered-requires
assign_numbered-requires c =
    let fit = c.requires.fit in
    let coded = c.args.coded.now in
    let unit : IsUnitStep c.args.trail.now.assigned c.args.coded.now.clauses c.args.k c.args.p c.in_ok-assigned.assigned =
    subst (λ (u : List Clause). IsUnitStep c.args.trail.now.assigned u c.args.k c.args.p c.in_ok-assigned.assigned) c.as_slice.ensures c.in_ok-assigned.ensures in
    record {
      number = coded_number (number_in c.args.trail.now.numbers) coded.clauses coded.codes c.args.k c.args.p c.in_ok-assigned.assigned.lit c.codes_at.result.now c.number_at-number.result fit.codes c.requires.within
          c.requires.alone.within unit.lit c.codes_at.ensures (c.number_at-number.ensures none_code);
      new = c.in_ok-assigned.ensures.new;
    }

pub returns-clause-fit : goal.returns-clause-fit
returns-clause-fit c =
    let same : number_in c.assign_numbered.new.self.numbers ≡ number_in c.args.trail.now.numbers = ap number_in c.assign_numbered.ensures.numbers in
    subst (λ (m : Formula → Option ℕ). IsCoded m c.args.coded.now) (sym same) c.requires.fit

pub returns-clause-lawful : goal.returns-clause-lawful
returns-clause-lawful c =
    let unit : IsUnitStep c.args.trail.now.assigned c.args.coded.now.clauses c.args.k c.args.p c.in_ok-assigned.assigned =
    subst (λ (u : List Clause). IsUnitStep c.args.trail.now.assigned u c.args.k c.args.p c.in_ok-assigned.assigned) c.as_slice.ensures c.in_ok-assigned.ensures in
    let t = c.args.trail.now.assigned in
    either_way (λ (w : List Assigned). IsLawful w c.args.coded.now.clauses) c.assign_numbered.result t (t ++ c.in_ok-assigned.assigned ∷ []) c.assign_numbered.new.self.assigned c.assign_numbered.ensures.ok c.assign_numbered.ensures.err
    c.requires.lawful unit.lawful

pub returns-clause-grown : goal.returns-clause-grown
returns-clause-grown c first h =
    let unit : IsUnitStep c.args.trail.now.assigned c.args.coded.now.clauses c.args.k c.args.p c.in_ok-assigned.assigned =
    subst (λ (u : List Clause). IsUnitStep c.args.trail.now.assigned u c.args.k c.args.p c.in_ok-assigned.assigned) c.as_slice.ensures c.in_ok-assigned.ensures in
    let t = c.args.trail.now.assigned in
    either_way (Grown first) c.assign_numbered.result t (t ++ c.in_ok-assigned.assigned ∷ []) c.assign_numbered.new.self.assigned c.assign_numbered.ensures.ok c.assign_numbered.ensures.err h (unit.grown first h)

pub returns-clause-falls : goal.returns-clause-falls
returns-clause-falls c =
    let unit : IsUnitStep c.args.trail.now.assigned c.args.coded.now.clauses c.args.k c.args.p c.in_ok-assigned.assigned =
    subst (λ (u : List Clause). IsUnitStep c.args.trail.now.assigned u c.args.k c.args.p c.in_ok-assigned.assigned) c.as_slice.ensures c.in_ok-assigned.ensures in
    let t = c.args.trail.now.assigned in
    let u = c.args.coded.now.clauses in
    on_ok_weaker c.assign_numbered.result (λ e. subst (λ (w : List Assigned). open_all w u < open_all t u) (sym e) unit.falls) c.assign_numbered.ensures.ok

pub returns-clause-longer : goal.returns-clause-longer
returns-clause-longer c =
    let t = c.args.trail.now.assigned in
    on_ok_weaker c.assign_numbered.result (λ e. ap length e ∙ length_push t c.in_ok-assigned.assigned) c.assign_numbered.ensures.ok

pub returns-clause-made : goal.returns-clause-made
returns-clause-made c =
    let unit : IsUnitStep c.args.trail.now.assigned c.args.coded.now.clauses c.args.k c.args.p c.in_ok-assigned.assigned =
    subst (λ (u : List Clause). IsUnitStep c.args.trail.now.assigned u c.args.k c.args.p c.in_ok-assigned.assigned) c.as_slice.ensures c.in_ok-assigned.ensures in
    let u = c.args.coded.now.clauses in
    on_ok_weaker c.assign_numbered.result (λ e. subst (λ (w : List Assigned). HasTrue w (clause u c.args.k)) (sym e) unit.made) c.assign_numbered.ensures.ok
