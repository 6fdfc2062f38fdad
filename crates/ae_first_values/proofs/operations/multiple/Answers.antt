use Rattle.std.specs.Prelude.{ℤ, pos, ◌<ℤ◌}
use Rattle.std.proofs.Common.{sym, subst}
use Rattle.ae_math.specs.Fractions.{ℚ, ratio}
use Rattle.ae_math.specs.Forms.{scale as scale_form}
use Rattle.ae_rules.specs.Linear.{form, IsSame}
use Rattle.ae_num.specs.Forms.{meaning, SameMeaning}
use Rattle.ae_num.specs.Limits.{FitsLimits}
use Rattle.ae_num.proofs.ReductionLaws.{read_back}
use Rattle.ae_store.specs.Shapes.{shapes}
use Rattle.ae_store.specs.Terms.{terms, named}
use Rattle.ae_first_values.proofs.Limits.{as_read, scale_within}
use Rattle.ae_first_values.proofs.Written.{multiple_written}
use Rattle.ae_first_values.proofs.operations.multiple.Goals as goal

pub scale-requires-clause-bottom : goal.scale-requires-clause-bottom
scale-requires-clause-bottom c = subst (λ (z : ℤ). pos 0 <ℤ z) (sym (read_back c.args.by.now.den c.requires.by.within.0)) c.requires.by.positive

pub state_multiple-requires-clause-bottom : goal.state_multiple-requires-clause-bottom
state_multiple-requires-clause-bottom c = subst (λ (z : ℤ). pos 0 <ℤ z) (sym (read_back c.args.by.now.den c.requires.by.within.0)) c.requires.by.positive

pub state_multiple-requires-clause-top : goal.state_multiple-requires-clause-top
state_multiple-requires-clause-top c = subst FitsLimits (sym (read_back c.args.by.now.constant c.requires.by.within.1.0)) c.requires.by.within.1.0

pub state_multiple-requires-clause-written : goal.state_multiple-requires-clause-written
state_multiple-requires-clause-written c =
    let s = c.args.store.now in
    let by = c.args.by.now in
    multiple_written s.signature (terms (shapes s.nodes)) c.args.real c.args.name c.requires.name c.in_ok-value.value c.in_ok-value.ensures.normal c.args.of.now.name (ratio (as_read by.constant) (as_read by.den)) c.args.of.now.value.now c.requires.of.written c.in_ok-value.ensures.exact

pub state_multiple-requires-clause-is : goal.state_multiple-requires-clause-is
state_multiple-requires-clause-is c =
    let ts = terms (shapes c.args.store.now.nodes) in
    let by = c.args.by.now in
    subst (λ (y : ℚ). IsSame (form (named ts c.args.name)) (scale_form y (form (named ts c.args.of.now.name)))) (λ j. ratio (sym (read_back by.constant c.requires.by.within.1.0) j) (sym (read_back by.den c.requires.by.within.0) j)) c.requires.is

pub state_multiple-requires-clause-within : goal.state_multiple-requires-clause-within
state_multiple-requires-clause-within c = let by = c.args.by.now in scale_within (as_read by.constant) (as_read by.den) c.args.of.now.value.now c.in_ok-value.ensures.fits

pub returns-clause-multiple : goal.returns-clause-multiple
returns-clause-multiple c =
    let by = c.args.by.now in
    subst (λ (y : ℚ). SameMeaning (meaning c.in_ok-value.value) (scale_form y (meaning c.args.of.now.value.now))) (λ j. ratio (read_back by.constant c.requires.by.within.1.0 j) (read_back by.den c.requires.by.within.0 j)) c.in_ok-value.ensures.exact

pub returns-clause-written : goal.returns-clause-written
returns-clause-written c =
    let s = c.args.store.now in
    let by = c.args.by.now in
    multiple_written s.signature (terms (shapes s.nodes)) c.args.real c.args.name c.requires.name c.in_ok-value.value c.in_ok-value.ensures.normal c.args.of.now.name (ratio (as_read by.constant) (as_read by.den)) c.args.of.now.value.now c.requires.of.written c.in_ok-value.ensures.exact
