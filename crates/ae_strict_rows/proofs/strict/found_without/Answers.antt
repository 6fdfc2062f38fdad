use Rattle.std.specs.Prelude.{List, length}
use Rattle.std.proofs.Common.{sym, ap, ◌∙◌, subst}
use Rattle.ae_explain.specs.declared.trail.Assigned.{Assigned}
use Rattle.ae_literal_rows.specs.Beside.{IsTold}
use Rattle.ae_state.specs.Names.{assumed_in}
use Rattle.ae_theory.specs.Noting.{IsBlockOf}
use Rattle.ae_theory.specs.Tagged.{Tagged}
use Rattle.ae_strict_rows.proofs.strict.found_without.Goals as goal

pub system-requires : goal.system-requires
system-requires c = record { fits = c.requires.fits }

pub other_rows-requires-clause-fits : goal.other_rows-requires-clause-fits
other_rows-requires-clause-fits c = c.requires.fits

pub other_rows-requires-clause-taken : goal.other_rows-requires-clause-taken
other_rows-requires-clause-taken c = c.requires.taken

pub other_rows-requires-clause-system : goal.other_rows-requires-clause-system
other_rows-requires-clause-system c = c.in_ok-system.ensures.system

pub other_rows-requires-clause-opaque : goal.other_rows-requires-clause-opaque
other_rows-requires-clause-opaque c = c.requires.opaque

pub other_rows-requires-clause-told : goal.other_rows-requires-clause-told
other_rows-requires-clause-told c = subst (IsTold c.args.state.now c.args.store.now) (sym c.as_slice.ensures.value) c.requires.told

pub other_rows-requires-clause-left_out : goal.other_rows-requires-clause-left_out
other_rows-requires-clause-left_out c = ap length c.as_slice-2.ensures ∙ c.in_ok-left_out.ensures ∙ sym (ap (λ (t : List Assigned). length t) c.as_slice.ensures.value)

pub solve-requires : goal.solve-requires
solve-requires c = record { fits = c.in_ok-rows.ensures.fits }

pub returns : goal.returns
returns c e is = record {
  contradictory = c.solve.ensures.contradictory e is;
  literals = subst (λ (ts : List Tagged). IsBlockOf ts e.block.deriv.hyps e.tags) (c.requires.told).assumed (c.solve.ensures.literals e (assumed_in c.args.state.now) is c.in_ok-rows.ensures.of_tags);
  built = c.solve.ensures.built e is;
}
