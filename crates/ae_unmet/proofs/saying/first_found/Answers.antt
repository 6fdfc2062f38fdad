use Rattle.std.specs.Prelude.{List, length}
use Rattle.std.proofs.Common.{sym, subst}
use Rattle.std.proofs.lemmas.Result.{IfOk-weaker}
use Rattle.ae_literals.specs.declared.said.Said.{Said}
use Rattle.ae_literals.specs.Said.{AreWithin}
use Rattle.ae_turns.proofs.Representatives.{representatives_are_names}
use Rattle.ae_unmet.proofs.OneValue.{reps_long}
use Rattle.ae_unmet.proofs.SaidPlaces.{said_within}
use Rattle.ae_unmet.proofs.FoundUnmet.{found_some, found_none}
use Rattle.ae_unmet.proofs.saying.first_found.Goals as goal

pub first_unmet-requires-clause-same : goal.first_unmet-requires-clause-same
first_unmet-requires-clause-same c = sym ((c.requires.taken.fits).terms).signature

pub first_unmet-requires-clause-one_each : goal.first_unmet-requires-clause-one_each
first_unmet-requires-clause-one_each c = reps_long c.args.held.now c.args.store.now c.requires.taken c.args.reps.now c.requires.reps

pub first_unmet-requires-clause-reps : goal.first_unmet-requires-clause-reps
first_unmet-requires-clause-reps c = representatives_are_names c.args.held.now c.args.store.now c.args.reps.now c.requires.taken c.requires.reps

pub first_unmet-requires-clause-said : goal.first_unmet-requires-clause-said
first_unmet-requires-clause-said c =
    subst (λ (ys : List Said). AreWithin (length c.args.store.now.nodes) ys) (sym c.as_slice.ensures) (said_within c.args.store.now c.args.held.now c.requires.taken c.in_ok-said.said c.in_ok-said.ensures)

pub returns-clause-some : goal.returns-clause-some
returns-clause-some c =
    IfOk-weaker c.first_unmet.result _ _
    (λ u h. found_some c.args.store.now c.args.held.now c.args.reps.now c.requires.reps c.in_ok-said.said c.in_ok-said.ensures c.as_slice.result.now c.as_slice.ensures u h) c.first_unmet.ensures.unmet

pub returns-clause-none : goal.returns-clause-none
returns-clause-none c =
    IfOk-weaker c.first_unmet.result _ _
    (λ u h. found_none c.args.store.now c.args.held.now c.args.reps.now c.in_ok-said.said c.in_ok-said.ensures c.as_slice.result.now c.as_slice.ensures u h) c.first_unmet.ensures.met
