use Rattle.std.specs.Prelude.{Err}
use Rattle.std.proofs.Common.{refl}
use Rattle.ae_journal.specs.Journals.{live}
use Rattle.ae_turns.specs.declared.found.Found.{Found}
use Rattle.ae_turns.proofs.Budgets.{within_still}
use Rattle.ae_turns.proofs.Steps.{going_on_leads}
use Rattle.ae_value_turns.proofs.TakenNames.{steps_are, said_are}
use Rattle.ae_number_solving.specs.Inner.Equated.{AreEquated}
use Rattle.ae_number_solving.specs.Inner.Widths.{IsDifferenceWide}
use Rattle.ae_value_table.specs.Table.{number_at}
use Rattle.ae_number_solving.proofs.SumWidths.{number_is}
use Rattle.ae_number_solving.proofs.Joining.{difference_licensed}
use Rattle.ae_number_solving.proofs.SolvedLines.{stepped, stepped_leads, stepped_in_step}
use Rattle.ae_number_solving.proofs.Equating.{name_known, same_real, name_written, some_difference}
use Rattle.ae_number_solving.proofs.Ends.{others_of}
use Rattle.ae_number_solving.proofs.numbers.number_equation.Goals as goal

pub entry-requires : goal.entry-requires
entry-requires c = name_known c.args.held.now c.args.store.now c.requires.taken c.args.left c.requires.within.0

-- ---- the difference
pub zero_difference-requires-clause-fits : goal.zero_difference-requires-clause-fits
zero_difference-requires-clause-fits c = steps_are c.args.held.now c.args.store.now c.requires.taken

pub zero_difference-requires-clause-said : goal.zero_difference-requires-clause-said
zero_difference-requires-clause-said c = said_are c.args.held.now c.args.store.now c.requires.taken

pub zero_difference-requires-clause-left : goal.zero_difference-requires-clause-left
zero_difference-requires-clause-left c =
    let o = c.args.held.now in
    let s = c.args.store.now in
    let n = c.requires.numbers in
    let same = same_real o s c.requires.taken c.args.left c.requires.within.0 n.0 c.is_real-real.result c.entry.result.now c.entry.ensures n.1 c.is_real-real.ensures in
    name_written o s c.requires.taken c.args.left c.requires.within.0 n.0 c.is_real-real.result same n.1

pub zero_difference-requires-clause-right : goal.zero_difference-requires-clause-right
zero_difference-requires-clause-right c =
    let o = c.args.held.now in
    let s = c.args.store.now in
    let n = c.requires.numbers in
    let same = same_real o s c.requires.taken c.args.left c.requires.within.0 n.0 c.is_real-real.result c.entry.result.now c.entry.ensures n.1 c.is_real-real.ensures in
    name_written o s c.requires.taken c.args.right c.requires.within.1 n.0 c.is_real-real.result same n.2

-- ---- its settling
pub settle-requires-clause-difference : goal.settle-requires-clause-difference
settle-requires-clause-difference c =
    let o = c.args.held.now in
    let s = c.args.store.now in
    let n = c.requires.numbers in
    let real = c.is_real-real.result in
    let same = same_real o s c.requires.taken c.args.left c.requires.within.0 n.0 real c.entry.result.now c.entry.ensures n.1 c.is_real-real.ensures in
    let e : AreEquated s o real c.args.left c.args.right c.args.step = record {
      taken = c.requires.taken;
      left_within = c.requires.within.0;
      right_within = c.requires.within.1;
      left_written = name_written o s c.requires.taken c.args.left c.requires.within.0 n.0 real same n.1;
      right_written = name_written o s c.requires.taken c.args.right c.requires.within.1 n.0 real same n.2;
      apart = c.requires.apart;
      states = c.requires.states;
      rests = c.requires.rests;
    } in
    some_difference s o real c.args.left c.args.right c.args.step e c.zero_difference.new.justs c.zero_difference.ensures.front c.zero_difference.ensures.fits c.in-Ok.difference.form c.in-Ok.difference.zero c.in-Ok.ensures.means
    c.in-Ok.ensures.over c.in-Ok.ensures.zero c.in-Ok.ensures.rests

pub settle-requires-clause-step : goal.settle-requires-clause-step
settle-requires-clause-step c =
    stepped_in_step c.args.held.now c.args.store.now c.requires.taken c.zero_difference.new.justs c.zero_difference.ensures.front c.zero_difference.ensures.fits (live c.args.journal.now.lines) c.requires.step

pub returns-in-Ok-clause-leads : goal.returns-in-Ok-clause-leads
returns-in-Ok-clause-leads c =
    let o = c.args.held.now in
    let s = c.args.store.now in
    let j = c.args.journal.now in
    let t = c.requires.taken in
    let front = c.zero_difference.ensures.front in
    let fits = c.zero_difference.ensures.fits in
    going_on_leads s o (stepped o s t c.zero_difference.new.justs front fits) c.settle.new.held j j c.settle.new.journal (stepped_leads o s t c.zero_difference.new.justs front fits j) c.settle.ensures.leads

pub returns-in-Ok-clause-others : goal.returns-in-Ok-clause-others
returns-in-Ok-clause-others c = others_of c.args.held.now c.settle.new.held c.settle.new.held.values c.settle.new.held.justs c.settle.new.held.conflicts c.settle.ensures.others

-- ---- the difference leaves the limits, or memory is refused
pub returns-in-Err-clause-leads : goal.returns-in-Err-clause-leads
returns-in-Err-clause-leads c = stepped_leads c.args.held.now c.args.store.now c.requires.taken c.zero_difference.new.justs c.zero_difference.ensures.front c.zero_difference.ensures.fits c.args.journal.now

pub returns-in-Err-clause-steps : goal.returns-in-Err-clause-steps
returns-in-Err-clause-steps c = λ e. absurd (c.failed.ensures.steps (cc e))

pub returns-in-Err-clause-number : goal.returns-in-Err-clause-number
returns-in-Err-clause-number c = λ wide z.
    let o = c.args.held.now in
    let s = c.args.store.now in
    let n = c.requires.numbers in
    let real = c.is_real-real.result in
    let same = same_real o s c.requires.taken c.args.left c.requires.within.0 n.0 real c.entry.result.now c.entry.ensures n.1 c.is_real-real.ensures in
    let e : AreEquated s o real c.args.left c.args.right c.args.step = record {
      taken = c.requires.taken;
      left_within = c.requires.within.0;
      right_within = c.requires.within.1;
      left_written = name_written o s c.requires.taken c.args.left c.requires.within.0 n.0 real same n.1;
      right_written = name_written o s c.requires.taken c.args.right c.requires.within.1 n.0 real same n.2;
      apart = c.requires.apart;
      states = c.requires.states;
      rests = c.requires.rests;
    } in
    let refused = c.failed.ensures.number wide (cc z) in
    let w : IsDifferenceWide (number_at o.values c.args.left) (number_at o.values c.args.right) wide =
    number_is (IsDifferenceWide (number_at o.values c.args.left) (number_at o.values c.args.right)) c.in-Err.refused wide c.in-Err.ensures.wide refused in
    difference_licensed s o real c.args.left c.args.right c.args.step e c.stores_are_in_step.ensures c.widths_of_solving_are_licensed.ensures.differences c.args.journal.now.lines wide c.requires.step w

pub returns-in-Ok-clause-number : goal.returns-in-Ok-clause-number
returns-in-Ok-clause-number c = λ wide z. c.settle.ensures.number wide z

-- ---- how many lines may be noted
pub returns-in-Ok-clause-budget : goal.returns-in-Ok-clause-budget
returns-in-Ok-clause-budget c = let b = c.settle.ensures.budget in record { most = b.most; left = b.left; fewer = b.fewer }

pub returns-in-Err-clause-budget : goal.returns-in-Err-clause-budget
returns-in-Err-clause-budget c =
    let ls = c.args.journal.now.lines in
    within_still c.args.store.now c.args.held.now _ ls ls refl Found (Err c.failed.result) tt (λ e. c.failed.ensures.steps (cc e))
