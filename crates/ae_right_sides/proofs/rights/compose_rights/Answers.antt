use Rattle.ae_turns.proofs.DroppedRules.{kept_in}
use Rattle.ae_right_sides.proofs.Lefts.{cleared_still}
use Rattle.ae_right_sides.proofs.OtherRights.{rights_then, taken_still, rights_lead}
use Rattle.ae_right_sides.proofs.rights.compose_rights.Goals as goal

-- ---- a refusal of renaming
pub returns-in_err-rename_all-clause-leads : goal.returns-in_err-rename_all-clause-leads
returns-in_err-rename_all-clause-leads c = rights_lead c.args.store.now c.args.held.now c.rename_all.new.held ((c.requires.taken).fits).right c.rename_all.ensures.rights

pub returns-in_err-rename_all-clause-lefts : goal.returns-in_err-rename_all-clause-lefts
returns-in_err-rename_all-clause-lefts c = (c.rename_all.ensures.rights).lefts

pub returns-in_err-rename_all-clause-pairs : goal.returns-in_err-rename_all-clause-pairs
returns-in_err-rename_all-clause-pairs c = (c.rename_all.ensures.rights).pairs

pub returns-in_err-rename_all-clause-queue : goal.returns-in_err-rename_all-clause-queue
returns-in_err-rename_all-clause-queue c = (c.rename_all.ensures.rights).queue

pub returns-in_err-rename_all-clause-others : goal.returns-in_err-rename_all-clause-others
returns-in_err-rename_all-clause-others c = (c.rename_all.ensures.rights).others

-- ---- all are renamed
pub reduce_all-requires : goal.reduce_all-requires
reduce_all-requires c = record { taken = taken_still c.args.store.now c.args.held.now c.rename_all.new.held c.rename_all.ensures.rights c.requires.taken }

pub returns-in_err-reduce_all-clause-leads : goal.returns-in_err-reduce_all-clause-leads
returns-in_err-reduce_all-clause-leads c =
    let o = c.args.held.now in
    let q = c.reduce_all.new.held in
    rights_lead c.args.store.now o q ((c.requires.taken).fits).right (rights_then c.args.store.now o c.rename_all.new.held q c.rename_all.ensures.rights c.reduce_all.ensures.rights)

pub returns-in_err-reduce_all-clause-lefts : goal.returns-in_err-reduce_all-clause-lefts
returns-in_err-reduce_all-clause-lefts c =
    (rights_then c.args.store.now c.args.held.now c.rename_all.new.held c.reduce_all.new.held c.rename_all.ensures.rights c.reduce_all.ensures.rights).lefts

pub returns-in_err-reduce_all-clause-pairs : goal.returns-in_err-reduce_all-clause-pairs
returns-in_err-reduce_all-clause-pairs c =
    (rights_then c.args.store.now c.args.held.now c.rename_all.new.held c.reduce_all.new.held c.rename_all.ensures.rights c.reduce_all.ensures.rights).pairs

pub returns-in_err-reduce_all-clause-queue : goal.returns-in_err-reduce_all-clause-queue
returns-in_err-reduce_all-clause-queue c =
    (rights_then c.args.store.now c.args.held.now c.rename_all.new.held c.reduce_all.new.held c.rename_all.ensures.rights c.reduce_all.ensures.rights).queue

pub returns-in_err-reduce_all-clause-others : goal.returns-in_err-reduce_all-clause-others
returns-in_err-reduce_all-clause-others c =
    (rights_then c.args.store.now c.args.held.now c.rename_all.new.held c.reduce_all.new.held c.rename_all.ensures.rights c.reduce_all.ensures.rights).others

-- ---- all are reduced
pub returns-clause-leads : goal.returns-clause-leads
returns-clause-leads c =
    let o = c.args.held.now in
    let q = c.reduce_all.new.held in
    rights_lead c.args.store.now o q ((c.requires.taken).fits).right (rights_then c.args.store.now o c.rename_all.new.held q c.rename_all.ensures.rights c.reduce_all.ensures.rights)

pub returns-clause-step : goal.returns-clause-step
returns-clause-step c = (rights_then c.args.store.now c.args.held.now c.rename_all.new.held c.reduce_all.new.held c.rename_all.ensures.rights c.reduce_all.ensures.rights).step

pub returns-clause-composed : goal.returns-clause-composed
returns-clause-composed c =
    let o = c.args.held.now in
    let q = c.reduce_all.new.held in
    let all = rights_then c.args.store.now o c.rename_all.new.held q c.rename_all.ensures.rights c.reduce_all.ensures.rights in
    record {
      cleared = cleared_still (kept_in o.equations) (kept_in q.equations) all.lefts c.args.reps.now c.requires.cleared;
      rights = c.reduce_all.ensures.own c.args.reps.now c.in_ok-rename_all.ensures.own;
      reduced = c.in_ok-reduce_all.ensures.reduced;
    }

pub returns-clause-lefts : goal.returns-clause-lefts
returns-clause-lefts c = (rights_then c.args.store.now c.args.held.now c.rename_all.new.held c.reduce_all.new.held c.rename_all.ensures.rights c.reduce_all.ensures.rights).lefts

pub returns-clause-pairs : goal.returns-clause-pairs
returns-clause-pairs c = (rights_then c.args.store.now c.args.held.now c.rename_all.new.held c.reduce_all.new.held c.rename_all.ensures.rights c.reduce_all.ensures.rights).pairs

pub returns-clause-queue : goal.returns-clause-queue
returns-clause-queue c = (rights_then c.args.store.now c.args.held.now c.rename_all.new.held c.reduce_all.new.held c.rename_all.ensures.rights c.reduce_all.ensures.rights).queue

pub returns-clause-others : goal.returns-clause-others
returns-clause-others c = (rights_then c.args.store.now c.args.held.now c.rename_all.new.held c.reduce_all.new.held c.rename_all.ensures.rights c.reduce_all.ensures.rights).others
