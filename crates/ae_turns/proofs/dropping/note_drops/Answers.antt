use Rattle.std.specs.Prelude.{map, Some}
use Rattle.std.proofs.Common.{sym, ap, ◌∙◌, arith}
use Rattle.std.proofs.lemmas.List.{length-map}
use Rattle.std.proofs.lemmas.Option.{slice_get-get_or}
use Rattle.ae_base.proofs.ListFacts.{get_map}
use Rattle.ae_rule_changes.specs.Entries.{entry_of}
use Rattle.ae_turns.proofs.DroppedRules.{noted_first, noted_more, noted_last}
use Rattle.ae_turns.proofs.dropping.note_drops.Goals as goal

pub loop-pair-init : goal.loop-pair-init
loop-pair-init c = noted_first c.args.journal.now (map entry_of c.args.pairs.now)

pub loop-pair-preserved : goal.loop-pair-preserved
loop-pair-preserved c =
    let p = c.pair-item.result in
    let at = get_map entry_of c.args.pairs.now c.loop-pair.pair-index p (slice_get-get_or c.args.pairs.now c.loop-pair.pair-index p c.loop-pair-test.true ∙ ap Some (sym c.pair-item.is)) in
    noted_more c.args.journal.now c.loop-pair.journal c.note.new.self (map entry_of c.args.pairs.now) c.loop-pair.pair-index (entry_of p) c.in_ok-line.line c.loop-pair.invariant c.in-Ok.ensures.ok c.in_ok-line.ensures at

pub returns-in_err-line-clause-noted : goal.returns-in_err-line-clause-noted
returns-in_err-line-clause-noted c = record { many = c.loop-pair.pair-index; is = c.loop-pair.invariant }

pub returns-in-Err-clause-noted : goal.returns-in-Err-clause-noted
returns-in-Err-clause-noted c = record { many = c.loop-pair.pair-index; is = c.in-Err.ensures.err ∙ c.loop-pair.invariant }

pub returns-clause-noted : goal.returns-clause-noted
returns-clause-noted c = record { many = c.loop-pair.pair-index; is = c.loop-pair.invariant }

pub returns-clause-all : goal.returns-clause-all
returns-clause-all c =
    noted_last c.args.journal.now c.loop-pair.journal (map entry_of c.args.pairs.now) c.loop-pair.pair-index (omega (arith, c.loop-pair-test.false, length-map c.args.pairs.now entry_of)) c.loop-pair.invariant
