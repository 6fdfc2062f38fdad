use Rattle.std.proofs.Common.{List, ap, sym, subst}
use Rattle.std.specs.List.{Contains}
use Rattle.ae_journal.specs.Noted.{Noted}
use Rattle.ae_journal.specs.declared.lines.Line.{Line}
use Rattle.ae_made_instances.proofs.Coming.{noted_come, stated_instance, stopped_here}
use Rattle.ae_made_instances.proofs.noting.note_line.Goals as goal
use Rattle.ae_searching.specs.Steps.{IsInstanceLine}

pub is_noted-requires : goal.is_noted-requires
is_noted-requires g c = record { instance = subst IsInstanceLine (sym c.get.ensures) (stated_instance c.args.line.own c.args.line.statement c.requires.ready.stated_by) }

pub say_again-requires-clause-searching : goal.say_again-requires-clause-searching
say_again-requires-clause-searching g c = (c.args.level, c.requires.searching)

pub say_again-requires-clause-there : goal.say_again-requires-clause-there
say_again-requires-clause-there g c = subst (λ (js : List Line). Contains js c.args.line.own) c.lines.ensures (subst (Contains c.lines.result.now) c.get.ensures c.if-is_noted.ensures)

pub returns-then-is_noted-clause-searching : goal.returns-then-is_noted-clause-searching
returns-then-is_noted-clause-searching g c = c.in_ok-say_again.ensures.searching c.args.level c.requires.searching

pub returns-then-is_noted-clause-limit : goal.returns-then-is_noted-clause-limit
returns-then-is_noted-clause-limit g c = ap (λ (z : Noted). z.limit) c.say_again.ensures.journal

pub returns-in_err-say_again-clause-limit : goal.returns-in_err-say_again-clause-limit
returns-in_err-say_again-clause-limit g c = ap (λ (z : Noted). z.limit) c.say_again.ensures.journal

pub returns-in_err-has_room-clause-stopped : goal.returns-in_err-has_room-clause-stopped
returns-in_err-has_room-clause-stopped g c e =
    let t = c.args.task in
    stopped_here t.problem.now t.goal t.generations c.args.level c.args.search.now c.requires.searching c.requires.beside

pub note_new-requires-clause-new : goal.note_new-requires-clause-new
note_new-requires-clause-new g c i = c.if-is_noted.ensures (subst (Contains c.lines.result.now) (sym c.get.ensures) (subst (λ (js : List Line). Contains js c.args.line.own) (sym c.lines.ensures) i))

pub returns-clause-noted : goal.returns-clause-noted
returns-clause-noted g c =
    let t = c.args.task in
    noted_come t.problem.now t.goal t.generations c.args.level c.args.search.now c.requires.searching c.requires.beside c.args.line c.requires.ready c.args.number c.note_new.new.search c.in_ok-note_new.ensures.comes
