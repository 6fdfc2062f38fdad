use Rattle.std.proofs.lemmas.Option.{IfSome_then}
use Rattle.ae_ordered_rounds.proofs.Denied.{form_normal}
use Rattle.ae_ordered_rounds.proofs.meeting.form_of.Goals as goal

pub returns-in-Some : goal.returns-in-Some
returns-in-Some c =
    IfSome_then c.number_form.result c.number_form.ensures (λ form is. form_normal c.args.system.now c.requires.normal c.args.term.now c.in-Some.written.now form.now c.in-Some.ensures.some is)
