use Rattle.std.proofs.Common.{map, string_bytes, subst, ⊎_elim}
use Rattle.ae_cli.proofs.RightWords.{one_stated}
use Rattle.ae_cli.proofs.Ways.{way_below_three}
use Rattle.ae_cli.specs.declared.options.Mode.TheVariants.{Prove, Demo}
use Rattle.ae_cli.specs.declared.options.Options.{Options}
use Rattle.ae_step_bounds.proofs.Bounds.{at_least_one, at_most_million}
use Rattle.ae_driver.specs.Inner.Endings.{IsAsked}
use Rattle.ae_driver.specs.Output.{IsDone, IsCutOff, IsOutOfMemory}
use Rattle.ae_driver.specs.Inner.Counting.{DemoEnds}
use Rattle.ae_driver.proofs.Checked.{asked, asks_apart, no_demo_to_check, no_demo_to_prove}
use Rattle.ae_driver.proofs.Counting.{demo_asked, demo_complete, demo_no_read, demo_no_usage, no_demo_yet}
use Rattle.ae_driver.proofs.program.run.Goals as goal

pub prove-requires : goal.prove-requires
prove-requires g c =
    let words = map string_bytes c.args.words.now in
    let stated = (subst (IsAsked words) c.in-Ok-Proofs.field-0-is c.in-Ok-Proofs.ensures).0 in
    record {
      way = way_below_three words c.in-Ok-Proofs.asked stated;
      least = at_least_one words c.in-Ok-Proofs.asked stated;
      most = at_most_million words c.in-Ok-Proofs.asked stated;
    }

pub answer_demo-requires : goal.answer_demo-requires
answer_demo-requires g c =
    let words = map string_bytes c.args.words.now in
    let stated = (subst (IsAsked words) c.in-Ok-Demo.field-0-is c.in-Ok-Demo.ensures).0 in
    record {
      way = way_below_three words c.in-Ok-Demo.asked stated;
      least = at_least_one words c.in-Ok-Demo.asked stated;
      most = at_most_million words c.in-Ok-Demo.asked stated;
    }

pub returns-in-Ok-Proofs-clause-done : goal.returns-in-Ok-Proofs-clause-done
returns-in-Ok-Proofs-clause-done g c = λ ask ended.
    let words = map string_bytes c.args.words.now in
    let here = (subst (IsAsked words) c.in-Ok-Proofs.field-0-is c.in-Ok-Proofs.ensures).0 in
    subst (λ (o : Options). IsDone o.limits (g.S.Source.left c.args.source.now) (g.K.Sink.written c.args.sink.now) (g.K.Sink.written c.prove.new.sink))
    (one_stated words c.in-Ok-Proofs.asked ask.options here ask.stated) (c.prove.ensures.done ended)

pub returns-in-Ok-Proofs-clause-cut_off : goal.returns-in-Ok-Proofs-clause-cut_off
returns-in-Ok-Proofs-clause-cut_off g c = λ ask ended.
    let words = map string_bytes c.args.words.now in
    let here = (subst (IsAsked words) c.in-Ok-Proofs.field-0-is c.in-Ok-Proofs.ensures).0 in
    subst (λ (o : Options). IsCutOff o.limits (g.S.Source.left c.args.source.now) (g.K.Sink.written c.args.sink.now) (g.K.Sink.written c.prove.new.sink))
    (one_stated words c.in-Ok-Proofs.asked ask.options here ask.stated) (c.prove.ensures.cut_off ended)

pub returns-in-Ok-Proofs-clause-memory : goal.returns-in-Ok-Proofs-clause-memory
returns-in-Ok-Proofs-clause-memory g c = λ ask ended.
    let words = map string_bytes c.args.words.now in
    let here = (subst (IsAsked words) c.in-Ok-Proofs.field-0-is c.in-Ok-Proofs.ensures).0 in
    subst (λ (o : Options). IsOutOfMemory o.limits (g.S.Source.left c.args.source.now) (g.K.Sink.written c.args.sink.now) (g.K.Sink.written c.prove.new.sink))
    (one_stated words c.in-Ok-Proofs.asked ask.options here ask.stated) (c.prove.ensures.memory ended)

pub returns-in-Ok-Proofs-clause-done_checking : goal.returns-in-Ok-Proofs-clause-done_checking
returns-in-Ok-Proofs-clause-done_checking g c = λ check.
    let words = map string_bytes c.args.words.now in
    absurd (asks_apart words (asked words Prove c.in-Ok-Proofs.asked (subst (IsAsked words) c.in-Ok-Proofs.field-0-is c.in-Ok-Proofs.ensures)) check)

pub returns-in-Ok-Proofs-clause-complete_checking : goal.returns-in-Ok-Proofs-clause-complete_checking
returns-in-Ok-Proofs-clause-complete_checking g c = λ check.
    let words = map string_bytes c.args.words.now in
    absurd (asks_apart words (asked words Prove c.in-Ok-Proofs.asked (subst (IsAsked words) c.in-Ok-Proofs.field-0-is c.in-Ok-Proofs.ensures)) check)

pub returns-in-Ok-Proofs-clause-refused_checking : goal.returns-in-Ok-Proofs-clause-refused_checking
returns-in-Ok-Proofs-clause-refused_checking g c = λ check.
    let words = map string_bytes c.args.words.now in
    absurd (asks_apart words (asked words Prove c.in-Ok-Proofs.asked (subst (IsAsked words) c.in-Ok-Proofs.field-0-is c.in-Ok-Proofs.ensures)) check)

pub returns-in-Ok-Proofs-clause-cut_off_checking : goal.returns-in-Ok-Proofs-clause-cut_off_checking
returns-in-Ok-Proofs-clause-cut_off_checking g c = λ check.
    let words = map string_bytes c.args.words.now in
    absurd (asks_apart words (asked words Prove c.in-Ok-Proofs.asked (subst (IsAsked words) c.in-Ok-Proofs.field-0-is c.in-Ok-Proofs.ensures)) check)

pub returns-in-Ok-Proofs-clause-memory_checking : goal.returns-in-Ok-Proofs-clause-memory_checking
returns-in-Ok-Proofs-clause-memory_checking g c = λ check.
    let words = map string_bytes c.args.words.now in
    absurd (asks_apart words (asked words Prove c.in-Ok-Proofs.asked (subst (IsAsked words) c.in-Ok-Proofs.field-0-is c.in-Ok-Proofs.ensures)) check)

pub returns-in-Ok-Proofs-clause-done_demo : goal.returns-in-Ok-Proofs-clause-done_demo
returns-in-Ok-Proofs-clause-done_demo g c = λ n demo.
    let words = map string_bytes c.args.words.now in
    absurd (no_demo_to_prove words n (asked words Prove c.in-Ok-Proofs.asked (subst (IsAsked words) c.in-Ok-Proofs.field-0-is c.in-Ok-Proofs.ensures)) demo)

pub returns-in-Ok-Proofs-clause-complete_demo : goal.returns-in-Ok-Proofs-clause-complete_demo
returns-in-Ok-Proofs-clause-complete_demo g c = λ n demo.
    let words = map string_bytes c.args.words.now in
    absurd (no_demo_to_prove words n (asked words Prove c.in-Ok-Proofs.asked (subst (IsAsked words) c.in-Ok-Proofs.field-0-is c.in-Ok-Proofs.ensures)) demo)

pub returns-in-Ok-Proofs-clause-cut_off_demo : goal.returns-in-Ok-Proofs-clause-cut_off_demo
returns-in-Ok-Proofs-clause-cut_off_demo g c = λ n demo.
    let words = map string_bytes c.args.words.now in
    absurd (no_demo_to_prove words n (asked words Prove c.in-Ok-Proofs.asked (subst (IsAsked words) c.in-Ok-Proofs.field-0-is c.in-Ok-Proofs.ensures)) demo)

pub returns-in-Ok-Proofs-clause-memory_demo : goal.returns-in-Ok-Proofs-clause-memory_demo
returns-in-Ok-Proofs-clause-memory_demo g c = λ n demo.
    let words = map string_bytes c.args.words.now in
    absurd (no_demo_to_prove words n (asked words Prove c.in-Ok-Proofs.asked (subst (IsAsked words) c.in-Ok-Proofs.field-0-is c.in-Ok-Proofs.ensures)) demo)

pub returns-in-Ok-Proofs-clause-unread_demo : goal.returns-in-Ok-Proofs-clause-unread_demo
returns-in-Ok-Proofs-clause-unread_demo g c = λ n demo.
    let words = map string_bytes c.args.words.now in
    absurd (no_demo_to_prove words n (asked words Prove c.in-Ok-Proofs.asked (subst (IsAsked words) c.in-Ok-Proofs.field-0-is c.in-Ok-Proofs.ensures)) demo)

pub returns-in-Ok-Proofs-clause-end : goal.returns-in-Ok-Proofs-clause-end
returns-in-Ok-Proofs-clause-end g c = λ either. c.prove.ensures.end

pub returns-in-Ok-Check-clause-done : goal.returns-in-Ok-Check-clause-done
returns-in-Ok-Check-clause-done g c = λ proofs. absurd (asks_apart (map string_bytes c.args.words.now) proofs (subst (IsAsked (map string_bytes c.args.words.now)) c.in-Ok-Check.field-0-is c.in-Ok-Check.ensures))

pub returns-in-Ok-Check-clause-passes : goal.returns-in-Ok-Check-clause-passes
returns-in-Ok-Check-clause-passes g c = λ proofs. absurd (asks_apart (map string_bytes c.args.words.now) proofs (subst (IsAsked (map string_bytes c.args.words.now)) c.in-Ok-Check.field-0-is c.in-Ok-Check.ensures))

pub returns-in-Ok-Check-clause-complete : goal.returns-in-Ok-Check-clause-complete
returns-in-Ok-Check-clause-complete g c = λ proofs. absurd (asks_apart (map string_bytes c.args.words.now) proofs (subst (IsAsked (map string_bytes c.args.words.now)) c.in-Ok-Check.field-0-is c.in-Ok-Check.ensures))

pub returns-in-Ok-Check-clause-refused : goal.returns-in-Ok-Check-clause-refused
returns-in-Ok-Check-clause-refused g c = λ proofs. absurd (asks_apart (map string_bytes c.args.words.now) proofs (subst (IsAsked (map string_bytes c.args.words.now)) c.in-Ok-Check.field-0-is c.in-Ok-Check.ensures))

pub returns-in-Ok-Check-clause-cut_off : goal.returns-in-Ok-Check-clause-cut_off
returns-in-Ok-Check-clause-cut_off g c = λ proofs. absurd (asks_apart (map string_bytes c.args.words.now) proofs (subst (IsAsked (map string_bytes c.args.words.now)) c.in-Ok-Check.field-0-is c.in-Ok-Check.ensures))

pub returns-in-Ok-Check-clause-memory : goal.returns-in-Ok-Check-clause-memory
returns-in-Ok-Check-clause-memory g c = λ proofs. absurd (asks_apart (map string_bytes c.args.words.now) proofs (subst (IsAsked (map string_bytes c.args.words.now)) c.in-Ok-Check.field-0-is c.in-Ok-Check.ensures))

pub returns-in-Ok-Check-clause-done_demo : goal.returns-in-Ok-Check-clause-done_demo
returns-in-Ok-Check-clause-done_demo g c = λ n demo. absurd (no_demo_to_check (map string_bytes c.args.words.now) n (subst (IsAsked (map string_bytes c.args.words.now)) c.in-Ok-Check.field-0-is c.in-Ok-Check.ensures) demo)

pub returns-in-Ok-Check-clause-complete_demo : goal.returns-in-Ok-Check-clause-complete_demo
returns-in-Ok-Check-clause-complete_demo g c = λ n demo. absurd (no_demo_to_check (map string_bytes c.args.words.now) n (subst (IsAsked (map string_bytes c.args.words.now)) c.in-Ok-Check.field-0-is c.in-Ok-Check.ensures) demo)

pub returns-in-Ok-Check-clause-cut_off_demo : goal.returns-in-Ok-Check-clause-cut_off_demo
returns-in-Ok-Check-clause-cut_off_demo g c = λ n demo. absurd (no_demo_to_check (map string_bytes c.args.words.now) n (subst (IsAsked (map string_bytes c.args.words.now)) c.in-Ok-Check.field-0-is c.in-Ok-Check.ensures) demo)

pub returns-in-Ok-Check-clause-memory_demo : goal.returns-in-Ok-Check-clause-memory_demo
returns-in-Ok-Check-clause-memory_demo g c = λ n demo. absurd (no_demo_to_check (map string_bytes c.args.words.now) n (subst (IsAsked (map string_bytes c.args.words.now)) c.in-Ok-Check.field-0-is c.in-Ok-Check.ensures) demo)

pub returns-in-Ok-Check-clause-unread_demo : goal.returns-in-Ok-Check-clause-unread_demo
returns-in-Ok-Check-clause-unread_demo g c = λ n demo. absurd (no_demo_to_check (map string_bytes c.args.words.now) n (subst (IsAsked (map string_bytes c.args.words.now)) c.in-Ok-Check.field-0-is c.in-Ok-Check.ensures) demo)

pub returns-in-Ok-Check-clause-end : goal.returns-in-Ok-Check-clause-end
returns-in-Ok-Check-clause-end g c = λ either. c.check.ensures.end

pub returns-in-Ok-Demo-clause-done : goal.returns-in-Ok-Demo-clause-done
returns-in-Ok-Demo-clause-done g c = λ proofs.
    let words = map string_bytes c.args.words.now in
    absurd (no_demo_to_prove words c.in-Ok-Demo.goals proofs (asked words (Demo c.in-Ok-Demo.goals) c.in-Ok-Demo.asked (subst (IsAsked words) c.in-Ok-Demo.field-0-is c.in-Ok-Demo.ensures)))

pub returns-in-Ok-Demo-clause-passes : goal.returns-in-Ok-Demo-clause-passes
returns-in-Ok-Demo-clause-passes g c = λ proofs.
    let words = map string_bytes c.args.words.now in
    absurd (no_demo_to_prove words c.in-Ok-Demo.goals proofs (asked words (Demo c.in-Ok-Demo.goals) c.in-Ok-Demo.asked (subst (IsAsked words) c.in-Ok-Demo.field-0-is c.in-Ok-Demo.ensures)))

pub returns-in-Ok-Demo-clause-complete : goal.returns-in-Ok-Demo-clause-complete
returns-in-Ok-Demo-clause-complete g c = λ proofs.
    let words = map string_bytes c.args.words.now in
    absurd (no_demo_to_prove words c.in-Ok-Demo.goals proofs (asked words (Demo c.in-Ok-Demo.goals) c.in-Ok-Demo.asked (subst (IsAsked words) c.in-Ok-Demo.field-0-is c.in-Ok-Demo.ensures)))

pub returns-in-Ok-Demo-clause-refused : goal.returns-in-Ok-Demo-clause-refused
returns-in-Ok-Demo-clause-refused g c = λ proofs.
    let words = map string_bytes c.args.words.now in
    absurd (no_demo_to_prove words c.in-Ok-Demo.goals proofs (asked words (Demo c.in-Ok-Demo.goals) c.in-Ok-Demo.asked (subst (IsAsked words) c.in-Ok-Demo.field-0-is c.in-Ok-Demo.ensures)))

pub returns-in-Ok-Demo-clause-cut_off : goal.returns-in-Ok-Demo-clause-cut_off
returns-in-Ok-Demo-clause-cut_off g c = λ proofs.
    let words = map string_bytes c.args.words.now in
    absurd (no_demo_to_prove words c.in-Ok-Demo.goals proofs (asked words (Demo c.in-Ok-Demo.goals) c.in-Ok-Demo.asked (subst (IsAsked words) c.in-Ok-Demo.field-0-is c.in-Ok-Demo.ensures)))

pub returns-in-Ok-Demo-clause-memory : goal.returns-in-Ok-Demo-clause-memory
returns-in-Ok-Demo-clause-memory g c = λ proofs.
    let words = map string_bytes c.args.words.now in
    absurd (no_demo_to_prove words c.in-Ok-Demo.goals proofs (asked words (Demo c.in-Ok-Demo.goals) c.in-Ok-Demo.asked (subst (IsAsked words) c.in-Ok-Demo.field-0-is c.in-Ok-Demo.ensures)))

pub returns-in-Ok-Demo-clause-done_checking : goal.returns-in-Ok-Demo-clause-done_checking
returns-in-Ok-Demo-clause-done_checking g c = λ check.
    let words = map string_bytes c.args.words.now in
    absurd (no_demo_to_check words c.in-Ok-Demo.goals check (asked words (Demo c.in-Ok-Demo.goals) c.in-Ok-Demo.asked (subst (IsAsked words) c.in-Ok-Demo.field-0-is c.in-Ok-Demo.ensures)))

pub returns-in-Ok-Demo-clause-complete_checking : goal.returns-in-Ok-Demo-clause-complete_checking
returns-in-Ok-Demo-clause-complete_checking g c = λ check.
    let words = map string_bytes c.args.words.now in
    absurd (no_demo_to_check words c.in-Ok-Demo.goals check (asked words (Demo c.in-Ok-Demo.goals) c.in-Ok-Demo.asked (subst (IsAsked words) c.in-Ok-Demo.field-0-is c.in-Ok-Demo.ensures)))

pub returns-in-Ok-Demo-clause-refused_checking : goal.returns-in-Ok-Demo-clause-refused_checking
returns-in-Ok-Demo-clause-refused_checking g c = λ check.
    let words = map string_bytes c.args.words.now in
    absurd (no_demo_to_check words c.in-Ok-Demo.goals check (asked words (Demo c.in-Ok-Demo.goals) c.in-Ok-Demo.asked (subst (IsAsked words) c.in-Ok-Demo.field-0-is c.in-Ok-Demo.ensures)))

pub returns-in-Ok-Demo-clause-cut_off_checking : goal.returns-in-Ok-Demo-clause-cut_off_checking
returns-in-Ok-Demo-clause-cut_off_checking g c = λ check.
    let words = map string_bytes c.args.words.now in
    absurd (no_demo_to_check words c.in-Ok-Demo.goals check (asked words (Demo c.in-Ok-Demo.goals) c.in-Ok-Demo.asked (subst (IsAsked words) c.in-Ok-Demo.field-0-is c.in-Ok-Demo.ensures)))

pub returns-in-Ok-Demo-clause-memory_checking : goal.returns-in-Ok-Demo-clause-memory_checking
returns-in-Ok-Demo-clause-memory_checking g c = λ check.
    let words = map string_bytes c.args.words.now in
    absurd (no_demo_to_check words c.in-Ok-Demo.goals check (asked words (Demo c.in-Ok-Demo.goals) c.in-Ok-Demo.asked (subst (IsAsked words) c.in-Ok-Demo.field-0-is c.in-Ok-Demo.ensures)))

pub returns-in-Ok-Demo-clause-end : goal.returns-in-Ok-Demo-clause-end
returns-in-Ok-Demo-clause-end g c = λ either.
    let words = map string_bytes c.args.words.now in
    let here = subst (IsAsked words) c.in-Ok-Demo.field-0-is c.in-Ok-Demo.ensures in
    absurd (⊎_elim (λ proofs. no_demo_to_prove words c.in-Ok-Demo.goals proofs (asked words (Demo c.in-Ok-Demo.goals) c.in-Ok-Demo.asked here))
    (λ check. no_demo_to_check words c.in-Ok-Demo.goals check (asked words (Demo c.in-Ok-Demo.goals) c.in-Ok-Demo.asked here)) either)

pub returns-in-Ok-Demo-clause-done_demo : goal.returns-in-Ok-Demo-clause-done_demo
returns-in-Ok-Demo-clause-done_demo g c = λ n ask ended.
    let words = map string_bytes c.args.words.now in
    let here = subst (IsAsked words) c.in-Ok-Demo.field-0-is c.in-Ok-Demo.ensures in
    subst (λ s. DemoEnds ask.options.limits n (g.K.Sink.written c.args.sink.now) (g.K.Sink.written c.answer_demo.new.sink) s) ended
    (demo_asked words c.in-Ok-Demo.goals n c.in-Ok-Demo.asked (g.K.Sink.written c.args.sink.now) (g.K.Sink.written c.answer_demo.new.sink) c.answer_demo.result here ask c.answer_demo.ensures.ends)

pub returns-in-Ok-Demo-clause-cut_off_demo : goal.returns-in-Ok-Demo-clause-cut_off_demo
returns-in-Ok-Demo-clause-cut_off_demo g c = λ n ask ended.
    let words = map string_bytes c.args.words.now in
    let here = subst (IsAsked words) c.in-Ok-Demo.field-0-is c.in-Ok-Demo.ensures in
    subst (λ s. DemoEnds ask.options.limits n (g.K.Sink.written c.args.sink.now) (g.K.Sink.written c.answer_demo.new.sink) s) ended
    (demo_asked words c.in-Ok-Demo.goals n c.in-Ok-Demo.asked (g.K.Sink.written c.args.sink.now) (g.K.Sink.written c.answer_demo.new.sink) c.answer_demo.result here ask c.answer_demo.ensures.ends)

pub returns-in-Ok-Demo-clause-memory_demo : goal.returns-in-Ok-Demo-clause-memory_demo
returns-in-Ok-Demo-clause-memory_demo g c = λ n ask ended.
    let words = map string_bytes c.args.words.now in
    let here = subst (IsAsked words) c.in-Ok-Demo.field-0-is c.in-Ok-Demo.ensures in
    subst (λ s. DemoEnds ask.options.limits n (g.K.Sink.written c.args.sink.now) (g.K.Sink.written c.answer_demo.new.sink) s) ended
    (demo_asked words c.in-Ok-Demo.goals n c.in-Ok-Demo.asked (g.K.Sink.written c.args.sink.now) (g.K.Sink.written c.answer_demo.new.sink) c.answer_demo.result here ask c.answer_demo.ensures.ends)

pub returns-in-Ok-Demo-clause-complete_demo : goal.returns-in-Ok-Demo-clause-complete_demo
returns-in-Ok-Demo-clause-complete_demo g c = λ n ask. demo_complete c.in-Ok-Demo.asked.limits c.in-Ok-Demo.goals (g.K.Sink.written c.args.sink.now) (g.K.Sink.written c.answer_demo.new.sink) c.answer_demo.result c.answer_demo.ensures.ends

pub returns-in-Ok-Demo-clause-usage : goal.returns-in-Ok-Demo-clause-usage
returns-in-Ok-Demo-clause-usage g c = λ ended.
    absurd (demo_no_usage c.in-Ok-Demo.asked.limits c.in-Ok-Demo.goals (g.K.Sink.written c.args.sink.now) (g.K.Sink.written c.answer_demo.new.sink) c.answer_demo.result c.answer_demo.ensures.ends ended)

pub returns-in-Ok-Demo-clause-usage_line : goal.returns-in-Ok-Demo-clause-usage_line
returns-in-Ok-Demo-clause-usage_line g c = λ ended.
    absurd (demo_no_usage c.in-Ok-Demo.asked.limits c.in-Ok-Demo.goals (g.K.Sink.written c.args.sink.now) (g.K.Sink.written c.answer_demo.new.sink) c.answer_demo.result c.answer_demo.ensures.ends ended)

pub returns-in-Ok-Demo-clause-read_fault : goal.returns-in-Ok-Demo-clause-read_fault
returns-in-Ok-Demo-clause-read_fault g c = λ ended.
    absurd (demo_no_read c.in-Ok-Demo.asked.limits c.in-Ok-Demo.goals (g.K.Sink.written c.args.sink.now) (g.K.Sink.written c.answer_demo.new.sink) c.answer_demo.result c.answer_demo.ensures.ends ended)

pub returns-in-Ok-Demo-clause-nothing : goal.returns-in-Ok-Demo-clause-nothing
returns-in-Ok-Demo-clause-nothing g c = λ ended.
    absurd (demo_no_read c.in-Ok-Demo.asked.limits c.in-Ok-Demo.goals (g.K.Sink.written c.args.sink.now) (g.K.Sink.written c.answer_demo.new.sink) c.answer_demo.result c.answer_demo.ensures.ends ended)

pub returns-in-Ok-Demo-clause-words : goal.returns-in-Ok-Demo-clause-words
returns-in-Ok-Demo-clause-words g c = λ none. absurd (none c.in-Ok-Demo.asked (subst (IsAsked (map string_bytes c.args.words.now)) c.in-Ok-Demo.field-0-is c.in-Ok-Demo.ensures).0)

pub returns-in-Ok-Demo-clause-usage_cut_off : goal.returns-in-Ok-Demo-clause-usage_cut_off
returns-in-Ok-Demo-clause-usage_cut_off g c = λ none. absurd (none c.in-Ok-Demo.asked (subst (IsAsked (map string_bytes c.args.words.now)) c.in-Ok-Demo.field-0-is c.in-Ok-Demo.ensures).0)

pub returns-in-Ok-Demo-clause-memory_nothing : goal.returns-in-Ok-Demo-clause-memory_nothing
returns-in-Ok-Demo-clause-memory_nothing g c = λ none. absurd (none c.in-Ok-Demo.asked (subst (IsAsked (map string_bytes c.args.words.now)) c.in-Ok-Demo.field-0-is c.in-Ok-Demo.ensures).0)

pub returns-in-Ok-Proofs-clause-words : goal.returns-in-Ok-Proofs-clause-words
returns-in-Ok-Proofs-clause-words g c = λ none. absurd (none c.in-Ok-Proofs.asked (subst (IsAsked (map string_bytes c.args.words.now)) c.in-Ok-Proofs.field-0-is c.in-Ok-Proofs.ensures).0)

pub returns-in-Ok-Proofs-clause-usage_cut_off : goal.returns-in-Ok-Proofs-clause-usage_cut_off
returns-in-Ok-Proofs-clause-usage_cut_off g c = λ none. absurd (none c.in-Ok-Proofs.asked (subst (IsAsked (map string_bytes c.args.words.now)) c.in-Ok-Proofs.field-0-is c.in-Ok-Proofs.ensures).0)

pub returns-in-Ok-Proofs-clause-memory_nothing : goal.returns-in-Ok-Proofs-clause-memory_nothing
returns-in-Ok-Proofs-clause-memory_nothing g c = λ none. absurd (none c.in-Ok-Proofs.asked (subst (IsAsked (map string_bytes c.args.words.now)) c.in-Ok-Proofs.field-0-is c.in-Ok-Proofs.ensures).0)

pub returns-in-Ok-Proofs-clause-unread : goal.returns-in-Ok-Proofs-clause-unread
returns-in-Ok-Proofs-clause-unread g c = λ none. absurd (none c.in-Ok-Proofs.asked (subst (IsAsked (map string_bytes c.args.words.now)) c.in-Ok-Proofs.field-0-is c.in-Ok-Proofs.ensures).0)

pub returns-in-Ok-Check-clause-words : goal.returns-in-Ok-Check-clause-words
returns-in-Ok-Check-clause-words g c = λ none.
    let words = map string_bytes c.args.words.now in
    let here = subst (IsAsked words) c.in-Ok-Check.field-0-is c.in-Ok-Check.ensures in
    absurd (none here.options here.stated)

pub returns-in-Ok-Check-clause-usage_cut_off : goal.returns-in-Ok-Check-clause-usage_cut_off
returns-in-Ok-Check-clause-usage_cut_off g c = λ none.
    let words = map string_bytes c.args.words.now in
    let here = subst (IsAsked words) c.in-Ok-Check.field-0-is c.in-Ok-Check.ensures in
    absurd (none here.options here.stated)

pub returns-in-Ok-Check-clause-memory_nothing : goal.returns-in-Ok-Check-clause-memory_nothing
returns-in-Ok-Check-clause-memory_nothing g c = λ none.
    let words = map string_bytes c.args.words.now in
    let here = subst (IsAsked words) c.in-Ok-Check.field-0-is c.in-Ok-Check.ensures in
    absurd (none here.options here.stated)

pub returns-in-Ok-Check-clause-unread : goal.returns-in-Ok-Check-clause-unread
returns-in-Ok-Check-clause-unread g c = λ none.
    let words = map string_bytes c.args.words.now in
    let here = subst (IsAsked words) c.in-Ok-Check.field-0-is c.in-Ok-Check.ensures in
    absurd (none here.options here.stated)

pub returns-in-Ok-Nothing-clause-complete : goal.returns-in-Ok-Nothing-clause-complete
returns-in-Ok-Nothing-clause-complete g c = λ ask. absurd ((subst (IsAsked (map string_bytes c.args.words.now)) c.in-Ok-Nothing.field-0-is c.in-Ok-Nothing.ensures) ask.options ask.stated)

pub returns-in-Ok-Nothing-clause-cut_off : goal.returns-in-Ok-Nothing-clause-cut_off
returns-in-Ok-Nothing-clause-cut_off g c = λ ask. absurd ((subst (IsAsked (map string_bytes c.args.words.now)) c.in-Ok-Nothing.field-0-is c.in-Ok-Nothing.ensures) ask.options ask.stated)

pub returns-in-Ok-Nothing-clause-memory : goal.returns-in-Ok-Nothing-clause-memory
returns-in-Ok-Nothing-clause-memory g c = λ ask. absurd ((subst (IsAsked (map string_bytes c.args.words.now)) c.in-Ok-Nothing.field-0-is c.in-Ok-Nothing.ensures) ask.options ask.stated)

pub returns-in-Ok-Nothing-clause-complete_checking : goal.returns-in-Ok-Nothing-clause-complete_checking
returns-in-Ok-Nothing-clause-complete_checking g c = λ ask. absurd ((subst (IsAsked (map string_bytes c.args.words.now)) c.in-Ok-Nothing.field-0-is c.in-Ok-Nothing.ensures) ask.options ask.stated)

pub returns-in-Ok-Nothing-clause-cut_off_checking : goal.returns-in-Ok-Nothing-clause-cut_off_checking
returns-in-Ok-Nothing-clause-cut_off_checking g c = λ ask. absurd ((subst (IsAsked (map string_bytes c.args.words.now)) c.in-Ok-Nothing.field-0-is c.in-Ok-Nothing.ensures) ask.options ask.stated)

pub returns-in-Ok-Nothing-clause-memory_checking : goal.returns-in-Ok-Nothing-clause-memory_checking
returns-in-Ok-Nothing-clause-memory_checking g c = λ ask. absurd ((subst (IsAsked (map string_bytes c.args.words.now)) c.in-Ok-Nothing.field-0-is c.in-Ok-Nothing.ensures) ask.options ask.stated)

pub returns-in-Ok-Nothing-clause-complete_demo : goal.returns-in-Ok-Nothing-clause-complete_demo
returns-in-Ok-Nothing-clause-complete_demo g c = λ n ask. absurd ((subst (IsAsked (map string_bytes c.args.words.now)) c.in-Ok-Nothing.field-0-is c.in-Ok-Nothing.ensures) ask.options ask.stated)

pub returns-in-Ok-Nothing-clause-cut_off_demo : goal.returns-in-Ok-Nothing-clause-cut_off_demo
returns-in-Ok-Nothing-clause-cut_off_demo g c = λ n ask. absurd ((subst (IsAsked (map string_bytes c.args.words.now)) c.in-Ok-Nothing.field-0-is c.in-Ok-Nothing.ensures) ask.options ask.stated)

pub returns-in-Ok-Nothing-clause-memory_demo : goal.returns-in-Ok-Nothing-clause-memory_demo
returns-in-Ok-Nothing-clause-memory_demo g c = λ n ask. absurd ((subst (IsAsked (map string_bytes c.args.words.now)) c.in-Ok-Nothing.field-0-is c.in-Ok-Nothing.ensures) ask.options ask.stated)

pub returns-in-Err-clause-memory_demo : goal.returns-in-Err-clause-memory_demo
returns-in-Err-clause-memory_demo g c = λ n ask ended. no_demo_yet ask.options.limits n (g.K.Sink.written c.args.sink.now)
