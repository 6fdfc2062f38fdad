use Rattle.std.proofs.Common.{length, sym, ◌∙◌, ap}
use Rattle.ae_driver.proofs.Checked.{goals_many, parts_checked, parts_refused, parts_read, parts_unread}
use Rattle.ae_driver.proofs.checking.check_against.Goals as goal

pub write_lines-requires : goal.write_lines-requires
write_lines-requires g c =
    let read = parts_read c.args.input.now c.args.parted.after c.args.problem.now c.args.goals.now c.args.names.now _ c.requires.goals c.requires.names c.in-Ok.ensures.exact in
    ap length c.as_slice.ensures ∙ goals_many c.args.problem.now _ c.in-Ok.parts read ∙ ap length (sym c.requires.goals)

pub returns-in-Ok-clause-ends : goal.returns-in-Ok-clause-ends
returns-in-Ok-clause-ends g c =
    let read = parts_read c.args.input.now c.args.parted.after c.args.problem.now c.args.goals.now c.args.names.now _ c.requires.goals c.requires.names c.in-Ok.ensures.exact in
    parts_checked c.args.input.now c.args.parted.before c.args.parted.after c.args.problem.now c.args.goals.now c.in-Ok.parts c.as_slice.result.now _ _ c.write_lines.result
    c.requires.parted c.requires.problem c.requires.goals c.as_slice.ensures read c.write_lines.ensures.ends

pub refuse_parts-requires-clause-refused : goal.refuse_parts-requires-clause-refused
refuse_parts-requires-clause-refused g c =
    let read = parts_read c.args.input.now c.args.parted.after c.args.problem.now c.args.goals.now c.args.names.now _ c.requires.goals c.requires.names c.in-Err.ensures.exact in
    λ told. parts_refused c.args.input.now c.args.parted.before c.args.parted.after c.args.problem.now c.in-Err.fault
    c.requires.within c.requires.parted c.requires.problem read told
    (parts_unread c.args.input.now c.args.parted.after c.args.problem.now c.args.goals.now c.args.names.now c.requires.goals c.requires.names (c.in-Err.ensures.none told))
