use Rattle.std.specs.Prelude.{[]}
use Rattle.std.proofs.Common.{refl, sym, ◌∙◌, arith}
use Rattle.std.proofs.lemmas.List.{append-nil}
use Rattle.ae_state.proofs.Lasting.{marks_last}
use Rattle.ae_state.proofs.holding.Holding.go_back.Goals as goal

pub back-requires : goal.back-requires
back-requires g c = (_, (c.requires.mark.1).values)

pub back-requires-2 : goal.back-requires-2
back-requires-2 g c = record { stands = (_, (c.requires.mark.1).equations) }

pub back-requires-3 : goal.back-requires-3
back-requires-3 g c = ((c.requires.mark.1).assumed).fits

pub back-requires-4 : goal.back-requires-4
back-requires-4 g c = ((c.requires.mark.1).said).fits

pub returns-clause-back : goal.returns-clause-back
returns-clause-back g c then h = record {
  values = c.back.ensures.held then.values h.values;
  values_are = c.back.ensures.values then.values h.values;
  entries = c.back.ensures.entries;
  equations = c.back-2.ensures.held then.equations h.equations;
  assumed = c.back-3.ensures.map ∙ (h.assumed).is;
  said = c.back-4.ensures.map ∙ (h.said).is;
  next = h.next;
  signature = refl;
  shapes = refl;
  justs = refl;
  conflicts = refl;
}

pub returns-clause-marks : goal.returns-clause-marks
returns-clause-marks g c m then h =
    marks_last c.args.self.now (record c.args.self.now { values = c.back.new.self; equations = c.back-2.new.self; assumed = c.back-3.new.self; said = c.back-4.new.self; next = c.args.mark.now.next })
    (record {
      values = c.back.ensures.lasts;
      equations = c.back-2.ensures.lasts;
      assumed = c.back-3.ensures.lasts;
      said = c.back-4.ensures.lasts;
      signature = refl;
      shapes = ([], sym (append-nil c.args.self.now.shapes));
      justs = ([], sym (append-nil c.args.self.now.justs));
      conflicts = ([], sym (append-nil c.args.self.now.conflicts));
    }) m then h

pub returns-clause-steps : goal.returns-clause-steps
returns-clause-steps g c = omega (arith, c.back.ensures.steps, c.back-2.ensures.steps, c.back-3.ensures.step, c.back-4.ensures.step)
