use Rattle.std.specs.Prelude.{◌<◌, Bool, Ok, Err, Result, Option, length}
use Rattle.std.proofs.Common.{refl, ap, ◌∙◌, subst, arith}
use Rattle.ae_between_rounds.specs.Passing.Passes.{notes}
use Rattle.ae_between_rounds.specs.declared.search.OwedAt.{OwedAt}
use Rattle.ae_journal.specs.Journals.{counted_in}
use Rattle.ae_journal.specs.Noted.{Noted}
use Rattle.ae_rounds.proofs.Failing.{failed_by, passed_on}
use Rattle.ae_rounds.specs.Ended.{HasMade}
use Rattle.ae_searching.specs.Steps.{NotesNoCombination}
use Rattle.ae_theory.specs.declared.theory.Fail.{Fail}
use Rattle.ae_theory.specs.declared.theory.Fail.TheVariants as fail
use Rattle.ae_rounds.proofs.instantiating.instantiate.Goals as goal

pub matches-init : goal.matches-init
matches-init g c = record { between = c.requires.between; is_open = c.requires.is_open; solver = refl; blocks = refl; journal = refl; lines = refl }

pub next_owed-requires : goal.next_owed-requires
next_owed-requires g c = record { lawful = c.requires.lawful; between = c.matches.invariant.between; is_open = c.matches.invariant.is_open }

pub returns-in_err-next_owed : goal.returns-in_err-next_owed
returns-in_err-next_owed g c = record {
  made = passed_on (λ (r : Result Bool Fail). HasMade c.args.task.problem.now c.args.task.goal c.args.task.generations c.args.search.now c.next_owed.new.search r) c.from_residual.result
      (fail.Memory c.in_err-next_owed.field-0.0) c.from_residual.ensures.1 tt;
  limit = ap (λ (j : Noted). j.limit) (c.next_owed.ensures.journal ∙ c.matches.invariant.journal);
}

pub returns-in-None : goal.returns-in-None
returns-in-None g c = record {
  made = record {
    between = c.in_ok-next_owed.ensures.between;
    is_open = c.in_ok-next_owed.ensures.is_open;
    instantiated = c.next_owed.ensures.none (c.in_ok-next_owed.was ∙ ap (λ (x : Option OwedAt). Ok x) c.in-None.is);
    solver = c.next_owed.ensures.solver ∙ c.matches.invariant.solver;
    blocks = c.next_owed.ensures.blocks ∙ c.matches.invariant.blocks;
  };
  limit = ap (λ (j : Noted). j.limit) (c.next_owed.ensures.journal ∙ c.matches.invariant.journal);
}

pub make_owed-requires : goal.make_owed-requires
make_owed-requires g c = record {
  lawful = c.requires.lawful;
  between = c.in_ok-next_owed.ensures.between;
  is_open = c.in_ok-next_owed.ensures.is_open;
  limit = ap (λ (j : Noted). j.limit) (c.next_owed.ensures.journal ∙ c.matches.invariant.journal) ∙ c.requires.limit;
  found = c.next_owed.ensures.found c.in-Some.found (c.in_ok-next_owed.was ∙ ap (λ (x : Option OwedAt). Ok x) c.in-Some.is);
}

pub returns-in_err-make_owed-in-Some : goal.returns-in_err-make_owed-in-Some
returns-in_err-make_owed-in-Some g c =
    let p = c.args.task.problem.now in
    let k = c.args.task.goal in
    let b = c.args.task.generations in
    let e = c.make_owed.ensures in
    let new = c.make_owed.new.search in
    record {
      made = passed_on (λ (r : Result Bool Fail). HasMade p k b c.args.search.now new r) c.from_residual-in_err-make_owed-in-Some.result c.in_err-make_owed-in-Some.field-0.0
          c.from_residual-in_err-make_owed-in-Some.ensures.1
          (failed_by p k b new c.in_err-make_owed-in-Some.field-0.0
          (λ i. (e.stopped (c.in_err-make_owed-in-Some.was ∙ ap (λ (x : Fail). Err x) i), e.steps (c.in_err-make_owed-in-Some.was ∙ ap (λ (x : Fail). Err x) i)))
          (λ wide i. absurd (e.never_wide wide (c.in_err-make_owed-in-Some.was ∙ ap (λ (x : Fail). Err x) i))));
      limit = e.limit ∙ ap (λ (j : Noted). j.limit) (c.next_owed.ensures.journal ∙ c.matches.invariant.journal);
    }

pub returns-then-branch : goal.returns-then-branch
returns-then-branch g c =
    let new = c.make_owed.new.search in
    let yes = c.in_ok-make_owed-in-Some.was ∙ ap (λ (x : Bool). Ok x) c.if-branch.true in
    let same = c.next_owed.ensures.journal ∙ c.matches.invariant.journal in
    let noted = c.make_owed.ensures.noted yes in
    record {
      made = (
        c.in_ok-make_owed-in-Some.ensures.between,
        subst (λ v. length v.items < length new.lines.items) (c.next_owed.ensures.lines ∙ c.matches.invariant.lines) (c.make_owed.ensures.lines yes),
        notes (subst (λ (j : Noted). NotesNoCombination j.lines new.journal.lines) same noted.0) (subst (λ (j : Noted). length j.lines < length new.journal.lines) same noted.1),
        subst (λ (j : Noted). counted_in j.lines < counted_in new.journal.lines) same (c.make_owed.ensures.counted yes),
      );
      limit = c.make_owed.ensures.limit ∙ ap (λ (j : Noted). j.limit) same;
    }

pub matches-preserved : goal.matches-preserved
matches-preserved g c =
    let w = c.make_owed.ensures.none (c.in_ok-make_owed-in-Some.was ∙ ap (λ (x : Bool). Ok x) c.if-branch.false) in
    record {
      between = c.in_ok-make_owed-in-Some.ensures.between;
      is_open = w.0;
      solver = w.1 ∙ c.next_owed.ensures.solver ∙ c.matches.invariant.solver;
      blocks = w.4 ∙ c.next_owed.ensures.blocks ∙ c.matches.invariant.blocks;
      journal = w.2 ∙ c.next_owed.ensures.journal ∙ c.matches.invariant.journal;
      lines = w.3 ∙ c.next_owed.ensures.lines ∙ c.matches.invariant.lines;
    }

pub matches-smaller : goal.matches-smaller
matches-smaller g c =
    let more = c.in_ok-make_owed-in-Some.ensures.made in
    let many = c.in_ok-next_owed.ensures.many in
    omega (arith, more, many)
