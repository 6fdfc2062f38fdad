use Rattle.std.proofs.Common.{◌≡◌, [], ◌∷◌, ◌++◌, refl, sym, subst}
use Rattle.ae_between_rounds.specs.Rewriting.{IsMarkOf}
use Rattle.ae_core.specs.declared.proofs.ClauseLine.{ClauseLine}
use Rattle.ae_journal.specs.Noted.{Noted}
use Rattle.ae_journal.specs.declared.lines.Line.{Line}
use Rattle.ae_made_instances.proofs.Coming.{blocks_named, may_bring, sorted, stated_instance}
use Rattle.ae_made_instances.proofs.noting.note_new.Goals as goal
use Rattle.ae_searching.proofs.Searching.{news_last}
use Rattle.ae_searching.specs.Searching.{IsSearching}
use Rattle.ae_searching.specs.Steps.{HasNews, IsInstanceLine, MayBring}
use Rattle.ae_state.specs.Fitting.{FitsStore}
use Rattle.ae_state.specs.Names.{assumed_in}
use Rattle.ae_state.specs.Stepping.{IsInStep}

pub say-requires-clause-same : goal.say-requires-clause-same
say-requires-clause-same g c = c.requires.searching.signature

pub say-requires-clause-sorted : goal.say-requires-clause-sorted
say-requires-clause-sorted g c =
    let t = c.args.task in
    sorted t.problem.now t.goal t.generations c.args.level c.args.search.now c.requires.searching c.requires.beside c.args.line c.requires.ready

pub say-requires-clause-blocks : goal.say-requires-clause-blocks
say-requires-clause-blocks g c = c.requires.beside.constants.sorted

pub say-requires-clause-there : goal.say-requires-clause-there
say-requires-clause-there g c =
    let t = c.args.task in
    blocks_named t.problem.now t.goal t.generations c.args.level c.args.search.now c.requires.searching c.requires.beside

pub note_own-requires-clause-instance : goal.note_own-requires-clause-instance
note_own-requires-clause-instance g c = subst IsInstanceLine (sym c.into_inner-noted.ensures) (stated_instance c.args.line.own c.args.line.statement c.requires.ready.stated_by)

pub returns-clause-searching : goal.returns-clause-searching
returns-clause-searching g c =
    let t = c.args.task in
    let o = c.args.search.now in
    let l = c.args.line in
    let b = c.say.new in
    let js = o.journal.lines in
    let brought = may_bring t.problem.now t.goal t.generations c.args.level o c.requires.searching c.requires.beside l c.requires.ready _ b.store b.ages c.in_ok-say.ensures.brought c.requires.new in
    let states : MayBring t.problem.now t.goal t.generations o.store b.store o.blocks.opened js l.own c.into_inner-stated.result l.clause =
    subst (λ (z : ClauseLine). MayBring t.problem.now t.goal t.generations o.store b.store o.blocks.opened js l.own z l.clause) (sym c.into_inner-stated.ensures) brought in
    let journal : c.note_own.new.journal ≡ record o.journal { lines = js ++ l.own ∷ [] } =
    subst (λ (z : Line). c.note_own.new.journal ≡ record o.journal { lines = js ++ z ∷ [] }) c.into_inner-noted.ensures c.note_own.ensures in
    subst (λ (z : Noted). IsSearching FitsStore assumed_in IsMarkOf IsInStep t.problem.now t.goal t.generations b.store o.blocks.opened c.rest_level-least.result c.add_line.new.solver c.add_line.new.lines.items z.lines) (sym journal)
    (c.in_ok-add_line.ensures.brought t.problem.now t.goal t.generations c.args.level c.rest_level-least.result o.store b.store o.blocks.opened js l.own states c.rest_level-least.ensures c.requires.searching)

pub returns-clause-comes : goal.returns-clause-comes
returns-clause-comes g c =
    let o = c.args.search.now in
    let l = c.args.line in
    let journal : c.note_own.new.journal ≡ record o.journal { lines = o.journal.lines ++ l.own ∷ [] } =
    subst (λ (z : Line). c.note_own.new.journal ≡ record o.journal { lines = o.journal.lines ++ z ∷ [] }) c.into_inner-noted.ensures c.note_own.ensures in
    record {
      brought = c.in_ok-say.ensures.brought;
      store = c.in_ok-say.ensures.store;
      clauses = c.in_ok-add_line.ensures.clauses;
      trail = c.add_line.ensures.trail;
      theory = c.add_line.ensures.theory;
      journal = journal;
      news = subst (λ (z : Noted). HasNews z.lines) (sym journal) (news_last o.journal.lines l.own l.statement c.requires.ready.stated_by);
      lines = subst (λ (z : ClauseLine). c.add_line.new.lines.items ≡ o.lines.items ++ z ∷ []) c.into_inner-stated.ensures c.in_ok-add_line.ensures.lines;
      blocks = refl;
      known = refl;
      looked = refl;
      owners = refl;
      instances = refl;
    }
