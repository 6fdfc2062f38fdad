use Rattle.std.specs.Prelude.{ℕ, ◌+◌, List}
use Rattle.std.proofs.Common.{sym, subst, ◌∙◌}
use Rattle.std.proofs.lemmas.Bool.{true≢false}
use Rattle.ae_base.proofs.ListFacts.{value_at}
use Rattle.ae_bound_blocks.specs.Inner.Listed.{AreListed}
use Rattle.ae_bound_blocks.proofs.Listing.{listed_push, listed_skip}
use Rattle.ae_bound_blocks.proofs.tight.list_row.Goals as goal

pub returns-in_ok-push : goal.returns-in_ok-push
returns-in_ok-push c =
    let at = value_at c.args.rows.now c.args.place c.requires.place in
    subst (λ (ns : List ℕ). AreListed c.args.rows.now c.args.marks.now (c.args.place + 1) ns) (sym c.in_ok-push.ensures.ok)
    (listed_push c.args.rows.now c.args.marks.now c.args.place c.args.numbers.now c.requires.listed at.0 at.1 (c.is_given_at.ensures.yes at.0 at.1 c.if-is_given_at.true) c.if-is_marked.true)

pub returns-else-is_given_at : goal.returns-else-is_given_at
returns-else-is_given_at c =
    listed_skip c.args.rows.now c.args.marks.now c.args.place c.args.numbers.now c.requires.listed (λ r at g m. c.is_given_at.ensures.no r at c.if-is_given_at.false g)

pub returns-else-is_marked : goal.returns-else-is_marked
returns-else-is_marked c = listed_skip c.args.rows.now c.args.marks.now c.args.place c.args.numbers.now c.requires.listed (λ r at g m. true≢false (sym m ∙ c.if-is_marked.false))
