use Rattle.std.proofs.Common.{◌≤◌, ◌^◌, length, ap, ◌∙◌, sym, subst}
use Rattle.std.specs.List.{list_all}
use Rattle.ae_counts.specs.Inner.Counted.{story_line_counts, term_counts}
use Rattle.ae_counts.proofs.Within.{story_within}
use Rattle.ae_counts.proofs.stories.story_counts.Goals as goal

pub returns : goal.returns
returns c = record {
  limits = λ sig.
      story_within sig c.args.story.now (ap (list_all term_counts) (sym c.as_slice.ensures) ∙ c.terms_count.ensures) (subst (λ ts. length ts ≤ 2 ^ 64) c.as_slice-2.ensures c.terms_are_few.ensures)
      (ap (list_all story_line_counts) (sym c.as_slice-3.ensures) ∙ c.lines_count.ensures);
}
