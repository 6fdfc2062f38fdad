use Rattle.std.proofs.Common.{Bool, true, false, ℕ, ◌≡◌, ◌<◌, ◌∙◌, List, length, refl, sym, ap, subst, arith, true≢false}
use Rattle.ae_between_rounds.proofs.Passing.{passes_more, passes_same}
use Rattle.ae_between_rounds.specs.declared.search.Search.{Search}
use Rattle.ae_block_counts.specs.Counts.{quantifiers_left}
use Rattle.ae_explain.specs.declared.trail.Assigned.{Assigned}
use Rattle.ae_opened_blocks.proofs.opening.open_blocks.Goals as goal
use Rattle.ae_opening.specs.Asking.{AllServed}

pub returns-in-None : goal.returns-in-None
returns-in-None v c =
    let i = c.openings.invariant in
    let here : AllServed c.openings.search.solver.propagation.trail c.openings.search.blocks.opened =
    subst (λ (t : List Assigned). AllServed t c.openings.search.blocks.opened) c.trail.ensures (subst (AllServed c.trail.result.now.assigned) c.as_slice.ensures c.in-None.ensures) in
    record {
      between = i.between;
      none = λ e. i.none (cc e);
      served = λ e. subst (λ (o : Search). AllServed o.solver.propagation.trail o.blocks.opened) (i.none (cc e)) here;
      lines = λ e. i.lines (cc e);
      journal = i.journal;
      passes = i.passes;
      falls = λ e. i.falls (cc e);
    }

pub openings-init : goal.openings-init
openings-init v c = record {
  between = c.requires.between;
  none = λ e. refl;
  lines = λ e. absurd (true≢false (sym e));
  journal = refl;
  passes = passes_same c.args.search.now;
  falls = λ e. absurd (true≢false (sym e));
}

-- some were opened, or none was
more_lines : (some : Bool) (a b c : ℕ) → (some ≡ false → b ≡ a) → (some ≡ true → a < b) → b < c → a < c
more_lines true a b c none more lt = omega (arith, more refl, lt)
more_lines false a b c none more lt = omega (arith, none refl, lt)

fewer_left : (some : Bool) (a b c : ℕ) → (some ≡ false → b ≡ a) → (some ≡ true → b < a) → c < b → c < a
fewer_left true a b c none less lt = omega (arith, less refl, lt)
fewer_left false a b c none less lt = omega (arith, none refl, lt)

abbrev left_in : Search → ℕ
left_in o = quantifiers_left o.blocks.opened o.solver.propagation.clauses

pub openings-smaller : goal.openings-smaller
openings-smaller v c = c.in_ok-open_place-in-Some.ensures.falls

pub openings-preserved : goal.openings-preserved
openings-preserved v c =
    let i = c.openings.invariant in
    let e = c.in_ok-open_place-in-Some.ensures in
    record {
      between = e.between;
      none = λ q. absurd (true≢false q);
      lines = λ q. more_lines c.openings.some (length c.args.search.now.lines.items) (length c.openings.search.lines.items) (length c.open_place.new.search.lines.items)
          (λ n. ap (λ (o : Search). length o.lines.items) (i.none n)) i.lines e.lines;
      journal = e.journal ∙ i.journal;
      passes = passes_more c.args.search.now c.openings.search c.open_place.new.search i.passes e.passes;
      falls = λ q. fewer_left c.openings.some (left_in c.args.search.now) (left_in c.openings.search) (left_in c.open_place.new.search) (λ n. ap left_in (i.none n)) i.falls e.falls;
    }
