-- Lines that leave rules and pairs as they are, more terms, and no lines.
use Rattle.std.proofs.Common.{◌≡◌, ◌≢◌, ℕ, inl, inr, true, List, [], ◌∷◌, ◌++◌, arith}
use Rattle.std.proofs.lemmas.Option.{none-some}
use Rattle.ae_base.proofs.Tests.{false_true}
use Rattle.ae_core.specs.declared.problems.AcSymbol.{AcSymbol}
use Rattle.ae_journal.specs.Journals.{live}
use Rattle.ae_journal.specs.RuleLines.{IsPaired}
use Rattle.ae_journal.specs.declared.lines.Oriented.TheVariants as oriented
use Rattle.ae_journal.specs.declared.lines.Line.{Line}
use Rattle.ae_journal.specs.declared.lines.Line.TheVariants as line
use Rattle.ae_journal.proofs.Living.{live_push}
use Rattle.ae_rule_lines.specs.Changes.{leaves_rules}
use Rattle.ae_rule_lines.specs.Laws.{NothingIsInStep, OtherLinesKeepStep, NamesKeepStep}
use Rattle.ae_rule_lines.proofs.LiveLines.{standing_before, paired_kept, paired_before}
use Rattle.ae_rule_lines.proofs.Grown.{noted_rule_more, has_source_more, noted_rule_among, has_source_among}

-- ---- no lines
no_line : (a b : List Line) (x : Line) → [] ≡ a ++ x ∷ b → ⊥
no_line [] b x e = cc
no_line (z ∷ a) b x e = cc

pub nothing_in_step : NothingIsInStep
nothing_in_step sig ts = record {
  standing = λ n e t. absurd (none-some e t);
  all = λ u l r s. absurd (no_line s.before s.after (line.Orient (oriented.Rule u l r)) s.is);
  distinct = λ u l m n p q. absurd (none-some p.rule p.there);
  pairs = λ u l m. (λ p. absurd (elim p.is [ inl e ↦ no_line p.before p.after (line.Pair u l m) e | inr e ↦ no_line p.before p.after (line.Pair u m l) e ]), λ p. absurd (none-some p.first_is.rule p.first_is.there));
  sources = λ w c. absurd (omega (arith, c.1));
}

-- ---- other lines
record IsOther (j : Line) : Type 0 where
  pushed : (js : List Line) → live (js ++ j ∷ []) ≡ live js ++ j ∷ []
  no_rule : (u : AcSymbol) (l r : List ℕ) → j ≢ line.Orient (oriented.Rule u l r)
  no_drop : (u : AcSymbol) (l d : List ℕ) → j ≢ line.Drop (oriented.Rule u l d)
  no_pair : (u : AcSymbol) (l m : List ℕ) → j ≢ line.Pair u l m

is_other : (j : Line) → leaves_rules j ≡ true → IsOther j
is_other (line.Decide k) h = record { pushed = λ js. live_push js (line.Decide k); no_rule = λ u l r e. cc; no_drop = λ u l d e. cc; no_pair = λ u l m e. cc }
is_other (line.Orient (oriented.Named n v)) h = record { pushed = λ js. live_push js (line.Orient (oriented.Named n v)); no_rule = λ u l r e. cc; no_drop = λ u l d e. cc; no_pair = λ u l m e. cc }
is_other (line.Orient (oriented.Rule v k q)) h = false_true h
is_other (line.Drop o) h = false_true h
is_other (line.Pair v k q) h = false_true h
is_other (line.Learn c) h = record { pushed = λ js. live_push js (line.Learn c); no_rule = λ u l r e. cc; no_drop = λ u l d e. cc; no_pair = λ u l m e. cc }
is_other (line.TypeInstance k ss) h = record { pushed = λ js. live_push js (line.TypeInstance k ss); no_rule = λ u l r e. cc; no_drop = λ u l d e. cc; no_pair = λ u l m e. cc }
is_other (line.TermInstance f ts) h = record { pushed = λ js. live_push js (line.TermInstance f ts); no_rule = λ u l r e. cc; no_drop = λ u l d e. cc; no_pair = λ u l m e. cc }
is_other (line.Combine b f) h = record { pushed = λ js. live_push js (line.Combine b f); no_rule = λ u l r e. cc; no_drop = λ u l d e. cc; no_pair = λ u l m e. cc }
is_other (line.Back n) h = false_true h

pub other_lines_keep : OtherLinesKeepStep
other_lines_keep sig ts js j rules paired waiting h i =
    let o = is_other j h in
    let p = o.pushed js in
    record {
      standing = λ n e t. noted_rule_more sig ts js j p e (λ d. o.no_drop e.symbol e.left d) (i.standing n e t);
      all = λ u l r s. i.all u l r (elim (standing_before js j p u l r s) [ inl e ↦ absurd (o.no_rule u l r e) | inr q ↦ q.0 ]);
      distinct = i.distinct;
      pairs = λ u l m. (λ q. (i.pairs u l m).0 (before u l m q), λ q. paired_kept js j p u l m (λ d. o.no_drop u l d) (λ d. o.no_drop u m d) ((i.pairs u l m).1 q));
      sources = λ w c. has_source_more sig ts js j p w (i.sources w c);
    }
  where
    before : (u : AcSymbol) (l m : List ℕ) → IsPaired (js ++ j ∷ []) u l m → IsPaired js u l m
    before u l m q =
        let o = is_other j h in
        elim (paired_before js j (o.pushed js) u l m q) [
          | inl e ↦ absurd (elim e [ inl f ↦ o.no_pair u l m f | inr f ↦ o.no_pair u m l f ])
          | inr r ↦ r.0
        ]

-- ---- more terms
pub names_keep : NamesKeepStep
names_keep sig ts all js rules paired waiting keeps least i = record {
  standing = λ n e t. noted_rule_among sig ts all js keeps least e (i.standing n e t);
  all = i.all;
  distinct = i.distinct;
  pairs = i.pairs;
  sources = λ w c. has_source_among sig ts all js keeps least w (i.sources w c);
}
