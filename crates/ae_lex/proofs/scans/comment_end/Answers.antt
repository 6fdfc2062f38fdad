use Rattle.std.proofs.Common.{ℕ, ◌≡◌, ◌⊎◌, inl, inr, true, false, ◌&&◌, eq-eqb, nat_eq, arith}
use Rattle.std.proofs.lemmas.Bool.{ne_eqb, and_left, and_right, and_from}
use Rattle.ae_lex.proofs.Comments.{opens_more, closes_one, passes_one, ended_here}
use Rattle.ae_lex.proofs.scans.comment_end.Goals as goal

other : (b c p q : ℕ) → ((b ≡ p) × (c ≡ q → ⊥)) ⊎ (b ≡ p → ⊥) → (nat_eq b p && nat_eq c q) ≡ false
other b c p q (inl h) = and_right (nat_eq b p) (nat_eq c q) (ne_eqb c q h.1)
other b c p q (inr h) = and_left (nat_eq b p) (nat_eq c q) (ne_eqb b p h)

same : (b c p q : ℕ) → b ≡ p → c ≡ q → (nat_eq b p && nat_eq c q) ≡ true
same b c p q e f = and_from (nat_eq b p) (nat_eq c q) (eq-eqb b p e) (eq-eqb c q f)

pub loop-depth-preserved-then-after-eq42 : goal.loop-depth-preserved-then-after-eq42
loop-depth-preserved-then-after-eq42 c =
    opens_more c.args.text.now c.args.from c.loop-depth.at c.loop-depth.depth c.in_ok-byte.byte c.in_ok-after.after c.loop-depth.invariant c.loop-depth-test.true c.in_ok-after.ensures.some.0 c.in_ok-byte.ensures.some.1 c.in_ok-after.ensures.some.1
    (same c.in_ok-byte.byte c.in_ok-after.after 40 42 c.if-byte-eq40.true c.if-after-eq42.true)

pub loop-depth-preserved-then-after-eq41 : goal.loop-depth-preserved-then-after-eq41
loop-depth-preserved-then-after-eq41 c =
    closes_one c.args.text.now c.args.from c.loop-depth.at c.loop-depth.depth c.in_ok-byte.byte c.in_ok-after.after c.loop-depth.invariant c.loop-depth-test.true c.in_ok-after.ensures.some.0 c.in_ok-byte.ensures.some.1 c.in_ok-after.ensures.some.1
    (other c.in_ok-byte.byte c.in_ok-after.after 40 42 c.else-byte-eq40.either)
    (same c.in_ok-byte.byte c.in_ok-after.after 42 41 c.if-byte-eq42.true c.if-after-eq41.true)

pub loop-depth-preserved : goal.loop-depth-preserved
loop-depth-preserved c =
    passes_one c.args.text.now c.args.from c.loop-depth.at c.loop-depth.depth c.in_ok-byte.byte c.in_ok-after.after c.loop-depth.invariant c.loop-depth-test.true c.in_ok-after.ensures.some.0 c.in_ok-byte.ensures.some.1 c.in_ok-after.ensures.some.1
    (other c.in_ok-byte.byte c.in_ok-after.after 40 42 c.else-byte-eq40.either)
    (other c.in_ok-byte.byte c.in_ok-after.after 42 41 c.else-byte-eq42.either)

pub returns : goal.returns
returns c = ended_here c.args.text.now c.args.from c.loop-depth.at c.loop-depth.depth c.loop-depth.invariant (omega arith)
