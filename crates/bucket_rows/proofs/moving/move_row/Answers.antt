use Rattle.std.proofs.Common.{◌≡◌, ◌^◌, ℕ, refl, ◌∙◌, subst, arith}
use Rattle.atom_words.specs.Seats.{seen}
use Rattle.bucket_rows.specs.RowChanges.{MovesOn}
use Rattle.bucket_rows.proofs.RowLaws.{rows_refl, rows_both}
use Rattle.bucket_rows.proofs.moving.move_row.Goals as goal

pub loop-chain-init : goal.loop-chain-init
loop-chain-init c = record { same = (refl, refl); fits = c.requires.fits; steps = rows_refl (seen c.args.seat.now); rows = (λ shut sound r. r); left = omega arith }

pub row_heads-heads-requires : goal.row_heads-heads-requires
row_heads-heads-requires c = let ok = c.args.words.now.allowed in omega (arith, c.requires.row.0.1, ok)

pub move_chain-requires-clause-fits : goal.move_chain-requires-clause-fits
move_chain-requires-clause-fits c = c.loop-chain.invariant.fits

pub move_chain-requires-clause-row : goal.move_chain-requires-clause-row
move_chain-requires-clause-row c = let low = c.loop-chain-test.true in let heads = c.row_heads-heads.ensures in (c.requires.row.0, c.requires.row.1, omega (arith, low, heads), c.requires.row.3)

pub move_chain-requires-clause-rows : goal.move_chain-requires-clause-rows
move_chain-requires-clause-rows c = let q = c.requires.rows in (q.0, c.loop-chain.invariant.rows (2 ^ c.args.row) q.0 q.1)

pub loop-chain-preserved : goal.loop-chain-preserved
loop-chain-preserved c = let inv = c.loop-chain.invariant in let e = c.move_chain.ensures in let m = c.in-Some.ensures.rows in let left = inv.left in record {
  same = (e.same.0 ∙ inv.same.0, e.same.1 ∙ inv.same.1);
  fits = e.fits;
  steps = rows_both (seen c.args.seat.now) (seen c.loop-chain.seat) (seen c.move_chain.new.seat) inv.steps e.steps;
  rows = λ shut sound r. m.1 shut sound (inv.rows shut sound r);
  left = omega (arith, left, m.0);
}

pub returns-in-None-clause-same : goal.returns-in-None-clause-same
returns-in-None-clause-same c = let inv = c.loop-chain.invariant in let e = c.move_chain.ensures.same in (e.0 ∙ inv.same.0, e.1 ∙ inv.same.1)

pub returns-in-None-clause-steps : goal.returns-in-None-clause-steps
returns-in-None-clause-steps c = rows_both (seen c.args.seat.now) (seen c.loop-chain.seat) (seen c.move_chain.new.seat) c.loop-chain.invariant.steps c.move_chain.ensures.steps

pub returns-in-None-clause-rows : goal.returns-in-None-clause-rows
returns-in-None-clause-rows c = let low = c.loop-chain-test.true in let heads = c.row_heads-heads.ensures in let start = c.loop-chain.auto.chain in
    (omega (arith, start), omega (arith, low, heads), omega arith, λ shut sound r. c.in-None.ensures.rows shut sound (c.loop-chain.invariant.rows shut sound r))

pub returns-clause-rows : goal.returns-clause-rows
returns-clause-rows c = let inv = c.loop-chain.invariant in let heads = c.row_heads-heads.ensures in let all : c.loop-chain.chain ≡ c.row_heads-heads.result = (let a = c.loop-chain-test.false in let b = c.loop-chain.auto.chain-end in omega (arith, a, b)) in
    (omega (arith, c.requires.row.2, heads), omega (arith, heads), inv.left, subst (λ (n : ℕ). MovesOn c.args.row c.args.aim c.args.from n (seen c.args.seat.now) (seen c.loop-chain.seat)) all inv.rows)

pub returns-clause-some : goal.returns-clause-some
returns-clause-some c = λ less. absurd (let heads = c.row_heads-heads.ensures in omega (arith, less, heads))
