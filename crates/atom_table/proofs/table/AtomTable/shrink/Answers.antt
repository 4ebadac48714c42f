use Rattle.std.proofs.Common.{◌≡◌, ◌≢◌, ◌⊎◌, ◌+◌, ◌-◌, ◌*◌, ◌^◌, ◌<◌, ◌≤◌, ℕ, true, false, refl, sym, ap, ◌∙◌, subst, inl, inr, ⊎_elim, arith, Some, None}
use Rattle.atom_words.specs.Seats.{seen}
use Rattle.std.proofs.Math.Nat.{pow-le-pow_right}
use Rattle.std.proofs.lemmas.Grind.{pow_more}
use Rattle.atom_words.specs.Kinds.{RowOk}
use Rattle.atom_words.specs.declared.size.Size.{Size}
use Rattle.atom_table.proofs.table.AtomTable.shrink.Goals as goal

-- a row of half as many heads
half : (row : ℕ) → 8 < row → 2 ^ row ≡ 2 ^ (row - 1) * 2
half row above = let one : row ≡ row - 1 + 1 = omega (arith, above) in ap (λ (n : ℕ). 2 ^ n) one ∙ pow_more 2 (row - 1)

pub resize-requires-clause-aim : goal.resize-requires-clause-aim
resize-requires-clause-aim c = let o = c.args.collector.now in let above : 8 < o.rows.row = c.if-row-gt8.true in let ok = subst (λ (z : Size). RowOk z o.rows.row) c.requires.sits.0.1 o.rowed.1 in let twice = half o.rows.row above in
    let least : 2 ^ 8 ≤ 2 ^ (o.rows.row - 1) = pow-le-pow_right {n = 2} (omega arith) {i = 8} {j = o.rows.row - 1} (omega (arith, above)) in ((omega (arith, least), omega (arith, twice, ok.1)), λ e. omega (arith, e, above))

pub returns-else-row-gt8-clause-steps : goal.returns-else-row-gt8-clause-steps
returns-else-row-gt8-clause-steps c = let o = c.args.collector.now in let below = c.if-row-gt8.false in
    (c.row_heads.ensures, (λ ok. let most : 2 ^ (o.rows.row - 1) ≤ 2 ^ 7 = pow-le-pow_right {n = 2} (omega arith) {i = o.rows.row - 1} {j = 7} (omega (arith, below)) in omega (arith, ok.0, most)), refl)
