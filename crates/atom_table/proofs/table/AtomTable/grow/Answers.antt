use Rattle.std.proofs.Common.{◌≡◌, ◌≢◌, ◌⊎◌, ◌+◌, ◌-◌, ◌*◌, ◌^◌, ◌<◌, ◌≤◌, ℕ, true, false, refl, sym, ap, ◌∙◌, subst, inl, inr, ⊎_elim, arith, Some, None}
use mathlib.Core.Logic.{dite}
use native.Mathlib.Decide.{dec_lt}
use Rattle.std.proofs.Math.Nat.{pow-le-pow_right}
use Rattle.atom_words.specs.Seats.{seen}
use Rattle.atom_words.specs.Kinds.{RowOk}
use Rattle.atom_words.specs.declared.size.Size.{Size}
use Rattle.atom_table.proofs.table.AtomTable.grow.Goals as goal

pub has_larger-requires : goal.has_larger-requires
has_larger-requires c = let o = c.args.collector.now in subst (λ (z : Size). RowOk z o.rows.row) c.requires.sits.0.1 o.rowed.1

pub resize-requires-clause-aim : goal.resize-requires-clause-aim
resize-requires-clause-aim c = (c.has_larger.ensures.has c.if-has_larger.true, λ e. omega (arith, e))

pub returns-else-has_larger-clause-steps : goal.returns-else-has_larger-clause-steps
returns-else-has_larger-clause-steps c = let o = c.args.collector.now in (c.row_heads.ensures, (λ ok. c.has_larger.ensures.lacks c.if-has_larger.false (subst (λ (z : Size). RowOk z (o.rows.row + 1)) c.requires.sits.0.1 ok)), refl)

pub overflow_add-row : goal.overflow_add-row
overflow_add-row c = let o = c.args.collector.now in let ok = subst (λ (z : Size). RowOk z o.rows.row) c.requires.sits.0.1 o.rowed.1 in let few = c.args.self.now.words.allowed in dite (dec_lt o.rows.row 64)
    (λ (low : o.rows.row < 64). omega (arith, low))
    (λ high. absurd (let big : 2 ^ 64 ≤ 2 ^ o.rows.row = pow-le-pow_right {n = 2} (omega arith) {i = 64} {j = o.rows.row} (omega (arith, high)) in omega (arith, big, ok.1, few)))
