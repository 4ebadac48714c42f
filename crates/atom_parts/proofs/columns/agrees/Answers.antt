use Rattle.std.proofs.Common.{◌≡◌, take, sym, subst}
use Rattle.std.specs.List.{All}
use Rattle.std.proofs.lemmas.List.{take_more, take_all}
use Rattle.std.proofs.lemmas.List.Elements.{All-push}
use Rattle.atom_parts.specs.declared.columns.Column.{Column}
use Rattle.atom_parts.specs.declared.columns.Wanted.TheVariants.{Any}
use Rattle.atom_parts.specs.Columns.{value_tree}
use Rattle.atom_parts.proofs.columns.agrees.Goals as goal

pub loop-column-preserved : goal.loop-column-preserved
loop-column-preserved c =
    let P : Column → Type 0 = λ (e : Column). e.wanted ≡ Any c.args.variable → value_tree c.args.text.now e.value ≡ value_tree c.args.text.now c.args.value in
    let i = c.loop-column.column-index in
    let cs = c.args.earlier.now in
    subst (All P) (sym (take_more cs i _ c.loop-column-test.true)) (All-push P (take i cs) _ c.loop-column.invariant c.if-not-allows.ensures)

pub returns : goal.returns
returns c =
    let P : Column → Type 0 = λ (e : Column). e.wanted ≡ Any c.args.variable → value_tree c.args.text.now e.value ≡ value_tree c.args.text.now c.args.value in
    let i = c.loop-column.column-index in
    let cs = c.args.earlier.now in
    subst (All P) (take_all i cs c.loop-column-test.false) c.loop-column.invariant
