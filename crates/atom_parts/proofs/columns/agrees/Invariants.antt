use Rattle.std.proofs.Common.{◌≡◌, take}
use Rattle.std.specs.List.{All}
use Rattle.atom_parts.specs.declared.columns.Column.{Column}
use Rattle.atom_parts.specs.declared.columns.Wanted.TheVariants.{Any}
use Rattle.atom_parts.specs.Columns.{value_tree}
use Rattle.atom_parts.proofs.columns.agrees.Given as goal

abbrev pub invariant-loop-column : goal.invariant-loop-column
invariant-loop-column l =
    All (λ (e : Column). e.wanted ≡ Any l.variable → value_tree l.text e.value ≡ value_tree l.text l.value) (take l.column-index l.earlier)
