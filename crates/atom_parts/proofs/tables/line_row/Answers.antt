use Rattle.std.proofs.Common.{subst}
use Rattle.atom_parts.specs.declared.tables.AllPlaced.{AllPlaced}
use Rattle.atom_parts.specs.Tables.{ArePlaced}
use Rattle.atom_parts.proofs.TableLaws.{again_lined}
use Rattle.atom_parts.proofs.tables.line_row.Goals as goal

pub returns-in-Refused-clause-lined : goal.returns-in-Refused-clause-lined
returns-in-Refused-clause-lined g c =
    let m = g.A.Atoms.held c.args.atoms.now in
    let n = g.A.Atoms.held c.column_places.new.atoms in
    again_lined m n c.args.text.now c.args.columns.now c.args.arguments.now c.args.following c.in-Refused.row
    (subst (λ (l : AllPlaced). ArePlaced m n c.args.text.now c.args.columns.now c.args.arguments.now l) c.in-Refused.is c.in_ok-listed.ensures.placed)
