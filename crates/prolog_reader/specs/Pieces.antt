-- What the pieces of a term under construction spell: each is kept with its first node last.
use Rattle.std.specs.Prelude.{List, reverse, Vec}
use Rattle.std.specs.List.{flat_map}
use Rattle.pl_term.specs.declared.node.Node.{Node}

abbrev pub spelled : {Z : Type 0} → List (Vec Node Z) → List Node
spelled ps = flat_map (λ p. reverse p.items) ps
