-- Type tests by the kinds of terms that pass them.
use Rattle.std.specs.Prelude.{Bool, true, false, Option, Some, None}
use Rattle.pl_term.specs.Tree.{Tree, var, int, atom, comp}
use Rattle.builtin_rows.specs.declared.predicates.OfOne.{OfOne}
use Rattle.builtin_rows.specs.declared.predicates.OfOne.TheVariants as one
use Rattle.builtin_rows.specs.declared.kinds.Kinds.{Kinds}

abbrev pub kinds : Bool → Bool → Bool → Bool → Kinds
kinds v i a c = record { variable = v; integer = i; atom = a; compound = c }

-- What passes a type test. Ground/1 asks for more than the kind.
abbrev pub kinds_of : OfOne → Option Kinds
kinds_of one.Var = Some (kinds true false false false)
kinds_of one.Nonvar = Some (kinds false true true true)
kinds_of one.Atom = Some (kinds false false true false)
kinds_of one.Integer = Some (kinds false true false false)
kinds_of one.Float = Some (kinds false false false false)
kinds_of one.Number = Some (kinds false true false false)
kinds_of one.Atomic = Some (kinds false true true false)
kinds_of one.Compound = Some (kinds false false false true)
kinds_of one.Callable = Some (kinds false false true true)
kinds_of one.Ground = None

abbrev pub passes : Kinds → Tree → Bool
passes k (var x) = k.variable
passes k (int i) = k.integer
passes k (atom a) = k.atom
passes k (comp f t ts) = k.compound
