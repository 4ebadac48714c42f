use Rattle.std.proofs.Common.{sym, ◌∙◌, arith}
use Rattle.pl_model.specs.AtomBuiltins.{numeral_at}
use Rattle.lex_core.proofs.NumberLaws.{no_numeral, not_whole, whole}
use Rattle.lex_core.proofs.whole_numerals.whole_numeral.Goals as goal

pub returns-in-None : goal.returns-in-None
returns-in-None c = no_numeral c.args.bytes.now (numeral_at c.args.bytes.now) (sym c.in-None.is ∙ c.numeral_at.ensures)

pub returns-then-size-bytes : goal.returns-then-size-bytes
returns-then-size-bytes c =
    whole c.args.bytes.now c.in-Some.value c.in-Some.size (numeral_at c.args.bytes.now) (sym c.in-Some.is ∙ c.numeral_at.ensures) (omega arith)

pub returns-else-size-bytes : goal.returns-else-size-bytes
returns-else-size-bytes c =
    not_whole c.args.bytes.now c.in-Some.value c.in-Some.size (numeral_at c.args.bytes.now) (sym c.in-Some.is ∙ c.numeral_at.ensures) (λ e. omega (arith, e))
