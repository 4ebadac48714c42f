use Rattle.std.proofs.Common.{Some, sym, ap, ◌∙◌}
use Rattle.builtin_arithmetic.specs.Comparing.{name_of}
use Rattle.builtin_arithmetic.proofs.Raising.{greater_is, greater_or_equal_is, less_is, less_or_equal_is, numbers_differ_is, numbers_equal_is}
use Rattle.builtin_arithmetic.proofs.comparisons.predicate_name.Goals as goal

pub returns-in-Equal-clause-name : goal.returns-in-Equal-clause-name
returns-in-Equal-clause-name c = numbers_equal_is ∙ ap (λ k. Some (name_of k)) (sym c.in-Equal.is)

pub returns-in-Different-clause-name : goal.returns-in-Different-clause-name
returns-in-Different-clause-name c = numbers_differ_is ∙ ap (λ k. Some (name_of k)) (sym c.in-Different.is)

pub returns-in-Less-clause-name : goal.returns-in-Less-clause-name
returns-in-Less-clause-name c = less_is ∙ ap (λ k. Some (name_of k)) (sym c.in-Less.is)

pub returns-in-LessOrEqual-clause-name : goal.returns-in-LessOrEqual-clause-name
returns-in-LessOrEqual-clause-name c = less_or_equal_is ∙ ap (λ k. Some (name_of k)) (sym c.in-LessOrEqual.is)

pub returns-in-Greater-clause-name : goal.returns-in-Greater-clause-name
returns-in-Greater-clause-name c = greater_is ∙ ap (λ k. Some (name_of k)) (sym c.in-Greater.is)

pub returns-in-GreaterOrEqual-clause-name : goal.returns-in-GreaterOrEqual-clause-name
returns-in-GreaterOrEqual-clause-name c = greater_or_equal_is ∙ ap (λ k. Some (name_of k)) (sym c.in-GreaterOrEqual.is)
