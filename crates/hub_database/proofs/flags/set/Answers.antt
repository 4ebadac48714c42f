use Rattle.std.proofs.Common.{sym, ap, ◌∙◌}
use Rattle.clause_db.specs.Parts.{Held}
use Rattle.pl_term.specs.Tree.{Tree}
use Rattle.counted_terms.specs.CountedTerms.{naming}
use Rattle.hub_database.proofs.FlagRows.{set_by_number, with_setting}
use Rattle.hub_database.proofs.flags.set.Goals as goal

pub returns-in-Some-clause-flags : goal.returns-in-Some-clause-flags
returns-in-Some-clause-flags c = λ m lawful. ap (λ (d : Held Tree). d.flags) c.set_flag.ensures.set ∙ (ap (λ s. with_setting s c.args.db.now.flags) (sym c.in-Some.is ∙ c.setting.ensures) ∙ set_by_number m lawful c.args.flag c.args.value c.args.db.now.flags)

pub returns-in-Some-clause-weighs : goal.returns-in-Some-clause-weighs
returns-in-Some-clause-weighs c = λ a. c.set_flag.ensures.weighs (naming a)

pub returns-in-None-clause-flags : goal.returns-in-None-clause-flags
returns-in-None-clause-flags c = λ m lawful. ap (λ s. with_setting s c.args.db.now.flags) (sym c.in-None.is ∙ c.setting.ensures) ∙ set_by_number m lawful c.args.flag c.args.value c.args.db.now.flags
