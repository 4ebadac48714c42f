use Rattle.std.proofs.Common.{sym, ◌∙◌}
use Rattle.gen_core.proofs.SharedLaws.{lone_is}
use Rattle.gen_core.proofs.clause_index.ClauseIndex.lone.Goals as goal

pub returns-clause-lone : goal.returns-clause-lone
returns-clause-lone g c =
    lone_is g.C.Key.Ord.cmp g.C.Kept.any g.C.Kept.key_of c.args.self.now c.requires.sound c.args.shared.now c.requires.shared c.args.first.now c.requires.keyed
    (c.has_keys.ensures c.if-not-has_keys.false) c.last_number-number.result c.in-Some.entry.now (sym c.in-Some.ensures)
    (sym c.is_keyed.ensures ∙ c.if-not-is_keyed.false) (sym c.contains.ensures ∙ c.if-contains.false)
