use Rattle.script_api.proofs.EitherLaws.{first_gives, second_gives}
use Rattle.script_api.proofs.either.EitherScript.next.Goals as goal

pub returns-in-First-clause-given : goal.returns-in-First-clause-given
returns-in-First-clause-given g c =
    first_gives g.A.Script.execution g.B.Script.execution g.A.Script.part g.B.Script.part g.A.Term.Kept.term g.A.Script.plays g.B.Script.plays g.A.Script.kept g.B.Script.kept g.A.Script.name g.B.Script.name _ _ _ _ _ _ _ _ _ _ _ _ _ c.in-First.is c.next.ensures.given

pub returns-in-Second-clause-given : goal.returns-in-Second-clause-given
returns-in-Second-clause-given g c =
    second_gives g.A.Script.execution g.B.Script.execution g.A.Script.part g.B.Script.part g.A.Term.Kept.term g.A.Script.plays g.B.Script.plays g.A.Script.kept g.B.Script.kept g.A.Script.name g.B.Script.name _ _ _ _ _ _ _ _ _ _ _ _ _ c.in-Second.is c.next-in-Second.ensures.given
