use Rattle.std.proofs.Common.{length, sym, ap, ◌∙◌}
use Rattle.pl_model.specs.Flags.{listed_flags}
use Rattle.pl_model.specs.Requests.{flags}
use Rattle.pl_model.specs.SharedState.{state_at}
use Rattle.atom_words.specs.Seats.{seen}
use Rattle.atom_table.specs.Naming.{names}
use Rattle.clause_db.specs.Flags.{flags_as}
use Rattle.hub_database.proofs.FlagRows.{flags_named, flags_say}
use Rattle.hub_database.proofs.Served.{flags_listed}
use Rattle.hub_database.proofs.flags.all_flags.Goals as goal

pub returns-in-Ok-clause-named : goal.returns-in-Ok-clause-named
returns-in-Ok-clause-named g c = flags_named (names (seen c.args.atoms.now.seat)) c.args.atoms.now.lawful.stand (listed_flags (flags_as c.flags.result)) c.in-Ok.values.items c.in-Ok.ensures

pub returns-in-Ok-clause-says : goal.returns-in-Ok-clause-says
returns-in-Ok-clause-says g c = λ k goals e h is. record {
  reply = flags (listed_flags (state_at goals h (length h)).flags);
  serves = flags_listed e (state_at goals h (length h)) (length h);
  says = ap flags (ap listed_flags (sym (c.flags.ensures ∙ is.flags)) ∙ sym (flags_say (names (seen c.args.atoms.now.seat)) c.args.atoms.now.lawful.stand (listed_flags (flags_as c.flags.result)) c.in-Ok.values.items c.in-Ok.ensures));
}
