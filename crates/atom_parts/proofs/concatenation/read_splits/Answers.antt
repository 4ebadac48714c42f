use Rattle.std.proofs.Common.{subst, ◌∙◌}
use Rattle.atom_api.specs.Names.{Names}
use Rattle.world_builtins.specs.Spelling.{reads}
use Rattle.atom_parts.specs.Reading.{IsWanted}
use Rattle.atom_parts.proofs.ReadLaws.{splits_read}
use Rattle.atom_parts.proofs.concatenation.read_splits.Goals as goal

pub returns-clause-read : goal.returns-clause-read
returns-clause-read g c =
    let m = g.A.Atoms.held c.args.atoms.now in
    let s = c.args.store.now in
    let a = c.args in
    let first = c.in_ok-first.ensures in
    let second = c.in_ok-second.ensures in
    splits_read m s a.first a.second a.whole c.in_ok-text.text.items c.wanted_atom.new.text.items c.wanted_atom-2.new.text.items first.grows.0 second.grows.0 _
    c.in_ok-text.ensures.whole first.grows.1 second.grows.1 (c.len-length.ensures ∙ c.in_ok-text.text.ok.0)
    (subst (λ (n : Names). IsWanted (reads n s a.first) c.wanted_atom.new.text.items c.in_ok-first.first) c.whole_text.ensures.same first.wanted)
    (subst (λ (n : Names). IsWanted (reads n s a.second) c.wanted_atom-2.new.text.items c.in_ok-second.second) (first.same ∙ c.whole_text.ensures.same) second.wanted)
