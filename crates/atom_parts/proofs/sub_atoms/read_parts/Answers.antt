use Rattle.std.proofs.Common.{◌≡◌, length, subst, ◌∙◌}
use Rattle.atom_api.specs.Names.{Names}
use Rattle.world_builtins.specs.Spelling.{reads}
use Rattle.atom_parts.specs.Reading.{IsWanted}
use Rattle.atom_parts.proofs.ArgumentLaws.{sub_whole}
use Rattle.atom_parts.proofs.ReadLaws.{parts_read}
use Rattle.atom_parts.proofs.sub_atoms.read_parts.Goals as goal

pub whole_text-requires-clause-atom : goal.whole_text-requires-clause-atom
whole_text-requires-clause-atom g c =
    let m = g.A.Atoms.held c.args.atoms.now in
    let s = c.args.store.now in
    let a = c.args in
    sub_whole (reads m s a.whole) (reads m s a.before) (reads m s a.count) (reads m s a.after) (reads m s a.part) (c.requires.fits m)

pub returns-clause-read : goal.returns-clause-read
returns-clause-read g c =
    let m = g.A.Atoms.held c.args.atoms.now in
    let s = c.args.store.now in
    let a = c.args in
    let text = c.wanted_atom.new.text.items in
    let grown = c.in_ok-wanted.ensures.grows in
    let many : c.len-length.result ≡ length c.in_ok-text.text.items = c.len-length.ensures ∙ c.in_ok-text.text.ok.0 in
    parts_read m s a.whole a.before a.count a.after a.part c.in_ok-text.text.items text grown.0 _ c.in_ok-text.ensures.whole grown.1 many
    c.wanted_number.ensures c.wanted_number-2.ensures c.wanted_number-3.ensures
    (subst (λ (n : Names). IsWanted (reads n s a.part) text c.in_ok-wanted.wanted) c.whole_text.ensures.same c.in_ok-wanted.ensures.wanted)
